-- What a slice holds after a text was written over its front.
use Rattle.std.specs.Prelude.{[], ◌∷◌, ◌++◌, ℕ, take, drop}
use Rattle.text.specs.Text.{Text}

-- The bytes with the text over their front, as far as they go.
unfoldable pub over : Text → Text → Text
over [] x = x
over (a ∷ s) [] = []
over (a ∷ s) (b ∷ x) = a ∷ over s x

-- The same from a place on.
unfoldable pub over_at : ℕ → Text → Text → Text
over_at at s x = take at x ++ over s (drop at x)

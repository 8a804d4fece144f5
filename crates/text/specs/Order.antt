-- "in byte order of its text" (C-16): bytes as unsigned numbers, a beginning before its continuation.
use Rattle.std.specs.Prelude.{[], ◌∷◌, Bool, true, false, ◌&&◌, ◌||◌, eqb, ltb}
use Rattle.text.specs.Text.{Text}

unfoldable pub smaller : Text → Text → Bool
smaller [] [] = false
smaller [] (b ∷ t) = true
smaller (a ∷ s) [] = false
smaller (a ∷ s) (b ∷ t) = let r = smaller s t in ltb a b || (eqb a b && r)

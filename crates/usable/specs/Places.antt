-- A walk over a language tag.
use Rattle.std.specs.Prelude.{[], ◌∷◌, Bool, true, false, ℕ, eqb}
use Rattle.text.specs.Text.{Text, cond}
use Rattle.token.specs.Regular.{in_ranges}
use Rattle.characters.specs.Bytes.{letter, letter_or_digit}
use Rattle.usable.specs.declared.tags.Place.{Place}
use Rattle.usable.specs.declared.tags.Place.TheVariants.{Start, Letters, Dash, Subtag, Off}

unfoldable pub dashed : ℕ → Place
dashed c = cond (eqb c 45) Dash Off

unfoldable pub next_place : Place → ℕ → Place
next_place Start c = cond (in_ranges c letter) Letters Off
next_place Letters c = cond (in_ranges c letter) Letters (dashed c)
next_place Dash c = cond (in_ranges c letter_or_digit) Subtag Off
next_place Subtag c = cond (in_ranges c letter_or_digit) Subtag (dashed c)
next_place Off c = Off

unfoldable pub ends : Place → Bool
ends Start = false
ends Letters = true
ends Dash = false
ends Subtag = true
ends Off = false

-- Does the text lead from a place to the end of a tag?
unfoldable pub walks : Place → Text → Bool
walks p [] = ends p
walks p (c ∷ s) = walks (next_place p c) s

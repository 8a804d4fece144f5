-- Lines and columns, computed.
use mathlib.Core.Path.{refl}
use mathlib.Core.List.{[], ◌∷◌, ◌++◌}
use Prim.Native.Nat.{ℕ}
use Rattle.text.specs.Text.{Text, ascii}
use Rattle.text.proofs.Table.{◌⇒◌, Gives}
use Rattle.documents.specs.declared.places.Place.{Place}
use Rattle.documents.specs.Places.{place, line_end, computing as places_computing}

-- A line end of two bytes, a tab, and a letter of two bytes.
lines : Text
lines = ascii "a\r\n\t" ++ 0xC3 ∷ 0x9F ∷ ascii " b\rc"

at_place : ℕ → ℕ → ℕ → Place
at_place line column start = record { line = line; column = column; start = start }

places : Gives (place lines) ((0 ⇒ at_place 1 1 0) ∷ (2 ⇒ at_place 1 3 0) ∷ (3 ⇒ at_place 2 1 3) ∷ (6 ⇒ at_place 2 3 3) ∷ (7 ⇒ at_place 2 4 3) ∷ (9 ⇒ at_place 3 1 9) ∷ [])
unfolding places_computing lines at_place
places = refl

line_ends : Gives (line_end lines) ((0 ⇒ 1) ∷ (3 ⇒ 8) ∷ (9 ⇒ 10) ∷ (10 ⇒ 10) ∷ [])
unfolding places_computing lines
line_ends = refl

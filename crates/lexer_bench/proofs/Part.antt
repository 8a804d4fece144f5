-- The length of the part of a text from a place on.
use mathlib.Core.Path.{◌≡◌, ap, ◌∙◌}
use Prim.Native.Nat.{ℕ, ◌-◌}
use lib.ListN.{length, take, drop, length-drop}
use Rattle.text.specs.Text.{Text}
use Rattle.utf8.proofs.Decoding.{tail_eq}

pub part_length : (s : Text) (i : ℕ) → length (take (length s - i) (drop i s)) ≡ length s - i
part_length s i = ap length (tail_eq s i) ∙ length-drop i s

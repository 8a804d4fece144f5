-- Numbers of four bytes in a byte slice.
use Rattle.std.specs.Prelude.{ℕ, ◌+◌, ◌*◌, ◌/◌, ◌%◌, set}
use Rattle.text.specs.Words.{four_at}
use Rattle.text.specs.Text.{Text}

unfoldable pub slot_at : Text → ℕ → ℕ
slot_at s i = four_at s (4 * i)

unfoldable pub put_slot : Text → ℕ → ℕ → Text
put_slot s i v =
    set (set (set (set s (4 * i) (v % 256)) (4 * i + 1) (v / 256 % 256)) (4 * i + 2) (v / 256 / 256 % 256)) (4 * i + 3) (v / 256 / 256 / 256 % 256)

-- Code points from 128 on, by what names may have of them: 2 for PN_CHARS_BASE, 1 for the others of PN_CHARS, 0 for the rest.
use Rattle.std.specs.Prelude.{List, [], ◌∷◌, ℕ, leb}
use Rattle.text.specs.Text.{cond}

-- The code points from the first to the last, and their level.
pub data Interval : Type 0 where
  interval : ℕ → ℕ → ℕ → Interval

unfoldable pub intervals : List Interval
intervals =
    interval 0x80 0xB6 0
    ∷ interval 0xB7 0xB7 1
    ∷ interval 0xB8 0xBF 0
    ∷ interval 0xC0 0xD6 2
    ∷ interval 0xD7 0xD7 0
    ∷ interval 0xD8 0xF6 2
    ∷ interval 0xF7 0xF7 0
    ∷ interval 0xF8 0x2FF 2
    ∷ interval 0x300 0x36F 1
    ∷ interval 0x370 0x37D 2
    ∷ interval 0x37E 0x37E 0
    ∷ interval 0x37F 0x1FFF 2
    ∷ interval 0x2000 0x200B 0
    ∷ interval 0x200C 0x200D 2
    ∷ interval 0x200E 0x203E 0
    ∷ interval 0x203F 0x2040 1
    ∷ interval 0x2041 0x206F 0
    ∷ interval 0x2070 0x218F 2
    ∷ interval 0x2190 0x2BFF 0
    ∷ interval 0x2C00 0x2FEF 2
    ∷ interval 0x2FF0 0x3000 0
    ∷ interval 0x3001 0xD7FF 2
    ∷ interval 0xD800 0xF8FF 0
    ∷ interval 0xF900 0xFDCF 2
    ∷ interval 0xFDD0 0xFDEF 0
    ∷ interval 0xFDF0 0xFFFD 2
    ∷ interval 0xFFFE 0xFFFF 0
    ∷ interval 0x10000 0xEFFFF 2
    ∷ interval 0xF0000 0x10FFFF 0
    ∷ []

abbrev pub find : List Interval → ℕ → Interval
find [] c = interval 0 0 0
find (interval lo hi k ∷ xs) c = let r = find xs c in cond (leb c hi) (interval lo hi k) r

abbrev pub level_in : Interval → ℕ
level_in (interval lo hi k) = k

unfoldable pub level : ℕ → ℕ
level c = level_in (find intervals c)

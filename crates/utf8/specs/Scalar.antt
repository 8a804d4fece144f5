-- Scalar values: code points that are no surrogates. UTF-8 is the encoding of these (RFC 3629, section 3).
use Rattle.std.specs.Prelude.{◌≡◌, ◌⊎◌, List, [], ◌∷◌, ℕ, ◌≤◌, ◌<◌}
use Rattle.text.specs.Text.{Text}
use Rattle.utf8.specs.Utf8.{encodes}

abbrev pub Scalar : ℕ → Type 0
Scalar c = (c < 0x110000) × ((c < 0xD800) ⊎ (0xDFFF < c))

abbrev pub Scalars : List ℕ → Type 0
Scalars [] = Unit {0}
Scalars (c ∷ cs) = Scalar c × Scalars cs

-- The text is the UTF-8 of these code points.
pub record Encodes (s : Text) (cs : List ℕ) : Type 0 where
  pub scalars : Scalars cs
  pub bytes : s ≡ encodes cs

-- Bytes from 128 on.
abbrev pub Highs : Text → Type 0
Highs [] = Unit {0}
Highs (b ∷ s) = (128 ≤ b) × Highs s

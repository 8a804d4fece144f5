-- The size of code points is the length of their encoding.
use mathlib.Core.Path.{◌≡◌, refl, ap₂, ◌∙◌}
use mathlib.Core.List.{List, [], ◌∷◌, ◌++◌}
use Prim.Native.Nat.{ℕ, ◌+◌}
use native.Mathlib.Omega.{arith}
use lib.ListN.{length, length-append}
use Rattle.utf8.specs.Utf8.{encode, encodes, width}
use Rattle.utf8.proofs.Encoding.{length_encode}
use Rattle.token.specs.Regular.{size}

pub length_encodes : (cs : List ℕ) → length (encodes cs) ≡ size width cs
unfolding encodes
length_encodes [] = refl
length_encodes (c ∷ cs) = length-append (encode c) (encodes cs) ∙ ap₂ ◌+◌ (length_encode c) (length_encodes cs)

pub size_append : (xs ys : List ℕ) → size width (xs ++ ys) ≡ size width xs + size width ys
size_append [] ys = omega arith
size_append (x ∷ xs) ys = let r = size_append xs ys in omega arith

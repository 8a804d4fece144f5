-- Hashes of a text, one for each multiplier: which they are does not matter to any answer. The first is the cheapest. The shift in
-- the others keeps texts that one of them does not tell apart from being alike under every other.
use Rattle.std.specs.Prelude.{[], ◌∷◌, ℕ, ◌+◌, ◌*◌, ◌/◌, ◌%◌, eqb}
use Rattle.text.specs.Text.{Text, cond}

abbrev pub first_multiplier : ℕ
first_multiplier = 16777619

abbrev pub most_multiplier : ℕ
most_multiplier = 33554432

unfoldable pub stir : ℕ → ℕ → ℕ → ℕ
stir m h n = cond (eqb m first_multiplier) ((h * m + n) % 4294967296) ((h * m + h / 32768 + n) % 4294967296)

-- Four numbers more, by the first multiplier.
unfoldable pub stir_4 : ℕ → ℕ → ℕ → ℕ → ℕ → ℕ
stir_4 h a b c d = stir first_multiplier (stir first_multiplier (stir first_multiplier (stir first_multiplier h a) b) c) d

unfoldable pub hash_from : ℕ → ℕ → Text → ℕ
hash_from m h [] = h
hash_from m h (b ∷ s) = hash_from m (stir m h (b % 256)) s

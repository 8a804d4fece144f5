-- The two quotes, with the kinds of their short and of their long strings.
use Rattle.std.specs.Prelude.{◌≡◌, ◌⊎◌, ℕ}
use Rattle.token.specs.Kind.{kind_code, STRING_LITERAL_QUOTE, STRING_LITERAL_SINGLE_QUOTE, STRING_LITERAL_LONG_QUOTE, STRING_LITERAL_LONG_SINGLE_QUOTE}

abbrev pub Short : ℕ → ℕ → Type 0
Short q k = ((q ≡ 34) × (k ≡ kind_code STRING_LITERAL_QUOTE)) ⊎ ((q ≡ 39) × (k ≡ kind_code STRING_LITERAL_SINGLE_QUOTE))

abbrev pub Long : ℕ → ℕ → Type 0
Long q k = ((q ≡ 34) × (k ≡ kind_code STRING_LITERAL_LONG_QUOTE)) ⊎ ((q ≡ 39) × (k ≡ kind_code STRING_LITERAL_LONG_SINGLE_QUOTE))

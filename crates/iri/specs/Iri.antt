-- Which references have a scheme, and which characters an IRIREF holds unescaped.
use Rattle.std.specs.Prelude.{[], ◌∷◌, Bool, false, not, ◌&&◌, ◌||◌, ℕ, leb, drop}
use Rattle.text.specs.Text.{Text, is, one_of, between, until, from}

abbrev pub letter : ℕ → Bool
letter c = between 65 90 c || between 97 122 c

abbrev pub scheme_byte : ℕ → Bool
scheme_byte c = letter c || between 48 57 c || one_of "+-." c

abbrev pub first_is : (ℕ → Bool) → Text → Bool
first_is p [] = false
first_is p (c ∷ s) = p c

-- "A reference with a scheme (letter, then letters, digits, + - . up to a colon)"; RFC 3986, 3.1
unfoldable pub has_scheme : Text → Bool
has_scheme s = first_is letter s && first_is (is ":") (from (λ c. not (scheme_byte c)) s)

-- The scheme, and what follows its colon.
unfoldable pub scheme : Text → Text
scheme s = until (is ":") s

unfoldable pub after_scheme : Text → Text
after_scheme s = drop 1 (from (is ":") s)

-- The characters that IRIREF forbids unescaped: [^#x00-#x20<>"{}|^`\]
abbrev pub forbidden : ℕ → Bool
forbidden c = leb c 0x20 || one_of "<>\"{}|^`\\" c

-- Runs of bytes: where the next byte stands that passes a test.
use Rattle.std.specs.Prelude.{◌≡◌, Bool, true, not, ◌&&◌, ◌||◌, ℕ, zero, suc, ◌+◌, length, get_or, drop, eqb, leb}
use Rattle.text.specs.Text.{Text, until}

-- Is c the byte q?
abbrev pub byte : ℕ → ℕ → Bool
byte q c = eqb c q

-- Is it one of four bytes?
abbrev pub four : ℕ → ℕ → ℕ → ℕ → ℕ → Bool
four a b x y c = (eqb c a || eqb c b) || (eqb c x || eqb c y)

-- Is it no ASCII character?
abbrev pub high : ℕ → Bool
high c = leb 128 c

-- Each answer that a call may give is the test's.
abbrev pub Answers : (ℕ → Bool → Type 0) → (ℕ → Bool) → Type 0
Answers post p = (c : ℕ) (r : Bool) → post c r → r ≡ p c

-- Do none of the n bytes from a place on pass the test?
abbrev pub free : (ℕ → Bool) → Text → ℕ → ℕ → Bool
free p s at zero = true
free p s at (suc n) = free p s at n && not (p (get_or s (at + n) 0))

-- The place of the first byte from a place on that passes the test, or the end.
unfoldable pub next_at : (ℕ → Bool) → Text → ℕ → ℕ
next_at p s at = at + length (until p (drop at s))

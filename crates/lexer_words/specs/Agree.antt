-- Words of the terminals beside a text.
use Rattle.std.specs.Prelude.{◌≡◌, Option, Some, None, false, ◌||◌, [], ◌∷◌, ℕ, zero, suc, ◌+◌, ◌≤◌, ◌<◌, eqb, length, get_or, drop}
use Rattle.text.specs.Text.{Text, cond}
use Rattle.token.specs.Regular.{in_ranges}
use Rattle.automaton.specs.declared.Token.{Token}
use Rattle.automaton.specs.States.{State, in_tag}
use Rattle.automaton.specs.Run.{tok, At}
use Rattle.characters.specs.Bytes.{letter}

-- How many bytes agree with one of two words.
unfoldable pub agreeing : Text → Text → Text → ℕ
agreeing [] low up = 0
agreeing (b ∷ s) [] up = 0
agreeing (b ∷ s) (x ∷ low) [] = 0
agreeing (b ∷ s) (x ∷ low) (y ∷ up) = let r = suc (agreeing s low up) in cond (eqb b x || eqb b y) r 0

-- The token of a kind that ends here; none of the kind 0.
abbrev pub end_at : ℕ → ℕ → Option Token
end_at zero n = None
end_at (suc k) n = Some (tok (suc k) n)

-- Where m bytes of a word have been read from i on, the automaton does as in q; the whole word is a token of the kind k, a part one of the kind j.
pub record WordAt (s : Text) (i m size : ℕ) (q : State) (k j : ℕ) : Type 0 where
  pub short : m ≤ size
  pub whole : m ≡ size → At s q (i + m) (Some (tok k (i + m)))
  pub part : (m ≡ size → ⊥) → At s q (i + m) (end_at j (i + m))

-- The text at i may agree with a word, from its first letter on.
pub record Word (s : Text) (i : ℕ) (low up : Text) (q : State) (k j : ℕ) : Type 0 where
  pub from : i ≤ length s
  pub read : (m : ℕ) → m ≡ agreeing (drop i s) low up → WordAt s i m (length low) q k j

-- After the letters of a language tag, of which no more follow.
pub record TagAt (s : Text) (i k : ℕ) : Type 0 where
  pub at : At s in_tag i (Some (tok k i))
  pub end : i < length s → in_ranges (get_or s i 0) letter ≡ false

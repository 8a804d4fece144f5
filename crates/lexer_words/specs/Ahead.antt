-- What is known of the text ahead: how far no prefixed name begins, but for one that begins with its colon.
use Rattle.std.specs.Prelude.{◌≡◌, Option, Some, None, Bool, true, false, not, ◌||◌, List, [], ◌∷◌, ◌++◌, ℕ, ◌-◌, ◌≤◌, ◌<◌, T, eqb, length, drop}
use Rattle.std.proofs.Math.Option.{none}
use Rattle.text.specs.Text.{Text, is}
use Rattle.utf8.specs.Utf8.{width, decode, first_bad}
use Rattle.token.specs.Kind.{kind_code, PNAME_NS, PNAME_LN}
use Rattle.token.specs.Regular.{Match, nothing, hit, size}
use Rattle.token.specs.Terminals.{token_at}
use Rattle.automaton.specs.Run.{tok, answer, len_of, Front}
use Rattle.automaton.specs.declared.Token.{Token}
use Rattle.automaton.specs.declared.Next.{Next}

abbrev pub prefixed : ℕ → Bool
prefixed k = eqb k (kind_code PNAME_NS) || eqb k (kind_code PNAME_LN)

-- The match is no prefixed name.
abbrev pub nameless : Match → Bool
nameless nothing = true
nameless (hit k n) = not (prefixed k)

abbrev pub colon_first : List ℕ → Bool
colon_first [] = false
colon_first (c ∷ cs) = is ":" c

-- No prefixed name begins within the first n bytes, but at a colon.
pub record Clear (s : Text) (n : ℕ) : Type 0 where
  pub free : first_bad s ≡ none → (ds es : List ℕ) → decode s ≡ ds ++ es → size width ds < n → T (colon_first es || nameless (token_at es))

abbrev pub next : Token → ℕ → Next
next t clear = record { token = t; clear = clear }

-- The token of an answer, and how far no prefixed name begins after it.
abbrev pub token_in : Option Next → Option Token
token_in None = None
token_in (Some n) = Some n.token

abbrev pub clear_in : Option Next → ℕ
clear_in None = 0
clear_in (Some n) = n.clear

-- The token at the front of s, where its first `clear` bytes begin no prefixed name, and how far none begins in what follows.
-- Where nothing is known ahead, also the token before a bad sequence, as `TokenAt` has it; `Clear` says nothing of such a text.
pub record NextAt (s : Text) (clear : ℕ) (r : Option Next) : Type 0 where
  pub within : len_of (token_in r) ≤ length s
  pub right : first_bad s ≡ none → Clear s clear → token_in r ≡ answer (token_at (decode s))
  pub ahead : first_bad s ≡ none → Clear s clear → Clear (drop (len_of (token_in r)) s) (clear_in r)
  pub front : clear ≡ 0 → (cs : List ℕ) (z : Text) → Front s cs z → len_of (token_in r) < size width cs → token_in r ≡ answer (token_at cs)

-- The token of this length, where it is of a kind.
abbrev pub word_of : Option ℕ → ℕ → Option Token
word_of None n = None
word_of (Some k) n = Some (tok k n)

-- Such a token, which ends at `at`, where no name begins from there to i.
abbrev pub settled : Option ℕ → ℕ → ℕ → Option Next
settled None at i = None
settled (Some k) at i = Some (next (tok k at) (i - at))

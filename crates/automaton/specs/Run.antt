-- A run of the automaton over a text: the state that it is in at a place, with the last token seen before it.
use Rattle.std.specs.Prelude.{◌≡◌, ◌⊎◌, Option, Some, None, List, [], ◌∷◌, ◌++◌, ℕ, ◌+◌, ◌≤◌, ◌<◌, length, drop}
use Rattle.text.specs.Text.{Text}
use Rattle.utf8.specs.Utf8.{width, encodes, sequence_size}
use Rattle.utf8.specs.Scalar.{Scalars, Encodes, Highs}
use Rattle.token.specs.Regular.{Match, nothing, hit, step, now_at, size}
use Rattle.token.specs.Terminals.{token_at}
use Rattle.automaton.specs.States.{State}
use Rattle.automaton.specs.declared.Token.{Token}

abbrev pub tok : ℕ → ℕ → Token
tok k n = record { kind = k; len = n }

-- A match as a token.
abbrev pub answer : Match → Option Token
answer nothing = None
answer (hit k n) = Some (tok k n)

-- No token has no bytes.
abbrev pub len_of : Option Token → ℕ
len_of None = 0
len_of (Some t) = t.len

-- The last token seen, where at the place i this one ends.
abbrev pub see : Match → ℕ → Option Token → Option Token
see nothing i seen = seen
see (hit k n) i seen = Some (tok k i)

-- The last token seen at the end of the run from the place i on.
abbrev pub run : State → ℕ → Option Token → List ℕ → Option Token
run q i seen [] = seen
run q i seen (c ∷ cs) = run (step c q) (i + width c) (see (now_at (step c q)) (i + width c) seen) cs

-- The text begins with the UTF-8 of these code points, and goes on with z, at whose front no sequence of UTF-8 stands: z is empty, or bad.
pub record Front (s : Text) (cs : List ℕ) (z : Text) : Type 0 where
  pub scalars : Scalars cs
  pub bytes : s ≡ encodes cs ++ z
  pub bad : sequence_size z ≡ 0

-- The code points that are left at the place i, and that the run over them gives the token of all.
pub record Rest (s : Text) (q : State) (i : ℕ) (seen : Option Token) (cs : List ℕ) (z : Text) : Type 0 where
  pub ds : List ℕ
  pub left : Front (drop i s) ds z
  pub same : run q i seen ds ≡ answer (token_at cs)

-- The place i is behind the code points. If the last token seen ends before their end, it was seen before, and is theirs.
pub record Past (i : ℕ) (seen : Option Token) (cs : List ℕ) : Type 0 where
  pub behind : size width cs < i
  pub kept : len_of seen < size width cs → seen ≡ answer (token_at cs)

-- At the byte i of s, between two code points, the automaton is in the state q; this is the last token seen.
pub record At (s : Text) (q : State) (i : ℕ) (seen : Option Token) : Type 0 where
  pub within : i ≤ length s
  pub last : len_of seen ≤ i
  pub rest : (cs : List ℕ) (z : Text) → Front s cs z → Rest s q i seen cs z ⊎ Past i seen cs

pub record Inner (s : Text) (q : State) (i : ℕ) (seen : Option Token) (cs : List ℕ) (z : Text) : Type 0 where
  pub mid : Text
  pub high : Highs mid
  pub ds : List ℕ
  pub scalars : Scalars ds
  pub bytes : drop i s ≡ mid ++ (encodes ds ++ z)
  pub same : run q (i + length mid) seen ds ≡ answer (token_at cs)

-- The same, where the byte i may stand within a code point that was counted already.
pub record In (s : Text) (q : State) (i : ℕ) (seen : Option Token) : Type 0 where
  pub within : i ≤ length s
  pub last : len_of seen ≤ i
  pub rest : (cs : List ℕ) (z : Text) → Front s cs z → Inner s q i seen cs z ⊎ Past i seen cs

-- The token at the front of s: within s; of UTF-8, what the terminals say; and before a bad sequence, where the token
-- and the byte behind it are UTF-8, what they say of the text before that sequence.
pub record TokenAt (s : Text) (r : Option Token) : Type 0 where
  pub within : len_of r ≤ length s
  pub right : (cs : List ℕ) → Encodes s cs → r ≡ answer (token_at cs)
  pub front : (cs : List ℕ) (z : Text) → Front s cs z → len_of r < size width cs → r ≡ answer (token_at cs)

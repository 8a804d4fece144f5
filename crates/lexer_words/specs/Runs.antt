-- Runs of PN_CHARS and dots.
use Rattle.std.specs.Prelude.{◌≡◌, ◌⊎◌, Bool, true, false, ◌||◌, List, [], ◌∷◌, ◌++◌, ℕ, ◌+◌, ◌≤◌, ◌<◌, eqb, length, drop}
use Rattle.text.specs.Text.{Text}
use Rattle.utf8.specs.Utf8.{encode, width}
use Rattle.utf8.specs.Scalar.{Scalar}
use Rattle.token.specs.Regular.{size}
use Rattle.automaton.specs.Run.{Front}
use Rattle.characters.specs.Bytes.{name}
use Rattle.characters.specs.Names.{passes, inner}

abbrev pub in_run : ℕ → Bool
in_run c = passes name inner c || eqb c 46

abbrev pub All_run : List ℕ → Type 0
All_run [] = Unit {0}
All_run (c ∷ cs) = (in_run c ≡ true) × All_run cs

-- Of the code points from at on, those up to i are a run, and these are left.
pub record Scan (s : Text) (at i : ℕ) (cs : List ℕ) (z : Text) : Type 0 where
  pub xs : List ℕ
  pub ys : List ℕ
  pub whole : cs ≡ xs ++ ys
  pub sized : at + size width xs ≡ i
  pub left : Front (drop i s) ys z
  pub run : All_run xs

-- All of them are, and i is behind them.
pub record Beyond (at i : ℕ) (cs : List ℕ) : Type 0 where
  pub behind : at + size width cs < i
  pub run : All_run cs

-- The bytes from at to i are a run; of what follows, nothing is said.
pub record Scanned (s : Text) (at i : ℕ) : Type 0 where
  pub from : at ≤ i
  pub within : i ≤ length s
  pub over : (cs : List ℕ) (z : Text) → Front (drop at s) cs z → Scan s at i cs z ⊎ Beyond at i cs

-- The run from at on ends at i: no code point of a run stands there.
pub record RunAt (s : Text) (at i : ℕ) : Type 0 where
  pub scanned : Scanned s at i
  pub stop : (c : ℕ) (t : Text) → Scalar c → drop i s ≡ encode c ++ t → in_run c ≡ false

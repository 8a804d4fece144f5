-- What an index in lent words holds: ours, and of no meaning to any answer.
use Rattle.std.specs.Prelude.{◌≡◌, List, Bool, true, ◌||◌, ℕ, zero, suc, ◌+◌, ◌*◌, ◌-◌, ◌%◌, ◌≤◌, ◌<◌, eqb, ltb, length, get_or, set, Option, Some, None}
use Rattle.text.specs.Text.{cond}

-- The greatest number below n that passes the test, plus one; 0 where there is none.
unfoldable pub latest : (ℕ → Bool) → ℕ → ℕ
latest t zero = 0
latest t (suc n) = let r = latest t n in cond (t n) (suc n) r

-- How many heads there are, beside a link and a key for each of n numbers; a number that a word does not hold has no link.
unfoldable pub heads : ℕ → ℕ → ℕ
heads size n = cond (ltb n 4294967296) (size - 2 * n) 0

-- A number is in the chain of a key: without heads all are.
unfoldable pub near : ℕ → (ℕ → ℕ) → ℕ → ℕ → Bool
near b f x j = cond (eqb b 0) true (eqb (f j % b) (x % b))

abbrev pub key_at : List ℕ → ℕ → ℕ → ℕ
key_at words n j = get_or words (heads (length words) n + n + j) 0

abbrev pub word_at : List ℕ → ℕ → ℕ → ℕ → ℕ
word_at words from step j = get_or words (from + step * j) 0

abbrev pub has_word : List ℕ → ℕ → ℕ → ℕ → ℕ → Bool
has_word words from step x j = eqb (word_at words from step j) x

-- So many words hold the first m of n numbers in b chains, by the keys f.
pub record Linked (words : List ℕ) (b n : ℕ) (f : ℕ → ℕ) (m : ℕ) : Type 0 where
  pub first : (x : ℕ) → get_or words (x % b) 0 ≡ latest (near b f x) m
  pub links : (j : ℕ) → j < m → get_or words (b + j) 0 ≡ latest (near b f (f j)) j
  pub keys : (j : ℕ) → j < n → get_or words (b + n + j) 0 ≡ f j

-- All of them, where there are heads.
unfoldable pub Chained : List ℕ → ℕ → (ℕ → ℕ) → Type 0
Chained words n f = (heads (length words) n ≡ 0 → ⊥) → Linked words (heads (length words) n) n f n

-- A place in the chain of a key: 0, or a number of the chain, plus one.
abbrev pub OnChain : List ℕ → ℕ → (ℕ → ℕ) → ℕ → ℕ → Type 0
OnChain words n f x p = latest (near (heads (length words) n) f x) p ≡ p

-- ---- What the routines answer, by whatever keys the words are linked

-- The number that was found, plus one; 0 where none was.
abbrev pub behind : Option ℕ → ℕ
behind None = 0
behind (Some j) = suc j

-- The greatest number in the chain of a key.
abbrev pub First : List ℕ → ℕ → ℕ → Option ℕ → Type 0
First words n x r = (f : ℕ → ℕ) → Chained words n f → behind r ≡ latest (near (heads (length words) n) f x) n

-- The next smaller one in the chain of the number j.
abbrev pub Before : List ℕ → ℕ → ℕ → Option ℕ → Type 0
Before words n j r = (f : ℕ → ℕ) → Chained words n f → behind r ≡ latest (near (heads (length words) n) f (f j)) j

-- The key of a number, where there are heads; and whether a number may have a key.
abbrev pub KeyOf : List ℕ → ℕ → ℕ → Option ℕ → Type 0
KeyOf words n j r = (f : ℕ → ℕ) → Chained words n f → r ≡ cond (eqb (heads (length words) n) 0) None (Some (f j))

abbrev pub MayHave : List ℕ → ℕ → ℕ → ℕ → Bool → Type 0
MayHave words n j x r = (f : ℕ → ℕ) → Chained words n f → r ≡ (eqb (heads (length words) n) 0 || eqb (f j) x)

-- Each number is linked to a smaller one.
abbrev pub Falling : List ℕ → ℕ → Type 0
Falling words n = (j : ℕ) → j < n → (heads (length words) n ≡ 0 → ⊥) → get_or words (heads (length words) n + j) 0 ≤ j

-- The keys of the numbers below n may be asked for, and words hold them.
abbrev pub MayLink : (ℕ → Type 0) → (ℕ → ℕ → Type 0) → ℕ → Type 0
MayLink pre post n = (j : ℕ) → j < n → pre j × ((k : ℕ) → post j k → k < 4294967296)

-- The words from which the numbers below n are linked stand in a slice.
abbrev pub WordsIn : List ℕ → ℕ → ℕ → ℕ → Type 0
WordsIn words from step n = (j : ℕ) → j < n → from + step * j < length words

-- The first words are zero, the others as they were.
pub record Cleared (old new : List ℕ) (count : ℕ) : Type 0 where
  pub size : length new ≡ length old
  pub zeros : (i : ℕ) → i < count → get_or new i 0 ≡ 0
  pub rest : (i : ℕ) → count ≤ i → get_or new i 0 ≡ get_or old i 0

-- The first m keys are written, each as P says, and nothing else.
pub record Keyed (old new : List ℕ) (at : ℕ) (P : ℕ → ℕ → Type 0) (m : ℕ) : Type 0 where
  pub size : length new ≡ length old
  pub keys : (j : ℕ) → j < m → P j (get_or new (at + j) 0)

unfoldable pub linked_one : List ℕ → ℕ → ℕ → ℕ → List ℕ
linked_one words b n j = let h = get_or words (b + n + j) 0 % b in set (set words (b + j) (get_or words h 0)) h (suc j)

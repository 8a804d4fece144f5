-- How the work slice and the array of lengths hold what is in force.
use Rattle.std.specs.Prelude.{Option, Some, None, Result, Ok, Err, is_ok, List, [], ◌∷◌, ◌≡◌, Bool, false, not, ◌&&◌, ◌||◌, ℕ, zero, suc, ◌+◌, ◌*◌, ◌≤◌, min, leb, ltb, length, take, drop, get_or, set}
use Rattle.std.proofs.Math.Option.{none, some}
use Rattle.limits.specs.Limits.{iri_limit, prefix_limit, prefixes_limit, work_size}
use Rattle.text.specs.Text.{Text, cond, same_text}
use Rattle.text.specs.Slice.{over_at}
use Rattle.environment.specs.Environment.{Binding, Environment, lookup, declare, set_base}
use Rattle.environment.specs.declared.DeclareError.{DeclareError}
use Rattle.environment.specs.declared.DeclareError.TheVariants.{TooLong, TooMany}
use Rattle.environment.specs.declared.BaseTooLong.{BaseTooLong}

-- The first n bytes of a cell, which begins at a place and has so many bytes.
unfoldable pub cell : Text → ℕ → ℕ → ℕ → Text
cell work start size n = take (min n size) (drop start work)

-- "32 prefixes of 64 + 1,024 bytes, and a base of 1,024"
abbrev pub cell_size : ℕ
cell_size = prefix_limit + iri_limit

abbrev pub base_place : ℕ
base_place = prefixes_limit * cell_size

-- The array has the prefixes' lengths, the namespaces', the count and the base's length; so many words behind them are the caller's own.
abbrev pub count_word : ℕ
count_word = prefixes_limit + prefixes_limit

abbrev pub base_word : ℕ
base_word = suc count_word

abbrev pub own_word : ℕ
own_word = suc base_word

abbrev pub own_words : ℕ
own_words = 178

abbrev pub words_size : ℕ
words_size = own_word + own_words

unfoldable pub binding : Text → List ℕ → ℕ → Binding
binding work lens i = record {
  prefix = cell work (i * cell_size) prefix_limit (get_or lens i 0);
  namespace = cell work (i * cell_size + prefix_limit) iri_limit (get_or lens (prefixes_limit + i) 0);
}

-- n bindings from the k-th on.
unfoldable pub listed : (ℕ → Binding) → ℕ → ℕ → List Binding
listed f k zero = []
listed f k (suc n) = f k ∷ listed f (suc k) n

abbrev pub count : List ℕ → ℕ
count lens = min (get_or lens count_word 0) prefixes_limit

unfoldable pub base_cell : Text → List ℕ → Text
base_cell work lens = cell work base_place iri_limit (get_or lens base_word 0)

-- What the work slice and the array hold.
unfoldable pub environment_in : Text → List ℕ → Environment
environment_in work lens = record { namespaces = listed (binding work lens) 0 (count lens); base = base_cell work lens }

-- The place of a prefix among the bindings, their number where it has none.
unfoldable pub place : Text → List Binding → ℕ
place p [] = 0
place p (b ∷ bs) = let r = suc (place p bs) in cond (same_text p b.prefix) 0 r

-- Its place, where it has one.
abbrev pub PlacedAt : Text → List Binding → Option ℕ → Type 0
PlacedAt p bs None = place p bs ≡ length bs
PlacedAt p bs (Some i) = place p bs ≡ i

-- The namespace that was found stands in the work slice.
unfoldable pub FoundIn : Text → Environment → Text → Option (ℕ × ℕ) → Type 0
FoundIn p e work None = lookup p e.namespaces ≡ none
FoundIn p e work (Some (start, n)) = (lookup p e.namespaces ≡ some (take n (drop start work))) × ((start + n ≤ work_size) × (n ≤ iri_limit))

-- A work slice and an array that can hold all this; the caller's are.
pub record Usable (work : Text) (lens : List ℕ) : Type 0 where
  pub room : work_size ≤ length work
  pub words : length lens ≡ words_size

-- A prefix and its namespace have gone into the i-th cell.
pub record WroteBinding (work work' : Text) (lens lens' : List ℕ) (i : ℕ) (p ns : Text) : Type 0 where
  pub texts : work' ≡ over_at (i * cell_size + prefix_limit) ns (over_at (i * cell_size) p work)
  pub lengths : lens' ≡ set (set lens i (length p)) (prefixes_limit + i) (length ns)

unfoldable pub is_declared : Text → List Binding → Bool
is_declared p [] = false
is_declared p (b ∷ bs) = let r = is_declared p bs in same_text p b.prefix || r

-- "IRI over 1,024 bytes ..; declared prefix over 64"; "a 33rd distinct prefix"
unfoldable pub declare_answer : Environment → Text → Text → Result (Unit {0}) DeclareError
declare_answer e p ns =
    cond (ltb prefix_limit (length p) || ltb iri_limit (length ns)) (Err TooLong)
    (cond (not (is_declared p e.namespaces) && leb prefixes_limit (length e.namespaces)) (Err TooMany) (Ok tt))

unfoldable pub after_declare : Result (Unit {0}) DeclareError → Environment → Text → Text → Environment
after_declare (Ok u) e p ns = declare p ns e
after_declare (Err r) e p ns = e

-- The caller's words, and what lies in the work slice behind the environment, are left alone.
pub record Beside (work work' : Text) (lens lens' : List ℕ) : Type 0 where
  pub own : (k : ℕ) → own_word ≤ k → get_or lens' k 0 ≡ get_or lens k 0
  pub behind : drop work_size work' ≡ drop work_size work
  pub long : length work' ≡ length work

-- What a declaration answers and leaves.
pub record Declares (work work' : Text) (lens lens' : List ℕ) (p ns : Text) (r : Result (Unit {0}) DeclareError) : Type 0 where
  pub answer : r ≡ declare_answer (environment_in work lens) p ns
  pub after : environment_in work' lens' ≡ after_declare r (environment_in work lens) p ns
  pub usable : Usable work' lens'
  pub beside : Beside work work' lens lens'

-- What setting the base answers and leaves.
pub record SetsBase (work work' : Text) (lens lens' : List ℕ) (iri : Text) (r : Result (Unit {0}) BaseTooLong) : Type 0 where
  pub answer : is_ok r ≡ leb (length iri) iri_limit
  pub after : environment_in work' lens' ≡ cond (is_ok r) (set_base iri (environment_in work lens)) (environment_in work lens)
  pub usable : Usable work' lens'
  pub beside : Beside work work' lens lens'

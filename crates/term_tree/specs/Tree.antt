-- An index of terms by trees. A number is an index plus 1; 0 is none. There are m buckets, each with a slot for the first number
-- in it, and for each term two slots, for the numbers that come next at either turn.
use Rattle.std.specs.Prelude.{◌≡◌, List, [], ◌∷◌, ◌++◌, Bool, true, false, ℕ, zero, suc, ◌+◌, ◌*◌, ◌-◌, ◌/◌, ◌%◌, ◌≤◌, ◌<◌, ltb, length, get_or}
use Rattle.text.specs.Text.{Text, cond}
use Rattle.dataset.specs.Terms.{Term, iri}
use Rattle.table.specs.Tables.{text_of, tag_of}
use Rattle.terms.specs.Keeps.{findable, Typed}
use Rattle.term_tree.specs.Slots.{slot_at}
use Rattle.term_tree.specs.Keys.{key_at, turn_at, type_in}

abbrev pub child : ℕ → ℕ → ℕ → ℕ
child m c t = m + (2 * c + t)

-- From the slot s on, d levels down, these turns lead in n steps past other terms to the slot e.
unfoldable pub Leads : ℕ → (ℕ → ℕ) → (ℕ → ℕ) → ℕ → ℕ → ℕ → ℕ → Type 0
Leads m slot turn zero s d e = s ≡ e
Leads m slot turn (suc n) s d e = (c : ℕ) × ((slot s ≡ suc c) × Leads m slot turn n (child m c (turn d)) (suc d) e)

-- They lead to the number of the term i.
abbrev pub Reaches : ℕ → (ℕ → ℕ) → (ℕ → ℕ) → ℕ → ℕ → ℕ → Type 0
Reaches m slot turn s d i = (n : ℕ) × ((e : ℕ) × (Leads m slot turn n s d e × (slot e ≡ suc i)))

-- Each of the first `count` terms that has a bucket is reached from there by its own turns. Numbers rise on the way.
pub record Grown (m : ℕ) (bucket : ℕ → ℕ) (turn : ℕ → ℕ → ℕ) (slot : ℕ → ℕ) (count : ℕ) : Type 0 where
  pub reached : (i : ℕ) → i < count → bucket i < m → Reaches m slot (turn i) (bucket i) 0 i
  pub within : (s : ℕ) → s < 3 * m → slot s ≤ count
  pub deeper : (c t : ℕ) → c < m → t < 2 → 0 < slot (child m c t) → suc c < slot (child m c t)

-- A slice has as many buckets as terms that it can index: for each three slots of four bytes.
abbrev pub buckets : Text → ℕ
buckets x = length x / 12

abbrev pub least : ℕ → ℕ → ℕ
least a b = cond (ltb a b) a b

-- A term that no token names again has no bucket.
abbrev pub bucket_in : ℕ → List Term → Term → ℕ
bucket_in m ts t = cond (findable t) (key_at 0 (text_of t) (tag_of t) (type_in ts t) % m) m

abbrev pub turn_in : List Term → Term → ℕ → ℕ
turn_in ts t d = turn_at (text_of t) (tag_of t) (type_in ts t) d

-- The slice is an index of the terms ts with m buckets; with as many as it has room for.
abbrev pub Trees : ℕ → List Term → Text → Type 0
Trees m ts x = Grown m (λ i. bucket_in m ts (get_or ts i (iri []))) (λ i. turn_in ts (get_or ts i (iri []))) (slot_at x) (least (length ts) m)

unfoldable pub Indexed : List Term → Text → Type 0
Indexed ts x = Trees (buckets x) ts x

-- What of this the code needs to be safe.
pub record Linked (x : Text) (count : ℕ) : Type 0 where
  pub within : (s : ℕ) → s < 3 * buckets x → slot_at x s ≤ least count (buckets x)
  pub deeper : (c t : ℕ) → c < buckets x → t < 2 → 0 < slot_at x (child (buckets x) c t) → suc c < slot_at x (child (buckets x) c t)

-- What following a tree answers: a number that passes the test, or 0 where none does.
pub record Followed (p : ℕ → Bool) (count r : ℕ) : Type 0 where
  pub within : r ≤ count
  pub found : 0 < r → p (r - 1) ≡ true
  pub absent : r ≡ 0 → (i : ℕ) → i < count → p i ≡ false

abbrev pub Follows : Text → ℕ → (ℕ → ℕ) → ℕ → (ℕ → Bool) → ℕ → Type 0
Follows x b way count p r = (bucket : ℕ → ℕ) (turn : ℕ → ℕ → ℕ) → Grown (buckets x) bucket turn (slot_at x) count
    → ((i : ℕ) → i < count → p i ≡ true → (bucket i ≡ b) × ((d : ℕ) → turn i d ≡ way d)) → Followed p count r

-- The slot s is where the term with this text, tag and datatype would stand: its own turns lead there, and it is empty.
abbrev pub Vacant : Text → Text → Text → ℕ → ℕ → Type 0
Vacant x t g n s = 0 < buckets x
    → (k : ℕ) × (Leads (buckets x) (slot_at x) (turn_at t g n) k (key_at 0 t g n % buckets x) 0 s × (slot_at x s ≡ 0))

abbrev pub InSlots : Text → ℕ → Type 0
InSlots x s = 0 < buckets x → s < 3 * buckets x

-- What putting the next term there leaves.
abbrev pub Links : Text → Text → ℕ → ℕ → Type 0
Links x x' count s = (ts : List Term) (t : Term) → Indexed ts x → ((i : ℕ) → i < length ts → Typed ts (get_or ts i (iri []))) → length ts ≡ count → Typed ts t
    → findable t ≡ true → Vacant x (text_of t) (tag_of t) (type_in ts t) s → Indexed (ts ++ t ∷ []) x'

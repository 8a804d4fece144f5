-- What the routines compute on the way, and what they ask of tables and of the index.
use Rattle.std.specs.Prelude.{◌≡◌, Bool, not, ◌&&◌, ◌||◌, List, [], ◌∷◌, ℕ, ◌+◌, ◌-◌, ◌%◌, ◌≤◌, eqb, ltb, length, Option as StdOption, Some, None, Result, Ok, Err}
use Rattle.std.proofs.Math.Option.{Option, none, some}
use Rattle.text.specs.Text.{Text, cond}
use Rattle.dataset.specs.Terms.{Term, Quad}
use Rattle.spelling.specs.Hash.{first_multiplier, stir, hash_from}
use Rattle.limits.specs.declared.Refusal.{Refusal}
use Rattle.limits.specs.declared.Refusal.TheVariants.{Tables, Pairing}
use Rattle.table.specs.Layout.{Slices, blank_kind, literal_kind, tagged_kind, word_limit}
use Rattle.table.specs.Tables.{text_of}
use Rattle.table.specs.Usable.{for_long_form, the, text, tag, has_kind, usable}
use Rattle.table.specs.declared.Tables as lent
use Rattle.usable.specs.Lent.{slices, slices_of, Stands, SoundRows}
use Rattle.chains.specs.Chains.{heads, Chained, OnChain}
use Rattle.comparison.specs.Comparison.{paired, node, alike_quad, carries, statement, lefts, rights, legal, Comparison, refused, told}
use Rattle.comparison.specs.Partners.{partner, Matched}
use Rattle.comparison.specs.declared.Parts.{Parts}
use Rattle.comparison.specs.declared.edition.Edition.{Edition}
use Rattle.comparison.specs.declared.edition.Edition.TheVariants.{Left, Right}
use Rattle.comparison.specs.declared.edition.Side.{Side}

-- ---- Editions

abbrev pub opposite : Edition → Edition
opposite Left = Right
opposite Right = Left

-- The tables of a side.
abbrev pub tables_of : Side → Slices
tables_of s = slices_of s.tables

-- Tables with so many terms.
abbrev pub with_terms : lent.Tables → ℕ → Slices
with_terms t count = slices t.rows.now t.row_count t.terms.now count t.store.now t.store_count

-- ---- Blank nodes

abbrev pub is_node : Slices → ℕ → ℕ → Bool
is_node s n k = has_kind s blank_kind k && eqb (the s k).fourth n

-- Which blank numbers of two editions stand for one node.
abbrev pub nodes : Edition → Edition → List ℕ → ℕ → ℕ → Bool
nodes Left Left p m n = eqb m n
nodes Right Right p m n = eqb m n
nodes Left Right p m n = paired p m n
nodes Right Left p m n = paired p n m

-- ---- Terms

-- The datatype's text, or the tag.
abbrev pub more : Slices → ℕ → Text
more s n = cond (has_kind s literal_kind n) (text s (the s n).fourth) (cond (has_kind s tagged_kind n) (tag s n) [])

abbrev pub Tagged : Slices → ℕ → Type 0
Tagged s n = Stands s.terms n × ((the s n).fourth + (the s n).fifth ≤ length s.store)

-- ---- Keys: which they are does not matter, but that statements which are alike have one

unfoldable pub number_key : Edition → List ℕ → ℕ → ℕ
number_key Left p m = cond (eqb (partner p m) 0) (m + 1) (partner p m) % word_limit
number_key Right p m = (m + 1) % word_limit

abbrev pub key_by : (ℕ → ℕ) → ℕ → Option ℕ → ℕ
key_by k h none = h
key_by k h (some m) = k m

unfoldable pub term_key : (ℕ → ℕ) → Term → ℕ
term_key k t = key_by k (hash_from first_multiplier 0 (text_of t)) (node t)

abbrev pub graph_key : (ℕ → ℕ) → Option Term → ℕ
graph_key k none = 0
graph_key k (some t) = term_key k t

unfoldable pub quad_key : (ℕ → ℕ) → Quad → ℕ
quad_key k q =
    stir first_multiplier
    (stir first_multiplier (stir first_multiplier (graph_key k q.graph) (term_key k q.triple.subject)) (term_key k q.triple.predicate))
    (term_key k q.triple.object)

abbrev pub row_key : Edition → List ℕ → Slices → ℕ → ℕ
row_key e p s i = quad_key (number_key e p) (statement s i)

-- ---- The parts of the index

-- Two parts and what is left are in so many words, with heads for the rows of both sides or of none.
pub record Cut (size left right : ℕ) (parts : Parts) : Type 0 where
  pub fits : parts.pairs + parts.left ≤ size
  pub both : (heads (size - parts.pairs - parts.left) right ≡ 0 → ⊥) → heads parts.left left ≡ 0 → ⊥
  pub turn : (heads parts.left left ≡ 0 → ⊥) → heads (size - parts.pairs - parts.left) right ≡ 0 → ⊥

abbrev pub Divides : ℕ → ℕ → ℕ → StdOption Parts → Type 0
Divides size left right (Some parts) = Cut size left right parts
Divides size left right None = Unit {0}

-- ---- Rows

-- The rows of a side are linked by their keys.
abbrev pub Linked : List ℕ → Side → Type 0
Linked p s = Chained s.links.words.now s.links.count (row_key s.edition p (tables_of s))

-- A key that is sought, where there are heads: that of the row i.
abbrev pub Tells : List ℕ → ℕ → ℕ → ℕ → Type 0
Tells chain count key k = (heads (length chain) count ≡ 0 → ⊥) → key ≡ k

-- The row i of one side and the row j of another have statements that are alike.
abbrev pub finds : List ℕ → Side → ℕ → Side → ℕ → Bool
finds p mine i other j = alike_quad (nodes mine.edition other.edition p) (statement (tables_of mine) i) (statement (tables_of other) j)

-- A place in the chain of a key.
abbrev pub On : List ℕ → Side → ℕ → ℕ → Type 0
On p s key from = OnChain s.links.words.now s.links.count (row_key s.edition p (tables_of s)) key from

-- A row of one side and the rows of another, linked, in which its statement is sought.
pub record Sought (p : List ℕ) (mine : Side) (i : ℕ) (other : Side) (key : ℕ) : Type 0 where
  pub linked : Linked p other
  pub tells : Tells other.links.words.now other.links.count key (row_key mine.edition p (tables_of mine) i)

-- The rows of a side and of the other, linked.
pub record Ready (p : List ℕ) (mine other : Side) : Type 0 where
  pub matched : Matched p
  pub turned : other.edition ≡ opposite mine.edition
  pub rows : SoundRows (tables_of mine) mine.links.count
  pub other_rows : SoundRows (tables_of other) other.links.count
  pub linked : Linked p mine
  pub other_linked : Linked p other
  pub both : (heads (length other.links.words.now) other.links.count ≡ 0 → ⊥) → heads (length mine.links.words.now) mine.links.count ≡ 0 → ⊥

-- What is in both, seen from the left or from the right.
abbrev pub in_both : Edition → List ℕ → Quad → Quad → Bool
in_both Left p = carries p
in_both Right p = λ q t. carries p t q

-- A row's number, where it is listed.
abbrev pub one : Bool → ℕ → List ℕ
one b i = cond b (i ∷ []) []

-- ---- The calls

-- The refusals that come before the lists are looked at.
unfoldable pub refusal : Slices → Slices → List ℕ → Result (Unit {0}) Refusal
refusal l r p = cond (not (usable for_long_form l && usable for_long_form r)) (Err Tables) (cond (not (legal l r p)) (Err Pairing) (Ok tt))

-- What follows where there is none.
unfoldable pub listing : Slices → Slices → List ℕ → List ℕ → List ℕ → Comparison
listing l r p left_list right_list =
    let ls = lefts l r p in
    let rs = rights l r p in
    cond (ltb (length left_list) (length ls) || ltb (length right_list) (length rs)) (refused 26 left_list right_list) (told ls rs left_list right_list)

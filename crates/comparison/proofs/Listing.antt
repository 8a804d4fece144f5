-- The rows that are listed, found along chains, and how a list is written.
use mathlib.Core.Path.{◌≡◌, refl, sym, ap, ap₂, ◌∙◌, fun_ext}
use mathlib.Core.Bool.{Bool, true, false, not, ◌&&◌}
use mathlib.Core.List.{List, [], ◌∷◌, ◌++◌}
use Prim.Native.Nat.{ℕ, zero, suc, ◌+◌, ◌%◌, ◌≤◌}
use native.Mathlib.Nat.{add-zero}
use native.Mathlib.Numerals.{add-one}
use native.Mathlib.Omega.{arith}
use borrow.Author.Tests.{eq-eqb, ne_eqb, eqb-true, eqb-false}
use lib.Dec.{eqb}
use lib.ListN.{length, set, length-append}
use Rattle.text.specs.Slice.{over, over_at}
use Rattle.text.proofs.Compare.{by, contrary}
use Rattle.text.proofs.Over.{over_append, over_at_none, over_at_more, over_at_enough}
use Rattle.std.proofs.Common.{Option}
use Rattle.std.specs.Option.{unwrap_or}
use Rattle.dataset.specs.Terms.{Quad}
use Rattle.chains.specs.Chains.{behind, latest, heads, near, First, Before, KeyOf, MayHave}
use Rattle.chains.proofs.Chains.{place_low, place_on, latest_over, near_all}
use Rattle.comparison.specs.Comparison.{any, picked, paired, alike_quad, statement, listed}
use Rattle.comparison.specs.Partners.{Matched}
use Rattle.comparison.specs.Code.{opposite, tables_of, nodes, in_both, one, row_key, finds, On, Tells, Sought, Ready}
use Rattle.comparison.specs.declared.edition.Edition.{Edition}
use Rattle.comparison.specs.declared.edition.Edition.TheVariants.{Left, Right}
use Rattle.comparison.specs.declared.edition.Side.{Side}
use Rattle.comparison.proofs.Alike.{quad_turned}
use Rattle.comparison.proofs.RowKeys.{node_keys, quad_keys}
use Rattle.comparison.proofs.Search.{any_latest}

-- ---- A row that is alike has the key

module _ (p : List ℕ) (matched : Matched p) (mine : Side) (i : ℕ) (other : Side) (key : ℕ) (s : Sought p mine i other key) where
  has_key : (j : ℕ) → (heads (length other.links.words.now) other.links.count ≡ 0 → ⊥) → finds p mine i other j ≡ true → row_key other.edition p (tables_of other) j ≡ key
  has_key j some e =
      sym (s.tells some ∙ quad_keys (nodes mine.edition other.edition p) _ _ (node_keys mine.edition other.edition p matched) (statement (tables_of mine) i) (statement (tables_of other) j) e)

  pub found_near : (j : ℕ) → finds p mine i other j ≡ true → near (heads (length other.links.words.now) other.links.count) (row_key other.edition p (tables_of other)) key j ≡ true
  unfolding near
  found_near j e =
      by (eqb (heads (length other.links.words.now) other.links.count) 0) (λ z. rw z)
      (λ z.
      rw (
        z,
        has_key j (eqb-false (heads (length other.links.words.now) other.links.count) 0 z) e,
        eq-eqb (key % heads (length other.links.words.now) other.links.count) (key % heads (length other.links.words.now) other.links.count) refl,
      ))

  pub key_differs : (j : ℕ) (r : Bool) → MayHave other.links.words.now other.links.count j key r → r ≡ false → false ≡ finds p mine i other j
  key_differs j r m e =
      let q = sym (m (row_key other.edition p (tables_of other)) s.linked) ∙ e in
      by (finds p mine i other j)
      (λ t.
      by (eqb (heads (length other.links.words.now) other.links.count) 0) (λ z. contrary (rw z at q))
      (λ z.
      let y : eqb (row_key other.edition p (tables_of other) j) key ≡ false = rw z at q in
      absurd (eqb-false (row_key other.edition p (tables_of other) j) key y (has_key j (eqb-false (heads (length other.links.words.now) other.links.count) 0 z) t))))
      (λ t. sym t)

-- ---- The row reached, sought among those before it and among the other side's

same_nodes : (e : Edition) (p : List ℕ) → ◌≡◌ {A = ℕ → ℕ → Bool} (nodes e e p) eqb
same_nodes Left p = refl
same_nodes Right p = refl

both_sides : (a b : Edition) (p : List ℕ) → b ≡ opposite a → (q t : Quad) → alike_quad (nodes a b p) q t ≡ in_both a p q t
both_sides Left Right p e q t = refl
both_sides Right Left p e q t = sym (quad_turned (λ m n. paired p m n) t q)
both_sides Left Left p e q t = cc
both_sides Right Right p e q t = cc

module _ (p : List ℕ) (mine other : Side) (r : Ready p mine other) (i : ℕ) where
  listed_is : listed (in_both mine.edition p) (tables_of mine) (tables_of other) i ≡ (not (any (finds p mine i mine) i) && not (any (finds p mine i other) other.links.count))
  unfolding listed
  listed_is =
      ap₂ (λ x y. not x && not y) (ap (λ (f : ℕ → ℕ → Bool). any (λ j. alike_quad f (statement (tables_of mine) i) (statement (tables_of mine) j)) i) (sym (same_nodes mine.edition p)))
      (ap₂ any (fun_ext (λ j. sym (both_sides mine.edition other.edition p r.turned (statement (tables_of mine) i) (statement (tables_of other) j)))) (sym other.counted))

  pub own_key : (o : Option ℕ) → KeyOf mine.links.words.now mine.links.count i o → (key d : ℕ) → key ≡ unwrap_or o d → Tells mine.links.words.now mine.links.count key (row_key mine.edition p (tables_of mine) i)
  own_key o k key d e some = e ∙ (ap (λ x. unwrap_or x d) (k (row_key mine.edition p (tables_of mine)) r.linked) ∙ rw (ne_eqb (heads (length mine.links.words.now) mine.links.count) 0 some))

  module _ (key : ℕ) (k : Tells mine.links.words.now mine.links.count key (row_key mine.edition p (tables_of mine) i)) where
    pub sought_within : Sought p mine i mine key
    sought_within = record { linked = r.linked; tells = k }

    pub sought_across : Sought p mine i other key
    sought_across = record { linked = r.other_linked; tells = λ some. k (r.both some) }

    -- Where the searches begin, and what they find is what is found among all.
    module _ (from : Option ℕ) (b : First other.links.words.now other.links.count key from) where
      firsts : behind from ≡ latest (near (heads (length other.links.words.now) other.links.count) (row_key other.edition p (tables_of other)) key) other.links.count
      firsts = b (row_key other.edition p (tables_of other)) r.other_linked

      pub first_low : behind from ≤ other.links.count
      first_low = place_low (near (heads (length other.links.words.now) other.links.count) (row_key other.edition p (tables_of other)) key) other.links.count (behind from) firsts

      pub first_on : On p other key (behind from)
      first_on = place_on (near (heads (length other.links.words.now) other.links.count) (row_key other.edition p (tables_of other)) key) other.links.count (behind from) firsts

      first_all : any (finds p mine i other) (behind from) ≡ any (finds p mine i other) other.links.count
      first_all =
          let t = finds p mine i other in
          any_latest t (behind from)
          ∙ (ap (λ (n : ℕ). not (eqb n 0))
          (ap (latest t) firsts
          ∙ latest_over t (near (heads (length other.links.words.now) other.links.count) (row_key other.edition p (tables_of other)) key) other.links.count
          (λ j h e. found_near p r.matched mine i other key sought_across j e))
          ∙ sym (any_latest t other.links.count))

    module _ (from : Option ℕ) (b : Before mine.links.words.now mine.links.count i from) where
      begins : behind from ≡ latest (near (heads (length mine.links.words.now) mine.links.count) (row_key mine.edition p (tables_of mine)) (row_key mine.edition p (tables_of mine) i)) i
      begins = b (row_key mine.edition p (tables_of mine)) r.linked

      pub before_low : behind from ≤ i
      before_low = place_low (near (heads (length mine.links.words.now) mine.links.count) (row_key mine.edition p (tables_of mine)) (row_key mine.edition p (tables_of mine) i)) i (behind from) begins

      pub before_on : On p mine key (behind from)
      before_on =
          by (eqb (heads (length mine.links.words.now) mine.links.count) 0)
          (λ z.
          ap (λ (h : ℕ). latest (near h (row_key mine.edition p (tables_of mine)) key) (behind from)) (eqb-true (heads (length mine.links.words.now) mine.links.count) 0 z)
          ∙ near_all (row_key mine.edition p (tables_of mine)) key (behind from))
          (λ z.
          ap (λ (x : ℕ). latest (near (heads (length mine.links.words.now) mine.links.count) (row_key mine.edition p (tables_of mine)) x) (behind from)) (k (eqb-false (heads (length mine.links.words.now) mine.links.count) 0 z))
          ∙ place_on (near (heads (length mine.links.words.now) mine.links.count) (row_key mine.edition p (tables_of mine)) (row_key mine.edition p (tables_of mine) i)) i (behind from) begins)

      before_all : any (finds p mine i mine) (behind from) ≡ any (finds p mine i mine) i
      before_all =
          let t = finds p mine i mine in
          let own : Sought p mine i mine (row_key mine.edition p (tables_of mine) i) = record { linked = r.linked; tells = λ some. refl } in
          any_latest t (behind from)
          ∙ (ap (λ (n : ℕ). not (eqb n 0))
          (ap (latest t) begins
          ∙ latest_over t (near (heads (length mine.links.words.now) mine.links.count) (row_key mine.edition p (tables_of mine)) (row_key mine.edition p (tables_of mine) i)) i
          (λ j h e. found_near p r.matched mine i mine (row_key mine.edition p (tables_of mine) i) own j e))
          ∙ sym (any_latest t i))

      -- A row is listed where neither search finds its statement.
      module _ (found : Bool) (f : found ≡ any (finds p mine i mine) (behind from)) where
        pub listed_repeated : found ≡ true → false ≡ listed (in_both mine.edition p) (tables_of mine) (tables_of other) i
        listed_repeated t = sym (listed_is ∙ rw (sym (f ∙ before_all) ∙ t))

        pub listed_first : found ≡ false → (start : Option ℕ) → First other.links.words.now other.links.count key start → (again : Bool) → again ≡ any (finds p mine i other) (behind start)
            → not again ≡ listed (in_both mine.edition p) (tables_of mine) (tables_of other) i
        listed_first t start b' again g = sym (listed_is ∙ rw (sym (f ∙ before_all) ∙ t, sym (g ∙ first_all start b')))

-- ---- Writing a list

-- With the row n, where it is listed.
pub picked_one : (t : ℕ → Bool) (n : ℕ) → picked t (n + 1) ≡ picked t n ++ one (t n) n
unfolding picked
picked_one t n = rw (add-one n)

pub picked_short : (t : ℕ → Bool) (n : ℕ) → length (picked t n) ≤ n
unfolding picked
picked_short t zero = omega arith
picked_short t (suc n) =
    let a = length-append (picked t n) (one (t n) n) in
    let b = picked_short t n in
    by (t n) (λ e. let c : length (one (t n) n) ≡ 1 = rw e in omega arith) (λ e. let c : length (one (t n) n) ≡ 0 = rw e in omega arith)

pub put_more : (s u x y z : List ℕ) → y ≡ over s x → z ≡ over_at (length s) u y → z ≡ over (s ++ u) x
put_more s u x y z e f = f ∙ (ap (over_at (length s) u) e ∙ sym (over_append s u x))

-- One number, where it is listed and where there is room for it.
module _ (b : Bool) (i at : ℕ) (out : List ℕ) where
  pub put_none : b ≡ false → (out ≡ over_at at (one b i) out) × (at ≡ at + length (one b i))
  put_none e = rw e (sym (over_at_none at out), sym (add-zero at))

  pub put_full : b ≡ true → length out ≤ at → (out ≡ over_at at (one b i) out) × (at + 1 ≡ at + length (one b i))
  put_full e h = rw e (sym (over_at_none at out) ∙ over_at_enough at (i ∷ []) out 0 (omega arith), refl)

  pub put_one : b ≡ true → (set out at i ≡ over_at at (one b i) out) × (at + 1 ≡ at + length (one b i))
  put_one e = rw e (sym (over_at_more at (i ∷ []) out 0 (omega arith) ∙ ap₂ (λ y n. set y n i) (over_at_none at out) (add-zero at)), refl)

-- The list with one row more.
pub put_next : (t : ℕ → Bool) (n : ℕ) (x y z : List ℕ) (at r : ℕ) (b : Bool) → b ≡ t n → at ≡ length (picked t n) → y ≡ over (picked t n) x → z ≡ over_at at (one b n) y → r ≡ at + length (one b n)
    → (r ≡ length (picked t (n + 1))) × (z ≡ over (picked t (n + 1)) x)
put_next t n x y z at r b e l o w q =
    let f : picked t (n + 1) ≡ picked t n ++ one b n = picked_one t n ∙ ap (λ (v : Bool). picked t n ++ one v n) (sym e) in (
      q ∙ (ap (λ (k : ℕ). k + length (one b n)) l ∙ (sym (length-append (picked t n) (one b n)) ∙ ap length (sym f))),
      put_more (picked t n) (one b n) x y z o (w ∙ ap (λ (k : ℕ). over_at k (one b n) y) l) ∙ ap (λ (s : List ℕ). over s x) (sym f),
    )

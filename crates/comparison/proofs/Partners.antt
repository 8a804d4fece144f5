-- The numbers of a pairing, found along chains; a legal pairing gives no left number two partners.
use mathlib.Core.Path.{◌≡◌, refl, sym, ap, ◌∙◌, subst, fun_ext}
use mathlib.Core.Bool.{Bool, true, false, not, ◌&&◌, ◌||◌}
use mathlib.Core.List.{List}
use Prim.Native.Nat.{ℕ, zero, suc, ◌*◌, ◌≤◌, ◌<◌}
use native.Mathlib.Nat.{zero-add, add_comm}
use native.Mathlib.Omega.{arith}
use borrow.Author.Tests.{eq-eqb, ne_eqb, eqb-true, eqb-false, not-true}
use lib.Dec.{eqb}
use lib.ListN.{length, get_or}
use Rattle.text.proofs.Compare.{by, and_left, and_right}
use Rattle.table.specs.Layout.{Slices, term_size, entry_at, blank_kind}
use Rattle.table.specs.Usable.{the, has_kind}
use Rattle.usable.proofs.Facts.{each_at}
use Rattle.std.proofs.Common.{Option, Some, None}
use Rattle.std.specs.Option.{is_some}
use Rattle.chains.specs.Chains.{behind, latest, near, word_at, has_word, WordsIn}
use Rattle.chains.proofs.Chains.{place_low, place_on, latest_over, near_key}
use Rattle.comparison.specs.Comparison.{any, pairs, left_of, right_of, paired, known, once, legal}
use Rattle.comparison.specs.Partners.{right_behind, partner, Matched}
use Rattle.comparison.specs.Code.{is_node}
use Rattle.comparison.proofs.Any.{any_none}
use Rattle.comparison.proofs.Search.{any_latest}

pub side_in : (p : List ℕ) (side : ℕ) → side < 2 → WordsIn p side 2 (pairs p)
side_in p side h j k = omega arith

left_words : (p : List ℕ) → word_at p 0 2 ≡ left_of p
left_words p = fun_ext (λ i. ap (λ (k : ℕ). get_or p k 0) (zero-add (2 * i)))

right_words : (p : List ℕ) → word_at p 1 2 ≡ right_of p
right_words p = fun_ext (λ i. ap (λ (k : ℕ). get_or p k 0) (add_comm 1 (2 * i)))

-- ---- A number that stands before: found along the chain of the pair reached

module _ (b : ℕ) (f : ℕ → ℕ) (i x : ℕ) (r : Option ℕ) (same : x ≡ f i) (before : behind r ≡ latest (near b f (f i)) i) where
  pub before_low : behind r ≤ i
  before_low = place_low (near b f (f i)) i (behind r) before

  pub before_on : latest (near b f x) (behind r) ≡ behind r
  before_on = ap (λ (y : ℕ). latest (near b f y) (behind r)) same ∙ place_on (near b f (f i)) i (behind r) before

  pub stands_before : (q : Option ℕ) → behind q ≡ latest (λ j. eqb (f j) x) (behind r) → any (λ j. eqb (f j) (f i)) i ≡ not (eqb (behind q) 0)
  stands_before q e =
      any_latest (λ j. eqb (f j) (f i)) i
      ∙ ap (λ (k : ℕ). not (eqb k 0))
      (sym
      (e
      ∙ (ap (λ (y : ℕ). latest (λ j. eqb (f j) y) (behind r)) same
      ∙ (ap (latest (λ j. eqb (f j) (f i))) before ∙ latest_over (λ j. eqb (f j) (f i)) (near b f (f i)) i (λ j k t. near_key b f (f i) j (eqb-true (f j) (f i) t))))))

  pub is_fresh : (q : Option ℕ) → behind q ≡ latest (λ j. eqb (f j) x) (behind r) → (b : Bool) → is_some q ≡ not b → b ≡ not (any (λ j. eqb (f j) (f i)) i)
  is_fresh q e b s = rw (stands_before q e) (none_behind q b s)
    where
      none_behind : (q : Option ℕ) (b : Bool) → is_some q ≡ not b → b ≡ not (not (eqb (behind q) 0))
      none_behind None true s = refl
      none_behind None false s = cc
      none_behind (Some j) true s = cc
      none_behind (Some j) false s = rw (ne_eqb (suc j) 0 (λ z. omega arith))

-- ---- A partner

module _ (p : List ℕ) (b m : ℕ) (from found : Option ℕ) (e : behind from ≡ latest (near b (word_at p 0 2) m) (pairs p)) (q : behind found ≡ latest (has_word p 0 2 m) (behind from)) where
  pub found_is : behind found ≡ latest (has_word p 0 2 m) (pairs p)
  found_is = q ∙ (ap (latest (has_word p 0 2 m)) e ∙ latest_over (has_word p 0 2 m) (near b (word_at p 0 2) m) (pairs p) (λ j k t. near_key b (word_at p 0 2) m j (eqb-true _ m t)))

  pub found_low : behind found ≤ pairs p
  found_low = place_low (has_word p 0 2 m) (pairs p) (behind found) found_is

  pub partner_is : right_behind p (behind found) ≡ partner p m
  unfolding partner
  partner_is = ap (right_behind p) found_is

-- No left number has two partners, where none stands twice.
module _ (p : List ℕ) (o : once (left_of p) (pairs p) ≡ true) where
  fresh : (k j : ℕ) → k < pairs p → j < k → eqb (left_of p j) (left_of p k) ≡ false
  unfolding once
  fresh k j h l =
      let q = each_at (λ i. not (any (λ j. eqb (left_of p j) (left_of p i)) i)) 0 (pairs p) o k h in
      let z : not (any (λ j. eqb (left_of p j) (left_of p k)) k) ≡ true = subst (λ (i : ℕ). not (any (λ j. eqb (left_of p j) (left_of p i)) i) ≡ true) (zero-add k) q in
      any_none (λ j. eqb (left_of p j) (left_of p k)) k (not-true _ z) j l

  module _ (m n : ℕ) where
    -- No pair before has the left number.
    none_before : (k : ℕ) → k < pairs p → left_of p k ≡ m → (j : ℕ) → j ≤ k → any (λ i. eqb (left_of p i) m && eqb (right_of p i) n) j ≡ false
    unfolding any
    none_before k h e zero l = refl
    none_before k h e (suc j) l =
        let z : eqb (left_of p j) m ≡ false = ap (eqb (left_of p j)) (sym e) ∙ fresh k j h (omega arith) in
        rw (z, none_before k h e j (omega arith))

    suc_eqb : (a b : ℕ) → eqb (suc a) (suc b) ≡ eqb a b
    suc_eqb a b = by (eqb a b) (λ e. rw (e, eqb-true a b e) (eq-eqb (suc b) (suc b) refl)) (λ e. ne_eqb (suc a) (suc b) (λ q. eqb-false a b e (omega arith)) ∙ sym e)

    or_none : (b : Bool) → (b || false) ≡ b
    or_none true = refl
    or_none false = refl

    upto : (k : ℕ) → k ≤ pairs p → any (λ i. eqb (left_of p i) m && eqb (right_of p i) n) k ≡ eqb (right_behind p (latest (λ i. eqb (left_of p i) m) k)) (suc n)
    unfolding any latest
    upto zero h = sym (ne_eqb 0 (suc n) (λ q. omega arith))
    upto (suc k) h =
        by (eqb (left_of p k) m)
        (λ e.
        rw (e, none_before k (omega arith) (eqb-true (left_of p k) m e) k (omega arith))
        (or_none (eqb (right_of p k) n) ∙ sym (suc_eqb (right_of p k) n)))
        (λ e. rw e (upto k (omega arith)))

  pub once_matched : Matched p
  unfolding paired partner
  once_matched m n = upto m n (pairs p) (omega arith) ∙ ap (λ (f : ℕ → ℕ). eqb (right_behind p (latest (λ i. eqb (f i) m) (pairs p))) (suc n)) (sym (left_words p))

-- ---- Nodes of a table

-- The words that terms are linked by.
pub node_word : (s : Slices) (n k : ℕ) → is_node s n (suc k) ≡ true → word_at s.terms 3 term_size k ≡ n
unfolding entry_at
node_word s n k e =
    ap (λ (i : ℕ). get_or s.terms i 0) (add_comm 3 (term_size * k))
    ∙ eqb-true _ n (and_right (has_kind s blank_kind (suc k)) (eqb (the s (suc k)).fourth n) e)

pub terms_in : (terms : List ℕ) (count : ℕ) → term_size * count ≤ length terms → WordsIn terms 3 term_size count
terms_in terms count h j k = omega arith

-- ---- A pairing that may be lent

module _ (l r : Slices) (p : List ℕ) where
  pub legal_odd : (2 * pairs p ≡ length p → ⊥) → false ≡ legal l r p
  unfolding legal
  legal_odd h = rw (ne_eqb (2 * pairs p) (length p) h)

  module _ (even : 2 * pairs p ≡ length p) where
    pub left_twice : once (word_at p 0 2) (pairs p) ≡ false → false ≡ legal l r p
    unfolding legal
    left_twice e = rw (eq-eqb (2 * pairs p) (length p) even, (ap (λ (f : ℕ → ℕ). once f (pairs p)) (sym (left_words p)) ∙ e))

    module _ (a : once (word_at p 0 2) (pairs p) ≡ true) where
      pub right_twice : once (word_at p 1 2) (pairs p) ≡ false → false ≡ legal l r p
      unfolding legal
      right_twice e = rw (eq-eqb (2 * pairs p) (length p) even, (ap (λ (f : ℕ → ℕ). once f (pairs p)) (sym (left_words p)) ∙ a), (ap (λ (f : ℕ → ℕ). once f (pairs p)) (sym (right_words p)) ∙ e))

      module _ (b : once (word_at p 1 2) (pairs p) ≡ true) where
        pub left_missing : known l (word_at p 0 2) (pairs p) ≡ false → false ≡ legal l r p
        unfolding legal
        left_missing e =
            rw (eq-eqb (2 * pairs p) (length p) even, (ap (λ (f : ℕ → ℕ). once f (pairs p)) (sym (left_words p)) ∙ a), (ap (λ (f : ℕ → ℕ). once f (pairs p)) (sym (right_words p)) ∙ b), (ap (λ (f : ℕ → ℕ). known l f (pairs p)) (sym (left_words p)) ∙ e))

        pub right_left : known l (word_at p 0 2) (pairs p) ≡ true → known r (word_at p 1 2) (pairs p) ≡ legal l r p
        unfolding legal
        right_left e =
            rw (eq-eqb (2 * pairs p) (length p) even, (ap (λ (f : ℕ → ℕ). once f (pairs p)) (sym (left_words p)) ∙ a), (ap (λ (f : ℕ → ℕ). once f (pairs p)) (sym (right_words p)) ∙ b), (ap (λ (f : ℕ → ℕ). known l f (pairs p)) (sym (left_words p)) ∙ e))
            (ap (λ (f : ℕ → ℕ). known r f (pairs p)) (right_words p))

  pub legal_once : legal l r p ≡ true → once (left_of p) (pairs p) ≡ true
  unfolding legal
  legal_once e =
      let a = eqb (2 * pairs p) (length p) in
      let b = once (left_of p) (pairs p) in
      let c = once (right_of p) (pairs p) in
      let d = known l (left_of p) (pairs p) && known r (right_of p) (pairs p) in
      and_left b c (and_right a (b && c) (and_left (a && (b && c)) d e))

-- The right number of a pair.
pub right_word : (p : List ℕ) (i x : ℕ) → x ≡ word_at p 1 2 i → x ≡ right_of p i
right_word p i x e = e ∙ ap (λ (f : ℕ → ℕ). f i) (right_words p)

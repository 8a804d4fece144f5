-- Laws of the greatest number that passes a test, and of chains: what is not in a chain has not its key, and may be passed over.
use mathlib.Core.Path.{◌≡◌, refl, sym, ap, ◌∙◌, subst}
use mathlib.Core.List.{List}
use mathlib.Core.Bool.{Bool, true, false}
use Prim.Native.Nat.{ℕ, zero, suc, ◌+◌, ◌*◌, ◌-◌, ◌%◌, ◌≤◌, ◌<◌}
use native.Mathlib.Nat.{mod-lt}
use native.Mathlib.Numerals.{add-one}
use native.Mathlib.Omega.{arith}
use borrow.Author.Tests.{eq-eqb, ne_eqb, eqb-true, eqb-false, ltb-true, ltb-false, lt-ltb, le-ltb}
use lib.Dec.{eqb, ltb}
use lib.ListN.{length, get_or, set, length-set}
use lib.Seq.{get_or-set_same, get_or-set_other, length-take-le}
use Rattle.text.proofs.Compare.{by, contrary}
use Rattle.std.proofs.Common.{Option, Some, None, ◌++◌, replicate, take, drop}
use Rattle.std.proofs.lemmas.List.{get_or_append_left, get_or-append_right, get_or-replicate, get_or-drop, length-append, length-replicate, length-drop}
use Rattle.chains.specs.Chains.{behind, latest, heads, near, key_at, Linked, Chained, First, Before, KeyOf, Falling, Cleared, Keyed, linked_one}

-- A number below n + 1 that is not n.
less : (j n : ℕ) → j < n + 1 → (j ≡ n → ⊥) → j < n
less j n h k = by (ltb j n) (ltb-true j n) (λ e. absurd (k (omega (arith, ltb-false j n e))))

-- ---- The greatest that passes

module _ (t : ℕ → Bool) where
  pub latest_low : (n : ℕ) → latest t n ≤ n
  unfolding latest
  latest_low zero = omega arith
  latest_low (suc n) = by (t n) (λ e. rw e (omega arith)) (λ e. rw e (omega (arith, latest_low n)))

  pub latest_again : (n : ℕ) → latest t (latest t n) ≡ latest t n
  unfolding latest
  latest_again zero = refl
  latest_again (suc n) = by (t n) (λ e. rw (e, e)) (λ e. rw (e, latest_again n))

  -- Where a search begins: not above, and a place where it may go on.
  module _ (n p : ℕ) (e : p ≡ latest t n) where
    pub place_low : p ≤ n
    place_low = omega (arith, e, latest_low n)

    pub place_on : latest t p ≡ p
    place_on = ap (latest t) e ∙ (latest_again n ∙ sym e)

  pub latest_hit : (n : ℕ) → t n ≡ true → latest t (suc n) ≡ suc n
  unfolding latest
  latest_hit n e = rw e

  pub latest_miss : (n : ℕ) → t n ≡ false → latest t (suc n) ≡ latest t n
  unfolding latest
  latest_miss n e = rw e

  -- It passes, where there is one.
  pub latest_passes : (n j : ℕ) → latest t n ≡ suc j → t j ≡ true
  unfolding latest
  latest_passes zero j e = absurd (omega arith)
  latest_passes (suc n) j e =
      by (t n) (λ h. let q : suc n ≡ suc j = rw h at e in let z : n ≡ j = omega arith in subst (λ (k : ℕ). t k ≡ true) z h)
      (λ h. latest_passes n j (rw h at e))

module _ (t u : ℕ → Bool) where
  pub latest_same : (n : ℕ) → ((j : ℕ) → j < n → t j ≡ u j) → latest t n ≡ latest u n
  unfolding latest
  latest_same zero h = refl
  latest_same (suc n) h = rw (h n (omega arith), latest_same n (λ j k. h j (omega arith)))

  -- Those that do not pass a weaker test are passed over.
  pub latest_over : (n : ℕ) → ((j : ℕ) → j < n → t j ≡ true → u j ≡ true) → latest t (latest u n) ≡ latest t n
  unfolding latest
  latest_over zero h = refl
  latest_over (suc n) h =
      by (u n) (λ e. rw e)
      (λ e. let z : t n ≡ false = by (t n) (λ q. contrary (sym (h n (omega arith) q) ∙ e)) (λ q. q) in rw (e, z, latest_over n (λ j k. h j (omega arith))))

-- ---- Chains

module _ (b : ℕ) (f : ℕ → ℕ) where
  -- What has the key is in its chain.
  pub near_key : (x j : ℕ) → f j ≡ x → near b f x j ≡ true
  unfolding near
  near_key x j e = by (eqb b 0) (λ z. rw z) (λ z. rw (z, e, eq-eqb (x % b) (x % b) refl))

  -- The chain of a number in it is the chain.
  pub near_turn : (x j k : ℕ) → near b f x j ≡ true → near b f (f j) k ≡ near b f x k
  unfolding near
  near_turn x j k e = by (eqb b 0) (λ z. rw z) (λ z. let q = eqb-true (f j % b) (x % b) (rw z at e) in rw (z, q))

  pub turned : (x j n : ℕ) → near b f x j ≡ true → latest (near b f (f j)) n ≡ latest (near b f x) n
  turned x j n e = latest_same (near b f (f j)) (near b f x) n (λ k h. near_turn x j k e)

-- Without heads every number is in every chain.
pub near_all : (f : ℕ → ℕ) (x n : ℕ) → latest (near 0 f x) n ≡ n
unfolding latest near
near_all f x zero = refl
near_all f x (suc n) = refl

-- A search along a chain: p is a place in it, and what is sought is in it.
module _ (b : ℕ) (f : ℕ → ℕ) (x : ℕ) (t : ℕ → Bool) where
  pub walk_start : (n : ℕ) → ((j : ℕ) → j < n → t j ≡ true → near b f x j ≡ true) → latest t (latest (near b f x) n) ≡ latest t n
  walk_start n h = latest_over t (near b f x) n h

  module _ (j q : ℕ) (on : latest (near b f x) (suc j) ≡ suc j) (next : q ≡ latest (near b f (f j)) j) where
    here : near b f x j ≡ true
    here = latest_passes (near b f x) (suc j) j on

    whole : q ≡ latest (near b f x) j
    whole = next ∙ turned b f x j j here

    pub walk_on : latest (near b f x) q ≡ q
    walk_on = place_on (near b f x) j q whole

    pub walk_low : q ≤ j
    walk_low = place_low (near b f x) j q whole

    -- Where the number reached does not pass, those behind it in the chain are left.
    pub walk_next : ((i : ℕ) → i < suc j → t i ≡ true → near b f x i ≡ true) → t j ≡ false → latest t (suc j) ≡ latest t q
    walk_next h e = latest_miss t j e ∙ (sym (latest_over t (near b f x) j (λ i k. h i (omega arith))) ∙ ap (latest t) (sym whole))

-- What a chain of x has from a place on, where numbers below m are sought.
module _ (b : ℕ) (f : ℕ → ℕ) (x : ℕ) (t : ℕ → Bool) (m : ℕ) where
  pub record At (r : Option ℕ) : Type 0 where
    pub low : behind r ≤ m
    pub on : latest (near b f x) (behind r) ≡ behind r
    pub left : latest t m ≡ latest t (behind r)

  pub at_place : (r : Option ℕ) → behind r ≡ m → latest (near b f x) m ≡ m → At r
  at_place r e on = record { low = omega arith; on = ap (latest (near b f x)) e ∙ (on ∙ sym e); left = sym (ap (latest t) e) }

  pub at_first : (r : Option ℕ) → ((j : ℕ) → j < m → t j ≡ true → near b f x j ≡ true) → behind r ≡ latest (near b f x) m → At r
  at_first r h e =
      record {
        low = place_low (near b f x) m (behind r) e;
        on = place_on (near b f x) m (behind r) e;
        left = sym (ap (latest t) e ∙ walk_start b f x t m h);
      }

  -- Where no number is reached, none passes.
  pub at_none : (r : Option ℕ) → r ≡ None → At r → latest t m ≡ 0
  unfolding latest
  at_none r e a = a.left ∙ ap (λ (o : Option ℕ). latest t (behind o)) e

  -- A number that is reached.
  module _ (r : Option ℕ) (j : ℕ) (is : r ≡ Some j) (a : At r) where
    as_suc : behind r ≡ suc j
    as_suc = ap behind is

    pub at_below : j < m
    at_below = omega (arith, as_suc, a.low)

    at_on : latest (near b f x) (suc j) ≡ suc j
    at_on = ap (latest (near b f x)) (sym as_suc) ∙ (a.on ∙ as_suc)

    at_left : latest t m ≡ latest t (suc j)
    at_left = a.left ∙ ap (latest t) as_suc

    pub at_found : t j ≡ true → latest t m ≡ suc j
    at_found e = at_left ∙ latest_hit t j e

    module _ (q : Option ℕ) (next : behind q ≡ latest (near b f (f j)) j) where
      pub at_low : behind q < behind r
      at_low = omega (arith, as_suc, walk_low b f x t j (behind q) at_on next)

      pub at_next : ((i : ℕ) → i < m → t i ≡ true → near b f x i ≡ true) → t j ≡ false → At q
      at_next h e =
          record {
            low = omega (arith, at_low, a.low);
            on = walk_on b f x t j (behind q) at_on next;
            left = at_left ∙ walk_next b f x t j (behind q) at_on next (λ i k. h i (omega (arith, at_below))) e;
          }

-- ---- Linking

module _ (words : List ℕ) (b n : ℕ) (f : ℕ → ℕ) (m : ℕ) (some : b ≡ 0 → ⊥) (room : b + 2 * n ≤ length words) (less : m < n) (l : Linked words b n f m) where
  h : ℕ
  h = f m % b

  low : f m % b < b
  low = mod-lt (f m) {m = b} (omega arith)

  front : List ℕ
  front = set words (b + m) (get_or words (f m % b) 0)

  as_set : linked_one words b n m ≡ set (set words (b + m) (get_or words (f m % b) 0)) (f m % b) (suc m)
  unfolding linked_one
  as_set = rw (l.keys m less)

  other : (k : ℕ) → (k ≡ f m % b → ⊥) → (k ≡ b + m → ⊥) → get_or (linked_one words b n m) k 0 ≡ get_or words k 0
  other k p q =
      ap (λ (w : List ℕ). get_or w k 0) as_set
      ∙ (get_or-set_other (set words (b + m) (get_or words (f m % b) 0)) (f m % b) k (suc m) 0 p ∙ get_or-set_other words (b + m) k (get_or words (f m % b) 0) 0 q)

  head : get_or (linked_one words b n m) (f m % b) 0 ≡ suc m
  head = ap (λ (w : List ℕ). get_or w (f m % b) 0) as_set ∙ get_or-set_same (set words (b + m) (get_or words (f m % b) 0)) (f m % b) (suc m) 0 (simp length-set (omega (arith, low)))

  link : get_or (linked_one words b n m) (b + m) 0 ≡ get_or words (f m % b) 0
  link =
      ap (λ (w : List ℕ). get_or w (b + m) 0) as_set
      ∙ (get_or-set_other (set words (b + m) (get_or words (f m % b) 0)) (f m % b) (b + m) (suc m) 0 (λ e. omega (arith, low))
      ∙ get_or-set_same words (b + m) (get_or words (f m % b) 0) 0 (omega arith))

  pub linked_size : length (linked_one words b n m) ≡ length words
  unfolding linked_one
  linked_size = simp length-set

  b_some : eqb b 0 ≡ false
  b_some = ne_eqb b 0 some

  first_next : (x : ℕ) → get_or (linked_one words b n m) (x % b) 0 ≡ latest (near b f x) (suc m)
  unfolding near
  first_next x =
      by (eqb (f m % b) (x % b))
      (λ e.
      let z = eqb-true (f m % b) (x % b) e in
      ap (λ (k : ℕ). get_or (linked_one words b n m) k 0) (sym z) ∙ (head ∙ sym (latest_hit (near b f x) m (rw (b_some, e)))))
      (λ e.
      other (x % b) (λ q. eqb-false (f m % b) (x % b) e (sym q)) (λ q. omega (arith, mod-lt x {m = b} (omega arith)))
      ∙ (l.first x ∙ sym (latest_miss (near b f x) m (rw (b_some, e)))))

  links_next : (j : ℕ) → j < suc m → get_or (linked_one words b n m) (b + j) 0 ≡ latest (near b f (f j)) j
  links_next j k =
      by (ltb j m)
      (λ e. let z = ltb-true j m e in other (b + j) (λ q. omega (arith, low)) (λ q. omega arith) ∙ l.links j z)
      (λ e. let z = ltb-false j m e in let same : m ≡ j = omega arith in subst (λ (i : ℕ). get_or (linked_one words b n m) (b + i) 0 ≡ latest (near b f (f i)) i) same (link ∙ l.first (f m)))

  pub linked_next : Linked (linked_one words b n m) b n f (suc m)
  linked_next =
      record {
        first = first_next;
        links = links_next;
        keys = λ j k. other (b + n + j) (λ q. omega (arith, low)) (λ q. omega arith) ∙ l.keys j k;
      }

-- Before any is linked, the heads are zero.
pub linked_start : (old words : List ℕ) (b n : ℕ) → (b ≡ 0 → ⊥) → Cleared old words b → Linked words b n (λ j. get_or words (b + n + j) 0) 0
unfolding latest
linked_start old words b n some c =
    record {
      first = λ x. c.zeros (x % b) (mod-lt x {m = b} (omega arith));
      links = λ j h. absurd (omega arith);
      keys = λ j h. refl;
    }

-- Keys that are equal give the same chains.
pub linked_same : (words : List ℕ) (b n m : ℕ) (f g : ℕ → ℕ) → m ≤ n → ((j : ℕ) → j < n → f j ≡ g j) → Linked words b n f m → Linked words b n g m
unfolding near
linked_same words b n m f g h e l =
    record {
      first = λ x. l.first x ∙ latest_same (near b f x) (near b g x) m (λ j k. rw (e j (omega arith)));
      links = λ j k. l.links j k ∙ latest_same (near b f (f j)) (near b g (g j)) j (λ i q. rw (e i (omega arith), e j (omega arith)));
      keys = λ j k. l.keys j k ∙ e j k;
    }

pub chained_same : (words : List ℕ) (n : ℕ) (f g : ℕ → ℕ) → ((j : ℕ) → j < n → f j ≡ g j) → Chained words n f → Chained words n g
unfolding Chained
chained_same words n f g e c = λ z. linked_same words (heads (length words) n) n n f g (omega arith) e (c z)

-- Chains fall.
pub falling : (words : List ℕ) (n : ℕ) (f : ℕ → ℕ) → Chained words n f → Falling words n
unfolding Chained
falling words n f c j h some = omega (arith, (c some).links j h, latest_low (near (heads (length words) n) f (f j)) j)

-- ---- What the routines answer, where there are c heads

module _ (words : List ℕ) (n c : ℕ) (e : c ≡ heads (length words) n) where
  -- Heads, links and keys stand in the words.
  pub within : (c ≡ 0 → ⊥) → (c + 2 * n ≡ length words) × (n < 4294967296)
  unfolding heads
  within z =
      by (ltb n 4294967296)
      (λ h. let q : c ≡ length words - 2 * n = rw h at e in (omega arith, ltb-true n 4294967296 h))
      (λ h. let q : c ≡ 0 = rw h at e in absurd (z q))

  heads_some : (c ≡ 0 → ⊥) → heads (length words) n ≡ 0 → ⊥
  heads_some z h = z (e ∙ h)

  linked : (c ≡ 0 → ⊥) → (f : ℕ → ℕ) → Chained words n f → Linked words c n f n
  unfolding Chained
  linked z f h = subst (λ (b : ℕ). Linked words b n f n) (sym e) (h (heads_some z))

  pub first_none : (x : ℕ) (r : Option ℕ) → c ≡ 0 → behind r ≡ n → First words n x r
  first_none x r z g f h = g ∙ sym (ap (λ (b : ℕ). latest (near b f x) n) (sym e ∙ z) ∙ near_all f x n)

  pub first_some : (x : ℕ) (r : Option ℕ) → (c ≡ 0 → ⊥) → behind r ≡ get_or words (x % c) 0 → First words n x r
  first_some x r z g f h = g ∙ ((linked z f h).first x ∙ ap (λ (b : ℕ). latest (near b f x) n) e)

  pub before_none : (j : ℕ) (r : Option ℕ) → c ≡ 0 → behind r ≡ j → Before words n j r
  before_none j r z g f h = g ∙ sym (ap (λ (b : ℕ). latest (near b f (f j)) j) (sym e ∙ z) ∙ near_all f (f j) j)

  pub before_some : (j : ℕ) (r : Option ℕ) → j < n → (c ≡ 0 → ⊥) → behind r ≡ get_or words (c + j) 0 → Before words n j r
  before_some j r a z g f h = g ∙ ((linked z f h).links j a ∙ ap (λ (k : ℕ). latest (near k f (f j)) j) e)

  pub before_falls : (j : ℕ) (r : Option ℕ) → j < n → (c ≡ 0 → ⊥) → behind r ≡ get_or words (c + j) 0 → Falling words n → behind r ≤ j
  before_falls j r a z g h = omega (arith, h j a (heads_some z), g, ap (λ (b : ℕ). get_or words (b + j) 0) e)

  pub key_none : (j : ℕ) → c ≡ 0 → KeyOf words n j None
  key_none j z f h = let q : heads (length words) n ≡ 0 = sym e ∙ z in rw q

  pub key_some : (j r : ℕ) → j < n → (c ≡ 0 → ⊥) → r ≡ get_or words (c + n + j) 0 → KeyOf words n j (Some r)
  key_some j r a z g f h =
      let q = ne_eqb (heads (length words) n) 0 (heads_some z) in
      let k : r ≡ f j = g ∙ (linked z f h).keys j a in
      rw (q, k)

-- ---- Making the heads zero

pub filled : (s v : List ℕ) (n : ℕ) → n ≤ length s → v ≡ replicate (length (take n s)) 0 → Cleared s (v ++ drop n s) n
filled s v n h q =
    let e : v ≡ replicate n 0 = q ∙ ap (λ k. replicate k 0) (length-take-le n s h) in
    record {
      size = rw e (simp (length-append, length-replicate, length-drop) (omega arith));
      zeros = λ i k. rw e (get_or_append_left (replicate n 0) (drop n s) 0 i (simp length-replicate k) ∙ get_or-replicate n i 0 0 k);
      rest = λ i k.
          rw e (get_or-append_right (replicate n 0) (drop n s) n i 0 (length-replicate n 0) k ∙ (get_or-drop n s (i - n) 0 ∙ ap (λ (m : ℕ). get_or s m 0) (omega arith)));
    }

-- ---- Linking one number

-- The places of the head and of the link lie in the words.
module _ (words : List ℕ) (b n j h : ℕ) (some : 1 ≤ b) (room : b + 2 * n ≤ length words) (less : j < n) (e : h ≡ get_or words (b + n + j) 0) where
  pub head_in : h % b < length words
  head_in = omega (arith, mod-lt h {m = b} (omega arith))

  pub as_linked : (mid last : List ℕ) (before : ℕ) → before ≡ get_or words (h % b) 0 → mid ≡ set words (b + j) before → last ≡ set mid (h % b) (j + 1) → last ≡ linked_one words b n j
  unfolding linked_one
  as_linked mid last before p q r = rw (r, q, p, e, add-one j)

-- All are linked, by the keys that stood there.
module _ (old mid last : List ℕ) (n c j : ℕ) (e : c ≡ heads (length old) n) (some : c ≡ 0 → ⊥) (cl : Cleared old mid c) (size : length last ≡ length mid) (l : Linked last c n (λ k. get_or mid (c + n + k) 0) j) (whole : j ≡ n) where
  same_size : length last ≡ length old
  same_size = size ∙ cl.size

  same_heads : c ≡ heads (length last) n
  same_heads = e ∙ ap (λ (k : ℕ). heads k n) (sym same_size)

  by_old : Linked last c n (λ k. get_or old (c + n + k) 0) n
  by_old =
      linked_same last c n n (λ k. get_or mid (c + n + k) 0) (λ k. get_or old (c + n + k) 0) (omega arith) (λ k h. cl.rest (c + n + k) (omega arith))
      (subst (Linked last c n (λ k. get_or mid (c + n + k) 0)) whole l)

  pub linked_all : (length last ≡ length old) × Chained last n (key_at old n)
  unfolding Chained
  linked_all = (
    same_size,
    λ z.
        subst (λ (b : ℕ). Linked last b n (λ k. get_or old (heads (length old) n + n + k) 0) n) same_heads
        (subst (λ (b : ℕ). Linked last c n (λ k. get_or old (b + n + k) 0) n) e by_old),
  )

pub linked_none : (s : List ℕ) (n c : ℕ) (f : ℕ → ℕ) → c ≡ heads (length s) n → c ≡ 0 → (length s ≡ length s) × Chained s n f
unfolding Chained
linked_none s n c f e z = (refl, λ k. absurd (k (sym e ∙ z)))

-- One number more.
pub linked_step : (words next : List ℕ) (b n : ℕ) (f : ℕ → ℕ) (m : ℕ) → (b ≡ 0 → ⊥) → b + 2 * n ≤ length words → m < n → Linked words b n f m → next ≡ linked_one words b n m
    → (length next ≡ length words) × Linked next b n f (m + 1)
linked_step words next b n f m some room less l e = (
  ap length e ∙ linked_size words b n f m some room less l,
  subst (λ (k : ℕ). Linked next b n f k) (sym (add-one m)) (subst (λ (w : List ℕ). Linked w b n f (suc m)) (sym e) (linked_next words b n f m some room less l)),
)

-- ---- Writing the keys

pub keyed_start : (s : List ℕ) (at : ℕ) (P : ℕ → ℕ → Type 0) → Keyed s s at P 0
keyed_start s at P = record { size = refl; keys = λ j h. absurd (omega arith) }

pub keyed_next : (s w : List ℕ) (at : ℕ) (P : ℕ → ℕ → Type 0) (m x : ℕ) → at + m < length w → P m x → Keyed s w at P m → Keyed s (set w (at + m) x) at P (m + 1)
keyed_next s w at P m x h q k =
    record {
      size = simp length-set k.size;
      keys = λ j l.
          by (eqb j m)
          (λ t. let z = eqb-true j m t in subst (λ (i : ℕ). P i (get_or (set w (at + m) x) (at + i) 0)) (sym z) (subst (P m) (sym (get_or-set_same w (at + m) x 0 h)) q))
          (λ t. let z = eqb-false j m t in subst (P j) (sym (get_or-set_other w (at + m) (at + j) x 0 (λ y. z (omega arith)))) (k.keys j (less j m l z)));
    }

-- Linked by keys that were written.
pub keyed_all : (s w v : List ℕ) (n c m : ℕ) (P : ℕ → ℕ → Type 0) → c ≡ heads (length s) n → m ≡ n → Keyed s w (c + n) P m → (length v ≡ length w) × Chained v n (key_at w n)
    → (length v ≡ length s) × ((f : ℕ → ℕ) → ((j k : ℕ) → j < n → P j k → k ≡ f j) → Chained v n f)
keyed_all s w v n c m P e whole k (size, ch) = (
  size ∙ k.size,
  λ f h. chained_same v n (key_at w n) f
      (λ j l. ap (λ (b : ℕ). get_or w (b + n + j) 0) (ap (λ (x : ℕ). heads x n) k.size ∙ sym e) ∙ h j _ l (k.keys j (omega arith))) ch,
)

-- ---- How many heads there are

pub heads_wide : (size n : ℕ) → 4294967296 ≤ n → 0 ≡ heads size n
unfolding heads
heads_wide size n h = rw (le-ltb n 4294967296 h)

pub heads_short : (size n : ℕ) → size < 2 * n → 0 ≡ heads size n
unfolding heads
heads_short size n h = by (ltb n 4294967296) (λ e. rw e (omega arith)) (λ e. rw e)

pub heads_more : (size n : ℕ) → n < 4294967296 → size - 2 * n ≡ heads size n
unfolding heads
heads_more size n h = rw (lt-ltb n 4294967296 h)

-- Following a tree, and putting a term into it.
use mathlib.Core.Path.{◌≡◌, refl, sym, ap, subst, ◌∙◌}
use mathlib.Core.Bool.{Bool, true, false}
use Prim.Native.Nat.{ℕ, zero, suc, ◌+◌, ◌*◌, ◌-◌, ◌<◌, ◌≤◌, min}
use native.Mathlib.Decide.{dec_le}
use native.Mathlib.Omega.{arith}
use native.Mathlib.Numerals.{add-one}
use lib.Dec.{ltb}
use borrow.Author.Tests.{ltb-true, ltb-false}
use Rattle.text.specs.Text.{Text}
use Rattle.text.proofs.Compare.{by, contrary}
use Rattle.term_tree.specs.Slots.{slot_at}
use Rattle.term_tree.specs.Tree.{child, Leads, Reaches, Grown, buckets, least, Linked, Followed}

-- Cases on the order of two numbers, and on their equality.
three : {X : Type 0} (i j : ℕ) → (i < j → X) → (i ≡ j → X) → (j < i → X) → X
three i j f g h = elim (dec_le (suc i) j) [ yes p ↦ f p | no p ↦ elim (dec_le (suc j) i) [ yes q ↦ h q | no q ↦ g (omega (arith, p, q)) ] ]

two : {X : Type 0} (i j : ℕ) → (i ≡ j → X) → ((i ≡ j → ⊥) → X) → X
two i j f g = three i j (λ p. g (λ e. omega (arith, p, e))) f (λ p. g (λ e. omega (arith, p, e)))

-- The smaller of two numbers.
pub least_left : (a b : ℕ) → least a b ≤ a
least_left a b = by (ltb a b) (λ e. rw e (omega arith)) (λ e. rw e (omega (arith, ltb-false a b e)))

pub least_right : (a b : ℕ) → least a b ≤ b
least_right a b = by (ltb a b) (λ e. rw e (omega (arith, ltb-true a b e))) (λ e. rw e (omega arith))

pub min_least : (a b : ℕ) → min a b ≡ least a b
min_least a b = by (ltb a b) (λ e. rw e (omega (arith, ltb-true a b e))) (λ e. rw e (omega (arith, ltb-false a b e)))

pub least_low : (a b : ℕ) → a ≤ b → least a b ≡ a
least_low a b h = by (ltb a b) (λ e. rw e) (λ e. rw e (omega (arith, ltb-false a b e)))

pub least_high : (a b : ℕ) → b ≤ a → least a b ≡ b
least_high a b h = by (ltb a b) (λ e. rw e (omega (arith, ltb-true a b e))) (λ e. rw e)

-- ---- Ways

module _ (m : ℕ) (slot : ℕ → ℕ) where
  -- The same turns lead the same way.
  pub leads_turns : (turn way : ℕ → ℕ) → ((d : ℕ) → turn d ≡ way d) → (n s d e : ℕ) → Leads m slot turn n s d e → Leads m slot way n s d e
  unfolding Leads
  leads_turns turn way f zero s d e L = L
  leads_turns turn way f (suc n) s d e (c, (q, L)) =
      (c, (q, subst (λ (t : ℕ). Leads m slot way n (child m c t) (suc d) e) (f d) (leads_turns turn way f n (child m c (turn d)) (suc d) e L)))

  -- One step further.
  pub leads_on : (turn : ℕ → ℕ) (n s d e c : ℕ) → Leads m slot turn n s d e → slot e ≡ suc c → Leads m slot turn (suc n) s d (child m c (turn (d + n)))
  unfolding Leads
  leads_on turn zero s d e c L q = (c, (ap slot L ∙ q, ap (λ (k : ℕ). child m c (turn k)) (let z : d ≡ d + 0 = omega arith in z)))
  leads_on turn (suc n) s d e c (b, (p, L)) q = (
    b,
    (
      p,
      subst (λ (k : ℕ). Leads m slot turn (suc n) (child m b (turn d)) (suc d) (child m c (turn k))) (let z : suc d + n ≡ d + suc n = omega arith in z)
          (leads_on turn n (child m b (turn d)) (suc d) e c L q),
    ),
  )

  -- An empty slot that is filled was on no way.
  pub leads_kept : (slot' : ℕ → ℕ) (f : ℕ) → slot f ≡ 0 → ((s : ℕ) → (s ≡ f → ⊥) → slot' s ≡ slot s) → (turn : ℕ → ℕ) (n s d e : ℕ)
      → Leads m slot turn n s d e → Leads m slot' turn n s d e
  unfolding Leads
  leads_kept slot' f z same turn zero s d e L = L
  leads_kept slot' f z same turn (suc n) s d e (c, (q, L)) =
      (c, (same s (λ w. omega (arith, q, ap slot w, z)) ∙ q, leads_kept slot' f z same turn n (child m c (turn d)) (suc d) e L))

  -- A way that is no single slot ends at the child of a term.
  pub leads_last : (count : ℕ) → count ≤ m → ((s : ℕ) → s < 3 * m → slot s ≤ count) → (turn : ℕ → ℕ) → ((d : ℕ) → turn d < 2) → (n s d e : ℕ) → s < 3 * m
      → Leads m slot turn (suc n) s d e → (c : ℕ) × ((c < count) × ((t : ℕ) × ((t < 2) × (child m c t ≡ e))))
  unfolding Leads
  leads_last count room within turn small zero s d e h (c, (q, L)) = (c, (omega (arith, within s h, q), (turn d, (small d, L))))
  leads_last count room within turn small (suc n) s d e h (c, (q, L)) =
      leads_last count room within turn small n (child m c (turn d)) (suc d) e (omega (arith, within s h, q, small d)) L

  -- Where the slot is empty nothing is reached; where it holds a term that is another, what is reached lies behind it.
  pub reaches_none : (turn : ℕ → ℕ) (s d i : ℕ) → slot s ≡ 0 → Reaches m slot turn s d i → ⊥
  unfolding Leads
  reaches_none turn s d i z (zero, (e, (L, q))) = omega (arith, z, ap slot L, q)
  reaches_none turn s d i z (suc n, (e, ((c, (p, L)), q))) = omega (arith, z, p)

  pub reaches_next : (turn : ℕ → ℕ) (s d i c : ℕ) → slot s ≡ suc c → (i ≡ c → ⊥) → Reaches m slot turn s d i → Reaches m slot turn (child m c (turn d)) (suc d) i
  unfolding Leads
  reaches_next turn s d i c p other (zero, (e, (L, q))) = absurd (other (let z : i ≡ c = omega (arith, p, ap slot L, q) in z))
  reaches_next turn s d i c p other (suc n, (e, ((b, (r, L)), q))) =
      (n, (e, (subst (λ (k : ℕ). Leads m slot turn n (child m k (turn d)) (suc d) e) (let z : b ≡ c = omega (arith, p, r) in z) L, q)))

-- ---- Following

-- Every term that passes the test is still to be reached from the slot s, at the level d.
abbrev pub Left : ℕ → (ℕ → ℕ) → (ℕ → ℕ) → (ℕ → Bool) → ℕ → ℕ → ℕ → Type 0
Left m slot way p count s d = (i : ℕ) → i < count → p i ≡ true → Reaches m slot way s d i

-- The same of every index that the slice may be.
abbrev pub Leaves : Text → ℕ → (ℕ → ℕ) → ℕ → (ℕ → Bool) → ℕ → ℕ → Type 0
Leaves x b way count p s d = (bucket : ℕ → ℕ) (turn : ℕ → ℕ → ℕ) → Grown (buckets x) bucket turn (slot_at x) count
    → ((i : ℕ) → i < count → p i ≡ true → (bucket i ≡ b) × ((k : ℕ) → turn i k ≡ way k)) → Left (buckets x) (slot_at x) way p count s d

module _ {m : ℕ} {bucket : ℕ → ℕ} {turn : ℕ → ℕ → ℕ} {slot : ℕ → ℕ} {count : ℕ} (I : Grown m bucket turn slot count) (b : ℕ) (in_m : b < m) (way : ℕ → ℕ) (p : ℕ → Bool)
    (here : (i : ℕ) → i < count → p i ≡ true → (bucket i ≡ b) × ((d : ℕ) → turn i d ≡ way d)) where
  pub start : Left m slot way p count b 0
  start i l e =
      let (at, same) = here i l e in
      let (n, (f, (L, q))) = I.reached i l (omega (arith, at)) in
      (n, (f, (leads_turns m slot (turn i) way same n b 0 f (subst (λ (s : ℕ). Leads m slot (turn i) n s 0 f) at L), q)))

module _ (m : ℕ) (slot way : ℕ → ℕ) (p : ℕ → Bool) (count s d : ℕ) (L : Left m slot way p count s d) where
  pub step : (k t : ℕ) → k ≡ slot s → 0 < k → p (k - 1) ≡ false → t ≡ way d → Left m slot way p count (child m (k - 1) t) (d + 1)
  step k t q h miss u i l e =
      rw (u, add-one d)
      (reaches_next m slot way s d i (k - 1) (let z : slot s ≡ suc (k - 1) = omega (arith, q) in z) (λ w. contrary (sym e ∙ (ap p w ∙ miss))) (L i l e))

  pub missed : slot s ≡ 0 → Followed p count 0
  missed z = record {
    within = omega arith;
    found = λ l. absurd (omega arith);
    absent = λ _ i l. by (p i) (λ e. absurd (reaches_none m slot way s d i z (L i l e))) (λ e. e);
  }

pub hit : (p : ℕ → Bool) (count k : ℕ) → k ≤ count → 0 < k → p (k - 1) ≡ true → Followed p count k
hit p count k h q e = record { within = h; found = λ _. e; absent = λ z. absurd (omega arith) }

-- How many numbers may still be met: they rise on the way.
abbrev pub ahead : ℕ → ℕ → ℕ
ahead count zero = 0
ahead count (suc k) = count - k

pub fewer : (count k next : ℕ) → 0 < k → k ≤ count → (0 < next → k < next) → next ≤ count → ahead count next < ahead count k
fewer count (suc k) zero h l f g = omega arith
fewer count (suc k) (suc n) h l f g = let w = f (omega arith) in omega (arith, w)
fewer count zero n h l f g = absurd (omega arith)

-- The slot at hand has the number k, and the turns have led to it from the bucket b.
pub record Came (x : Text) (count : ℕ) (way : ℕ → ℕ) (b place level k : ℕ) : Type 0 where
  pub inside : place < 3 * buckets x
  pub held : k ≡ slot_at x place
  pub small : k ≤ least count (buckets x)
  pub rising : 0 < k → level < k
  pub led : Leads (buckets x) (slot_at x) way level b 0 place

module _ (x : Text) (count : ℕ) (way : ℕ → ℕ) (L : Linked x count) (b : ℕ) where
  pub came_start : (k : ℕ) → b < buckets x → k ≡ slot_at x b → Came x count way b b 0 k
  unfolding Leads
  came_start k h e = record { inside = omega arith; held = e; small = omega (arith, e, L.within b (omega arith)); rising = λ q. q; led = refl }

  -- Behind a term that is another.
  module _ (place level k t next : ℕ) (C : Came x count way b place level k) (q : 0 < k) (e : t ≡ way level) (l : t < 2) (n : next ≡ slot_at x (child (buckets x) (k - 1) t)) where
    in_buckets : k - 1 < buckets x
    in_buckets = omega (arith, C.small, least_right count (buckets x))

    in_slots : child (buckets x) (k - 1) t < 3 * buckets x
    in_slots = omega (arith, in_buckets)

    pub higher : 0 < next → k < next
    higher h = omega (arith, n, L.deeper (k - 1) t in_buckets l (omega (arith, n)))

    pub came_step : Came x count way b (child (buckets x) (k - 1) t) (level + 1) next
    came_step = record {
      inside = in_slots;
      held = n;
      small = omega (arith, n, L.within (child (buckets x) (k - 1) t) in_slots);
      rising = λ h. omega (arith, higher h, C.rising q);
      led =
          subst (λ (d : ℕ). Leads (buckets x) (slot_at x) way d b 0 (child (buckets x) (k - 1) t)) (sym (add-one level))
          (subst (λ (u : ℕ). Leads (buckets x) (slot_at x) way (suc level) b 0 (child (buckets x) (k - 1) u)) (ap way (let z : 0 + level ≡ level = omega arith in z) ∙ sym e)
          (leads_on (buckets x) (slot_at x) way level b 0 place (k - 1) C.led (let z : slot_at x place ≡ suc (k - 1) = omega (arith, C.held) in z)));
    }

    pub still_fewer : ahead (least count (buckets x)) next < ahead (least count (buckets x)) k
    still_fewer = fewer (least count (buckets x)) k next q C.small higher came_step.small

-- ---- One term more

-- The terms that were there keep their buckets and turns.
module _ {m : ℕ} {bucket : ℕ → ℕ} {turn : ℕ → ℕ → ℕ} {slot : ℕ → ℕ} {count : ℕ} (I : Grown m bucket turn slot count) (bucket' : ℕ → ℕ) (turn' : ℕ → ℕ → ℕ)
    (old : (i : ℕ) → i < count → bucket' i ≡ bucket i) (same : (i : ℕ) → i < count → (d : ℕ) → turn i d ≡ turn' i d) where
  kept : (slot' : ℕ → ℕ) → ((turn : ℕ → ℕ) (n s d e : ℕ) → Leads m slot turn n s d e → Leads m slot' turn n s d e) → ((e i : ℕ) → slot e ≡ suc i → slot' e ≡ suc i)
      → (i : ℕ) → i < count → bucket' i < m → Reaches m slot' (turn' i) (bucket' i) 0 i
  kept slot' f g i l h =
      let (n, (e, (L, q))) = I.reached i l (omega (arith, old i l)) in
      (n, (e, (leads_turns m slot' (turn i) (turn' i) (same i l) n (bucket' i) 0 e (subst (λ (s : ℕ). Leads m slot' (turn i) n s 0 e) (sym (old i l)) (f (turn i) n (bucket i) 0 e L)), g e i q)))

  pub same_trees : Grown m bucket' turn' slot count
  same_trees = record { reached = kept slot (λ t n s d e L. L) (λ e i q. q); within = I.within; deeper = I.deeper }

  -- One more that has no bucket changes nothing.
  pub skipped : m ≤ bucket' count → Grown m bucket' turn' slot (count + 1)
  skipped away = record {
    reached = λ i l h. three i count (λ lt. kept slot (λ t n s d e L. L) (λ e i q. q) i lt h) (λ eq. absurd (omega (arith, ap bucket' eq))) (λ gt. absurd (omega arith));
    within = λ s h. omega (arith, I.within s h);
    deeper = I.deeper;
  }

  -- One more is put into the empty slot f, where its turns lead.
  module _ (some : count < m) (slot' : ℕ → ℕ) (f : ℕ) (empty : slot f ≡ 0) (filled : slot' f ≡ count + 1) (others : (s : ℕ) → (s ≡ f → ⊥) → slot' s ≡ slot s)
      (in_m : bucket' count < m) (small : (d : ℕ) → turn' count d < 2) (n : ℕ) (way : Leads m slot (turn' count) n (bucket' count) 0 f) where
    still : (e i : ℕ) → slot e ≡ suc i → slot' e ≡ suc i
    still e i q = others e (λ w. omega (arith, q, ap slot w, empty)) ∙ q

    on_way : (turn : ℕ → ℕ) (n s d e : ℕ) → Leads m slot turn n s d e → Leads m slot' turn n s d e
    on_way = leads_kept m slot slot' f empty others

    below : (c t k : ℕ) → t < 2 → child m c t ≡ f → Leads m slot (turn' count) k (bucket' count) 0 f → c < count
    unfolding Leads
    below c t zero h e L = absurd (omega (arith, e, L, in_m))
    below c t (suc k) h e L =
        let (b, (l, (u, (g, q)))) = leads_last m slot count (omega arith) I.within (turn' count) small k (bucket' count) 0 f (omega (arith, in_m)) L in
        omega (arith, e, q, l, g, h)

    pub grown : Grown m bucket' turn' slot' (count + 1)
    grown = record {
      reached = λ i l h. three i count
          (λ lt. kept slot' on_way still i lt h)
          (λ eq. subst (λ (k : ℕ). Reaches m slot' (turn' k) (bucket' k) 0 k) (sym eq) (n, (f, (on_way (turn' count) n (bucket' count) 0 f way, omega (arith, filled)))))
          (λ gt. absurd (omega arith));
      within = λ s h. two s f (λ e. omega (arith, ap slot' e, filled)) (λ ne. omega (arith, others s ne, I.within s h));
      deeper = λ c t l h q. two (child m c t) f
          (λ e. omega (arith, ap slot' e, filled, below c t n h e way))
          (λ ne. omega (arith, others (child m c t) ne, I.deeper c t l h (omega (arith, others (child m c t) ne))));
    }

-- No term is indexed.
pub nothing_followed : (p : ℕ → Bool) (count : ℕ) → count ≡ 0 → Followed p count 0
nothing_followed p count e = record { within = omega arith; found = λ h. absurd (omega arith); absent = λ z i h. absurd (omega arith) }

pub some_bucket : (m : ℕ) → (m ≡ 0 → ⊥) → 0 < m
some_bucket m ne = elim (dec_le 1 m) [ yes p ↦ p | no p ↦ absurd (ne (omega (arith, p))) ]

-- What `best` computes is the longest match.
use mathlib.Core.Path.{◌≡◌, refl, subst, sym, ap, ap₂, ◌∙◌}
use mathlib.Core.Logic.{◌⊎◌, inl, inr, ⊎_elim}
use mathlib.Core.Bool.{Bool, true, false, ◌&&◌, ◌||◌}
use mathlib.Core.List.{List, [], ◌∷◌, ◌++◌}
use Prim.Native.Nat.{ℕ, suc, ◌+◌, ◌≤◌}
use native.Mathlib.Omega.{arith}
use borrow.Author.Tests.{leb-true, leb-false}
use lib.Dec.{T, leb}
use lib.ListN.{length}
use Rattle.text.specs.Text.{cond}
use Rattle.utf8.specs.Utf8.{width}
use Rattle.utf8.proofs.Tests.{and_true}
use Rattle.token.specs.Regular.{Re, eps, set, seq, alt, star, in_set, Star, stop, more, Matches, Item, item, Some, Match, nothing, hit, Hit, Longest, size, nullable, cat, cats, after, of_kind, step, least_of, now_at, later, best}
use Rattle.token.specs.Terminals.{token_at, terminals_at}

head_eq : {a b : ℕ} {x y : List ℕ} → a ∷ x ≡ b ∷ y → a ≡ b
head_eq e = cc

tail_eq : {a b : ℕ} {x y : List ℕ} → a ∷ x ≡ b ∷ y → x ≡ y
tail_eq e = cc

no_cons : {X : Type 0} {a : ℕ} {x : List ℕ} → [] ≡ a ∷ x → X
no_cons e = let z : ◌≡◌ {A = ℕ} 0 1 = cc in absurd (omega arith)

nil_left : (x y : List ℕ) → [] ≡ x ++ y → x ≡ []
nil_left [] y e = refl
nil_left (a ∷ x) y e = no_cons e

nil_right : (x y : List ℕ) → [] ≡ x ++ y → y ≡ []
nil_right [] y e = sym e
nil_right (a ∷ x) y e = no_cons e

and_in : (a b : Bool) → T a → T b → T (a && b)
and_in true b s t = t
and_in false b s t = s

or_left : (a b : Bool) → T a → T (a || b)
or_left true b t = tt
or_left false b t = absurd t

or_right : (a b : Bool) → T b → T (a || b)
or_right true b t = tt
or_right false b t = t

or_out : (a b : Bool) → T (a || b) → T a ⊎ T b
or_out true b t = inl tt
or_out false b t = inr t

-- ---- The empty text

null_to : (r : Re) → Matches r [] → T (nullable r)
null_to eps m = tt
null_to (set b rs) m = no_cons m.1
null_to (seq p q) m =
    and_in (nullable p) (nullable q) (null_to p (subst (Matches p) (nil_left m.0 m.1 m.2) m.3))
    (null_to q (subst (Matches q) (nil_right m.0 m.1 m.2) m.4))
null_to (alt p q) (inl m) = or_left (nullable p) (nullable q) (null_to p m)
null_to (alt p q) (inr m) = or_right (nullable p) (nullable q) (null_to q m)
null_to (star p) m = tt

null_from : (r : Re) → T (nullable r) → Matches r []
null_from eps t = refl
null_from (set b rs) t = absurd t
null_from (seq p q) t = let v = and_true (nullable p) (nullable q) t in ([], [], refl, null_from p v.0, null_from q v.1)
null_from (alt p q) t = ⊎_elim (λ s. inl (null_from p s)) (λ s. inr (null_from q s)) (or_out (nullable p) (nullable q) t)
null_from (star p) t = stop

-- ---- One of several expressions

abbrev Any : List Re → List ℕ → Type 0
Any [] z = ⊥
Any (r ∷ rs) z = Matches r z ⊎ Any rs z

any_left : (xs ys : List Re) (z : List ℕ) → Any xs z → Any (xs ++ ys) z
any_left [] ys z a = absurd a
any_left (x ∷ xs) ys z (inl m) = inl m
any_left (x ∷ xs) ys z (inr a) = inr (any_left xs ys z a)

any_right : (xs ys : List Re) (z : List ℕ) → Any ys z → Any (xs ++ ys) z
any_right [] ys z a = a
any_right (x ∷ xs) ys z a = inr (any_right xs ys z a)

any_split : (xs ys : List Re) (z : List ℕ) → Any (xs ++ ys) z → Any xs z ⊎ Any ys z
any_split [] ys z a = inr a
any_split (x ∷ xs) ys z (inl m) = inl (inl m)
any_split (x ∷ xs) ys z (inr a) = ⊎_elim (λ b. inl (inr b)) (λ b. inr b) (any_split xs ys z a)

cat_to : (p q : Re) (x y z : List ℕ) → z ≡ x ++ y → Matches p x → Matches q y → Matches (cat p q) z
cat_to eps q x y z e m n = subst (Matches q) (sym (e ∙ ap (λ (t : List ℕ). t ++ y) m)) n
cat_to (set b rs) q x y z e m n = (x, y, e, m, n)
cat_to (seq p p') q x y z e m n = (x, y, e, m, n)
cat_to (alt p p') q x y z e m n = (x, y, e, m, n)
cat_to (star p) q x y z e m n = (x, y, e, m, n)

cat_from : (p q : Re) (z : List ℕ) → Matches (cat p q) z → Matches (seq p q) z
cat_from eps q z m = ([], z, refl, refl, m)
cat_from (set b rs) q z m = m
cat_from (seq p p') q z m = m
cat_from (alt p p') q z m = m
cat_from (star p) q z m = m

cats_to : (ps : List Re) (q : Re) (x y z : List ℕ) → z ≡ x ++ y → Any ps x → Matches q y → Any (cats ps q) z
cats_to [] q x y z e a n = absurd a
cats_to (p ∷ ps) q x y z e (inl m) n = inl (cat_to p q x y z e m n)
cats_to (p ∷ ps) q x y z e (inr a) n = inr (cats_to ps q x y z e a n)

cats_from : (ps : List Re) (q : Re) (z : List ℕ) → Any (cats ps q) z → (x : List ℕ) × (y : List ℕ) × (z ≡ x ++ y) × Any ps x × Matches q y
cats_from [] q z a = absurd a
cats_from (p ∷ ps) q z (inl m) = let v = cat_from p q z m in (v.0, v.1, v.2, inl v.3, v.4)
cats_from (p ∷ ps) q z (inr a) = let v = cats_from ps q z a in (v.0, v.1, v.2, inr v.3, v.4)

if_to : (b : Bool) (rs : List Re) (z : List ℕ) → T b → Any rs z → Any (cond b rs []) z
if_to true rs z t a = a
if_to false rs z t a = absurd t

if_from : (b : Bool) (rs : List Re) (z : List ℕ) → Any (cond b rs []) z → T b × Any rs z
if_from true rs z a = (tt, a)
if_from false rs z a = absurd a

-- ---- What is left after a code point matches what is left of the text

after_to : (r : Re) (c : ℕ) (z : List ℕ) → Matches r (c ∷ z) → Any (after c r) z
after_to eps c z m = no_cons (sym m)
after_to (set b rs) c z m =
    if_to (in_set c b rs) (eps ∷ []) z (subst (λ (d : ℕ). T (in_set d b rs)) (sym (head_eq m.1)) m.2) (inl (tail_eq m.1))
after_to (seq p q) c z m = go m.0 m.2 m.3 (λ x a. after_to p c x a) (λ a. after_to q c z a)
  where
    go : (x : List ℕ) → c ∷ z ≡ x ++ m.1 → Matches p x → ((x : List ℕ) → Matches p (c ∷ x) → Any (after c p) x) → (Matches q (c ∷ z) → Any (after c q) z)
        → Any (after c (seq p q)) z
    go [] e n f g =
        any_right (cats (after c p) q) (cond (nullable p) (after c q) []) z
        (if_to (nullable p) (after c q) z (null_to p n) (g (subst (Matches q) (sym e) m.4)))
    go (d ∷ x) e n f g =
        any_left (cats (after c p) q) (cond (nullable p) (after c q) []) z
        (cats_to (after c p) q x m.1 z (tail_eq e) (f x (subst (λ (a : ℕ). Matches p (a ∷ x)) (sym (head_eq e)) n)) m.4)
after_to (alt p q) c z (inl m) = any_left (after c p) (after c q) z (after_to p c z m)
after_to (alt p q) c z (inr m) = any_right (after c p) (after c q) z (after_to q c z m)
after_to (star p) c z m = go m refl (λ x a. after_to p c x a)
  where
    go : {t : List ℕ} → Star (Matches p) t → c ∷ z ≡ t → ((x : List ℕ) → Matches p (c ∷ x) → Any (after c p) x) → Any (cats (after c p) (star p)) z
    go stop e f = no_cons (sym e)
    go (more d x y n s w) e f =
        cats_to (after c p) (star p) x y z (tail_eq (e ∙ w)) (f x (subst (λ (a : ℕ). Matches p (a ∷ x)) (sym (head_eq (e ∙ w))) n)) s

after_from : (r : Re) (c : ℕ) (z : List ℕ) → Any (after c r) z → Matches r (c ∷ z)
after_from eps c z a = absurd a
after_from (set b rs) c z a =
    let v = if_from (in_set c b rs) (eps ∷ []) z a in
    (c, ⊎_elim (λ (e : z ≡ []). ap (λ (x : List ℕ). c ∷ x) e) (λ x. absurd x) v.1, v.0)
after_from (seq p q) c z a =
    ⊎_elim
    (λ b. let v = cats_from (after c p) q z b in (c ∷ v.0, v.1, ap (λ (x : List ℕ). c ∷ x) v.2, after_from p c v.0 v.3, v.4))
    (λ b. let v = if_from (nullable p) (after c q) z b in ([], c ∷ z, refl, null_from p v.0, after_from q c z v.1))
    (any_split (cats (after c p) q) (cond (nullable p) (after c q) []) z a)
after_from (alt p q) c z a = ⊎_elim (λ b. inl (after_from p c z b)) (λ b. inr (after_from q c z b)) (any_split (after c p) (after c q) z a)
after_from (star p) c z a =
    let v = cats_from (after c p) (star p) z a in
    more c v.0 v.1 (after_from p c v.0 v.3) v.4 (ap (λ (x : List ℕ). c ∷ x) v.2)

-- ---- Expressions with kinds

kind_to : (j k : ℕ) (rs : List Re) (S : List Item) (z : List ℕ) → j ≡ k → Any rs z → Some (of_kind j rs ++ S) k z
kind_to j k [] S z e a = absurd a
kind_to j k (r ∷ rs) S z e (inl m) = inl (e, m)
kind_to j k (r ∷ rs) S z e (inr a) = inr (kind_to j k rs S z e a)

kind_past : (j k : ℕ) (rs : List Re) (S : List Item) (z : List ℕ) → Some S k z → Some (of_kind j rs ++ S) k z
kind_past j k [] S z a = a
kind_past j k (r ∷ rs) S z a = inr (kind_past j k rs S z a)

kind_from : (j k : ℕ) (rs : List Re) (S : List Item) (z : List ℕ) → Some (of_kind j rs ++ S) k z → ((j ≡ k) × Any rs z) ⊎ Some S k z
kind_from j k [] S z a = inr a
kind_from j k (r ∷ rs) S z (inl m) = inl (m.0, inl m.1)
kind_from j k (r ∷ rs) S z (inr a) = ⊎_elim (λ v. inl (v.0, inr v.1)) (λ b. inr b) (kind_from j k rs S z a)

step_to : (S : List Item) (k c : ℕ) (z : List ℕ) → Some S k (c ∷ z) → Some (step c S) k z
step_to [] k c z a = absurd a
step_to (item j r ∷ xs) k c z (inl m) = kind_to j k (after c r) (step c xs) z m.0 (after_to r c z m.1)
step_to (item j r ∷ xs) k c z (inr a) = kind_past j k (after c r) (step c xs) z (step_to xs k c z a)

step_from : (S : List Item) (k c : ℕ) (z : List ℕ) → Some (step c S) k z → Some S k (c ∷ z)
step_from [] k c z a = absurd a
step_from (item j r ∷ xs) k c z a =
    ⊎_elim (λ v. inl (v.0, after_from r c z v.1)) (λ b. inr (step_from xs k c z b)) (kind_from j k (after c r) (step c xs) z a)

-- ---- The kinds that match the empty text

abbrev Now : List Item → Match → Type 0
Now S nothing = (j : ℕ) → Some S j [] → ⊥
Now S (hit k n) = (n ≡ 0) × Some S k [] × ((j : ℕ) → Some S j [] → k ≤ j)

now_skip : (k : ℕ) (r : Re) (xs : List Item) → (Matches r [] → ⊥) → (a : Match) → Now xs a → Now (item k r ∷ xs) a
now_skip k r xs nm nothing h = λ j. λ s. ⊎_elim (λ v. nm v.1) (λ b. h j b) s
now_skip k r xs nm (hit i n) h = (h.0, inr h.1, λ j s. ⊎_elim (λ v. absurd (nm v.1)) (λ b. h.2 j b) s)

total : (a b : ℕ) → (a ≤ b) ⊎ (b ≤ a)
total a b = go (leb a b) refl
  where
    go : (t : Bool) → leb a b ≡ t → (a ≤ b) ⊎ (b ≤ a)
    go true e = inl (leb-true a b e)
    go false e = inr (let h = leb-false a b e in omega arith)

now_take : (k : ℕ) (r : Re) (xs : List Item) → Matches r [] → (a : Match) → Now xs a → Now (item k r ∷ xs) (least_of k a)
now_take k r xs m nothing h = (refl, inl (refl, m), λ j s. ⊎_elim (λ v. let e = v.0 in omega arith) (λ b. absurd (h j b)) s)
now_take k r xs m (hit i n) h = (
  h.0,
  ⊎_elim (λ (l : k ≤ i). inl (omega arith, m)) (λ (l : i ≤ k). inr (subst (λ (x : ℕ). Some xs x []) (omega arith) h.1)) (total k i),
  λ j s. ⊎_elim (λ v. let e = v.0 in omega arith) (λ b. let g = h.2 j b in omega arith) s,
)

now_ok : (S : List Item) → Now S (now_at S)
now_ok [] = λ j s. s
now_ok (item k r ∷ xs) = go (nullable r) refl (now_ok xs)
  where
    go : (b : Bool) → nullable r ≡ b → Now xs (now_at xs) → Now (item k r ∷ xs) (now_at (item k r ∷ xs))
    go true e h = rw e (now_take k r xs (null_from r (rw e tt)) (now_at xs) h)
    go false e h = rw e (now_skip k r xs (λ m. rw e at (null_to r m)) (now_at xs) h)

-- ---- The longest

module _ (w : ℕ → ℕ) where
  front_cut : (S : List Item) (c d j : ℕ) (cs x y : List ℕ) → c ∷ cs ≡ d ∷ (x ++ y) → Some S j (d ∷ x) → Some (step c S) j x
  front_cut S c d j cs x y e s = step_to S j c x (subst (λ (a : ℕ). Some S j (a ∷ x)) (sym (head_eq e)) s)

  later_nothing : (S : List Item) (c : ℕ) (cs : List ℕ) → Longest w (step c S) cs nothing → (b : Match) → Now S b → Longest w S (c ∷ cs) b
  later_nothing S c cs h nothing n = go
    where
      go : (x y : List ℕ) (j : ℕ) → c ∷ cs ≡ x ++ y → Some S j x → ⊥
      go [] y j e s = n j s
      go (d ∷ x) y j e s = h x y j (tail_eq e) (front_cut S c d j cs x y e s)
  later_nothing S c cs h (hit k m) n = record { front = []; back = c ∷ cs; whole = refl; bytes = n.0; match = n.1; longest = go; least = n.2 }
    where
      go : (x y : List ℕ) (j : ℕ) → c ∷ cs ≡ x ++ y → Some S j x → length x ≤ 0
      go [] y j e s = omega arith
      go (d ∷ x) y j e s = absurd (h x y j (tail_eq e) (front_cut S c d j cs x y e s))

  later_hit : (S : List Item) (c k m : ℕ) (cs : List ℕ) → Hit w (step c S) cs k m → Hit w S (c ∷ cs) k (w c + m)
  later_hit S c k m cs h = record {
    front = c ∷ h.front;
    back = h.back;
    whole = ap (λ (x : List ℕ). c ∷ x) h.whole;
    bytes = ap (λ (x : ℕ). w c + x) h.bytes;
    match = step_from S k c h.front h.match;
    longest = go;
    least = λ j s. h.least j (step_to S j c h.front s);
  }
    where
      go : (x y : List ℕ) (j : ℕ) → c ∷ cs ≡ x ++ y → Some S j x → length x ≤ suc (length h.front)
      go [] y j e s = omega arith
      go (d ∷ x) y j e s = let g = h.longest x y j (tail_eq e) (front_cut S c d j cs x y e s) in omega arith

  later_ok : (S : List Item) (c : ℕ) (cs : List ℕ) (a : Match) → Longest w (step c S) cs a → Longest w S (c ∷ cs) (later (w c) a (now_at S))
  later_ok S c cs nothing h = later_nothing S c cs h (now_at S) (now_ok S)
  later_ok S c cs (hit k m) h = later_hit S c k m cs h

  now_longest : (S : List Item) (b : Match) → Now S b → Longest w S [] b
  now_longest S nothing n = λ x y j e s. n j (subst (Some S j) (nil_left x y e) s)
  now_longest S (hit k m) n = record {
    front = [];
    back = [];
    whole = refl;
    bytes = n.0;
    match = n.1;
    longest = λ x y j e s. let l = ap length (nil_left x y e) in omega arith;
    least = n.2;
  }

  pub best_longest : (S : List Item) (cs : List ℕ) → Longest w S cs (best w S cs)
  best_longest S [] = now_longest S (now_at S) (now_ok S)
  best_longest S (c ∷ cs) = later_ok S c cs (best w (step c S) cs) (best_longest (step c S) cs)

-- Two beginnings of a text that are as long are the same.
same_front : (x y x' y' : List ℕ) → x ++ y ≡ x' ++ y' → length x ≡ length x' → x ≡ x'
same_front [] y [] y' e l = refl
same_front [] y (b ∷ x') y' e l = absurd (omega arith)
same_front (a ∷ x) y [] y' e l = absurd (omega arith)
same_front (a ∷ x) y (b ∷ x') y' e l = ap₂ ◌∷◌ (head_eq e) (same_front x y x' y' (tail_eq e) (omega arith))

-- There is one longest match, so that nothing else need be known of how it is computed.
pub longest_once : (w : ℕ → ℕ) (S : List Item) (z : List ℕ) (m m' : Match) → Longest w S z m → Longest w S z m' → m ≡ m'
longest_once w S z nothing nothing h g = refl
longest_once w S z nothing (hit j n) h g = absurd (h g.front g.back j g.whole g.match)
longest_once w S z (hit k n) nothing h g = absurd (g h.front h.back k h.whole h.match)
longest_once w S z (hit k n) (hit j n') h g =
    let a = h.longest g.front g.back j g.whole g.match in
    let b = g.longest h.front h.back k h.whole h.match in
    let f = same_front h.front h.back g.front g.back (sym h.whole ∙ g.whole) (omega arith) in
    let c = h.least j (subst (Some S j) (sym f) g.match) in
    let d = g.least k (subst (Some S k) f h.match) in
    ap₂ hit (omega arith) (h.bytes ∙ ap (size w) f ∙ sym g.bytes)

-- The token at the front is the longest match over the terminals that may stand there.
pub token_longest : (cs : List ℕ) → Longest width (terminals_at cs) cs (token_at cs)
unfolding token_at
token_longest cs = best_longest width (terminals_at cs) cs

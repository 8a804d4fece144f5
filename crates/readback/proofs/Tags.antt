-- Language tags that the writer takes: behind its @ the whole tag is the token, also before a blank.
-- Whatever is left of LANGTAG takes printable ASCII alone, so that a blank ends it and no other code point is in it.
use mathlib.Core.Path.{◌≡◌, refl, subst, sym, ap, ap₂, ◌∙◌}
use mathlib.Core.Logic.{◌⊎◌, inl, inr, ⊎_elim}
use mathlib.Core.Bool.{Bool, true, false, ◌&&◌}
use mathlib.Core.List.{List, [], ◌∷◌, ◌++◌}
use Prim.Native.Nat.{ℕ, suc, ◌+◌, ◌≤◌, ◌<◌}
use native.Mathlib.Omega.{arith}
use borrow.Author.Tests.{lt-ltb, lt-leb}
use lib.Dec.{T, eqb, leb, eqb→eq, leb→le}
use lib.ListN.{length}
use Rattle.text.specs.Text.{Text, cond}
use Rattle.text.proofs.Booleans.{and_in}
use Rattle.text.proofs.Compare.{and_false}
use Rattle.utf8.specs.Utf8.{width, Range, ◌–◌}
use Rattle.utf8.proofs.Tests.{split, and_true}
use Rattle.token.specs.Kind.{kind_code, LANGTAG}
use Rattle.token.specs.Regular.{Re, eps, set, seq, alt, star, in_ranges, in_set, item, Match, nothing, hit, size, Longest, nullable, cat, cats, after, of_kind, step, now_at, later, best}
use Rattle.token.specs.Terminals.{terminals, long_terminals, token_at}
use Rattle.token.proofs.Longest.{best_longest}
use Rattle.automaton.specs.States.{State, steps}
use Rattle.table.specs.Usable.{is_match, is_tag}
use Rattle.readback.proofs.Undone.{lows}
use Rattle.readback.proofs.Printed.{nothing_left, token_by, no_quote}

-- ---- Expressions that take printable ASCII alone

abbrev pub confined_ranges : List Range → Bool
confined_ranges [] = true
confined_ranges ((lo – hi) ∷ rs) = leb 33 lo && leb hi 127 && confined_ranges rs

abbrev pub confined : Re → Bool
confined eps = true
confined (set true rs) = confined_ranges rs
confined (set false rs) = false
confined (seq p q) = confined p && confined q
confined (alt p q) = confined p && confined q
confined (star p) = confined p

abbrev confined_all : List Re → Bool
confined_all [] = true
confined_all (r ∷ rs) = confined r && confined_all rs

abbrev confined_state : State → Bool
confined_state [] = true
confined_state (item k r ∷ xs) = confined r && confined_state xs

-- No printable ASCII.
abbrev pub Outside : ℕ → Type 0
Outside c = (c ≤ 32) ⊎ (128 ≤ c)

out_range : (c lo hi : ℕ) → Outside c → 33 ≤ lo → hi ≤ 127 → (leb lo c && leb c hi) ≡ false
out_range c lo hi (inl h) l u = simp (lt-leb lo c (omega arith))
out_range c lo hi (inr h) l u = simp (lt-leb c hi (omega arith), and_false)

pub out_ranges : (c : ℕ) (rs : List Range) → Outside c → T (confined_ranges rs) → in_ranges c rs ≡ false
out_ranges c [] o t = refl
out_ranges c ((lo – hi) ∷ rs) o t =
    let v = and_true (leb 33 lo && leb hi 127) (confined_ranges rs) t in
    let w = and_true (leb 33 lo) (leb hi 127) v.0 in
    simp (out_range c lo hi o (leb→le 33 lo w.0) (leb→le hi 127 w.1), out_ranges c rs o v.1)

out_after : (c : ℕ) (r : Re) → Outside c → T (confined r) → after c r ≡ []
out_after c eps o t = refl
out_after c (set true rs) o t = ap (λ (b : Bool). cond b (eps ∷ []) []) (out_ranges c rs o t)
out_after c (set false rs) o t = absurd t
out_after c (seq p q) o t =
    let v = and_true (confined p) (confined q) t in
    ap₂ (λ (x y : List Re). cats x q ++ cond (nullable p) y []) (out_after c p o v.0) (out_after c q o v.1) ∙ none (nullable p)
  where
    none : (b : Bool) → ◌≡◌ {A = List Re} (cond b [] []) []
    none true = refl
    none false = refl
out_after c (alt p q) o t =
    let v = and_true (confined p) (confined q) t in
    ap₂ (λ (x y : List Re). x ++ y) (out_after c p o v.0) (out_after c q o v.1)
out_after c (star p) o t = ap (λ (x : List Re). cats x (star p)) (out_after c p o t)

out_step : (c : ℕ) (q : State) → Outside c → T (confined_state q) → step c q ≡ []
out_step c [] o t = refl
out_step c (item k r ∷ xs) o t =
    let v = and_true (confined r) (confined_state xs) t in
    ap₂ (λ (x : List Re) (y : State). of_kind k x ++ y) (out_after c r o v.0) (out_step c xs o v.1)

confined_append : (xs ys : List Re) → T (confined_all xs) → T (confined_all ys) → T (confined_all (xs ++ ys))
confined_append [] ys t u = u
confined_append (x ∷ xs) ys t u =
    let v = and_true (confined x) (confined_all xs) t in
    and_in (confined x) (confined_all (xs ++ ys)) v.0 (confined_append xs ys v.1 u)

confined_cat : (p q : Re) → T (confined p) → T (confined q) → T (confined (cat p q))
confined_cat eps q t u = u
confined_cat (set b rs) q t u = and_in (confined (set b rs)) (confined q) t u
confined_cat (seq a b) q t u = and_in (confined (seq a b)) (confined q) t u
confined_cat (alt a b) q t u = and_in (confined (alt a b)) (confined q) t u
confined_cat (star a) q t u = and_in (confined (star a)) (confined q) t u

confined_cats : (ps : List Re) (q : Re) → T (confined_all ps) → T (confined q) → T (confined_all (cats ps q))
confined_cats [] q t u = tt
confined_cats (p ∷ ps) q t u =
    let v = and_true (confined p) (confined_all ps) t in
    and_in (confined (cat p q)) (confined_all (cats ps q)) (confined_cat p q v.0 u) (confined_cats ps q v.1 u)

confined_if : (b : Bool) (rs : List Re) → T (confined_all rs) → T (confined_all (cond b rs []))
confined_if true rs t = t
confined_if false rs t = tt

confined_after : (c : ℕ) (r : Re) → T (confined r) → T (confined_all (after c r))
confined_after c eps t = tt
confined_after c (set b rs) t = confined_if (in_set c b rs) (eps ∷ []) tt
confined_after c (seq p q) t =
    let v = and_true (confined p) (confined q) t in
    confined_append (cats (after c p) q) (cond (nullable p) (after c q) []) (confined_cats (after c p) q (confined_after c p v.0) v.1)
    (confined_if (nullable p) (after c q) (confined_after c q v.1))
confined_after c (alt p q) t =
    let v = and_true (confined p) (confined q) t in
    confined_append (after c p) (after c q) (confined_after c p v.0) (confined_after c q v.1)
confined_after c (star p) t = confined_cats (after c p) (star p) (confined_after c p t) t

confined_kind : (k : ℕ) (rs : List Re) (xs : State) → T (confined_all rs) → T (confined_state xs) → T (confined_state (of_kind k rs ++ xs))
confined_kind k [] xs t u = u
confined_kind k (r ∷ rs) xs t u =
    let v = and_true (confined r) (confined_all rs) t in
    and_in (confined r) (confined_state (of_kind k rs ++ xs)) v.0 (confined_kind k rs xs v.1 u)

confined_step : (c : ℕ) (q : State) → T (confined_state q) → T (confined_state (step c q))
confined_step c [] t = tt
confined_step c (item k r ∷ xs) t =
    let v = and_true (confined r) (confined_state xs) t in
    confined_kind k (after c r) (step c xs) (confined_after c r v.0) (confined_step c xs v.1)

-- ---- A text that is a token as a whole

-- A match of the empty text has no bytes.
flat : (q : State) (k n : ℕ) → now_at q ≡ hit k n → n ≡ 0
flat q k n e = let h = subst (Longest width q []) e (best_longest width q []) in h.bytes ∙ none h.front h.back h.whole
  where
    none : (x y : List ℕ) → [] ≡ x ++ y → size width x ≡ 0
    none [] y e = refl
    none (a ∷ x) y e = let z : ◌≡◌ {A = ℕ} 0 1 = cc in absurd (omega arith)

-- A match with one byte more, in front of it.
longer : (m : Match) (q : State) (k n : ℕ) → later 1 m (now_at q) ≡ hit k (suc n) → m ≡ hit k n
longer nothing q k n e = let z = flat q k (suc n) e in absurd (omega arith)
longer (hit j i) q k n e =
    let p : j ≡ k = cc in
    let r : 1 + i ≡ suc n = cc in
    let s : i ≡ n = omega arith in
    ap₂ hit p s

-- The text is ASCII and ends a token of the kind k, and what is left takes printable ASCII alone.
record Whole (g : Text) (q : State) (k : ℕ) : Type 0 where
  ends : now_at (steps g q) ≡ hit k 0
  ascii_only : T (lows g)
  rest : T (confined_state (steps g q))

whole : (g : Text) (q : State) (k : ℕ) → T (confined_state q) → best width q g ≡ hit k (length g) → Whole g q k
whole [] q k t e = record { ends = e; ascii_only = tt; rest = t }
whole (c ∷ g) q k t e = ⊎_elim (λ h. low h (λ f. whole g (step c q) k (confined_step c q t) f)) (λ h. high h) (split c 128)
  where
    low : c < 128 → (best width (step c q) g ≡ hit k (length g) → Whole g (step c q) k) → Whole (c ∷ g) q k
    low h f =
        let w : width c ≡ 1 = simp (lt-ltb c 128 h) in
        let r = f (longer (best width (step c q) g) q k (length g) (ap (λ (n : ℕ). later n (best width (step c q) g) (now_at q)) (sym w) ∙ e)) in
        record { ends = r.ends; ascii_only = rw (lt-ltb c 128 h) r.ascii_only; rest = r.rest }

    high : 128 ≤ c → Whole (c ∷ g) q k
    high h =
        let d : best width q (c ∷ g) ≡ now_at q =
        ap (λ (x : State). later (width c) (best width x g) (now_at q)) (out_step c q (inr h) t) ∙ ap (λ (m : Match). later (width c) m (now_at q)) (nothing_left g) in
        let z = flat q k (suc (length g)) (sym d ∙ e) in
        absurd (omega arith)

-- ---- Tags

pub record TagToken (g : Text) : Type 0 where
  pub ascii_only : T (lows g)
  pub token : (ds : List ℕ) → token_at (64 ∷ (g ++ 32 ∷ ds)) ≡ hit (kind_code LANGTAG) (size width (64 ∷ g))

matched : (m : Match) (k n : ℕ) → is_match m k n ≡ true → m ≡ hit k n
unfolding is_match
matched nothing k n e = let z : ◌≡◌ {A = ℕ} 0 1 = cc in absurd (omega arith)
matched (hit j i) k n e = let v = and_true (eqb j k) (eqb i n) (subst T (sym e) tt) in ap₂ hit (eqb→eq j k v.0) (eqb→eq i n v.1)

pub tag_token : (g : Text) → is_tag g ≡ true → TagToken g
unfolding is_tag token_at
tag_token g e = record { ascii_only = r.ascii_only; token = λ ds. token_by (64 ∷ g) (32 ∷ ds) (kind_code LANGTAG) (no_quote 64 (g ++ 32 ∷ ds) refl refl) r.ends (out_step 32 (steps g (step 64 terminals)) (inl (omega arith)) r.rest) }
  where
    whole_tag : best width terminals (64 ∷ g) ≡ hit (kind_code LANGTAG) (suc (length g))
    whole_tag = ap (λ (b : Bool). best width (cond b long_terminals terminals) (64 ∷ g)) (sym (no_quote 64 g refl refl)) ∙ matched (token_at (64 ∷ g)) (kind_code LANGTAG) (suc (length g)) e

    r : Whole g (step 64 terminals) (kind_code LANGTAG)
    r = whole g (step 64 terminals) (kind_code LANGTAG) tt (longer (best width (step 64 terminals) g) terminals (kind_code LANGTAG) (length g) whole_tag)

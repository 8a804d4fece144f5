-- No list of token kinds has two derivations.
use mathlib.Core.Path.{◌≡◌, refl, sym, ap, ap₂, ◌∙◌, subst}
use mathlib.Core.List.{List, [], ◌∷◌, ◌++◌, head-eq_of_cons-eq, tail-eq_of_cons-eq}
use mathlib.Core.Bool.{Bool, true, false, ◌&&◌, ◌||◌, not}
use Prim.Native.Nat.{ℕ}
use lib.Dec.{T, T_not}
use Rattle.grammar.specs.Ebnf.{Expr, nt, ◌∣◌, star}
use Rattle.grammar.proofs.KindTrees.{Tree, leaf, node, both, left, right, done, more, absent, present, leaves}
use Rattle.grammar.proofs.Recogniser.{Stack, gate, nullE, null, nullS, afterE, afterN}
use Rattle.text.proofs.Booleans.{imp_use, and_in, and_0, and_1, or_0, or_1, all}
use Rattle.grammar.proofs.KindSets.{mem, disjoint, clear, mem_left, mem_right, mem_gate, clear_less, clear_left, clear_right, clear_gate, clear_not, all_use, subset_use, disjoint_use, clear_disjoint}
use Rattle.grammar.proofs.Tests.{firstE, firstS, lastE, sep, apart, wf, firsts, lasts, Passes, null_whole, first_whole, last_whole, decided}
use Rattle.grammar.proofs.Trees.{yield, yields, yield_append, leaves_yield, Forest, nil, ◌▹◌, Any, here, there}
use Rattle.grammar.proofs.Steps.{Start, none, some, start}

-- How a list begins that e derives in front of r.
pub data Head {K : Type 0} (same : K → K → Bool) (b : Bool) (fs r ks : List K) : Type 0 where
  blank : T b → ks ≡ r → Head same b fs r ks
  begins : (k : K) (us : List K) → ks ≡ k ∷ us → T (mem same k fs) → Head same b fs r ks

module _ {K : Type 0} (same : K → K → Bool) where
  head_seq :
      (b c : Bool) (fs gs : List K) {r m ks : List K}
      → Head same b fs m ks → Head same c gs r m → Head same (b && c) (fs ++ gate b gs) r ks
  head_seq b c fs gs (blank t p) (blank s q) = blank (and_in b c t s) (p ∙ q)
  head_seq b c fs gs (blank t p) (begins k us q m) = begins k us (p ∙ q) (mem_right same k fs (gate b gs) (mem_gate same k b gs t m))
  head_seq b c fs gs (begins k us p m) y = begins k us p (mem_left same k fs (gate b gs) m)

  head_left : (b c : Bool) (fs gs : List K) {r ks : List K} → Head same b fs r ks → Head same (b || c) (fs ++ gs) r ks
  head_left b c fs gs (blank t p) = blank (or_0 b c t) p
  head_left b c fs gs (begins k us p m) = begins k us p (mem_left same k fs gs m)

  head_right : (b c : Bool) (fs gs : List K) {r ks : List K} → Head same c gs r ks → Head same (b || c) (fs ++ gs) r ks
  head_right b c fs gs (blank t p) = blank (or_1 b c t) p
  head_right b c fs gs (begins k us p m) = begins k us p (mem_right same k fs gs m)

  head_more : (b : Bool) (fs : List K) {r m ks : List K} → Head same b fs m ks → Head same true fs r m → Head same true fs r ks
  head_more b fs (blank t p) (blank s q) = blank tt (p ∙ q)
  head_more b fs (blank t p) (begins k us q m) = begins k us (p ∙ q) m
  head_more b fs (begins k us p m) y = begins k us p m

  head_opt : (b : Bool) (fs : List K) {r ks : List K} → Head same b fs r ks → Head same true fs r ks
  head_opt b fs (blank t p) = blank tt p
  head_opt b fs (begins k us p m) = begins k us p m

  head_less :
      (b c : Bool) (fs gs : List K) {r ks : List K}
      → (T b → T c) → ((k : K) → T (mem same k fs) → T (mem same k gs)) → Head same b fs r ks → Head same c gs r ks
  head_less b c fs gs f g (blank t p) = blank (f t) p
  head_less b c fs gs f g (begins k us p m) = begins k us p (g k m)

  -- A list that cannot be blank begins with one of fs.
  pub head_full : (b : Bool) (fs : List K) {r ks : List K} → T (not b) → Head same b fs r ks → (k : K) × (us : List K) × (ks ≡ k ∷ us) × T (mem same k fs)
  head_full b fs t (blank s p) = absurd (T_not b t s)
  head_full b fs t (begins k us p m) = (k, us, p, m)

module _
    {K N : Type 0}
    (same : K → K → Bool)
    (same_eq : (j k : K) → T (same j k) → j ≡ k)
    (same_refl : (k : K) → T (same k k))
    (G : N → Expr K N)
    (depth : ℕ)
    (passes : Passes same G depth)
  where
    abbrev pub first : N → List K
    first = firsts same G depth

    abbrev pub last : N → List K
    last = lasts same G depth

    abbrev pub nul : Expr K N → Bool
    nul e = null same G depth e

    abbrev pub fi : Expr K N → List K
    fi e = firstE same G depth first e

    abbrev pub la : Expr K N → List K
    la e = lastE same G depth first last e

    abbrev pub ok : Expr K N → Bool
    ok e = wf same G depth first last e

    pub head : {e : Expr K N} (x : Tree G e) (r : List K) → Head same (nul e) (fi e) r (yield G x r)
    unfolding yield null nullE firstE mem null_whole first_whole
    head (leaf k) r = begins k r refl (or_0 (same k k) false (same_refl k))
    head (node n x) r =
        head_less same (nul (G n)) (nul (nt n)) (fi (G n)) (first n)
        (imp_use (nul (G n)) (nul (nt n)) (passes.null_ok n))
        (subset_use same same_eq (fi (G n)) (first n) (passes.first_ok n))
        (head x r)
    head (both {e} {f} x y) r = head_seq same (nul e) (nul f) (fi e) (fi f) (head x (yield G y r)) (head y r)
    head (left {e} {f} x) r = head_left same (nul e) (nul f) (fi e) (fi f) (head x r)
    head (right {e} {f} x) r = head_right same (nul e) (nul f) (fi e) (fi f) (head x r)
    head done r = blank tt refl
    head (more {e} x y) r = head_more same (nul e) (fi e) (head x (yield G y r)) (head y r)
    head absent r = blank tt refl
    head (present {e} x) r = head_opt same (nul e) (fi e) (head x r)

    pub headS : {S : Stack K N} (w : Forest G S) → Head same (nullS same G depth S) (firstS same G depth first S) [] (yields G w)
    unfolding yields nullS firstS
    headS nil = blank tt refl
    headS (◌▹◌ {e} {S} x w) = head_seq same (nul e) (nullS same G depth S) (fi e) (firstS same G depth first S) (head x (yields G w)) (headS w)

    -- What follows e in a sequence is clear of what e could go on with.
    clear_next :
        (ls : List K) {f : Expr K N} (y : Tree G f) (r : List K)
        → T (disjoint same ls (fi f)) → T (clear same (la f ++ gate (nul f) ls) r) → T (clear same ls (yield G y r))
    clear_next ls {f} y r d t = go (head y r)
      where
        go : {ks : List K} → Head same (nul f) (fi f) r ks → T (clear same ls ks)
        go (blank s p) = subst (λ l. T (clear same ls l)) (sym p) (clear_gate same (nul f) ls r s (clear_right same (la f) (gate (nul f) ls) r t))
        go (begins k us p m) = subst (λ l. T (clear same ls l)) (sym p) (clear_disjoint same same_eq ls (fi f) d k us m)

    clear_again :
        {e : Expr K N} (y : Tree G (star e)) (r : List K)
        → T (disjoint same (la e) (fi e)) → T (clear same (fi e ++ la e) r) → T (clear same (la e) (yield G y r))
    unfolding firstE
    clear_again {e} y r d t = go (head y r)
      where
        go : {ks : List K} → Head same (nul (star e)) (fi (star e)) r ks → T (clear same (la e) ks)
        go (blank s p) = subst (λ l. T (clear same (la e) l)) (sym p) (clear_right same (fi e) (la e) r t)
        go (begins k us p m) = subst (λ l. T (clear same (la e) l)) (sym p) (clear_disjoint same same_eq (la e) (fi e) d k us m)

    -- A repeat, or an optional part, cannot be left out of one text and stand in another of the same tokens.
    not_both : {e : Expr K N} (y : Tree G e) (r s : List K) → T (not (nul e)) → T (clear same (fi e ++ la e) r) → r ≡ yield G y s → ⊥
    not_both {e} y r s n t p =
        let (k, us, q, m) = head_full same (nul e) (fi e) n (head y s) in
        clear_not same (fi e ++ la e) r us k t (p ∙ q) (mem_left same k (fi e) (la e) m)

    any_all : (p : Stack K N → Bool) {L : List (Stack K N)} {us : List K} → T (all p L) → Any G L us → (S : Stack K N) × (w : Forest G S) × (yields G w ≡ us) × T (p S)
    unfolding all
    any_all p {L = S ∷ L} t (here w q) = (S, w, q, and_0 (p S) (all p L) t)
    any_all p {L = S ∷ L} t (there a) = any_all p (and_1 (p S) (all p L) t) a
    any_all p {L = []} t x6 = elim x6 [ ]

    -- What is left of two separate stacks does not begin alike.
    sep_not :
        (S R : Stack K N) (w : Forest G S) (v : Forest G R) (r s : List K)
        → T (sep same G depth first S R) → yields G w ++ r ≡ yields G v ++ s → ⊥
    unfolding sep
    sep_not S R w v r s t p =
        let nS = nullS same G depth S in
        let nR = nullS same G depth R in
        let fS = firstS same G depth first S in
        let fR = firstS same G depth first R in
        let t' = and_1 (not nS) (not nR && disjoint same fS fR) t in
        let (k, us, q, m) = head_full same nS fS (and_0 (not nS) (not nR && disjoint same fS fR) t) (headS w) in
        let (j, vs, o, l) = head_full same nR fR (and_0 (not nR) (disjoint same fS fR) t') (headS v) in
        let e : k ≡ j = head-eq_of_cons-eq (sym (ap (λ x. x ++ r) q) ∙ p ∙ ap (λ x. x ++ s) o) in
        disjoint_use same same_eq fS fR (and_1 (not nR) (disjoint same fS fR) t') k m (subst (λ i. T (mem same i fR)) (sym e) l)

    -- Two alternatives have no text in common.
    apart_not :
        {e f : Expr K N} (x : Tree G e) (y : Tree G f) (r s : List K)
        → T (not (nul e)) → T (not (nul f)) → T (apart same G depth first e f) → yield G x r ≡ yield G y s → ⊥
    unfolding yields apart
    apart_not {e} {f} x y r s ne nf t p =
        go
        (start same same_eq same_refl G depth passes x nil)
        (start same same_eq same_refl G depth passes y nil)
      where
        go : Start same G depth depth e [] [] (yield G x []) → Start same G depth depth f [] [] (yield G y []) → ⊥
        go (none c q) b = T_not (nul e) ne c
        go (some k us q a) (none c o) = T_not (nul f) nf c
        go (some k us q a) (some j vs o b) =
            let g : k ∷ (us ++ r) ≡ j ∷ (vs ++ s) =
            sym (yield_append G x [] r ∙ ap (λ l. l ++ r) q) ∙ p ∙ (yield_append G y [] s ∙ ap (λ l. l ++ s) o) in
            let (i, ws, z, m) = head_full same (nul e) (fi e) ne (head x []) in
            let m' : T (mem same k (fi e)) = subst (λ h. T (mem same h (fi e))) (head-eq_of_cons-eq (sym z ∙ q)) m in
            let (S, w, pw, tS) = any_all _ (all_use same same_eq _ (fi e) t k m') a in
            let (R, v, pv, tR) = any_all _ tS (subst (λ h. Any G (afterE same G depth (afterN same G depth depth) f h []) vs) (sym (head-eq_of_cons-eq g)) b) in
            sep_not S R w v r s tR (ap (λ l. l ++ r) pw ∙ tail-eq_of_cons-eq g ∙ ap (λ l. l ++ s) (sym pv))

    module _ (e f : Expr K N) (o : T (ok (e ∣ f))) where
      abbrev alt_a : Bool
      alt_a = apart same G depth first e f

      alt_0 : T (ok e)
      unfolding wf
      alt_0 = and_0 (ok e) (ok f && (not (nul e) && (not (nul f) && alt_a))) o

      alt_r1 : T (ok f && (not (nul e) && (not (nul f) && alt_a)))
      unfolding wf
      alt_r1 = and_1 (ok e) (ok f && (not (nul e) && (not (nul f) && alt_a))) o

      alt_1 : T (ok f)
      alt_1 = and_0 (ok f) (not (nul e) && (not (nul f) && alt_a)) alt_r1

      alt_r2 : T (not (nul e) && (not (nul f) && alt_a))
      alt_r2 = and_1 (ok f) (not (nul e) && (not (nul f) && alt_a)) alt_r1

      alt_2 : T (not (nul e))
      alt_2 = and_0 (not (nul e)) (not (nul f) && alt_a) alt_r2

      alt_r3 : T (not (nul f) && alt_a)
      alt_r3 = and_1 (not (nul e)) (not (nul f) && alt_a) alt_r2

      alt_3 : T (not (nul f))
      alt_3 = and_0 (not (nul f)) alt_a alt_r3

      alt_4 : T alt_a
      alt_4 = and_1 (not (nul f)) alt_a alt_r3

    module _ (e : Expr K N) (o : T (ok (star e))) where
      star_0 : T (ok e)
      unfolding wf
      star_0 = and_0 (ok e) (not (nul e) && disjoint same (la e) (fi e)) o

      star_r : T (not (nul e) && disjoint same (la e) (fi e))
      unfolding wf
      star_r = and_1 (ok e) (not (nul e) && disjoint same (la e) (fi e)) o

      star_1 : T (not (nul e))
      star_1 = and_0 (not (nul e)) (disjoint same (la e) (fi e)) star_r

      star_2 : T (disjoint same (la e) (fi e))
      star_2 = and_1 (not (nul e)) (disjoint same (la e) (fi e)) star_r

    -- Two trees of one expression with the same leaves, followed by what the expression cannot go on with, are equal.
    uniq :
        {e : Expr K N} (x y : Tree G e) (r s : List K)
        → T (ok e) → T (clear same (la e) r) → T (clear same (la e) s) → yield G x r ≡ yield G y s → (x ≡ y) × (r ≡ s)
    unfolding yield wf lastE last_whole decided
    uniq (leaf k) (leaf _) r s o c d p = (refl, tail-eq_of_cons-eq p)
    uniq (node n x) (node _ y) r s o c d p =
        let (q, t) =
        uniq x y r s (passes.decided_ok n)
        (clear_less same (last n) (la (G n)) (subset_use same same_eq (la (G n)) (last n) (passes.last_ok n)) r c)
        (clear_less same (last n) (la (G n)) (subset_use same same_eq (la (G n)) (last n) (passes.last_ok n)) s d)
        p in
        (ap (node n) q, t)
    uniq (both {e} {f} x y) (both z w) r s o c d p =
        let o' = and_1 (ok e) (ok f && disjoint same (la e) (fi f)) o in
        let g = and_1 (ok f) (disjoint same (la e) (fi f)) o' in
        let (q, t) = uniq x z (yield G y r) (yield G w s) (and_0 (ok e) (ok f && disjoint same (la e) (fi f)) o) (clear_next (la e) y r g c) (clear_next (la e) w s g d) p in
        let (q', t') = uniq y w r s (and_0 (ok f) (disjoint same (la e) (fi f)) o') (clear_left same (la f) (gate (nul f) (la e)) r c) (clear_left same (la f) (gate (nul f) (la e)) s d) t in
        (ap₂ both q q', t')
    uniq (left {e} {f} x) (left y) r s o c d p =
        let (q, t) = uniq x y r s (alt_0 e f o) (clear_left same (la e) (la f) r c) (clear_left same (la e) (la f) s d) p in
        (ap left q, t)
    uniq (left {e} {f} x) (right y) r s o c d p = absurd (apart_not x y r s (alt_2 e f o) (alt_3 e f o) (alt_4 e f o) p)
    uniq (right {e} {f} x) (left y) r s o c d p = absurd (apart_not y x s r (alt_2 e f o) (alt_3 e f o) (alt_4 e f o) (sym p))
    uniq (right {e} {f} x) (right y) r s o c d p =
        let (q, t) = uniq x y r s (alt_1 e f o) (clear_right same (la e) (la f) r c) (clear_right same (la e) (la f) s d) p in
        (ap right q, t)
    uniq done done r s o c d p = (refl, p)
    uniq (done {e}) (more y z) r s o c d p = absurd (not_both y r (yield G z s) (star_1 e o) c p)
    uniq (more {e} x y) done r s o c d p = absurd (not_both x s (yield G y r) (star_1 e o) d (sym p))
    uniq (more {e} x y) (more z w) r s o c d p =
        let (q, t) = uniq x z (yield G y r) (yield G w s) (star_0 e o) (clear_again y r (star_2 e o) c) (clear_again w s (star_2 e o) d) p in
        let (q', t') = uniq y w r s o c d t in
        (ap₂ more q q', t')
    uniq absent absent r s o c d p = (refl, p)
    uniq (absent {e}) (present y) r s o c d p = absurd (not_both y r s (and_1 (ok e) (not (nul e)) o) c p)
    uniq (present {e} x) absent r s o c d p = absurd (not_both x s r (and_1 (ok e) (not (nul e)) o) d (sym p))
    uniq (present {e} x) (present y) r s o c d p =
        let (q, t) = uniq x y r s (and_0 (ok e) (not (nul e)) o) (clear_right same (fi e) (la e) r c) (clear_right same (fi e) (la e) s d) p in
        (ap present q, t)

    -- No two trees of a nonterminal have the same leaves.
    pub unique : (n : N) (x y : Tree G (nt n)) → leaves G x ≡ leaves G y → x ≡ y
    unfolding wf clear
    unique n x y p = (uniq x y [] [] tt tt tt (sym (leaves_yield G x) ∙ p ∙ leaves_yield G y)).0

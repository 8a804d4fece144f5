-- The machine's step: what is left after a token is what the trees leave.
use mathlib.Core.Path.{◌≡◌, refl, sym, ap₂, ◌∙◌, subst₂}
use mathlib.Core.Logic.{⊎_elim}
use mathlib.Core.List.{List, [], ◌∷◌, nil≢cons, head-eq_of_cons-eq, tail-eq_of_cons-eq}
use mathlib.Core.Bool.{Bool}
use Prim.Native.Nat.{ℕ, zero, suc, ◌≤◌, ◌<◌}
use native.Mathlib.Omega.{arith}
use lib.Dec.{T, ltb, leb→le, le→leb}
use Rattle.grammar.specs.Ebnf.{Expr, tok, nt, ◌⨾◌, ◌∣◌, star, opt}
use Rattle.grammar.proofs.KindTrees.{Tree, leaf, node, both, left, right, done, more, absent, present}
use Rattle.grammar.proofs.Recogniser.{Stack, gate, nullE, nullN, null, nullS, afterE, afterN, after, step, someNull}
use Rattle.text.proofs.Booleans.{imp, imp_use, imp_in, imp_map, and_in, and_0, and_1, or_0, or_1, or_cases}
use Rattle.grammar.proofs.Trees.{yield, Forest, nil, ◌▹◌, yields, Any, here, there, any_left, any_right, any_cases, gate_in, gate_out, Empty, emptyE, emptyN, Before, before_both, before_more, before_empty}
use Rattle.grammar.proofs.Tests.{low, ranks, Passes, null_whole, ranked, bounded}

module _
    {K N : Type 0}
    (same : K → K → Bool)
    (same_eq : (j k : K) → T (same j k) → j ≡ k)
    (G : N → Expr K N)
    (depth : ℕ)
  where
    empty : (e : Expr K N) → T (null same G depth e) → Empty G e
    unfolding null
    empty e t = emptyE G (nullN G depth) (emptyN G depth) e t

    back_tok : (j k : K) {S : Stack K N} {us : List K} → Any G (S ∷ []) us → T (same j k) → Before G (tok j) S (k ∷ us)
    unfolding yield
    back_tok j k (here w p) t = (leaf j, w, ap₂ ◌∷◌ (same_eq j k t) p)
    back_tok j k {S = S} {us = us} (there x5) t = elim x5 [ ]

    backE :
        (h : N → K → Stack K N → List (Stack K N))
        → ((n : N) (k : K) (S : Stack K N) (us : List K) → Any G (h n k S) us → Before G (nt n) S (k ∷ us))
        → (e : Expr K N) (k : K) (S : Stack K N) (us : List K) → Any G (afterE same G depth h e k S) us → Before G e S (k ∷ us)
    unfolding yield afterE
    backE h s (tok j) k S us a = let g = gate_out G (same j k) (S ∷ []) a in back_tok j k g.1 g.0
    backE h s (nt n) k S us a = s n k S us a
    backE h s (e ⨾ f) k S us a =
        ⊎_elim
        (λ b. before_both G (backE h s e k (f ∷ S) us b))
        (λ b. let g = gate_out G (null same G depth e) (afterE same G depth h f k S) b in before_empty G (empty e g.0) (backE h s f k S us g.1))
        (any_cases G (afterE same G depth h e k (f ∷ S)) a)
    backE h s (e ∣ f) k S us a =
        ⊎_elim
        (λ b. let (x, w, p) = backE h s e k S us b in (left x, w, p))
        (λ b. let (x, w, p) = backE h s f k S us b in (right x, w, p))
        (any_cases G (afterE same G depth h e k S) a)
    backE h s (star e) k S us a = before_more G (backE h s e k (star e ∷ S) us a)
    backE h s (opt e) k S us a = let (x, w, p) = backE h s e k S us a in (present x, w, p)

    back_n : (d : ℕ) (n : N) (k : K) (S : Stack K N) (us : List K) → Any G (afterN same G depth d n k S) us → Before G (nt n) S (k ∷ us)
    unfolding yield afterN
    back_n zero n k S us a = elim a [ ]
    back_n (suc d) n k S us a = let (x, w, p) = backE (afterN same G depth d) (back_n d) (G n) k S us a in (node n x, w, p)

    after_back : (S : Stack K N) (k : K) (us : List K) → Any G (after same G depth S k) us → (w : Forest G S) × (yields G w ≡ k ∷ us)
    unfolding yields after
    after_back [] k us a = elim a [ ]
    after_back (e ∷ S) k us a =
        ⊎_elim
        (λ b. let (x, w, p) = backE (afterN same G depth depth) (back_n depth) e k S us b in (x ▹ w, p))
        (λ b. let g = gate_out G (null same G depth e) (after same G depth S k) b in
        let (w, p) = after_back S k us g.1 in
        let x = empty e g.0 in
        (x.0 ▹ w, x.1 (yields G w) ∙ p))
        (any_cases G (afterE same G depth (afterN same G depth depth) e k S) a)

    pub step_back : (L : List (Stack K N)) (k : K) (us : List K) → Any G (step same G depth L k) us → Any G L (k ∷ us)
    unfolding step
    step_back [] k us a = elim a [ ]
    step_back (S ∷ L) k us a =
        ⊎_elim
        (λ b. let (w, p) = after_back S k us b in here w p)
        (λ b. there (step_back L k us b))
        (any_cases G (after same G depth S k) a)

module _ {K N : Type 0} (same : K → K → Bool) (G : N → Expr K N) (depth : ℕ) (rank : N → ℕ) where
  low_mono : (e : Expr K N) (c d : ℕ) → c ≤ d → T (low same G depth rank c e) → T (low same G depth rank d e)
  unfolding low
  low_mono (tok k) c d h t = tt
  low_mono (nt n) c d h t = let g : rank n < c = leb→le (suc (rank n)) c t in le→leb (suc (rank n)) d (omega arith)
  low_mono (e ⨾ f) c d h t =
      and_in
      (low same G depth rank d e)
      (imp (null same G depth e) (low same G depth rank d f))
      (low_mono e c d h (and_0 (low same G depth rank c e) (imp (null same G depth e) (low same G depth rank c f)) t))
      (imp_map (null same G depth e) (low same G depth rank c f) (low same G depth rank d f) (low_mono f c d h) (and_1 (low same G depth rank c e) (imp (null same G depth e) (low same G depth rank c f)) t))
  low_mono (e ∣ f) c d h t =
      and_in
      (low same G depth rank d e)
      (low same G depth rank d f)
      (low_mono e c d h (and_0 (low same G depth rank c e) (low same G depth rank c f) t))
      (low_mono f c d h (and_1 (low same G depth rank c e) (low same G depth rank c f) t))
  low_mono (star e) c d h t = low_mono e c d h t
  low_mono (opt e) c d h t = low_mono e c d h t

  low_top : (d : ℕ) → ((n : N) → T (ltb (rank n) d)) → (e : Expr K N) → T (low same G depth rank d e)
  unfolding low
  low_top d h (tok k) = tt
  low_top d h (nt n) = h n
  low_top d h (e ⨾ f) =
      and_in (low same G depth rank d e) (imp (null same G depth e) (low same G depth rank d f)) (low_top d h e) (imp_in (null same G depth e) (low same G depth rank d f) (low_top d h f))
  low_top d h (e ∣ f) = and_in (low same G depth rank d e) (low same G depth rank d f) (low_top d h e) (low_top d h f)
  low_top d h (star e) = low_top d h e
  low_top d h (opt e) = low_top d h e

module _ {K N : Type 0} (same : K → K → Bool) (G : N → Expr K N) (depth : ℕ) where
  -- How a list ks begins that e, with d levels of nonterminals, and then S with the leaves r, derive.
  pub data Start (d : ℕ) (e : Expr K N) (S : Stack K N) (r ks : List K) : Type 0 where
    none : T (null same G depth e) → ks ≡ r → Start d e S r ks
    some : (k : K) (us : List K) → ks ≡ k ∷ us → Any G (afterE same G depth (afterN same G depth d) e k S) us → Start d e S r ks

  start_both :
      {d : ℕ} {e f : Expr K N} {S : Stack K N} {r m ks : List K}
      → Start d e (f ∷ S) m ks → (T (null same G depth e) → Start d f S r m) → Start d (e ⨾ f) S r ks
  unfolding null nullE afterE
  start_both {d} {e} {f} {S} {r} {m} {ks} (none t p) h = go (h t)
    where
      go : Start d f S r m → Start d (e ⨾ f) S r ks
      go (none u q) = none (and_in (null same G depth e) (null same G depth f) t u) (p ∙ q)
      go (some k us q a) = some k us (p ∙ q) (any_right G (afterE same G depth (afterN same G depth d) e k (f ∷ S)) (gate_in G (null same G depth e) t a))
  start_both {d} {e} {f} {S} (some k us p a) h =
      some k us p (any_left G (gate (null same G depth e) (afterE same G depth (afterN same G depth d) f k S)) a)

  start_left : {d : ℕ} {e f : Expr K N} {S : Stack K N} {r ks : List K} → Start d e S r ks → Start d (e ∣ f) S r ks
  unfolding null nullE afterE
  start_left {d} {e} {f} (none t p) = none (or_0 (null same G depth e) (null same G depth f) t) p
  start_left {d} {e} {f} {S} (some k us p a) = some k us p (any_left G (afterE same G depth (afterN same G depth d) f k S) a)

  start_right : {d : ℕ} {e f : Expr K N} {S : Stack K N} {r ks : List K} → Start d f S r ks → Start d (e ∣ f) S r ks
  unfolding null nullE afterE
  start_right {d} {e} {f} (none t p) = none (or_1 (null same G depth e) (null same G depth f) t) p
  start_right {d} {e} {f} {S} (some k us p a) = some k us p (any_right G (afterE same G depth (afterN same G depth d) e k S) a)

  start_more :
      {d : ℕ} {e : Expr K N} {S : Stack K N} {r m ks : List K}
      → Start d e (star e ∷ S) m ks → Start d (star e) S r m → Start d (star e) S r ks
  unfolding null nullE afterE
  start_more (none t p) (none u q) = none tt (p ∙ q)
  start_more (none t p) (some k us q a) = some k us (p ∙ q) a
  start_more (some k us p a) y = some k us p a

  start_present : {d : ℕ} {e : Expr K N} {S : Stack K N} {r ks : List K} → Start d e S r ks → Start d (opt e) S r ks
  unfolding null nullE afterE
  start_present (none t p) = none tt p
  start_present (some k us p a) = some k us p a

module _
    {K N : Type 0}
    (same : K → K → Bool)
    (same_eq : (j k : K) → T (same j k) → j ≡ k)
    (same_refl : (k : K) → T (same k k))
    (G : N → Expr K N)
    (depth : ℕ)
    (passes : Passes same G depth)
  where
    stable : (n : N) → T (imp (null same G depth (G n)) (null same G depth (nt n)))
    unfolding null_whole
    stable n = passes.null_ok n

    is_ranked : (n : N) → T (low same G depth (ranks same G depth) (ranks same G depth n) (G n))
    unfolding ranked
    is_ranked n = passes.rank_ok n

    is_bounded : (n : N) → T (ltb (ranks same G depth n) depth)
    unfolding bounded
    is_bounded n = passes.depth_ok n

    start_node :
        {d : ℕ} (n : N) {S : Stack K N} {r ks : List K}
        → Start same G depth d (G n) S r ks → Start same G depth (suc d) (nt n) S r ks
    unfolding afterE afterN
    start_node n (none t p) = none (imp_use (null same G depth (G n)) (null same G depth (nt n)) (stable n) t) p
    start_node n (some k us p a) = some k us p a

    -- Every tree has no leaves, or begins with a token after which the machine has a stack for what is left.
    fwd :
        {e : Expr K N} (x : Tree G e) (d : ℕ) → T (low same G depth (ranks same G depth) d e) → {S : Stack K N} (w : Forest G S)
        → Start same G depth d e S (yields G w) (yield G x (yields G w))
    unfolding yield yields afterE null nullE low
    fwd (leaf k) d l w = some k (yields G w) refl (gate_in G (same k k) (same_refl k) (here w refl))
    fwd (node n x) zero l w = let h : ranks same G depth n < 0 = leb→le (suc (ranks same G depth n)) 0 l in absurd (omega arith)
    fwd (node n x) (suc d) l w =
        let h : ranks same G depth n < suc d = leb→le (suc (ranks same G depth n)) (suc d) l in
        start_node n (fwd x d (low_mono same G depth (ranks same G depth) (G n) (ranks same G depth n) d (omega arith) (is_ranked n)) w)
    fwd (both {e} {f} x y) d l w =
        start_both same G depth
        (fwd x d (and_0 (low same G depth (ranks same G depth) d e) (imp (null same G depth e) (low same G depth (ranks same G depth) d f)) l) (y ▹ w))
        (λ t. fwd y d (imp_use (null same G depth e) (low same G depth (ranks same G depth) d f) (and_1 (low same G depth (ranks same G depth) d e) (imp (null same G depth e) (low same G depth (ranks same G depth) d f)) l) t) w)
    fwd (left {e} {f} x) d l w =
        start_left same G depth (fwd x d (and_0 (low same G depth (ranks same G depth) d e) (low same G depth (ranks same G depth) d f) l) w)
    fwd (right {e} {f} x) d l w =
        start_right same G depth (fwd x d (and_1 (low same G depth (ranks same G depth) d e) (low same G depth (ranks same G depth) d f) l) w)
    fwd done d l w = none tt refl
    fwd (more x y) d l w = start_more same G depth (fwd x d l (y ▹ w)) (fwd y d l w)
    fwd absent d l w = none tt refl
    fwd (present x) d l w = start_present same G depth (fwd x d l w)

    pub start : {e : Expr K N} (x : Tree G e) {S : Stack K N} (w : Forest G S) → Start same G depth depth e S (yields G w) (yield G x (yields G w))
    start {e} x w = fwd x depth (low_top same G depth (ranks same G depth) depth is_bounded e) w

    after_start :
        {e : Expr K N} {S : Stack K N} {r ks : List K} (k : K) (us : List K) → ks ≡ k ∷ us
        → (r ≡ k ∷ us → Any G (after same G depth S k) us)
        → Start same G depth depth e S r ks → Any G (after same G depth (e ∷ S) k) us
    unfolding after
    after_start {e} {S} k us p h (none t q) =
        any_right G (afterE same G depth (afterN same G depth depth) e k S) (gate_in G (null same G depth e) t (h (sym q ∙ p)))
    after_start {e} {S} k us p h (some j vs q a) =
        any_left G (gate (null same G depth e) (after same G depth S k))
        (subst₂ (λ i ws. Any G (afterE same G depth (afterN same G depth depth) e i S) ws) (head-eq_of_cons-eq (sym q ∙ p)) (tail-eq_of_cons-eq (sym q ∙ p)) a)

    after_fwd : {S : Stack K N} (w : Forest G S) (k : K) (us : List K) → yields G w ≡ k ∷ us → Any G (after same G depth S k) us
    unfolding yields
    after_fwd nil k us p = absurd (nil≢cons p)
    after_fwd (x ▹ w) k us p = after_start k us p (after_fwd w k us) (start x w)

    pub step_fwd : {L : List (Stack K N)} (k : K) (us ks : List K) → ks ≡ k ∷ us → Any G L ks → Any G (step same G depth L k) us
    unfolding step
    step_fwd {L = S ∷ L} k us ks p (here w q) = any_left G (step same G depth L k) (after_fwd w k us (q ∙ p))
    step_fwd {L = S ∷ L} k us ks p (there a) = any_right G (after same G depth S k) (step_fwd k us ks p a)
    step_fwd {L = []} k us _ p x6 = elim x6 [ ]

    null_start : {e : Expr K N} {S : Stack K N} {r ks : List K} → ks ≡ [] → Start same G depth depth e S r ks → T (null same G depth e) × (r ≡ [])
    null_start p (none t q) = (t, sym q ∙ p)
    null_start p (some k us q a) = absurd (nil≢cons (sym p ∙ q))

    nullS_fwd : {S : Stack K N} (w : Forest G S) → yields G w ≡ [] → T (nullS same G depth S)
    unfolding yields nullS
    nullS_fwd nil p = tt
    nullS_fwd (◌▹◌ {e} {S} x w) p =
        let h = null_start p (start x w) in
        and_in (null same G depth e) (nullS same G depth S) h.0 (nullS_fwd w h.1)

    nullS_back : (S : Stack K N) → T (nullS same G depth S) → (w : Forest G S) × (yields G w ≡ [])
    unfolding yields nullS
    nullS_back [] t = (nil, refl)
    nullS_back (e ∷ S) t =
        let (x, p) = empty same same_eq G depth e (and_0 (null same G depth e) (nullS same G depth S) t) in
        let (w, q) = nullS_back S (and_1 (null same G depth e) (nullS same G depth S) t) in
        (x ▹ w, p (yields G w) ∙ q)

    pub someNull_fwd : {L : List (Stack K N)} {us : List K} → us ≡ [] → Any G L us → T (someNull same G depth L)
    unfolding someNull
    someNull_fwd {L = S ∷ L} p (here w q) = or_0 (nullS same G depth S) (someNull same G depth L) (nullS_fwd w (q ∙ p))
    someNull_fwd {L = S ∷ L} p (there a) = or_1 (nullS same G depth S) (someNull same G depth L) (someNull_fwd p a)
    someNull_fwd {L = []} p x6 = elim x6 [ ]

    pub someNull_back : (L : List (Stack K N)) → T (someNull same G depth L) → Any G L []
    unfolding someNull
    someNull_back [] t = absurd t
    someNull_back (S ∷ L) t =
        ⊎_elim
        (λ s. let (w, p) = nullS_back S s in here w p)
        (λ s. there (someNull_back L s))
        (or_cases (nullS same G depth S) (someNull same G depth L) t)

-- What the verdict of the recogniser says of derivations.
use mathlib.Core.Path.{◌≡◌, refl, sym, ap, ◌∙◌, subst}
use mathlib.Core.Logic.{◌↔◌}
use mathlib.Core.List.{List, [], ◌∷◌, ◌++◌, append_assoc}
use mathlib.Core.Bool.{Bool, true, false}
use mathlib.Core.Option.{Option, none, some}
use Prim.Native.Nat.{ℕ, zero, suc, pred, ◌≤◌, ◌<◌, zero-le, suc-le-suc}
use native.Mathlib.Nat.{le_of_suc-le-suc}
use native.Mathlib.Decide.{dec_lt}
use native.Mathlib.Omega.{arith}
use lib.Dec.{T}
use lib.ListN.{length, take, drop, take-append-drop}
use Rattle.grammar.specs.Ebnf.{Expr, tok, nt, ◌⨾◌, ◌∣◌, star, opt}
use Rattle.grammar.proofs.KindTrees.{Tree, leaf, both, left, done, absent, Derives, Begins, FailsAt}
use Rattle.grammar.proofs.Recogniser.{Stack, is_some, at_end, later, at_token, step, someNull, verdict}
use Rattle.grammar.proofs.Trees.{yields, leaves_yield, Forest, nil, ◌▹◌, Any, here, there}
use Rattle.grammar.proofs.Tests.{Passes, productive, the, sampleN}
use Rattle.grammar.proofs.Steps.{step_back, step_fwd, someNull_fwd, someNull_back}

take_split : {A : Type 0} (i j : ℕ) (ks : List A) → i ≤ j → (r : List A) × (take j ks ≡ take i ks ++ r)
take_split zero j ks h = (take j ks, refl)
take_split (suc i) zero ks h = absurd (omega arith)
take_split (suc i) (suc j) [] h = ([], refl)
take_split (suc i) (suc j) (k ∷ ks) h = let (r, p) = take_split i j ks (le_of_suc-le-suc h) in (r, ap (λ l. k ∷ l) p)

module _ {K N : Type 0} (G : N → Expr K N) (n : N) (ks : List K) where
  -- What begins a text with a derivation is begun so itself.
  begins_less : (i j : ℕ) → i ≤ j → Begins G n (take j ks) → Begins G n (take i ks)
  begins_less i j h (us, (x, p)) =
      let (r, q) = take_split i j ks h in
      (r ++ us, (x, p ∙ ap (λ l. l ++ us) q ∙ append_assoc (take i ks) r us))

  begins_all : (i : ℕ) → Derives G n ks → Begins G n (take i ks)
  begins_all i (x, p) = (drop i ks, (x, p ∙ sym (take-append-drop i ks)))

  fails_not_before : (i j : ℕ) → FailsAt G n ks i → FailsAt G n ks j → i < j → ⊥
  fails_not_before i j a b h =
      let l : j ≤ length ks = b.within in
      a.token (omega arith) (begins_less (suc i) j h b.before)

  -- The grammar fails at one token at the most.
  pub fails_once : (i j : ℕ) → FailsAt G n ks i → FailsAt G n ks j → i ≡ j
  fails_once i j a b =
      let f : i < j → ⊥ = fails_not_before i j a b in
      let g : j < i → ⊥ = fails_not_before j i b a in
      omega arith

  -- It does not fail where the tokens have a derivation.
  pub fails_or_derives : (i : ℕ) → FailsAt G n ks i → Derives G n ks → ⊥
  fails_or_derives i a x = elim (dec_lt i (length ks)) [ yes h ↦ a.token h (begins_all (suc i) x) | no h ↦ a.end (let l : i ≤ length ks = a.within in omega arith) x ]

module _
    {K N : Type 0}
    (same : K → K → Bool)
    (same_eq : (j k : K) → T (same j k) → j ≡ k)
    (same_refl : (k : K) → T (same k k))
    (G : N → Expr K N)
    (depth : ℕ)
    (passes : Passes same G depth)
  where
    sample : (n : N) → Tree G (nt n)
    unfolding productive
    sample n = the (sampleN same G depth depth n) (passes.productive_ok n)

    sampleE : (e : Expr K N) → Tree G e
    sampleE (tok k) = leaf k
    sampleE (nt n) = sample n
    sampleE (e ⨾ f) = both (sampleE e) (sampleE f)
    sampleE (e ∣ f) = left (sampleE e)
    sampleE (star e) = done
    sampleE (opt e) = absent

    pub sampleS : (S : Stack K N) → Forest G S
    sampleS [] = nil
    sampleS (e ∷ S) = sampleE e ▹ sampleS S

    pub isSome_back : (L : List (Stack K N)) → T (is_some L) → (us : List K) × Any G L us
    unfolding is_some
    isSome_back [] t = absurd t
    isSome_back (S ∷ L) t = (yields G (sampleS S), here (sampleS S) refl)

    pub isSome_fwd : {L : List (Stack K N)} {us : List K} → Any G L us → T (is_some L)
    unfolding is_some
    isSome_fwd (here w p) = tt
    isSome_fwd (there a) = tt

    pub forward : {L : List (Stack K N)} (k : K) (us : List K) → Any G L (k ∷ us) → Any G (step same G depth L k) us
    forward k us a = step_fwd same same_eq same_refl G depth passes k us (k ∷ us) refl a

    pub backward : (L : List (Stack K N)) (k : K) (us : List K) → Any G (step same G depth L k) us → Any G L (k ∷ us)
    backward L k us a = step_back same same_eq G depth L k us a

    -- What a verdict says of the texts of the stacks L.
    abbrev Says : List (Stack K N) → List K → Option ℕ → Type 0
    Says L ks none = Any G L ks
    Says L ks (some i) =
        (i ≤ length ks)
        × ((us : List K) × Any G L (take i ks ++ us))
        × (i < length ks → (us : List K) → Any G L (take (suc i) ks ++ us) → ⊥)
        × (Any G L ks → ⊥)

    says_end : (L : List (Stack K N)) (b : Bool) → (T b → Any G L []) → (Any G L [] → T b) → ((us : List K) × Any G L us) → Says L [] (at_end b)
    unfolding at_end
    says_end L true f g h = f tt
    says_end L false f g h = (zero-le, h, λ l us a. omega arith, g)

    says_later : (L : List (Stack K N)) (k : K) (ks : List K) (v : Option ℕ) → Says (step same G depth L k) ks v → Says L (k ∷ ks) (later v)
    unfolding later
    says_later L k ks none a = backward L k ks a
    says_later L k ks (some i) (l, (us, a), f, g) = (
      suc-le-suc l,
      (us, backward L k (take i ks ++ us) a),
      λ h vs b. f (le_of_suc-le-suc h) vs (forward k (take (suc i) ks ++ vs) b),
      λ b. g (forward k ks b),
    )

    says_token :
        (L : List (Stack K N)) (k : K) (ks : List K) (b : Bool) (v : Option ℕ)
        → (T b → Says (step same G depth L k) ks v)
        → ((us : List K) → Any G (step same G depth L k) us → T b)
        → ((us : List K) × Any G L us)
        → Says L (k ∷ ks) (at_token b v)
    unfolding at_token
    says_token L k ks true v f g h = says_later L k ks v (f tt)
    says_token L k ks false v f g h = (zero-le, h, λ l us a. g us (forward k us a), λ a. g ks (forward k ks a))

    says : (L : List (Stack K N)) (ks : List K) → ((us : List K) × Any G L us) → Says L ks (verdict same G depth L ks)
    unfolding verdict
    says L [] h =
        says_end L (someNull same G depth L)
        (someNull_back same same_eq same_refl G depth passes L)
        (someNull_fwd same same_eq same_refl G depth passes refl)
        h
    says L (k ∷ ks) h =
        says_token L k ks (is_some (step same G depth L k)) (verdict same G depth (step same G depth L k) ks)
        (λ t. says (step same G depth L k) ks (isSome_back (step same G depth L k) t))
        (λ us a. isSome_fwd a)
        h

    root_fwd : (n : N) {ks : List K} → Derives G n ks → Any G ((nt n ∷ []) ∷ []) ks
    unfolding yields
    root_fwd n (x, p) = here (x ▹ nil) (sym (leaves_yield G x) ∙ p)

    root_back : (n : N) {ks : List K} → Any G ((nt n ∷ []) ∷ []) ks → Derives G n ks
    unfolding yields
    root_back n (here (x ▹ nil) p) = (x, leaves_yield G x ∙ p)
    root_back n (there a) = elim a [ ]

    -- The verdict on a text from n.
    abbrev pub verdictOf : N → List K → Option ℕ
    verdictOf n ks = verdict same G depth ((nt n ∷ []) ∷ []) ks

    Means : N → List K → Option ℕ → Type 0
    Means n ks none = Derives G n ks
    Means n ks (some i) = FailsAt G n ks i

    means : (n : N) (ks : List K) (v : Option ℕ) → Says ((nt n ∷ []) ∷ []) ks v → Means n ks v
    unfolding Means
    means n ks none a = root_back n a
    means n ks (some i) (l, (us, a), f, g) =
        record {
          within = l;
          before = (us, root_back n a);
          token = λ h (vs, x). f h vs (root_fwd n x);
          end = λ h x. g (root_fwd n x);
        }

    verdict_means : (n : N) (ks : List K) → Means n ks (verdictOf n ks)
    verdict_means n ks = means n ks (verdictOf n ks) (says ((nt n ∷ []) ∷ []) ks (isSome_back ((nt n ∷ []) ∷ []) (unfold is_some in tt)))

    -- The verdict is none exactly where the tokens have a derivation, and some i exactly where the grammar fails at i.
    pub verdict_none : (n : N) (ks : List K) → (verdictOf n ks ≡ none) ↔ Derives G n ks
    unfolding Means
    verdict_none n ks = (λ e. subst (Means n ks) e (verdict_means n ks), λ x. go x (verdictOf n ks) (verdict_means n ks))
      where
        go : Derives G n ks → (v : Option ℕ) → Means n ks v → v ≡ none
        go x none m = refl
        go x (some i) m = absurd (fails_or_derives G n ks i m x)

    pub verdict_some : (n : N) (ks : List K) (i : ℕ) → (verdictOf n ks ≡ some i) ↔ FailsAt G n ks i
    unfolding Means
    verdict_some n ks i = (λ e. subst (Means n ks) e (verdict_means n ks), λ a. go a (verdictOf n ks) (verdict_means n ks))
      where
        go : FailsAt G n ks i → (v : Option ℕ) → Means n ks v → v ≡ some i
        go a none x = absurd (fails_or_derives G n ks i a x)
        go a (some j) b = ap some (fails_once G n ks j i b a)

-- A refusal at a token stands, whatever comes after that token.
module _ {K N : Type 0} (same : K → K → Bool) (G : N → Expr K N) (depth : ℕ) where
  none≢later : (i : ℕ) → later none ≡ some i → ⊥
  unfolding later
  none≢later i q = let z : ◌≡◌ {A = ℕ} 0 1 = cc in omega arith

  later_some : (j i : ℕ) → later (some j) ≡ some i → suc j ≡ i
  unfolding later
  later_some j i q = cc

  later_pred : (j i : ℕ) → suc j ≡ i → later (some (pred i)) ≡ some i
  unfolding later
  later_pred j i q = ap some (omega arith)

  refused_token : (b : Bool) (v w : Option ℕ) (n i : ℕ) → (v ≡ some (pred i) → pred i < n → w ≡ some (pred i)) → at_token b v ≡ some i → i < suc n → at_token b w ≡ some i
  unfolding at_token
  refused_token false v w n i f p h = p
  refused_token true none w n i f p h = absurd (none≢later i p)
  refused_token true (some j) w n i f p h =
      let e : suc j ≡ i = later_some j i p in
      let q : w ≡ some (pred i) = f (ap some (omega arith)) (omega arith) in
      ap later q ∙ later_pred j i e

  pub refused_more : (L : List (Stack K N)) (ks us : List K) (i : ℕ) → verdict same G depth L ks ≡ some i → i < length ks → verdict same G depth L (ks ++ us) ≡ some i
  unfolding verdict
  refused_more L [] us i p h = absurd (omega arith)
  refused_more L (k ∷ ks) us i p h =
      refused_token (is_some (step same G depth L k)) (verdict same G depth (step same G depth L k) ks) (verdict same G depth (step same G depth L k) (ks ++ us)) (length ks) i
      (refused_more (step same G depth L k) ks us (pred i)) p h

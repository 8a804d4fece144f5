-- A stack and its flat form have the same texts.
use mathlib.Core.Path.{◌≡◌, refl, ap, ◌∙◌, subst}
use mathlib.Core.Logic.{⊎_elim}
use mathlib.Core.List.{List, [], ◌∷◌, ◌++◌, map}
use mathlib.Core.Bool.{Bool, true, false}
use Prim.Native.Nat.{ℕ, zero, suc}
use Rattle.grammar.specs.Ebnf.{tok, nt, ◌⨾◌, ◌∣◌, star, opt}
use Rattle.grammar.proofs.KindTrees.{Tree, node, both}
use Rattle.grammar.proofs.Recogniser.{verdict}
use Rattle.token.proofs.KindCodes.{same, same_eq, same_refl}
use Rattle.token.specs.Kind.{Kind}
use Rattle.grammar.specs.Productions.{Nonterminal, Mode, production}
use Rattle.grammar.proofs.Trees.{yield, yields, Forest, ◌▹◌, Any, here, there, any_left, any_right, any_cases}
use Rattle.grammar.proofs.Modes.{levels, passes}
use Rattle.grammar.proofs.Equal.{equal}
use Rattle.grammar.proofs.Onto.{onto}
use Rattle.text.specs.Text.{cond}
use Rattle.machine.proofs.Stands.{E, S, beneath, flatE, flatN, is_open, flat_on, flat}

module _ (mode : Mode) where
  abbrev G : Nonterminal → E
  G = production mode

  -- A forest of R with the same leaves as a tree in front of those of w.
  abbrev Puts : (S → S) → E → Type 0
  Puts h e = (x : Tree G e) (R : S) (w : Forest G R) → (v : Forest G (h R)) × (yields G v ≡ yield G x (yields G w))

  abbrev Takes : (S → S) → E → Type 0
  Takes h e = (R : S) (v : Forest G (h R)) → (x : Tree G e) × (w : Forest G R) × (yield G x (yields G w) ≡ yields G v)

  putsE : (h : Nonterminal → S → S) → ((n : Nonterminal) → Puts (h n) (nt n)) → (e : E) → Puts (flatE mode h e) e
  unfolding yield yields
  putsE h p (tok k) x R w = (x ▹ w, refl)
  putsE h p (nt n) x R w = p n x R w
  putsE h p (e ⨾ f) (both x y) R w =
      let (u, q) = putsE h p f y R w in
      let (v, r) = putsE h p e x (flatE mode h f R) u in
      (v, r ∙ ap (yield G x) q)
  putsE h p (e ∣ f) x R w = (x ▹ w, refl)
  putsE h p (star e) x R w = (x ▹ w, refl)
  putsE h p (opt e) x R w = (x ▹ w, refl)

  split : {e : E} {R : S} (v : Forest G (e ∷ R)) → (x : Tree G e) × (w : Forest G R) × (yield G x (yields G w) ≡ yields G v)
  unfolding yields
  split (x ▹ w) = (x, w, refl)

  takesE : (h : Nonterminal → S → S) → ((n : Nonterminal) → Takes (h n) (nt n)) → (e : E) → Takes (flatE mode h e) e
  unfolding yield yields
  takesE h p (tok k) R v = split v
  takesE h p (nt n) R v = p n R v
  takesE h p (e ⨾ f) R v =
      let (x, u, q) = takesE h p e (flatE mode h f R) v in
      let (y, w, r) = takesE h p f R u in
      (both x y, w, ap (yield G x) r ∙ q)
  takesE h p (e ∣ f) R v = split v
  takesE h p (star e) R v = split v
  takesE h p (opt e) R v = split v

  open_tree : {n : Nonterminal} → Tree G (nt n) → Tree G (G n)
  open_tree (node n x) = x

  open_yield : {n : Nonterminal} (x : Tree G (nt n)) (r : List Kind) → yield G (open_tree x) r ≡ yield G x r
  unfolding yield open_tree
  open_yield (node n x) r = refl

  puts_if : (b : Bool) (n : Nonterminal) (h : S → S) → Puts h (G n) → Puts (λ R. cond b (h R) (nt n ∷ R)) (nt n)
  unfolding yields
  puts_if true n h p x R w = let (v, q) = p (open_tree x) R w in (v, q ∙ open_yield x (yields G w))
  puts_if false n h p x R w = (x ▹ w, refl)

  takes_if : (b : Bool) (n : Nonterminal) (h : S → S) → Takes h (G n) → Takes (λ R. cond b (h R) (nt n ∷ R)) (nt n)
  unfolding yield yields
  takes_if true n h p R v = let (x, w, q) = p R v in (node n x, w, q)
  takes_if false n h p R v = split v

  putsN : (d : ℕ) (n : Nonterminal) → Puts (flatN mode d n) (nt n)
  unfolding yields
  putsN zero n x R w = (x ▹ w, refl)
  putsN (suc d) n x R w = puts_if (is_open mode n) n (flatE mode (flatN mode d) (G n)) (putsE (flatN mode d) (putsN d) (G n)) x R w

  takesN : (d : ℕ) (n : Nonterminal) → Takes (flatN mode d n) (nt n)
  takesN zero n R v = split v
  takesN (suc d) n R v = takes_if (is_open mode n) n (flatE mode (flatN mode d) (G n)) (takesE (flatN mode d) (takesN d) (G n)) R v

  -- The flat form in front of R, as a list put in front of R.
  flatE_on : (h : Nonterminal → S → S) → ((n : Nonterminal) (Q R : S) → h n (Q ++ R) ≡ h n Q ++ R) → (e : E) (Q R : S) → flatE mode h e (Q ++ R) ≡ flatE mode h e Q ++ R
  flatE_on h p (tok k) Q R = refl
  flatE_on h p (nt n) Q R = p n Q R
  flatE_on h p (e ⨾ f) Q R = ap (flatE mode h e) (flatE_on h p f Q R) ∙ flatE_on h p e (flatE mode h f Q) R
  flatE_on h p (e ∣ f) Q R = refl
  flatE_on h p (star e) Q R = refl
  flatE_on h p (opt e) Q R = refl

  if_on : (b : Bool) (n : Nonterminal) (h : S → S) → ((Q R : S) → h (Q ++ R) ≡ h Q ++ R) → (Q R : S) → cond b (h (Q ++ R)) (nt n ∷ (Q ++ R)) ≡ cond b (h Q) (nt n ∷ Q) ++ R
  if_on true n h p Q R = p Q R
  if_on false n h p Q R = refl

  flatN_on : (d : ℕ) (n : Nonterminal) (Q R : S) → flatN mode d n (Q ++ R) ≡ flatN mode d n Q ++ R
  flatN_on zero n Q R = refl
  flatN_on (suc d) n Q R = if_on (is_open mode n) n (flatE mode (flatN mode d) (G n)) (flatE_on (flatN mode d) (flatN_on d) (G n)) Q R

  flat_split : (Q R : S) → flat_on mode Q R ≡ flat mode Q ++ R
  flat_split [] R = refl
  flat_split (e ∷ Q) R = ap (flatE mode (flatN mode 2) e) (flat_split Q R) ∙ flatE_on (flatN mode 2) (flatN_on 2) e (flat mode Q) R

  -- A forest of Q on R gives one of the flat form of Q on R, and the other way round.
  puts : (Q R : S) (w : Forest G (Q ++ R)) → (v : Forest G (flat_on mode Q R)) × (yields G v ≡ yields G w)
  puts [] R w = (w, refl)
  puts (e ∷ Q) R w =
      let (x, u, p) = split w in
      let (v, q) = puts Q R u in
      let (z, r) = putsE (flatN mode 2) (putsN 2) e x (flat_on mode Q R) v in
      (z, r ∙ ap (yield G x) q ∙ p)

  takes : (Q R : S) (v : Forest G (flat_on mode Q R)) → (w : Forest G (Q ++ R)) × (yields G w ≡ yields G v)
  unfolding yields
  takes [] R v = (v, refl)
  takes (e ∷ Q) R v =
      let (x, u, p) = takesE (flatN mode 2) (takesN 2) e (flat_on mode Q R) v in
      let (w, q) = takes Q R u in
      (x ▹ w, ap (yield G x) q ∙ p)

  Same : S → S → Type 0
  Same Q R = (w : Forest G Q) → (v : Forest G R) × (yields G v ≡ yields G w)

  forth : (Q R : S) → Same (Q ++ R) (flat mode Q ++ R)
  unfolding Same
  forth Q R = subst (λ P. (w : Forest G (Q ++ R)) → (v : Forest G P) × (yields G v ≡ yields G w)) (flat_split Q R) (puts Q R)

  back : (Q R : S) → Same (flat mode Q ++ R) (Q ++ R)
  unfolding Same
  back Q R = subst (λ P. (w : Forest G P) → (v : Forest G (Q ++ R)) × (yields G v ≡ yields G w)) (flat_split Q R) (takes Q R)

  module _ (us : List Kind) where
    any_forth : (R : S) (M : List S) → Any G (onto R M) us → Any G (onto R (map (flat mode) M)) us
    unfolding Same
    any_forth R [] a = a
    any_forth R (Q ∷ M) (here w p) = let (v, q) = forth Q R w in here v (q ∙ p)
    any_forth R (Q ∷ M) (there a) = there (any_forth R M a)

    any_back : (R : S) (M : List S) → Any G (onto R (map (flat mode) M)) us → Any G (onto R M) us
    unfolding Same
    any_back R [] a = a
    any_back R (Q ∷ M) (here w p) = let (v, q) = back Q R w in here v (q ∙ p)
    any_back R (Q ∷ M) (there a) = there (any_back R M a)

    all_forth : (M B : List S) → Any G (beneath M B) us → Any G (beneath (map (flat mode) M) B) us
    all_forth M [] a = a
    all_forth M (R ∷ B) a =
        ⊎_elim (λ b. any_left G (beneath (map (flat mode) M) B) (any_forth R M b)) (λ b. any_right G (onto R (map (flat mode) M)) (all_forth M B b)) (any_cases G (onto R M) a)

    all_back : (M B : List S) → Any G (beneath (map (flat mode) M) B) us → Any G (beneath M B) us
    all_back M [] a = a
    all_back M (R ∷ B) a =
        ⊎_elim (λ b. any_left G (beneath M B) (any_back R M b)) (λ b. any_right G (onto R M) (all_back M B b)) (any_cases G (onto R (map (flat mode) M)) a)

  -- So they have the same verdict.
  pub flat_verdict : (M B : List S) (ks : List Kind) → verdict same (production mode) levels (beneath M B) ks ≡ verdict same (production mode) levels (beneath (map (flat mode) M) B) ks
  flat_verdict M B ks =
      equal same same_eq same_refl (production mode) levels (passes mode) (beneath M B) (beneath (map (flat mode) M) B) (λ us a. all_forth us M B a) (λ us a. all_back us M B a) ks

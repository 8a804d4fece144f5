-- The optional tag or type of a string, decided by the next token.
use mathlib.Core.Path.{◌≡◌, refl, sym, ap, ap₂, ◌∙◌}
use mathlib.Core.List.{List, [], ◌∷◌, ◌++◌, map}
use mathlib.Core.Bool.{Bool, true, false, ◌&&◌, ◌||◌, not}
use lib.Dec.{T}
use Rattle.grammar.specs.Ebnf.{tok, nt, ◌⨾◌, ◌∣◌, star, opt}
use Rattle.grammar.proofs.Recogniser.{gate, is_some, at_end, at_token, null, nullE, nullS, afterE, afterN, after, step, someNull, verdict}
use Rattle.token.proofs.KindCodes.{same, all_kinds}
use Rattle.token.specs.Kind.{Kind, kinds, LANGTAG, carets, among}
use Rattle.grammar.specs.Productions.{Nonterminal, Mode, production}
use Rattle.text.proofs.Booleans.{all, and_0, and_1}
use Rattle.grammar.proofs.Onto.{onto, afterE_onto, afterN_onto}
use Rattle.grammar.proofs.Modes.{levels}
use Rattle.text.specs.Text.{cond}
use Rattle.machine.proofs.Stands.{E, S, beneath, decide}
use Rattle.machine.proofs.Beneath.{after_beneath, step_append}

-- A kind that ties a string: a tag or ^^.
abbrev pub ties : Kind → Bool
ties k = among (LANGTAG ∷ carets ∷ []) k

abbrev pub tied_kinds : List Kind → Bool
tied_kinds [] = false
tied_kinds (k ∷ ks) = ties k

unfoldable pub is_nil : {A : Type 0} → List A → Bool
is_nil [] = true
is_nil (x ∷ xs) = false

nil_of : {A : Type 0} (l : List A) → T (is_nil l) → l ≡ []
unfolding is_nil
nil_of [] t = refl
nil_of (x ∷ xs) t = absurd t

gate_nil : {A : Type 0} (b : Bool) → gate {A = A} b [] ≡ []
unfolding gate
gate_nil true = refl
gate_nil false = refl

module _ (mode : Mode) where
  abbrev G : Nonterminal → E
  G = production mode

  abbrev left_by : E → Kind → S → List S
  left_by e k R = afterE same G levels (afterN same G levels levels) e k R

  -- A tag or ^^ is not for what follows the optional part, and any other kind is not for that part.
  unfoldable pub tame : S → Kind → Bool
  tame [] k = true
  tame (tok j ∷ R) k = true
  tame (nt n ∷ R) k = true
  tame ((e ⨾ f) ∷ R) k = true
  tame ((e ∣ f) ∷ R) k = true
  tame (star e ∷ R) k = true
  tame (opt (tok j) ∷ R) k = true
  tame (opt (nt n) ∷ R) k = true
  tame (opt (e ⨾ f) ∷ R) k = true
  tame (opt (e ∣ f) ∷ R) k = not (nullS same G levels R) && cond (ties k) (is_nil (after same G levels R k)) (is_nil (left_by (e ∣ f) k []))
  tame (opt (star e) ∷ R) k = true
  tame (opt (opt e) ∷ R) k = true

  -- What is left behind the optional part, where b says whether it is there.
  choose : (b : Bool) (y z : E) (R Q : S) (k : Kind) → T (not (nullS same G levels R)) → T (cond b (is_nil (after same G levels R k)) (is_nil (left_by (y ∣ z) k [])))
      → after same G levels (opt (y ∣ z) ∷ (R ++ Q)) k ≡ after same G levels (decide b (opt (y ∣ z) ∷ R) ++ Q) k
  unfolding after afterE null nullE gate
  choose true y z R Q k s t =
      let p : after same G levels (R ++ Q) k ≡ [] = after_beneath same G levels R Q k s ∙ ap (onto Q) (nil_of (after same G levels R k) t) in
      ap (λ l. left_by (y ∣ z) k (R ++ Q) ++ l) (p ∙ sym (gate_nil (null same G levels (y ∣ z))) ∙ ap (gate (null same G levels (y ∣ z))) (sym p))
  choose false y z R Q k s t =
      ap (λ l. l ++ after same G levels (R ++ Q) k)
      (afterE_onto same G levels (afterN same G levels levels) (afterN_onto same G levels levels) (y ∣ z) k [] (R ++ Q) ∙ ap (onto (R ++ Q)) (nil_of (left_by (y ∣ z) k []) t))

  decide_after : (R Q : S) (k : Kind) → T (tame R k) → after same G levels (R ++ Q) k ≡ after same G levels (decide (ties k) R ++ Q) k
  unfolding tame
  decide_after [] Q k t = refl
  decide_after (tok j ∷ R) Q k t = refl
  decide_after (nt n ∷ R) Q k t = refl
  decide_after ((e ⨾ f) ∷ R) Q k t = refl
  decide_after ((e ∣ f) ∷ R) Q k t = refl
  decide_after (star e ∷ R) Q k t = refl
  decide_after (opt (tok j) ∷ R) Q k t = refl
  decide_after (opt (nt n) ∷ R) Q k t = refl
  decide_after (opt (e ⨾ f) ∷ R) Q k t = refl
  decide_after (opt (e ∣ f) ∷ R) Q k t =
      choose (ties k) e f R Q k (and_0 (not (nullS same G levels R)) (cond (ties k) (is_nil (after same G levels R k)) (is_nil (left_by (e ∣ f) k []))) t)
      (and_1 (not (nullS same G levels R)) (cond (ties k) (is_nil (after same G levels R k)) (is_nil (left_by (e ∣ f) k []))) t)
  decide_after (opt (star e) ∷ R) Q k t = refl
  decide_after (opt (opt e) ∷ R) Q k t = refl

  decide_null : (R Q : S) → nullS same G levels (R ++ Q) ≡ nullS same G levels (decide false R ++ Q)
  unfolding nullS null nullE
  decide_null [] Q = refl
  decide_null (tok j ∷ R) Q = refl
  decide_null (nt n ∷ R) Q = refl
  decide_null ((e ⨾ f) ∷ R) Q = refl
  decide_null ((e ∣ f) ∷ R) Q = refl
  decide_null (star e ∷ R) Q = refl
  decide_null (opt (tok j) ∷ R) Q = refl
  decide_null (opt (nt n) ∷ R) Q = refl
  decide_null (opt (e ⨾ f) ∷ R) Q = refl
  decide_null (opt (e ∣ f) ∷ R) Q = refl
  decide_null (opt (star e) ∷ R) Q = refl
  decide_null (opt (opt e) ∷ R) Q = refl

  -- All stacks of a list are tame at every kind.
  unfoldable pub tame_all : List S → Bool
  tame_all M = all (λ R. all (tame R) kinds) M

  onto_decide : (Q : S) (M : List S) (k : Kind) → T (tame_all M) → step same G levels (onto Q M) k ≡ step same G levels (onto Q (map (decide (ties k)) M)) k
  unfolding step tame_all all
  onto_decide Q [] k t = refl
  onto_decide Q (R ∷ M) k t =
      ap₂ ◌++◌ (decide_after R Q k (all_kinds (tame R) (and_0 (all (tame R) kinds) (tame_all M) t) k)) (onto_decide Q M k (and_1 (all (tame R) kinds) (tame_all M) t))

  step_decide : (M B : List S) (k : Kind) → T (tame_all M) → step same G levels (beneath M B) k ≡ step same G levels (beneath (map (decide (ties k)) M) B) k
  step_decide M [] k t = refl
  step_decide M (Q ∷ B) k t =
      step_append same G levels (onto Q M) (beneath M B) k
      ∙ ap₂ ◌++◌ (onto_decide Q M k t) (step_decide M B k t)
      ∙ sym (step_append same G levels (onto Q (map (decide (ties k)) M)) (beneath (map (decide (ties k)) M) B) k)

  onto_null : (Q : S) (M : List S) → someNull same G levels (onto Q M) ≡ someNull same G levels (onto Q (map (decide false) M))
  unfolding someNull
  onto_null Q [] = refl
  onto_null Q (R ∷ M) = ap₂ ◌||◌ (decide_null R Q) (onto_null Q M)

  some_append : (L M : List S) → someNull same G levels (L ++ M) ≡ someNull same G levels L || someNull same G levels M
  unfolding someNull
  some_append [] M = refl
  some_append (R ∷ L) M = ap (λ b. nullS same G levels R || b) (some_append L M) ∙ assoc (nullS same G levels R) (someNull same G levels L) (someNull same G levels M)
    where
      assoc : (a b c : Bool) → (a || (b || c)) ≡ ((a || b) || c)
      assoc true b c = refl
      assoc false b c = refl

  null_decide : (M B : List S) → someNull same G levels (beneath M B) ≡ someNull same G levels (beneath (map (decide false) M) B)
  null_decide M [] = refl
  null_decide M (Q ∷ B) =
      some_append (onto Q M) (beneath M B) ∙ ap₂ ◌||◌ (onto_null Q M) (null_decide M B)
      ∙ sym (some_append (onto Q (map (decide false) M)) (beneath (map (decide false) M) B))

  -- The verdict is the same with the optional part decided.
  pub decide_verdict : (M B : List S) (ks : List Kind) → T (tame_all M) → verdict same G levels (beneath M B) ks ≡ verdict same G levels (beneath (map (decide (tied_kinds ks)) M) B) ks
  unfolding verdict
  decide_verdict M B [] t = ap at_end (null_decide M B)
  decide_verdict M B (k ∷ ks) t = ap (λ L. at_token (is_some L) (verdict same G levels L ks)) (step_decide M B k t)

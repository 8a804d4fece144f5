-- The kinds by their numbers.
use mathlib.Core.Path.{◌≡◌, refl, sym, subst}
use mathlib.Core.List.{List, [], ◌∷◌}
use mathlib.Core.Bool.{Bool, true, false, ◌||◌}
use mathlib.Core.Option.{none}
use Prim.Native.Nat.{ℕ, ◌≤◌}
use borrow.Author.Tests.{eqb-true, eqb-false, eq-eqb, ne_eqb}
use lib.Dec.{T, eqb}
use Rattle.text.proofs.Compare.{by}
use Rattle.token.specs.Kind.{Kind, kind_code, last_kind, end_kind, kind_of_code, among}
use Rattle.token.proofs.KindCodes.{code_back}
use Rattle.simulation.specs.Simulation.{code_among}
use Rattle.machine.specs.Rules.{Rule, ◌⇒◌, find_rule}

-- Tests of a kind joined by | are those of a list of kinds.
pub or_more : (a b c : Bool) → ((a || b) || c) ≡ (a || (b || c))
or_more true b c = refl
or_more false b c = refl

pub or_none : (a : Bool) → (a || false) ≡ a
or_none true = refl
or_none false = refl

eqb_swap : (i j : ℕ) → eqb i j ≡ eqb j i
eqb_swap i j = by (eqb j i) (λ x. rw (x, eq-eqb i j (sym (eqb-true j i x)))) (λ x. rw (x, ne_eqb i j (λ y. eqb-false j i x (sym y))))

-- By their numbers.
pub among_code : (ks : List Kind) (k : ℕ) → (k ≡ end_kind → ⊥) → k ≤ last_kind → among ks (kind_of_code k) ≡ code_among ks k
among_code [] k z h = refl
among_code (j ∷ js) k z h = rw (code_back k z h, among_code js k z h, eqb_swap (kind_code j) k)

-- The kinds that rules are for; a kind that is none of them has no rule.
abbrev pub kinds_of : {A : Type 0} → List (Rule A) → List (List Kind)
kinds_of [] = []
kinds_of ((ks ⇒ w) ∷ rs) = ks ∷ kinds_of rs

abbrev pub among_any : List (List Kind) → Kind → Bool
among_any [] k = false
among_any (ks ∷ kss) k = among ks k || among_any kss k

pub no_rule : {A : Type 0} (rs : List (Rule A)) (k : Kind) → among_any (kinds_of rs) k ≡ false → find_rule k rs ≡ none
no_rule [] k e = refl
no_rule ((ks ⇒ w) ∷ rs) k e = by (among ks k) (λ f. let z : ◌≡◌ {A = Bool} true false = (rw f at e) in absurd (subst T z tt)) (λ f. rw f (no_rule rs k (rw f at e)))

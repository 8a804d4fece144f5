-- Whether a term is among others, as terms are added.
use mathlib.Core.Path.{◌≡◌, refl, sym, ap, ◌∙◌}
use mathlib.Core.List.{List, [], ◌∷◌, ◌++◌}
use mathlib.Core.Bool.{true, false}
use mathlib.Core.Option.{Option, none, some}
use Prim.Native.Nat.{ℕ}
use Rattle.text.specs.Text.{is_none}
use Rattle.text.proofs.Compare.{contrary}
use Rattle.dataset.specs.Terms.{Term}
use Rattle.table.specs.Tables.{same_term, number}
use Rattle.table.proofs.Finding.{number_more, number_last, number_none}
use Rattle.room.specs.Asks.{Ask, fresh, shared, with_by, with_term, asked}

-- The term is among the terms us as it is among the terms ts; it is among us.
abbrev pub Same : List Term → List Term → Term → Type 0
Same ts us t = is_none (number t us) ≡ is_none (number t ts)

abbrev pub Has : List Term → Term → Type 0
Has us t = is_none (number t us) ≡ false

some_of : {A : Type 0} (o : Option A) → is_none o ≡ false → (a : A) × (o ≡ some a)
some_of none e = contrary e
some_of (some a) e = (a, refl)

pub none_of : {A : Type 0} (o : Option A) → is_none o ≡ true → o ≡ none
none_of none e = refl
none_of (some a) e = contrary (sym e)

pub has_more : (us vs : List Term) (t : Term) → Has us t → Has (us ++ vs) t
has_more us vs t h = let (n, e) = some_of (number t us) h in ap is_none (number_more t us vs n e)

same_by : (ts us : List Term) (t u : Term) → Same ts us t → same_term t u ≡ false → (o : Option ℕ) → number t us ≡ o → Same ts (us ++ u ∷ []) t
same_by ts us t u S f none e = ap is_none (number_none t u us f e) ∙ (sym (ap is_none e) ∙ S)
same_by ts us t u S f (some n) e = ap is_none (number_more t us (u ∷ []) n e) ∙ (sym (ap is_none e) ∙ S)

pub same_more : (ts us : List Term) (t u : Term) → Same ts us t → same_term t u ≡ false → Same ts (us ++ u ∷ []) t
same_more ts us t u S f = same_by ts us t u S f (number t us) refl

-- A term that is shared.
pub same_with : (ts us : List Term) (t u : Term) → Same ts us t → same_term t u ≡ false → Same ts (with_term u us) t
same_with ts us t u S f = go (number u us)
  where
    go : (o : Option ℕ) → Same ts (with_by o u us) t
    go none = same_more ts us t u S f
    go (some n) = S

has_with : (us : List Term) (t u : Term) → Has us t → Has (with_term u us) t
has_with us t u h = go (number u us)
  where
    go : (o : Option ℕ) → Has (with_by o u us) t
    go none = has_more us (u ∷ []) t h
    go (some n) = h

pub with_has : (us : List Term) (t : Term) → Has us t → with_term t us ≡ us
with_has us t h = let (n, e) = some_of (number t us) h in ap (λ o. with_by o t us) e

pub has_itself : (us : List Term) (t : Term) → Has (with_term t us) t
has_itself us t = go (number t us) refl
  where
    go : (o : Option ℕ) → number t us ≡ o → Has (with_by o t us) t
    go none e = ap is_none (number_last t us e)
    go (some n) e = ap is_none e

pub asked_has : (us : List Term) (t : Term) (xs : List Ask) → Has us t → Has (asked us xs) t
unfolding asked
asked_has us t [] h = h
asked_has us t (fresh u ∷ xs) h = asked_has (us ++ u ∷ []) t xs (has_more us (u ∷ []) t h)
asked_has us t (shared u ∷ xs) h = asked_has (with_term u us) t xs (has_with us t u h)

-- Terms and their numbers.
use mathlib.Core.Path.{◌≡◌, refl, sym, ap, ap₂, subst}
use mathlib.Core.List.{List, [], ◌∷◌, ◌++◌}
use mathlib.Core.Bool.{Bool, true, false}
use mathlib.Core.Option.{Option, none, some}
use Prim.Native.Nat.{ℕ, zero, suc, ◌+◌}
use native.Mathlib.Omega.{arith}
use lib.Dec.{T, eqb→eq}
use lib.ListN.{length}
use Rattle.text.specs.Text.{Text, cond, same_text}
use Rattle.text.proofs.Booleans.{and_0, and_1, is_true}
use Rattle.text.proofs.Compare.{same_eq}
use Rattle.dataset.specs.Terms.{Blank, label, bracket, cell, numbered, Term, iri, blank, literal, tagged}
use Rattle.table.specs.Tables.{same_blank, same_term, number_from, number, term_at}

-- What the tests find equal is equal.
same_text_eq : (s t : Text) → T (same_text s t) → s ≡ t
same_text_eq s t h = same_eq s t (is_true (same_text s t) h)

same_blank_eq : (b c : Blank) → T (same_blank b c) → b ≡ c
unfolding same_blank
same_blank_eq (label s) (label t) h = ap label (same_text_eq s t h)
same_blank_eq (label s) (bracket q) h = absurd h
same_blank_eq (label s) (cell q) h = absurd h
same_blank_eq (label s) (numbered q) h = absurd h
same_blank_eq (bracket p) (label t) h = absurd h
same_blank_eq (bracket p) (bracket q) h = ap bracket (eqb→eq p q h)
same_blank_eq (bracket p) (cell q) h = absurd h
same_blank_eq (bracket p) (numbered q) h = absurd h
same_blank_eq (cell p) (label t) h = absurd h
same_blank_eq (cell p) (bracket q) h = absurd h
same_blank_eq (cell p) (cell q) h = ap cell (eqb→eq p q h)
same_blank_eq (cell p) (numbered q) h = absurd h
same_blank_eq (numbered p) (label t) h = absurd h
same_blank_eq (numbered p) (bracket q) h = absurd h
same_blank_eq (numbered p) (cell q) h = absurd h
same_blank_eq (numbered p) (numbered q) h = ap numbered (eqb→eq p q h)

pub same_term_eq : (t u : Term) → T (same_term t u) → t ≡ u
unfolding same_term
same_term_eq (iri s) (iri t) h = ap iri (same_text_eq s t h)
same_term_eq (iri s) (blank c) h = absurd h
same_term_eq (iri s) (literal t e) h = absurd h
same_term_eq (iri s) (tagged t g) h = absurd h
same_term_eq (blank b) (iri t) h = absurd h
same_term_eq (blank b) (blank c) h = ap blank (same_blank_eq b c h)
same_term_eq (blank b) (literal t e) h = absurd h
same_term_eq (blank b) (tagged t g) h = absurd h
same_term_eq (literal s d) (iri t) h = absurd h
same_term_eq (literal s d) (blank c) h = absurd h
same_term_eq (literal s d) (literal t e) h = ap₂ literal (same_text_eq s t (and_0 (same_text s t) (same_text d e) h)) (same_text_eq d e (and_1 (same_text s t) (same_text d e) h))
same_term_eq (literal s d) (tagged t g) h = absurd h
same_term_eq (tagged s f) (iri t) h = absurd h
same_term_eq (tagged s f) (blank c) h = absurd h
same_term_eq (tagged s f) (literal t e) h = absurd h
same_term_eq (tagged s f) (tagged t g) h = ap₂ tagged (same_text_eq s t (and_0 (same_text s t) (same_text f g) h)) (same_text_eq f g (and_1 (same_text s t) (same_text f g) h))

-- The term n is t.
abbrev pub Known : List Term → ℕ → Term → Type 0
Known ts n t = term_at ts n ≡ some t

pub not_none {ℓ} : {A : Type 0} {B : Type ℓ} {a : A} → ◌≡◌ {A = Option A} none (some a) → B
not_none e = let z : ◌≡◌ {A = ℕ} 0 1 = cc in absurd (omega arith)

-- A number is of one term, and no term has the number 0.
pub known_zero : (ts : List Term) (t : Term) → Known ts 0 t → ⊥
unfolding term_at
known_zero [] t e = not_none e
known_zero (u ∷ us) t e = not_none e

-- It stays so when terms are added.
pub known_more : (ts us : List Term) (n : ℕ) (t : Term) → Known ts n t → Known (ts ++ us) n t
unfolding term_at
known_more [] us n t e = not_none e
known_more (u ∷ ts) us zero t e = not_none e
known_more (u ∷ ts) us (suc zero) t e = e
known_more (u ∷ ts) us (suc (suc n)) t e = known_more ts us (suc n) t e

-- A term that is added at the end has the next number.
pub known_last : (ts : List Term) (t : Term) → Known (ts ++ t ∷ []) (suc (length ts)) t
unfolding term_at
known_last [] t = refl
known_last (u ∷ []) t = refl
known_last (u ∷ v ∷ ts) t = known_last (v ∷ ts) t

-- The term with the number that was found.
found_from : (j : ℕ) (t : Term) (us : List Term) (k : ℕ) → number_from (suc j) t us ≡ some k → (i : ℕ) × (k ≡ suc (j + i)) × Known us (suc i) t
unfolding number_from term_at
found_from j t [] k e = not_none e
found_from j t (u ∷ us) k e = go (same_term t u) refl e (λ d. found_from (suc j) t us k d)
  where
    go : (b : Bool) → same_term t u ≡ b → cond b (some (suc j)) (number_from (suc (suc j)) t us) ≡ some k
        → (number_from (suc (suc j)) t us ≡ some k → (i : ℕ) × (k ≡ suc (suc j + i)) × Known us (suc i) t)
        → (i : ℕ) × (k ≡ suc (j + i)) × Known (u ∷ us) (suc i) t
    go true p e f = (0, (let q : suc j ≡ k = cc in omega arith), ap some (sym (same_term_eq t u (subst T (sym p) tt))))
    go false p e f = let (i, q, h) = f e in (suc i, omega arith, h)

pub found_known : (t : Term) (ts : List Term) (n : ℕ) → number t ts ≡ some n → Known ts n t
unfolding number
found_known t ts n e = let (i, q, h) = found_from 0 t ts n e in subst (λ k. Known ts k t) (let r : suc i ≡ n = omega arith in r) h

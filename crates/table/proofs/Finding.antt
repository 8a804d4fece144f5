-- Looking for a term among others, and what adding one changes.
use mathlib.Core.Path.{◌≡◌, refl, sym, ap, ◌∙◌}
use mathlib.Core.List.{List, [], ◌∷◌, ◌++◌}
use mathlib.Core.Bool.{true, false}
use mathlib.Core.Option.{Option, none, some}
use Prim.Native.Nat.{ℕ, zero, suc, ◌+◌, ◌<◌, ◌≤◌}
use native.Mathlib.Omega.{arith}
use borrow.Author.Tests.{eq-eqb}
use lib.ListN.{length, get_or, drop, drop_of_length-le}
use lib.Seq.{drop-cons}
use Rattle.text.specs.Text.{Text, cond}
use Rattle.text.proofs.Compare.{by, same_refl}
use Rattle.dataset.specs.Terms.{Blank, label, bracket, cell, numbered, Term, iri, blank, literal, tagged}
use Rattle.table.specs.Tables.{same_blank, same_term, number_from, number, term_at, or_zero}
use Rattle.table.proofs.Numbers.{known_zero, not_none, found_known}

same_blank_refl : (b : Blank) → same_blank b b ≡ true
unfolding same_blank
same_blank_refl (label s) = same_refl s
same_blank_refl (bracket p) = eq-eqb p p refl
same_blank_refl (cell p) = eq-eqb p p refl
same_blank_refl (numbered p) = eq-eqb p p refl

pub same_term_refl : (t : Term) → same_term t t ≡ true
unfolding same_term
same_term_refl (iri s) = same_refl s
same_term_refl (blank b) = same_blank_refl b
same_term_refl (literal s d) = rw (same_refl s, same_refl d)
same_term_refl (tagged s g) = rw (same_refl s, same_refl g)

-- The term at i is looked at; the end.
pub number_step : (t : Term) (ts : List Term) (i : ℕ) → i < length ts
    → number_from (suc i) t (drop i ts) ≡ cond (same_term t (get_or ts i (iri []))) (some (suc i)) (number_from (suc (suc i)) t (drop (suc i) ts))
unfolding number_from
number_step t ts i h = rw (drop-cons ts i (iri []) h)

pub number_end : (t : Term) (ts : List Term) (i : ℕ) → length ts ≤ i → number_from (suc i) t (drop i ts) ≡ none
unfolding number_from
number_end t ts i h = rw (drop_of_length-le ts {i = i} h)

pub number_start : (t : Term) (ts : List Term) → number t ts ≡ number_from 1 t (drop 0 ts)
unfolding number
number_start t ts = refl

-- A number stays when terms are added.
more_from : (j : ℕ) (t : Term) (ts us : List Term) (n : ℕ) → number_from j t ts ≡ some n → number_from j t (ts ++ us) ≡ some n
unfolding number_from
more_from j t [] us n e = not_none e
more_from j t (u ∷ ts) us n e = by (same_term t u) (λ p. rw p (rw p at e)) (λ p. rw p (more_from (suc j) t ts us n (rw p at e)))

pub number_more : (t : Term) (ts us : List Term) (n : ℕ) → number t ts ≡ some n → number t (ts ++ us) ≡ some n
unfolding number
number_more t ts us n e = more_from 1 t ts us n e

-- A term that no other equals has, when it is added, the next number.
last_from : (j : ℕ) (t : Term) (ts : List Term) → number_from j t ts ≡ none → number_from j t (ts ++ t ∷ []) ≡ some (j + length ts)
unfolding number_from
last_from j t [] e = rw (same_term_refl t) (ap some (omega arith))
last_from j t (u ∷ ts) e = by (same_term t u) (λ p. not_none (sym (rw p at e))) (λ p. rw p (last_from (suc j) t ts (rw p at e) ∙ ap some (omega arith)))

pub number_last : (t : Term) (ts : List Term) → number t ts ≡ none → number t (ts ++ t ∷ []) ≡ some (suc (length ts))
unfolding number
number_last t ts e = last_from 1 t ts e ∙ ap some (omega arith)

-- One term more does not make another found.
none_from : (j : ℕ) (t u : Term) (ts : List Term) → same_term t u ≡ false → number_from j t ts ≡ none → number_from j t (ts ++ u ∷ []) ≡ none
unfolding number_from
none_from j t u [] f e = rw f
none_from j t u (v ∷ ts) f e = by (same_term t v) (λ p. not_none (sym (rw p at e))) (λ p. rw p (none_from (suc j) t u ts f (rw p at e)))

pub number_none : (t u : Term) (ts : List Term) → same_term t u ≡ false → number t ts ≡ none → number t (ts ++ u ∷ []) ≡ none
unfolding number
number_none t u ts f e = none_from 1 t u ts f e

-- A number is at most the count of the terms.
within_from : (j : ℕ) (t : Term) (ts : List Term) (n : ℕ) → number_from j t ts ≡ some n → n < j + length ts
unfolding number_from
within_from j t [] n e = not_none e
within_from j t (u ∷ ts) n e =
    by (same_term t u) (λ p. let q : some j ≡ some n = rw p at e in let r : j ≡ n = cc in omega arith)
    (λ p. omega (arith, within_from (suc j) t ts n (rw p at e)))

pub number_within : (t : Term) (ts : List Term) (n : ℕ) → number t ts ≡ some n → n ≤ length ts
unfolding number
number_within t ts n e = omega (arith, within_from 1 t ts n e)

pub number_positive : (t : Term) (ts : List Term) (n : ℕ) → number t ts ≡ some n → 0 < n
number_positive t ts zero e = absurd (known_zero ts t (found_known t ts 0 e))
number_positive t ts (suc n) e = omega arith

-- No answer but 0 says that there is none.
pub zero_none : (t : Term) (ts : List Term) → or_zero (number t ts) ≡ 0 → number t ts ≡ none
zero_none t ts = go (number t ts) refl
  where
    go : (o : Option ℕ) → number t ts ≡ o → or_zero o ≡ 0 → o ≡ none
    go none e z = refl
    go (some n) e z = absurd (omega (arith, number_positive t ts n e))

pub positive_some : (t : Term) (ts : List Term) (n : ℕ) → or_zero (number t ts) ≡ n → 0 < n → number t ts ≡ some n
positive_some t ts n = go (number t ts)
  where
    go : (o : Option ℕ) → or_zero o ≡ n → 0 < n → o ≡ some n
    go none e p = absurd (omega arith)
    go (some m) e p = ap some e

-- One number is of one IRI.
pub number_same : (d e : Text) (ts : List Term) (n : ℕ) → number (iri d) ts ≡ some n → number (iri e) ts ≡ some n → d ≡ e
number_same d e ts n p q = let a : term_at ts n ≡ some (iri d) = found_known (iri d) ts n p in let b : term_at ts n ≡ some (iri e) = found_known (iri e) ts n q in cc

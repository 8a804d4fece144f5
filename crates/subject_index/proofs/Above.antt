-- The next subject by a scan of all rows is the next of the sorted texts.
use mathlib.Core.Path.{◌≡◌, refl, sym, ap, ◌∙◌, subst}
use mathlib.Core.List.{List, [], ◌∷◌}
use mathlib.Core.Bool.{true}
use mathlib.Core.Option.{Option, none, some}
use Prim.Native.Nat.{ℕ, zero, suc}
use native.Mathlib.Omega.{arith}
use Rattle.text.specs.Text.{Text, cond, same_text}
use Rattle.text.proofs.Compare.{by, same_eq}
use Rattle.text.specs.Order.{smaller}
use Rattle.text.proofs.Order.{smaller_self, smaller_trans, smaller_other, one_of_three}
use Rattle.look_up.specs.Look.{rises}
use Rattle.subject_index.specs.Index.{insert, insert_any, sorted}
use Rattle.subject_index.specs.Code.{nearer, next}
use Rattle.subject_index.proofs.Rising.{Rising, rising_later, rising_sorted}

-- The texts above one.
unfoldable pub above : Option Text → List Text → List Text
above p [] = []
above p (t ∷ ts) = let r = above p ts in cond (rises p t) (t ∷ r) r

abbrev pub first : List Text → Option Text
first [] = none
first (t ∷ ts) = some t

pub some_eq : (t u : Text) → some t ≡ some u → t ≡ u
some_eq t u e = cc

pub none_some : {X : Type 0} (t : Text) → ◌≡◌ {A = Option Text} none (some t) → X
none_some t e = absurd (let z : ◌≡◌ {A = ℕ} 0 1 = cc in omega arith)

pub above_all : (b : Option Text) (ts : List Text) → Rising b ts → above b ts ≡ ts
unfolding above
above_all b [] r = refl
above_all b (t ∷ ts) (k, r) = rw k (ap (λ (x : List Text). t ∷ x) (above_all b ts (rising_later b t ts k r)))

rises_trans : (p : Option Text) (t u : Text) → rises p t ≡ true → smaller t u ≡ true → rises p u ≡ true
rises_trans none t u h k = refl
rises_trans (some b) t u h k = smaller_trans b t u h k

first_above : (p : Option Text) (u t : Text) (us : List Text) → Rising (some u) us → first (above p us) ≡ some t → smaller u t ≡ true
unfolding above
first_above p u t [] r e = none_some t e
first_above p u t (v ∷ vs) (k, r) e =
    by (rises p v) (λ h. let q = some_eq v t (sym (rw h) ∙ e) in ap (smaller u) (sym q) ∙ k)
    (λ h. first_above p u t vs (rising_later (some u) v vs k r) (sym (rw h) ∙ e))

-- What is left behind the next text.
pub above_next : (b p : Option Text) (t : Text) (ts : List Text) → Rising b ts → first (above p ts) ≡ some t → above p ts ≡ t ∷ above (some t) ts
unfolding above
above_next b p t [] r e = none_some t e
above_next b p t (u ∷ us) (k, r) e =
    by (rises p u)
    (λ h. let q = some_eq u t (sym (rw h) ∙ e) in
    subst (λ (x : Text). above p (u ∷ us) ≡ x ∷ above (some x) (u ∷ us)) q
    (rw (h, smaller_self u) (ap (λ (x : List Text). u ∷ x) (above_all p us (rising_later p u us h r) ∙ sym (above_all (some u) us r)))))
    (λ h. let f : first (above p us) ≡ some t = sym (rw h) ∙ e in
    rw (h, smaller_other u t (first_above p u t us r f)) (above_next (some u) p t us r f))

pub above_end : (p : Option Text) (ts : List Text) → first (above p ts) ≡ none → above p ts ≡ []
above_end p ts e = go (above p ts) e
  where
    go : (xs : List Text) → first xs ≡ none → xs ≡ []
    go [] q = refl
    go (t ∷ xs) q = none_some t (sym q)

-- One text more.
first_insert : (b p : Option Text) (t : Text) (ts : List Text) → Rising b ts → first (above p (insert t ts)) ≡ nearer p (some t) (first (above p ts))
unfolding above insert nearer
first_insert b p t [] r = by (rises p t) (λ h. rw h) (λ h. rw h)
first_insert b p t (u ∷ us) (k, r) =
    by (smaller t u)
    (λ e. by (rises p t) (λ h. rw (e, h, rises_trans p t u h e, e)) (λ h. rw (e, h)))
    (λ e. by (same_text t u)
    (λ f. let q = same_eq t u f in by (rises p u) (λ h. rw (e, f, q, h, smaller_self u)) (λ h. rw (e, f, q, h)))
    (λ f. let l = one_of_three t u e f in
    by (rises p u) (λ h. rw (e, f, h, rises_trans p u t h l, e)) (λ h. rw (e, f, h) (first_insert (some u) p t us r))))

module _ (subject : ℕ → Option Text) where
  pub next_sorted : (p : Option Text) (n : ℕ) → next subject p n ≡ first (above p (sorted subject n))
  unfolding next sorted above nearer
  next_sorted p zero = refl
  next_sorted p (suc n) = go (subject n) (next_sorted p n)
    where
      go : (o : Option Text) → next subject p n ≡ first (above p (sorted subject n)) → nearer p o (next subject p n) ≡ first (above p (insert_any o (sorted subject n)))
      go none e = e
      go (some t) e = ap (nearer p (some t)) e ∙ sym (first_insert none p t (sorted subject n) (rising_sorted subject n))

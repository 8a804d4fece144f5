-- The texts of subjects rise.
use mathlib.Core.Path.{◌≡◌, refl}
use mathlib.Core.List.{List, [], ◌∷◌}
use mathlib.Core.Bool.{true}
use mathlib.Core.Option.{Option, none, some}
use Prim.Native.Nat.{ℕ, zero, suc}
use Rattle.text.specs.Text.{Text, same_text}
use Rattle.text.proofs.Compare.{by}
use Rattle.text.specs.Order.{smaller}
use Rattle.text.proofs.Order.{smaller_trans, one_of_three}
use Rattle.look_up.specs.Look.{rises}
use Rattle.subject_index.specs.Index.{insert, insert_any, sorted}

abbrev pub Rising : Option Text → List Text → Type 0
Rising b [] = Unit {0}
Rising b (t ∷ ts) = (rises b t ≡ true) × Rising (some t) ts

pub rising_later : (b : Option Text) (t : Text) (us : List Text) → rises b t ≡ true → Rising (some t) us → Rising b us
rising_later b t [] h r = tt
rising_later none t (u ∷ us) h (k, r) = (refl, r)
rising_later (some b) t (u ∷ us) h (k, r) = (smaller_trans b t u h k, r)

pub rising_insert : (b : Option Text) (t : Text) (ts : List Text) → rises b t ≡ true → Rising b ts → Rising b (insert t ts)
unfolding insert
rising_insert b t [] h r = (h, tt)
rising_insert b t (u ∷ us) h (k, r) =
    by (smaller t u) (λ e. rw e (h, (e, r)))
    (λ e. by (same_text t u) (λ f. rw (e, f) (k, r)) (λ f. rw (e, f) (k, rising_insert (some u) t us (one_of_three t u e f) r)))

module _ (subject : ℕ → Option Text) where
  pub rising_sorted : (n : ℕ) → Rising none (sorted subject n)
  unfolding sorted
  rising_sorted zero = tt
  rising_sorted (suc n) = go (subject n) (rising_sorted n)
    where
      go : (o : Option Text) → Rising none (sorted subject n) → Rising none (insert_any o (sorted subject n))
      go none r = r
      go (some t) r = rising_insert none t (sorted subject n) refl r

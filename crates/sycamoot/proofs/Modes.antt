-- A mode that is neither 0 nor 1 is answered like every other such.
use mathlib.Core.Path.{◌≡◌, refl, ap, sym, subst, ◌∙◌}
use mathlib.Core.Bool.{false}
use Prim.Native.Nat.{ℕ}
use lib.Dec.{leb, ltb}
use lib.ListN.{length}
use Rattle.text.specs.Text.{Text, cond}
use Rattle.text.proofs.Compare.{by}
use Rattle.limits.specs.Limits.{document_limit}
use Rattle.machine.specs.Read.{Lent, Answer, untouched, read, read_checked}
use Rattle.reader.specs.Reader.{LentSlices, lengths, Gives, Contract, Reading}
use Rattle.sycamoot.specs.Answers.{known_mode}

module _ (doc : Text) (base : Text) (lent : Lent) where
  unknown : (mode : ℕ) → leb mode 1 ≡ false → read doc mode base lent ≡ cond (ltb document_limit (length doc)) (untouched 1) (untouched 2)
  unfolding read read_checked
  unknown mode e = by (ltb document_limit (length doc)) (λ h. rw h) (λ h. rw (h, e))

  same_answer : (mode : ℕ) → read doc (known_mode mode) base lent ≡ read doc mode base lent
  same_answer mode = by (leb mode 1) (λ e. rw e) (λ e. ap (λ (n : ℕ). read doc n base lent) (rw e) ∙ unknown 2 refl ∙ sym (unknown mode e))

pub same_mode : (doc : Text) (mode n : ℕ) (base : Text) (old new : LentSlices) (r : Reading) → n ≡ known_mode mode → Contract doc n base old new r → Contract doc mode base old new r
same_mode doc mode n base old new r e g =
    subst (λ (a : Answer). Gives a old new r) (ap (λ (k : ℕ). read doc k base (lengths old)) e ∙ same_answer doc base (lengths old) mode) g

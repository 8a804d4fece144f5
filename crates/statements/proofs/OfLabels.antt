-- Does a graph come behind the subject?
use mathlib.Core.Path.{◌≡◌, sym}
use mathlib.Core.List.{List}
use mathlib.Core.Bool.{Bool, true, false}
use Prim.Native.Nat.{ℕ}
use borrow.Author.Tests.{ne_eqb, eqb-true}
use lib.Dec.{eqb}
use Rattle.text.proofs.Compare.{by, contrary}
use Rattle.token.specs.Kind.{kind_code, open_brace}
use Rattle.state.specs.Words.{kind_in, list_in}
use Rattle.statements.specs.Statements.{graph_label_test}

pub other_mode : (st : List ℕ) (mode : ℕ) → (mode ≡ 0 → ⊥) → false ≡ graph_label_test st mode
unfolding graph_label_test
other_mode st mode z = rw (ne_eqb mode 0 z)

pub other_shape : (st : List ℕ) (mode : ℕ) → mode ≡ 0 → (list_in st ≡ 0 → ⊥) → false ≡ graph_label_test st mode
unfolding graph_label_test
other_shape st mode e z = rw (e, ne_eqb (list_in st) 0 z)

pub label_mode : (st : List ℕ) (mode : ℕ) (b : Bool) → mode ≡ 0 → list_in st ≡ 0 → b ≡ eqb (kind_in st) (kind_code open_brace) → b ≡ graph_label_test st mode
unfolding graph_label_test
label_mode st mode b e z h = rw (e, z) h

-- What the test says.
pub record Labels (st : List ℕ) (mode : ℕ) : Type 0 where
  pub mode_is : mode ≡ 0
  pub shape_is : list_in st ≡ 0
  pub kind_is : kind_in st ≡ kind_code open_brace

pub labels : (st : List ℕ) (mode : ℕ) → graph_label_test st mode ≡ true → Labels st mode
unfolding graph_label_test
labels st mode e =
    by (eqb mode 0)
    (λ p. by (eqb (list_in st) 0) (λ q. record { mode_is = eqb-true mode 0 p; shape_is = eqb-true (list_in st) 0 q; kind_is = eqb-true (kind_in st) (kind_code open_brace) (rw (p, q) at e) }) (λ q. contrary (sym (rw (p, q) at e))))
    (λ p. contrary (sym (rw p at e)))

pub no_labels : (st : List ℕ) (mode : ℕ) → graph_label_test st mode ≡ false → mode ≡ 0 → list_in st ≡ 0 → kind_in st ≡ kind_code open_brace → ⊥
unfolding graph_label_test
no_labels st mode f e z h = contrary (rw (e, z, h) at f)

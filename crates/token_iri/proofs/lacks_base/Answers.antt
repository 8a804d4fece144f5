use mathlib.Core.Path.{◌≡◌, refl, ap, sym, ◌∙◌}
use mathlib.Core.List.{[], ◌∷◌}
use mathlib.Core.Bool.{Bool, true, false, not, ◌&&◌}
use native.Mathlib.Omega.{arith}
use lib.ListN.{length}
use lib.Dec.{eqb}
use borrow.Author.Tests.{ne_eqb}
use Rattle.text.specs.Text.{Text, empty}
use Rattle.token_iri.proofs.lacks_base.Goals as goal

empty_is : (b : Text) → empty b ≡ eqb (length b) 0
empty_is [] = refl
empty_is (c ∷ s) = sym (ne_eqb (length (c ∷ s)) 0 (λ q. omega arith))

and_is : (a b c : Bool) → b ≡ c → (a && b) ≡ (a && c)
and_is a b c e = ap (λ (x : Bool). a && x) e

and_true : (a : Bool) → a ≡ (a && true)
and_true true = refl
and_true false = refl

and_none : (a : Bool) → false ≡ (a && false)
and_none true = refl
and_none false = refl

pub returns-then-is_empty : goal.returns-then-is_empty
returns-then-is_empty c = ap not c.has_scheme_unescaped.ensures ∙ (and_true _ ∙ and_is _ _ _ (sym (empty_is c.args.base.now ∙ (sym c.is_empty.ensures ∙ c.if-is_empty.true))))

pub returns : goal.returns
returns c = and_none _ ∙ and_is _ _ _ (sym (empty_is c.args.base.now ∙ (sym c.is_empty.ensures ∙ c.if-is_empty.false)))

use native.Mathlib.Omega.{arith}
use lib.Dec.{leb}
use borrow.Author.Tests.{le-leb, leb-true}
use Rattle.text.proofs.Compare.{by}
use Rattle.escape.specs.Escape.{no_character}
use Rattle.escape.proofs.names_no_character.Goals as goal

pub returns-in-55296-to-57343 : goal.returns-in-55296-to-57343
unfolding no_character
returns-in-55296-to-57343 c = simp (le-leb 0xD800 c.args.v (omega arith), le-leb c.args.v 0xDFFF (omega arith))

pub returns-in_default : goal.returns-in_default
unfolding no_character
returns-in_default c =
    by (leb 0xD800 c.args.v) (λ e. by (leb c.args.v 0xDFFF) (λ f. absurd (let h = leb-true _ _ e in let k = leb-true _ _ f in omega arith)) (λ f. rw (e, f)))
    (λ e. rw e)

use mathlib.Core.Path.{◌≡◌, refl, ap, ◌∙◌}
use native.Mathlib.Omega.{arith}
use lib.ListN.{length}
use Rattle.text.specs.Text.{Text}
use Rattle.spelling.specs.Form.{joined, undo}
use Rattle.dataset.specs.Terms.{iri}
use Rattle.table.specs.Tables.{number, or_zero}
use Rattle.std.specs.Prelude.{Some, unwrap_or}
use Rattle.room.specs.Supply.{number_of}
use Rattle.room.specs.Asks.{supplied}
use Rattle.room.proofs.Bounds.{supplied_small}
use Rattle.room.proofs.Tests.{supplied_is, some_number, no_supply, some_supply}
use Rattle.room.proofs.tally_supply.Goals as goal

pub returns-in-None : goal.returns-in-None
returns-in-None c = λ ts H. rw c.in-None.is (no_supply ts 0 c.args.t refl)

pub more-requires : goal.more-requires
more-requires c =
    let the : c.text-text.result.now ≡ supplied (number_of (Some c.in-Some.which)) = c.text-text.ensures ∙ supplied_is c.in-Some.which in
    (record { terms = omega (arith, c.requires.1.terms); bytes = omega (arith, c.requires.1.bytes) }, (omega (arith, ap length the, supplied_small (number_of (Some c.in-Some.which))), c.find_iri-n.ensures.1))

pub returns-in-Some : goal.returns-in-Some
unfolding joined undo
returns-in-Some c = λ ts H.
    let the : c.text-text.result.now ≡ supplied (number_of (Some c.in-Some.which)) = c.text-text.ensures ∙ supplied_is c.in-Some.which in
    rw c.in-Some.is
    (some_supply ts (number_of (Some c.in-Some.which)) c.args.t c.more.result (unwrap_or c.find_iri-n.result 0) (length c.text-text.result.now) (some_number c.in-Some.which) c.more.ensures
    (c.find_iri-n.ensures.0 ts H ∙ ap (λ (x : Text). or_zero (number (iri x) ts)) the) (ap length the))

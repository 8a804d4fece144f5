use mathlib.Core.Path.{refl}
use native.Mathlib.Omega.{arith}
use Rattle.text.proofs.Over.{over_part}
use Rattle.environment.proofs.Directives.{base_too_long, base_set}
use Rattle.environment.specs.Code.{base_place}
use Rattle.environment.proofs.set_base.Goals as goal

pub returns-then-work-lt-WORK : goal.returns-then-work-lt-WORK
returns-then-work-lt-WORK c = λ u. absurd (omega (arith, u.room))

pub returns-then-iri-gt-IRI : goal.returns-then-iri-gt-IRI
returns-then-iri-gt-IRI c = λ u. base_too_long c.args.work.now c.args.lens.now c.args.iri.now u c.if-iri-gt-IRI.true _

pub returns : goal.returns
returns c = λ u. base_set c.args.work.now c.args.lens.now c.args.iri.now u _ _ (omega arith) (over_part base_place c.args.iri.now c.args.work.now c.copy.new.out _ refl c.copy.ensures) refl

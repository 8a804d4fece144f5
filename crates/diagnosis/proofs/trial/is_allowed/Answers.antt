use Rattle.std.proofs.Common.{◌<◌, ◌≤◌, sym, arith}
use lib.Dec.{ltb}
use borrow.Author.Tests.{ltb-true, ltb-false}
use lib.Seq.{length-take-le}
use Rattle.text.proofs.Compare.{by}
use Rattle.token.specs.Kind.{last_kind}
use Rattle.diagnosis.proofs.Trials.{no_kind, past_kinds, no_room, tried}
use Rattle.diagnosis.proofs.trial.is_allowed.Goals as goal

pub returns-then-not-contains : goal.returns-then-not-contains
returns-then-not-contains c =
    by (ltb c.args.kind 1) (λ q. no_kind _ _ _ _ _ (ltb-true c.args.kind 1 q))
    (λ q. let h = ltb-false c.args.kind 1 q in
    let k : last_kind < c.args.kind = grind (arith, h, c.contains.ensures.cases, c.if-not-contains.true) in
    past_kinds _ _ _ _ _ h k)

pub returns-then-saturating_sub-lt-SAMPLE : goal.returns-then-saturating_sub-lt-SAMPLE
returns-then-saturating_sub-lt-SAMPLE c =
    let l : 1 ≤ c.args.kind = grind (arith, c.contains.ensures.cases, c.if-not-contains.false) in
    let k : c.args.kind ≤ last_kind = grind (arith, c.contains.ensures.cases, c.if-not-contains.false) in
    no_room _ _ _ _ _ l k (omega (arith, c.saturating_sub.ensures, c.if-saturating_sub-lt-SAMPLE.true))

pub slice_bounds-is_taken-end-2 : goal.slice_bounds-is_taken-end-2
slice_bounds-is_taken-end-2 c = sym (length-take-le _ _ (omega (arith, c.put_sample.auto.page)))

pub returns : goal.returns
returns c =
    let l : 1 ≤ c.args.kind = grind (arith, c.contains.ensures.cases, c.if-not-contains.false) in
    let k : c.args.kind ≤ last_kind = grind (arith, c.contains.ensures.cases, c.if-not-contains.false) in
    tried _ _ _ _ _ _ _ _ l k (omega (arith, c.saturating_sub.ensures, c.if-saturating_sub-lt-SAMPLE.false)) c.put_sample.ensures c.is_taken.ensures

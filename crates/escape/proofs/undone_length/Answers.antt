use mathlib.Core.Path.{sym, ◌∙◌}
use native.Mathlib.Omega.{arith}
use Rattle.escape.specs.Code.{Yields}
use Rattle.escape.proofs.Walk.{plain_undone, undone_short, length_more}
use Rattle.escape.proofs.undone_length.Goals as goal

pub returns-then-not-has_backslash : goal.returns-then-not-has_backslash
returns-then-not-has_backslash c = rw (plain_undone c.args.escapes c.args.s.now (sym c.has_backslash.ensures ∙ c.if-not-has_backslash.true))

pub overflow_add-total : goal.overflow_add-total
overflow_add-total c =
    let y : Yields c.args.escapes c.loop-part.part-iterator.rest.now c.next.new.self.rest.now c.in-Some.part = rw c.loop-part.invariant.kind at c.in-Some.ensures.steps.0 in
    omega (arith, c.loop-part.invariant.long, length_more _ _ _ _ y, c.len-total.ensures, undone_short c.args.escapes c.args.s.now)

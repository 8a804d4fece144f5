use Prim.Native.Nat.{suc}
use mathlib.Core.Path.{refl}
use native.Mathlib.Omega.{arith}
use Rattle.terms.proofs.Tests.{rest_tagged, rest_other}
use Rattle.table.specs.Layout.{entry_at}
use Rattle.terms.specs.Code.{same_rest}
use Rattle.terms.proofs.same_rest.Goals as goal

pub returns-in-Literal : goal.returns-in-Literal
unfolding entry_at same_rest
returns-in-Literal c = rw (c.in-Literal.is, c.wide.ensures) refl

pub overflow_add-end : goal.overflow_add-end
unfolding entry_at
overflow_add-end c = omega (arith, c.requires.0.tag (rw c.in-Tagged.is at c.requires.1), c.wide-start.ensures, c.wide-in-Tagged.ensures)

pub slice_bounds-same-end : goal.slice_bounds-same-end
unfolding entry_at
slice_bounds-same-end c = omega (arith, c.requires.0.tag (rw c.in-Tagged.is at c.requires.1), c.wide-start.ensures, c.wide-in-Tagged.ensures)

pub returns-in-Tagged : goal.returns-in-Tagged
unfolding entry_at
returns-in-Tagged c = rest_tagged c.args.store.now (entry_at c.args.terms.now (suc c.args.i)) c.args.sort c.args.tag.now c.args.tag.now (rw c.in-Tagged.is refl) c.wide-start.result _ c.wide-start.ensures (omega (arith, c.wide-start.ensures, c.wide-in-Tagged.ensures)) _ c.same.ensures

pub returns-in_default : goal.returns-in_default
returns-in_default c = rest_other c.args.store.now (entry_at c.args.terms.now (suc c.args.i)) c.args.sort c.args.tag.now c.in_default.not-Literal c.in_default.not-Tagged

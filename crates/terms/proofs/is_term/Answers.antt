use Prim.Native.Nat.{suc}
use mathlib.Core.Path.{sym, ◌∙◌}
use native.Mathlib.Omega.{arith}
use Rattle.terms.proofs.Tests.{kind_read, other_kind, other_text, same_text_too}
use Rattle.table.specs.Layout.{entry_at}
use Rattle.terms.specs.Sorts.{text_in}
use Rattle.terms.proofs.is_term.Goals as goal

pub returns-then-wide-kind : goal.returns-then-wide-kind
unfolding entry_at
returns-then-wide-kind c = other_kind c.args.store.now (entry_at c.args.terms.now (suc c.args.i)) c.args.sought.now.sort (text_in c.args.sought.now) c.args.sought.now.tag.now (λ k. c.if-wide-kind.true (kind_read c.args.terms.now c.args.i _ c.wide.ensures ∙ (k ∙ sym c.kind.ensures)))

pub overflow_add-end : goal.overflow_add-end
unfolding entry_at
overflow_add-end c = omega (arith, c.requires.text, c.wide-start.ensures, c.wide-2.ensures)

pub slice_bounds-same_joined-end : goal.slice_bounds-same_joined-end
unfolding entry_at
slice_bounds-same_joined-end c = omega (arith, c.requires.text, c.wide-start.ensures, c.wide-2.ensures)

pub same_rest-requires : goal.same_rest-requires
unfolding entry_at
same_rest-requires c = (c.requires, (sym (kind_read c.args.terms.now c.args.i _ c.wide.ensures) ∙ (c.if-wide-kind.false ∙ c.kind.ensures)))

pub returns-then-same_joined : goal.returns-then-same_joined
unfolding entry_at
returns-then-same_joined c = same_text_too c.args.store.now (entry_at c.args.terms.now (suc c.args.i)) c.args.sought.now.sort (text_in c.args.sought.now) c.args.sought.now.tag.now (sym (kind_read c.args.terms.now c.args.i _ c.wide.ensures) ∙ (c.if-wide-kind.false ∙ c.kind.ensures)) c.wide-start.result _ c.wide-start.ensures (omega (arith, c.wide-start.ensures, c.wide-2.ensures)) _ _ c.same_joined.ensures c.if-same_joined.true c.same_rest.ensures

pub returns-else-same_joined : goal.returns-else-same_joined
unfolding entry_at
returns-else-same_joined c = c.if-same_joined.false ∙ other_text c.args.store.now (entry_at c.args.terms.now (suc c.args.i)) c.args.sought.now.sort (text_in c.args.sought.now) c.args.sought.now.tag.now (sym (kind_read c.args.terms.now c.args.i _ c.wide.ensures) ∙ (c.if-wide-kind.false ∙ c.kind.ensures)) c.wide-start.result _ c.wide-start.ensures (omega (arith, c.wide-start.ensures, c.wide-2.ensures)) _ c.same_joined.ensures c.if-same_joined.false

use Prim.Native.Nat.{suc}
use mathlib.Core.Path.{sym, ◌∙◌}
use native.Mathlib.Omega.{arith}
use Rattle.table.specs.Layout.{entry_at}
use Rattle.terms.specs.Sorts.{text_in}
use Rattle.terms.specs.Code.{matches}
use Rattle.terms.proofs.Tests.{first_here, first_further, first_none}
use Rattle.terms.proofs.find_from.Goals as goal

pub returns-then-is_term : goal.returns-then-is_term
returns-then-is_term c = (first_here (λ k. matches c.args.store.now (entry_at c.args.terms.now (suc k)) c.args.sought.now.sort (text_in c.args.sought.now) c.args.sought.now.tag.now) c.loop-i.i c.args.count (omega arith) (sym c.is_term.ensures ∙ c.if-is_term.true) ∙ sym c.loop-i.invariant, omega arith)

pub loop-i-preserved : goal.loop-i-preserved
loop-i-preserved c = c.loop-i.invariant ∙ first_further (λ k. matches c.args.store.now (entry_at c.args.terms.now (suc k)) c.args.sought.now.sort (text_in c.args.sought.now) c.args.sought.now.tag.now) c.loop-i.i c.args.count (omega arith) (sym c.is_term.ensures ∙ c.if-is_term.false)

pub returns : goal.returns
returns c = (sym (c.loop-i.invariant ∙ first_none (λ k. matches c.args.store.now (entry_at c.args.terms.now (suc k)) c.args.sought.now.sort (text_in c.args.sought.now) c.args.sought.now.tag.now) c.loop-i.i c.args.count c.loop-i-test.false), tt)

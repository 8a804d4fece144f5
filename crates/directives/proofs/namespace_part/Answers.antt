use mathlib.Core.Path.{refl}
use Rattle.limits.proofs.Errors.{handed_on, numbered}
use Rattle.directives.proofs.Calling.{changed_call}
use Rattle.directives.proofs.Parts.{namespace_none, namespace_refused, namespace_ends, namespace_dot}
use Rattle.directives.proofs.namespace_part.Goals as goal

pub returns-then-st-ne-IRIREF : goal.returns-then-st-ne-IRIREF
returns-then-st-ne-IRIREF c = search namespace_none

pub returns-in_err-declare : goal.returns-in_err-declare
returns-in_err-declare c = rw (handed_on _ _ c.from_residual.ensures) (namespace_refused c.args.doc.now _ c.args.dotted c.args.work.now c.declare.new.work c.args.st.now c.declare.new.st _ c.if-st-ne-IRIREF.false c.in_err-declare.ensures (numbered _))

pub pass-requires : goal.pass-requires
pass-requires c = changed_call _ _ _ c.requires.0 _ _ c.if-st-ne-IRIREF.false c.declare.ensures.beside c.declare.ensures.words

pub returns-then-dotted : goal.returns-then-dotted
returns-then-dotted c = namespace_dot c.args.doc.now _ c.args.dotted c.args.work.now c.declare.new.work c.args.st.now c.declare.new.st 0 c.if-st-ne-IRIREF.false c.in_ok-declare.ensures refl _ c.pass.ensures c.if-dotted.true _ _ c.final_dot.ensures

pub returns : goal.returns
returns c = namespace_ends c.args.doc.now _ c.args.dotted c.args.work.now c.declare.new.work c.args.st.now c.declare.new.st 0 c.if-st-ne-IRIREF.false c.in_ok-declare.ensures refl _ c.pass.ensures c.if-dotted.false

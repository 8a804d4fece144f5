use mathlib.Core.Path.{refl}
use Rattle.limits.proofs.Errors.{handed_on, numbered}
use Rattle.directives.proofs.Calling.{changed_call}
use Rattle.directives.proofs.Parts.{base_none, base_refused, base_ends, base_dot}
use Rattle.directives.proofs.base_part.Goals as goal

pub returns-then-st-ne-IRIREF : goal.returns-then-st-ne-IRIREF
returns-then-st-ne-IRIREF c = search base_none

pub returns-in_err-set_base : goal.returns-in_err-set_base
returns-in_err-set_base c = rw (handed_on _ _ c.from_residual.ensures) (base_refused c.args.doc.now c.args.dotted c.args.work.now c.set_base.new.work c.args.st.now c.set_base.new.st _ c.if-st-ne-IRIREF.false c.in_err-set_base.ensures (numbered _))

pub pass-requires : goal.pass-requires
pass-requires c = changed_call _ _ _ c.requires _ _ c.if-st-ne-IRIREF.false c.set_base.ensures.beside c.set_base.ensures.words

pub returns-then-dotted : goal.returns-then-dotted
returns-then-dotted c = base_dot c.args.doc.now c.args.dotted c.args.work.now c.set_base.new.work c.args.st.now c.set_base.new.st 0 c.if-st-ne-IRIREF.false c.in_ok-set_base.ensures refl _ c.pass.ensures c.if-dotted.true _ _ c.final_dot.ensures

pub returns : goal.returns
returns c = base_ends c.args.doc.now c.args.dotted c.args.work.now c.set_base.new.work c.args.st.now c.set_base.new.st 0 c.if-st-ne-IRIREF.false c.in_ok-set_base.ensures refl _ c.pass.ensures c.if-dotted.false

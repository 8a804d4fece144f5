use Rattle.text.proofs.Over.{rest_all}
use lib.Seq.{length-take-le}
use mathlib.Core.Path.{sym}
use native.Mathlib.Omega.{arith}
use Rattle.token_iri.proofs.Directives.{base_refused_no_base, base_refused_long, fits, base_declared, base_never_long}
use Rattle.token_iri.proofs.Bases.{err_is}
use Rattle.token_iri.proofs.set_written.Goals as goal

pub slice_bounds-set_base-end : goal.slice_bounds-set_base-end
slice_bounds-set_base-end c = fits c.args.token.now c.args.work.now c.args.st.now c.requires.1.1.0 c.requires.1.1.1 c.requires.1.0 c.inside-text.result.now c.inside-text.ensures _ (rest_all c.args.work.now 0) c.write_reference-a.new.buffer c.write_reference-a.result c.write_reference-a.ensures c.in-Ok.k c.in-Ok.is

pub slice_bounds-set_base-end-in-Ok : goal.slice_bounds-set_base-end-in-Ok
slice_bounds-set_base-end-in-Ok c = sym (length-take-le c.in-Ok.k c.write_reference-a.new.buffer (fits c.args.token.now c.args.work.now c.args.st.now c.requires.1.1.0 c.requires.1.1.1 c.requires.1.0 c.inside-text.result.now c.inside-text.ensures _ (rest_all c.args.work.now 0) c.write_reference-a.new.buffer c.write_reference-a.result c.write_reference-a.ensures c.in-Ok.k c.in-Ok.is))

pub returns-in-Ok-d : goal.returns-in-Ok-d
returns-in-Ok-d c = base_declared c.args.token.now c.args.work.now c.args.st.now c.requires.1.1.0 c.requires.1.1.1 c.requires.1.0 c.inside-text.result.now c.inside-text.ensures _ (rest_all c.args.work.now 0) c.write_reference-a.new.buffer c.write_reference-a.result c.write_reference-a.ensures c.in-Ok.k c.in-Ok.is (omega arith) c.set_base-d.new.work c.set_base-d.new.lens c.set_base-d.result c.set_base-d.ensures c.in-Ok-d.is

pub returns-in-Err-NoBase : goal.returns-in-Err-NoBase
returns-in-Err-NoBase c = base_refused_no_base c.args.token.now c.args.work.now c.args.st.now c.requires.1.1.0 c.requires.1.1.1 c.requires.1.0 c.inside-text.result.now c.inside-text.ensures _ (rest_all c.args.work.now 0) c.write_reference-a.new.buffer c.write_reference-a.result c.write_reference-a.ensures (err_is c.in-Err-NoBase.is (rw c.in-Err-NoBase.is at c.in-Err-NoBase.field-0-is))

pub returns-in-Err-Long : goal.returns-in-Err-Long
returns-in-Err-Long c = base_refused_long c.args.token.now c.args.work.now c.args.st.now c.requires.1.1.0 c.requires.1.1.1 c.requires.1.0 c.inside-text.result.now c.inside-text.ensures _ (rest_all c.args.work.now 0) c.write_reference-a.new.buffer c.write_reference-a.result c.write_reference-a.ensures (err_is c.in-Err-Long.is (rw c.in-Err-Long.is at c.in-Err-Long.field-0-is))

pub returns-in-Err : goal.returns-in-Err
returns-in-Err c = base_never_long c.args.token.now c.args.work.now c.args.st.now c.requires.1.1.0 c.requires.1.1.1 c.requires.1.0 c.inside-text.result.now c.inside-text.ensures _ (rest_all c.args.work.now 0) c.write_reference-a.new.buffer c.write_reference-a.result c.write_reference-a.ensures c.in-Ok.k c.in-Ok.is (omega arith) c.set_base-d.new.work c.set_base-d.new.lens c.set_base-d.result c.set_base-d.ensures _ c.in-Err.is

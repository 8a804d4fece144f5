use Rattle.text.proofs.Over.{rest_all}
use lib.Seq.{length-take-le}
use mathlib.Core.Path.{sym}
use native.Mathlib.Omega.{arith}
use Rattle.token_iri.proofs.Directives.{namespace_refused_no_base, namespace_refused_long, fits, namespace_declared, namespace_too_many, namespace_never_long}
use Rattle.token_iri.proofs.Bases.{err_is}
use Rattle.token_iri.proofs.declare_written.Goals as goal

pub slice_bounds-declare-end : goal.slice_bounds-declare-end
slice_bounds-declare-end c = fits c.args.token.now c.args.work.now c.args.st.now c.requires.1.1.1.0 c.requires.1.1.1.1 c.requires.1.1.0 c.inside-text.result.now c.inside-text.ensures _ (rest_all c.args.work.now 0) c.write_reference-a.new.buffer c.write_reference-a.result c.write_reference-a.ensures c.in-Ok.k c.in-Ok.is

pub slice_bounds-declare-end-in-Ok : goal.slice_bounds-declare-end-in-Ok
slice_bounds-declare-end-in-Ok c = sym (length-take-le c.in-Ok.k c.write_reference-a.new.buffer (fits c.args.token.now c.args.work.now c.args.st.now c.requires.1.1.1.0 c.requires.1.1.1.1 c.requires.1.1.0 c.inside-text.result.now c.inside-text.ensures _ (rest_all c.args.work.now 0) c.write_reference-a.new.buffer c.write_reference-a.result c.write_reference-a.ensures c.in-Ok.k c.in-Ok.is))

pub returns-in-Err-NoBase : goal.returns-in-Err-NoBase
returns-in-Err-NoBase c = namespace_refused_no_base c.args.token.now c.args.work.now c.args.st.now c.requires.1.1.1.0 c.requires.1.1.1.1 c.requires.1.1.0 c.inside-text.result.now c.inside-text.ensures _ (rest_all c.args.work.now 0) c.write_reference-a.new.buffer c.write_reference-a.result c.write_reference-a.ensures c.args.prefix.now (err_is c.in-Err-NoBase.is (rw c.in-Err-NoBase.is at c.in-Err-NoBase.field-0-is))

pub returns-in-Err-Long : goal.returns-in-Err-Long
returns-in-Err-Long c = namespace_refused_long c.args.token.now c.args.work.now c.args.st.now c.requires.1.1.1.0 c.requires.1.1.1.1 c.requires.1.1.0 c.inside-text.result.now c.inside-text.ensures _ (rest_all c.args.work.now 0) c.write_reference-a.new.buffer c.write_reference-a.result c.write_reference-a.ensures c.args.prefix.now (err_is c.in-Err-Long.is (rw c.in-Err-Long.is at c.in-Err-Long.field-0-is))

pub returns-in-Ok-d : goal.returns-in-Ok-d
returns-in-Ok-d c = namespace_declared c.args.token.now c.args.work.now c.args.st.now c.requires.1.1.1.0 c.requires.1.1.1.1 c.requires.1.1.0 c.inside-text.result.now c.inside-text.ensures _ (rest_all c.args.work.now 0) c.write_reference-a.new.buffer c.write_reference-a.result c.write_reference-a.ensures c.in-Ok.k c.in-Ok.is (omega arith) c.args.prefix.now c.declare-d.new.work c.declare-d.new.lens (omega arith) c.declare-d.result c.declare-d.ensures c.in-Ok-d.is

pub returns-in-Err-TooLong : goal.returns-in-Err-TooLong
returns-in-Err-TooLong c = namespace_never_long c.args.token.now c.args.work.now c.args.st.now c.requires.1.1.1.0 c.requires.1.1.1.1 c.requires.1.1.0 c.inside-text.result.now c.inside-text.ensures _ (rest_all c.args.work.now 0) c.write_reference-a.new.buffer c.write_reference-a.result c.write_reference-a.ensures c.in-Ok.k c.in-Ok.is (omega arith) c.args.prefix.now c.declare-d.new.work c.declare-d.new.lens (omega arith) c.declare-d.result c.declare-d.ensures (err_is c.in-Err-TooLong.is (rw c.in-Err-TooLong.is at c.in-Err-TooLong.field-0-is))

pub returns-in-Err-TooMany : goal.returns-in-Err-TooMany
returns-in-Err-TooMany c = namespace_too_many c.args.token.now c.args.work.now c.args.st.now c.requires.1.1.1.0 c.requires.1.1.1.1 c.requires.1.1.0 c.inside-text.result.now c.inside-text.ensures _ (rest_all c.args.work.now 0) c.write_reference-a.new.buffer c.write_reference-a.result c.write_reference-a.ensures c.in-Ok.k c.in-Ok.is (omega arith) c.args.prefix.now c.declare-d.new.work c.declare-d.new.lens (omega arith) c.declare-d.result c.declare-d.ensures (err_is c.in-Err-TooMany.is (rw c.in-Err-TooMany.is at c.in-Err-TooMany.field-0-is))

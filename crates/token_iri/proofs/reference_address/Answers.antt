use mathlib.Core.Path.{refl}
use Rattle.token_iri.specs.Addresses.{refused_address}
use native.Mathlib.Omega.{arith}
use Rattle.token_iri.proofs.Answers.{refused_bad, refused_long, token_long, as_written, refused_no_base, refused_over, resolved_there, in_form, as_escaped, escaped_length, inside_reads}
use Rattle.token_iri.proofs.Bases.{err_is}
use Rattle.token_iri.proofs.reference_address.Goals as goal

pub returns-then-has_bad_escape : goal.returns-then-has_bad_escape
returns-then-has_bad_escape c = refused_bad c.args.token.now c.args.work.now c.args.st.now _ c.has_bad_escape.result (refused_address 7) c.has_bad_escape.ensures c.if-has_bad_escape.true refl

pub with_scheme-requires : goal.with_scheme-requires
with_scheme-requires c = as_escaped c.simplest-form.result c.inside-text.result.now c.simplest-form.ensures

pub returns-then-undone_length-gt-IRI : goal.returns-then-undone_length-gt-IRI
returns-then-undone_length-gt-IRI c = refused_long c.args.token.now c.args.work.now c.args.st.now _ c.has_bad_escape.result c.has_bad_escape.ensures c.if-has_bad_escape.false c.inside-text.result.now c.inside-text.ensures c.with_scheme.result c.with_scheme.ensures c.if-with_scheme.true c.undone_length.result (escaped_length c.simplest-form.result c.inside-text.result.now _ c.undone_length.ensures c.simplest-form.ensures) c.if-undone_length-gt-IRI.true (refused_address 11) refl

pub overflow_sub-result : goal.overflow_sub-result
overflow_sub-result c = omega (arith, token_long c.args.token.now c.args.work.now c.args.st.now c.args.buffer.now c.has_bad_escape.result c.has_bad_escape.ensures c.if-has_bad_escape.false c.inside-text.result.now c.inside-text.ensures c.with_scheme.result c.with_scheme.ensures c.if-with_scheme.true c.undone_length.result (escaped_length c.simplest-form.result c.inside-text.result.now _ c.undone_length.ensures c.simplest-form.ensures))

pub returns-then-with_scheme : goal.returns-then-with_scheme
returns-then-with_scheme c = in_form 1 c.args.token.now c.args.work.now c.args.st.now _ _ c.simplest-form.result (inside_reads c.simplest-form.result c.args.token.now c.inside-text.result.now (token_long c.args.token.now c.args.work.now c.args.st.now c.args.buffer.now c.has_bad_escape.result c.has_bad_escape.ensures c.if-has_bad_escape.false c.inside-text.result.now c.inside-text.ensures c.with_scheme.result c.with_scheme.ensures c.if-with_scheme.true c.undone_length.result (escaped_length c.simplest-form.result c.inside-text.result.now _ c.undone_length.ensures c.simplest-form.ensures)) c.inside-text.ensures c.simplest-form.ensures) (as_written c.args.token.now c.args.work.now c.args.st.now _ c.has_bad_escape.result c.has_bad_escape.ensures c.if-has_bad_escape.false c.inside-text.result.now c.inside-text.ensures c.with_scheme.result c.with_scheme.ensures c.if-with_scheme.true c.undone_length.result (escaped_length c.simplest-form.result c.inside-text.result.now _ c.undone_length.ensures c.simplest-form.ensures) c.if-undone_length-gt-IRI.false)

pub returns-in-Err-NoBase : goal.returns-in-Err-NoBase
returns-in-Err-NoBase c = refused_no_base c.args.token.now c.args.work.now c.args.st.now _ c.has_bad_escape.result c.has_bad_escape.ensures c.if-has_bad_escape.false c.inside-text.result.now c.inside-text.ensures c.write_reference-a.result c.write_reference-a.ensures (err_is c.in-Err-NoBase.is (rw c.in-Err-NoBase.is at c.in-Err-NoBase.field-0-is)) (refused_address 10) refl

pub returns-in-Err-Long : goal.returns-in-Err-Long
returns-in-Err-Long c = refused_over c.args.token.now c.args.work.now c.args.st.now _ c.has_bad_escape.result c.has_bad_escape.ensures c.if-has_bad_escape.false c.inside-text.result.now c.inside-text.ensures c.write_reference-a.result c.write_reference-a.ensures (err_is c.in-Err-Long.is (rw c.in-Err-Long.is at c.in-Err-Long.field-0-is)) (refused_address 11) refl

pub returns-in-Ok : goal.returns-in-Ok
returns-in-Ok c = resolved_there c.args.token.now c.args.work.now c.args.st.now _ c.has_bad_escape.result c.has_bad_escape.ensures c.if-has_bad_escape.false c.inside-text.result.now c.inside-text.ensures c.write_reference-a.result c.write_reference-a.ensures c.in-Ok.k c.in-Ok.is (omega arith)

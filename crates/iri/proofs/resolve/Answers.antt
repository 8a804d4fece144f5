use mathlib.Core.Path.{sym, ◌∙◌}
use native.Mathlib.Omega.{arith}
use Rattle.iri.proofs.Schemes.{has_colon}
use Rattle.iri.proofs.Puts.{too_long, as_written, against_base, no_base, scheme_of_tail}
use Rattle.iri.proofs.resolve.Goals as goal

pub returns-then-buffer-n : goal.returns-then-buffer-n
returns-then-buffer-n c = too_long c.args.base.now c.args.buffer.now c.args.n c.if-buffer-n.true

pub returns-then-has_scheme : goal.returns-then-has_scheme
returns-then-has_scheme c = as_written c.args.base.now c.args.buffer.now c.args.n (omega arith) (sym (scheme_of_tail c.args.buffer.now _ c.has_scheme.result c.has_scheme.ensures) ∙ c.if-has_scheme.true) _ c.move_left.ensures

pub resolve_at-requires : goal.resolve_at-requires
resolve_at-requires c = (has_colon c.args.base.now (sym c.has_scheme-2.ensures ∙ c.if-has_scheme-2.true), omega arith)

pub returns-then-has_scheme-2 : goal.returns-then-has_scheme-2
returns-then-has_scheme-2 c = against_base c.args.base.now c.args.buffer.now c.args.n (omega arith) (sym (scheme_of_tail c.args.buffer.now _ c.has_scheme.result c.has_scheme.ensures) ∙ c.if-has_scheme.false) (sym c.has_scheme-2.ensures ∙ c.if-has_scheme-2.true) _ _ c.resolve_at.ensures

pub returns : goal.returns
returns c = no_base c.args.base.now c.args.buffer.now c.args.n (omega arith) (sym (scheme_of_tail c.args.buffer.now _ c.has_scheme.result c.has_scheme.ensures) ∙ c.if-has_scheme.false) (sym c.has_scheme-2.ensures ∙ c.if-has_scheme-2.false)

-- `uchar` meets its contract.
use native.Mathlib.Omega.{arith}
use mathlib.Core.Path.{sym, ◌∙◌}
use Rattle.lexer_quoted.proofs.Escaping.{uchar_none, uchar_four, uchar_eight, uchar_other}
use Rattle.lexer_quoted.proofs.escapes.uchar.Goals as goal

pub returns-in_err-get : goal.returns-in_err-get
returns-in_err-get c = rw c.from_residual.ensures (uchar_none c.args.s.now c.args.at (omega (arith, c.in_err-get.ensures.lookup)))

pub returns-in-117 : goal.returns-in-117
returns-in-117 c = let l = c.in_ok-get.ensures.lookup.3 in c.then_some.ensures ∙ uchar_four c.args.s.now c.args.at l.0 (sym (l.1 0) ∙ c.in-117.is) _ c.hexes.ensures

pub returns-in-85 : goal.returns-in-85
returns-in-85 c = let l = c.in_ok-get.ensures.lookup.3 in c.then_some-in-85.ensures ∙ uchar_eight c.args.s.now c.args.at l.0 (sym (l.1 0) ∙ c.in-85.is) _ c.hexes-in-85.ensures

pub returns-in_default : goal.returns-in_default
returns-in_default c = let l = c.in_ok-get.ensures.lookup.3 in uchar_other c.args.s.now c.args.at l.0 (λ e. c.in_default.in_default-own.rest.0.1 (l.1 0 ∙ e)) (λ e. c.in_default.in_default-own.rest.1 (l.1 0 ∙ e))

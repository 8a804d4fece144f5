-- `escape` meets its contract.
use native.Mathlib.Omega.{arith}
use mathlib.Core.Path.{sym, ap, ◌∙◌}
use mathlib.Core.Bool.{true, false}
use Prim.Native.Nat.{ℕ}
use Rattle.token.specs.Regular.{in_ranges}
use Rattle.characters.specs.Bytes.{echar}
use Rattle.lexer_quoted.proofs.Escaping.{escape_none, escape_is}
use Rattle.lexer_quoted.proofs.escapes.escape.Goals as goal

pub returns-in_err-get : goal.returns-in_err-get
returns-in_err-get c = rw c.from_residual.ensures (escape_none c.args.s.now c.args.at (omega (arith, c.in_err-get.ensures.lookup)))

pub returns-then-is_echar : goal.returns-then-is_echar
returns-then-is_echar c = let l = c.in_ok-get.ensures.lookup.3 in sym (escape_is c.args.s.now c.args.at l.0 true (sym c.if-is_echar.true ∙ c.is_echar.ensures ∙ ap (λ (b : ℕ). in_ranges b echar) (l.1 0)))

pub returns : goal.returns
returns c = let l = c.in_ok-get.ensures.lookup.3 in c.uchar.ensures ∙ sym (escape_is c.args.s.now c.args.at l.0 false (sym c.if-is_echar.false ∙ c.is_echar.ensures ∙ ap (λ (b : ℕ). in_ranges b echar) (l.1 0)))

-- `quoted` meets its contract.
use native.Mathlib.Omega.{arith}
use mathlib.Core.Logic.{inl, inr}
use Rattle.lexer_quoted.proofs.Quoting.{tripled_yes, tripled_short, tripled_no}
use Rattle.lexer_quoted.proofs.strings.quoted.Goals.{then-s-lt3-via-then-s-lt3, then-s-lt3-via-else-s-lt3+then-s-quote, then-s-lt3-via-else-s-lt3+else-s-quote+then-s-quote-2}
use Rattle.lexer_quoted.proofs.strings.quoted.Goals as goal

pub short_string-requires : goal.short_string-requires
short_string-requires c = (c.requires.0, c.requires.1, c.kinds-short.ensures.0, elim c.then-s-lt3.branch [ then-s-lt3-via-then-s-lt3 w ↦ tripled_short c.args.s.now c.args.quote c.requires.1 w.if-s-lt3.true | then-s-lt3-via-else-s-lt3+then-s-quote w ↦ tripled_no c.args.s.now c.args.quote c.requires.1 (inl w.if-s-quote.true) | then-s-lt3-via-else-s-lt3+else-s-quote+then-s-quote-2 w ↦ tripled_no c.args.s.now c.args.quote c.requires.1 (inr w.if-s-quote-2.true) ])

pub returns-then-s-lt3 : goal.returns-then-s-lt3
returns-then-s-lt3 c = c.short_string.ensures

pub long_string-requires : goal.long_string-requires
long_string-requires c = (omega arith, c.requires.1, c.kinds-short.ensures.1, tripled_yes c.args.s.now c.args.quote c.requires.1 c.requires.2 c.if-s-lt3.false c.if-s-quote.false c.if-s-quote-2.false)

pub returns : goal.returns
returns c = c.long_string.ensures

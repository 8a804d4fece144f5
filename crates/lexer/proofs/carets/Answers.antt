-- `carets` meets its contract.
use Rattle.lexer.proofs.Beginning.{carets_end, carets_none, carets_yes}
use Rattle.lexer.proofs.carets.Goals as goal

pub returns-then-s-le1 : goal.returns-then-s-le1
returns-then-s-le1 c = carets_end c.args.s.now c.requires.0 c.requires.1 c.if-s-le1.true

pub returns-then-s-eq94 : goal.returns-then-s-eq94
returns-then-s-eq94 c = carets_yes c.args.s.now c.requires.0 c.requires.1 c.if-s-le1.false c.if-s-eq94.true

pub returns : goal.returns
returns c = carets_none c.args.s.now c.requires.0 c.requires.1 c.if-s-eq94.false

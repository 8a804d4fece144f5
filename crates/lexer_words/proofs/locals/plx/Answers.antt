-- `plx` meets its contract.
use native.Mathlib.Omega.{arith}
use Rattle.lexer_words.proofs.Parts.{plx_percent, plx_other, plx_short, plx_slash}
use Rattle.lexer_words.proofs.locals.plx.Goals as goal

pub returns-then-hexes : goal.returns-then-hexes
returns-then-hexes c = rw c.if-hexes.true at (plx_percent c.args.s.now c.args.at c.requires c.if-b-eq37.true c.hexes.result c.hexes.ensures)

pub returns-then-b-eq37 : goal.returns-then-b-eq37
returns-then-b-eq37 c = rw c.if-hexes.false at (plx_percent c.args.s.now c.args.at c.requires c.if-b-eq37.true c.hexes.result c.hexes.ensures)

pub returns-then-b-ne92 : goal.returns-then-b-ne92
returns-then-b-ne92 c = plx_other c.args.s.now c.args.at c.requires c.if-b-eq37.false c.if-b-ne92.true

pub returns-then-s-at-le1 : goal.returns-then-s-at-le1
returns-then-s-at-le1 c = plx_short c.args.s.now c.args.at c.requires c.if-b-eq37.false c.if-b-ne92.false (omega arith)

pub returns-then-is_reserved : goal.returns-then-is_reserved
returns-then-is_reserved c = rw c.if-is_reserved.true at (plx_slash c.args.s.now c.args.at c.requires c.if-b-eq37.false c.if-b-ne92.false (omega arith) c.is_reserved.result c.is_reserved.ensures)

pub returns : goal.returns
returns c = rw c.if-is_reserved.false at (plx_slash c.args.s.now c.args.at c.requires c.if-b-eq37.false c.if-b-ne92.false (omega arith) c.is_reserved.result c.is_reserved.ensures)

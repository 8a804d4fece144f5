-- `char_at` meets its contract.
use native.Mathlib.Omega.{arith}
use mathlib.Core.Path.{sym, ◌∙◌}
use mathlib.Core.Bool.{true, false}
use Rattle.characters.proofs.Points.{char_low, char_high}
use Rattle.characters.proofs.names.char_at.Goals as goal

pub wide_char-requires : goal.wide_char-requires
wide_char-requires g c = (c.requires.0, c.if-b-ge128.true, c.requires.1)

pub returns-then-b-ge128 : goal.returns-then-b-ge128
returns-then-b-ge128 g c = char_high g.C.Class.set g.row.LEAST c.args.s.now c.args.at c.requires.0 c.if-b-ge128.true _ c.wide_char.ensures

pub returns-then-has : goal.returns-then-has
returns-then-has g c = char_low g.C.Class.set g.row.LEAST c.args.s.now c.args.at c.requires.0 true c.if-b-ge128.false (sym c.if-has.true ∙ c.has.ensures)

pub returns : goal.returns
returns g c = char_low g.C.Class.set g.row.LEAST c.args.s.now c.args.at c.requires.0 false c.if-b-ge128.false (sym c.if-has.false ∙ c.has.ensures)

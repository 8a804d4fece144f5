use Rattle.table.specs.Usable.{for_long_form}
use Rattle.usable.specs.Lent.{slices_of}
use Rattle.writer.proofs.Sound.{ready, short}
use Rattle.writer.proofs.Answers.{not_usable, too_long, lines_room, written_whole}
use native.Mathlib.Omega.{arith}
use mathlib.Core.Path.{sym, ◌∙◌}
use borrow.Author.Rules.{rules}
use Rattle.writer.proofs.write_long_form.Goals as goal

pub returns-then-not-is_usable : goal.returns-then-not-is_usable
returns-then-not-is_usable c = not_usable (slices_of c.args.tables.now) c.args.out.now (sym c.is_usable.ensures ∙ c.if-not-is_usable.true)

pub fit_lines-requires : goal.fit_lines-requires
fit_lines-requires c = let tables = slices_of c.args.tables.now in
    let usable = sym c.is_usable.ensures ∙ c.if-not-is_usable.false in
    (ready for_long_form tables usable, short for_long_form tables usable (omega arith))

pub returns-then-not-fit_lines : goal.returns-then-not-fit_lines
returns-then-not-fit_lines c =
    too_long (slices_of c.args.tables.now) c.args.out.now (sym c.is_usable.ensures ∙ c.if-not-is_usable.false) (sym c.fit_lines.ensures ∙ c.if-not-fit_lines.true)

pub put_lines-requires : goal.put_lines-requires
put_lines-requires c = let tables = slices_of c.args.tables.now in
    let usable = sym c.is_usable.ensures ∙ c.if-not-is_usable.false in
    (ready for_long_form tables usable, lines_room tables c.args.out.now usable (sym c.fit_lines.ensures ∙ c.if-not-fit_lines.false) (search rules))

pub returns : goal.returns
returns c =
    written_whole (slices_of c.args.tables.now) c.args.out.now (sym c.is_usable.ensures ∙ c.if-not-is_usable.false) (sym c.fit_lines.ensures ∙ c.if-not-fit_lines.false) c.put_lines.ensures

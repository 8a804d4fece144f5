use Rattle.std.proofs.Common.{OnOk, subst}
use Rattle.std.specs.Io.KnownBytes.{Appends}
use Rattle.diagnose.proofs.Table.{phrase_within, phrase_is}
use Rattle.diagnose.proofs.phrases.say.Goals as goal

pub returns : goal.returns
returns g c =
    let words = c.args.words.now in
    let from = c.line_start-from.result in
    let to = c.line_end.result in
    let line = c.line_start-from.ensures.line in
    let fits = phrase_within words c.args.n from to c.line_start-from.ensures.within line c.line_end.ensures in
    subst (λ s. OnOk c.print_part.result (Appends (g.W.Write.contents c.args.out.now) (g.W.Write.contents c.print_part.new.out) s))
    (phrase_is words c.args.n from to line c.line_end.ensures)
    (c.print_part.ensures.within fits)

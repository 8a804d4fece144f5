use Rattle.std.proofs.Common.{OnOk, subst, refl}
use Rattle.std.specs.Io.KnownBytes.{Appends}
use Rattle.machine.specs.Read.{lends}
use Rattle.reader.specs.Reader.{lent_slices}
use Rattle.printing.proofs.Tables.{refused_told}
use Rattle.printing.proofs.Input.{refused_printed, read_printed}
use Rattle.printing.proofs.show.Goals as goal

pub returns-in-Ok : goal.returns-in-Ok
returns-in-Ok g c =
    let left = c.read-read.new in
    subst (λ t. OnOk c.write_rows.result (Appends (g.W.Write.contents c.args.out.now) (g.W.Write.contents c.write_rows.new.out) t))
    (read_printed c.args.document.now (lends 131072 16384 16384 65536) 65536 (lent_slices left.work left.rows left.terms left.store) _ c.in-Ok.ensures
    c.narrow.result c.narrow-in-Ok.result c.narrow-in-Ok-2.result c.narrow.ensures c.narrow-in-Ok.ensures c.narrow-in-Ok-2.ensures refl)
    c.write_rows.ensures

pub returns-in-Err : goal.returns-in-Err
returns-in-Err g c =
    let left = c.read-read.new in
    subst (λ t. OnOk c.print_refusal.result (Appends (g.W.Write.contents c.args.out.now) (g.W.Write.contents c.print_refusal.new.out) t))
    (refused_printed c.args.document.now (lends 131072 16384 16384 65536) 65536 (lent_slices left.work left.rows left.terms left.store) _ c.in-Err.ensures (refused_told c.in-Err.refused.refusal))
    c.print_refusal.ensures

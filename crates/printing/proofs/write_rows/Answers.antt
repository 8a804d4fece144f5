use Rattle.std.proofs.Common.{OnOk, sym, ap, ◌∙◌, subst, length-take-le}
use Rattle.std.specs.Io.KnownBytes.{Appends}
use Rattle.table.specs.Written.{answer}
use Rattle.usable.specs.Lent.{slices_of}
use Rattle.printing.proofs.Tables.{refusal_printed, form_printed, form_within}
use Rattle.printing.proofs.write_rows.Goals as goal

pub slice_bounds-write_all-end : goal.slice_bounds-write_all-end
slice_bounds-write_all-end g c =
    let out = c.write_long_form.new.out in
    let e = ap (λ r. answer r out) (sym c.in-Ok.is) ∙ c.write_long_form.ensures in
    form_within (slices_of c.args.tables.now) c.args.lines.now out c.in-Ok.n e

pub slice_bounds-write_all-end-in-Ok : goal.slice_bounds-write_all-end-in-Ok
slice_bounds-write_all-end-in-Ok g c =
    let out = c.write_long_form.new.out in
    let e = ap (λ r. answer r out) (sym c.in-Ok.is) ∙ c.write_long_form.ensures in
    sym (length-take-le c.in-Ok.n out (form_within (slices_of c.args.tables.now) c.args.lines.now out c.in-Ok.n e))

pub returns-in-Ok : goal.returns-in-Ok
returns-in-Ok g c =
    let out = c.write_long_form.new.out in
    let e = ap (λ r. answer r out) (sym c.in-Ok.is) ∙ c.write_long_form.ensures in
    subst (λ t. OnOk c.write_all.result (Appends (g.W.Write.contents c.args.out.now) (g.W.Write.contents c.write_all.new.self) t))
    (form_printed (slices_of c.args.tables.now) c.args.lines.now out c.in-Ok.n e)
    c.write_all.ensures.bytes

pub returns-in-Err : goal.returns-in-Err
returns-in-Err g c =
    let out = c.write_long_form.new.out in
    let e = ap (λ r. answer r out) (sym c.in-Err.is) ∙ c.write_long_form.ensures in
    subst (λ t. OnOk c.print_refusal.result (Appends (g.W.Write.contents c.args.out.now) (g.W.Write.contents c.print_refusal.new.out) t))
    (refusal_printed (slices_of c.args.tables.now) c.args.lines.now out c.in-Err.refusal e)
    c.print_refusal.ensures

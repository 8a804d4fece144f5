use Rattle.std.proofs.Common.{length, ◌<◌, arith}
use Rattle.printing.proofs.Input.{long_input, whole_input, appended_printed}
use Rattle.printing.proofs.print_long_form.Goals as goal

pub returns-then-n-gt65536 : goal.returns-then-n-gt65536
returns-then-n-gt65536 g c =
    appended_printed _ _ _ _ _ (long_input _ _ c.read_full.new.buf c.in_ok-n.n c.in_ok-n.ensures.bytes c.in_ok-n.ensures.bound c.if-n-gt65536.true) c.print_refusal.ensures

pub returns : goal.returns
returns g c =
    let room : c.in_ok-n.n < length c.read_full.new.buf = omega arith in
    appended_printed _ _ _ _ _ (whole_input _ _ c.read_full.new.buf c.in_ok-n.n c.in_ok-n.ensures.bytes c.in_ok-n.ensures.bound (c.in_ok-n.ensures.end room) c.if-n-gt65536.false) c.show.ensures

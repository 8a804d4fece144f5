use Rattle.simulation.proofs.Compose.{same_both}
use Rattle.reader.proofs.Lending.{slices_back}
use Rattle.reader.proofs.Start.{ready_start}
use Rattle.reader.proofs.End.{gives}
use Rattle.reader.proofs.read_checked.Goals as goal

pub prepare-requires : goal.prepare-requires
prepare-requires c = (c.requires.0, c.fresh.ensures)

pub statements-read-requires : goal.statements-read-requires
statements-read-requires c = (ready_start _ c.requires.0.good_base c.prepare.ensures.started, c.requires.1)

pub returns : goal.returns
returns c =
    let back = same_both _ _ _ c.prepare.ensures.same (same_both _ _ _ c.statements-read.ensures.same c.finish.ensures.same) in
    let t = c.prepare.ensures.tables in
    let read = gives _ _ _ _ _ _ _ c.requires.0 c.prepare.ensures.started c.statements-read.ensures _ _ c.finish.ensures.finished in
    rw (slices_back back c.work-1.given.1.1 c.rows-1.given.1.1 c.terms-1.given.1.1 c.store-1.given.1.1) (rw (t.0, t.1.0, t.1.1) at read)

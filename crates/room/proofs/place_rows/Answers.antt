use Rattle.room.proofs.Tests.{rows_some}
use Rattle.room.proofs.place_rows.Goals as goal

pub returns : goal.returns
returns c = search rows_some

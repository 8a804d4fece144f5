use Rattle.room.proofs.Tests.{close_later}
use Rattle.room.proofs.Tests.{close_first}
use Rattle.room.proofs.close_rows.Goals as goal

pub returns-then-spot-eq0 : goal.returns-then-spot-eq0
returns-then-spot-eq0 c = search close_first

pub returns : goal.returns
returns c = search close_later

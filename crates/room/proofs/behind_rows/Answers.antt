use Rattle.room.proofs.Tests.{behind_rows_none}
use Rattle.room.proofs.Tests.{behind_rows_list}
use Rattle.room.proofs.behind_rows.Goals as goal

pub returns-then-spot : goal.returns-then-spot
returns-then-spot c = search behind_rows_list

pub returns : goal.returns
returns c = search behind_rows_none

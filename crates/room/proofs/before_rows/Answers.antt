use Rattle.room.proofs.Tests.{before_rows_none}
use Rattle.room.proofs.Tests.{before_rows_list}
use Rattle.room.proofs.before_rows.Goals as goal

pub returns-then-spot : goal.returns-then-spot
returns-then-spot c = search before_rows_list

pub returns : goal.returns
returns c = search before_rows_none

use Rattle.room.proofs.Tests.{enough}
use Rattle.room.proofs.Tests.{no_bytes}
use Rattle.room.proofs.Tests.{no_terms}
use Rattle.room.proofs.Tests.{no_rows}
use Rattle.room.proofs.room_for.Goals as goal

pub returns-then-at_most-count : goal.returns-then-at_most-count
returns-then-at_most-count c = search no_rows

pub returns-then-at_most-t : goal.returns-then-at_most-t
returns-then-at_most-t c = search no_terms

pub returns-then-at_most-t-2 : goal.returns-then-at_most-t-2
returns-then-at_most-t-2 c = search no_bytes

pub returns : goal.returns
returns c = search enough

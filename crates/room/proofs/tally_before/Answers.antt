use Rattle.room.specs.Supply.{number_of}
use Rattle.room.proofs.Tests.{before_list, before_none}
use native.Mathlib.Omega.{arith}
use Rattle.room.specs.Counting.{more}
use Rattle.room.proofs.Bounds.{small_within, more_within}
use Rattle.room.proofs.tally_before.Goals as goal

pub tally_supply-requires : goal.tally_supply-requires
tally_supply-requires c = (c.requires.0, small_within c.args.t (more c.args.t 0 0) c.more-c.result 4294967294 1 0 8000000000 c.requires.1 (more_within c.args.t 0 0) c.more-c.ensures (omega arith) (omega arith))

pub returns-then-spot : goal.returns-then-spot
returns-then-spot c = λ ts H. before_list c.args.spot ts c.args.t c.more-c.result c.tally_supply.result (number_of c.before_iri.result) c.if-spot.true c.before_iri.ensures c.more-c.ensures (c.tally_supply.ensures ts H)

pub returns : goal.returns
returns c = λ ts H. before_none c.args.spot ts c.args.t c.if-spot.false

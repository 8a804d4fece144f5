use Rattle.room.specs.Supply.{number_of}
use Rattle.room.proofs.Tests.{end_empty, end_full}
use native.Mathlib.Omega.{arith}
use Rattle.room.specs.Counting.{count_supply}
use Rattle.room.proofs.Bounds.{small_within, supply_within}
use Rattle.room.proofs.tally_close.Goals as goal

pub tally_supply-requires : goal.tally_supply-requires
tally_supply-requires c = (c.requires.0, small_within c.args.t (count_supply c.requires.0.1.0 3 c.args.t) c.tally_supply-nil.result 4294967294 1 48 8000000000 c.requires.1 (supply_within c.requires.0.1.0 3 c.args.t) (c.tally_supply-nil.ensures c.requires.0.1.0 c.requires.0.1.1) (omega arith) (omega arith))

pub returns-then-spot-eq0 : goal.returns-then-spot-eq0
returns-then-spot-eq0 c = λ ts H. end_empty c.args.spot ts c.args.t c.tally_supply-nil.result c.tally_supply.result (number_of c.place_iri.result) c.if-spot-eq0.true (c.tally_supply-nil.ensures ts H) c.place_iri.ensures (c.tally_supply.ensures ts H)

pub tally_supply-requires-2 : goal.tally_supply-requires-2
tally_supply-requires-2 c = (c.requires.0, small_within c.args.t (count_supply c.requires.0.1.0 2 c.args.t) c.tally_supply-rest.result 4294967294 1 48 8000000000 c.requires.1 (supply_within c.requires.0.1.0 2 c.args.t) (c.tally_supply-rest.ensures c.requires.0.1.0 c.requires.0.1.1) (omega arith) (omega arith))

pub returns : goal.returns
returns c = λ ts H. end_full c.args.spot ts c.args.t c.tally_supply-rest.result c.tally_supply-2.result c.if-spot-eq0.false (c.tally_supply-rest.ensures ts H) (c.tally_supply-2.ensures ts H)

use Rattle.room.specs.Supply.{number_of}
use Prim.Native.Nat.{◌+◌}
use lib.ListN.{length}
use Rattle.room.proofs.Tests.{all_parts}
use native.Mathlib.Omega.{arith}
use Rattle.room.specs.Counting.{count_before, count_node}
use Rattle.room.proofs.Bounds.{small_within, before_within, node_within}
use Rattle.room.proofs.tally_place.Goals as goal

pub tally_node-n-requires : goal.tally_node-n-requires
tally_node-n-requires c = (c.requires.0, (c.requires.1.0, small_within c.args.t (count_before c.requires.0.1.0 c.args.spot c.args.t) c.tally_before-b.result 4294967294 2 48 8000000000 c.requires.1.1 (before_within c.requires.0.1.0 c.args.spot c.args.t) (c.tally_before-b.ensures c.requires.0.1.0 c.requires.0.1.1) (omega arith) (omega arith)))

pub tally_behind-requires : goal.tally_behind-requires
tally_behind-requires c = (c.requires.0, (record { order = c.requires.1.0.order; inside = omega (arith, c.requires.1.0.front, c.requires.0.0); short = c.requires.1.0.short }, small_within c.tally_before-b.result (count_node c.requires.0.1.0 (number_of c.before_iri-p.result) c.args.node c.args.work.now c.args.back.now c.args.text.now c.args.tag.now c.tally_before-b.result) c.tally_node-n.result 5000000000 2 (1024 + (length c.args.text.now + length c.args.tag.now)) 8000000000 (small_within c.args.t (count_before c.requires.0.1.0 c.args.spot c.args.t) c.tally_before-b.result 4294967294 2 48 5000000000 c.requires.1.1 (before_within c.requires.0.1.0 c.args.spot c.args.t) (c.tally_before-b.ensures c.requires.0.1.0 c.requires.0.1.1) (omega arith) (omega arith)) (node_within c.requires.0.1.0 (number_of c.before_iri-p.result) c.args.node c.args.work.now c.args.back.now c.args.text.now c.args.tag.now c.tally_before-b.result c.requires.1.0.short) (c.tally_node-n.ensures c.requires.0.1.0 c.requires.0.1.1) (omega arith) (omega (arith, c.requires.1.0.text_slice, c.requires.1.0.tag_short))))

pub returns : goal.returns
returns c = λ ts H. all_parts ts c.args.spot c.args.node c.args.work.now c.args.back.now c.args.text.now c.args.tag.now c.args.t c.tally_before-b.result c.tally_node-n.result c.tally_behind.result (number_of c.before_iri-p.result) (number_of c.behind_iri.result) c.before_iri-p.ensures c.behind_iri.ensures (c.tally_before-b.ensures ts H) (c.tally_node-n.ensures ts H) (c.tally_behind.ensures ts H)

use Rattle.state.specs.Writes.{node_write}
use Rattle.writes.proofs.Places.{put_first, put_hold, put_writes}
use Rattle.writes.proofs.put_node.Goals as goal

pub node-number-requires : goal.node-number-requires
node-number-requires c = ((c.args.at, (c.args.rows.now, put_first (node_write c.args.n c.args.work.now c.args.back.now c.args.text.now c.args.tag.now c.args.at) c.args.x c.args.y c.args.at c.requires.0)), c.requires.1)

pub hold-requires : goal.hold-requires
hold-requires c = put_hold (node_write c.args.n c.args.work.now c.args.back.now c.args.text.now c.args.tag.now c.args.at) c.args.x c.args.y c.args.at c.requires.0 (c.node-number.ensures c.args.at).0 ((c.node-number.ensures c.args.at).1 c.args.rows.now)

pub returns : goal.returns
returns c = put_writes (node_write c.args.n c.args.work.now c.args.back.now c.args.text.now c.args.tag.now c.args.at) c.args.x c.args.y c.args.at c.requires.0 (c.node-number.ensures c.args.at).0 ((c.node-number.ensures c.args.at).1 c.args.rows.now) c.hold.ensures

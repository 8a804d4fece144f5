use Rattle.state.specs.Represents.{lent_tables}
use Rattle.writes.proofs.Nodes.{placed_cell, below_put, below_wrote}
use Rattle.writes.proofs.write_placed.Goals as goal

pub holder-x-requires : goal.holder-x-requires
holder-x-requires c = ((λ e. placed_cell c.args.spot c.args.work.now (lent_tables c.args.rows.now c.args.terms.now c.args.store.now) c.args.st.now c.args.node c.args.back.now c.args.text.now c.args.tag.now c.requires.1.1 c.requires.1.0 c.requires.0 e), c.requires.1.0)

pub put_node-requires : goal.put_node-requires
put_node-requires c = below_put c.args.spot c.args.work.now (lent_tables c.args.rows.now c.args.terms.now c.args.store.now) c.args.st.now c.args.node c.args.back.now c.args.text.now c.args.tag.now c.requires.1.1 c.requires.1.0 c.requires.0 _ _ _ _ _ c.holder-x.ensures c.predicate-y.ensures

pub returns : goal.returns
returns c = below_wrote c.args.spot c.args.work.now (lent_tables c.args.rows.now c.args.terms.now c.args.store.now) c.args.st.now c.args.node c.args.back.now c.args.text.now c.args.tag.now c.requires.1.1 c.requires.1.0 c.requires.0 _ _ _ _ _ c.holder-x.ensures c.predicate-y.ensures _ _ _ _ c.put_node.ensures

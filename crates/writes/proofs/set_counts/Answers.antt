use Rattle.writes.proofs.Sharing.{counts_set}
use Rattle.writes.proofs.set_counts.Goals as goal

pub returns : goal.returns
returns c = counts_set c.args.st.now c.args.c c.requires

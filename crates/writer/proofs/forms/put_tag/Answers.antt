use Rattle.writer.proofs.Chains.{both}
use Rattle.writer.proofs.forms.put_tag.Goals as goal

pub returns : goal.returns
returns c = both c.put-next.ensures c.put_all.ensures

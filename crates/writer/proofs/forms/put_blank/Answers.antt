use Rattle.writer.proofs.Chains.{both}
use Rattle.writer.proofs.forms.put_blank.Goals as goal

pub returns : goal.returns
returns c = both c.put_all-next.ensures c.put_digits.ensures

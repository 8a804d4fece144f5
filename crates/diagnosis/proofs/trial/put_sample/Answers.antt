use mathlib.Core.Path.{refl}
use Rattle.diagnosis.specs.Samples.{samples}
use Rattle.diagnosis.proofs.Trials.{sample_put}
use Rattle.diagnosis.proofs.trial.put_sample.Goals as goal

pub returns : goal.returns
unfolding samples
returns c = sample_put _ _ _ _ _ refl c.copy.ensures

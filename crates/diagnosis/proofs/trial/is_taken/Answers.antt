use mathlib.Core.Path.{refl}
use Rattle.diagnosis.proofs.Trials.{whole}
use Rattle.diagnosis.proofs.trial.is_taken.Goals as goal

pub returns-in-Ok : goal.returns-in-Ok
returns-in-Ok c = whole _ _ _ _ _ _ c.in-Ok.ensures refl

use mathlib.Core.Path.{refl}
use Rattle.environment.proofs.Directives.{two_parts}
use Rattle.environment.proofs.write_binding.Goals as goal

pub returns : goal.returns
returns c = record { texts = two_parts c.args.work.now c.args.prefix.now c.args.namespace.now c.copy.new.out c.copy-2.new.out _ _ _ _ refl c.copy.ensures refl c.copy-2.ensures; lengths = refl }

use native.Mathlib.Numerals.{add-one}
use Rattle.chains.specs.Chains.{linked_one}
use Rattle.chains.proofs.link_one.Goals as goal

pub returns : goal.returns
unfolding linked_one
returns c = rw (add-one c.args.j)

use mathlib.Core.Path.{◌∙◌}
use native.Mathlib.Omega.{arith}
use Rattle.terms.proofs.Slices.{part_over, over_behind}
use Rattle.terms.specs.Sorts.{text_in}
use Rattle.terms.proofs.write_bytes.Goals as goal

pub returns : goal.returns
returns c = (c.write_joined-size.ensures.long, part_over _ c.args.sought.now.tag.now _ _ c.copy.ensures ∙ over_behind c.args.used _ (text_in c.args.sought.now) c.args.sought.now.tag.now c.args.store.now _ (part_over c.args.used (text_in c.args.sought.now) c.args.store.now _ (c.write_joined-size.ensures.text c.requires.1)) (omega (arith, c.write_joined-size.ensures.long)))

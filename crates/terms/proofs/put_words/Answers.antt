use mathlib.Core.Path.{refl}
use native.Mathlib.Omega.{arith}
use Rattle.text.proofs.Over.{over_at_start, over_at_next}
use Rattle.terms.proofs.put_words.Goals as goal

pub loop-i-init : goal.loop-i-init
loop-i-init c = over_at_start c.args.at c.args.s.now c.args.words.now

pub loop-i-preserved : goal.loop-i-preserved
loop-i-preserved c = over_at_next c.args.at c.args.s.now c.args.words.now c.loop-i.words c.loop-i.i _ (omega arith) refl c.loop-i.invariant

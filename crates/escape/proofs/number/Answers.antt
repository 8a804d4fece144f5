use mathlib.Core.Path.{sym, ◌∙◌}
use native.Mathlib.Omega.{arith}
use Rattle.escape.proofs.Steps.{most_small, most_more, number_more, number_end}
use Rattle.escape.proofs.number.Goals as goal

pub overflow_mul-value : goal.overflow_mul-value
overflow_mul-value c = omega (arith, most_small c.loop-c.c-index (omega arith))

pub overflow_add-value : goal.overflow_add-value
overflow_add-value c = omega (arith, most_small c.loop-c.c-index (omega arith))

pub loop-c-preserved : goal.loop-c-preserved
loop-c-preserved c = (
  most_more c.loop-c.c-index c.loop-c.value c.hex_value.result c.loop-c.invariant.0 c.hex_value.ensures.1,
  c.loop-c.invariant.1 ∙ rw c.hex_value.ensures.0 (number_more c.loop-c.value c.args.digits.now c.loop-c.c-index (omega arith)),
)

pub returns : goal.returns
returns c = sym (c.loop-c.invariant.1 ∙ number_end c.loop-c.value c.args.digits.now c.loop-c.c-index (omega arith))

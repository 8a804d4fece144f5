use native.Mathlib.Omega.{arith}
use Rattle.writer.proofs.Escapes.{escaped_none, escaped_all, escaped_plain, room_next, wrote_next}
use mathlib.Core.Path.{◌∙◌}
use mathlib.Core.List.{[], ◌∷◌}
use Prim.Native.Nat.{ℕ}
use Rattle.writer.proofs.bytes.put_all.Goals as goal

pub loop-c-init : goal.loop-c-init
loop-c-init c = escaped_none (λ (c : ℕ). c ∷ []) c.args.at c.args.s.now c.args.out.now

pub put-end-requires : goal.put-end-requires
put-end-requires c = room_next (λ (c : ℕ). c ∷ []) c.args.s.now c.loop-c.c-index (omega arith) c.loop-c.invariant (rw (escaped_plain c.args.s.now) c.requires)

pub loop-c-preserved : goal.loop-c-preserved
loop-c-preserved c = wrote_next (λ (c : ℕ). c ∷ []) c.args.s.now c.loop-c.c-index (omega arith) c.loop-c.invariant c.put-end.ensures

pub returns : goal.returns
returns c = rw (escaped_all (λ (c : ℕ). c ∷ []) c.args.s.now c.loop-c.c-index (omega arith) ∙ escaped_plain c.args.s.now) at c.loop-c.invariant

use Prim.Native.Nat.{ℕ}
use mathlib.Core.Path.{ap, sym, ◌∙◌}
use Rattle.spelling.specs.Hash.{hash_from}
use Rattle.spelling.proofs.hash_bytes.Goals as goal

pub returns-then-m-eq-FIRST : goal.returns-then-m-eq-FIRST
returns-then-m-eq-FIRST c = (c.hash_first.ensures.0 ∙ ap (λ (m : ℕ). hash_from m c.args.h c.args.s.now) (sym c.if-m-eq-FIRST.true), c.hash_first.ensures.1)

-- Past the end nothing is written.
use Prim.Native.Nat.{◌-◌}
use mathlib.Core.Path.{refl, sym}
use native.Mathlib.Omega.{arith}
use lib.ListN.{length}
use Rattle.text.proofs.Over.{over_at_past, over_part}
use Rattle.escape.specs.Code.{low}
use Rattle.escape.proofs.Bytes.{bytes_of, low_bytes}
use Rattle.escape.proofs.put_plain.Goals as goal

pub returns-then-out-j : goal.returns-then-out-j
returns-then-out-j c = sym (over_at_past c.args.j (low c.args.s.now) c.args.out.now (omega arith))

pub returns : goal.returns
returns c = rw (low_bytes (bytes_of c.args.s.now (λ i. (c.type_inv.s i).fits))) (over_part c.args.j c.args.s.now c.args.out.now _ (length c.args.out.now - c.args.j) refl c.copy.ensures)

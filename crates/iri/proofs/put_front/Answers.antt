use mathlib.Core.Path.{sym}
use native.Mathlib.Omega.{arith}
use lib.Seq.{length-take-le}
use Rattle.iri.proofs.Puts.{front_put}
use Rattle.iri.proofs.put_front.Goals as goal

pub slice_bounds-copy-end : goal.slice_bounds-copy-end
slice_bounds-copy-end c = sym (length-take-le c.args.p.keep c.args.base.now (omega arith))

pub returns : goal.returns
returns c = front_put c.args.base.now c.args.out.now _ _ _ c.args.p.keep c.args.p.slash c.args.p.path c.args.start (omega arith) (omega arith) c.copy.ensures c.put_slash.ensures c.move_left.ensures

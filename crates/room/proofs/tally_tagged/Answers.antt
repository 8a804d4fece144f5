use Rattle.std.specs.Prelude.{unwrap_or}
use Prim.Native.Nat.{◌+◌}
use lib.ListN.{length, length-append}
use Rattle.spelling.specs.Form.{undo}
use Rattle.terms.specs.Keeps.{Means}
use Rattle.dataset.specs.Terms.{tagged}
use mathlib.Core.Path.{refl}
use native.Mathlib.Omega.{arith}
use Rattle.room.proofs.Tests.{one_counted}
use Rattle.room.proofs.tally_tagged.Goals as goal

pub returns : goal.returns
unfolding Means
returns c = λ ts H. one_counted ts (tagged (undo c.args.form c.args.text.now) c.args.tag.now) c.args.t c.more.result (unwrap_or c.find_text-n.result 0) (c.undone_length.result + length c.args.tag.now) c.more.ensures (c.find_text-n.ensures.0 ts (tagged (undo c.args.form c.args.text.now) c.args.tag.now) H (refl, (refl, refl)) refl) (omega (arith, length-append (undo c.args.form c.args.text.now) c.args.tag.now, c.undone_length.ensures))

use Rattle.std.specs.Prelude.{unwrap_or}
use mathlib.Core.List.{[]}
use lib.ListN.{length-append}
use Rattle.spelling.specs.Form.{undo}
use Rattle.terms.specs.Keeps.{Means}
use Rattle.dataset.specs.Terms.{literal}
use mathlib.Core.Path.{refl, sym}
use native.Mathlib.Omega.{arith}
use Rattle.room.proofs.Tests.{one_counted}
use Rattle.room.proofs.tally_literal.Goals as goal

pub returns : goal.returns
unfolding Means
returns c = λ x N ts H. one_counted ts (literal (undo c.args.form c.args.text.now) x) c.args.t c.more.result (unwrap_or c.find_text-n.result 0) c.undone_length.result c.more.ensures (c.find_text-n.ensures.0 ts (literal (undo c.args.form c.args.text.now) x) H (refl, (refl, (refl, sym (N ts H)))) refl) (omega (arith, length-append (undo c.args.form c.args.text.now) [], c.undone_length.ensures))

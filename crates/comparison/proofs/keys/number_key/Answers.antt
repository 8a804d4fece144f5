use mathlib.Core.Path.{ap, ◌∙◌}
use Prim.Native.Nat.{◌+◌}
use native.Mathlib.Nat.{mod-lt}
use native.Mathlib.Omega.{arith}
use Rattle.table.specs.Layout.{word_limit}
use Rattle.chains.specs.Chains.{behind}
use Rattle.comparison.proofs.RowKeys.{left_key, right_key}
use Rattle.comparison.proofs.keys.number_key.Goals as goal
use Rattle.comparison.proofs.keys.number_key.Goals.{in-Left, in-Right}

pub returns : goal.returns
returns c =
    let p = c.args.pairing.now.words.now in (
      elim c.match-edition.branch [
        | in-Left w ↦ left_key c.args.edition p c.args.m c.match-edition.paired c.unwrap_or.result c.unwrap_or.ensures w.in-Left.is (ap behind w.paired-is ∙ w.partner-paired.ensures.0)
        | in-Right w ↦ right_key c.args.edition p c.args.m c.match-edition.paired c.unwrap_or.result c.unwrap_or.ensures w.in-Right.is w.paired-is
      ],
      mod-lt (c.unwrap_or.result + 1) {m = word_limit} (omega arith),
    )

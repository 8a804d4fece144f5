use Rattle.diagnose.proofs.Table.{behind_none, behind_end, behind_feed, behind_other}
use Rattle.std.proofs.Common.{◌≡◌, ◌+◌, length, drop, arith, sym, ◌∙◌, ap}
use Rattle.diagnose.specs.Phrase.{behind}
use Rattle.diagnose.proofs.phrases.line_start.Goals as goal
use Rattle.diagnose.proofs.phrases.line_start.Goals.{then-words-i-eq10, else-words-i-eq10}

pub returns-then-left-eq0-clause-line : goal.returns-then-left-eq0-clause-line
returns-then-left-eq0-clause-line c = behind_none _ _ _ c.if-left-eq0.true c.loop-i.invariant

pub loop-i-preserved : goal.loop-i-preserved
loop-i-preserved c =
    let words = c.args.words.now in
    let i = c.loop-i.i in
    elim c.if-words-i-eq10.branch [
      | then-words-i-eq10 w ↦ ap (λ k. behind k (drop (i + 1) words)) w.left-is ∙ sym (behind_feed _ i words c.loop-i-test.true c.if-left-eq0.false w.if-words-i-eq10.true) ∙ c.loop-i.invariant
      | else-words-i-eq10 w ↦ ap (λ k. behind k (drop (i + 1) words)) w.left-is ∙ sym (behind_other _ i words c.loop-i-test.true c.if-left-eq0.false w.if-words-i-eq10.false) ∙ c.loop-i.invariant
    ]

pub returns-clause-line : goal.returns-clause-line
returns-clause-line c =
    let words = c.args.words.now in
    let e : length words ≡ c.loop-i.i = omega arith in
    rw e (behind_end _ _ words _ c.loop-i-test.false c.loop-i.invariant)

use Rattle.std.proofs.Common.{◌≡◌, drop}
use Rattle.diagnose.specs.Phrase.{behind}
use Rattle.diagnose.proofs.phrases.line_start.Given as goal

abbrev pub invariant-loop-i : goal.invariant-loop-i
invariant-loop-i l = behind l.left (drop l.i l.words) ≡ behind l.n l.words

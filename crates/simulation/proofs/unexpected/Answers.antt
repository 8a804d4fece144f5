use Rattle.simulation.proofs.Steps.{here_unread, here_seven, here_eight, here_plain}
use Rattle.simulation.proofs.unexpected.Goals as goal

pub returns-then-kind-eq-UNREADABLE : goal.returns-then-kind-eq-UNREADABLE
returns-then-kind-eq-UNREADABLE c = search here_unread

pub returns-then-has_bad_escape : goal.returns-then-has_bad_escape
returns-then-has_bad_escape c = search here_seven

pub returns-else-has_bad_escape : goal.returns-else-has_bad_escape
returns-else-has_bad_escape c = search here_eight

pub returns-else-has_escapes : goal.returns-else-has_escapes
returns-else-has_escapes c = search here_plain

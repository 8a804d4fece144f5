use borrow.Author.Tests.{le-leb, lt-leb}
use Rattle.sycamoot.proofs.byte_mode.Goals as goal

pub returns-then-mode-le1 : goal.returns-then-mode-le1
returns-then-mode-le1 c = simp (le-leb _ 1 c.if-mode-le1.true)

pub returns : goal.returns
returns c = simp (lt-leb _ 1 c.if-mode-le1.false)

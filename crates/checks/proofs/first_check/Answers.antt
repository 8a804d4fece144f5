use borrow.Author.Tests.{lt-ltb, le-ltb, le-leb, lt-leb}
use mathlib.Core.Path.{sym, ◌∙◌}
use Rattle.limits.specs.Limits.{document_limit, work_size}
use Rattle.checks.proofs.first_check.Goals as goal

pub returns-then-document-gt-DOCUMENT : goal.returns-then-document-gt-DOCUMENT
returns-then-document-gt-DOCUMENT c = simp (lt-ltb document_limit _ c.if-document-gt-DOCUMENT.true)

pub returns-then-mode-gt1 : goal.returns-then-mode-gt1
returns-then-mode-gt1 c = simp (le-ltb document_limit _ c.if-document-gt-DOCUMENT.false, lt-leb _ 1 c.if-mode-gt1.true)

pub returns-then-is_bad_base : goal.returns-then-is_bad_base
returns-then-is_bad_base c = simp (le-ltb document_limit _ c.if-document-gt-DOCUMENT.false, le-leb _ 1 c.if-mode-gt1.false, sym c.is_bad_base.ensures ∙ c.if-is_bad_base.true)

pub returns-then-work-lt-WORK : goal.returns-then-work-lt-WORK
returns-then-work-lt-WORK c = simp (le-ltb document_limit _ c.if-document-gt-DOCUMENT.false, le-leb _ 1 c.if-mode-gt1.false, sym c.is_bad_base.ensures ∙ c.if-is_bad_base.false, lt-ltb _ work_size c.if-work-lt-WORK.true)

pub returns : goal.returns
returns c = simp (le-ltb document_limit _ c.if-document-gt-DOCUMENT.false, le-leb _ 1 c.if-mode-gt1.false, sym c.is_bad_base.ensures ∙ c.if-is_bad_base.false, le-ltb _ work_size c.if-work-lt-WORK.false)

-- The invariant: no byte has decided yet.
use Rattle.iri.proofs.Escaped.{Judging}
use Rattle.iri.proofs.judge_run.Given as goal

abbrev pub invariant-loop-c : goal.invariant-loop-c
invariant-loop-c l = Judging l.s l.first l.c-index l.start

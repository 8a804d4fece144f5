use mathlib.Core.Logic.{inl, inr}
use native.Mathlib.Omega.{arith}
use Rattle.iri.proofs.Escaped.{escape_long, escape_byte}
use Rattle.iri.proofs.judge_escape.Goals as goal

pub returns-then-c-gt1 : goal.returns-then-c-gt1
returns-then-c-gt1 c = escape_long c.args.first c.args.c c.requires (elim c.then-c-gt1.either [ inl h ↦ inl h | inr h ↦ inr h.1 ])

pub returns : goal.returns
returns c = escape_byte c.args.first c.args.c (omega arith) c.judge.result c.judge.ensures

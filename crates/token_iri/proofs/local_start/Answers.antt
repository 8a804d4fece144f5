use native.Mathlib.Omega.{arith}
use Rattle.token_iri.proofs.Between.{local_behind, local_none}
use Rattle.token_iri.proofs.local_start.Goals as goal

pub returns-then-at-s : goal.returns-then-at-s
returns-then-at-s c = local_behind c.args.s.now c.args.at (omega arith)

pub returns : goal.returns
returns c = local_none c.args.s.now c.args.at (omega arith) (omega arith)

use native.Mathlib.Omega.{arith}
use Rattle.token_iri.proofs.Between.{inside_short, inside_read}
use Rattle.token_iri.proofs.inside.Goals as goal

pub returns-then-token-lt2 : goal.returns-then-token-lt2
returns-then-token-lt2 c = inside_short c.args.token.now (omega arith)

pub returns : goal.returns
returns c = inside_read c.args.token.now (omega arith)

-- `word_or_name` meets its contract.
use native.Mathlib.Omega.{arith}
use mathlib.Core.Path.{subst}
use Prim.Native.Nat.{ℕ}
use Rattle.std.specs.Prelude.{Option}
use Rattle.automaton.specs.States.{in_prefix}
use Rattle.automaton.specs.Run.{At}
use Rattle.lexer_words.specs.Ahead.{word_of}
use Rattle.lexer_words.proofs.Clearing.{next_zero, known_nothing, known_token}
use Rattle.lexer_words.proofs.names.word_or_name.Goals as goal

pub prefix_rest-requires : goal.prefix_rest-requires
prefix_rest-requires c = c.requires.0

pub returns-then-clear-eq0 : goal.returns-then-clear-eq0
returns-then-clear-eq0 c = next_zero c.args.s.now c.args.clear _ c.if-clear-eq0.true c.prefix_rest.ensures

pub returns-in_err-stem : goal.returns-in_err-stem
returns-in_err-stem c = rw c.from_residual.ensures (known_nothing c.args.s.now c.args.stem.len c.args.clear (omega (arith, c.if-clear-eq0.false)) c.requires.1 (subst (λ (k : Option ℕ). At c.args.s.now in_prefix c.args.stem.len (word_of k c.args.stem.len)) c.in_err-stem.was c.requires.0))

pub returns : goal.returns
returns c = rw c.saturating_sub.ensures (known_token c.args.s.now c.args.stem.len c.args.clear (omega (arith, c.if-clear-eq0.false)) c.requires.1 _ (subst (λ (k : Option ℕ). At c.args.s.now in_prefix c.args.stem.len (word_of k c.args.stem.len)) c.in_ok-stem.was c.requires.0))

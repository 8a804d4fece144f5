-- `wide_char` meets its contract.
use native.Mathlib.Omega.{arith}
use mathlib.Core.Path.{refl}
use mathlib.Core.List.{[]}
use Rattle.characters.proofs.Points.{wide_none, wide_needs, wide_no, wide_yes}
use Rattle.characters.proofs.names.wide_char.Goals as goal

pub returns-in_err-c : goal.returns-in_err-c
returns-in_err-c c = rw c.from_residual.ensures (wide_none c.args.s.now c.args.at _ _ c.requires.0 c.requires.1 refl refl [] c.args.least (rw c.in_err-c.was at c.read_code_point.ensures))

pub name_level-requires : goal.name_level-requires
name_level-requires c = let p = rw c.in_ok-c.was at c.read_code_point.ensures in wide_needs c.args.s.now c.args.at _ _ c.requires.0 c.requires.1 p.1 p.2 (λ z. omega (arith, p.0))

pub returns-then-name_level-least : goal.returns-then-name_level-least
returns-then-name_level-least c = let p = rw c.in_ok-c.was at c.read_code_point.ensures in wide_no c.args.s.now c.args.at _ _ c.requires.0 c.requires.1 p.1 p.2 (λ z. omega (arith, p.0)) c.args.least _ c.name_level.ensures c.if-name_level-least.true

pub returns : goal.returns
returns c = let p = rw c.in_ok-c.was at c.read_code_point.ensures in wide_yes c.args.s.now c.args.at _ _ c.requires.0 c.requires.1 p.1 p.2 (λ z. omega (arith, p.0)) c.args.least _ c.name_level.ensures c.if-name_level-least.false

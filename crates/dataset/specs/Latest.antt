-- "each name under the latest directive before it": the same statements, each part of a document under what the tokens before it put in force.
use mathlib.Core.List.{List, [], ◌++◌}
use Rattle.text.specs.Text.{Text}
use Rattle.token.specs.Tokens.{Token}
use Rattle.grammar.specs.Ebnf.{nt, ◌∣◌, star, Tree, leaves, node, left, right, done, more}
use Rattle.grammar.specs.Meaning.{meaning}
use Rattle.grammar.specs.Productions.{Mode, trig, turtle, production, root, kind_of, Derivation, block, statement, directive}
use Rattle.environment.specs.Environment.{Environment}
use Rattle.dataset.specs.Terms.{Quad}
use Rattle.dataset.specs.Constructors.{in_force}
use Rattle.dataset.specs.Statements.{Value, action}

-- The environment after some tokens, where `base` was lent.
abbrev pub environment_after : Text → List Token → Environment
environment_after base before = (in_force base before).environment

module _ (base : Text) where
  -- TriG: of what stands behind the tokens `before`.
  unfoldable pub block_quads : List Token → Tree kind_of (production trig) (star (nt directive ∣ nt block)) → List Quad
  block_quads before done = []
  block_quads before (more (left d) xs) = block_quads (before ++ leaves kind_of (production trig) d) xs
  block_quads before (more (right b) xs) =
      meaning Value (action trig) b (environment_after base before) ++ block_quads (before ++ leaves kind_of (production trig) b) xs

  -- Turtle.
  unfoldable pub statement_quads : List Token → Tree kind_of (production turtle) (star (nt statement)) → List Quad
  unfolding production
  statement_quads before done = []
  statement_quads before (more s xs) =
      (meaning Value (action turtle) s (environment_after base before)).1 ++ statement_quads (before ++ leaves kind_of (production turtle) s) xs

  unfoldable pub quads_under_tokens : (mode : Mode) → Derivation mode → List Quad
  unfolding root production
  quads_under_tokens trig (node n xs) = block_quads [] xs
  quads_under_tokens turtle (node n xs) = statement_quads [] xs

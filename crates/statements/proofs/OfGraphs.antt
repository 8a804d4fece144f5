-- Graphs in braces, and where they are awaited.
use mathlib.Core.Path.{◌≡◌, refl, sym, ◌∙◌}
use mathlib.Core.List.{List, [], ◌∷◌}
use Prim.Native.Nat.{ℕ, ◌<◌}
use native.Mathlib.Omega.{arith}
use borrow.Author.Tests.{ne_eqb}
use denote.Ref.{MutBor}
use Rattle.text.specs.Text.{Text}
use Rattle.token.specs.Kind.{kind_code, open_brace}
use Rattle.grammar.specs.Productions.{Mode, trig}
use Rattle.machine.specs.Frame.{graph_body, label_or_subject, statement}
use Rattle.machine.specs.Rules.{rules}
use Rattle.state.specs.Words.{kind_in, depth_in}
use Rattle.simulation.specs.Simulation.{held, Ready, refusal_here}
use Rattle.state.specs.declared.Held.{Held}
use Rattle.simulation.proofs.Tests.{among_code}
use Rattle.simulation.proofs.Turning.{turns_then, turns_none}
use Rattle.simulation.proofs.Steps.{here_some}
use Rattle.nodes.specs.Nodes.{Passed}
use Rattle.statements.specs.Statements.{Block, GraphAt, Graph}
use Rattle.statements.proofs.OfMarks.{open_mark, mark_enters, mark_ready}
use Rattle.statements.proofs.OfBlocks.{inner}
use Rattle.table.specs.Layout.{word_limit}

module _ (doc : Text) (work rows terms store : MutBor (List ℕ)) (st : List ℕ) (n : ℕ) (r : Ready doc (held work rows terms store st)) where
  abbrev a : Held
  a = held work rows terms store st

  pub graph_none : (q : ℕ) → (kind_in st ≡ kind_code open_brace → ⊥) → q ≡ refusal_here doc st → Graph doc a a n q
  graph_none q k e =
      record {
        turns = λ mode o G. turns_none mode doc o (statement []) a q r e (λ z h tied. G.others k z h tied) (λ i m. G.ended k i m);
        later = λ z. absurd (here_some doc st (sym e ∙ z));
      }

  module _ (st' : List ℕ) (k : kind_in st ≡ kind_code open_brace) (small : n < word_limit) (p : Passed doc st st' (depth_in st) n) where
    pub graph_open : Ready doc (held work rows terms store st')
    graph_open = mark_ready doc work rows terms store st st' 26 open_mark r k n small p

    pub graph_block : (b : Held) (q : ℕ) → Block doc (held work rows terms store st') b q → Graph doc a b n q
    graph_block b q B =
        record {
          turns = λ mode o G.
              turns_then mode doc o inner (statement []) a (held work rows terms store st') b 0 q
              (mark_enters doc work rows terms store st st' 26 open_mark r k n small p mode o inner G.waits (λ tied. G.brace tied)) refl (B mode);
          later = λ z. omega (arith, p.later, (B trig).later z);
        }

-- Behind GRAPH and a label; behind a label; between statements.
module _ (doc : Text) (h : Held) where
  pub body_at : (mode : Mode) (n : ℕ) → GraphAt mode doc h (statement (graph_body n ∷ [])) n
  unfolding rules
  body_at mode n =
      record {
        waits = refl;
        brace = λ tied. refl;
        others = λ y z t tied. rw (among_code (open_brace ∷ []) (kind_in h.st) z t.known, ne_eqb (kind_in h.st) (kind_code open_brace) y);
        ended = λ y n m. refl;
      }

  pub label_at : kind_in h.st ≡ kind_code open_brace → (mode : Mode) (n : ℕ) → GraphAt mode doc h (statement (label_or_subject n ∷ [])) n
  unfolding rules
  label_at k mode n = record { waits = refl; brace = λ tied. refl; others = λ y z t tied. absurd (y k); ended = λ y. absurd (y k) }

  pub document_at : kind_in h.st ≡ kind_code open_brace → GraphAt trig doc h (statement []) 0
  unfolding rules
  document_at k = record { waits = refl; brace = λ tied. refl; others = λ y z t tied. absurd (y k); ended = λ y. absurd (y k) }

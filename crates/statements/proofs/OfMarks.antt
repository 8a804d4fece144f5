-- Marks and keywords of statements: tokens that write nothing, or enter a graph.
use mathlib.Core.Path.{◌≡◌, refl, sym, ap, ◌∙◌, subst}
use mathlib.Core.List.{List, [], ◌∷◌}
use mathlib.Core.Bool.{Bool, true, false, not}
use mathlib.Core.Option.{some}
use Prim.Native.Nat.{ℕ, ◌<◌}
use native.Mathlib.Omega.{arith}
use lib.Dec.{T}
use lib.ListN.{length}
use denote.Ref.{MutBor}
use Rattle.environment.specs.Code.{words_size}
use Rattle.text.specs.Text.{Text}
use Rattle.text.proofs.Booleans.{imp, imp_use, all}
use Rattle.token.specs.Kind.{Kind, kind_code, kinds, end_kind, unreadable_kind, kind_of_code, among, close_bracket, close_paren, GRAPH, dot, open_brace, close_brace}
use Rattle.token.proofs.KindCodes.{all_kinds}
use Rattle.grammar.specs.Productions.{Mode}
use Rattle.dataset.specs.Constructors.{nothing}
use Rattle.machine.specs.Memory.{return, enter}
use Rattle.machine.specs.Frame.{Open}
use Rattle.machine.specs.Rules.{find_rule, rules}
use Rattle.machine.specs.Refusals.{new_depth}
use Rattle.machine.specs.Step.{awaited_by}
use Rattle.state.specs.Words.{kind_in, depth_in, graph_in}
use Rattle.state.specs.Cursor.{Cursor, TokenHere}
use Rattle.simulation.specs.Simulation.{held, here, Ready, Turns}
use Rattle.state.specs.declared.Held.{Held}
use Rattle.simulation.proofs.Frames.{ready_does}
use Rattle.simulation.proofs.Turning.{turns_does}
use Rattle.simulation.proofs.Steps.{tied_here}
use Rattle.nodes.specs.Nodes.{Passed}
use Rattle.nodes.proofs.Passing.{Quiet, passed_does, passed_same}
use Rattle.nesting.proofs.Aiming.{pass_call}
use Rattle.table.specs.Layout.{word_limit}

-- A kind of one list is none of another's.
pub apart : (p q : Kind → Bool) → T (all (λ j. imp (p j) (not (q j))) kinds) → (k : Kind) → p k ≡ true → q k ≡ false
apart p q t k e = go (q k) (imp_use (p k) (not (q k)) (all_kinds (λ j. imp (p j) (not (q j))) t k) (subst T (sym e) tt))
  where
    go : (b : Bool) → T (not b) → b ≡ false
    go true x = absurd x
    go false x = refl

-- A mark: its token meets no refusal of its own, and closes no bracket.
pub record Mark (k : ℕ) : Type 0 where
  pub quiet : Quiet k
  pub closing : among (close_bracket ∷ close_paren ∷ []) (kind_of_code k) ≡ false
  pub some_kind : k ≡ end_kind → ⊥
  pub readable : k ≡ unreadable_kind → ⊥

pub graph_mark : Mark (kind_code GRAPH)
graph_mark = record { quiet = record { escapes = refl; reference = refl; name = refl; opening = refl }; closing = refl; some_kind = λ e. omega arith; readable = λ e. omega arith }

pub dot_mark : Mark (kind_code dot)
dot_mark = record { quiet = record { escapes = refl; reference = refl; name = refl; opening = refl }; closing = refl; some_kind = λ e. omega arith; readable = λ e. omega arith }

pub open_mark : Mark (kind_code open_brace)
open_mark = record { quiet = record { escapes = refl; reference = refl; name = refl; opening = refl }; closing = refl; some_kind = λ e. omega arith; readable = λ e. omega arith }

pub close_mark : Mark (kind_code close_brace)
close_mark = record { quiet = record { escapes = refl; reference = refl; name = refl; opening = refl }; closing = refl; some_kind = λ e. omega arith; readable = λ e. omega arith }

module _ (doc : Text) (work rows terms store : MutBor (List ℕ)) (st st' : List ℕ) (k : ℕ) (mark : Mark k) (ready : Ready doc (held work rows terms store st)) (e : kind_in st ≡ k) where
  abbrev a : Held
  a = held work rows terms store st

  abbrev b : Held
  b = held work rows terms store st'

  some_here : kind_in st ≡ end_kind → ⊥
  some_here h = mark.some_kind (sym e ∙ h)

  token_here : TokenHere doc st
  token_here = ready.cursor.token some_here (λ h. mark.readable (sym e ∙ h))

  same_depth : depth_in st ≡ new_depth (depth_in st) (here doc a)
  unfolding new_depth
  same_depth = rw (e, mark.quiet.opening, mark.closing)

  pub mark_enters : (g : ℕ) → g < word_limit → Passed doc st st' (depth_in st) g → (mode : Mode) (o p : Open) → awaited_by o ≡ nothing
      → ((tied : Bool) → find_rule (kind_of_code k) (rules (here doc a) tied mode o) ≡ some (λ m. (p, (enter g m).1))) → Turns mode doc o p a b 0
  mark_enters g small P mode o p w rule =
      turns_does mode doc (λ m. (0, (enter g m).1)) o p a b 0 ready token_here some_here (passed_does doc work rows terms store st st' k (depth_in st) g e mark.quiet P same_depth small) w (λ m. (p, (enter g m).1))
      (ap (λ (x : ℕ). find_rule (kind_of_code x) (rules (here doc a) (tied_here doc a token_here some_here) mode o)) e ∙ rule (tied_here doc a token_here some_here)) (λ old m h. (refl, λ y. refl))

  pub mark_ready : (g : ℕ) → g < word_limit → Passed doc st st' (depth_in st) g → Ready doc b
  mark_ready g small P = ready_does doc (λ m. (0, (enter g m).1)) a b 0 ready token_here some_here (passed_does doc work rows terms store st st' k (depth_in st) g e mark.quiet P same_depth small) refl

  pub mark_passes : Passed doc st st' (depth_in st) (graph_in st) → (mode : Mode) (o p : Open) → awaited_by o ≡ nothing
      → ((tied : Bool) → find_rule (kind_of_code k) (rules (here doc a) tied mode o) ≡ some (return p)) → Turns mode doc o p a b 0
  mark_passes P mode o p w rule =
      turns_does mode doc (λ m. (0, m)) o p a b 0 ready token_here some_here (passed_same doc work rows terms store st st' k (depth_in st) 0 e mark.quiet P same_depth) w (return p)
      (ap (λ (x : ℕ). find_rule (kind_of_code x) (rules (here doc a) (tied_here doc a token_here some_here) mode o)) e ∙ rule (tied_here doc a token_here some_here)) (λ old m h. (refl, λ y. refl))

pub mark_call : (doc : Text) (h : Held) (k : ℕ) → Mark k → Ready doc h → kind_in h.st ≡ k → (Cursor doc h.st × TokenHere doc h.st) × (length h.st ≡ words_size)
mark_call doc h k mark r e = pass_call doc h k r e mark.some_kind mark.readable

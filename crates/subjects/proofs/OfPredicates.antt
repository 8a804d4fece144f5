-- What comes behind a subject.
use mathlib.Core.Path.{◌≡◌, sym, ◌∙◌}
use mathlib.Core.List.{[], ◌∷◌}
use mathlib.Core.Bool.{true, false}
use Prim.Native.Nat.{ℕ}
use lib.ListN.{get_or}
use Rattle.text.specs.Text.{Text}
use Rattle.simulation.specs.Simulation.{code_among, here, Ready, on_top, refusal_here}
use Rattle.state.specs.declared.Held.{Held}
use Rattle.simulation.proofs.Compose.{comes_here}
use Rattle.simulation.proofs.Steps.{here_some}
use Rattle.simulation.proofs.Frames.{reads_none}
use Rattle.state.specs.Words.{x_word, kind_in, list_in}
use Rattle.nodes.specs.Nodes.{verb_kinds}
use Rattle.nesting.specs.Nesting.{Properties}
use Rattle.subjects.specs.Subjects.{Predicates}

module _ (doc : Text) (a : Held) (ready : Ready doc a) where
  pub predicates_there : (b : Held) (r : ℕ) → code_among verb_kinds (kind_in a.st) ≡ true → Properties doc a b (get_or a.st x_word 0) r → Predicates doc a b r
  predicates_there b r v P = record { reads = λ f e verbs ends none_there. P.reads f e [] verbs }

  pub predicates_alone : code_among verb_kinds (kind_in a.st) ≡ false → list_in a.st ≡ 2 → Predicates doc a a 0
  predicates_alone v l = record { reads = λ f e verbs ends none_there. record { open_frame = f; reads = comes_here doc (on_top (f ∷ [])) a ready; ends = λ z. ends v l } }

  pub predicates_none : (r : ℕ) → code_among verb_kinds (kind_in a.st) ≡ false → (list_in a.st ≡ 2 → ⊥) → r ≡ refusal_here doc a.st → Predicates doc a a r
  predicates_none r v l e =
      record {
        reads = λ f g verbs ends none_there.
            record { open_frame = f; reads = reads_none doc f [] (f ∷ []) a r ready (λ z h tied. none_there v l z h.known (here doc a) tied) e; ends = λ z. absurd (here_some doc a.st (sym e ∙ z)) };
      }

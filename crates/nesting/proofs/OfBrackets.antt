-- What is in a bracket, and its end.
use mathlib.Core.Path.{◌≡◌, refl, sym, ap, ◌∙◌, subst}
use mathlib.Core.List.{List, [], ◌∷◌, ◌++◌}
use mathlib.Core.Bool.{Bool, true, false}
use mathlib.Core.Option.{Option, some}
use Prim.Native.Nat.{ℕ, ◌-◌, ◌<◌}
use native.Mathlib.Omega.{arith}
use borrow.Author.Tests.{ne_eqb}
use denote.Ref.{MutBor}
use Rattle.text.specs.Text.{Text, cond}
use Rattle.token.specs.Kind.{Kind, kind_code, kind_of_code, among, close_bracket}
use Rattle.token.specs.Tokens.{Token}
use Rattle.machine.specs.Memory.{Write, return}
use Rattle.machine.specs.Frame.{bracket_end, object_of, Frame, bracket, object}
use Rattle.machine.specs.Rules.{find_rule, frame_rules, after_properties}
use Rattle.machine.specs.Refusals.{new_depth}
use Rattle.state.specs.Words.{kind_word, kind_in, depth_in, node_in, graph_in}
use Rattle.simulation.specs.Simulation.{code_among, held, here, Ready, Reads, on_top, refusal_here}
use Rattle.state.specs.declared.Held.{Held}
use Rattle.simulation.proofs.Compose.{comes_then, comes_within}
use Rattle.simulation.proofs.Tests.{among_code}
use Rattle.simulation.proofs.Frames.{reads_does, reads_none}
use Rattle.simulation.proofs.Steps.{here_some}
use Rattle.nodes.specs.Nodes.{Passed, Verbs, Ends, verb_kinds}
use Rattle.nodes.proofs.Passing.{Quiet, passed_same, depth_closing}
use Rattle.nodes.proofs.Predicates.{verbs_bracket, no_verb}
use Rattle.nesting.specs.Nesting.{level_x, Marked, Levels, SomeLevels, Deep, Resumes, Contents, Predicates, Closing}
use Rattle.nesting.proofs.Aiming.{comes_aimed, ready_aimed}
use Rattle.nesting.proofs.Levels.{levels_at, mark_depth, mark_before, mark_below, mark_deep}
use Rattle.nesting.proofs.Skipping.{token_there}
use Rattle.table.specs.Layout.{word_limit}

quiet : Quiet (kind_code close_bracket)
quiet = record { escapes = refl; reference = refl; name = refl; opening = refl }

-- The closing bracket, where some frame takes it.
pub close_reads : (doc : Text) (work rows terms store : MutBor (List ℕ)) (st st' : List ℕ) → Ready doc (held work rows terms store st) → kind_in st ≡ kind_code close_bracket → Passed doc st st' (depth_in st - 1) (graph_in st)
    → (f : Frame) (gs : List Frame) → ((t : Token) (tied : Bool) → find_rule close_bracket (frame_rules t tied f) ≡ some (return gs)) → Reads doc (f ∷ []) gs (held work rows terms store st) (held work rows terms store st') 0
close_reads doc work rows terms store st st' r k p f gs rule =
    reads_does doc f gs (held work rows terms store st) (held work rows terms store st') 0 r (λ m. (0, m)) (token_there doc st (kind_code close_bracket) r.cursor k (λ h. omega arith) (λ h. omega arith)) (λ h. omega arith)
    (passed_same doc work rows terms store st st' 23 (depth_in st - 1) 0 k quiet p (depth_23 work rows terms store st k))
    (λ tied. (return gs, (ap (λ (x : Kind). find_rule x (frame_rules (here doc (held work rows terms store st)) tied f)) (ap kind_of_code k) ∙ rule (here doc (held work rows terms store st)) tied, λ old m h. (refl, λ y. refl))))
  where
    depth_23 : (work rows terms store : MutBor (List ℕ)) (st : List ℕ) → kind_in st ≡ kind_code close_bracket → depth_in st - 1 ≡ new_depth (depth_in st) (here doc (held work rows terms store st))
    depth_23 work rows terms store st k = depth_closing doc (held work rows terms store st) 23 k refl refl

-- ---- The end

module _ (doc : Text) (work rows terms store : MutBor (List ℕ)) (st : List ℕ) (r : Ready doc (held work rows terms store st)) where
  abbrev a : Held
  a = held work rows terms store st

  pub closing_none : (q : ℕ) → (kind_in st ≡ kind_code close_bracket → ⊥) → q ≡ refusal_here doc st → Closing doc a a q
  closing_none q k e f ends fs l =
      record {
        reads = reads_none doc f fs [] a q r (λ z h tied. ends z h.known (here doc a) tied ∙ rw (among_code (close_bracket ∷ []) (kind_in st) z h.known, ne_eqb (kind_in st) (kind_code close_bracket) k)) e;
        depth = λ z. absurd (here_some doc st (sym e ∙ z));
      }

  module _ (st' : List ℕ) (k : kind_in st ≡ kind_code close_bracket) (h : 0 < depth_in st) (p : Passed doc st st' (depth_in st - 1) (graph_in st)) where
    abbrev b : Held
    b = held work rows terms store st'

    left_levels : (fs : List Frame) → Levels st (depth_in st - 1) fs → Levels st' (depth_in st') fs
    left_levels fs l = levels_at st st' (depth_in st - 1) (depth_in st') p.depth_is (λ i g. p.spot i (omega arith)) fs l

    pub left_call : Deep st → Ready doc b × SomeLevels st' (depth_in st')
    left_call (g, (fs, l)) = ((close_reads doc work rows terms store st st' r k p (bracket (object_of 1 1) 1) [] (λ t tied. refl)).ready refl, (fs, left_levels fs l))

    pub closing_resumes : (d : Held) (q : ℕ) → Resumes doc b d q → Closing doc a d q
    closing_resumes d q R f ends fs l =
        let w = R fs (left_levels fs l) in
        record {
          reads = comes_then doc (on_top (f ∷ fs)) (on_top fs) (on_top []) a b d 0 q (comes_within doc (λ x. fs ++ x) (on_top (f ∷ [])) (on_top []) a b 0 (close_reads doc work rows terms store st st' r k p f [] ends_23)) refl w.reads;
          depth = λ z. omega (arith, w.depth z, p.depth_is);
        }
      where
        ends_23 : (t : Token) (tied : Bool) → find_rule close_bracket (frame_rules t tied f) ≡ some (return [])
        ends_23 t tied = subst (λ (x : ℕ). Ends f bracket_end x) k ends (λ z. omega arith) (omega arith) t tied

-- ---- The contents

module _ (doc : Text) (work rows terms store : MutBor (List ℕ)) (st : List ℕ) (r : Ready doc (held work rows terms store st)) where
  -- No predicate: the bracket ends, if with anything.
  pub contents_end : code_among verb_kinds (kind_in st) ≡ false → (d : Held) (q : ℕ) → Closing doc (held work rows terms store st) d q → Contents doc (held work rows terms store st) d q
  contents_end v d q C place e1 e2 = C (bracket place (node_in st)) ends
    where
      ends : Ends (bracket place (node_in st)) bracket_end (kind_in st)
      ends z h t tied =
          rw (e1 (node_in st)) (ap (λ (o : Option (Write (List Frame))). cond (among (close_bracket ∷ []) (kind_of_code (kind_in st))) (some (return [])) o) (no_verb t tied (λ p. object (node_in st) p bracket_end ∷ after_properties place (node_in st)) (kind_in st) z h v))

  -- A predicate of the bracket's node, which its level holds now.
  module _ (st' : List ℕ) (n : ℕ) (en : n ≡ node_in st) (M : Marked st st' n 0) where
    abbrev c : Held
    c = held work rows terms store st'

    level_there : level_x st' (depth_in st') ≡ n
    level_there = ap (level_x st') (mark_depth st st' n 0 M) ∙ M.x_is

    pub contents_call : node_in st < word_limit → 0 < node_in st → Deep st → code_among verb_kinds (kind_in st) ≡ true
        → (Ready doc c × (level_x st' (depth_in st') < word_limit)) × (((0 < level_x st' (depth_in st')) × (code_among verb_kinds (kind_in st') ≡ true)) × Deep st')
    contents_call small some_node deep v = (
      (ready_aimed doc work rows terms store st st' (mark_before st st' n 0 M) M.words r, omega (arith, level_there)),
      ((omega (arith, level_there), rw (M.below kind_word (omega arith)) v), mark_deep st st' n 0 M deep),
    )

    pub contents_predicate : 0 < depth_in st → (d : Held) (q : ℕ) → Predicates doc c d q → Contents doc (held work rows terms store st) d q
    contents_predicate h d q P place e1 e2 fs l =
        let w = P (bracket place (node_in st)) verbs fs (mark_below st st' n 0 M h fs l) in
        record {
          reads = comes_then doc (on_top (bracket place (node_in st) ∷ fs)) (on_top (bracket place (node_in st) ∷ fs)) (on_top []) (held work rows terms store st) c d 0 q
              (comes_aimed doc work rows terms store st st' (mark_before st st' n 0 M) M.words (on_top (bracket place (node_in st) ∷ fs)) r) refl w.reads;
          depth = λ z. w.depth z ∙ mark_depth st st' n 0 M;
        }
      where
        verbs : Verbs (bracket place (node_in st)) (level_x st' (depth_in st')) bracket_end []
        verbs = subst (λ (s : ℕ). Verbs (bracket place (node_in st)) s bracket_end []) (sym (level_there ∙ en)) (subst (λ (gs : List Frame). Verbs (bracket place (node_in st)) (node_in st) bracket_end gs) (e2 (node_in st)) (verbs_bracket place (node_in st)))

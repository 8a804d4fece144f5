-- Triples outside braces.
use mathlib.Core.Path.{◌≡◌, refl, sym, ◌∙◌, subst}
use mathlib.Core.List.{List, [], ◌∷◌}
use mathlib.Core.Bool.{Bool, true, false, ◌||◌}
use mathlib.Core.Option.{none}
use Prim.Native.Nat.{ℕ, ◌≤◌, ◌<◌}
use native.Mathlib.Omega.{arith}
use borrow.Author.Tests.{eq-eqb, ne_eqb, eqb-true}
use lib.Dec.{eqb}
use lib.ListN.{get_or}
use denote.Ref.{MutBor}
use Rattle.text.specs.Text.{Text, cond}
use Rattle.text.proofs.Booleans.{all}
use Rattle.token.specs.Kind.{Kind, kind_code, last_kind, end_kind, kind_of_code, among, GRAPH, dot, open_brace, at_prefix, at_base, PREFIX, BASE}
use Rattle.token.specs.Tokens.{Token}
use Rattle.token.proofs.KindCodes.{each_kind}
use Rattle.grammar.specs.Productions.{trig, turtle}
use Rattle.machine.specs.Memory.{return}
use Rattle.machine.specs.Frame.{full_stop, Place, top, subject_before, label_or_subject, Open, statement}
use Rattle.machine.specs.Rules.{find_rule, subject_rules, document_rules, end_rules, above, rules}
use Rattle.machine.specs.Read.{mode_of}
use Rattle.state.specs.Words.{x_word, kind_in, depth_in, graph_in, list_in}
use Rattle.simulation.specs.Simulation.{code_among, held, here, Ready, Turns, refusal_here}
use Rattle.state.specs.declared.Held.{Held}
use Rattle.simulation.proofs.Tests.{kinds_of, among_any, among_code, no_rule}
use Rattle.simulation.proofs.Turning.{turns_then, turns_stop, turns_none}
use Rattle.simulation.proofs.Steps.{here_some}
use Rattle.nodes.specs.Nodes.{Passed}
use Rattle.subjects.specs.Subjects.{subject_kinds, after_subject, SubjectAt, Subject, Predicates}
use Rattle.statements.specs.Statements.{Graph, Statement, Plain, graph_label_test}
use Rattle.directives.specs.Directives.{directive_kinds}
use Rattle.statements.proofs.OfMarks.{apart, dot_mark, mark_passes}
use Rattle.statements.proofs.OfLabels.{labels, no_labels}
use Rattle.statements.proofs.Behind.{Behind, no_graph, behind_subject, subject_ready}
use Rattle.statements.proofs.OfBlocks.{ends_none, ends_at}
use Rattle.statements.proofs.OfGraphs.{label_at}
use Rattle.table.specs.Layout.{word_limit}

abbrev between : Open
between = statement []

-- ---- A subject is awaited between statements

module _ (t : Token) (tied : Bool) (k : Kind) (h : among subject_kinds k ≡ true) where
  subject_trig : find_rule k (rules t tied trig between) ≡ find_rule k (above t tied [] (subject_rules t tied top))
  unfolding rules all
  subject_trig =
      rw (apart (among subject_kinds) (among (at_prefix ∷ [])) tt k h, apart (among subject_kinds) (among (at_base ∷ [])) tt k h, apart (among subject_kinds) (among (PREFIX ∷ [])) tt k h, apart (among subject_kinds) (among (BASE ∷ [])) tt k h, apart (among subject_kinds) (among (open_brace ∷ [])) tt k h, apart (among subject_kinds) (among (GRAPH ∷ [])) tt k h)

  subject_turtle : find_rule k (rules t tied turtle between) ≡ find_rule k (above t tied [] (subject_rules t tied (subject_before full_stop)))
  unfolding rules all
  subject_turtle =
      rw (apart (among subject_kinds) (among (at_prefix ∷ [])) tt k h, apart (among subject_kinds) (among (at_base ∷ [])) tt k h, apart (among subject_kinds) (among (PREFIX ∷ [])) tt k h, apart (among subject_kinds) (among (BASE ∷ [])) tt k h)

module _ (t : Token) (tied : Bool) (k : ℕ) (z : k ≡ end_kind → ⊥) (h : k ≤ last_kind) (d : code_among directive_kinds k ≡ false) (e : among subject_kinds (kind_of_code k) ≡ false) where
  none_trig : (k ≡ kind_code open_brace → ⊥) → (k ≡ kind_code GRAPH → ⊥) → find_rule (kind_of_code k) (rules t tied trig between) ≡ none
  unfolding rules
  none_trig n26 n18 =
      no_rule (document_rules t tied trig) (kind_of_code k)
      (each_kind (among_any (kinds_of (document_rules t tied trig))) (λ j. among directive_kinds j || (among (open_brace ∷ []) j || (among (GRAPH ∷ []) j || among subject_kinds j))) refl (kind_of_code k)
      ∙ rw (among_code directive_kinds k z h ∙ d, among_code (open_brace ∷ []) k z h, among_code (GRAPH ∷ []) k z h, ne_eqb k (kind_code open_brace) n26, ne_eqb k (kind_code GRAPH) n18, e))

  none_turtle : find_rule (kind_of_code k) (rules t tied turtle between) ≡ none
  unfolding rules
  none_turtle =
      no_rule (document_rules t tied turtle) (kind_of_code k)
      (each_kind (among_any (kinds_of (document_rules t tied turtle))) (λ j. among directive_kinds j || among subject_kinds j) refl (kind_of_code k) ∙ rw (among_code directive_kinds k z h ∙ d, e))

-- The place of a subject, by the mode.
abbrev place_in : Bool → Place
place_in b = cond b top (subject_before full_stop)

module _ (mode : ℕ) (doc : Text) (a : Held) (pl : Plain mode (kind_in a.st)) where
  subject_between : (b : Bool) → eqb mode 0 ≡ b → SubjectAt (cond b trig turtle) doc a between (place_in b)
  subject_between true e =
      record {
        outer = tt;
        waits = refl;
        rules_are = λ k tied h. subject_trig (here doc a) tied k h;
        others = λ z h tied f. none_trig (here doc a) tied (kind_in a.st) z h.known pl.no_directive f (pl.no_brace (eqb-true mode 0 e)) (pl.no_graph (eqb-true mode 0 e));
        ended = λ z. absurd (pl.some_token z);
      }
  subject_between false e =
      record {
        outer = tt;
        waits = refl;
        rules_are = λ k tied h. subject_turtle (here doc a) tied k h;
        others = λ z h tied f. none_turtle (here doc a) tied (kind_in a.st) z h.known pl.no_directive f;
        ended = λ z. absurd (pl.some_token z);
      }

  subject_there : SubjectAt (mode_of mode) doc a between (place_in (eqb mode 0))
  subject_there = subject_between (eqb mode 0) refl

  pub triples_stop : (b : Held) (r : ℕ) → Subject doc a b r → (r ≡ 0 → ⊥) → Statement (mode_of mode) doc a b r
  triples_stop b r S z =
      record {
        turns = turns_stop (mode_of mode) doc between (statement (after_subject (list_in b.st) (place_in (eqb mode 0)) (get_or b.st x_word 0))) between a b r (S.turns (mode_of mode) between (place_in (eqb mode 0)) subject_there) z;
        later = λ e. absurd (z e);
      }

  module _ (b : Held) (r : ℕ) (S : Subject doc a b r) (z : r ≡ 0) where
    subject_read : Subject doc a b 0
    subject_read = subst (λ (x : ℕ). Subject doc a b x) z S

    pub triples_subject : (Ready doc b × (get_or b.st x_word 0 < word_limit)) × (0 < get_or b.st x_word 0)
    triples_subject = subject_ready (mode_of mode) doc between (place_in (eqb mode 0)) a b subject_there subject_read

    -- A label: its graph.
    pub triples_graph : (d : Held) (q : ℕ) (t : Bool) → t ≡ graph_label_test b.st mode → t ≡ true → Graph doc b d (get_or b.st x_word 0) q → Statement (mode_of mode) doc a d q
    triples_graph d q t e f G =
        let L = labels b.st mode (sym e ∙ f) in
        subst (λ (x : Bool). Statement (cond x trig turtle) doc a d q) (sym (eq-eqb mode 0 L.mode_is))
        (record {
          turns =
              turns_then trig doc between (statement (label_or_subject (get_or b.st x_word 0) ∷ [])) between a b d 0 q (label_open L.mode_is L.shape_is) refl
              (G.turns trig (statement (label_or_subject (get_or b.st x_word 0) ∷ [])) (label_at doc b L.kind_is trig (get_or b.st x_word 0)));
          later = λ y. omega (arith, S.later z, G.later y);
        })
      where
        label_open : mode ≡ 0 → list_in b.st ≡ 0 → Turns trig doc between (statement (label_or_subject (get_or b.st x_word 0) ∷ [])) a b 0
        label_open m l = subst (λ (x : ℕ). Turns trig doc between (statement (after_subject x top (get_or b.st x_word 0))) a b 0) l (subject_read.turns trig between top (subject_between true (eq-eqb mode 0 m)))

    module _ (t : Bool) (e : t ≡ graph_label_test b.st mode) (f : t ≡ false) (s : ℕ) where
      triples_behind : (d : Held) → Predicates doc b d s → Behind (mode_of mode) doc between full_stop a d s
      triples_behind d P = go (eqb mode 0) refl
        where
          go : (x : Bool) → eqb mode 0 ≡ x → Behind (cond x trig turtle) doc between full_stop a d s
          go true y = behind_subject trig doc between top a b (subject_between true y) subject_read d s P (no_graph (list_in b.st) (kind_in b.st) (λ l k. no_labels b.st mode (sym e ∙ f) (eqb-true mode 0 y) l k))
          go false y = behind_subject turtle doc between (subject_before full_stop) a b (subject_between false y) subject_read d s P tt

      pub triples_behind_stop : (d : Held) → Predicates doc b d s → (s ≡ 0 → ⊥) → Statement (mode_of mode) doc a d s
      triples_behind_stop d P w =
          let B = triples_behind d P in
          record { turns = turns_stop (mode_of mode) doc between (statement (B.frame ∷ [])) between a d s B.turns w; later = λ y. absurd (w y) }

      pub triples_ready : (d : Held) → Predicates doc b d s → s ≡ 0 → Ready doc d
      triples_ready d P w = (triples_behind d P).turns.ready w

      pub triples_unexpected : (d : Held) → Predicates doc b d s → s ≡ 0 → (kind_in d.st ≡ kind_code dot → ⊥) → (q : ℕ) → q ≡ refusal_here doc d.st → Statement (mode_of mode) doc a d q
      triples_unexpected d P w n19 q g =
          let B = triples_behind d P in
          record {
            turns =
                turns_then (mode_of mode) doc between (statement (B.frame ∷ [])) between a d d s q B.turns w
                (turns_none (mode_of mode) doc (statement (B.frame ∷ [])) between d q (B.turns.ready w) g
                (λ x h tied. ends_none (mode_of mode) (here doc d) tied B.frame full_stop (kind_in d.st) (B.ends w) x h.known (none_there (here doc d) tied x h.known)) (λ n m. refl));
            later = λ y. absurd (here_some doc d.st (sym g ∙ y));
          }
        where
          none_there : (u : Token) (tied : Bool) → (kind_in d.st ≡ end_kind → ⊥) → kind_in d.st ≤ last_kind → find_rule (kind_of_code (kind_in d.st)) (end_rules u tied full_stop) ≡ none
          none_there u tied x h = rw (among_code (dot ∷ []) (kind_in d.st) x h, ne_eqb (kind_in d.st) (kind_code dot) n19)

      pub triples_dot : (work rows terms store : MutBor (List ℕ)) (u u' : List ℕ) → Predicates doc b (held work rows terms store u) s → s ≡ 0 → kind_in u ≡ kind_code dot → Passed doc u u' (depth_in u) (graph_in u)
          → Statement (mode_of mode) doc a (held work rows terms store u') 0
      triples_dot work rows terms store u u' P w k p =
          let d = held work rows terms store u in
          let B = triples_behind d P in
          record {
            turns =
                turns_then (mode_of mode) doc between (statement (B.frame ∷ [])) between a d (held work rows terms store u') s 0 B.turns w
                (mark_passes doc work rows terms store u u' 19 dot_mark (B.turns.ready w) k p (mode_of mode) (statement (B.frame ∷ [])) between refl
                (λ tied. ends_at (mode_of mode) (here doc d) tied B.frame full_stop (kind_in u) 19 k (B.ends w) (λ x. omega arith) (omega arith) (return []) refl));
            later = λ y. omega (arith, B.later w, p.later);
          }

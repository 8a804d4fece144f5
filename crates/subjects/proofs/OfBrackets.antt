-- A bracket as subject.
use mathlib.Core.Path.{◌≡◌, refl, sym, ap, ◌∙◌, subst}
use mathlib.Core.List.{List, [], ◌∷◌, ◌++◌}
use mathlib.Core.Bool.{Bool, false}
use mathlib.Core.Option.{none, some}
use Prim.Native.Nat.{ℕ, ◌+◌, ◌-◌, ◌≤◌, ◌<◌}
use native.Mathlib.Omega.{arith}
use borrow.Author.Tests.{ne_eqb}
use denote.Ref.{MutBor}
use Rattle.text.specs.Text.{Text}
use Rattle.token.specs.Kind.{kind_code, last_kind, end_kind, kind_of_code, close_bracket, open_bracket}
use Rattle.token.specs.Tokens.{Token}
use Rattle.grammar.specs.Productions.{Mode}
use Rattle.dataset.specs.Terms.{blank, bracket as bracket_node}
use Rattle.machine.specs.Memory.{Memory, return, ◌>>=◌, new_term}
use Rattle.machine.specs.Frame.{Place, subject_before, full_stop, bracket_end, Frame, bracket, object, Open, statement}
use Rattle.machine.specs.Rules.{find_rule, after_node, after_properties, end_rules, frame_rules, bracket_term}
use Rattle.state.specs.Words.{kind_word, at_word, kind_in, at_in, depth_in, node_in, graph_in}
use Rattle.state.specs.Cursor.{TokenHere}
use Rattle.state.specs.Writes.{placed}
use Rattle.simulation.specs.Simulation.{code_among, held, here, Ready, Reads, on_top, Turns, refusal_here}
use Rattle.state.specs.declared.Held.{Held}
use Rattle.simulation.proofs.Tests.{among_code}
use Rattle.simulation.proofs.Steps.{tied_here, here_some}
use Rattle.simulation.proofs.Frames.{ready_does, reads_none}
use Rattle.simulation.proofs.Turning.{turns_comes, turns_then, turns_stop, turns_does}
use Rattle.nodes.specs.Nodes.{Aimed, Passed, Spotted, Numbers, spot_of, verb_kinds, Verbs}
use Rattle.nodes.proofs.Predicates.{alone, no_verb, verbs_bracket}
use Rattle.nesting.specs.Nesting.{Listed, Properties}
use Rattle.nesting.proofs.Skipping.{token_there}
use Rattle.nesting.proofs.Aiming.{ready_aimed, spotted}
use Rattle.nesting.proofs.OfBrackets.{close_reads}
use Rattle.subjects.specs.Subjects.{SubjectAt, Subject}
use Rattle.subjects.proofs.Rules.{subject_aimed, node_nil, properties_nil, deeper}
use Rattle.subjects.proofs.OfTerms.{turns_aimed, settled}

module _ (doc : Text) (work₀ rows₀ terms₀ store₀ : MutBor (List ℕ)) (st st' : List ℕ) (ready : Ready doc (held work₀ rows₀ terms₀ store₀ st)) (k : kind_in st ≡ kind_code open_bracket) (aim : Aimed st st' 0 0 0 0 0) where
  abbrev a : Held
  a = held work₀ rows₀ terms₀ store₀ st

  abbrev a1 : Held
  a1 = held work₀ rows₀ terms₀ store₀ st'

  kind_1 : kind_in st' ≡ kind_code open_bracket
  kind_1 = aim.before kind_word (omega arith) ∙ k

  ready_1 : Ready doc a1
  ready_1 = ready_aimed doc work₀ rows₀ terms₀ store₀ st st' aim.before aim.words ready

  token_1 : TokenHere doc st'
  token_1 = token_there doc st' (kind_code open_bracket) ready_1.cursor kind_1 (λ h. omega arith) (λ h. omega arith)

  some_kind : kind_in st' ≡ end_kind → ⊥
  some_kind h = omega (arith, kind_1)

  pub bracket_asked : (Ready doc a1 × Spotted a1) × (kind_in st' ≡ kind_code open_bracket)
  bracket_asked = ((ready_1, spotted work₀ rows₀ terms₀ store₀ st st' 0 0 0 0 0 aim (omega arith) (omega arith) (omega arith) (omega arith)), kind_1)

  module _ (work rows terms store : MutBor (List ℕ)) (u : List ℕ) (r : ℕ) (N : Numbers doc (placed (spot_of a1) (new_term (blank (bracket_node (at_in st'))))) a1 (held work rows terms store u) r) where
    abbrev b : Held
    b = held work rows terms store u

    to_bracket : (mode : Mode) (o : Open) (place : Place) → SubjectAt mode doc a o place → Turns mode doc o (statement (bracket place (node_in u) ∷ [])) a b r
    to_bracket mode o place s =
        let s1 = subject_aimed mode doc work₀ rows₀ terms₀ store₀ st st' aim.before o place s in
        let v = new_term (blank (bracket_node (at_in st'))) in
        turns_then mode doc o o (statement (bracket place (node_in u) ∷ [])) a a1 b 0 r (turns_aimed mode doc work₀ rows₀ terms₀ store₀ st st' aim.before aim.words o ready) refl
        (turns_does mode doc (placed (spot_of a1) v) o (statement (bracket place (node_in u) ∷ [])) a1 b r ready_1 token_1 some_kind N.gives.does s1.waits
        ((bracket_term (here doc a1) (tied_here doc a1 token_1 some_kind) >>= λ n. return (bracket place n ∷ [])) >>= λ fs. return (statement (fs ++ [])))
        (s1.rules_are (here doc a1).kind (tied_here doc a1 token_1 some_kind) (rw kind_1) ∙ rw kind_1)
        (λ old m x. (
          ap (λ (y : ℕ × Memory). y.1) (sym (alone doc a1 b r ready_1 token_1 some_kind aim.list_is aim.x_is v m)),
          λ y. ap (λ (n : ℕ). statement (bracket place n ∷ [])) (sym (N.gives.node y old m x ∙ ap (λ (w : ℕ × Memory). w.0) (alone doc a1 b r ready_1 token_1 some_kind aim.list_is aim.x_is v m))),
        )))

    no_subject : (c : Held) (q : ℕ) → (q ≡ 0 → ⊥) → ((mode : Mode) (o : Open) (place : Place) → SubjectAt mode doc a o place → (p : Open) × Turns mode doc o p a c q) → Subject doc a c q
    no_subject c q z t =
        record {
          turns = λ mode o place s. let (p, x) = t mode o place s in turns_stop mode doc o p _ a c q x z;
          small = λ y. absurd (z y);
          positive = λ y. absurd (z y);
          shape = λ y. absurd (z y);
          later = λ y. absurd (z y);
        }

    pub bracket_refused : (r ≡ 0 → ⊥) → Subject doc a b r
    bracket_refused z = no_subject b r z (λ mode o place s. (statement (bracket place (node_in u) ∷ []), to_bracket mode o place s))

    module _ (z : r ≡ 0) where
      pub bracket_opened : Ready doc b
      bracket_opened = ready_does doc (placed (spot_of a1) (new_term (blank (bracket_node (at_in st'))))) a1 b r ready_1 token_1 some_kind N.gives.does z

      depth_b : depth_in u ≡ depth_in st' + 1
      depth_b = (N.gives.does.done z).depth ∙ deeper doc a1 kind_1

      pub bracket_deep : 0 < depth_in u
      bracket_deep = omega (arith, depth_b)

      later_b : at_in st < at_in u
      later_b = omega (arith, (N.gives.does.done z).later, aim.before at_word (omega arith))

      at_once : (mode : Mode) (o : Open) (place : Place) → SubjectAt mode doc a o place → (gs : List Frame) (c : Held) (q : ℕ) → Reads doc (bracket place (node_in u) ∷ []) gs b c q → Turns mode doc o (statement (gs ++ [])) a c q
      at_once mode o place s gs c q R =
          turns_then mode doc o (statement (bracket place (node_in u) ∷ [])) (statement (gs ++ [])) a b c r q (to_bracket mode o place s) z
          (turns_comes mode doc (on_top (bracket place (node_in u) ∷ [])) (on_top gs) b c q R [])

      -- An empty bracket.
      pub bracket_empty : kind_in u ≡ kind_code close_bracket → (u' u'' : List ℕ) (n : ℕ) → n ≡ node_in u → Passed doc u u' (depth_in u - 1) (graph_in u) → Aimed u' u'' 0 n 0 0 0 → Subject doc a (held work rows terms store u'') 0
      bracket_empty e u' u'' n en p aim' =
          let R : (place : Place) → Reads doc (bracket place (node_in u) ∷ []) (after_node place (node_in u)) b (held work rows terms store u') 0 =
          λ place. close_reads doc work rows terms store u u' bracket_opened e p (bracket place (node_in u)) (after_node place (node_in u)) (λ t tied. refl) in
          settled doc a work rows terms store u' u'' 0 n aim' ((R (subject_before full_stop)).ready refl) (λ place. after_node place (node_in u)) (λ place. rw en)
          (λ mode o place s. subst (λ (x : List Frame). Turns mode doc o (statement x) a (held work rows terms store u') 0) (node_nil place s.outer (node_in u)) (at_once mode o place s (after_node place (node_in u)) (held work rows terms store u') 0 (R place)))
          (rw en (N.gives.small z)) (rw en (N.positive z)) (omega arith) (omega (arith, later_b, p.later))

      -- Neither its end nor a predicate.
      pub bracket_unexpected : (q : ℕ) → (kind_in u ≡ kind_code close_bracket → ⊥) → code_among verb_kinds (kind_in u) ≡ false → q ≡ refusal_here doc u → Subject doc a b q
      bracket_unexpected q e v w =
          no_subject b q (λ y. here_some doc u (sym w ∙ y))
          (λ mode o place s. (statement [], at_once mode o place s [] b q (reads_none doc (bracket place (node_in u)) [] [] b q bracket_opened (λ x h tied. none_there x h place tied) w)))
        where
          none_there : (kind_in u ≡ end_kind → ⊥) → TokenHere doc u → (place : Place) (tied : Bool) → find_rule (here doc b).kind (frame_rules (here doc b) tied (bracket place (node_in u))) ≡ none
          none_there x h place tied =
              rw (among_code (close_bracket ∷ []) (kind_in u) x h.known, ne_eqb (kind_in u) (kind_code close_bracket) e)
              (no_verb (here doc b) tied (λ p. object (node_in u) p bracket_end ∷ after_properties place (node_in u)) (kind_in u) x h.known v)

      -- Its properties.
      module _ (work₂ rows₂ terms₂ store₂ : MutBor (List ℕ)) (y : List ℕ) (q n : ℕ) (en : n ≡ node_in u) (P : Properties doc b (held work₂ rows₂ terms₂ store₂ y) n q) where
        abbrev d : Held
        d = held work₂ rows₂ terms₂ store₂ y

        listed : (place : Place) → Listed doc (bracket place (node_in u)) bracket_end (after_properties place (node_in u)) b d q
        listed place = P.reads (bracket place (node_in u)) bracket_end (after_properties place (node_in u)) (subst (λ (x : ℕ). Verbs (bracket place (node_in u)) x bracket_end (after_properties place (node_in u))) (sym en) (verbs_bracket place (node_in u)))

        pub properties_refused : (q ≡ 0 → ⊥) → Subject doc a d q
        properties_refused w = no_subject d q w (λ mode o place s. (_, at_once mode o place s ((listed place).open_frame ∷ after_properties place (node_in u)) d q (listed place).reads))

        module _ (w : q ≡ 0) where
          pub properties_ready : Ready doc d × (0 < depth_in y)
          properties_ready = ((listed (subject_before full_stop)).reads.ready w, omega (arith, P.steady.depth w, depth_b))

          pub properties_unexpected : (x : ℕ) → (kind_in y ≡ kind_code close_bracket → ⊥) → x ≡ refusal_here doc y → Subject doc a d x
          properties_unexpected x e g =
              no_subject d x (λ f. here_some doc y (sym g ∙ f))
              (λ mode o place s. (
                statement [],
                turns_then mode doc o (statement ((listed place).open_frame ∷ (after_properties place (node_in u) ++ []))) (statement []) a d d q x (at_once mode o place s ((listed place).open_frame ∷ after_properties place (node_in u)) d q (listed place).reads) w
                    (turns_comes mode doc (on_top ((listed place).open_frame ∷ after_properties place (node_in u))) (on_top []) d d x
                    (reads_none doc (listed place).open_frame (after_properties place (node_in u)) [] d x properties_ready.0
                    (λ f h tied. (listed place).ends w f h.known (here doc d) tied ∙ rw (among_code (close_bracket ∷ []) (kind_in y) f h.known, ne_eqb (kind_in y) (kind_code close_bracket) e)) g) []),
              ))

          pub properties_closed : kind_in y ≡ kind_code close_bracket → (y' y'' : List ℕ) → Passed doc y y' (depth_in y - 1) (graph_in y) → Aimed y' y'' 2 n 0 0 0 → Subject doc a (held work₂ rows₂ terms₂ store₂ y'') 0
          properties_closed e y' y'' p aim' =
              let R : (place : Place) → Reads doc ((listed place).open_frame ∷ []) [] d (held work₂ rows₂ terms₂ store₂ y') 0 =
              λ place. close_reads doc work₂ rows₂ terms₂ store₂ y y' properties_ready.0 e p (listed place).open_frame [] (λ t tied. ends_23 place t tied) in
              settled doc a work₂ rows₂ terms₂ store₂ y' y'' 2 n aim' ((R (subject_before full_stop)).ready refl) (λ place. after_properties place (node_in u)) (λ place. rw en)
              (λ mode o place s.
              subst (λ (x : List Frame). Turns mode doc o (statement x) a (held work₂ rows₂ terms₂ store₂ y') 0) (properties_nil place s.outer (node_in u))
              (turns_then mode doc o (statement ((listed place).open_frame ∷ (after_properties place (node_in u) ++ []))) (statement (after_properties place (node_in u) ++ [])) a d (held work₂ rows₂ terms₂ store₂ y') q 0
              (at_once mode o place s ((listed place).open_frame ∷ after_properties place (node_in u)) d q (listed place).reads) w
              (turns_comes mode doc (on_top ((listed place).open_frame ∷ [])) (on_top []) d (held work₂ rows₂ terms₂ store₂ y') 0 (R place) (after_properties place (node_in u) ++ []))))
              (rw en (N.gives.small z)) (rw en (N.positive z)) (omega arith) (omega (arith, later_b, P.steady.later w, p.later))
            where
              ends_23 : (place : Place) (t : Token) (tied : Bool) → find_rule close_bracket (frame_rules t tied (listed place).open_frame) ≡ some (return [])
              ends_23 place t tied =
                  subst (λ (x : ℕ). (x ≡ 0 → ⊥) → x ≤ last_kind → (t : Token) (tied : Bool) → find_rule (kind_of_code x) (frame_rules t tied (listed place).open_frame) ≡ find_rule (kind_of_code x) (end_rules t tied bracket_end)) e ((listed place).ends w) (λ y. omega arith) (omega arith) t tied

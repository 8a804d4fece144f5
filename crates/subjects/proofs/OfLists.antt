-- A list as subject.
use mathlib.Core.Path.{◌≡◌, refl, sym, ap, ◌∙◌, subst}
use mathlib.Core.List.{List, [], ◌∷◌, ◌++◌}
use Prim.Native.Nat.{ℕ, ◌+◌, ◌<◌}
use native.Mathlib.Omega.{arith}
use borrow.Author.Tests.{ne_eqb}
use lib.ListN.{get_or}
use denote.Ref.{MutBor}
use Rattle.text.specs.Text.{Text}
use Rattle.token.specs.Kind.{kind_code, end_kind, open_paren, close_paren}
use Rattle.grammar.specs.Productions.{Mode}
use Rattle.machine.specs.Memory.{Memory, return, ◌>>=◌}
use Rattle.machine.specs.Frame.{Place, top, subject_before, object_of, element_of, full_stop, no_cell, Frame, list, Open, statement}
use Rattle.machine.specs.Rules.{after_node, list_place}
use Rattle.state.specs.Words.{terms_word, kind_word, at_word, depth_word, x_word, y_word, kind_in, at_in, depth_in, node_in}
use Rattle.state.specs.Cursor.{TokenHere}
use Rattle.state.specs.Writes.{opened_at}
use Rattle.simulation.specs.Simulation.{held, here, Ready, Reads, on_top, Turns, Does}
use Rattle.state.specs.declared.Held.{Held}
use Rattle.simulation.proofs.Steps.{tied_here}
use Rattle.simulation.proofs.Frames.{ready_does}
use Rattle.simulation.proofs.Turning.{turns_comes, turns_then, turns_stop, turns_does}
use Rattle.nodes.specs.Nodes.{Aimed, Spotted, spot_of, Belongs}
use Rattle.nodes.proofs.Slots.{begin_plain}
use Rattle.nesting.specs.Nesting.{Lists, list_node}
use Rattle.nesting.proofs.Skipping.{token_there}
use Rattle.simulation.proofs.Numbers.{next_small}
use Rattle.nesting.proofs.Aiming.{ready_aimed, spotted, place_small}
use Rattle.subjects.specs.Subjects.{SubjectAt, Outer, Subject}
use Rattle.subjects.proofs.Rules.{subject_aimed, node_nil, list_outer, deeper_list}
use Rattle.subjects.proofs.OfTerms.{turns_aimed, settled}
use Rattle.table.specs.Layout.{word_limit}

-- A list's place is a subject's.
list_belongs : (place : Place) → Outer place → (x y : ℕ) → x ≡ 0 → Belongs (list_place place) x y
list_belongs top o x y e = e
list_belongs (subject_before s) o x y e = e
list_belongs (object_of s p) o x y e = absurd o
list_belongs (element_of c) o x y e = absurd o

module _ (doc : Text) (work₀ rows₀ terms₀ store₀ : MutBor (List ℕ)) (st st' : List ℕ) (ready : Ready doc (held work₀ rows₀ terms₀ store₀ st)) (k : kind_in st ≡ kind_code open_paren) (aim : Aimed st st' 0 0 0 0 0) where
  abbrev a : Held
  a = held work₀ rows₀ terms₀ store₀ st

  abbrev a1 : Held
  a1 = held work₀ rows₀ terms₀ store₀ st'

  kind_1 : kind_in st' ≡ kind_code open_paren
  kind_1 = aim.before kind_word (omega arith) ∙ k

  ready_1 : Ready doc a1
  ready_1 = ready_aimed doc work₀ rows₀ terms₀ store₀ st st' aim.before aim.words ready

  token_1 : TokenHere doc st'
  token_1 = token_there doc st' (kind_code open_paren) ready_1.cursor kind_1 (λ h. omega arith) (λ h. omega arith)

  some_kind : kind_in st' ≡ end_kind → ⊥
  some_kind h = omega (arith, kind_1)

  pub list_asked : (Ready doc a1 × Spotted a1) × (kind_in st' ≡ kind_code open_paren)
  list_asked = ((ready_1, spotted work₀ rows₀ terms₀ store₀ st st' 0 0 0 0 0 aim (omega arith) (omega arith) (omega arith) (omega arith)), kind_1)

  module _ (work rows terms store : MutBor (List ℕ)) (u : List ℕ) (r : ℕ) (D : Does doc (opened_at (spot_of a1)) a1 (held work rows terms store u) r) where
    abbrev b : Held
    b = held work rows terms store u

    nothing_written : (m : Memory) → opened_at (spot_of a1) m ≡ (0, m)
    unfolding opened_at
    nothing_written m = rw (begin_plain a1 0 (get_or st' y_word 0) aim.x_is refl aim.list_is m)

    to_list : (mode : Mode) (o : Open) (place : Place) → SubjectAt mode doc a o place → Turns mode doc o (statement (list (list_place place) (at_in st) no_cell ∷ [])) a b r
    to_list mode o place s =
        let s1 = subject_aimed mode doc work₀ rows₀ terms₀ store₀ st st' aim.before o place s in
        turns_then mode doc o o (statement (list (list_place place) (at_in st) no_cell ∷ [])) a a1 b 0 r (turns_aimed mode doc work₀ rows₀ terms₀ store₀ st st' aim.before aim.words o ready) refl
        (turns_does mode doc (opened_at (spot_of a1)) o (statement (list (list_place place) (at_in st) no_cell ∷ [])) a1 b r ready_1 token_1 some_kind D s1.waits
        (return (list (list_place place) (here doc a1).start no_cell ∷ []) >>= λ fs. return (statement (fs ++ [])))
        (s1.rules_are (here doc a1).kind (tied_here doc a1 token_1 some_kind) (rw kind_1) ∙ rw kind_1)
        (λ old m x. (
          ap (λ (y : ℕ × Memory). y.1) (sym (nothing_written m)),
          λ y. ap (λ (n : ℕ). statement (list (list_place place) n no_cell ∷ [])) (aim.before at_word (omega arith)),
        )))

    refused : (c : Held) (q : ℕ) → (q ≡ 0 → ⊥) → ((mode : Mode) (o : Open) (place : Place) → SubjectAt mode doc a o place → (p : Open) × Turns mode doc o p a c q) → Subject doc a c q
    refused c q z t =
        record {
          turns = λ mode o place s. let (p, x) = t mode o place s in turns_stop mode doc o p _ a c q x z;
          small = λ y. absurd (z y);
          positive = λ y. absurd (z y);
          shape = λ y. absurd (z y);
          later = λ y. absurd (z y);
        }

    pub list_refused : (r ≡ 0 → ⊥) → Subject doc a b r
    list_refused z = refused b r z (λ mode o place s. (statement (list (list_place place) (at_in st) no_cell ∷ []), to_list mode o place s))

    module _ (z : r ≡ 0) where
      pub list_opened : Ready doc b
      list_opened = ready_does doc (opened_at (spot_of a1)) a1 b r ready_1 token_1 some_kind D z

      depth_b : depth_in u ≡ depth_in st' + 1
      depth_b = (D.done z).depth ∙ deeper_list doc a1 kind_1

      module _ (u' : List ℕ) (at : ℕ) (eat : at ≡ at_in st) (aim' : Aimed u u' 0 0 0 at 0) where
        abbrev b1 : Held
        b1 = held work rows terms store u'

        ready_b1 : Ready doc b1
        ready_b1 = ready_aimed doc work rows terms store u u' aim'.before aim'.words list_opened

        pub list_entered : (Ready doc b1 × Spotted b1) × (0 < depth_in u')
        list_entered = ((ready_b1, spotted work rows terms store u u' 0 0 0 at 0 aim' (omega arith) (omega arith) (omega (arith, place_small doc a ready)) (omega arith)), omega (arith, depth_b, aim'.before depth_word (omega arith)))

        pub list_first : get_or u' terms_word 0 + 1 < word_limit
        list_first = next_small doc b1 ready_b1

        module _ (work₂ rows₂ terms₂ store₂ : MutBor (List ℕ)) (y : List ℕ) (q : ℕ) (L : Lists doc b1 (held work₂ rows₂ terms₂ store₂ y) q) where
          abbrev d : Held
          d = held work₂ rows₂ terms₂ store₂ y

          to_elements : (mode : Mode) (o : Open) (place : Place) → SubjectAt mode doc a o place → Turns mode doc o (statement (after_node (list_place place) (list_node b1 d))) a d q
          to_elements mode o place s =
              let R = L.reads (list_place place) (list_belongs place s.outer (get_or u' x_word 0) (get_or u' y_word 0) aim'.x_is) in
              let R' : Reads doc (list (list_place place) (at_in st) no_cell ∷ []) (after_node (list_place place) (list_node b1 d)) b1 d q =
              subst (λ (n : ℕ). Reads doc (list (list_place place) n no_cell ∷ []) (after_node (list_place place) (list_node b1 d)) b1 d q) (aim'.opened_is ∙ eat) R in
              let f = statement (list (list_place place) (at_in st) no_cell ∷ []) in
              subst (λ (x : List Frame). Turns mode doc o (statement x) a d q) (node_nil (list_place place) (list_outer place s.outer) (list_node b1 d))
              (turns_then mode doc o f (statement (after_node (list_place place) (list_node b1 d) ++ [])) a b d r q (to_list mode o place s) z
              (turns_then mode doc f f (statement (after_node (list_place place) (list_node b1 d) ++ [])) b b1 d 0 q (turns_aimed mode doc work rows terms store u u' aim'.before aim'.words f list_opened) refl
              (turns_comes mode doc (on_top (list (list_place place) (at_in st) no_cell ∷ [])) (on_top (after_node (list_place place) (list_node b1 d))) b1 d q R' [])))

          pub elements_refused : (q ≡ 0 → ⊥) → Subject doc a d q
          elements_refused w = refused d q w (λ mode o place s. (_, to_elements mode o place s))

          module _ (w : q ≡ 0) where
            pub elements_done : Ready doc d
            elements_done = (L.reads (subject_before full_stop) aim'.x_is).ready w

            later_d : at_in st < at_in y
            later_d = omega (arith, (D.done z).later, aim.before at_word (omega arith), aim'.before at_word (omega arith), (L.reads (subject_before full_stop) aim'.x_is).later w)

            ends_with : (n : ℕ) → n ≡ list_node b1 d → (y' : List ℕ) → Aimed y y' 1 n 0 0 0 → Subject doc a (held work₂ rows₂ terms₂ store₂ y') 0
            ends_with n en y' aim'' =
                settled doc a work₂ rows₂ terms₂ store₂ y y' 1 n aim'' elements_done (λ place. after_node (list_place place) (list_node b1 d)) (λ place. rw en)
                (λ mode o place s. subst (λ (x : ℕ). Turns mode doc o (statement (after_node (list_place place) (list_node b1 d))) a d x) w (to_elements mode o place s))
                (rw en (L.small w)) (rw en (L.some_node w)) (omega arith) later_d

            pub list_was_empty : (n : ℕ) → n ≡ node_in y → kind_in u' ≡ kind_code close_paren → (y' : List ℕ) → Aimed y y' 1 n 0 0 0 → Subject doc a (held work₂ rows₂ terms₂ store₂ y') 0
            list_was_empty n en e y' aim'' = ends_with n (en ∙ rw e) y' aim''

            pub list_had_first : (n : ℕ) → n ≡ get_or u' terms_word 0 + 1 → (kind_in u' ≡ kind_code close_paren → ⊥) → (y' : List ℕ) → Aimed y y' 1 n 0 0 0 → Subject doc a (held work₂ rows₂ terms₂ store₂ y') 0
            list_had_first n en e y' aim'' = ends_with n (rw (ne_eqb (kind_in u') (kind_code close_paren) e) (omega arith)) y' aim''

-- A node where one is awaited: a term, a string, a bracket or a list; and what is resumed behind it.
use mathlib.Core.Path.{◌≡◌, refl, sym, ap, ◌∙◌, subst}
use mathlib.Core.List.{List, [], ◌∷◌, ◌++◌}
use mathlib.Core.Bool.{Bool, true, false, ◌||◌}
use mathlib.Core.Option.{none}
use Prim.Native.Nat.{ℕ, zero, suc, ◌+◌, ◌-◌, ◌≤◌, ◌<◌}
use native.Mathlib.Omega.{arith}
use borrow.Author.Tests.{ne_eqb, eqb-true, eqb-false}
use lib.Dec.{eqb}
use lib.ListN.{length, get_or}
use denote.Ref.{MutBor}
use Rattle.text.specs.Text.{Text, cond}
use Rattle.text.proofs.Compare.{by, contrary}
use Rattle.token.specs.Kind.{kind_code, end_kind, unreadable_kind, kind_of_code, among, strings, kw_a, open_bracket, open_paren, IRIREF, PNAME_NS, PNAME_LN, BLANK_NODE_LABEL, INTEGER, DECIMAL, DOUBLE, STRING_LITERAL_QUOTE, STRING_LITERAL_SINGLE_QUOTE, kw_true, kw_false, STRING_LITERAL_LONG_QUOTE, STRING_LITERAL_LONG_SINGLE_QUOTE}
use Rattle.token.specs.Tokens.{Token}
use Rattle.dataset.specs.Terms.{blank, bracket as bracket_node}
use Rattle.machine.specs.Memory.{Memory, new_term}
use Rattle.machine.specs.Frame.{Place, no_cell, Frame, bracket, list}
use Rattle.machine.specs.Rules.{find_rule, object_rules, frame_rules, after_node}
use Rattle.machine.specs.Refusals.{new_depth}
use Rattle.state.specs.Words.{terms_word, kind_word, at_word, depth_word, list_word, x_word, y_word, graph_word, last_word, len_word, level_word, opened_word, kind_in, at_in, depth_in, node_in, list_in}
use Rattle.state.specs.Cursor.{TokenHere}
use Rattle.state.specs.Represents.{Tables}
use Rattle.state.specs.Writes.{place_of, placed, opened_at}
use Rattle.simulation.specs.Simulation.{code_among, held, tables_of, here, Holding, Ready, Reads, on_top, Does, refusal_here}
use Rattle.state.specs.declared.Held.{Held}
use Rattle.simulation.proofs.Compose.{comes_then, comes_stop, comes_within}
use Rattle.simulation.proofs.Tests.{among_code}
use Rattle.simulation.proofs.Frames.{reads_none, ready_does}
use Rattle.simulation.proofs.Steps.{here_some}
use Rattle.nodes.specs.Nodes.{Slot, slot_place, spot_of, object_kinds, term_kinds, Fills, Steady, Settled, Spotted, Belongs, InList, Numbers, PutsTerm}
use Rattle.nodes.proofs.Slots.{term_fills, term_rule, bracket_opens, paren_opens, slot_plain, slot_list}
use Rattle.nodes.proofs.Predicates.{term_depth}
use Rattle.nodes.proofs.Moving.{token_words}
use Rattle.nodes.proofs.Passing.{represents_words}
use Rattle.nesting.specs.Nesting.{Leaf, Awaited, Entered, Marked, Levels, SomeLevels, Deep, Resumes, Values, Contents, Elements}
use Rattle.nesting.proofs.Levels.{levels_at, mark_depth, mark_before, mark_spot, mark_none}
use Rattle.nesting.proofs.Skipping.{token_there}
use Rattle.simulation.proofs.Numbers.{next_small}
use Rattle.nesting.proofs.Aiming.{comes_aimed, ready_aimed, place_small}
use Rattle.table.specs.Layout.{word_limit}

-- The kind of a term is a token's.
term_token : (k : ℕ) → code_among term_kinds k ≡ true → (k ≡ end_kind → ⊥) × (k ≡ unreadable_kind → ⊥)
term_token k v = ((λ e. contrary (sym (rw e at v))), (λ e. contrary (sym (rw e at v))))

term_call : (k : ℕ) → code_among term_kinds k ≡ true → code_among (kw_a ∷ term_kinds) k ≡ true
term_call k v = rw v (or_true (eqb k (kind_code kw_a)))
  where
    or_true : (b : Bool) → (b || true) ≡ true
    or_true true = refl
    or_true false = refl

-- A term or a string, where it is no string.
first_true : (x y : Bool) → (x || y) ≡ true → y ≡ false → x ≡ true
first_true true y e f = refl
first_true false y e f = contrary (sym e ∙ f)

pub leaf_call : (k : ℕ) (c : Bool) → c ≡ (code_among term_kinds k || code_among strings k) → c ≡ true → code_among strings k ≡ false → code_among (kw_a ∷ term_kinds) k ≡ true
leaf_call k c e t f = term_call k (first_true (code_among term_kinds k) (code_among strings k) (sym e ∙ t) f)

-- What the levels save is read behind a node of its own tokens alone.
module _ (doc : Text) (a b : Held) (r : ℕ) (N : Fills doc a b r × Settled a b r) where
  pub leaf_stop : (r ≡ 0 → ⊥) → Values doc a b r
  leaf_stop z =
      record {
        goes_on = λ f g s fs l.
            record {
              reads = comes_stop doc (on_top (f ∷ fs)) (on_top (g ∷ fs)) (on_top []) a b r (comes_within doc (λ k. fs ++ k) (on_top (f ∷ [])) (on_top (g ∷ [])) a b r (N.0 f g s)) z;
              depth = λ y. absurd (z y);
            };
        alone = λ l f g s. (N.0 f g s, N.1.steady);
      }

  module _ (z : r ≡ 0) where
    settled : (fs : List Frame) → Levels a.st (depth_in a.st) fs → Levels b.st (depth_in b.st) fs
    settled fs l = levels_at a.st b.st (depth_in a.st) (depth_in b.st) (N.1.steady.depth z) (λ k h. N.1.spot z k (omega arith)) fs l

    pub leaf_done : Awaited doc a → SomeLevels a.st (depth_in a.st) → Ready doc b × SomeLevels b.st (depth_in b.st)
    leaf_done (f, (g, s)) (fs, l) = ((N.0 f g s).ready z, (fs, settled fs l))

    pub leaf_resumes : (d : Held) (q : ℕ) → Resumes doc b d q → Values doc a d q
    leaf_resumes d q R =
        record {
          goes_on = λ f g s fs l.
              let w = R (g ∷ fs) (settled (g ∷ fs) l) in
              record {
                reads = comes_then doc (on_top (f ∷ fs)) (on_top (g ∷ fs)) (on_top []) a b d r q (comes_within doc (λ k. fs ++ k) (on_top (f ∷ [])) (on_top (g ∷ [])) a b r (N.0 f g s)) z w.reads;
                depth = λ y. w.depth y ∙ N.1.steady.depth z;
              };
          alone = λ l f g s.
              let w = R [] (settled [] l) in (
                comes_then doc (on_top (f ∷ [])) (on_top (g ∷ [])) (on_top (g ∷ [])) a b d r q (N.0 f g s) z (comes_within doc (λ k. g ∷ k) (on_top []) (on_top []) b d q w.reads),
                record { depth = λ y. omega (arith, w.depth y, N.1.steady.depth z); later = λ y. omega (arith, N.1.steady.later z, w.reads.later y) },
              );
        }

module _ (doc : Text) (a : Held) (ready : Ready doc a) where
  term_settled : (b : Held) (r : ℕ) → code_among term_kinds (kind_in a.st) ≡ true → PutsTerm doc a b r → Fills doc a b r × Settled a b r
  term_settled b r v P =
      let (z, y) = term_token (kind_in a.st) v in
      let t = ready.cursor.token z y in
      let h : among term_kinds (here doc a).kind ≡ true = among_code term_kinds (kind_in a.st) z t.known ∙ v in
      let h' : among (kw_a ∷ term_kinds) (here doc a).kind ≡ true = among_code (kw_a ∷ term_kinds) (kind_in a.st) z t.known ∙ term_call (kind_in a.st) v in
      let (w, q) = term_rule (here doc a) (here doc a).kind h' in
      let D = (P w q).gives.does in (
        term_fills doc a b r ready t z P h,
        record { steady = record { depth = λ e. (D.done e).depth ∙ term_depth (here doc a) (depth_in a.st) h'; later = λ e. (D.done e).later }; spot = λ e. (D.done e).spot },
      )

  pub leaf_settled : (b : Held) (r : ℕ) (c : Bool) → c ≡ (code_among term_kinds (kind_in a.st) || code_among strings (kind_in a.st)) → c ≡ true → Leaf doc a b r → Fills doc a b r × Settled a b r
  leaf_settled b r c e t L =
      by (code_among strings (kind_in a.st)) (λ p. L.fills p) (λ p. term_settled b r (first_true (code_among term_kinds (kind_in a.st)) (code_among strings (kind_in a.st)) (sym e ∙ t) p) L.puts)

  -- Nothing that may stand there.
  pub value_none : (r : ℕ) (c : Bool) → c ≡ (code_among term_kinds (kind_in a.st) || code_among strings (kind_in a.st)) → c ≡ false → (kind_in a.st ≡ kind_code open_bracket → ⊥) → (kind_in a.st ≡ kind_code open_paren → ⊥) → r ≡ refusal_here doc a.st
      → Values doc a a r
  value_none r c ec f x y e =
      leaf_stop doc a a r (
        (λ f g s. reads_none doc f [] (g ∷ []) a r ready (λ z h tied. s.others z h tied (no_object z h)) e),
        record { steady = record { depth = λ z. refl; later = λ z. absurd (here_some doc a.st (sym e ∙ z)) }; spot = λ z k h. refl },
      )
      (λ z. here_some doc a.st (sym e ∙ z))
    where
      neither : (x y : Bool) → (x || y) ≡ false → (x ≡ false) × (y ≡ false)
      neither true y e = contrary e
      neither false y e = (refl, e)

      v : code_among term_kinds (kind_in a.st) ≡ false
      v = (neither (code_among term_kinds (kind_in a.st)) (code_among strings (kind_in a.st)) (sym ec ∙ f)).0

      w : code_among strings (kind_in a.st) ≡ false
      w = (neither (code_among term_kinds (kind_in a.st)) (code_among strings (kind_in a.st)) (sym ec ∙ f)).1

      parts : (k : ℕ) → code_among term_kinds k ≡ false → code_among strings k ≡ false → (k ≡ kind_code open_bracket → ⊥) → (k ≡ kind_code open_paren → ⊥) → code_among object_kinds k ≡ false
      parts k p q x y = nine (eqb k (kind_code IRIREF)) (eqb k (kind_code PNAME_NS)) (eqb k (kind_code PNAME_LN)) (eqb k (kind_code BLANK_NODE_LABEL)) (eqb k (kind_code INTEGER)) (eqb k (kind_code DECIMAL)) (eqb k (kind_code DOUBLE)) (eqb k (kind_code kw_true)) (eqb k (kind_code kw_false)) _ p (four (eqb k (kind_code STRING_LITERAL_QUOTE)) (eqb k (kind_code STRING_LITERAL_SINGLE_QUOTE)) (eqb k (kind_code STRING_LITERAL_LONG_QUOTE)) (eqb k (kind_code STRING_LITERAL_LONG_SINGLE_QUOTE)) _ q (rw (ne_eqb k (kind_code open_bracket) x, ne_eqb k (kind_code open_paren) y)))
        where
          four : (b1 b2 b3 b4 c : Bool) → (b1 || (b2 || (b3 || (b4 || false)))) ≡ false → c ≡ false → (b1 || (b2 || (b3 || (b4 || c)))) ≡ false
          four true b2 b3 b4 c e f = contrary e
          four false true b3 b4 c e f = contrary e
          four false false true b4 c e f = contrary e
          four false false false true c e f = contrary e
          four false false false false c e f = f

          nine : (b1 b2 b3 b4 b5 b6 b7 b8 b9 c : Bool) → (b1 || (b2 || (b3 || (b4 || (b5 || (b6 || (b7 || (b8 || (b9 || false))))))))) ≡ false → c ≡ false → (b1 || (b2 || (b3 || (b4 || (b5 || (b6 || (b7 || (b8 || (b9 || c))))))))) ≡ false
          nine true b2 b3 b4 b5 b6 b7 b8 b9 c e f = contrary e
          nine false true b3 b4 b5 b6 b7 b8 b9 c e f = contrary e
          nine false false true b4 b5 b6 b7 b8 b9 c e f = contrary e
          nine false false false true b5 b6 b7 b8 b9 c e f = contrary e
          nine false false false false true b6 b7 b8 b9 c e f = contrary e
          nine false false false false false true b7 b8 b9 c e f = contrary e
          nine false false false false false false true b8 b9 c e f = contrary e
          nine false false false false false false false true b9 c e f = contrary e
          nine false false false false false false false false true c e f = contrary e
          nine false false false false false false false false false c e f = f

      no_object : (kind_in a.st ≡ end_kind → ⊥) → TokenHere doc a.st → among object_kinds (here doc a).kind ≡ false
      no_object z h = among_code object_kinds (kind_in a.st) z h.known ∙ parts (kind_in a.st) v w x y

  -- A bracket opens one level more.
  deeper : (k : ℕ) → kind_in a.st ≡ k → among (open_bracket ∷ open_paren ∷ []) (kind_of_code k) ≡ true → new_depth (depth_in a.st) (here doc a) ≡ depth_in a.st + 1
  unfolding new_depth
  deeper k e o = rw (e, o)

  -- ---- A bracket

  module _ (k : kind_in a.st ≡ kind_code open_bracket) (b : Held) (r : ℕ) (N : Numbers doc (placed (spot_of a) (new_term (blank (bracket_node (at_in a.st))))) a b r) where
    to_bracket : (f g : Frame) → Slot doc a f g → Reads doc (f ∷ []) (bracket (slot_place a) (node_in b.st) ∷ g ∷ []) a b r
    to_bracket f g s = bracket_opens doc a b r ready (token_there doc a.st 22 ready.cursor k (λ h. omega arith) (λ h. omega arith)) (λ h. omega arith) k N.gives f g s

    within : (f g : Frame) → Slot doc a f g → (fs : List Frame) → Reads doc (f ∷ fs) (bracket (slot_place a) (node_in b.st) ∷ g ∷ fs) a b r
    within f g s fs = comes_within doc (λ x. fs ++ x) (on_top (f ∷ [])) (on_top (bracket (slot_place a) (node_in b.st) ∷ g ∷ [])) a b r (to_bracket f g s)

    pub bracket_stop : (r ≡ 0 → ⊥) → Values doc a b r
    bracket_stop z =
        record {
          goes_on = λ f g s fs l.
              record {
                reads = comes_stop doc (on_top (f ∷ fs)) (on_top (bracket (slot_place a) (node_in b.st) ∷ g ∷ fs)) (on_top []) a b r (within f g s fs) z;
                depth = λ y. absurd (z y);
              };
          alone = λ l f g s. (
            comes_stop doc (on_top (f ∷ [])) (on_top (bracket (slot_place a) (node_in b.st) ∷ g ∷ [])) (on_top (g ∷ [])) a b r (to_bracket f g s) z,
            record { depth = λ y. absurd (z y); later = λ y. absurd (z y) },
          );
        }

    pub bracket_depth : r ≡ 0 → depth_in b.st ≡ depth_in a.st + 1
    bracket_depth z = (N.gives.does.done z).depth ∙ deeper 22 k refl

    pub bracket_later : r ≡ 0 → at_in a.st < at_in b.st
    bracket_later z = (N.gives.does.done z).later

    saved : (z : r ≡ 0) (fs : List Frame) → Levels a.st (depth_in a.st) fs → Levels b.st (depth_in b.st - 1) fs
    saved z fs l = levels_at a.st b.st (depth_in a.st) (depth_in b.st - 1) (omega (arith, bracket_depth z)) (λ i h. (N.gives.does.done z).spot i (omega arith)) fs l

    pub bracket_call : r ≡ 0 → SomeLevels a.st (depth_in a.st) → (Ready doc b × (node_in b.st < word_limit)) × ((0 < node_in b.st) × Deep b.st)
    bracket_call z (fs, l) = ((bracket_ready z, N.gives.small z), (N.positive z, (omega (arith, bracket_depth z), (fs, saved z fs l))))
      where
        bracket_ready : r ≡ 0 → Ready doc b
        bracket_ready z = ready_does doc (placed (spot_of a) (new_term (blank (bracket_node (at_in a.st))))) a b r ready (token_there doc a.st 22 ready.cursor k (λ h. omega arith) (λ h. omega arith)) (λ h. omega arith) N.gives.does z

    pub bracket_contents : r ≡ 0 → (d : Held) (q : ℕ) → Contents doc b d q → Values doc a d q
    bracket_contents z d q C =
        record {
          goes_on = λ f g s fs l.
              let w = C (slot_place a) s.no_node s.no_properties (g ∷ fs) (saved z (g ∷ fs) l) in
              record {
                reads = comes_then doc (on_top (f ∷ fs)) (on_top (bracket (slot_place a) (node_in b.st) ∷ g ∷ fs)) (on_top []) a b d r q (within f g s fs) z w.reads;
                depth = λ y. omega (arith, w.depth y, bracket_depth z);
              };
          alone = λ l f g s.
              let w = C (slot_place a) s.no_node s.no_properties [] (saved z [] l) in (
                comes_then doc (on_top (f ∷ [])) (on_top (bracket (slot_place a) (node_in b.st) ∷ g ∷ [])) (on_top (g ∷ [])) a b d r q (to_bracket f g s) z
                    (comes_within doc (λ x. g ∷ x) (on_top (bracket (slot_place a) (node_in b.st) ∷ [])) (on_top []) b d q w.reads),
                record { depth = λ y. omega (arith, w.depth y, bracket_depth z); later = λ y. omega (arith, bracket_later z, w.reads.later y) },
              );
        }

  -- ---- A list

  -- What the list belongs to, as its elements will see it.
  belongs_plain : (x y : ℕ) → ((n : ℕ) → after_node (place_of x y) n ≡ []) → Belongs (place_of x y) x y
  belongs_plain zero y h = not_cons (h 0)
    where
      not_cons : {f : Frame} {fs : List Frame} {A : Type 0} → f ∷ fs ≡ [] → A
      not_cons e = let z = ap length e in absurd (omega arith)
  belongs_plain (suc x) zero h = (refl, (refl, omega arith))
  belongs_plain (suc x) (suc y) h = (refl, (refl, (omega arith, omega arith)))

  module _ (k : kind_in a.st ≡ kind_code open_paren) (work rows terms store : MutBor (List ℕ)) (u : List ℕ) (r : ℕ) (D : Does doc (opened_at (spot_of a)) a (held work rows terms store u) r) where
    abbrev b : Held
    b = held work rows terms store u

    to_list : (f g : Frame) → Slot doc a f g → Reads doc (f ∷ []) (list (slot_place a) (at_in a.st) no_cell ∷ g ∷ []) a b r
    to_list f g s = paren_opens doc a b r ready (token_there doc a.st 24 ready.cursor k (λ h. omega arith) (λ h. omega arith)) (λ h. omega arith) k D f g s

    pub list_stop : (r ≡ 0 → ⊥) → Values doc a b r
    list_stop z =
        record {
          goes_on = λ f g s fs l.
              record {
                reads = comes_stop doc (on_top (f ∷ fs)) (on_top (list (slot_place a) (at_in a.st) no_cell ∷ g ∷ fs)) (on_top []) a b r (comes_within doc (λ x. fs ++ x) (on_top (f ∷ [])) (on_top (list (slot_place a) (at_in a.st) no_cell ∷ g ∷ [])) a b r (to_list f g s)) z;
                depth = λ y. absurd (z y);
              };
          alone = λ l f g s. (
            comes_stop doc (on_top (f ∷ [])) (on_top (list (slot_place a) (at_in a.st) no_cell ∷ g ∷ [])) (on_top (g ∷ [])) a b r (to_list f g s) z,
            record { depth = λ y. absurd (z y); later = λ y. absurd (z y) },
          );
        }

    pub list_open : r ≡ 0 → Ready doc b
    list_open z = ready_does doc (opened_at (spot_of a)) a b r ready (token_there doc a.st 24 ready.cursor k (λ h. omega arith) (λ h. omega arith)) (λ h. omega arith) D z

    module _ (z : r ≡ 0) (u' : List ℕ) (at cell : ℕ) (eat : at ≡ at_in a.st) (ecell : cell ≡ get_or a.st terms_word 0 + 1) (E : Entered u u' at cell) where
      abbrev b' : Held
      b' = held work rows terms store u'

      ready_b : Ready doc b
      ready_b = list_open z

      pub list_ready : Ready doc b'
      list_ready = ready_aimed doc work rows terms store u u' E.before E.words ready_b

      pub list_depth : depth_in u' ≡ depth_in a.st + 1
      list_depth = E.before depth_word (omega arith) ∙ ((D.done z).depth ∙ deeper 24 k refl)

      -- The words of the place.
      list_word_same : list_in u ≡ list_in a.st
      list_word_same = (D.done z).spot list_word (omega arith)

      x_there : get_or u' x_word 0 ≡ cond (eqb (list_in a.st) 0) (get_or a.st x_word 0) cell
      x_there = E.x_is ∙ rw (list_word_same, (D.done z).spot x_word (omega arith))

      y_there : get_or u' y_word 0 ≡ cond (eqb (list_in a.st) 0) (get_or a.st y_word 0) 0
      y_there = E.y_is ∙ rw (list_word_same, (D.done z).spot y_word (omega arith))

      list_spot : (i : ℕ) → level_word ≤ i → get_or u' i 0 ≡ get_or a.st i 0
      list_spot i h = E.behind i (omega arith) ∙ (D.done z).spot i (omega arith)

      below : (fs : List Frame) → Levels a.st (depth_in a.st) fs → Levels u' (depth_in u' - 1) fs
      below fs l = levels_at a.st u' (depth_in a.st) (depth_in u' - 1) (omega (arith, list_depth)) list_spot fs l

      pub list_later : at_in a.st < at_in u'
      list_later = omega (arith, (D.done z).later, E.before at_word (omega arith))

      pub list_call : Spotted a → SomeLevels a.st (depth_in a.st) → (Ready doc b' × Spotted b') × ((list_in u' ≡ 1) × Deep u')
      list_call s (fs, l) = (
        (
          list_ready,
          record {
            x = by (eqb (list_in a.st) 0) (λ e. rw (x_there, e) s.x) (λ e. rw (x_there, e) (omega (arith, next_small doc a ready)));
            y = by (eqb (list_in a.st) 0) (λ e. rw (y_there, e) s.y) (λ e. rw (y_there, e) (omega arith));
            opened = rw E.opened_is (omega (arith, place_small doc a ready));
            last = rw E.last_is (omega arith);
          },
        ),
        (E.list_is, (omega (arith, list_depth), (fs, below fs l))),
      )

      belongs_slot : (f g : Frame) → Slot doc a f g → Belongs (slot_place a) (get_or u' x_word 0) (get_or u' y_word 0)
      belongs_slot f g s =
          by (eqb (list_in a.st) 0)
          (λ e.
          let there : slot_place a ≡ place_of (get_or a.st x_word 0) (get_or a.st y_word 0) = slot_plain a (get_or a.st x_word 0) (get_or a.st y_word 0) refl refl (eqb-true (list_in a.st) 0 e) in
          rw (x_there, y_there, e, there) (belongs_plain (get_or a.st x_word 0) (get_or a.st y_word 0) (λ n. subst (λ (p : Place). after_node p n ≡ []) there (s.no_node n))))
          (λ e. rw (x_there, y_there, e, slot_list a (eqb-false (list_in a.st) 0 e)) (omega arith, (refl, omega arith)))

      -- The list as its first element sees it.
      opened_list : (f g : Frame) → Slot doc a f g → InList b' (slot_place a) (at_in a.st) no_cell
      opened_list f g s = (belongs_slot f g s, (sym (E.opened_is ∙ eat), E.last_is))

      to_entered : (f g : Frame) → Slot doc a f g → (fs : List Frame) → Reads doc (f ∷ fs) (list (slot_place a) (at_in a.st) no_cell ∷ g ∷ fs) a b' 0
      to_entered f g s fs =
          comes_then doc (on_top (f ∷ fs)) (on_top (list (slot_place a) (at_in a.st) no_cell ∷ g ∷ fs)) (on_top (list (slot_place a) (at_in a.st) no_cell ∷ g ∷ fs)) a b b' r 0
          (comes_within doc (λ x. fs ++ x) (on_top (f ∷ [])) (on_top (list (slot_place a) (at_in a.st) no_cell ∷ g ∷ [])) a b r (to_list f g s)) z
          (comes_aimed doc work rows terms store u u' E.before E.words (on_top (list (slot_place a) (at_in a.st) no_cell ∷ g ∷ fs)) ready_b)

      pub list_elements : (d : Held) (q : ℕ) → Elements doc b' d q → Values doc a d q
      list_elements d q L =
          record {
            goes_on = λ f g s fs l.
                let w = L (slot_place a) s.no_node (at_in a.st) no_cell (opened_list f g s) (g ∷ fs) (below (g ∷ fs) l) in
                record {
                  reads = comes_then doc (on_top (f ∷ fs)) (on_top (list (slot_place a) (at_in a.st) no_cell ∷ g ∷ fs)) (on_top []) a b' d 0 q (to_entered f g s fs) refl w.reads;
                  depth = λ y. omega (arith, w.depth y, list_depth);
                };
            alone = λ l f g s.
                let w = L (slot_place a) s.no_node (at_in a.st) no_cell (opened_list f g s) [] (below [] l) in (
                  comes_then doc (on_top (f ∷ [])) (on_top (list (slot_place a) (at_in a.st) no_cell ∷ g ∷ [])) (on_top (g ∷ [])) a b' d 0 q (to_entered f g s []) refl
                      (comes_within doc (λ x. g ∷ x) (on_top (list (slot_place a) (at_in a.st) no_cell ∷ [])) (on_top []) b' d q w.reads),
                  record { depth = λ y. omega (arith, w.depth y, list_depth); later = λ y. omega (arith, list_later, w.reads.later y) },
                );
          }

-- A level of zeros was put before.
module _ (doc : Text) (work rows terms store : MutBor (List ℕ)) (st st' : List ℕ) (ready : Ready doc (held work rows terms store st)) (M : Marked st st' 0 0) where
  abbrev a₀ : Held
  a₀ = held work rows terms store st

  abbrev a₁ : Held
  a₁ = held work rows terms store st'

  -- What awaits a node does so still.
  slot_marked : (f g : Frame) → Slot doc a₀ f g → Slot doc a₁ f g
  unfolding slot_place
  slot_marked f g s =
      record {
        opening = s.opening;
        rules = λ k tied h. subst (λ (t : Token). find_rule k (frame_rules t tied f) ≡ find_rule k (object_rules t tied s.opening)) (sym here_same) (s.rules k tied h);
        others = λ z y tied h.
            subst (λ (t : Token). among object_kinds t.kind ≡ false → find_rule t.kind (frame_rules t tied f) ≡ none) (sym here_same)
            (s.others (λ e. z (same kind_word (omega arith) ∙ e)) (token_words doc st' st (λ k x w. sym (same k (omega arith))) y) tied) h;
        opens = λ old m h. rw (place_same, spot_same) (s.opens old m (holding old m h));
        begins = λ old m h. rw (place_same, spot_same) (s.begins old m (holding old m h));
        no_node = λ n. rw place_same (s.no_node n);
        no_properties = λ n. rw place_same (s.no_properties n);
      }
    where
      same : (k : ℕ) → k < level_word → get_or st' k 0 ≡ get_or st k 0
      same = mark_spot st st' 0 0 M

      here_same : here doc a₁ ≡ here doc a₀
      here_same = rw (same kind_word (omega arith), same at_word (omega arith), same len_word (omega arith))

      place_same : slot_place a₁ ≡ slot_place a₀
      place_same = rw (same terms_word (omega arith), same list_word (omega arith), same x_word (omega arith), same y_word (omega arith))

      spot_same : spot_of a₁ ≡ spot_of a₀
      spot_same = rw (same at_word (omega arith), same list_word (omega arith), same x_word (omega arith), same y_word (omega arith), same opened_word (omega arith), same last_word (omega arith))

      holding : (old : Tables) (m : Memory) → Holding old m a₁ → Holding old m a₀
      holding old m h = represents_words old m work.now (tables_of a₁) st' st (λ k x. sym (same k (omega arith))) (sym (same graph_word (omega arith))) (sym M.words) h

  pub node_call : Spotted a₀ → Awaited doc a₀ → (Ready doc a₁ × Spotted a₁) × (Awaited doc a₁ × SomeLevels st' (depth_in st'))
  node_call s (f, (g, o)) = (
    (
      ready_aimed doc work rows terms store st st' (mark_before st st' 0 0 M) M.words ready,
      record { x = rw (mark_spot st st' 0 0 M x_word (omega arith)) s.x; y = rw (mark_spot st st' 0 0 M y_word (omega arith)) s.y; opened = rw (mark_spot st st' 0 0 M opened_word (omega arith)) s.opened; last = rw (mark_spot st st' 0 0 M last_word (omega arith)) s.last },
    ),
    ((f, (g, slot_marked f g o)), ([], mark_none st st' 0 0 M refl refl)),
  )

  pub node_alone : Awaited doc a₀ → (d : Held) (q : ℕ) → Values doc a₁ d q → Fills doc a₀ d q × Steady a₀ d q
  node_alone (f₀, (g₀, s₀)) d q W =
      let l = mark_none st st' 0 0 M refl refl in (
        (λ f g s. comes_then doc (on_top (f ∷ [])) (on_top (f ∷ [])) (on_top (g ∷ [])) a₀ a₁ d 0 q (comes_aimed doc work rows terms store st st' (mark_before st st' 0 0 M) M.words (on_top (f ∷ [])) ready) refl (W.alone l f g (slot_marked f g s)).0),
        (let w = (W.alone l f₀ g₀ (slot_marked f₀ g₀ s₀)).1 in record { depth = λ e. w.depth e ∙ mark_depth st st' 0 0 M; later = λ e. omega (arith, w.later e, M.below at_word (omega arith)) }),
      )

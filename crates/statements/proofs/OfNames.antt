-- The label behind GRAPH: a term or an empty bracket, and its graph.
use mathlib.Core.Path.{◌≡◌, refl, sym, ap, ◌∙◌, subst}
use mathlib.Core.List.{List, [], ◌∷◌}
use mathlib.Core.Bool.{Bool, true, false, ◌||◌}
use mathlib.Core.Option.{none, some}
use Prim.Native.Nat.{ℕ, ◌+◌, ◌-◌, ◌<◌}
use native.Mathlib.Omega.{arith}
use borrow.Author.Tests.{ne_eqb}
use lib.Dec.{T, eqb}
use lib.ListN.{length}
use denote.Ref.{MutBor}
use Rattle.environment.specs.Code.{words_size}
use Rattle.text.specs.Text.{Text}
use Rattle.text.proofs.Compare.{contrary}
use Rattle.text.proofs.Booleans.{imp, imp_use, all, is_true}
use Rattle.token.specs.Kind.{Kind, kind_code, end_kind, unreadable_kind, among, iris, BLANK_NODE_LABEL, INTEGER, DECIMAL, DOUBLE, kw_a, kw_true, kw_false, open_bracket, close_bracket, IRIREF, PNAME_NS, PNAME_LN, GRAPH}
use Rattle.token.specs.Tokens.{Token}
use Rattle.token.proofs.KindCodes.{each_kind, all_kinds}
use Rattle.grammar.specs.Productions.{trig}
use Rattle.dataset.specs.Terms.{blank, bracket as bracket_node, iri, rdf_type, xsd_integer, xsd_decimal, xsd_double, xsd_boolean}
use Rattle.machine.specs.Memory.{Memory, Write, return, ◌>>=◌, term, new_term, typed, iri_term}
use Rattle.machine.specs.Frame.{Frame, graph_label, closing_label, graph_body, Open, statement}
use Rattle.machine.specs.Rules.{Rule, ◌⇒◌, find_rule, label_term, bracket_term, frame_rules, rules}
use Rattle.machine.specs.Refusals.{new_depth}
use Rattle.state.specs.Words.{at_word, kind_in, at_in, depth_in, node_in, graph_in}
use Rattle.state.specs.Writes.{placed}
use Rattle.state.specs.Cursor.{Cursor, TokenHere}
use Rattle.simulation.specs.Simulation.{code_among, held, here, Ready, Reads, on_top, Turns, refusal_here}
use Rattle.state.specs.declared.Held.{Held}
use Rattle.simulation.proofs.Tests.{kinds_of, among_any, among_code, no_rule}
use Rattle.simulation.proofs.Frames.{reads_does, reads_none}
use Rattle.simulation.proofs.Turning.{turns_comes, turns_then, turns_stop}
use Rattle.simulation.proofs.Steps.{here_some}
use Rattle.nodes.specs.Nodes.{term_rules, term_kinds, spot_of, Spotted, Numbers, PutsTerm, Aimed, Passed}
use Rattle.nodes.proofs.Slots.{found_made, found_front, term_rule}
use Rattle.nodes.proofs.Predicates.{alone}
use Rattle.nesting.proofs.Aiming.{comes_aimed, spotted, leave_call}
use Rattle.nesting.proofs.OfBrackets.{close_reads}
use Rattle.subjects.specs.Subjects.{label_kinds}
use Rattle.statements.specs.Statements.{Graph, Statement}
use Rattle.statements.proofs.OfMarks.{graph_mark, mark_passes}
use Rattle.statements.proofs.OfGraphs.{body_at}
use Rattle.table.specs.Layout.{word_limit}

-- ---- Kinds

label_is_term : (k : Kind) → among label_kinds k ≡ true → among (kw_a ∷ term_kinds) k ≡ true
unfolding all
label_is_term k h = is_true (among (kw_a ∷ term_kinds) k) (imp_use (among label_kinds k) (among (kw_a ∷ term_kinds) k) (all_kinds (λ j. imp (among label_kinds j) (among (kw_a ∷ term_kinds) j)) tt k) (subst T (sym h) tt))

label_code : (k : ℕ) → code_among label_kinds k ≡ true → code_among (kw_a ∷ term_kinds) k ≡ true
label_code k h = go (eqb k (kind_code kw_a)) (eqb k (kind_code IRIREF)) (eqb k (kind_code PNAME_NS)) (eqb k (kind_code PNAME_LN)) (eqb k (kind_code BLANK_NODE_LABEL)) _ h
  where
    or_true : (b : Bool) → (b || true) ≡ true
    or_true true = refl
    or_true false = refl

    go : (c b1 b2 b3 b4 s : Bool) → (b1 || (b2 || (b3 || (b4 || false)))) ≡ true → (c || (b1 || (b2 || (b3 || (b4 || s))))) ≡ true
    go c true b2 b3 b4 s e = or_true c
    go c false true b3 b4 s e = or_true c
    go c false false true b4 s e = or_true c
    go c false false false true s e = or_true c
    go c false false false false s e = contrary (sym e)

not_label : (k j : ℕ) → code_among label_kinds k ≡ true → code_among label_kinds j ≡ false → k ≡ j → ⊥
not_label k j h f e = contrary (sym h ∙ (ap (λ (x : ℕ). code_among label_kinds x) e ∙ f))

-- ---- Rules

module _ (t : Token) (tied : Bool) (k : Kind) where
  -- A label's rule is made of the term's.
  label_found : among label_kinds k ≡ true → (v : Write ℕ) → find_rule k (term_rules t) ≡ some v → find_rule k (frame_rules t tied graph_label) ≡ some (v >>= λ g. return (graph_body g ∷ []))
  label_found h v e =
      found_made (λ w. (w >>= λ g. return (graph_body g ∷ []))) k ((iris ⇒ iri_term t) ∷ (BLANK_NODE_LABEL ∷ [] ⇒ label_term t tied) ∷ [])
      ((open_bracket ∷ [] ⇒ (bracket_term t tied >>= λ g. return (closing_label g ∷ []))) ∷ []) v
      (found_front k ((iris ⇒ iri_term t) ∷ (BLANK_NODE_LABEL ∷ [] ⇒ label_term t tied) ∷ []) others v (each_kind (among_any (iris ∷ (BLANK_NODE_LABEL ∷ []) ∷ [])) (among label_kinds) refl k ∙ h) e)
    where
      others : List (Rule ℕ)
      others =
          (INTEGER ∷ [] ⇒ typed t.text xsd_integer)
          ∷ (DECIMAL ∷ [] ⇒ typed t.text xsd_decimal)
          ∷ (DOUBLE ∷ [] ⇒ typed t.text xsd_double)
          ∷ (kw_true ∷ kw_false ∷ [] ⇒ typed t.text xsd_boolean)
          ∷ (kw_a ∷ [] ⇒ term (iri rdf_type)) ∷ []

  label_none : among label_kinds k ≡ false → among (open_bracket ∷ []) k ≡ false → find_rule k (frame_rules t tied graph_label) ≡ none
  label_none h f =
      no_rule (frame_rules t tied graph_label) k
      (each_kind (among_any (kinds_of (frame_rules t tied graph_label))) (λ j. among label_kinds j || among (open_bracket ∷ []) j) refl k ∙ rw (h, f))

-- ---- Behind GRAPH, with nothing that holds the label

abbrev labelled : Open
labelled = statement (graph_label ∷ [])

module _ (doc : Text) (work rows terms store : MutBor (List ℕ)) (st st1 st2 : List ℕ) (r : Ready doc (held work rows terms store st)) (k : kind_in st ≡ kind_code GRAPH) (p : Passed doc st st1 (depth_in st) (graph_in st)) (w : Aimed st1 st2 0 0 0 0 0) where
  abbrev a0 : Held
  a0 = held work rows terms store st

  abbrev a1 : Held
  a1 = held work rows terms store st1

  abbrev a : Held
  a = held work rows terms store st2

  passed : Turns trig doc (statement []) labelled a0 a1 0
  unfolding rules
  passed = mark_passes doc work rows terms store st st1 18 graph_mark r k p trig (statement []) labelled refl (λ tied. refl)

  aimed : Turns trig doc (statement []) labelled a0 a 0
  aimed =
      turns_then trig doc (statement []) labelled labelled a0 a1 a 0 0 passed refl
      (turns_comes trig doc (on_top (graph_label ∷ [])) (on_top (graph_label ∷ [])) a1 a 0 (comes_aimed doc work rows terms store st1 st2 w.before w.words (on_top (graph_label ∷ [])) (passed.ready refl)) [])

  aimed_later : at_in st < at_in st2
  aimed_later = rw (w.before at_word (omega arith)) p.later

  pub name_ready : Ready doc a
  name_ready = aimed.ready refl

  name_spotted : Spotted a
  name_spotted = spotted work rows terms store st1 st2 0 0 0 0 0 w (omega arith) (omega arith) (omega arith) (omega arith)

  -- What is read from here on.
  then_stop : (b : Held) (q : ℕ) (f : Frame) → Reads doc (graph_label ∷ []) (f ∷ []) a b q → (q ≡ 0 → ⊥) → Statement trig doc a0 b q
  then_stop b q f R z =
      record {
        turns =
            turns_stop trig doc (statement []) (statement (f ∷ [])) (statement []) a0 b q
            (turns_then trig doc (statement []) labelled (statement (f ∷ [])) a0 a b 0 q aimed refl (turns_comes trig doc (on_top (graph_label ∷ [])) (on_top (f ∷ [])) a b q R [])) z;
        later = λ e. absurd (z e);
      }

  -- Neither a label nor a bracket.
  pub name_none : (t : Bool) → t ≡ code_among label_kinds (kind_in st2) → t ≡ false → (kind_in st2 ≡ kind_code open_bracket → ⊥) → (q : ℕ) → q ≡ refusal_here doc st2 → Statement trig doc a0 a q
  name_none t e f n22 q g = then_stop a q (graph_body 0) (reads_none doc graph_label [] (graph_body 0 ∷ []) a q name_ready (λ z h tied. none_there z h tied) g) (λ z. here_some doc st2 (sym g ∙ z))
    where
      none_there : (kind_in st2 ≡ end_kind → ⊥) → TokenHere doc st2 → (tied : Bool) → find_rule (here doc a).kind (frame_rules (here doc a) tied graph_label) ≡ none
      none_there z h tied =
          label_none (here doc a) tied (here doc a).kind (among_code label_kinds (kind_in st2) z h.known ∙ (sym e ∙ f))
          (among_code (open_bracket ∷ []) (kind_in st2) z h.known ∙ rw (ne_eqb (kind_in st2) (kind_code open_bracket) n22))

  -- ---- A term

  module _ (t : Bool) (e : t ≡ code_among label_kinds (kind_in st2)) (f : t ≡ true) where
    some_label : code_among label_kinds (kind_in st2) ≡ true
    some_label = sym e ∙ f

    pub name_call : (Ready doc a × Spotted a) × (code_among (kw_a ∷ term_kinds) (kind_in st2) ≡ true)
    name_call = ((name_ready, name_spotted), label_code (kind_in st2) some_label)

    some_here : kind_in st2 ≡ end_kind → ⊥
    some_here = not_label (kind_in st2) end_kind some_label refl

    token_here : TokenHere doc st2
    token_here = name_ready.cursor.token some_here (not_label (kind_in st2) unreadable_kind some_label refl)

    among_here : among label_kinds (here doc a).kind ≡ true
    among_here = among_code label_kinds (kind_in st2) some_here token_here.known ∙ some_label

    module _ (b : Held) (q : ℕ) (P : PutsTerm doc a b q) where
      named : (v : Write ℕ) × (find_rule (here doc a).kind (term_rules (here doc a)) ≡ some v)
      named = term_rule (here doc a) (here doc a).kind (label_is_term (here doc a).kind among_here)

      name_numbers : Numbers doc (placed (spot_of a) named.0) a b q
      name_numbers = P named.0 named.1

      name_reads : Reads doc (graph_label ∷ []) (graph_body (node_in b.st) ∷ []) a b q
      name_reads =
          let v : Write ℕ = named.0 in
          let N = name_numbers.gives in
          reads_does doc graph_label (graph_body (node_in b.st) ∷ []) a b q name_ready (placed (spot_of a) v) token_here some_here N.does
          (λ tied. (
            (v >>= λ g. return (graph_body g ∷ [])),
            (
              label_found (here doc a) tied (here doc a).kind among_here v named.1,
              λ old m x. (
                ap (λ (y : ℕ × Memory). y.1) (sym (alone doc a b q name_ready token_here some_here w.list_is w.x_is v m)),
                λ y. ap (λ (n : ℕ). graph_body n ∷ []) (sym (N.node y old m x ∙ ap (λ (u : ℕ × Memory). u.0) (alone doc a b q name_ready token_here some_here w.list_is w.x_is v m))),
              ),
            ),
          ))

      pub name_stop : (q ≡ 0 → ⊥) → Statement trig doc a0 b q
      name_stop z = then_stop b q (graph_body (node_in b.st)) name_reads z

      module _ (z : q ≡ 0) where
        pub name_graph_call : Ready doc b × (node_in b.st < word_limit)
        name_graph_call = (name_reads.ready z, name_numbers.gives.small z)

        pub name_graph : (d : Held) (s : ℕ) → Graph doc b d (node_in b.st) s → Statement trig doc a0 d s
        name_graph d s G =
            let body = statement (graph_body (node_in b.st) ∷ []) in
            record {
              turns =
                  turns_then trig doc (statement []) labelled (statement []) a0 a d 0 s aimed refl
                  (turns_then trig doc labelled body (statement []) a b d q s (turns_comes trig doc (on_top (graph_label ∷ [])) (on_top (graph_body (node_in b.st) ∷ [])) a b q name_reads []) z
                  (G.turns trig body (body_at doc b trig (node_in b.st))));
              later = λ y. omega (arith, aimed_later, name_reads.later z, G.later y);
            }

  -- ---- A bracket

  module _ (k22 : kind_in st2 ≡ kind_code open_bracket) where
    pub bracket_call : (Ready doc a × Spotted a) × (kind_in st2 ≡ kind_code open_bracket)
    bracket_call = ((name_ready, name_spotted), k22)

    bracket_some : kind_in st2 ≡ end_kind → ⊥
    bracket_some h = omega arith

    bracket_token : TokenHere doc st2
    bracket_token = name_ready.cursor.token bracket_some (λ h. omega arith)

    abbrev node_made : Write ℕ
    node_made = new_term (blank (bracket_node (at_in st2)))

    bracket_reads : (b : Held) (q : ℕ) → Numbers doc (placed (spot_of a) node_made) a b q → Reads doc (graph_label ∷ []) (closing_label (node_in b.st) ∷ []) a b q
    bracket_reads b q N =
        reads_does doc graph_label (closing_label (node_in b.st) ∷ []) a b q name_ready (placed (spot_of a) node_made) bracket_token bracket_some N.gives.does
        (λ tied. (
          (node_made >>= λ g. return (closing_label g ∷ [])),
          (
            rw k22,
            λ old m x. (
              ap (λ (y : ℕ × Memory). y.1) (sym (alone doc a b q name_ready bracket_token bracket_some w.list_is w.x_is node_made m)),
              λ y. ap (λ (n : ℕ). closing_label n ∷ []) (sym (N.gives.node y old m x ∙ ap (λ (u : ℕ × Memory). u.0) (alone doc a b q name_ready bracket_token bracket_some w.list_is w.x_is node_made m))),
            ),
          ),
        ))

    pub bracket_stop : (b : Held) (q : ℕ) → Numbers doc (placed (spot_of a) node_made) a b q → (q ≡ 0 → ⊥) → Statement trig doc a0 b q
    bracket_stop b q N z = then_stop b q (closing_label (node_in b.st)) (bracket_reads b q N) z

    module _ (work2 rows2 terms2 store2 : MutBor (List ℕ)) (u : List ℕ) (q : ℕ) (N : Numbers doc (placed (spot_of a) node_made) a (held work2 rows2 terms2 store2 u) q) (z : q ≡ 0) where
      abbrev b : Held
      b = held work2 rows2 terms2 store2 u

      abbrev closing : Open
      closing = statement (closing_label (node_in u) ∷ [])

      bracket_turns : Turns trig doc (statement []) closing a0 b q
      bracket_turns =
          turns_then trig doc (statement []) labelled closing a0 a b 0 q aimed refl
          (turns_comes trig doc (on_top (graph_label ∷ [])) (on_top (closing_label (node_in u) ∷ [])) a b q (bracket_reads b q N) [])

      pub bracket_ready : Ready doc b
      bracket_ready = bracket_turns.ready z

      -- No bracket closes it.
      pub bracket_none : (kind_in u ≡ kind_code close_bracket → ⊥) → (s : ℕ) → s ≡ refusal_here doc u → Statement trig doc a0 b s
      bracket_none n23 s g =
          record {
            turns =
                turns_then trig doc (statement []) closing (statement []) a0 b b q s bracket_turns z
                (turns_comes trig doc (on_top (closing_label (node_in u) ∷ [])) (on_top []) b b s
                (reads_none doc (closing_label (node_in u)) [] [] b s bracket_ready (λ x h tied. rw (among_code (close_bracket ∷ []) (kind_in u) x h.known, ne_eqb (kind_in u) (kind_code close_bracket) n23)) g) []);
            later = λ y. absurd (here_some doc u (sym g ∙ y));
          }

      deeper : depth_in u ≡ depth_in st2 + 1
      unfolding new_depth
      deeper = (N.gives.does.done z).depth ∙ rw k22

      pub bracket_leave : kind_in u ≡ kind_code close_bracket → (Cursor doc u × TokenHere doc u) × ((length u ≡ words_size) × (0 < depth_in u))
      bracket_leave c = leave_call doc b (kind_code close_bracket) bracket_ready c (λ h. omega arith) (λ h. omega arith) (omega (arith, deeper))

      module _ (u' : List ℕ) (c : kind_in u ≡ kind_code close_bracket) (left : Passed doc u u' (depth_in u - 1) (graph_in u)) where
        abbrev b' : Held
        b' = held work2 rows2 terms2 store2 u'

        closed : Reads doc (closing_label (node_in u) ∷ []) (graph_body (node_in u) ∷ []) b b' 0
        closed = close_reads doc work2 rows2 terms2 store2 u u' bracket_ready c left (closing_label (node_in u)) (graph_body (node_in u) ∷ []) (λ t tied. refl)

        pub bracket_graph_call : Ready doc b' × (node_in u < word_limit)
        bracket_graph_call = (closed.ready refl, N.gives.small z)

        pub bracket_graph : (d : Held) (s : ℕ) → Graph doc b' d (node_in u) s → Statement trig doc a0 d s
        bracket_graph d s G =
            let body = statement (graph_body (node_in u) ∷ []) in
            record {
              turns =
                  turns_then trig doc (statement []) closing (statement []) a0 b d q s bracket_turns z
                  (turns_then trig doc closing body (statement []) b b' d 0 s (turns_comes trig doc (on_top (closing_label (node_in u) ∷ [])) (on_top (graph_body (node_in u) ∷ [])) b b' 0 closed []) refl
                  (G.turns trig body (body_at doc b' trig (node_in u))));
              later = λ y. omega (arith, bracket_turns.later z, left.later, G.later y);
            }

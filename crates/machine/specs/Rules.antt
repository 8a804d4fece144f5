-- What may be read next, and what it writes: for each frame the kinds that may follow, and what a token of such a kind does.
-- The order of writing is that of the paragraph "Order" in the scope, whose sentences are quoted.
use Rattle.std.specs.Prelude.{List, [], ◌∷◌, ◌++◌, Bool, true, false}
use Rattle.std.proofs.Math.Option.{Option, none, some}
use Rattle.text.specs.Text.{cond}
use Rattle.token.specs.Kind.{Kind, among, iris, strings, at_prefix, at_base, PREFIX, BASE, GRAPH, dot, semicolon, comma, open_bracket, close_bracket, open_paren, close_paren, open_brace, close_brace, kw_a, kw_true, kw_false, carets, IRIREF, PNAME_NS, BLANK_NODE_LABEL, LANGTAG, INTEGER, DECIMAL, DOUBLE}
use Rattle.token.specs.Tokens.{Token}
use Rattle.grammar.specs.Productions.{Mode, trig, turtle}
use Rattle.dataset.specs.Terms.{label, bracket as bracket_node, iri, blank, tagged, rdf_type, xsd_string, xsd_integer, xsd_decimal, xsd_double, xsd_boolean}
use Rattle.dataset.specs.Constructors.{string_text, tag, node_label, prefix}
use Rattle.machine.specs.Memory.{RowTerm, Write, return, ◌>>=◌, ◌>>◌, term, new_term, typed, typed_by, iri_term, enter, declare_prefix, declare_base}
pub use Rattle.machine.specs.Places.{hold, new_cell, extended, end_list}
use Rattle.machine.specs.Frame.{Ending, full_stop, brace, bracket_end, Place, top, subject_before, object_of, element_of, no_cell, Frame, graph_label, closing_label, graph_body, label_or_subject, triples_or_end, verb, verb_or_end, object, after_object, after_semicolon, bracket, list, suffix, datatype, Directive, prefix_name, namespace_of, new_base, last_dot, Open, directive, statement}

-- ---- Rules

infix 5 ◌⇒◌
-- At a token of one of these kinds, do this.
pub data Rule (A : Type 0) : Type 0 where
  ◌⇒◌ : List Kind → Write A → Rule A

-- What the first rule for this kind says; none where there is no rule for it.
abbrev pub find_rule : {A : Type 0} → Kind → List (Rule A) → Option (Write A)
find_rule k [] = none
find_rule k ((ks ⇒ w) ∷ rs) = cond (among ks k) (some w) (find_rule k rs)

-- What is open once a node is complete at its place; and once a bracket with properties is.
abbrev pub after_node : Place → RowTerm → List Frame
after_node top n = label_or_subject n ∷ []
after_node (subject_before e) n = verb n e ∷ []
after_node (object_of s p) n = []
after_node (element_of cell) n = []

abbrev pub after_properties : Place → RowTerm → List Frame
after_properties top n = verb_or_end n full_stop ∷ []
after_properties (subject_before e) n = verb_or_end n e ∷ []
after_properties (object_of s p) n = []
after_properties (element_of cell) n = []

-- "A graph label is an IRI, a blank label or empty brackets": a list is a subject.
abbrev pub list_place : Place → Place
list_place top = subject_before full_stop
list_place (subject_before e) = subject_before e
list_place (object_of s p) = object_of s p
list_place (element_of cell) = element_of cell

-- An object or element: where it stands, and what is open after it.
pub record Opening : Type 0 where
  pub place : Place
  pub after : List Frame

-- t is the token; `tied`: a tag or ^^ follows it.
module _ (t : Token) (tied : Bool) where
  -- "A term (rdf:type for a, too) is numbered, and its row made, at its token; .. for [ at the bracket."
  abbrev pub label_term : Write RowTerm
  label_term = term (blank (label (node_label t)))

  abbrev pub bracket_term : Write RowTerm
  bracket_term = new_term (blank (bracket_node t.start))

  -- The last token of a predicateObjectList.
  abbrev pub end_rules : Ending → List (Rule (List Frame))
  end_rules full_stop = (dot ∷ [] ⇒ return []) ∷ []
  end_rules brace =
      (dot ∷ [] ⇒ return (triples_or_end ∷ []))
      ∷ (close_brace ∷ [] ⇒ (do enter 0; return [])) ∷ []
  end_rules bracket_end = (close_bracket ∷ [] ⇒ return []) ∷ []

  -- A predicate p, with the frames that are open after it.
  abbrev pub verb_rules : (RowTerm → List Frame) → List (Rule (List Frame))
  verb_rules after =
      (iris ⇒ (do p ← iri_term t; return (after p)))
      ∷ (kw_a ∷ [] ⇒ (do p ← term (iri rdf_type); return (after p))) ∷ []

  abbrev pub subject_rules : Place → List (Rule (List Frame))
  subject_rules place =
      (iris ⇒ (do n ← iri_term t; return (after_node place n)))
      ∷ (BLANK_NODE_LABEL ∷ [] ⇒ (do n ← label_term; return (after_node place n)))
      ∷ (open_bracket ∷ [] ⇒ (do n ← bracket_term; return (bracket place n ∷ [])))
      ∷ (open_paren ∷ [] ⇒ return (list (list_place place) t.start no_cell ∷ [])) ∷ []

  abbrev pub simple : Write Opening → Write RowTerm → Write (List Frame)
  simple begin node = do
    o ← begin
    n ← node
    hold o.place n t.start
    return o.after

  -- "A string not followed by a tag or ^^ is complete at its own token."
  abbrev pub string : Write Opening → Bool → Write (List Frame)
  string begin true = do
    o ← begin
    return (suffix o.place t.start (string_text t) ∷ o.after)
  string begin false = simple begin (typed (string_text t) xsd_string)

  abbrev pub object_rules : Write Opening → List (Rule (List Frame))
  object_rules begin =
      (iris ⇒ simple begin (iri_term t))
      ∷ (BLANK_NODE_LABEL ∷ [] ⇒ simple begin label_term)
      ∷ (INTEGER ∷ [] ⇒ simple begin (typed t.text xsd_integer))
      ∷ (DECIMAL ∷ [] ⇒ simple begin (typed t.text xsd_decimal))
      ∷ (DOUBLE ∷ [] ⇒ simple begin (typed t.text xsd_double))
      ∷ (kw_true ∷ kw_false ∷ [] ⇒ simple begin (typed t.text xsd_boolean))
      ∷ (strings ⇒ string begin tied)
      ∷ (open_bracket ∷ [] ⇒ (do
        o ← begin
        n ← bracket_term
        hold o.place n t.start
        return (bracket o.place n ∷ o.after)))
      ∷ (open_paren ∷ [] ⇒ (do
        o ← begin
        return (list o.place t.start no_cell ∷ o.after))) ∷ []

  -- The rules of a frame. A rule's result are the frames that take its place.
  abbrev pub frame_rules : Frame → List (Rule (List Frame))
  frame_rules graph_label =
      (iris ⇒ (do g ← iri_term t; return (graph_body g ∷ [])))
      ∷ (BLANK_NODE_LABEL ∷ [] ⇒ (do g ← label_term; return (graph_body g ∷ [])))
      ∷ (open_bracket ∷ [] ⇒ (do g ← bracket_term; return (closing_label g ∷ []))) ∷ []
  frame_rules (closing_label g) = (close_bracket ∷ [] ⇒ return (graph_body g ∷ [])) ∷ []
  frame_rules (graph_body g) = (open_brace ∷ [] ⇒ (do enter g; return (triples_or_end ∷ []))) ∷ []
  frame_rules (label_or_subject n) =
      (open_brace ∷ [] ⇒ (do enter n; return (triples_or_end ∷ [])))
      ∷ verb_rules (λ p. object n p full_stop ∷ [])
  frame_rules triples_or_end =
      (close_brace ∷ [] ⇒ (do enter 0; return []))
      ∷ subject_rules (subject_before brace)
  frame_rules (verb s e) = verb_rules (λ p. object s p e ∷ [])
  frame_rules (verb_or_end s e) = verb_rules (λ p. object s p e ∷ []) ++ end_rules e
  frame_rules (object s p e) = object_rules (return (record { place = object_of s p; after = after_object s p e ∷ [] }))
  frame_rules (after_object s p e) =
      (comma ∷ [] ⇒ return (object s p e ∷ []))
      ∷ (semicolon ∷ [] ⇒ return (after_semicolon s e ∷ []))
      ∷ end_rules e
  frame_rules (after_semicolon s e) =
      (semicolon ∷ [] ⇒ return (after_semicolon s e ∷ []))
      ∷ verb_rules (λ p. object s p e ∷ []) ++ end_rules e
  frame_rules (bracket place n) =
      (close_bracket ∷ [] ⇒ return (after_node place n))
      ∷ verb_rules (λ p. object n p bracket_end ∷ after_properties place n)
  frame_rules (list place opened cs) =
      (close_paren ∷ [] ⇒ (do n ← end_list place opened cs t.start; return (after_node place n)))
      ∷ object_rules (do
        cell ← new_cell place opened cs t.start
        return (record { place = element_of cell; after = list place opened (extended cs cell) ∷ [] }))
  frame_rules (suffix place at s) =
      (LANGTAG ∷ [] ⇒ (do
        n ← term (tagged s (tag t))
        hold place n at
        return []))
      ∷ (carets ∷ [] ⇒ return (datatype place at s ∷ [])) ∷ []
  frame_rules (datatype place at s) =
      (iris ⇒ (do
        n ← typed_by s t
        hold place n at
        return [])) ∷ []

  abbrev pub directive_rules : Directive → List (Rule Open)
  directive_rules (prefix_name dotted) = (PNAME_NS ∷ [] ⇒ return (directive (namespace_of (prefix t) dotted))) ∷ []
  directive_rules (namespace_of p dotted) =
      (IRIREF ∷ [] ⇒ declare_prefix p t >> return (cond dotted (directive last_dot) (statement []))) ∷ []
  directive_rules (new_base dotted) =
      (IRIREF ∷ [] ⇒ declare_base t >> return (cond dotted (directive last_dot) (statement []))) ∷ []
  directive_rules last_dot = (dot ∷ [] ⇒ return (statement [])) ∷ []

  -- The same rules where k is open below.
  abbrev pub above : List Frame → List (Rule (List Frame)) → List (Rule Open)
  above k [] = []
  above k ((ks ⇒ w) ∷ rs) = (ks ⇒ (do fs ← w; return (statement (fs ++ k)))) ∷ above k rs

  -- Mode 1's grammar uses neither braces nor GRAPH.
  abbrev pub statement_rules : Mode → List (Rule (List Frame))
  statement_rules trig =
      (open_brace ∷ [] ⇒ (do enter 0; return (triples_or_end ∷ [])))
      ∷ (GRAPH ∷ [] ⇒ return (graph_label ∷ []))
      ∷ subject_rules top
  statement_rules turtle = subject_rules (subject_before full_stop)

  abbrev pub document_rules : Mode → List (Rule Open)
  document_rules mode =
      (at_prefix ∷ [] ⇒ return (directive (prefix_name true)))
      ∷ (PREFIX ∷ [] ⇒ return (directive (prefix_name false)))
      ∷ (at_base ∷ [] ⇒ return (directive (new_base true)))
      ∷ (BASE ∷ [] ⇒ return (directive (new_base false)))
      ∷ above [] (statement_rules mode)

  unfoldable pub rules : Mode → Open → List (Rule Open)
  rules mode (directive d) = directive_rules d
  rules mode (statement []) = document_rules mode
  rules mode (statement (f ∷ k)) = above k (frame_rules f)

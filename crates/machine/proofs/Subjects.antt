-- Nodes that are subjects or graph labels: the machine writes what the construction says.
use mathlib.Core.Path.{◌≡◌, refl, sym, ap, ◌∙◌}
use mathlib.Core.List.{List, [], ◌∷◌, ◌++◌, append_assoc}
use Prim.Native.Nat.{ℕ}
use Rattle.token.specs.Kind.{Kind, open_bracket, close_bracket, open_paren, close_paren, IRIREF, PNAME_NS, PNAME_LN, BLANK_NODE_LABEL}
use Rattle.grammar.specs.Productions.{Mode, trig, turtle}
use Rattle.token.specs.Tokens.{Token}
use Rattle.machine.specs.Memory.{Memory, Write, Done, term}
use Rattle.dataset.specs.Terms.{label, blank}
use Rattle.dataset.specs.Constructors.{node_label}
use Rattle.machine.specs.Frame.{Ending, full_stop, brace, bracket_end, Place, top, subject_before, element_of, Cells, no_cell, cells, Frame, graph_label, closing_label, graph_body, triples_or_end, verb_or_end, bracket, Open, statement}
use Rattle.machine.specs.Rules.{rules, after_node, after_properties, list_place, new_cell, extended}
use Rattle.machine.specs.Construction.{Node, simple, iri_node, cell_of, bracket_node, collection_node, elements, alone, bracket_term}
use Rattle.machine.proofs.Decide.{ties, tied_kinds}
use Rattle.grammar.proofs.Grammar.{kinds_of}
use Rattle.machine.proofs.Agreement.{final, taken, first, Iris, reference, name, namespace}
use Rattle.machine.proofs.Nested.{WritesProperties, at_subject_bracket, at_top_bracket, bracket_ends, end_bracket, Elements, elements_write}

-- Where a subject is awaited: the place that it has, and what is open below.
pub data SubjectAt : Mode → Open → Place → List Frame → Type 0 where
  in_braces : {mode : Mode} {K : List Frame} → SubjectAt mode (statement (triples_or_end ∷ K)) (subject_before brace) K
  outside_trig : SubjectAt trig (statement []) top []
  outside_turtle : SubjectAt turtle (statement []) (subject_before full_stop) []

module _ (mode : Mode) where
  -- The tokens of a node that may be a subject or a label.
  abbrev pub HeadBy : List Token → Node → Type 0
  HeadBy ts x =
      (o : Open) (P : Place) (K : List Frame) → SubjectAt mode o P K → (m : Memory) (us : List Token)
      → final mode (ts ++ us) o m ≡ final mode us (statement (after_node P (alone x m).0 ++ K)) (alone x m).1

  -- Of a bracket with properties, and of a list.
  abbrev pub BracketBy : List Token → Node → Type 0
  BracketBy ts x =
      (o : Open) (P : Place) (K : List Frame) → SubjectAt mode o P K → (m : Memory) (us : List Token)
      → final mode (ts ++ us) o m ≡ final mode us (statement (after_properties P (alone x m).0 ++ K)) (alone x m).1

  abbrev pub ListBy : List Token → Node → Type 0
  ListBy ts x =
      (o : Open) (P : Place) (K : List Frame) → SubjectAt mode o P K → (m : Memory) (us : List Token)
      → final mode (ts ++ us) o m ≡ final mode us (statement (after_node (list_place P) (alone x m).0 ++ K)) (alone x m).1

  -- Behind GRAPH.
  abbrev pub LabelBy : List Token → Node → Type 0
  LabelBy ts x =
      (K : List Frame) (m : Memory) (us : List Token)
      → final mode (ts ++ us) (statement (graph_label ∷ K)) m ≡ final mode us (statement (graph_body (alone x m).0 ∷ K)) (alone x m).1

pub head_iri : (mode : Mode) {k : Kind} (t : Token) → Iris mode k → t.kind ≡ k → HeadBy mode (t ∷ []) (iri_node t)
unfolding taken rules
head_iri mode t reference p o P K in_braces m us = first mode t IRIREF us (tied_kinds (kinds_of us)) (statement (triples_or_end ∷ K)) m p refl
head_iri mode t reference p o P K outside_trig m us = first trig t IRIREF us (tied_kinds (kinds_of us)) (statement []) m p refl
head_iri mode t reference p o P K outside_turtle m us = first turtle t IRIREF us (tied_kinds (kinds_of us)) (statement []) m p refl
head_iri mode t name p o P K in_braces m us = first mode t PNAME_LN us (tied_kinds (kinds_of us)) (statement (triples_or_end ∷ K)) m p refl
head_iri mode t name p o P K outside_trig m us = first trig t PNAME_LN us (tied_kinds (kinds_of us)) (statement []) m p refl
head_iri mode t name p o P K outside_turtle m us = first turtle t PNAME_LN us (tied_kinds (kinds_of us)) (statement []) m p refl
head_iri mode t namespace p o P K in_braces m us = first mode t PNAME_NS us (tied_kinds (kinds_of us)) (statement (triples_or_end ∷ K)) m p refl
head_iri mode t namespace p o P K outside_trig m us = first trig t PNAME_NS us (tied_kinds (kinds_of us)) (statement []) m p refl
head_iri mode t namespace p o P K outside_turtle m us = first turtle t PNAME_NS us (tied_kinds (kinds_of us)) (statement []) m p refl

pub label_iri : (mode : Mode) {k : Kind} (t : Token) → Iris mode k → t.kind ≡ k → LabelBy mode (t ∷ []) (iri_node t)
unfolding taken rules
label_iri mode t reference p K m us = first mode t IRIREF us (tied_kinds (kinds_of us)) (statement (graph_label ∷ K)) m p refl
label_iri mode t name p K m us = first mode t PNAME_LN us (tied_kinds (kinds_of us)) (statement (graph_label ∷ K)) m p refl
label_iri mode t namespace p K m us = first mode t PNAME_NS us (tied_kinds (kinds_of us)) (statement (graph_label ∷ K)) m p refl

pub head_label : (mode : Mode) (t : Token) → t.kind ≡ BLANK_NODE_LABEL → HeadBy mode (t ∷ []) (simple t (term (blank (label (node_label t)))))
unfolding taken rules
head_label mode t p o P K in_braces m us = first mode t BLANK_NODE_LABEL us (tied_kinds (kinds_of us)) (statement (triples_or_end ∷ K)) m p refl
head_label mode t p o P K outside_trig m us = first trig t BLANK_NODE_LABEL us (tied_kinds (kinds_of us)) (statement []) m p refl
head_label mode t p o P K outside_turtle m us = first turtle t BLANK_NODE_LABEL us (tied_kinds (kinds_of us)) (statement []) m p refl

pub label_label : (mode : Mode) (t : Token) → t.kind ≡ BLANK_NODE_LABEL → LabelBy mode (t ∷ []) (simple t (term (blank (label (node_label t)))))
unfolding taken rules
label_label mode t p K m us = first mode t BLANK_NODE_LABEL us (tied_kinds (kinds_of us)) (statement (graph_label ∷ K)) m p refl

-- Empty brackets
pub head_anon : (mode : Mode) (t u : Token) → t.kind ≡ open_bracket → u.kind ≡ close_bracket → HeadBy mode (t ∷ u ∷ []) (simple t (bracket_term t))
unfolding taken rules
head_anon mode t u p q o P K in_braces m us =
    first mode t open_bracket (u ∷ us) (ties u.kind) (statement (triples_or_end ∷ K)) m p refl
    ∙ first mode u close_bracket us (tied_kinds (kinds_of us)) (statement (bracket (subject_before brace) (bracket_term t m).0 ∷ K)) (bracket_term t m).1 q refl
head_anon mode t u p q o P K outside_trig m us =
    first trig t open_bracket (u ∷ us) (ties u.kind) (statement []) m p refl
    ∙ first trig u close_bracket us (tied_kinds (kinds_of us)) (statement (bracket top (bracket_term t m).0 ∷ [])) (bracket_term t m).1 q refl
head_anon mode t u p q o P K outside_turtle m us =
    first turtle t open_bracket (u ∷ us) (ties u.kind) (statement []) m p refl
    ∙ first turtle u close_bracket us (tied_kinds (kinds_of us)) (statement (bracket (subject_before full_stop) (bracket_term t m).0 ∷ [])) (bracket_term t m).1 q refl

pub label_anon : (mode : Mode) (t u : Token) → t.kind ≡ open_bracket → u.kind ≡ close_bracket → LabelBy mode (t ∷ u ∷ []) (simple t (bracket_term t))
unfolding taken rules
label_anon mode t u p q K m us =
    first mode t open_bracket (u ∷ us) (ties u.kind) (statement (graph_label ∷ K)) m p refl
    ∙ first mode u close_bracket us (tied_kinds (kinds_of us)) (statement (closing_label (bracket_term t m).0 ∷ K)) (bracket_term t m).1 q refl

-- Brackets with properties
pub bracket_head : (mode : Mode) (t u : Token) (ts : List Token) (f : ℕ → Write Done) → t.kind ≡ open_bracket → u.kind ≡ close_bracket → WritesProperties mode ts f → BracketBy mode (t ∷ (ts ++ u ∷ [])) (bracket_node (t, (f, u)))
unfolding taken rules
bracket_head mode t u ts f p q g o P K in_braces m us =
    let n = (bracket_term t m).0 in
    ap (λ l. final mode (t ∷ l) (statement (triples_or_end ∷ K)) m) (append_assoc ts (u ∷ []) us)
    ∙ first mode t open_bracket (ts ++ (u ∷ us)) (tied_kinds (kinds_of (ts ++ (u ∷ us)))) (statement (triples_or_end ∷ K)) m p refl
    ∙ g (bracket (subject_before brace) n) n bracket_end (verb_or_end (bracket_term t m).0 brace ∷ []) close_bracket at_subject_bracket bracket_ends u q K (bracket_term t m).1 us
    ∙ end_bracket mode n u q ((verb_or_end (bracket_term t m).0 brace ∷ []) ++ K) (f n (bracket_term t m).1).1 us
bracket_head mode t u ts f p q g o P K outside_trig m us =
    let n = (bracket_term t m).0 in
    ap (λ l. final trig (t ∷ l) (statement []) m) (append_assoc ts (u ∷ []) us)
    ∙ first trig t open_bracket (ts ++ (u ∷ us)) (tied_kinds (kinds_of (ts ++ (u ∷ us)))) (statement []) m p refl
    ∙ g (bracket top n) n bracket_end (verb_or_end (bracket_term t m).0 full_stop ∷ []) close_bracket at_top_bracket bracket_ends u q [] (bracket_term t m).1 us
    ∙ end_bracket trig n u q ((verb_or_end (bracket_term t m).0 full_stop ∷ []) ++ []) (f n (bracket_term t m).1).1 us
bracket_head mode t u ts f p q g o P K outside_turtle m us =
    let n = (bracket_term t m).0 in
    ap (λ l. final turtle (t ∷ l) (statement []) m) (append_assoc ts (u ∷ []) us)
    ∙ first turtle t open_bracket (ts ++ (u ∷ us)) (tied_kinds (kinds_of (ts ++ (u ∷ us)))) (statement []) m p refl
    ∙ g (bracket (subject_before full_stop) n) n bracket_end (verb_or_end (bracket_term t m).0 full_stop ∷ []) close_bracket at_subject_bracket bracket_ends u q [] (bracket_term t m).1 us
    ∙ end_bracket turtle n u q ((verb_or_end (bracket_term t m).0 full_stop ∷ []) ++ []) (f n (bracket_term t m).1).1 us

-- Lists: a list that is a subject has no row of its own.
elements_top : (e : Ending) (opened : ℕ) (cs : Cells) (xs : List Node) (u : Token) (m : Memory) → elements top opened cs xs u m ≡ elements (subject_before e) opened cs xs u m
elements_top e opened no_cell [] u m = refl
elements_top e opened (cells h l) [] u m = refl
elements_top e opened no_cell (x ∷ xs) u m =
    let y = x (λ at n. (let r = new_cell top opened no_cell at n in (element_of r.0, r.1))) m in
    elements_top e opened (extended no_cell (cell_of y.0.place)) xs u y.1
elements_top e opened (cells h l) (x ∷ xs) u m =
    let y = x (λ at n. (let r = new_cell top opened (cells h l) at n in (element_of r.0, r.1))) m in
    elements_top e opened (extended (cells h l) (cell_of y.0.place)) xs u y.1

pub list_head : (mode : Mode) {ts : List Token} {xs : List Node} (t u : Token) → t.kind ≡ open_paren → u.kind ≡ close_paren → Elements mode ts xs → ListBy mode (t ∷ (ts ++ u ∷ [])) (collection_node (t, (xs, u)))
unfolding taken rules
list_head mode {ts} {xs} t u p q r o P K in_braces m us =
    ap (λ l. final mode (t ∷ l) (statement (triples_or_end ∷ K)) m) (append_assoc ts (u ∷ []) us)
    ∙ first mode t open_paren (ts ++ (u ∷ us)) (tied_kinds (kinds_of (ts ++ (u ∷ us)))) (statement (triples_or_end ∷ K)) m p refl
    ∙ elements_write mode r (subject_before brace) t.start no_cell K m u us q
    ∙ ap (λ z. final mode us (statement (after_node (subject_before brace) z.0 ++ K)) z.1) (sym (elements_top brace t.start no_cell xs u m))
list_head mode {ts} {xs} t u p q r o P K outside_trig m us =
    ap (λ l. final trig (t ∷ l) (statement []) m) (append_assoc ts (u ∷ []) us)
    ∙ first trig t open_paren (ts ++ (u ∷ us)) (tied_kinds (kinds_of (ts ++ (u ∷ us)))) (statement []) m p refl
    ∙ elements_write trig r (subject_before full_stop) t.start no_cell [] m u us q
    ∙ ap (λ z. final trig us (statement (after_node (subject_before full_stop) z.0 ++ [])) z.1) (sym (elements_top full_stop t.start no_cell xs u m))
list_head mode {ts} {xs} t u p q r o P K outside_turtle m us =
    ap (λ l. final turtle (t ∷ l) (statement []) m) (append_assoc ts (u ∷ []) us)
    ∙ first turtle t open_paren (ts ++ (u ∷ us)) (tied_kinds (kinds_of (ts ++ (u ∷ us)))) (statement []) m p refl
    ∙ elements_write turtle r (subject_before full_stop) t.start no_cell [] m u us q
    ∙ ap (λ z. final turtle us (statement (after_node (subject_before full_stop) z.0 ++ [])) z.1) (sym (elements_top full_stop t.start no_cell xs u m))

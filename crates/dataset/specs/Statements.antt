-- The statements that a derivation constructs, as the Recommendation words it (TriG, 5.2 and 5.3; Turtle, 7.2 and 7.3), over abstract terms.
use Rattle.std.specs.Prelude.{◌⊎◌, List, [], ◌∷◌, ◌++◌, map, ℕ}
use Rattle.std.proofs.Common.{inl, inr}
use Rattle.std.proofs.Math.Option.{Option, none, some}
use Rattle.text.specs.Text.{Text}
use Rattle.token.specs.Tokens.{Token}
use Rattle.grammar.specs.Meaning.{Parts, meaning}
use Rattle.grammar.specs.Productions.{Nonterminal, Mode, trig, turtle, production, Derivation, root, trigDoc, block, triplesOrGraph, triples2, wrappedGraph, triplesBlock, labelOrSubject, turtleDoc, statement, directive, prefixID, base as base_nt, sparqlPrefix, sparqlBase, triples, predicateObjectList, objectList, verb, subject as subject_nt, predicate as predicate_nt, object as object_nt, literal as literal_nt, blank as blank_nt, blankNodePropertyList, collection, NumericLiteral, RDFLiteral, BooleanLiteral, String as String_nt, iri as iri_nt, PrefixedName, BlankNode, ANON}
use Rattle.dataset.specs.Terms.{label, bracket, cell, Term, iri, blank, literal, tagged, Triple, Quad, rdf_type, rdf_first, rdf_rest, rdf_nil, xsd_string, xsd_integer, xsd_decimal, xsd_double, xsd_boolean}
use Rattle.environment.specs.Environment.{Environment, declare, set_base, start_environment}
use Rattle.dataset.specs.Constructors.{string_text, tag, node_label, prefix, iri_of}

-- A node: the place of its first token, its term, and the triples that its own brackets or cells produce.
pub record Node : Type 0 where
  pub place : ℕ
  pub term : Term
  pub own : List Triple

abbrev pub node_at : ℕ → Term → List Triple → Node
node_at at t ts = record { place = at; term = t; own = ts }

abbrev pub simple : Token → Term → Node
simple t x = node_at t.start x []

abbrev pub triple : Term → Term → Term → Triple
triple s p o = record { subject = s; predicate = p; object = o }

-- The values of the productions: statements; the graph's triples, for its label; triples; predicates and objects, for curSubject; objects, for
-- curSubject and curPredicate; nodes; terms; and the environment after a directive. All but tokens depend on the environment.
abbrev pub Value : Nonterminal → Type 0
Value trigDoc = Environment → List Quad
Value block = Environment → List Quad
Value triplesOrGraph = Environment → List Quad
Value triples2 = Environment → List Quad
Value wrappedGraph = Environment → Option Term → List Quad
Value triplesBlock = Environment → List Triple
Value labelOrSubject = Environment → Node
Value turtleDoc = Environment → List Quad
Value statement = Environment → Environment × List Quad
Value directive = Environment → Environment
Value prefixID = Environment → Environment
Value base_nt = Environment → Environment
Value sparqlPrefix = Environment → Environment
Value sparqlBase = Environment → Environment
Value triples = Environment → List Triple
Value predicateObjectList = Environment → Term → List Triple
Value objectList = Environment → Term → Term → List Triple
Value verb = Environment → Term
Value subject_nt = Environment → Node
Value predicate_nt = Token
Value object_nt = Environment → Node
Value literal_nt = Environment → Node
Value blank_nt = Environment → Node
Value blankNodePropertyList = Environment → Node
Value collection = Environment → Node
Value NumericLiteral = Environment → Node
Value RDFLiteral = Environment → Node
Value BooleanLiteral = Environment → Node
Value String_nt = Token
Value iri_nt = Token
Value PrefixedName = Token
Value BlankNode = Environment → Node
Value ANON = Environment → Node

-- ---- Terms

abbrev pub iri_node : Token → Environment → Node
iri_node t e = simple t (iri (iri_of e t))

-- INTEGER, DECIMAL, DOUBLE, BooleanLiteral: "a lexical form of the input string", and a datatype
abbrev pub typed_node : Text → Token → Environment → Node
typed_node type t e = simple t (literal t.text type)

-- RDFLiteral: "either a language tag of LANGTAG or a datatype IRI of iri ..; If neither .. is provided, the literal has a datatype of xsd:string."
abbrev pub rdf_literal : Token × Option (Token ⊎ (Token × Token)) → Environment → Node
rdf_literal (t, none) e = simple t (literal (string_text t) xsd_string)
rdf_literal (t, some (inl g)) e = simple t (tagged (string_text t) (tag g))
rdf_literal (t, some (inr (carets, d))) e = simple t (literal (string_text t) (iri_of e d))

-- 5.3.2.2: "sets curSubject to a novel blank node B .. The node produced by matching blankNodePropertyList is the blank node B."
abbrev pub property_list : Token × ((Environment → Term → List Triple) × Token) → Environment → Node
property_list (t, (properties, close)) e = let b = blank (bracket t.start) in node_at t.start b (properties e b)

-- 5.3.2.3: "The node produced by matching collection is the first blank node B for non-empty lists and rdf:nil for empty lists."
abbrev pub cell_of : Node → Term
cell_of x = blank (cell x.place)

abbrev pub list_term : List Node → Term
list_term [] = iri rdf_nil
list_term (x ∷ xs) = cell_of x

-- "Each object in the collection production has a curSubject set to a novel blank node B and a curPredicate set to rdf:first", and its cell
-- the next one as rdf:rest; the last has rdf:nil.
unfoldable pub list_triples : List Node → List Triple
list_triples [] = []
list_triples (x ∷ xs) =
    triple (cell_of x) (iri rdf_first) x.term ∷ (x.own ++ (triple (cell_of x) (iri rdf_rest) (list_term xs) ∷ list_triples xs))

unfoldable pub nodes_in : Environment → List (Environment → Node) → List Node
nodes_in e [] = []
nodes_in e (x ∷ xs) = x e ∷ nodes_in e xs

abbrev pub collection_node : Token × (List (Environment → Node) × Token) → Environment → Node
collection_node (t, (xs, close)) e = node_at t.start (list_term (nodes_in e xs)) (list_triples (nodes_in e xs))

-- ---- Triples

-- 5.3.2.1: "Each object N in the document produces an RDF triple: curSubject curPredicate N."
abbrev pub object_triples : Term → Term → Node → List Triple
object_triples s p x = triple s p x.term ∷ x.own

unfoldable pub more_objects : Environment → Term → Term → List (Token × (Environment → Node)) → List Triple
more_objects e s p [] = []
more_objects e s p ((comma, x) ∷ xs) = object_triples s p (x e) ++ more_objects e s p xs

abbrev pub objects : (Environment → Node) × List (Token × (Environment → Node)) → Environment → Term → Term → List Triple
objects (x, xs) e s p = object_triples s p (x e) ++ more_objects e s p xs

abbrev pub VerbObjects : Type 0
VerbObjects = (Environment → Term) × (Environment → Term → Term → List Triple)

abbrev pub verb_objects : VerbObjects → Environment → Term → List Triple
verb_objects (v, os) e s = os e s (v e)

unfoldable pub more_verbs : Environment → Term → List (Token × Option VerbObjects) → List Triple
more_verbs e s [] = []
more_verbs e s ((semicolon, none) ∷ ps) = more_verbs e s ps
more_verbs e s ((semicolon, some p) ∷ ps) = verb_objects p e s ++ more_verbs e s ps

abbrev pub properties_of : (Environment → Term) × ((Environment → Term → Term → List Triple) × List (Token × Option VerbObjects)) → Environment → Term → List Triple
properties_of (v, (os, ps)) e s = verb_objects (v, os) e s ++ more_verbs e s ps

-- A subject with its predicates and objects, which a blankNodePropertyList may lack.
abbrev pub subject_triples : (Environment → Node) → (Environment → Term → List Triple) → Environment → List Triple
subject_triples x f e = (x e).own ++ f e (x e).term

abbrev pub perhaps : Option (Environment → Term → List Triple) → Environment → Term → List Triple
perhaps none e s = []
perhaps (some f) e s = f e s

abbrev pub triples_of : ((Environment → Node) × (Environment → Term → List Triple)) ⊎ ((Environment → Node) × Option (Environment → Term → List Triple)) → Environment → List Triple
triples_of (inl (x, f)) = subject_triples x f
triples_of (inr (x, f)) = subject_triples x (perhaps f)

-- ---- Graphs (5.3.1)

abbrev pub in_graph : Option Term → List Triple → List Quad
in_graph g ts = map {A = Triple} (λ t. record { graph = g; triple = t }) ts

abbrev pub or_none : Option (Environment → List Triple) → Environment → List Triple
or_none none e = []
or_none (some f) e = f e

abbrev pub later_triples : Option (Token × Option (Environment → List Triple)) → Environment → List Triple
later_triples none e = []
later_triples (some (dot, f)) e = or_none f e

-- "The rule labelOrSubject sets both curGraph and curSubject (only one of these will be used)."
abbrev pub graph_or_triples : (Environment → Option Term → List Quad) ⊎ ((Environment → Term → List Triple) × Token) → Environment → Term → List Quad
graph_or_triples (inl g) e x = g e (some x)
graph_or_triples (inr (f, dot)) e x = in_graph none (f e x)

abbrev pub triples_2 : ((Environment → Node) × (Option (Environment → Term → List Triple) × Token)) ⊎ ((Environment → Node) × ((Environment → Term → List Triple) × Token)) → Environment → List Quad
triples_2 (inl (x, (f, dot))) e = in_graph none (triples_of (inr (x, f)) e)
triples_2 (inr (x, (f, dot))) e = in_graph none (triples_of (inl (x, f)) e)

abbrev pub block_of : (Environment → List Quad) ⊎ ((Environment → Option Term → List Quad) ⊎ ((Environment → List Quad) ⊎ (Token × ((Environment → Node) × (Environment → Option Term → List Quad))))) → Environment → List Quad
block_of (inl q) e = q e
block_of (inr (inl g)) e = g e none
block_of (inr (inr (inl q))) e = q e
block_of (inr (inr (inr (graph, (x, g))))) e = g e (some (x e).term)

-- ---- Documents: each part under the directives before it

unfoldable pub trig_quads : List ((Environment → Environment) ⊎ (Environment → List Quad)) → Environment → List Quad
trig_quads [] e = []
trig_quads (inl d ∷ xs) e = trig_quads xs (d e)
trig_quads (inr q ∷ xs) e = q e ++ trig_quads xs e

unfoldable pub turtle_quads : List (Environment → Environment × List Quad) → Environment → List Quad
turtle_quads [] e = []
turtle_quads (f ∷ xs) e = (f e).1 ++ turtle_quads xs (f e).0

abbrev pub prefix_directive : Token → Token → Environment → Environment
prefix_directive p i e = declare (prefix p) (iri_of e i) e

abbrev pub base_directive : Token → Environment → Environment
base_directive i e = set_base (iri_of e i) e

abbrev pub either : {A : Type 0} → A ⊎ A → A
either (inl a) = a
either (inr a) = a

abbrev pub one_of_three : {A : Type 0} → A ⊎ (A ⊎ A) → A
one_of_three (inl a) = a
one_of_three (inr x) = either x

abbrev pub one_of_four : {A : Type 0} → A ⊎ (A ⊎ (A ⊎ A)) → A
one_of_four (inl a) = a
one_of_four (inr x) = one_of_three x

-- ---- The value of each production, from those of its parts

abbrev pub action : (mode : Mode) (n : Nonterminal) → Parts Token Value (production mode n) → Value n
unfolding production
action mode trigDoc xs = trig_quads xs
action mode block x = block_of x
action mode triplesOrGraph (x, y) = λ e. graph_or_triples y e (x e).term
action mode triples2 x = triples_2 x
action mode wrappedGraph (open_brace, (ts, close_brace)) = λ e g. in_graph g (or_none ts e)
action mode triplesBlock (ts, x) = λ e. ts e ++ later_triples x e
action mode labelOrSubject (inl t) = iri_node t
action mode labelOrSubject (inr x) = x
action mode turtleDoc xs = turtle_quads xs
action mode statement (inl d) = λ e. (d e, [])
action mode statement (inr (ts, dot)) = λ e. (e, in_graph none (ts e))
action mode directive x = one_of_four x
action mode prefixID (at_prefix, (p, (i, dot))) = prefix_directive p i
action mode base_nt (at_base, (i, dot)) = base_directive i
action mode sparqlPrefix (kw, (p, i)) = prefix_directive p i
action mode sparqlBase (kw, i) = base_directive i
action mode triples x = triples_of x
action mode predicateObjectList x = properties_of x
action mode objectList x = objects x
action mode verb (inl t) = λ e. iri (iri_of e t)
action mode verb (inr a) = λ e. iri rdf_type
action trig subject_nt (inl t) = iri_node t
action trig subject_nt (inr x) = x
action turtle subject_nt (inl t) = iri_node t
action turtle subject_nt (inr x) = either x
action mode predicate_nt t = t
action trig object_nt (inl t) = iri_node t
action trig object_nt (inr x) = one_of_three x
action turtle object_nt (inl t) = iri_node t
action turtle object_nt (inr x) = one_of_four x
action mode literal_nt x = one_of_three x
action mode blank_nt x = either x
action mode blankNodePropertyList x = property_list x
action mode collection x = collection_node x
action mode NumericLiteral (inl t) = typed_node xsd_integer t
action mode NumericLiteral (inr (inl t)) = typed_node xsd_decimal t
action mode NumericLiteral (inr (inr t)) = typed_node xsd_double t
action mode RDFLiteral x = rdf_literal x
action mode BooleanLiteral x = typed_node xsd_boolean (either x)
action mode String_nt x = one_of_four x
action mode iri_nt x = either x
action mode PrefixedName x = either x
action mode BlankNode (inl t) = λ e. simple t (blank (label (node_label t)))
action mode BlankNode (inr x) = x
action mode ANON (t, close) = λ e. simple t (blank (bracket t.start))

-- The quads of a document's derivation, where `base` was lent.
unfoldable pub statements : (mode : Mode) → Derivation mode → Text → List Quad
unfolding root
statements trig x b = meaning Value (action trig) x (start_environment b)
statements turtle x b = meaning Value (action turtle) x (start_environment b)

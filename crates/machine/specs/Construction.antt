-- What each production writes, in the scope's order, from what its parts write: the tables that a derivation makes.
use Rattle.std.specs.Prelude.{◌⊎◌, List, [], ◌∷◌, ℕ}
use Rattle.std.proofs.Common.{inl, inr}
use Rattle.std.proofs.Math.Option.{Option, none, some}
use Rattle.text.specs.Text.{Text}
use Rattle.token.specs.Tokens.{Token}
use Rattle.grammar.specs.Meaning.{Parts, meaning}
use Rattle.grammar.specs.Productions.{Nonterminal, Mode, trig, turtle, production, root, Derivation, trigDoc, block, triplesOrGraph, triples2, wrappedGraph, triplesBlock, labelOrSubject, turtleDoc, statement as statement_nt, directive as directive_nt, prefixID, base as base_nt, sparqlPrefix, sparqlBase, triples, predicateObjectList, objectList, verb as verb_nt, subject as subject_nt, predicate as predicate_nt, object as object_nt, literal as literal_nt, blank as blank_nt, blankNodePropertyList, collection, NumericLiteral, RDFLiteral, BooleanLiteral, String as String_nt, iri as iri_nt, PrefixedName, BlankNode, ANON}
use Rattle.dataset.specs.Terms.{label, bracket as bracket_blank, iri, blank, tagged, rdf_type, xsd_string, xsd_integer, xsd_decimal, xsd_double, xsd_boolean}
use Rattle.dataset.specs.Constructors.{string_text, tag, node_label, prefix}
use Rattle.dataset.specs.Statements.{either, one_of_three, one_of_four}
use Rattle.machine.specs.Memory.{RowTerm, Memory, start_memory, Write, return, ◌>>=◌, ◌>>◌, Done, done, term, new_term, typed, typed_by, iri_term, enter, declare_prefix, declare_base}
use Rattle.machine.specs.Places.{Place, top, subject_before, object_of, element_of, Cells, no_cell, hold, new_cell, extended, end_list}

-- A node that was read, and where it was put.
pub record Put : Type 0 where
  pub place : Place
  pub node : RowTerm

-- What a node writes. Its place is made (a list cell, for an element) where its first token stands.
abbrev pub Node : Type 0
Node = (ℕ → Write Place) → Write Put

-- What the parts of a document mean: a token; the node of an IRI; a predicate; objects, for a subject and a predicate; predicates and objects,
-- for a subject; a graph's triples, for its label; and what only writes.
abbrev pub Meaning : Nonterminal → Type 0
Meaning trigDoc = Write Done
Meaning block = Write Done
Meaning triplesOrGraph = Write Done
Meaning triples2 = Write Done
Meaning wrappedGraph = RowTerm → Write Done
Meaning triplesBlock = Write Done
Meaning labelOrSubject = Node
Meaning turtleDoc = Write Done
Meaning statement_nt = Write Done
Meaning directive_nt = Write Done
Meaning prefixID = Write Done
Meaning base_nt = Write Done
Meaning sparqlPrefix = Write Done
Meaning sparqlBase = Write Done
Meaning triples = Write Done
Meaning predicateObjectList = RowTerm → Write Done
Meaning objectList = RowTerm → RowTerm → Write Done
Meaning verb_nt = Write RowTerm
Meaning subject_nt = Node
Meaning predicate_nt = Token
Meaning object_nt = Node
Meaning literal_nt = Node
Meaning blank_nt = Node
Meaning blankNodePropertyList = Node
Meaning collection = Node
Meaning NumericLiteral = Node
Meaning RDFLiteral = Node
Meaning BooleanLiteral = Node
Meaning String_nt = Token
Meaning iri_nt = Token
Meaning PrefixedName = Token
Meaning BlankNode = Node
Meaning ANON = Node

-- ---- Nodes

-- A node that is written all at once, at the place of its first token.
abbrev pub simple : Token → Write RowTerm → Node
simple t number begin = do
  p ← begin t.start
  n ← number
  hold p n t.start
  return (record { place = p; node = n })

abbrev pub iri_node : Token → Node
iri_node t = simple t (iri_term t)

abbrev pub typed_node : Text → Token → Node
typed_node type t = simple t (typed t.text type)

abbrev pub bracket_term : Token → Write RowTerm
bracket_term t = new_term (blank (bracket_blank t.start))

-- "The node produced by matching blankNodePropertyList is the blank node B", and B is the curSubject of its predicates and objects.
abbrev pub bracket_node : Token × ((RowTerm → Write Done) × Token) → Node
bracket_node (t, (properties, u)) begin = do
  x ← simple t (bracket_term t) begin
  properties x.node
  return x

-- Each object of a collection is put into a cell of its own, behind the last one's.
abbrev pub cell_of : Place → RowTerm
cell_of top = 0
cell_of (subject_before e) = 0
cell_of (object_of s p) = 0
cell_of (element_of c) = c

abbrev pub elements : Place → ℕ → Cells → List Node → Token → Write RowTerm
elements place opened cs [] u = end_list place opened cs u.start
elements place opened cs (x ∷ xs) u = do
  y ← x (λ at. (do
    cell ← new_cell place opened cs at
    return (element_of cell)))
  elements place opened (extended cs (cell_of y.place)) xs u

abbrev pub collection_node : Token × (List Node × Token) → Node
collection_node (t, (xs, u)) begin = do
  p ← begin t.start
  n ← elements p t.start no_cell xs u
  return (record { place = p; node = n })

-- The lexical form is that of the string; the type is xsd:string, the tag's or the one named.
abbrev pub rdf_literal : Token × Option (Token ⊎ (Token × Token)) → Node
rdf_literal (t, none) = simple t (typed (string_text t) xsd_string)
rdf_literal (t, some (inl g)) = simple t (term (tagged (string_text t) (tag g)))
rdf_literal (t, some (inr (u, d))) = simple t (typed_by (string_text t) d)

-- ---- Triples

-- "Each object N in the document produces an RDF triple: curSubject curPredicate N."
abbrev pub object_triple : RowTerm → RowTerm → Node → Write Done
object_triple s p x = do
  x (λ at. return (object_of s p))
  return done

abbrev pub objects : RowTerm → RowTerm → List (Token × Node) → Write Done
objects s p [] = return done
objects s p ((comma, x) ∷ xs) = do
  object_triple s p x
  objects s p xs

abbrev pub object_list : Node × List (Token × Node) → RowTerm → RowTerm → Write Done
object_list (x, xs) s p = do
  object_triple s p x
  objects s p xs

abbrev pub verb_objects : Write RowTerm × (RowTerm → RowTerm → Write Done) → RowTerm → Write Done
verb_objects (verb, os) s = do
  p ← verb
  os s p

abbrev pub more_properties : RowTerm → List (Token × Option (Write RowTerm × (RowTerm → RowTerm → Write Done))) → Write Done
more_properties s [] = return done
more_properties s ((semicolon, none) ∷ ps) = more_properties s ps
more_properties s ((semicolon, some p) ∷ ps) = do
  verb_objects p s
  more_properties s ps

abbrev pub properties : Write RowTerm × ((RowTerm → RowTerm → Write Done) × List (Token × Option (Write RowTerm × (RowTerm → RowTerm → Write Done)))) → RowTerm → Write Done
properties (verb, (os, ps)) s = do
  verb_objects (verb, os) s
  more_properties s ps

abbrev pub perhaps : Option (RowTerm → Write Done) → RowTerm → Write Done
perhaps none s = return done
perhaps (some f) s = f s

-- A node that is no object: it has no row.
abbrev pub alone : Node → Write RowTerm
alone x = do
  y ← x (λ at. return top)
  return y.node

abbrev pub triples_of : (Node × (RowTerm → Write Done)) ⊎ (Node × Option (RowTerm → Write Done)) → Write Done
triples_of (inl (x, f)) = do
  s ← alone x
  f s
triples_of (inr (x, f)) = do
  s ← alone x
  perhaps f s

-- ---- Graphs

abbrev pub or_nothing : Option (Write Done) → Write Done
or_nothing none = return done
or_nothing (some w) = w

-- The triples in the braces stand in the graph g; after them the default graph is open again.
abbrev pub graph_of : Token × (Option (Write Done) × Token) → RowTerm → Write Done
graph_of (t, (w, u)) g = do
  enter g
  or_nothing w
  enter 0

abbrev pub later_triples : Option (Token × Option (Write Done)) → Write Done
later_triples none = return done
later_triples (some (dot, w)) = or_nothing w

abbrev pub graph_or_triples : (RowTerm → Write Done) ⊎ ((RowTerm → Write Done) × Token) → RowTerm → Write Done
graph_or_triples (inl g) n = g n
graph_or_triples (inr (f, dot)) n = f n

abbrev pub bracket_or_list : (Node × (Option (RowTerm → Write Done) × Token)) ⊎ (Node × ((RowTerm → Write Done) × Token)) → Write Done
bracket_or_list (inl (x, (f, dot))) = triples_of (inr (x, f))
bracket_or_list (inr (x, (f, dot))) = triples_of (inl (x, f))

abbrev pub block_of : Write Done ⊎ ((RowTerm → Write Done) ⊎ (Write Done ⊎ (Token × (Node × (RowTerm → Write Done))))) → Write Done
block_of (inl w) = w
block_of (inr (inl g)) = g 0
block_of (inr (inr (inl w))) = w
block_of (inr (inr (inr (t, (x, g))))) = do
  n ← alone x
  g n

-- ---- Directives

abbrev pub prefix_of : Token → Token → Write Done
prefix_of p t = declare_prefix (prefix p) t

abbrev pub base_of : Token → Write Done
base_of t = declare_base t

abbrev pub in_turn : {A : Type 0} → (A → Write Done) → List A → Write Done
in_turn f [] = return done
in_turn f (x ∷ xs) = do
  f x
  in_turn f xs

-- ---- The meaning of each production, from what stands on its right

abbrev pub action : (mode : Mode) (n : Nonterminal) → Parts Token Meaning (production mode n) → Meaning n
unfolding production
action mode trigDoc xs = in_turn either xs
action mode block x = block_of x
action mode triplesOrGraph (x, y) = alone x >>= graph_or_triples y
action mode triples2 x = bracket_or_list x
action mode wrappedGraph x = graph_of x
action mode triplesBlock (w, x) = w >> later_triples x
action mode labelOrSubject (inl t) = iri_node t
action mode labelOrSubject (inr x) = x
action mode turtleDoc xs = in_turn (λ w. w) xs
action mode statement_nt (inl w) = w
action mode statement_nt (inr (w, dot)) = w
action mode directive_nt x = one_of_four x
action mode prefixID (t, (p, (i, dot))) = prefix_of p i
action mode base_nt (t, (i, dot)) = base_of i
action mode sparqlPrefix (t, (p, i)) = prefix_of p i
action mode sparqlBase (t, i) = base_of i
action mode triples x = triples_of x
action mode predicateObjectList x = properties x
action mode objectList x = object_list x
action mode verb_nt (inl t) = iri_term t
action mode verb_nt (inr a) = term (iri rdf_type)
action trig subject_nt (inl t) = iri_node t
action trig subject_nt (inr x) = x
action turtle subject_nt (inl t) = iri_node t
action turtle subject_nt (inr x) = either x
action mode predicate_nt t = t
action trig object_nt (inl t) = iri_node t
action trig object_nt (inr x) = one_of_three x
action turtle object_nt (inl t) = iri_node t
action turtle object_nt (inr x) = one_of_four x
action mode literal_nt x = one_of_three x
action mode blank_nt x = either x
action mode blankNodePropertyList x = bracket_node x
action mode collection x = collection_node x
action mode NumericLiteral (inl t) = typed_node xsd_integer t
action mode NumericLiteral (inr (inl t)) = typed_node xsd_decimal t
action mode NumericLiteral (inr (inr t)) = typed_node xsd_double t
action mode RDFLiteral x = rdf_literal x
action mode BooleanLiteral x = typed_node xsd_boolean (either x)
action mode String_nt x = one_of_four x
action mode iri_nt x = either x
action mode PrefixedName x = either x
action mode BlankNode (inl t) = simple t (term (blank (label (node_label t))))
action mode BlankNode (inr x) = x
action mode ANON (t, u) = simple t (bracket_term t)

-- What a document's derivation writes into empty tables, where `base` was lent.
unfoldable pub tables : (mode : Mode) → Derivation mode → Text → Memory
unfolding root
tables trig x base = (meaning Meaning (action trig) x (start_memory base)).1
tables turtle x base = (meaning Meaning (action turtle) x (start_memory base)).1

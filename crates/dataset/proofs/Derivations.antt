-- Derivations of short documents, and the statements that they construct, by computing.
use mathlib.Core.Path.{◌≡◌, refl}
use mathlib.Core.List.{List, [], ◌∷◌, ◌++◌}
use mathlib.Core.Option.{Option, none, some}
use Prim.Native.Nat.{ℕ}
use Prim.Native.String.{String as Quoted}
use Rattle.text.specs.Text.{Text, ascii}
use Rattle.token.specs.Kind.{Kind, IRIREF, PNAME_NS, PNAME_LN, BLANK_NODE_LABEL, at_prefix, at_base, LANGTAG, INTEGER, DECIMAL, DOUBLE, STRING_LITERAL_QUOTE, kw_a, kw_true, PREFIX, BASE, GRAPH, dot, comma, semicolon, open_bracket, close_bracket, open_paren, close_paren, open_brace, close_brace, carets}
use Rattle.token.specs.Tokens.{Token}
use Rattle.grammar.specs.Ebnf.{Expr, tok, nt, Tree, leaves, leaf, node, both, left, right, done, more, absent, present}
use Rattle.grammar.specs.Meaning.{meaning}
use Rattle.grammar.specs.Productions.{Nonterminal, Mode, trig, turtle, production, root, kind_of, Derivation, trigDoc, block, triplesOrGraph, triples2, wrappedGraph, triplesBlock, labelOrSubject, turtleDoc, statement, directive, prefixID, base, sparqlPrefix, sparqlBase, triples, predicateObjectList, objectList, verb, subject, predicate, object, literal as literal_nt, blank as blank_nt, blankNodePropertyList, collection, NumericLiteral, RDFLiteral, BooleanLiteral, String, iri as iri_nt, PrefixedName, BlankNode, ANON}
use Rattle.dataset.specs.Terms.{label, bracket, cell, Term, iri, blank, literal, tagged, rdf_type, rdf_first, rdf_rest, rdf_nil, xsd_integer, xsd_decimal, xsd_double, xsd_boolean}
use Rattle.dataset.specs.Constructors.{computing}
use Rattle.dataset.specs.Statements.{triple, list_triples, nodes_in, more_objects, more_verbs, trig_quads, turtle_quads, statements}

-- ---- Short forms of trees: each has the place of its token

abbrev Part : Mode → Nonterminal → Type 0
Part mode n = Tree kind_of (production mode) (nt n)

-- A token as a leaf.
abbrev at : {G : Nonterminal → Expr Kind Nonterminal} (k : Kind) → ℕ → Quoted → Tree kind_of G (tok k)
at k p s = leaf (record { kind = k; start = p; text = ascii s }) refl

abbrev reference : (mode : Mode) → ℕ → Quoted → Part mode iri_nt
unfolding production
reference mode p s = node iri_nt (left (at IRIREF p s))

abbrev name : (mode : Mode) → ℕ → Quoted → Part mode iri_nt
unfolding production
name mode p s = node iri_nt (right (node PrefixedName (left (at PNAME_LN p s))))

abbrev a_verb : (mode : Mode) → ℕ → Part mode verb
unfolding production
a_verb mode p = node verb (right (at kw_a p "a"))

abbrev iri_verb : (mode : Mode) → Part mode iri_nt → Part mode verb
unfolding production
iri_verb mode i = node verb (left (node predicate i))

abbrev integer : (mode : Mode) → ℕ → Quoted → Part mode literal_nt
unfolding production
integer mode p s = node literal_nt (right (left (node NumericLiteral (left (at INTEGER p s)))))

abbrev one_object : (mode : Mode) → Part mode object → Part mode objectList
unfolding production
one_object mode x = node objectList (both x done)

abbrev two_objects : (mode : Mode) → Part mode object → ℕ → Part mode object → Part mode objectList
unfolding production
two_objects mode x p y = node objectList (both x (more (both (at comma p ",") y) done))

abbrev one_verb : (mode : Mode) → Part mode verb → Part mode objectList → Part mode predicateObjectList
unfolding production
one_verb mode v xs = node predicateObjectList (both v (both xs done))

-- An object that is a literal.
abbrev literal_object : Part trig literal_nt → Part trig object
unfolding production
literal_object x = node object (right (right (right x)))

-- The verb a with the integer 1.
abbrev a_1 : ℕ → ℕ → Part trig predicateObjectList
a_1 p q = one_verb trig (a_verb trig p) (one_object trig (literal_object (integer trig q "1")))

-- ---- @prefix p:<x:>.p:g{_:s a 1;p:q "v"@en,([a true])}

abbrev prefix_p : Part trig directive
unfolding production
prefix_p = node directive (left (node prefixID (both (at at_prefix 0 "@prefix") (both (at PNAME_NS 8 "p:") (both (at IRIREF 10 "<x:>") (at dot 14 "."))))))

abbrev node_s : Part trig subject
unfolding production
node_s = node subject (right (node blank_nt (left (node BlankNode (left (at BLANK_NODE_LABEL 19 "_:s"))))))

abbrev v_en : Part trig object
unfolding production
v_en = literal_object (node literal_nt (left (node RDFLiteral (both (node String (left (at STRING_LITERAL_QUOTE 31 "\"v\""))) (present (left (at LANGTAG 34 "@en")))))))

abbrev a_true : Part trig predicateObjectList
unfolding production
a_true = one_verb trig (a_verb trig 40) (one_object trig (literal_object (node literal_nt (right (right (node BooleanLiteral (left (at kw_true 42 "true"))))))))

abbrev bracket_object : Part trig object
unfolding production
bracket_object = node object (right (right (left (node blankNodePropertyList (both (at open_bracket 39 "[") (both a_true (at close_bracket 46 "]")))))))

abbrev list_object : Part trig object
unfolding production
list_object = node object (right (left (node blank_nt (right (node collection (both (at open_paren 38 "(") (both (more bracket_object done) (at close_paren 47 ")"))))))))

abbrev two_verbs : Part trig predicateObjectList
unfolding production
two_verbs =
    node predicateObjectList (both (a_verb trig 23) (both (one_object trig (literal_object (integer trig 25 "1")))
    (more (both (at semicolon 26 ";") (present (both (iri_verb trig (name trig 27 "p:q")) (two_objects trig v_en 37 list_object)))) done)))

abbrev braces : Part trig wrappedGraph
unfolding production
braces =
    node wrappedGraph (both (at open_brace 18 "{")
    (both (present (node triplesBlock (both (node triples (left (both node_s two_verbs))) absent))) (at close_brace 48 "}")))

abbrev graph_g : Part trig block
unfolding production
graph_g = node block (left (node triplesOrGraph (both (node labelOrSubject (left (name trig 15 "p:g"))) (left braces))))

abbrev in_a_graph : Derivation trig
unfolding production root
in_a_graph = node trigDoc (more (left prefix_p) (more (right graph_g) done))

abbrev x_g : Option Term
x_g = some (iri (ascii "x:g"))

abbrev s : Term
s = blank (label (ascii "s"))

graph_statements : statements trig in_a_graph [] ≡
    record { graph = x_g; triple = triple s (iri rdf_type) (literal (ascii "1") xsd_integer) }
    ∷ record { graph = x_g; triple = triple s (iri (ascii "x:q")) (tagged (ascii "v") (ascii "en")) }
    ∷ record { graph = x_g; triple = triple s (iri (ascii "x:q")) (blank (cell 39)) }
    ∷ record { graph = x_g; triple = triple (blank (cell 39)) (iri rdf_first) (blank (bracket 39)) }
    ∷ record { graph = x_g; triple = triple (blank (bracket 39)) (iri rdf_type) (literal (ascii "true") xsd_boolean) }
    ∷ record { graph = x_g; triple = triple (blank (cell 39)) (iri rdf_rest) (iri rdf_nil) }
    ∷ []
unfolding computing root statements meaning list_triples nodes_in more_objects more_verbs trig_quads in_a_graph
graph_statements = refl

-- ---- [a 1].<x:s>a 1.{<x:s>a 1.}: all three in the default graph

abbrev alone : Part trig block
unfolding production
alone =
    node block (right (right (left (node triples2 (left (both
    (node blankNodePropertyList (both (at open_bracket 0 "[") (both (a_1 1 3) (at close_bracket 4 "]"))))
    (both absent (at dot 5 "."))))))))

abbrev with_dot : Part trig block
unfolding production
with_dot = node block (left (node triplesOrGraph (both (node labelOrSubject (left (reference trig 6 "<x:s>"))) (right (both (a_1 11 13) (at dot 14 "."))))))

abbrev in_braces : Part trig block
unfolding production
in_braces =
    node block (right (left (node wrappedGraph (both (at open_brace 15 "{") (both
    (present (node triplesBlock (both (node triples (left (both (node subject (left (reference trig 16 "<x:s>"))) (a_1 21 23)))) (present (both (at dot 24 ".") absent)))))
    (at close_brace 25 "}"))))))

abbrev by_default : Derivation trig
unfolding production root
by_default = node trigDoc (more (right alone) (more (right with_dot) (more (right in_braces) done)))

abbrev one : Term
one = literal (ascii "1") xsd_integer

default_statements : statements trig by_default [] ≡
    record { graph = none; triple = triple (blank (bracket 0)) (iri rdf_type) one }
    ∷ record { graph = none; triple = triple (iri (ascii "x:s")) (iri rdf_type) one }
    ∷ record { graph = none; triple = triple (iri (ascii "x:s")) (iri rdf_type) one }
    ∷ []
unfolding computing root statements meaning list_triples nodes_in more_objects more_verbs trig_quads by_default
default_statements = refl

-- ---- PREFIX p:<x:>BASE<y:/>GRAPH _:g{[a 1].()<q> 1.5,1e0;}(1)a p:.

abbrev sparql_p : Part trig directive
unfolding production
sparql_p = node directive (right (right (left (node sparqlPrefix (both (at PREFIX 0 "PREFIX") (both (at PNAME_NS 7 "p:") (at IRIREF 9 "<x:>")))))))

abbrev sparql_y : Part trig directive
unfolding production
sparql_y = node directive (right (right (right (node sparqlBase (both (at BASE 13 "BASE") (at IRIREF 17 "<y:/>"))))))

abbrev bracket_triples : Part trig triples
unfolding production
bracket_triples = node triples (right (both (node blankNodePropertyList (both (at open_bracket 32 "[") (both (a_1 33 35) (at close_bracket 36 "]")))) absent))

abbrev two_numbers : Part trig objectList
unfolding production
two_numbers =
    two_objects trig (literal_object (node literal_nt (right (left (node NumericLiteral (right (left (at DECIMAL 44 "1.5"))))))))
    47 (literal_object (node literal_nt (right (left (node NumericLiteral (right (right (at DOUBLE 48 "1e0"))))))))

abbrev list_triples_after : Part trig triples
unfolding production
list_triples_after =
    node triples (left (both
    (node subject (right (node blank_nt (right (node collection (both (at open_paren 38 "(") (both done (at close_paren 39 ")"))))))))
    (node predicateObjectList (both (iri_verb trig (reference trig 40 "<q>")) (both two_numbers (more (both (at semicolon 51 ";") absent) done))))))

abbrev graph_block : Part trig block
unfolding production
graph_block =
    node block (right (right (right (both (at GRAPH 22 "GRAPH") (both (node labelOrSubject (right (node BlankNode (left (at BLANK_NODE_LABEL 28 "_:g")))))
    (node wrappedGraph (both (at open_brace 31 "{") (both
    (present (node triplesBlock (both bracket_triples (present (both (at dot 37 ".") (present (node triplesBlock (both list_triples_after absent))))))))
    (at close_brace 52 "}")))))))))

abbrev list_block : Part trig block
unfolding production
list_block =
    node block (right (right (left (node triples2 (right (both
    (node collection (both (at open_paren 53 "(") (both (more (literal_object (integer trig 54 "1")) done) (at close_paren 55 ")"))))
    (both (one_verb trig (a_verb trig 56) (one_object trig (node object (left (node iri_nt (right (node PrefixedName (right (at PNAME_NS 58 "p:"))))))))) (at dot 60 "."))))))))

abbrev as_in_sparql : Derivation trig
unfolding production root
as_in_sparql = node trigDoc (more (left sparql_p) (more (left sparql_y) (more (right graph_block) (more (right list_block) done))))

abbrev g : Option Term
g = some (blank (label (ascii "g")))

sparql_statements : statements trig as_in_sparql [] ≡
    record { graph = g; triple = triple (blank (bracket 32)) (iri rdf_type) one }
    ∷ record { graph = g; triple = triple (iri rdf_nil) (iri (ascii "y:/q")) (literal (ascii "1.5") xsd_decimal) }
    ∷ record { graph = g; triple = triple (iri rdf_nil) (iri (ascii "y:/q")) (literal (ascii "1e0") xsd_double) }
    ∷ record { graph = none; triple = triple (blank (cell 54)) (iri rdf_first) one }
    ∷ record { graph = none; triple = triple (blank (cell 54)) (iri rdf_rest) (iri rdf_nil) }
    ∷ record { graph = none; triple = triple (blank (cell 54)) (iri rdf_type) (iri (ascii "x:")) }
    ∷ []
unfolding computing root statements meaning list_triples nodes_in more_objects more_verbs trig_quads as_in_sparql
sparql_statements = refl

-- ---- Turtle: @base<x:/>.()<p>[],"a"^^<t>.

abbrev base_x : Part turtle directive
unfolding production
base_x = node directive (right (left (node base (both (at at_base 0 "@base") (both (at IRIREF 5 "<x:/>") (at dot 10 "."))))))

abbrev empty_list : Part turtle subject
unfolding production
empty_list = node subject (right (right (node collection (both (at open_paren 11 "(") (both done (at close_paren 12 ")"))))))

abbrev empty_brackets : Part turtle object
unfolding production
empty_brackets = node object (right (left (node BlankNode (right (node ANON (both (at open_bracket 16 "[") (at close_bracket 17 "]")))))))

abbrev a_of_t : Part turtle object
unfolding production
a_of_t =
    node object (right (right (right (right (node literal_nt (left (node RDFLiteral (both
    (node String (left (at STRING_LITERAL_QUOTE 19 "\"a\"")))
    (present (right (both (at carets 22 "^^") (reference turtle 24 "<t>"))))))))))))

abbrev under_a_base : Derivation turtle
unfolding production root
under_a_base =
    node turtleDoc (more (node statement (left base_x))
    (more (node statement (right (both
    (node triples (left (both empty_list (one_verb turtle (iri_verb turtle (reference turtle 13 "<p>")) (two_objects turtle empty_brackets 18 a_of_t)))))
    (at dot 27 ".")))) done))

turtle_statements : statements turtle under_a_base [] ≡
    record { graph = none; triple = triple (iri rdf_nil) (iri (ascii "x:/p")) (blank (bracket 16)) }
    ∷ record { graph = none; triple = triple (iri rdf_nil) (iri (ascii "x:/p")) (literal (ascii "a") (ascii "x:/t")) }
    ∷ []
unfolding computing root statements meaning list_triples nodes_in more_objects more_verbs turtle_quads under_a_base
turtle_statements = refl

-- ---- The leaves of a derivation are the tokens in order

abbrev joined : List Token → Text
joined [] = []
joined (t ∷ ts) = t.text ++ joined ts

in_order : joined (leaves kind_of (production trig) in_a_graph) ≡ ascii "@prefixp:<x:>.p:g{_:sa1;p:q\"v\"@en,([atrue])}"
unfolding root leaves in_a_graph
in_order = refl

-- Examples of the TriG and Turtle Recommendations, and their long forms line by line. Long documents are cut by whole statements.
use mathlib.Core.Path.{◌≡◌, refl}
use mathlib.Core.List.{[], ◌∷◌}
use Rattle.machine.specs.Read.{computing}
use Rattle.examples.specs.Call.{lines, trig, turtle, printed}

-- TriG, example 1: one named graph.
trig_1 : printed (trig (lines (
    "# This document encodes one graph."
    ∷ "@prefix ex: <http://www.example.org/vocabulary#> ."
    ∷ "@prefix : <http://www.example.org/exampleDocument#> ."
    ∷ ":G1 { :Monica a ex:Person ;"
    ∷ "              ex:name \"Monica Murphy\" ;"
    ∷ "              ex:homepage <http://www.monicamurphy.org> ;"
    ∷ "              ex:hasSkill ex:Management ,"
    ∷ "                          ex:Programming . }"
    ∷ []))) ≡ lines (
    "<http://www.example.org/exampleDocument#G1> { <http://www.example.org/exampleDocument#Monica> <http://www.w3.org/1999/02/22-rdf-syntax-ns#type> <http://www.example.org/vocabulary#Person> . }"
    ∷ "<http://www.example.org/exampleDocument#G1> { <http://www.example.org/exampleDocument#Monica> <http://www.example.org/vocabulary#name> \"Monica Murphy\" . }"
    ∷ "<http://www.example.org/exampleDocument#G1> { <http://www.example.org/exampleDocument#Monica> <http://www.example.org/vocabulary#homepage> <http://www.monicamurphy.org> . }"
    ∷ "<http://www.example.org/exampleDocument#G1> { <http://www.example.org/exampleDocument#Monica> <http://www.example.org/vocabulary#hasSkill> <http://www.example.org/vocabulary#Management> . }"
    ∷ "<http://www.example.org/exampleDocument#G1> { <http://www.example.org/exampleDocument#Monica> <http://www.example.org/vocabulary#hasSkill> <http://www.example.org/vocabulary#Programming> . }"
    ∷ [])
unfolding computing
trig_1 = refl

-- Example 2: a default graph and two named graphs. The label _:b is one node in both.
trig_2 : printed (trig (lines (
    "@prefix dc: <http://purl.org/dc/terms/> ."
    ∷ "@prefix foaf: <http://xmlns.com/foaf/0.1/> ."
    ∷ "# default graph"
    ∷ "    {"
    ∷ "      <http://example.org/bob> dc:publisher \"Bob\" ."
    ∷ "    }"
    ∷ "<http://example.org/bob>"
    ∷ "    {"
    ∷ "       _:a foaf:name \"Bob\" ."
    ∷ "       _:a foaf:knows _:b ."
    ∷ "    }"
    ∷ "<http://example.org/alice>"
    ∷ "    {"
    ∷ "       _:b foaf:name \"Alice\" ."
    ∷ "       _:b foaf:mbox <mailto:alice@work.example.org> ."
    ∷ "    }"
    ∷ []))) ≡ lines (
    "<http://example.org/bob> <http://purl.org/dc/terms/publisher> \"Bob\" ."
    ∷ "<http://example.org/bob> { _:b0 <http://xmlns.com/foaf/0.1/name> \"Bob\" . }"
    ∷ "<http://example.org/bob> { _:b0 <http://xmlns.com/foaf/0.1/knows> _:b1 . }"
    ∷ "<http://example.org/alice> { _:b1 <http://xmlns.com/foaf/0.1/name> \"Alice\" . }"
    ∷ "<http://example.org/alice> { _:b1 <http://xmlns.com/foaf/0.1/mbox> <mailto:alice@work.example.org> . }"
    ∷ [])
unfolding computing
trig_2 = refl

-- Example 3: the same data in other words.
trig_3 : printed (trig (lines (
    "@prefix dc: <http://purl.org/dc/terms/> ."
    ∷ "@prefix foaf: <http://xmlns.com/foaf/0.1/> ."
    ∷ "# default graph - no {} used."
    ∷ "<http://example.org/bob> dc:publisher \"Bob\" ."
    ∷ "GRAPH <http://example.org/bob>"
    ∷ "{"
    ∷ "   [] foaf:name \"Bob\" ;"
    ∷ "      foaf:knows _:b ."
    ∷ "}"
    ∷ "GRAPH <http://example.org/alice>"
    ∷ "{"
    ∷ "    _:b foaf:name \"Alice\" ;"
    ∷ "        foaf:mbox <mailto:alice@work.example.org>"
    ∷ "}"
    ∷ []))) ≡ lines (
    "<http://example.org/bob> <http://purl.org/dc/terms/publisher> \"Bob\" ."
    ∷ "<http://example.org/bob> { _:b0 <http://xmlns.com/foaf/0.1/name> \"Bob\" . }"
    ∷ "<http://example.org/bob> { _:b0 <http://xmlns.com/foaf/0.1/knows> _:b1 . }"
    ∷ "<http://example.org/alice> { _:b1 <http://xmlns.com/foaf/0.1/name> \"Alice\" . }"
    ∷ "<http://example.org/alice> { _:b1 <http://xmlns.com/foaf/0.1/mbox> <mailto:alice@work.example.org> . }"
    ∷ [])
unfolding computing
trig_3 = refl

-- Turtle, example 1: base, prefixes, predicate lists, object lists, a tag.
turtle_1 : printed (turtle (lines (
    "@base <http://example.org/> ."
    ∷ "@prefix foaf: <http://xmlns.com/foaf/0.1/> ."
    ∷ "@prefix rel: <http://www.perceive.net/schemas/relationship/> ."
    ∷ "<#green-goblin>"
    ∷ "    rel:enemyOf <#spiderman> ;"
    ∷ "    a foaf:Person ;    # in the context of the Marvel universe"
    ∷ "    foaf:name \"Green Goblin\" ."
    ∷ "<#spiderman>"
    ∷ "    foaf:name \"Spiderman\", \"Человек-паук\"@ru ."
    ∷ []))) ≡ lines (
    "<http://example.org/#green-goblin> <http://www.perceive.net/schemas/relationship/enemyOf> <http://example.org/#spiderman> ."
    ∷ "<http://example.org/#green-goblin> <http://www.w3.org/1999/02/22-rdf-syntax-ns#type> <http://xmlns.com/foaf/0.1/Person> ."
    ∷ "<http://example.org/#green-goblin> <http://xmlns.com/foaf/0.1/name> \"Green Goblin\" ."
    ∷ "<http://example.org/#spiderman> <http://xmlns.com/foaf/0.1/name> \"Spiderman\" ."
    ∷ "<http://example.org/#spiderman> <http://xmlns.com/foaf/0.1/name> \"Человек-паук\"@ru ."
    ∷ [])
unfolding computing
turtle_1 = refl

-- Example 8: SPARQL's form of a prefix.
turtle_8 : printed (turtle (lines (
    "PREFIX somePrefix: <http://www.perceive.net/schemas/relationship/>"
    ∷ "<http://example.org/#green-goblin> somePrefix:enemyOf <http://example.org/#spiderman> ."
    ∷ []))) ≡ lines (
    "<http://example.org/#green-goblin> <http://www.perceive.net/schemas/relationship/enemyOf> <http://example.org/#spiderman> ."
    ∷ [])
unfolding computing
turtle_8 = refl

-- Example 9: the ways to write an IRI.
turtle_9 : printed (turtle (lines (
    "@base <http://one.example/> ."
    ∷ "<subject2> <predicate2> <object2> . # relative IRIs"
    ∷ "@prefix p: <http://two.example/> ."
    ∷ "p:subject3 p:predicate3 p:object3 ."
    ∷ "@prefix p: <path/> . # now stands for http://one.example/path/"
    ∷ "p:subject4 p:predicate4 p:object4 ."
    ∷ "@prefix : <http://another.example/> ."
    ∷ ":subject6 a :subject7 ."
    ∷ "<http://伝言.example/?user=\u{623}\u{643}\u{631}\u{645}&amp;channel=R%26D> a :subject8 ."
    ∷ []))) ≡ lines (
    "<http://one.example/subject2> <http://one.example/predicate2> <http://one.example/object2> ."
    ∷ "<http://two.example/subject3> <http://two.example/predicate3> <http://two.example/object3> ."
    ∷ "<http://one.example/path/subject4> <http://one.example/path/predicate4> <http://one.example/path/object4> ."
    ∷ "<http://another.example/subject6> <http://www.w3.org/1999/02/22-rdf-syntax-ns#type> <http://another.example/subject7> ."
    ∷ "<http://伝言.example/?user=\u{623}\u{643}\u{631}\u{645}&amp;channel=R%26D> <http://www.w3.org/1999/02/22-rdf-syntax-ns#type> <http://another.example/subject8> ."
    ∷ [])
unfolding computing
turtle_9 = refl

-- Example 11: quoted literals.
turtle_11 : printed (turtle (lines (
    "@prefix rdfs: <http://www.w3.org/2000/01/rdf-schema#> ."
    ∷ "@prefix show: <http://example.org/vocab/show/> ."
    ∷ "@prefix xsd: <http://www.w3.org/2001/XMLSchema#> ."
    ∷ "show:218 rdfs:label \"That Seventies Show\"^^xsd:string ."
    ∷ "show:218 rdfs:label \"That Seventies Show\" ."
    ∷ "show:218 show:localName 'Cette Série des Années Septante'@fr-be ."
    ∷ "show:218 show:blurb '''This"
    ∷ "literal with quotes (\"\"\"\"\") and up to two apostrophes ('').''' ."
    ∷ []))) ≡ lines (
    "<http://example.org/vocab/show/218> <http://www.w3.org/2000/01/rdf-schema#label> \"That Seventies Show\" ."
    ∷ "<http://example.org/vocab/show/218> <http://www.w3.org/2000/01/rdf-schema#label> \"That Seventies Show\" ."
    ∷ "<http://example.org/vocab/show/218> <http://example.org/vocab/show/localName> \"Cette Série des Années Septante\"@fr-be ."
    ∷ "<http://example.org/vocab/show/218> <http://example.org/vocab/show/blurb> \"This\\nliteral with quotes (\\\"\\\"\\\"\\\"\\\") and up to two apostrophes ('').\" ."
    ∷ [])
unfolding computing
turtle_11 = refl

-- Examples 12 and 13: numbers and booleans.
turtle_12 : printed (turtle (lines (
    "@prefix : <http://example.org/elements> ."
    ∷ "<http://en.wikipedia.org/wiki/Helium>"
    ∷ "    :atomicNumber 2 ;               # xsd:integer"
    ∷ "    :atomicMass 4.002602 ;          # xsd:decimal"
    ∷ "    :specificGravity 1.663E-4 ;     # xsd:double"
    ∷ "    :isLandlocked false .           # xsd:boolean"
    ∷ []))) ≡ lines (
    "<http://en.wikipedia.org/wiki/Helium> <http://example.org/elementsatomicNumber> \"2\"^^<http://www.w3.org/2001/XMLSchema#integer> ."
    ∷ "<http://en.wikipedia.org/wiki/Helium> <http://example.org/elementsatomicMass> \"4.002602\"^^<http://www.w3.org/2001/XMLSchema#decimal> ."
    ∷ "<http://en.wikipedia.org/wiki/Helium> <http://example.org/elementsspecificGravity> \"1.663E-4\"^^<http://www.w3.org/2001/XMLSchema#double> ."
    ∷ "<http://en.wikipedia.org/wiki/Helium> <http://example.org/elementsisLandlocked> \"false\"^^<http://www.w3.org/2001/XMLSchema#boolean> ."
    ∷ [])
unfolding computing
turtle_12 = refl

-- Examples 14 and 15: blank nodes.
turtle_14 : printed (turtle (lines (
    "@prefix foaf: <http://xmlns.com/foaf/0.1/> ."
    ∷ "_:alice foaf:knows _:bob ."
    ∷ "_:bob foaf:knows _:alice ."
    ∷ "# Someone knows someone else, who has the name \"Bob\"."
    ∷ "[] foaf:knows [ foaf:name \"Bob\" ] ."
    ∷ []))) ≡ lines (
    "_:b0 <http://xmlns.com/foaf/0.1/knows> _:b1 ."
    ∷ "_:b1 <http://xmlns.com/foaf/0.1/knows> _:b0 ."
    ∷ "_:b2 <http://xmlns.com/foaf/0.1/knows> _:b3 ."
    ∷ "_:b3 <http://xmlns.com/foaf/0.1/name> \"Bob\" ."
    ∷ [])
unfolding computing
turtle_14 = refl

-- Example 18: a collection, and the empty one.
turtle_18 : printed (turtle (lines (
    "@prefix : <http://example.org/foo> ."
    ∷ "# the object of this triple is the RDF collection blank node"
    ∷ ":subject :predicate ( :a :b :c ) ."
    ∷ "# an empty collection value - rdf:nil"
    ∷ ":subject :predicate2 () ."
    ∷ []))) ≡ lines (
    "<http://example.org/foosubject> <http://example.org/foopredicate> _:b0 ."
    ∷ "_:b0 <http://www.w3.org/1999/02/22-rdf-syntax-ns#first> <http://example.org/fooa> ."
    ∷ "_:b0 <http://www.w3.org/1999/02/22-rdf-syntax-ns#rest> _:b1 ."
    ∷ "_:b1 <http://www.w3.org/1999/02/22-rdf-syntax-ns#first> <http://example.org/foob> ."
    ∷ "_:b1 <http://www.w3.org/1999/02/22-rdf-syntax-ns#rest> _:b2 ."
    ∷ "_:b2 <http://www.w3.org/1999/02/22-rdf-syntax-ns#first> <http://example.org/fooc> ."
    ∷ "_:b2 <http://www.w3.org/1999/02/22-rdf-syntax-ns#rest> <http://www.w3.org/1999/02/22-rdf-syntax-ns#nil> ."
    ∷ "<http://example.org/foosubject> <http://example.org/foopredicate2> <http://www.w3.org/1999/02/22-rdf-syntax-ns#nil> ."
    ∷ [])
unfolding computing
turtle_18 = refl

-- Example 22: two identical triples, in plain and long literal forms.
turtle_22 : printed (turtle (lines (
    "@prefix : <http://example.org/stuff/1.0/> ."
    ∷ ":a :b \"The first line\\nThe second line\\n  more\" ."
    ∷ ":a :b \"\"\"The first line"
    ∷ "The second line"
    ∷ "  more\"\"\" ."
    ∷ []))) ≡ lines (
    "<http://example.org/stuff/1.0/a> <http://example.org/stuff/1.0/b> \"The first line\\nThe second line\\n  more\" ."
    ∷ "<http://example.org/stuff/1.0/a> <http://example.org/stuff/1.0/b> \"The first line\\nThe second line\\n  more\" ."
    ∷ [])
unfolding computing
turtle_22 = refl

-- Example 23: a collection as a subject.
turtle_23 : printed (turtle (lines (
    "@prefix : <http://example.org/stuff/1.0/> ."
    ∷ "(1 2.0 3E1) :p \"w\" ."
    ∷ []))) ≡ lines (
    "_:b0 <http://www.w3.org/1999/02/22-rdf-syntax-ns#first> \"1\"^^<http://www.w3.org/2001/XMLSchema#integer> ."
    ∷ "_:b0 <http://www.w3.org/1999/02/22-rdf-syntax-ns#rest> _:b1 ."
    ∷ "_:b1 <http://www.w3.org/1999/02/22-rdf-syntax-ns#first> \"2.0\"^^<http://www.w3.org/2001/XMLSchema#decimal> ."
    ∷ "_:b1 <http://www.w3.org/1999/02/22-rdf-syntax-ns#rest> _:b2 ."
    ∷ "_:b2 <http://www.w3.org/1999/02/22-rdf-syntax-ns#first> \"3E1\"^^<http://www.w3.org/2001/XMLSchema#double> ."
    ∷ "_:b2 <http://www.w3.org/1999/02/22-rdf-syntax-ns#rest> <http://www.w3.org/1999/02/22-rdf-syntax-ns#nil> ."
    ∷ "_:b0 <http://example.org/stuff/1.0/p> \"w\" ."
    ∷ [])
unfolding computing
turtle_23 = refl

-- Example 25: collections and brackets in each other.
turtle_25 : printed (turtle (lines (
    "PREFIX : <http://example.org/stuff/1.0/>"
    ∷ "(1 [:p :q] ( 2 ) ) :p2 :q2 ."
    ∷ []))) ≡ lines (
    "_:b0 <http://www.w3.org/1999/02/22-rdf-syntax-ns#first> \"1\"^^<http://www.w3.org/2001/XMLSchema#integer> ."
    ∷ "_:b0 <http://www.w3.org/1999/02/22-rdf-syntax-ns#rest> _:b1 ."
    ∷ "_:b1 <http://www.w3.org/1999/02/22-rdf-syntax-ns#first> _:b2 ."
    ∷ "_:b2 <http://example.org/stuff/1.0/p> <http://example.org/stuff/1.0/q> ."
    ∷ "_:b1 <http://www.w3.org/1999/02/22-rdf-syntax-ns#rest> _:b3 ."
    ∷ "_:b3 <http://www.w3.org/1999/02/22-rdf-syntax-ns#first> _:b4 ."
    ∷ "_:b4 <http://www.w3.org/1999/02/22-rdf-syntax-ns#first> \"2\"^^<http://www.w3.org/2001/XMLSchema#integer> ."
    ∷ "_:b4 <http://www.w3.org/1999/02/22-rdf-syntax-ns#rest> <http://www.w3.org/1999/02/22-rdf-syntax-ns#nil> ."
    ∷ "_:b3 <http://www.w3.org/1999/02/22-rdf-syntax-ns#rest> <http://www.w3.org/1999/02/22-rdf-syntax-ns#nil> ."
    ∷ "_:b0 <http://example.org/stuff/1.0/p2> <http://example.org/stuff/1.0/q2> ."
    ∷ [])
unfolding computing
turtle_25 = refl

-- The machine writes what the construction says, for every derivation tree: the relation, and its induction.
use mathlib.Core.Path.{◌≡◌, refl}
use mathlib.Core.Logic.{inl, inr}
use mathlib.Core.List.{List, [], ◌∷◌, ◌++◌}
use mathlib.Core.Bool.{false}
use mathlib.Core.Option.{none, some}
use Rattle.grammar.specs.Ebnf.{Expr, tok, nt, ◌⨾◌, ◌∣◌, star, opt, Tree, leaf, node, both, left, right, done as done_tree, more, absent, present, leaves}
use Rattle.token.specs.Kind.{Kind}
use Rattle.grammar.specs.Productions.{Nonterminal, Mode, trig, turtle, production, trigDoc, block, triplesOrGraph, triples2, wrappedGraph, triplesBlock, labelOrSubject, turtleDoc, statement as statement_nt, directive as directive_nt, prefixID, base as base_nt, sparqlPrefix, sparqlBase, triples, predicateObjectList, objectList, verb as verb_nt, subject as subject_nt, predicate as predicate_nt, object as object_nt, literal as literal_nt, blank as blank_nt, blankNodePropertyList, collection, NumericLiteral, RDFLiteral, BooleanLiteral, String as String_nt, iri as iri_nt, PrefixedName, BlankNode, ANON, kind_of}
use Rattle.token.specs.Tokens.{Token}
use Rattle.machine.specs.Construction.{Node, Meaning, action}
use Rattle.grammar.specs.Meaning.{Parts, meaning}
use Rattle.machine.proofs.Decide.{tied_kinds}
use Rattle.grammar.proofs.Grammar.{kinds_of}
use Rattle.machine.proofs.Agreement.{Writes, Iris, Stringy}
use Rattle.machine.proofs.Nested.{Verb, WritesObjects, WritesProperties}
use Rattle.machine.proofs.Subjects.{HeadBy, BracketBy, ListBy, LabelBy}
use Rattle.machine.proofs.Statements.{SubjectBy, TriplesBy, BlockBy, GraphBy, StatementBy, DocumentBy}

-- The productions of the other mode's documents are not used.
abbrev pub OnlyTrig : Mode → Type 0 → Type 0
OnlyTrig trig A = A
OnlyTrig turtle A = Unit {0}

abbrev pub OnlyTurtle : Mode → Type 0 → Type 0
OnlyTurtle trig A = Unit {0}
OnlyTurtle turtle A = A

module _ (mode : Mode) where
  -- A node's tokens write it, and do not begin with a tag or ^^.
  abbrev pub NodeBy : List Token → Node → Type 0
  NodeBy ts x = Writes mode ts x × ((us : List Token) → tied_kinds (kinds_of (ts ++ us)) ≡ false)

  abbrev pub OneToken : (Kind → Type 0) → List Token → Token → Type 0
  OneToken P ts t = (ts ≡ t ∷ []) × ((k : Kind) × P k × (t.kind ≡ k))

  -- What the tokens of a nonterminal do, against what it means.
  abbrev pub RightN : (n : Nonterminal) → List Token → Meaning n → Type 0
  RightN trigDoc ts r = OnlyTrig mode (DocumentBy mode ts r)
  RightN block ts r = OnlyTrig mode (StatementBy mode ts r)
  RightN triplesOrGraph ts r = OnlyTrig mode (StatementBy mode ts r)
  RightN triples2 ts r = OnlyTrig mode (StatementBy mode ts r)
  RightN wrappedGraph ts r = GraphBy mode ts r
  RightN triplesBlock ts r = BlockBy mode ts r
  RightN labelOrSubject ts r = HeadBy mode ts r × LabelBy mode ts r
  RightN turtleDoc ts r = OnlyTurtle mode (DocumentBy mode ts r)
  RightN statement_nt ts r = OnlyTurtle mode (StatementBy mode ts r)
  RightN directive_nt ts r = StatementBy mode ts r
  RightN prefixID ts r = StatementBy mode ts r
  RightN base_nt ts r = StatementBy mode ts r
  RightN sparqlPrefix ts r = StatementBy mode ts r
  RightN sparqlBase ts r = StatementBy mode ts r
  RightN triples ts r = TriplesBy mode ts r
  RightN predicateObjectList ts r = WritesProperties mode ts r
  RightN objectList ts r = WritesObjects mode ts r
  RightN verb_nt ts r = (v : Token) × (ts ≡ v ∷ []) × Verb mode v r
  RightN subject_nt ts r = SubjectBy mode ts r
  RightN predicate_nt ts r = OneToken (Iris mode) ts r
  RightN object_nt ts r = NodeBy ts r
  RightN literal_nt ts r = NodeBy ts r
  RightN blank_nt ts r = NodeBy ts r × SubjectBy mode ts r
  RightN blankNodePropertyList ts r = NodeBy ts r × BracketBy mode ts r
  RightN collection ts r = NodeBy ts r × ListBy mode ts r
  RightN NumericLiteral ts r = NodeBy ts r
  RightN RDFLiteral ts r = NodeBy ts r
  RightN BooleanLiteral ts r = NodeBy ts r
  RightN String_nt ts r = OneToken (Stringy mode) ts r
  RightN iri_nt ts r = OneToken (Iris mode) ts r
  RightN PrefixedName ts r = OneToken (Iris mode) ts r
  RightN BlankNode ts r = NodeBy ts r × HeadBy mode ts r × LabelBy mode ts r
  RightN ANON ts r = NodeBy ts r × HeadBy mode ts r × LabelBy mode ts r

  -- The same for expressions.
  pub data Repeats {A : Type 0} (P : List Token → A → Type 0) : List Token → List A → Type 0 where
    stop : Repeats P [] []
    again : (ts us : List Token) (a : A) (bs : List A) → P ts a → Repeats P us bs → Repeats P (ts ++ us) (a ∷ bs)

  abbrev pub Right : (e : Expr Kind Nonterminal) → List Token → Parts Token Meaning e → Type 0
  Right (tok k) ts t = (ts ≡ t ∷ []) × (t.kind ≡ k)
  Right (nt n) ts r = RightN n ts r
  Right (e ⨾ f) ts x = (us : List Token) × (vs : List Token) × (ts ≡ us ++ vs) × Right e us x.0 × Right f vs x.1
  Right (e ∣ f) ts (inl a) = Right e ts a
  Right (e ∣ f) ts (inr b) = Right f ts b
  Right (star e) ts bs = Repeats (Right e) ts bs
  Right (opt e) ts none = ts ≡ []
  Right (opt e) ts (some a) = Right e ts a

  -- If each production keeps to it, so does every tree.
  module _ (correct : (n : Nonterminal) (ts : List Token) (a : Parts Token Meaning (production mode n)) → Right (production mode n) ts a → RightN n ts (action mode n a)) where
    pub right_tree : {e : Expr Kind Nonterminal} (x : Tree kind_of (production mode) e) → Right e (leaves kind_of (production mode) x) (meaning Meaning (action mode) x)
    unfolding leaves meaning
    right_tree (leaf t p) = (refl, p)
    right_tree (node n x) = correct n (leaves kind_of (production mode) x) (meaning Meaning (action mode) x) (right_tree x)
    right_tree (both x y) = (leaves kind_of (production mode) x, leaves kind_of (production mode) y, refl, right_tree x, right_tree y)
    right_tree (left x) = right_tree x
    right_tree (right x) = right_tree x
    right_tree done_tree = stop
    right_tree (more x y) = again (leaves kind_of (production mode) x) (leaves kind_of (production mode) y) (meaning Meaning (action mode) x) (meaning Meaning (action mode) y) (right_tree x) (right_tree y)
    right_tree absent = refl
    right_tree (present x) = right_tree x

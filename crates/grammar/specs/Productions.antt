-- The productions of TriG (Recommendation, section 4.5: labels with g) and of Turtle (section 6.5), one to a line.
use Rattle.std.specs.Prelude.{List, ℕ}
use Rattle.token.specs.Tokens.{Token}
use Rattle.token.specs.Kind.{Kind, IRIREF, PNAME_NS, PNAME_LN, BLANK_NODE_LABEL, at_prefix, at_base, LANGTAG, INTEGER, DECIMAL, DOUBLE, STRING_LITERAL_QUOTE, STRING_LITERAL_SINGLE_QUOTE, kw_a, kw_true, kw_false, PREFIX, BASE, GRAPH, dot, comma, semicolon, open_bracket, close_bracket, open_paren, close_paren, open_brace, close_brace, carets, STRING_LITERAL_LONG_QUOTE, STRING_LITERAL_LONG_SINGLE_QUOTE}
use Rattle.grammar.specs.Ebnf.{Expr, tok, nt, ◌⨾◌, ◌∣◌, star, opt, Tree, Derives, Begins, FailsAt}

pub data Nonterminal : Type 0 where
  trigDoc block triplesOrGraph triples2 wrappedGraph triplesBlock : Nonterminal
  labelOrSubject turtleDoc statement directive prefixID base : Nonterminal
  sparqlPrefix sparqlBase triples predicateObjectList objectList verb : Nonterminal
  subject predicate object literal blank blankNodePropertyList : Nonterminal
  collection NumericLiteral RDFLiteral BooleanLiteral String iri : Nonterminal
  PrefixedName BlankNode ANON : Nonterminal

-- Mode 0 is TriG, mode 1 is Turtle.
pub data Mode : Type 0 where
  trig turtle : Mode

-- "ANON and NIL are read as two bracket tokens." Where the two Recommendations differ, mode 0 has TriG's production and mode 1 Turtle's.
unfoldable pub production : Mode → Nonterminal → Expr Kind Nonterminal
production mode trigDoc = star (nt directive ∣ nt block)
production mode block = nt triplesOrGraph ∣ nt wrappedGraph ∣ nt triples2 ∣ tok GRAPH ⨾ nt labelOrSubject ⨾ nt wrappedGraph
production mode triplesOrGraph = nt labelOrSubject ⨾ (nt wrappedGraph ∣ nt predicateObjectList ⨾ tok dot)
production mode triples2 = nt blankNodePropertyList ⨾ opt (nt predicateObjectList) ⨾ tok dot ∣ nt collection ⨾ nt predicateObjectList ⨾ tok dot
production mode wrappedGraph = tok open_brace ⨾ opt (nt triplesBlock) ⨾ tok close_brace
production mode triplesBlock = nt triples ⨾ opt (tok dot ⨾ opt (nt triplesBlock))
production mode labelOrSubject = nt iri ∣ nt BlankNode
production mode turtleDoc = star (nt statement)
production mode statement = nt directive ∣ nt triples ⨾ tok dot
production mode directive = nt prefixID ∣ nt base ∣ nt sparqlPrefix ∣ nt sparqlBase
production mode prefixID = tok at_prefix ⨾ tok PNAME_NS ⨾ tok IRIREF ⨾ tok dot
production mode base = tok at_base ⨾ tok IRIREF ⨾ tok dot
production mode sparqlPrefix = tok PREFIX ⨾ tok PNAME_NS ⨾ tok IRIREF
production mode sparqlBase = tok BASE ⨾ tok IRIREF
production mode triples = nt subject ⨾ nt predicateObjectList ∣ nt blankNodePropertyList ⨾ opt (nt predicateObjectList)
production mode predicateObjectList = nt verb ⨾ nt objectList ⨾ star (tok semicolon ⨾ opt (nt verb ⨾ nt objectList))
production mode objectList = nt object ⨾ star (tok comma ⨾ nt object)
production mode verb = nt predicate ∣ tok kw_a
production trig subject = nt iri ∣ nt blank
production turtle subject = nt iri ∣ nt BlankNode ∣ nt collection
production mode predicate = nt iri
production trig object = nt iri ∣ nt blank ∣ nt blankNodePropertyList ∣ nt literal
production turtle object = nt iri ∣ nt BlankNode ∣ nt collection ∣ nt blankNodePropertyList ∣ nt literal
production mode literal = nt RDFLiteral ∣ nt NumericLiteral ∣ nt BooleanLiteral
production mode blank = nt BlankNode ∣ nt collection
production mode blankNodePropertyList = tok open_bracket ⨾ nt predicateObjectList ⨾ tok close_bracket
production mode collection = tok open_paren ⨾ star (nt object) ⨾ tok close_paren
production mode NumericLiteral = tok INTEGER ∣ tok DECIMAL ∣ tok DOUBLE
production mode RDFLiteral = nt String ⨾ opt (tok LANGTAG ∣ tok carets ⨾ nt iri)
production mode BooleanLiteral = tok kw_true ∣ tok kw_false
production mode String = tok STRING_LITERAL_QUOTE ∣ tok STRING_LITERAL_SINGLE_QUOTE ∣ tok STRING_LITERAL_LONG_SINGLE_QUOTE ∣ tok STRING_LITERAL_LONG_QUOTE
production mode iri = tok IRIREF ∣ nt PrefixedName
production mode PrefixedName = tok PNAME_LN ∣ tok PNAME_NS
production mode BlankNode = tok BLANK_NODE_LABEL ∣ nt ANON
production mode ANON = tok open_bracket ⨾ tok close_bracket

-- "The entry point into the grammar is trigDoc" (4.5, note 6); Turtle's is turtleDoc.
unfoldable pub root : Mode → Nonterminal
root trig = trigDoc
root turtle = turtleDoc

abbrev pub kind_of : Token → Kind
kind_of t = t.kind

-- The derivations of documents, and what is said of a list of tokens.
abbrev pub Derivation : Mode → Type 0
Derivation mode = Tree kind_of (production mode) (nt (root mode))

abbrev pub Grammatical : Mode → List Token → Type 0
Grammatical mode ts = Derives kind_of (production mode) (root mode) ts

abbrev pub BeginsGrammatical : Mode → List Token → Type 0
BeginsGrammatical mode ts = Begins kind_of (production mode) (root mode) ts

abbrev pub GrammarFailsAt : Mode → List Token → ℕ → Type 0
GrammarFailsAt mode ts i = FailsAt kind_of (production mode) (root mode) ts i

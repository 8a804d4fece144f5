-- Nonterminals by number: what a test finds of each in the list holds of each.
use mathlib.Core.Path.{◌≡◌, refl, subst}
use mathlib.Core.List.{List, [], ◌∷◌}
use mathlib.Core.Bool.{Bool}
use Prim.Native.Nat.{ℕ}
use lib.Dec.{T}
use lib.ListN.{get_or}
use Rattle.text.proofs.Booleans.{and_0, all}
use Rattle.token.proofs.KindCodes.{all_at}
use Rattle.grammar.specs.Productions.{Nonterminal, trigDoc, block, triplesOrGraph, triples2, wrappedGraph, triplesBlock, labelOrSubject, turtleDoc, statement, directive, prefixID, base, sparqlPrefix, sparqlBase, triples, predicateObjectList, objectList, verb, subject, predicate, object, literal, blank, blankNodePropertyList, collection, NumericLiteral, RDFLiteral, BooleanLiteral, String, iri, PrefixedName, BlankNode, ANON}

unfoldable pub nonterminal_code : Nonterminal → ℕ
nonterminal_code trigDoc = 0
nonterminal_code block = 1
nonterminal_code triplesOrGraph = 2
nonterminal_code triples2 = 3
nonterminal_code wrappedGraph = 4
nonterminal_code triplesBlock = 5
nonterminal_code labelOrSubject = 6
nonterminal_code turtleDoc = 7
nonterminal_code statement = 8
nonterminal_code directive = 9
nonterminal_code prefixID = 10
nonterminal_code base = 11
nonterminal_code sparqlPrefix = 12
nonterminal_code sparqlBase = 13
nonterminal_code triples = 14
nonterminal_code predicateObjectList = 15
nonterminal_code objectList = 16
nonterminal_code verb = 17
nonterminal_code subject = 18
nonterminal_code predicate = 19
nonterminal_code object = 20
nonterminal_code literal = 21
nonterminal_code blank = 22
nonterminal_code blankNodePropertyList = 23
nonterminal_code collection = 24
nonterminal_code NumericLiteral = 25
nonterminal_code RDFLiteral = 26
nonterminal_code BooleanLiteral = 27
nonterminal_code String = 28
nonterminal_code iri = 29
nonterminal_code PrefixedName = 30
nonterminal_code BlankNode = 31
nonterminal_code ANON = 32

unfoldable pub nonterminals : List Nonterminal
nonterminals =
    trigDoc ∷ block ∷ triplesOrGraph ∷ triples2 ∷ wrappedGraph ∷ triplesBlock ∷ labelOrSubject ∷ turtleDoc ∷ statement ∷ directive ∷ prefixID ∷ base ∷ sparqlPrefix ∷ sparqlBase ∷ triples ∷ predicateObjectList ∷ objectList ∷ verb ∷ subject ∷ predicate ∷ object ∷ literal ∷ blank ∷ blankNodePropertyList ∷ collection ∷ NumericLiteral ∷ RDFLiteral ∷ BooleanLiteral ∷ String ∷ iri ∷ PrefixedName ∷ BlankNode ∷ ANON ∷ []

nonterminal_back : (n : Nonterminal) → get_or nonterminals (nonterminal_code n) trigDoc ≡ n
unfolding nonterminals nonterminal_code
nonterminal_back trigDoc = refl
nonterminal_back block = refl
nonterminal_back triplesOrGraph = refl
nonterminal_back triples2 = refl
nonterminal_back wrappedGraph = refl
nonterminal_back triplesBlock = refl
nonterminal_back labelOrSubject = refl
nonterminal_back turtleDoc = refl
nonterminal_back statement = refl
nonterminal_back directive = refl
nonterminal_back prefixID = refl
nonterminal_back base = refl
nonterminal_back sparqlPrefix = refl
nonterminal_back sparqlBase = refl
nonterminal_back triples = refl
nonterminal_back predicateObjectList = refl
nonterminal_back objectList = refl
nonterminal_back verb = refl
nonterminal_back subject = refl
nonterminal_back predicate = refl
nonterminal_back object = refl
nonterminal_back literal = refl
nonterminal_back blank = refl
nonterminal_back blankNodePropertyList = refl
nonterminal_back collection = refl
nonterminal_back NumericLiteral = refl
nonterminal_back RDFLiteral = refl
nonterminal_back BooleanLiteral = refl
nonterminal_back String = refl
nonterminal_back iri = refl
nonterminal_back PrefixedName = refl
nonterminal_back BlankNode = refl
nonterminal_back ANON = refl

pub each_nonterminal : (p : Nonterminal → Bool) → T (all p nonterminals) → (n : Nonterminal) → T (p n)
unfolding all nonterminals
each_nonterminal p t n = subst (λ m. T (p m)) (nonterminal_back n) (all_at p trigDoc nonterminals (and_0 (p trigDoc) _ t) t (nonterminal_code n))

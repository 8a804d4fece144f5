-- Each production keeps to what it means; so the machine and the construction agree on every document that has a derivation.
use mathlib.Core.Path.{◌≡◌, refl, sym, ap, ap₂, ◌∙◌, subst}
use mathlib.Core.Logic.{◌⊎◌, inl, inr}
use mathlib.Core.List.{List, [], ◌∷◌, ◌++◌, append-nil}
use mathlib.Core.Bool.{false}
use mathlib.Core.Option.{Option, none, some}
use Prim.Native.Nat.{ℕ}
use Rattle.grammar.specs.Ebnf.{tok, nt, ◌⨾◌, ◌∣◌, opt}
use Rattle.token.specs.Kind.{Kind, semicolon, comma, open_bracket, close_bracket, IRIREF, PNAME_NS, PNAME_LN, STRING_LITERAL_QUOTE, STRING_LITERAL_SINGLE_QUOTE, STRING_LITERAL_LONG_SINGLE_QUOTE, STRING_LITERAL_LONG_QUOTE}
use Rattle.grammar.specs.Productions.{Nonterminal, Mode, trig, turtle, production, trigDoc, block, triplesOrGraph, triples2, wrappedGraph, triplesBlock, labelOrSubject, turtleDoc, statement as statement_nt, directive as directive_nt, prefixID, base as base_nt, sparqlPrefix, sparqlBase, triples, subject as subject_nt, predicate as predicate_nt, predicateObjectList, objectList, verb as verb_nt, object as object_nt, literal as literal_nt, blank as blank_nt, blankNodePropertyList, collection, NumericLiteral, RDFLiteral, BooleanLiteral, String as String_nt, iri as iri_nt, PrefixedName, BlankNode, ANON}
use Rattle.token.specs.Tokens.{Token}
use Rattle.machine.specs.Memory.{Write, Done, ◌>>=◌, ◌>>◌, term}
use Rattle.dataset.specs.Terms.{label, xsd_integer, xsd_decimal, xsd_double, xsd_boolean, blank}
use Rattle.machine.specs.Frame.{object, list, bracket, subject_before, object_of, element_of, after_object, statement}
use Rattle.machine.specs.Rules.{rules, extended}
use Rattle.dataset.specs.Constructors.{node_label}
use Rattle.machine.specs.Construction.{Node, Meaning, action, iri_node, typed_node, simple, cell_of, rdf_literal, bracket_node, collection_node, object_list, properties, alone, triples_of, graph_of, prefix_of, base_of, in_turn, bracket_term}
use Rattle.grammar.specs.Meaning.{Parts}
use Rattle.dataset.specs.Statements.{either}
use Rattle.machine.proofs.Decide.{ties}
use Rattle.machine.proofs.Agreement.{final, at_finish, taken, Agreement_trig, Agreement_turtle, first, in_object, in_list, begin_of, Writes, Iris, reference, name, namespace, Stringy, quote, single, long_single, long, Commas, last, also, reference_writes, name_writes, namespace_writes, label_writes, integer_writes, decimal_writes, double_writes, true_writes, false_writes, quote_writes, single_writes, long_single_writes, long_writes, tagged_writes, typed_writes, object_list_writes}
use Rattle.machine.proofs.Nested.{named, typing, WritesObjects, WritesProperties, Semicolons, no_more, bare, full, properties_write, bracket_writes, Elements, no_element, next, collection_writes}
use Rattle.machine.proofs.Subjects.{head_iri, label_iri, head_label, label_label, head_anon, label_anon, bracket_head, list_head}
use Rattle.machine.proofs.Statements.{SubjectBy, StatementBy, DocumentBy, default, triples_plain, triples_bracket, triples_more, block_one, block_dot, block_more, block_none, graph_writes, prefix_writes, base_writes, sparql_prefix_writes, sparql_base_writes, label_graph, label_triples, list_triples, bracket_alone, bracket_triples, named_graph, turtle_triples}
use Rattle.machine.proofs.Objects.{NodeBy, OneToken, RightN, Right, Repeats, stop, again, right_tree}

module _ (mode : Mode) where
  move : (x : Node) {ts us : List Token} → ts ≡ us → NodeBy mode us x → NodeBy mode ts x
  move x e h = subst (λ l. NodeBy mode l x) (sym e) h

  one : (x : Node) {k : Kind} (t : Token) → t.kind ≡ k → ties k ≡ false → Writes mode (t ∷ []) x → NodeBy mode (t ∷ []) x
  one x t p u w = (w, λ us. ap ties p ∙ u)

  iri_by : {ts : List Token} (t : Token) → OneToken mode (Iris mode) ts t → NodeBy mode ts (iri_node t)
  iri_by t (e, (k, i, p)) = move (iri_node t) e (go i p)
    where
      go : {j : Kind} → Iris mode j → t.kind ≡ j → NodeBy mode (t ∷ []) (iri_node t)
      go reference p = one (iri_node t) t p refl (reference_writes mode t p)
      go name p = one (iri_node t) t p refl (name_writes mode t p)
      go namespace p = one (iri_node t) t p refl (namespace_writes mode t p)

  string_by : {k : Kind} (t : Token) → Stringy mode k → t.kind ≡ k → NodeBy mode (t ∷ []) (rdf_literal (t, none))
  string_by t quote p = one (rdf_literal (t, none)) t p refl (quote_writes mode t p)
  string_by t single p = one (rdf_literal (t, none)) t p refl (single_writes mode t p)
  string_by t long_single p = one (rdf_literal (t, none)) t p refl (long_single_writes mode t p)
  string_by t long p = one (rdf_literal (t, none)) t p refl (long_writes mode t p)

  stringy_untied : {k : Kind} → Stringy mode k → ties k ≡ false
  stringy_untied quote = refl
  stringy_untied single = refl
  stringy_untied long_single = refl
  stringy_untied long = refl

  anon_writes : (t u : Token) → t.kind ≡ open_bracket → u.kind ≡ close_bracket → Writes mode (t ∷ u ∷ []) (simple t (bracket_term t))
  unfolding taken rules
  anon_writes t u p q (in_object s r e) K m us h =
      let x = simple t (bracket_term t) (begin_of (in_object s r e)) m in
      first mode t open_bracket (u ∷ us) (ties u.kind) (statement (object s r e ∷ K)) m p refl
      ∙ first mode u close_bracket us false (statement (bracket (object_of s r) x.0.node ∷ after_object s r e ∷ K)) x.1 q h
  anon_writes t u p q (in_list place opened cs) K m us h =
      let x = simple t (bracket_term t) (begin_of (in_list place opened cs)) m in
      let c = cell_of x.0.place in
      first mode t open_bracket (u ∷ us) (ties u.kind) (statement (list place opened cs ∷ K)) m p refl
      ∙ first mode u close_bracket us false (statement (bracket (element_of c) x.0.node ∷ list place opened (extended cs c) ∷ K)) x.1 q h

  elements_of : {ts : List Token} {xs : List Node} → Repeats mode (Right mode (nt object_nt)) ts xs → Elements mode ts xs
  elements_of stop = no_element
  elements_of (again ts us x xs h r) = next ts us x xs h.1 h.0 (elements_of r)

  commas_of : {ts : List Token} {xs : List (Token × Node)} → Repeats mode (Right mode (tok comma ⨾ nt object_nt)) ts xs → Commas mode ts xs
  commas_of stop = last
  commas_of (again ts us x xs (cs, os, e, (d, p), h) r) =
      subst (λ l. Commas mode l (x ∷ xs)) (sym (ap (λ l. l ++ us) (e ∙ ap (λ l. l ++ os) d))) (also x.0 os us x.1 xs p h.0 (commas_of r))

  semicolons_of : {ts : List Token} {ps : List (Token × Option (Write ℕ × (ℕ → ℕ → Write Done)))} → Repeats mode (Right mode (tok semicolon ⨾ opt (nt verb_nt ⨾ nt objectList))) ts ps → Semicolons mode ts ps
  semicolons_of stop = no_more
  semicolons_of (again ts us (c, none) ps (cs, os, e, (d, p), h) r) =
      subst (λ l. Semicolons mode l ((c, none) ∷ ps)) (sym (ap (λ l. l ++ us) (e ∙ ap₂ ◌++◌ d h))) (bare c us ps p (semicolons_of r))
  semicolons_of (again ts us (c, some (w, q)) ps (cs, os, e, (d, p), (vs, xs, e', (v, f, y), z)) r) =
      subst (λ l. Semicolons mode l ((c, some (w, q)) ∷ ps)) (sym (ap (λ l. l ++ us) (e ∙ ap₂ ◌++◌ d (e' ∙ ap (λ l. l ++ xs) f))))
      (full c v xs us w q ps p y z (semicolons_of r))

  -- ---- The productions

  name_correct : (ts : List Token) (a : Parts Token Meaning (production mode PrefixedName)) → Right mode (production mode PrefixedName) ts a → RightN mode PrefixedName ts (action mode PrefixedName a)
  unfolding production
  name_correct ts (inl t) (e, p) = (e, (PNAME_LN, name, p))
  name_correct ts (inr t) (e, p) = (e, (PNAME_NS, namespace, p))

  iri_correct : (ts : List Token) (a : Parts Token Meaning (production mode iri_nt)) → Right mode (production mode iri_nt) ts a → RightN mode iri_nt ts (action mode iri_nt a)
  unfolding production
  iri_correct ts (inl t) (e, p) = (e, (IRIREF, reference, p))
  iri_correct ts (inr t) h = h

  string_correct : (ts : List Token) (a : Parts Token Meaning (production mode String_nt)) → Right mode (production mode String_nt) ts a → RightN mode String_nt ts (action mode String_nt a)
  unfolding production
  string_correct ts (inl t) (e, p) = (e, (STRING_LITERAL_QUOTE, quote, p))
  string_correct ts (inr (inl t)) (e, p) = (e, (STRING_LITERAL_SINGLE_QUOTE, single, p))
  string_correct ts (inr (inr (inl t))) (e, p) = (e, (STRING_LITERAL_LONG_SINGLE_QUOTE, long_single, p))
  string_correct ts (inr (inr (inr t))) (e, p) = (e, (STRING_LITERAL_LONG_QUOTE, long, p))

  verb_correct : (ts : List Token) (a : Parts Token Meaning (production mode verb_nt)) → Right mode (production mode verb_nt) ts a → RightN mode verb_nt ts (action mode verb_nt a)
  unfolding production
  verb_correct ts (inl t) (e, (k, i, p)) = (t, e, named t i p)
  verb_correct ts (inr t) (e, p) = (t, e, typing t p)

  number_correct : (ts : List Token) (a : Parts Token Meaning (production mode NumericLiteral)) → Right mode (production mode NumericLiteral) ts a → RightN mode NumericLiteral ts (action mode NumericLiteral a)
  unfolding production
  number_correct ts (inl t) (e, p) = move (typed_node xsd_integer t) e (one (typed_node xsd_integer t) t p refl (integer_writes mode t p))
  number_correct ts (inr (inl t)) (e, p) = move (typed_node xsd_decimal t) e (one (typed_node xsd_decimal t) t p refl (decimal_writes mode t p))
  number_correct ts (inr (inr t)) (e, p) = move (typed_node xsd_double t) e (one (typed_node xsd_double t) t p refl (double_writes mode t p))

  boolean_correct : (ts : List Token) (a : Parts Token Meaning (production mode BooleanLiteral)) → Right mode (production mode BooleanLiteral) ts a → RightN mode BooleanLiteral ts (action mode BooleanLiteral a)
  unfolding production
  boolean_correct ts (inl t) (e, p) = move (typed_node xsd_boolean t) e (one (typed_node xsd_boolean t) t p refl (true_writes mode t p))
  boolean_correct ts (inr t) (e, p) = move (typed_node xsd_boolean t) e (one (typed_node xsd_boolean t) t p refl (false_writes mode t p))

  literal_correct : (ts : List Token) (a : Parts Token Meaning (production mode RDFLiteral)) → Right mode (production mode RDFLiteral) ts a → RightN mode RDFLiteral ts (action mode RDFLiteral a)
  unfolding production
  literal_correct ts (t, none) (us, vs, e, (d, (k, i, p)), h) = move (rdf_literal (t, none)) (e ∙ ap₂ ◌++◌ d h) (string_by t i p)
  literal_correct ts (t, some (inl g)) (us, vs, e, (d, (k, i, p)), (f, q)) =
      move (rdf_literal (t, some (inl g))) (e ∙ ap₂ ◌++◌ d f) (tagged_writes mode i t g p q, λ ws. ap ties p ∙ stringy_untied i)
  literal_correct ts (t, some (inr (c, x))) (us, vs, e, (d, (k, i, p)), (cs, ds, f, (g, q), (h, (j, y, r)))) =
      move (rdf_literal (t, some (inr (c, x)))) (e ∙ ap₂ ◌++◌ d (f ∙ ap₂ ◌++◌ g h)) (typed_writes mode i y t c x p q r, λ ws. ap ties p ∙ stringy_untied i)

  shift : (n : Nonterminal) (x : Meaning n) {ts us : List Token} → ts ≡ us → RightN mode n us x → RightN mode n ts x
  shift n x e h = subst (λ l. RightN mode n l x) (sym e) h

  anon_correct : (ts : List Token) (a : Parts Token Meaning (production mode ANON)) → Right mode (production mode ANON) ts a → RightN mode ANON ts (action mode ANON a)
  unfolding production
  anon_correct ts (t, u) (us, vs, e, (d, p), (f, q)) =
      shift ANON (simple t (bracket_term t)) (e ∙ ap₂ ◌++◌ d f) ((anon_writes t u p q, λ ws. ap ties p), head_anon mode t u p q, label_anon mode t u p q)

  blank_node_correct : (ts : List Token) (a : Parts Token Meaning (production mode BlankNode)) → Right mode (production mode BlankNode) ts a → RightN mode BlankNode ts (action mode BlankNode a)
  unfolding production
  blank_node_correct ts (inl t) (e, p) =
      let x = simple t (term (blank (label (node_label t)))) in
      shift BlankNode x e (one x t p refl (label_writes mode t p), head_label mode t p, label_label mode t p)
  blank_node_correct ts (inr x) h = h

  bracket_correct : (ts : List Token) (a : Parts Token Meaning (production mode blankNodePropertyList)) → Right mode (production mode blankNodePropertyList) ts a → RightN mode blankNodePropertyList ts (action mode blankNodePropertyList a)
  unfolding production
  bracket_correct ts (t, (f, u)) (us, vs, e, (d, p), (ws, xs, g, h, (i, q))) =
      shift blankNodePropertyList (bracket_node (t, (f, u))) (e ∙ ap₂ ◌++◌ d (g ∙ ap (λ l. ws ++ l) i))
      ((bracket_writes mode t u ws f p q h, λ l. ap ties p), bracket_head mode t u ws f p q h)

  collection_correct : (ts : List Token) (a : Parts Token Meaning (production mode collection)) → Right mode (production mode collection) ts a → RightN mode collection ts (action mode collection a)
  unfolding production
  collection_correct ts (t, (ys, u)) (us, vs, e, (d, p), (ws, xs, g, h, (i, q))) =
      shift collection (collection_node (t, (ys, u))) (e ∙ ap₂ ◌++◌ d (g ∙ ap (λ l. ws ++ l) i))
      ((collection_writes mode t u p q (elements_of h), λ l. ap ties p), list_head mode t u p q (elements_of h))

  objects_correct : (ts : List Token) (a : Parts Token Meaning (production mode objectList)) → Right mode (production mode objectList) ts a → RightN mode objectList ts (action mode objectList a)
  unfolding production
  objects_correct ts (x, xs) (us, vs, e, h, r) =
      subst (λ l. WritesObjects mode l (object_list (x, xs))) (sym e) (object_list_writes mode us x h.0 (commas_of r))

  properties_correct : (ts : List Token) (a : Parts Token Meaning (production mode predicateObjectList)) → Right mode (production mode predicateObjectList) ts a → RightN mode predicateObjectList ts (action mode predicateObjectList a)
  unfolding production
  properties_correct ts (w, (os, ps)) (us, vs, e, (v, d, x), (ys, zs, f, y, r)) =
      subst (λ l. WritesProperties mode l (properties (w, (os, ps)))) (sym (e ∙ ap₂ ◌++◌ d f)) (properties_write mode ys os x y (semicolons_of r))

  any_literal_correct : (ts : List Token) (a : Parts Token Meaning (production mode literal_nt)) → Right mode (production mode literal_nt) ts a → RightN mode literal_nt ts (action mode literal_nt a)
  unfolding production
  any_literal_correct ts (inl x) h = h
  any_literal_correct ts (inr (inl x)) h = h
  any_literal_correct ts (inr (inr x)) h = h

  blank_correct : (ts : List Token) (a : Parts Token Meaning (production mode blank_nt)) → Right mode (production mode blank_nt) ts a → RightN mode blank_nt ts (action mode blank_nt a)
  unfolding production
  blank_correct ts (inl x) h = (h.0, λ o e K a m us. h.1 o (subject_before e) K a m us)
  blank_correct ts (inr x) h = (h.0, λ o e K a m us. h.1 o (subject_before e) K a m us)

  label_correct : (ts : List Token) (a : Parts Token Meaning (production mode labelOrSubject)) → Right mode (production mode labelOrSubject) ts a → RightN mode labelOrSubject ts (action mode labelOrSubject a)
  unfolding production
  label_correct ts (inl t) (e, (k, i, p)) = shift labelOrSubject (iri_node t) e (head_iri mode t i p, label_iri mode t i p)
  label_correct ts (inr x) h = (h.1, h.2)

  triples_correct : (ts : List Token) (a : Parts Token Meaning (production mode triples)) → Right mode (production mode triples) ts a → RightN mode triples ts (action mode triples a)
  unfolding production
  triples_correct ts (inl (x, f)) (us, vs, e, h, g) = shift triples (triples_of (inl (x, f))) e (triples_plain mode us vs x f h g)
  triples_correct ts (inr (x, none)) (us, vs, e, h, g) = shift triples (triples_of (inr (x, none))) (e ∙ ap (λ l. us ++ l) g ∙ append-nil us) (triples_bracket mode us x h.1)
  triples_correct ts (inr (x, some f)) (us, vs, e, h, g) = shift triples (triples_of (inr (x, some f))) e (triples_more mode us vs x f h.1 g)

  block_correct : (ts : List Token) (a : Parts Token Meaning (production mode triplesBlock)) → Right mode (production mode triplesBlock) ts a → RightN mode triplesBlock ts (action mode triplesBlock a)
  unfolding production
  block_correct ts (w, none) (us, vs, e, h, g) = shift triplesBlock w (e ∙ ap (λ l. us ++ l) g ∙ append-nil us) (block_one mode us w h)
  block_correct ts (w, some (d, none)) (us, vs, e, h, (ws, xs, f, (c, p), g)) = shift triplesBlock w (e ∙ ap (λ l. us ++ l) (f ∙ ap₂ ◌++◌ c g)) (block_dot mode us d w p h)
  block_correct ts (w, some (d, some v)) (us, vs, e, h, (ws, xs, f, (c, p), g)) = shift triplesBlock (w >> v) (e ∙ ap (λ l. us ++ l) (f ∙ ap (λ l. l ++ xs) c)) (block_more mode us xs d w v p h g)

  graph_correct : (ts : List Token) (a : Parts Token Meaning (production mode wrappedGraph)) → Right mode (production mode wrappedGraph) ts a → RightN mode wrappedGraph ts (action mode wrappedGraph a)
  unfolding production
  graph_correct ts (t, (none, u)) (us, vs, e, (d, p), (ws, xs, g, h, (i, q))) =
      shift wrappedGraph (graph_of (t, (none, u))) (e ∙ ap₂ ◌++◌ d (g ∙ ap₂ ◌++◌ h i)) (graph_writes mode [] t u none p q (block_none mode))
  graph_correct ts (t, (some w, u)) (us, vs, e, (d, p), (ws, xs, g, h, (i, q))) =
      shift wrappedGraph (graph_of (t, (some w, u))) (e ∙ ap₂ ◌++◌ d (g ∙ ap (λ l. ws ++ l) i)) (graph_writes mode ws t u (some w) p q h)

  prefix_correct : (ts : List Token) (a : Parts Token Meaning (production mode prefixID)) → Right mode (production mode prefixID) ts a → RightN mode prefixID ts (action mode prefixID a)
  unfolding production
  prefix_correct ts (t, (p, (i, x))) (us, vs, e, (a, b), (us₂, vs₂, e₂, (a₂, b₂), (us₃, vs₃, e₃, (a₃, b₃), (a₄, b₄)))) =
      shift prefixID (prefix_of p i) (e ∙ ap₂ ◌++◌ a (e₂ ∙ ap₂ ◌++◌ a₂ (e₃ ∙ ap₂ ◌++◌ a₃ a₄))) (prefix_writes mode t p i x b b₂ b₃ b₄)

  base_correct : (ts : List Token) (a : Parts Token Meaning (production mode base_nt)) → Right mode (production mode base_nt) ts a → RightN mode base_nt ts (action mode base_nt a)
  unfolding production
  base_correct ts (t, (i, x)) (us, vs, e, (a, b), (us₂, vs₂, e₂, (a₂, b₂), (a₃, b₃))) =
      shift base_nt (base_of i) (e ∙ ap₂ ◌++◌ a (e₂ ∙ ap₂ ◌++◌ a₂ a₃)) (base_writes mode t i x b b₂ b₃)

  sparql_prefix_correct : (ts : List Token) (a : Parts Token Meaning (production mode sparqlPrefix)) → Right mode (production mode sparqlPrefix) ts a → RightN mode sparqlPrefix ts (action mode sparqlPrefix a)
  unfolding production
  sparql_prefix_correct ts (t, (p, i)) (us, vs, e, (a, b), (us₂, vs₂, e₂, (a₂, b₂), (a₃, b₃))) =
      shift sparqlPrefix (prefix_of p i) (e ∙ ap₂ ◌++◌ a (e₂ ∙ ap₂ ◌++◌ a₂ a₃)) (sparql_prefix_writes mode t p i b b₂ b₃)

  sparql_base_correct : (ts : List Token) (a : Parts Token Meaning (production mode sparqlBase)) → Right mode (production mode sparqlBase) ts a → RightN mode sparqlBase ts (action mode sparqlBase a)
  unfolding production
  sparql_base_correct ts (t, i) (us, vs, e, (a, b), (a₂, b₂)) = shift sparqlBase (base_of i) (e ∙ ap₂ ◌++◌ a a₂) (sparql_base_writes mode t i b b₂)

  directive_correct : (ts : List Token) (a : Parts Token Meaning (production mode directive_nt)) → Right mode (production mode directive_nt) ts a → RightN mode directive_nt ts (action mode directive_nt a)
  unfolding production
  directive_correct ts (inl w) h = h
  directive_correct ts (inr (inl w)) h = h
  directive_correct ts (inr (inr (inl w))) h = h
  directive_correct ts (inr (inr (inr w))) h = h

predicate_correct : (mode : Mode) (ts : List Token) (a : Parts Token Meaning (production mode predicate_nt)) → Right mode (production mode predicate_nt) ts a → RightN mode predicate_nt ts (action mode predicate_nt a)
unfolding production
predicate_correct mode ts t h = h

object_correct : (mode : Mode) (ts : List Token) (a : Parts Token Meaning (production mode object_nt)) → Right mode (production mode object_nt) ts a → RightN mode object_nt ts (action mode object_nt a)
unfolding production
object_correct trig ts (inl t) h = iri_by trig t h
object_correct trig ts (inr (inl x)) h = h.0
object_correct trig ts (inr (inr (inl x))) h = h.0
object_correct trig ts (inr (inr (inr x))) h = h
object_correct turtle ts (inl t) h = iri_by turtle t h
object_correct turtle ts (inr (inl x)) h = h.0
object_correct turtle ts (inr (inr (inl x))) h = h.0
object_correct turtle ts (inr (inr (inr (inl x)))) h = h.0
object_correct turtle ts (inr (inr (inr (inr x)))) h = h

subject_correct : (mode : Mode) (ts : List Token) (a : Parts Token Meaning (production mode subject_nt)) → Right mode (production mode subject_nt) ts a → RightN mode subject_nt ts (action mode subject_nt a)
unfolding production
subject_correct trig ts (inl t) (d, (k, i, p)) = subst (λ l. SubjectBy trig l (iri_node t)) (sym d) (λ o e K a m us. head_iri trig t i p o (subject_before e) K a m us)
subject_correct trig ts (inr x) h = h.1
subject_correct turtle ts (inl t) (d, (k, i, p)) = subst (λ l. SubjectBy turtle l (iri_node t)) (sym d) (λ o e K a m us. head_iri turtle t i p o (subject_before e) K a m us)
subject_correct turtle ts (inr (inl x)) h = λ o e K a m us. h.1 o (subject_before e) K a m us
subject_correct turtle ts (inr (inr x)) h = λ o e K a m us. h.1 o (subject_before e) K a m us

to_trig : (ts us : List Token) (w : Write Done) → ts ≡ us → StatementBy trig us w → StatementBy trig ts w
to_trig ts us w e h = subst (λ l. StatementBy trig l w) (sym e) h

label_block_correct : (mode : Mode) (ts : List Token) (a : Parts Token Meaning (production mode triplesOrGraph)) → Right mode (production mode triplesOrGraph) ts a → RightN mode triplesOrGraph ts (action mode triplesOrGraph a)
unfolding production
label_block_correct trig ts (x, inl g) (us, vs, e, h, f) = to_trig ts (us ++ vs) (alone x >>= g) e (label_graph us vs x g h.0 f)
label_block_correct trig ts (x, inr (f, d)) (us, vs, e, h, (ws, xs, c, g, (i, p))) =
    to_trig ts (us ++ (ws ++ d ∷ [])) (alone x >>= f) (e ∙ ap (λ l. us ++ l) (c ∙ ap (λ l. ws ++ l) i)) (label_triples us ws d x f h.0 g p)
label_block_correct turtle ts a h = tt

triples2_correct : (mode : Mode) (ts : List Token) (a : Parts Token Meaning (production mode triples2)) → Right mode (production mode triples2) ts a → RightN mode triples2 ts (action mode triples2 a)
unfolding production
triples2_correct trig ts (inl (x, (none, d))) (us, vs, e, h, (ws, xs, c, g, (i, p))) =
    to_trig ts (us ++ d ∷ []) (triples_of (inr (x, none))) (e ∙ ap (λ l. us ++ l) (c ∙ ap₂ ◌++◌ g i)) (bracket_alone us d x h.1 p)
triples2_correct trig ts (inl (x, (some f, d))) (us, vs, e, h, (ws, xs, c, g, (i, p))) =
    to_trig ts (us ++ (ws ++ d ∷ [])) (alone x >>= f) (e ∙ ap (λ l. us ++ l) (c ∙ ap (λ l. ws ++ l) i)) (bracket_triples us ws d x f h.1 g p)
triples2_correct trig ts (inr (x, (f, d))) (us, vs, e, h, (ws, xs, c, g, (i, p))) =
    to_trig ts (us ++ (ws ++ d ∷ [])) (alone x >>= f) (e ∙ ap (λ l. us ++ l) (c ∙ ap (λ l. ws ++ l) i)) (list_triples us ws d x f h.1 g p)
triples2_correct turtle ts a h = tt

trig_block_correct : (mode : Mode) (ts : List Token) (a : Parts Token Meaning (production mode block)) → Right mode (production mode block) ts a → RightN mode block ts (action mode block a)
unfolding production
trig_block_correct trig ts (inl w) h = h
trig_block_correct trig ts (inr (inl g)) h = λ m us. h (statement []) 0 [] default m us
trig_block_correct trig ts (inr (inr (inl w))) h = h
trig_block_correct trig ts (inr (inr (inr (t, (x, g))))) (us, vs, e, (d, p), (ws, xs, c, h, f)) =
    to_trig ts (t ∷ (ws ++ xs)) (alone x >>= g) (e ∙ ap₂ ◌++◌ d c) (named_graph ws xs t x g p h.1 f)
trig_block_correct turtle ts a h = tt

statement_correct : (mode : Mode) (ts : List Token) (a : Parts Token Meaning (production mode statement_nt)) → Right mode (production mode statement_nt) ts a → RightN mode statement_nt ts (action mode statement_nt a)
unfolding production
statement_correct trig ts a h = tt
statement_correct turtle ts (inl w) h = h
statement_correct turtle ts (inr (w, d)) (us, vs, e, h, (i, p)) = subst (λ l. StatementBy turtle l w) (sym (e ∙ ap (λ l. us ++ l) i)) (turtle_triples us d w h p)

trig_document : {ts : List Token} {xs : List (Write Done ⊎ Write Done)} → Repeats trig (Right trig (nt directive_nt ∣ nt block)) ts xs → DocumentBy trig ts (in_turn either xs)
unfolding final at_finish
trig_document stop m = refl
trig_document (again ts us (inl w) xs h r) m = h m us ∙ trig_document r (w m).1
trig_document (again ts us (inr w) xs h r) m = h m us ∙ trig_document r (w m).1

turtle_document : {ts : List Token} {xs : List (Write Done)} → Repeats turtle (Right turtle (nt statement_nt)) ts xs → DocumentBy turtle ts (in_turn (λ w. w) xs)
unfolding final at_finish
turtle_document stop m = refl
turtle_document (again ts us w xs h r) m = h m us ∙ turtle_document r (w m).1

trig_doc_correct : (mode : Mode) (ts : List Token) (a : Parts Token Meaning (production mode trigDoc)) → Right mode (production mode trigDoc) ts a → RightN mode trigDoc ts (action mode trigDoc a)
unfolding production
trig_doc_correct trig ts xs h = trig_document h
trig_doc_correct turtle ts xs h = tt

turtle_doc_correct : (mode : Mode) (ts : List Token) (a : Parts Token Meaning (production mode turtleDoc)) → Right mode (production mode turtleDoc) ts a → RightN mode turtleDoc ts (action mode turtleDoc a)
unfolding production
turtle_doc_correct trig ts xs h = tt
turtle_doc_correct turtle ts xs h = turtle_document h

correct : (mode : Mode) (n : Nonterminal) (ts : List Token) (a : Parts Token Meaning (production mode n)) → Right mode (production mode n) ts a → RightN mode n ts (action mode n a)
correct mode trigDoc ts a h = trig_doc_correct mode ts a h
correct mode block ts a h = trig_block_correct mode ts a h
correct mode triplesOrGraph ts a h = label_block_correct mode ts a h
correct mode triples2 ts a h = triples2_correct mode ts a h
correct mode wrappedGraph ts a h = graph_correct mode ts a h
correct mode triplesBlock ts a h = block_correct mode ts a h
correct mode labelOrSubject ts a h = label_correct mode ts a h
correct mode turtleDoc ts a h = turtle_doc_correct mode ts a h
correct mode statement_nt ts a h = statement_correct mode ts a h
correct mode directive_nt ts a h = directive_correct mode ts a h
correct mode prefixID ts a h = prefix_correct mode ts a h
correct mode base_nt ts a h = base_correct mode ts a h
correct mode sparqlPrefix ts a h = sparql_prefix_correct mode ts a h
correct mode sparqlBase ts a h = sparql_base_correct mode ts a h
correct mode triples ts a h = triples_correct mode ts a h
correct mode subject_nt ts a h = subject_correct mode ts a h
correct mode predicateObjectList ts a h = properties_correct mode ts a h
correct mode objectList ts a h = objects_correct mode ts a h
correct mode verb_nt ts a h = verb_correct mode ts a h
correct mode object_nt ts a h = object_correct mode ts a h
correct mode literal_nt ts a h = any_literal_correct mode ts a h
correct mode blank_nt ts a h = blank_correct mode ts a h
correct mode blankNodePropertyList ts a h = bracket_correct mode ts a h
correct mode collection ts a h = collection_correct mode ts a h
correct mode NumericLiteral ts a h = number_correct mode ts a h
correct mode RDFLiteral ts a h = literal_correct mode ts a h
correct mode BooleanLiteral ts a h = boolean_correct mode ts a h
correct mode String_nt ts a h = string_correct mode ts a h
correct mode iri_nt ts a h = iri_correct mode ts a h
correct mode PrefixedName ts a h = name_correct mode ts a h
correct mode BlankNode ts a h = blank_node_correct mode ts a h
correct mode ANON ts a h = anon_correct mode ts a h
correct mode predicate_nt ts a h = predicate_correct mode ts a h

-- The memory after the tokens of a document's tree is the tree's meaning.
pub agreement_trig : Agreement_trig
agreement_trig x m = right_tree trig (correct trig) x m

pub agreement_turtle : Agreement_turtle
agreement_turtle x m = right_tree turtle (correct turtle) x m

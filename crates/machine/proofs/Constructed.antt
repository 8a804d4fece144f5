-- The tables that a derivation makes hold the statements that it constructs: a relation between what each part writes and what it says,
-- by recursion on the right sides of productions.
use mathlib.Core.Path.{◌≡◌, refl, sym, ap, ◌∙◌, subst}
use mathlib.Core.Logic.{◌⊎◌, inl, inr}
use mathlib.Core.List.{List, [], ◌∷◌, ◌++◌, append-nil, append_assoc, map-append}
use mathlib.Core.Option.{Option, none, some}
use Prim.Native.Nat.{ℕ}
use Rattle.text.specs.Text.{Text}
use Rattle.token.specs.Kind.{Kind, LANGTAG, carets, dot, semicolon}
use Rattle.token.specs.Tokens.{Token}
use Rattle.grammar.specs.Ebnf.{Expr, tok, nt, ◌⨾◌, ◌∣◌, star, opt, Tree, leaf, node, both, left, right, done as done_tree, more, absent, present}
use Rattle.grammar.specs.Meaning.{Parts, meaning}
use Rattle.grammar.specs.Productions.{Nonterminal, Mode, trig, turtle, production, root, kind_of, Derivation, trigDoc, block, triplesOrGraph, triples2, wrappedGraph, triplesBlock, labelOrSubject, turtleDoc, statement, directive, prefixID, base as base_nt, sparqlPrefix, sparqlBase, triples, predicateObjectList, objectList, verb, subject as subject_nt, predicate as predicate_nt, object as object_nt, literal as literal_nt, blank as blank_nt, blankNodePropertyList, collection, NumericLiteral, RDFLiteral, BooleanLiteral, String as String_nt, iri as iri_nt, PrefixedName, BlankNode, ANON}
use Rattle.dataset.specs.Terms.{label, bracket, cell, Term, iri, blank, literal, tagged, Triple, Quad, rdf_type, rdf_first, rdf_rest, rdf_nil, xsd_string, xsd_integer, xsd_decimal, xsd_double, xsd_boolean}
use Rattle.environment.specs.Environment.{Environment, start_environment, declare, set_base}
use Rattle.dataset.specs.Constructors.{string_text, tag, node_label, prefix, iri_of}
use Rattle.dataset.specs.Statements as Said
use Rattle.dataset.specs.Statements.{Value, triple, in_graph, list_term, list_triples, statements}
use Rattle.table.specs.Tables.{quads}
use Rattle.table.proofs.Numbers.{Known}
use Rattle.table.proofs.Held.{GraphIs, Holds, holds_quads}
use Rattle.machine.specs.Memory.{Memory, start_memory, Write, return, ◌>>=◌, ◌>>◌, Done, done, term, new_term, typed, typed_by, iri_term, enter, declare_prefix, declare_base}
use Rattle.machine.specs.Frame.{Place, top, object_of, element_of, no_cell, cells}
use Rattle.machine.specs.Rules.{new_cell}
use Rattle.machine.specs.Construction.{Put, Node, Meaning, action, simple, cell_of, elements, collection_node, bracket_node, bracket_term, rdf_literal, object_triple, objects as write_objects, object_list, verb_objects, more_properties, perhaps, alone, or_nothing, graph_of, later_triples, in_turn, tables}
use Rattle.machine.proofs.Effects.{At, Grows, grows_none, grows_both, still, Wrote, Named, new_term_named, term_named, typed_named, iri_named, typed_by_named, row_wrote, PlaceIs, place_still, hold_wrote}

-- More triples in the open graph, after those that are there.
abbrev with_triples : List Quad → Option Term → List Triple → List Quad
with_triples qs g ts = qs ++ in_graph g ts

more_triples : (qs : List Quad) (g : Option Term) (us vs : List Triple) → with_triples (with_triples qs g us) g vs ≡ with_triples qs g (us ++ vs)
more_triples qs g us vs = append_assoc qs (in_graph g us) (in_graph g vs) ∙ ap (λ l. qs ++ l) (sym (map-append (λ t. record { graph = g; triple = t }) us vs))

-- ---- The relation, by nonterminal

-- A node was put where its place was made, with the triple that holds it and its own triples.
pub record Stands (m : Memory) (q : Place) (r : Put × Memory) (t : Term) (e : Environment) (g : Option Term) (qs : List Quad) : Type 0 where
  pub at : At r.1 e g qs
  pub more : Grows m r.1
  pub known : Known r.1.terms r.0.node t
  pub place : r.0.place ≡ q

abbrev pub NodeSame : Node → (Environment → Said.Node) → Type 0
NodeSame x v =
    (e : Environment) (g : Option Term) (qs : List Quad) (begin : ℕ → Write Place) (m : Memory) (h : Term → List Triple)
    → At (begin (v e).place m).1 e g qs
    → PlaceIs (begin (v e).place m).1.terms (begin (v e).place m).0 h
    → Stands (begin (v e).place m).1 (begin (v e).place m).0 (x begin m) (v e).term e g (with_triples qs g (h (v e).term ++ (v e).own))

abbrev pub TriplesSame : Write Done → (Environment → List Triple) → Type 0
TriplesSame w v = (e : Environment) (g : Option Term) (qs : List Quad) (m : Memory) → At m e g qs → Wrote m (w m).1 e g (with_triples qs g (v e))

abbrev pub PropertiesSame : (ℕ → Write Done) → (Environment → Term → List Triple) → Type 0
PropertiesSame f v =
    (e : Environment) (g : Option Term) (qs : List Quad) (m : Memory) (s : ℕ) (S : Term) → At m e g qs → Known m.terms s S
    → Wrote m (f s m).1 e g (with_triples qs g (v e S))

abbrev pub ObjectsSame : (ℕ → ℕ → Write Done) → (Environment → Term → Term → List Triple) → Type 0
ObjectsSame f v =
    (e : Environment) (g : Option Term) (qs : List Quad) (m : Memory) (s p : ℕ) (S P : Term) → At m e g qs → Known m.terms s S → Known m.terms p P
    → Wrote m (f s p m).1 e g (with_triples qs g (v e S P))

abbrev pub VerbSame : Write ℕ → (Environment → Term) → Type 0
VerbSame w v = (e : Environment) (g : Option Term) (qs : List Quad) (m : Memory) → At m e g qs → Named m (w m) (v e) e g qs

abbrev pub GraphSame : (ℕ → Write Done) → (Environment → Option Term → List Quad) → Type 0
GraphSame f v = (e : Environment) (g : Option Term) (qs : List Quad) (m : Memory) (n : ℕ) → At m e none qs → GraphIs m.terms n g → At (f n m).1 e none (qs ++ v e g)

abbrev pub QuadsSame : Write Done → (Environment → List Quad) → Type 0
QuadsSame w v = (e : Environment) (qs : List Quad) (m : Memory) → At m e none qs → At (w m).1 e none (qs ++ v e)

abbrev pub DirectiveSame : Write Done → (Environment → Environment) → Type 0
DirectiveSame w v = (e : Environment) (qs : List Quad) (m : Memory) → At m e none qs → At (w m).1 (v e) none qs

abbrev pub StatementSame : Write Done → (Environment → Environment × List Quad) → Type 0
StatementSame w v = (e : Environment) (qs : List Quad) (m : Memory) → At m e none qs → At (w m).1 (v e).0 none (qs ++ (v e).1)

abbrev pub DocumentSame : Write Done → (Environment → List Quad) → Type 0
DocumentSame w v = (e : Environment) (qs : List Quad) (m : Memory) → At m e none qs → Holds (w m).1.terms (w m).1.rows (qs ++ v e)

abbrev pub Same : (n : Nonterminal) → Meaning n → Value n → Type 0
Same trigDoc w v = DocumentSame w v
Same block w v = QuadsSame w v
Same triplesOrGraph w v = QuadsSame w v
Same triples2 w v = QuadsSame w v
Same wrappedGraph w v = GraphSame w v
Same triplesBlock w v = TriplesSame w v
Same labelOrSubject w v = NodeSame w v × ((e : Environment) → (v e).own ≡ [])
Same turtleDoc w v = DocumentSame w v
Same statement w v = StatementSame w v
Same directive w v = DirectiveSame w v
Same prefixID w v = DirectiveSame w v
Same base_nt w v = DirectiveSame w v
Same sparqlPrefix w v = DirectiveSame w v
Same sparqlBase w v = DirectiveSame w v
Same triples w v = TriplesSame w v
Same predicateObjectList w v = PropertiesSame w v
Same objectList w v = ObjectsSame w v
Same verb w v = VerbSame w v
Same subject_nt w v = NodeSame w v
Same predicate_nt w v = w ≡ v
Same object_nt w v = NodeSame w v
Same literal_nt w v = NodeSame w v
Same blank_nt w v = NodeSame w v
Same blankNodePropertyList w v = NodeSame w v
Same collection w v = NodeSame w v
Same NumericLiteral w v = NodeSame w v
Same RDFLiteral w v = NodeSame w v
Same BooleanLiteral w v = NodeSame w v
Same String_nt w v = w ≡ v
Same iri_nt w v = w ≡ v
Same PrefixedName w v = w ≡ v
Same BlankNode w v = NodeSame w v × ((e : Environment) → (v e).own ≡ [])
Same ANON w v = NodeSame w v × ((e : Environment) → (v e).own ≡ [])

-- ---- and by expression

abbrev pub Pairs : {A B : Type 0} → (A → B → Type 0) → List A → List B → Type 0
Pairs P [] [] = Unit {0}
Pairs P [] (b ∷ bs) = ⊥
Pairs P (a ∷ as') [] = ⊥
Pairs P (a ∷ as') (b ∷ bs) = P a b × Pairs P as' bs

abbrev pub SameE : (e : Expr Kind Nonterminal) → Parts Token Meaning e → Parts Token Value e → Type 0
SameE (tok k) t u = t ≡ u
SameE (nt n) a b = Same n a b
SameE (e ⨾ f) a b = SameE e a.0 b.0 × SameE f a.1 b.1
SameE (e ∣ f) (inl a) (inl b) = SameE e a b
SameE (e ∣ f) (inl a) (inr b) = ⊥
SameE (e ∣ f) (inr a) (inl b) = ⊥
SameE (e ∣ f) (inr a) (inr b) = SameE f a b
SameE (star e) a b = Pairs (SameE e) a b
SameE (opt e) none none = Unit {0}
SameE (opt e) none (some b) = ⊥
SameE (opt e) (some a) none = ⊥
SameE (opt e) (some a) (some b) = SameE e a b

-- If each production keeps to it, so does every tree.
module _ (mode : Mode) (right_side : (n : Nonterminal) (a : Parts Token Meaning (production mode n)) (b : Parts Token Value (production mode n)) → SameE (production mode n) a b → Same n (action mode n a) (Said.action mode n b)) where
  same_tree : {e : Expr Kind Nonterminal} (x : Tree kind_of (production mode) e) → SameE e (meaning Meaning (action mode) x) (meaning Value (Said.action mode) x)
  unfolding meaning
  same_tree (leaf t p) = refl
  same_tree (node n x) = right_side n (meaning Meaning (action mode) x) (meaning Value (Said.action mode) x) (same_tree x)
  same_tree (both x y) = (same_tree x, same_tree y)
  same_tree (left x) = same_tree x
  same_tree (right x) = same_tree x
  same_tree done_tree = tt
  same_tree (more x y) = (same_tree x, same_tree y)
  same_tree absent = tt
  same_tree (present x) = same_tree x

-- ---- Nodes

-- A node that is written all at once.
simple_same : (t : Token) (number : Write ℕ) (v : Environment → Term)
    → ((e : Environment) (g : Option Term) (qs : List Quad) (m : Memory) → At m e g qs → Named m (number m) (v e) e g qs)
    → NodeSame (simple t number) (λ e. Said.simple t (v e))
simple_same t number v f e g qs begin m h a p =
    let m₁ = (begin t.start m).1 in
    let q = (begin t.start m).0 in
    let n = f e g qs m₁ a in
    let m₂ = (number m₁).1 in
    let w = hold_wrote q h (number m₁).0 t.start (v e) m₂ n.at (place_still m₁ m₂ q h n.more p) n.known in
    record {
      at = subst (λ l. At (simple t number begin m).1 e g (with_triples qs g l)) (sym (append-nil (h (v e)))) w.at;
      more = grows_both n.more w.more;
      known = still w.more (number m₁).0 (v e) n.known;
      place = refl;
    }

iri_same : (t : Token) → NodeSame (simple t (iri_term t)) (Said.iri_node t)
iri_same t = simple_same t (iri_term t) (λ e. iri (iri_of e t)) (λ e g qs m a. iri_named t m a)

typed_same : (s d : Text) (t : Token) → NodeSame (simple t (typed s d)) (λ e. Said.simple t (literal s d))
typed_same s d t = simple_same t (typed s d) (λ e. literal s d) (λ e g qs m a. typed_named s d m a)

literal_same : (t u : Token) (x y : Option (Token ⊎ (Token × Token))) → t ≡ u → SameE (opt (tok LANGTAG ∣ tok carets ⨾ nt iri_nt)) x y → NodeSame (rdf_literal (t, x)) (Said.rdf_literal (u, y))
literal_same t u none none p h = subst (λ z. NodeSame (rdf_literal (t, none)) (Said.rdf_literal (z, none))) p (typed_same (string_text t) xsd_string t)
literal_same t u none (some y) p h = absurd h
literal_same t u (some x) none p h = absurd h
literal_same t u (some (inl f)) (some (inl g)) p h =
    subst (λ z. NodeSame (rdf_literal (t, some (inl f))) (Said.rdf_literal (z, some (inl g)))) p
    (subst (λ z. NodeSame (rdf_literal (t, some (inl f))) (Said.rdf_literal (t, some (inl z)))) h
    (simple_same t (term (tagged (string_text t) (tag f))) (λ e. tagged (string_text t) (tag f)) (λ e g qs m a. term_named (tagged (string_text t) (tag f)) m a)))
literal_same t u (some (inl f)) (some (inr y)) p h = absurd h
literal_same t u (some (inr x)) (some (inl g)) p h = absurd h
literal_same t u (some (inr (c, d))) (some (inr (c', d'))) p (hc, hd) =
    subst (λ z. NodeSame (rdf_literal (t, some (inr (c, d)))) (Said.rdf_literal (z, some (inr (c', d'))))) p
    (subst (λ z. NodeSame (rdf_literal (t, some (inr (c, d)))) (Said.rdf_literal (t, some (inr (c', z))))) hd
    (simple_same t (typed_by (string_text t) d) (λ e. literal (string_text t) (iri_of e d)) (λ e g qs m a. typed_by_named (string_text t) d m a)))

label_same : (t : Token) → NodeSame (simple t (term (blank (label (node_label t))))) (λ e. Said.simple t (blank (label (node_label t))))
label_same t = simple_same t (term (blank (label (node_label t)))) (λ e. blank (label (node_label t))) (λ e g qs m a. term_named (blank (label (node_label t))) m a)

new_bracket_same : (t : Token) → NodeSame (simple t (bracket_term t)) (λ e. Said.simple t (blank (bracket t.start)))
new_bracket_same t = simple_same t (bracket_term t) (λ e. blank (bracket t.start)) (λ e g qs m a. new_term_named (blank (bracket t.start)) m a)

-- A bracket, and then its properties.
bracket_same : (t u : Token) (f : ℕ → Write Done) (v : Environment → Term → List Triple) → PropertiesSame f v → NodeSame (bracket_node (t, (f, u))) (Said.property_list (t, (v, u)))
bracket_same t u f v s e g qs begin m h a p =
    let b = blank (bracket t.start) in
    let n = new_bracket_same t e g qs begin m h a p in
    let r = simple t (bracket_term t) begin m in
    let w = s e g (with_triples qs g (h b ++ [])) r.1 r.0.node b n.at n.known in
    record {
      at = subst (λ l. At (bracket_node (t, (f, u)) begin m).1 e g l) (more_triples qs g (h b ++ []) (v e b) ∙ ap (λ l. with_triples qs g (l ++ v e b)) (append-nil (h b))) w.at;
      more = grows_both n.more w.more;
      known = still w.more r.0.node b n.known;
      place = n.place;
    }

-- ---- Lists

rest_triple : Term → Term → Triple
rest_triple c d = triple c (iri rdf_rest) d

-- The place of an element, in a cell behind the last one.
next_cell : {e : Environment} {g : Option Term} {qs : List Quad} (place : Place) (opened head last at : ℕ) (L : Term) (m : Memory) → At m e g qs → Known m.terms last L
    → Named m (new_cell place opened (cells head last) at m) (blank (cell at)) e g (with_triples qs g (rest_triple L (blank (cell at)) ∷ []))
unfolding rest_triple
next_cell place opened head last at L m a k =
    let c = new_term_named (blank (cell at)) m a in
    let m₁ = (new_term (blank (cell at)) m).1 in
    let r = term_named (iri rdf_rest) m₁ c.at in
    let m₂ = (term (iri rdf_rest) m₁).1 in
    let n = (new_term (blank (cell at)) m).0 in
    let d = still r.more n (blank (cell at)) c.known in
    let w = row_wrote last (term (iri rdf_rest) m₁).0 n at L (iri rdf_rest) (blank (cell at)) m₂ r.at (still r.more last L (still c.more last L k)) r.known d in
    record { at = w.at; more = grows_both c.more (grows_both r.more w.more); known = still w.more n (blank (cell at)) d }

-- In the first cell: the row that holds the list is made.
first_cell : {e : Environment} {g : Option Term} {qs : List Quad} (place : Place) (opened at : ℕ) (h : Term → List Triple) (m : Memory) → At m e g qs → PlaceIs m.terms place h
    → Named m (new_cell place opened no_cell at m) (blank (cell at)) e g (with_triples qs g (h (blank (cell at))))
first_cell place opened at h m a p =
    let c = new_term_named (blank (cell at)) m a in
    let m₁ = (new_term (blank (cell at)) m).1 in
    let n = (new_term (blank (cell at)) m).0 in
    let w = hold_wrote place h n opened (blank (cell at)) m₁ c.at (place_still m m₁ place h c.more p) c.known in
    record { at = w.at; more = grows_both c.more w.more; known = still w.more n (blank (cell at)) c.known }

-- The rest of a list that has cells.
more_elements : (e : Environment) (g : Option Term) (place : Place) (opened : ℕ) (u : Token) (xs : List Node) (vs : List (Environment → Said.Node)) → Pairs NodeSame xs vs
    → (qs : List Quad) (m : Memory) (head last : ℕ) (H L : Term) → At m e g qs → Known m.terms head H → Known m.terms last L
    → Named m (elements place opened (cells head last) xs u m) H e g (with_triples qs g (rest_triple L (list_term (Said.nodes_in e vs)) ∷ list_triples (Said.nodes_in e vs)))
unfolding rest_triple Said.nodes_in list_triples
more_elements e g place opened u [] [] ps qs m head last H L a kh kl =
    let r = term_named (iri rdf_rest) m a in
    let m₁ = (term (iri rdf_rest) m).1 in
    let n = term_named (iri rdf_nil) m₁ r.at in
    let m₂ = (term (iri rdf_nil) m₁).1 in
    let both_more = grows_both r.more n.more in
    let w = row_wrote last (term (iri rdf_rest) m).0 (term (iri rdf_nil) m₁).0 u.start L (iri rdf_rest) (iri rdf_nil) m₂ n.at (still both_more last L kl) (still n.more (term (iri rdf_rest) m).0 (iri rdf_rest) r.known) n.known in
    record { at = w.at; more = grows_both both_more w.more; known = still w.more head H (still both_more head H kh) }
more_elements e g place opened u [] (v ∷ vs) ps qs m head last H L a kh kl = absurd ps
more_elements e g place opened u (x ∷ xs) [] ps qs m head last H L a kh kl = absurd ps
more_elements e g place opened u (x ∷ xs) (v ∷ vs) (p, ps) qs m head last H L a kh kl =
    let begin : ℕ → Write Place = λ at. new_cell place opened (cells head last) at >>= λ c. return (element_of c) in
    let n = (new_cell place opened (cells head last) (v e).place m).0 in
    let c = next_cell place opened head last (v e).place L m a kl in
    let C = blank (cell (v e).place) in
    let h : Term → List Triple = λ t. triple C (iri rdf_first) t ∷ [] in
    let link = rest_triple L C ∷ [] in
    let own = h (v e).term ++ (v e).own in
    let behind = rest_triple C (list_term (Said.nodes_in e vs)) ∷ list_triples (Said.nodes_in e vs) in
    let y = x begin m in
    let s = p e g (with_triples qs g link) begin m h c.at (C, c.known, λ t. refl) in
    let in_cell : Known y.1.terms (cell_of y.0.place) C = subst (λ k. Known y.1.terms k C) (sym (ap cell_of s.place)) (still s.more n C c.known) in
    let r =
    more_elements e g place opened u xs vs ps (with_triples (with_triples qs g link) g own) y.1 head (cell_of y.0.place) H C s.at
    (still s.more head H (still c.more head H kh)) in_cell in
    record {
      at =
          subst (λ l. At (elements place opened (cells head last) (x ∷ xs) u m).1 e g l)
          (more_triples (with_triples qs g link) g own behind ∙ more_triples qs g link (own ++ behind)) r.at;
      more = grows_both c.more (grows_both s.more r.more);
      known = r.known;
    }

-- A list at a place: empty, or with a first cell.
collection_same : (t u : Token) (xs : List Node) (vs : List (Environment → Said.Node)) → Pairs NodeSame xs vs → NodeSame (collection_node (t, (xs, u))) (Said.collection_node (t, (vs, u)))
unfolding Said.nodes_in list_triples rest_triple
collection_same t u [] [] ps e g qs begin m h a p =
    let m₁ = (begin t.start m).1 in
    let q = (begin t.start m).0 in
    let n = term_named (iri rdf_nil) m₁ a in
    let m₂ = (term (iri rdf_nil) m₁).1 in
    let k = (term (iri rdf_nil) m₁).0 in
    let w = hold_wrote q h k t.start (iri rdf_nil) m₂ n.at (place_still m₁ m₂ q h n.more p) n.known in
    record {
      at = subst (λ l. At (collection_node (t, ([], u)) begin m).1 e g (with_triples qs g l)) (sym (append-nil (h (iri rdf_nil)))) w.at;
      more = grows_both n.more w.more;
      known = still w.more k (iri rdf_nil) n.known;
      place = refl;
    }
collection_same t u [] (v ∷ vs) ps e g qs begin m h a p = absurd ps
collection_same t u (x ∷ xs) [] ps e g qs begin m h a p = absurd ps
collection_same t u (x ∷ xs) (v ∷ vs) (s, ps) e g qs begin m h a p =
    let m₁ = (begin t.start m).1 in
    let q = (begin t.start m).0 in
    let begin₁ : ℕ → Write Place = λ at. new_cell q t.start no_cell at >>= λ c. return (element_of c) in
    let C = blank (cell (v e).place) in
    let c = first_cell q t.start (v e).place h m₁ a p in
    let n = (new_cell q t.start no_cell (v e).place m₁).0 in
    let h₁ : Term → List Triple = λ o. triple C (iri rdf_first) o ∷ [] in
    let own = h₁ (v e).term ++ (v e).own in
    let behind = rest_triple C (list_term (Said.nodes_in e vs)) ∷ list_triples (Said.nodes_in e vs) in
    let y = x begin₁ m₁ in
    let f = s e g (with_triples qs g (h C)) begin₁ m₁ h₁ c.at (C, c.known, λ o. refl) in
    let in_cell : Known y.1.terms (cell_of y.0.place) C = subst (λ k. Known y.1.terms k C) (sym (ap cell_of f.place)) (still f.more n C c.known) in
    let r =
    more_elements e g q t.start u xs vs ps (with_triples (with_triples qs g (h C)) g own) y.1 (cell_of y.0.place) (cell_of y.0.place) C C f.at in_cell in_cell in
    record {
      at =
          subst (λ l. At (collection_node (t, (x ∷ xs, u)) begin m).1 e g l)
          (more_triples (with_triples qs g (h C)) g own behind ∙ more_triples qs g (h C) (own ++ behind)) r.at;
      more = grows_both c.more (grows_both f.more r.more);
      known = r.known;
      place = refl;
    }

-- ---- Triples

object_same : (x : Node) (v : Environment → Said.Node) → NodeSame x v → ObjectsSame (λ s p. object_triple s p x) (λ e S P. Said.object_triples S P (v e))
object_same x v f e g qs m s p S P a ks kp =
    let r = f e g qs (λ at. return (object_of s p)) m (λ t. triple S P t ∷ []) a (S, P, ks, kp, λ t. refl) in
    record { at = r.at; more = r.more }

more_objects_same : (xs : List (Token × Node)) (vs : List (Token × (Environment → Said.Node))) → Pairs (λ a b. (a.0 ≡ b.0) × NodeSame a.1 b.1) xs vs
    → ObjectsSame (λ s p. write_objects s p xs) (λ e S P. Said.more_objects e S P vs)
unfolding Said.more_objects
more_objects_same [] [] ps e g qs m s p S P a ks kp = record { at = subst (λ l. At m e g l) (sym (append-nil qs)) a; more = grows_none m }
more_objects_same [] (v ∷ vs) ps e g qs m s p S P a ks kp = absurd ps
more_objects_same (x ∷ xs) [] ps e g qs m s p S P a ks kp = absurd ps
more_objects_same ((c, x) ∷ xs) ((d, v) ∷ vs) ((q, f), ps) e g qs m s p S P a ks kp =
    let o = object_same x v f e g qs m s p S P a ks kp in
    let m₁ = (object_triple s p x m).1 in
    let r = more_objects_same xs vs ps e g (with_triples qs g (Said.object_triples S P (v e))) m₁ s p S P o.at (still o.more s S ks) (still o.more p P kp) in
    record {
      at = subst (λ l. At (write_objects s p ((c, x) ∷ xs) m).1 e g l) (more_triples qs g (Said.object_triples S P (v e)) (Said.more_objects e S P vs)) r.at;
      more = grows_both o.more r.more;
    }

object_list_same : (x : Node) (v : Environment → Said.Node) (xs : List (Token × Node)) (vs : List (Token × (Environment → Said.Node)))
    → NodeSame x v → Pairs (λ a b. (a.0 ≡ b.0) × NodeSame a.1 b.1) xs vs → ObjectsSame (object_list (x, xs)) (Said.objects (v, vs))
object_list_same x v xs vs f ps e g qs m s p S P a ks kp =
    let o = object_same x v f e g qs m s p S P a ks kp in
    let m₁ = (object_triple s p x m).1 in
    let r = more_objects_same xs vs ps e g (with_triples qs g (Said.object_triples S P (v e))) m₁ s p S P o.at (still o.more s S ks) (still o.more p P kp) in
    record {
      at = subst (λ l. At (object_list (x, xs) s p m).1 e g l) (more_triples qs g (Said.object_triples S P (v e)) (Said.more_objects e S P vs)) r.at;
      more = grows_both o.more r.more;
    }

verb_objects_same : (w : Write ℕ) (v : Environment → Term) (f : ℕ → ℕ → Write Done) (os : Environment → Term → Term → List Triple)
    → VerbSame w v → ObjectsSame f os → PropertiesSame (verb_objects (w, f)) (Said.verb_objects (v, os))
verb_objects_same w v f os hv ho e g qs m s S a ks =
    let n = hv e g qs m a in
    let r = ho e g qs (w m).1 s (w m).0 S (v e) n.at (still n.more s S ks) n.known in
    record { at = r.at; more = grows_both n.more r.more }

-- Two parts of a property list, one after the other.
then_same : (f h : ℕ → Write Done) (v w : Environment → Term → List Triple) → PropertiesSame f v → PropertiesSame h w → PropertiesSame (λ s. f s >> h s) (λ e S. v e S ++ w e S)
then_same f h v w p q e g qs m s S a ks =
    let x = p e g qs m s S a ks in
    let y = q e g (with_triples qs g (v e S)) (f s m).1 s S x.at (still x.more s S ks) in
    record { at = subst (λ l. At (h s (f s m).1).1 e g l) (more_triples qs g (v e S) (w e S)) y.at; more = grows_both x.more y.more }

no_properties : PropertiesSame (λ s. return done) (λ e S. [])
no_properties e g qs m s S a ks = record { at = subst (λ l. At m e g l) (sym (append-nil qs)) a; more = grows_none m }

abbrev VerbParts : Expr Kind Nonterminal
VerbParts = nt verb ⨾ nt objectList

more_verbs_same : (ps : List (Token × Option (Write ℕ × (ℕ → ℕ → Write Done)))) (vs : List (Token × Option Said.VerbObjects)) → Pairs (SameE (tok semicolon ⨾ opt VerbParts)) ps vs
    → PropertiesSame (λ s. more_properties s ps) (λ e S. Said.more_verbs e S vs)
unfolding Said.more_verbs
more_verbs_same [] [] h = no_properties
more_verbs_same [] (v ∷ vs) h = absurd h
more_verbs_same (p ∷ ps) [] h = absurd h
more_verbs_same ((c, none) ∷ ps) ((d, none) ∷ vs) (h, k) = more_verbs_same ps vs k
more_verbs_same ((c, none) ∷ ps) ((d, some v) ∷ vs) (h, k) = absurd h.1
more_verbs_same ((c, some p) ∷ ps) ((d, none) ∷ vs) (h, k) = absurd h.1
more_verbs_same ((c, some (w, f)) ∷ ps) ((d, some (v, os)) ∷ vs) ((q, (hv, ho)), k) =
    then_same (verb_objects (w, f)) (λ s. more_properties s ps) (Said.verb_objects (v, os)) (λ e S. Said.more_verbs e S vs) (verb_objects_same w v f os hv ho) (more_verbs_same ps vs k)

-- A node that has no row.
alone_named : (x : Node) (v : Environment → Said.Node) → NodeSame x v → (e : Environment) (g : Option Term) (qs : List Quad) (m : Memory) → At m e g qs
    → Named m (alone x m) (v e).term e g (with_triples qs g (v e).own)
alone_named x v f e g qs m a =
    let r = f e g qs (λ at. return top) m (λ t. []) a (λ t. refl) in
    record { at = r.at; more = r.more; known = r.known }

subject_same : (x : Node) (v : Environment → Said.Node) (f : ℕ → Write Done) (w : Environment → Term → List Triple) → NodeSame x v → PropertiesSame f w
    → TriplesSame (alone x >>= f) (Said.subject_triples v w)
subject_same x v f w p q e g qs m a =
    let n = alone_named x v p e g qs m a in
    let m₁ = (alone x m).1 in
    let r = q e g (with_triples qs g (v e).own) m₁ (alone x m).0 (v e).term n.at n.known in
    record { at = subst (λ l. At (f (alone x m).0 m₁).1 e g l) (more_triples qs g (v e).own (w e (v e).term)) r.at; more = grows_both n.more r.more }

perhaps_same : (f : Option (ℕ → Write Done)) (v : Option (Environment → Term → List Triple)) → SameE (opt (nt predicateObjectList)) f v → PropertiesSame (perhaps f) (Said.perhaps v)
perhaps_same none none h = no_properties
perhaps_same none (some v) h = absurd h
perhaps_same (some f) none h = absurd h
perhaps_same (some f) (some v) h = h

-- ---- Graphs and documents

quads_of : (w : Write Done) (v : Environment → List Triple) → TriplesSame w v → QuadsSame w (λ e. in_graph none (v e))
quads_of w v f e qs m a = (f e none qs m a).at

no_triples : TriplesSame (return done) (λ e. [])
no_triples e g qs m a = record { at = subst (λ l. At m e g l) (sym (append-nil qs)) a; more = grows_none m }

or_none_same : (w : Option (Write Done)) (v : Option (Environment → List Triple)) → SameE (opt (nt triplesBlock)) w v → TriplesSame (or_nothing w) (Said.or_none v)
or_none_same none none h = no_triples
or_none_same none (some v) h = absurd h
or_none_same (some w) none h = absurd h
or_none_same (some w) (some v) h = h

later_same : (w : Option (Token × Option (Write Done))) (v : Option (Token × Option (Environment → List Triple))) → SameE (opt (tok dot ⨾ opt (nt triplesBlock))) w v → TriplesSame (later_triples w) (Said.later_triples v)
later_same none none h = no_triples
later_same none (some v) h = absurd h
later_same (some w) none h = absurd h
later_same (some (t, w)) (some (u, v)) (p, h) = or_none_same w v h

graph_same : (t u : Token) (w : Option (Write Done)) (v : Option (Environment → List Triple)) → SameE (opt (nt triplesBlock)) w v
    → GraphSame (graph_of (t, (w, u))) (λ e g. in_graph g (Said.or_none v e))
graph_same t u w v h e g qs m n a k =
    let r = or_none_same w v h e g qs (enter n m).1 (record { env = a.env; graph = k; rows = a.rows }) in
    record { env = r.at.env; graph = refl; rows = r.at.rows }

then_triples : (w w' : Write Done) (v v' : Environment → List Triple) → TriplesSame w v → TriplesSame w' v' → TriplesSame (w >> w') (λ e. v e ++ v' e)
then_triples w w' v v' p q e g qs m a =
    let x = p e g qs m a in
    let y = q e g (with_triples qs g (v e)) (w m).1 x.at in
    record { at = subst (λ l. At (w' (w m).1).1 e g l) (more_triples qs g (v e) (v' e)) y.at; more = grows_both x.more y.more }

-- A label's own triples are none, so what follows it stands right behind what was there.
labelled_same : (x : Node) (v : Environment → Said.Node) → NodeSame x v → ((e : Environment) → (v e).own ≡ [])
    → (e : Environment) (qs : List Quad) (m : Memory) → At m e none qs → Named m (alone x m) (v e).term e none qs
labelled_same x v p o e qs m a =
    let n = alone_named x v p e none qs m a in
    let same : with_triples qs none (v e).own ≡ qs = ap (with_triples qs none) (o e) ∙ append-nil qs in
    record { at = subst (λ l. At (alone x m).1 e none l) same n.at; more = n.more; known = n.known }

label_graph_same : (x : Node) (v : Environment → Said.Node) (f : ℕ → Write Done) (w : Environment → Option Term → List Quad) → NodeSame x v → ((e : Environment) → (v e).own ≡ []) → GraphSame f w
    → QuadsSame (alone x >>= f) (λ e. w e (some (v e).term))
label_graph_same x v f w p o q e qs m a =
    let n = labelled_same x v p o e qs m a in
    q e (some (v e).term) qs (alone x m).1 (alone x m).0 n.at n.known

label_triples_same : (x : Node) (v : Environment → Said.Node) (f : ℕ → Write Done) (w : Environment → Term → List Triple) → NodeSame x v → ((e : Environment) → (v e).own ≡ []) → PropertiesSame f w
    → QuadsSame (alone x >>= f) (λ e. in_graph none (w e (v e).term))
label_triples_same x v f w p o q e qs m a =
    let n = labelled_same x v p o e qs m a in
    (q e none qs (alone x m).1 (alone x m).0 (v e).term n.at n.known).at

trig_same : (ws : List (Write Done ⊎ Write Done)) (vs : List ((Environment → Environment) ⊎ (Environment → List Quad))) → Pairs (SameE (nt directive ∣ nt block)) ws vs
    → DocumentSame (in_turn Said.either ws) (Said.trig_quads vs)
unfolding Said.trig_quads
trig_same [] [] h e qs m a = subst (λ l. Holds m.terms m.rows l) (sym (append-nil qs)) a.rows
trig_same [] (v ∷ vs) h e qs m a = absurd h
trig_same (w ∷ ws) [] h e qs m a = absurd h
trig_same (inl w ∷ ws) (inl v ∷ vs) (p, h) e qs m a = trig_same ws vs h (v e) qs (w m).1 (p e qs m a)
trig_same (inl w ∷ ws) (inr v ∷ vs) (p, h) e qs m a = absurd p
trig_same (inr w ∷ ws) (inl v ∷ vs) (p, h) e qs m a = absurd p
trig_same (inr w ∷ ws) (inr v ∷ vs) (p, h) e qs m a =
    let m' = (in_turn Said.either ws (w m).1).1 in
    subst (λ l. Holds m'.terms m'.rows l) (append_assoc qs (v e) (Said.trig_quads vs e)) (trig_same ws vs h e (qs ++ v e) (w m).1 (p e qs m a))

turtle_same : (ws : List (Write Done)) (vs : List (Environment → Environment × List Quad)) → Pairs StatementSame ws vs → DocumentSame (in_turn (λ w. w) ws) (Said.turtle_quads vs)
unfolding Said.turtle_quads
turtle_same [] [] h e qs m a = subst (λ l. Holds m.terms m.rows l) (sym (append-nil qs)) a.rows
turtle_same [] (v ∷ vs) h e qs m a = absurd h
turtle_same (w ∷ ws) [] h e qs m a = absurd h
turtle_same (w ∷ ws) (v ∷ vs) (p, h) e qs m a =
    let m' = (in_turn {A = Write Done} (λ x. x) ws (w m).1).1 in
    subst (λ l. Holds m'.terms m'.rows l) (append_assoc qs (v e).1 (Said.turtle_quads vs (v e).0)) (turtle_same ws vs h (v e).0 (qs ++ (v e).1) (w m).1 (p e qs m a))

prefix_same : (p q i j : Token) → p ≡ q → i ≡ j → DirectiveSame (declare_prefix (prefix p) i) (Said.prefix_directive q j)
prefix_same p q i j h k e qs m a =
    record { env = (λ d. declare (prefix (h d)) (iri_of (a.env d) (k d)) (a.env d)); graph = a.graph; rows = a.rows }

base_same : (i j : Token) → i ≡ j → DirectiveSame (declare_base i) (Said.base_directive j)
base_same i j k e qs m a = record { env = (λ d. set_base (iri_of (a.env d) (k d)) (a.env d)); graph = a.graph; rows = a.rows }

-- ---- Each production keeps to the relation

iri_token : (t u : Token) → t ≡ u → NodeSame (simple t (iri_term t)) (Said.iri_node u)
iri_token t u p = subst (λ z. NodeSame (simple t (iri_term t)) (Said.iri_node z)) p (iri_same t)

typed_token : (d : Text) (t u : Token) → t ≡ u → NodeSame (simple t (typed t.text d)) (Said.typed_node d u)
typed_token d t u p = subst (λ z. NodeSame (simple t (typed t.text d)) (Said.typed_node d z)) p (typed_same t.text d t)

abbrev Keeps : Mode → Nonterminal → Type 0
Keeps mode n = (a : Parts Token Meaning (production mode n)) (b : Parts Token Value (production mode n)) → SameE (production mode n) a b → Same n (action mode n a) (Said.action mode n b)

block_keeps : (mode : Mode) → Keeps mode block
unfolding production
block_keeps mode (inl a) (inl b) h = h
block_keeps mode (inl a) (inr b) h = absurd h
block_keeps mode (inr a) (inl b) h = absurd h
block_keeps mode (inr (inl a)) (inr (inl b)) h = λ e qs m at. h e none qs m 0 at refl
block_keeps mode (inr (inl a)) (inr (inr b)) h = absurd h
block_keeps mode (inr (inr a)) (inr (inl b)) h = absurd h
block_keeps mode (inr (inr (inl a))) (inr (inr (inl b))) h = h
block_keeps mode (inr (inr (inl a))) (inr (inr (inr b))) h = absurd h
block_keeps mode (inr (inr (inr a))) (inr (inr (inl b))) h = absurd h
block_keeps mode (inr (inr (inr (t, (x, f))))) (inr (inr (inr (u, (v, w))))) (p, (h, k)) = label_graph_same x v f w h.0 h.1 k

triples_or_graph_keeps : (mode : Mode) → Keeps mode triplesOrGraph
unfolding production
triples_or_graph_keeps mode (x, inl f) (v, inl w) (h, k) = label_graph_same x v f w h.0 h.1 k
triples_or_graph_keeps mode (x, inl f) (v, inr w) (h, k) = absurd k
triples_or_graph_keeps mode (x, inr f) (v, inl w) (h, k) = absurd k
triples_or_graph_keeps mode (x, inr (f, t)) (v, inr (w, u)) (h, (k, p)) = label_triples_same x v f w h.0 h.1 k

triples_2_keeps : (mode : Mode) → Keeps mode triples2
unfolding production
triples_2_keeps mode (inl (x, (f, t))) (inl (v, (w, u))) (h, (k, p)) =
    quads_of (alone x >>= perhaps f) (Said.subject_triples v (Said.perhaps w)) (subject_same x v (perhaps f) (Said.perhaps w) h (perhaps_same f w k))
triples_2_keeps mode (inl a) (inr b) h = absurd h
triples_2_keeps mode (inr a) (inl b) h = absurd h
triples_2_keeps mode (inr (x, (f, t))) (inr (v, (w, u))) (h, (k, p)) = quads_of (alone x >>= f) (Said.subject_triples v w) (subject_same x v f w h k)

block_of_triples_keeps : (mode : Mode) → Keeps mode triplesBlock
unfolding production
block_of_triples_keeps mode (w, x) (v, y) (h, k) = then_triples w (later_triples x) v (Said.later_triples y) h (later_same x y k)

label_or_subject_keeps : (mode : Mode) → Keeps mode labelOrSubject
unfolding production
label_or_subject_keeps mode (inl t) (inl u) h = (iri_token t u h, λ e. refl)
label_or_subject_keeps mode (inl t) (inr v) h = absurd h
label_or_subject_keeps mode (inr x) (inl u) h = absurd h
label_or_subject_keeps mode (inr x) (inr v) h = h

statement_keeps : (mode : Mode) → Keeps mode statement
unfolding production
statement_keeps mode (inl w) (inl v) h = λ e qs m a. subst (λ l. At (w m).1 (v e) none l) (sym (append-nil qs)) (h e qs m a)
statement_keeps mode (inl w) (inr v) h = absurd h
statement_keeps mode (inr w) (inl v) h = absurd h
statement_keeps mode (inr (w, t)) (inr (v, u)) (h, p) = λ e qs m a. (h e none qs m a).at

directive_keeps : (mode : Mode) → Keeps mode directive
unfolding production
directive_keeps mode (inl w) (inl v) h = h
directive_keeps mode (inl w) (inr v) h = absurd h
directive_keeps mode (inr w) (inl v) h = absurd h
directive_keeps mode (inr (inl w)) (inr (inl v)) h = h
directive_keeps mode (inr (inl w)) (inr (inr v)) h = absurd h
directive_keeps mode (inr (inr w)) (inr (inl v)) h = absurd h
directive_keeps mode (inr (inr (inl w))) (inr (inr (inl v))) h = h
directive_keeps mode (inr (inr (inl w))) (inr (inr (inr v))) h = absurd h
directive_keeps mode (inr (inr (inr w))) (inr (inr (inl v))) h = absurd h
directive_keeps mode (inr (inr (inr w))) (inr (inr (inr v))) h = h

triples_keep : (mode : Mode) → Keeps mode triples
unfolding production
triples_keep mode (inl (x, f)) (inl (v, w)) (h, k) = subject_same x v f w h k
triples_keep mode (inl a) (inr b) h = absurd h
triples_keep mode (inr a) (inl b) h = absurd h
triples_keep mode (inr (x, f)) (inr (v, w)) (h, k) = subject_same x v (perhaps f) (Said.perhaps w) h (perhaps_same f w k)

verb_keeps : (mode : Mode) → Keeps mode verb
unfolding production
verb_keeps mode (inl t) (inl u) h = λ e g qs m a. subst (λ z. Named m (iri_term t m) (iri (iri_of e z)) e g qs) h (iri_named t m a)
verb_keeps mode (inl t) (inr u) h = absurd h
verb_keeps mode (inr t) (inl u) h = absurd h
verb_keeps mode (inr t) (inr u) h = λ e g qs m a. term_named (iri rdf_type) m a

properties_keep : (mode : Mode) → Keeps mode predicateObjectList
unfolding production
properties_keep mode (w, (f, ps)) (v, (os, vs)) (hv, (ho, hp)) =
    then_same (verb_objects (w, f)) (λ s. more_properties s ps) (Said.verb_objects (v, os)) (λ e S. Said.more_verbs e S vs) (verb_objects_same w v f os hv ho) (more_verbs_same ps vs hp)

subject_keeps : (mode : Mode) → Keeps mode subject_nt
unfolding production
subject_keeps trig (inl t) (inl u) h = iri_token t u h
subject_keeps trig (inl t) (inr v) h = absurd h
subject_keeps trig (inr x) (inl u) h = absurd h
subject_keeps trig (inr x) (inr v) h = h
subject_keeps turtle (inl t) (inl u) h = iri_token t u h
subject_keeps turtle (inl t) (inr v) h = absurd h
subject_keeps turtle (inr x) (inl u) h = absurd h
subject_keeps turtle (inr (inl x)) (inr (inl v)) h = h.0
subject_keeps turtle (inr (inl x)) (inr (inr v)) h = absurd h
subject_keeps turtle (inr (inr x)) (inr (inl v)) h = absurd h
subject_keeps turtle (inr (inr x)) (inr (inr v)) h = h

object_keeps : (mode : Mode) → Keeps mode object_nt
unfolding production
object_keeps trig (inl t) (inl u) h = iri_token t u h
object_keeps trig (inl t) (inr v) h = absurd h
object_keeps trig (inr x) (inl u) h = absurd h
object_keeps trig (inr (inl x)) (inr (inl v)) h = h
object_keeps trig (inr (inl x)) (inr (inr v)) h = absurd h
object_keeps trig (inr (inr x)) (inr (inl v)) h = absurd h
object_keeps trig (inr (inr (inl x))) (inr (inr (inl v))) h = h
object_keeps trig (inr (inr (inl x))) (inr (inr (inr v))) h = absurd h
object_keeps trig (inr (inr (inr x))) (inr (inr (inl v))) h = absurd h
object_keeps trig (inr (inr (inr x))) (inr (inr (inr v))) h = h
object_keeps turtle (inl t) (inl u) h = iri_token t u h
object_keeps turtle (inl t) (inr v) h = absurd h
object_keeps turtle (inr x) (inl u) h = absurd h
object_keeps turtle (inr (inl x)) (inr (inl v)) h = h.0
object_keeps turtle (inr (inl x)) (inr (inr v)) h = absurd h
object_keeps turtle (inr (inr x)) (inr (inl v)) h = absurd h
object_keeps turtle (inr (inr (inl x))) (inr (inr (inl v))) h = h
object_keeps turtle (inr (inr (inl x))) (inr (inr (inr v))) h = absurd h
object_keeps turtle (inr (inr (inr x))) (inr (inr (inl v))) h = absurd h
object_keeps turtle (inr (inr (inr (inl x)))) (inr (inr (inr (inl v)))) h = h
object_keeps turtle (inr (inr (inr (inl x)))) (inr (inr (inr (inr v)))) h = absurd h
object_keeps turtle (inr (inr (inr (inr x)))) (inr (inr (inr (inl v)))) h = absurd h
object_keeps turtle (inr (inr (inr (inr x)))) (inr (inr (inr (inr v)))) h = h

literal_keeps : (mode : Mode) → Keeps mode literal_nt
unfolding production
literal_keeps mode (inl x) (inl v) h = h
literal_keeps mode (inl x) (inr v) h = absurd h
literal_keeps mode (inr x) (inl v) h = absurd h
literal_keeps mode (inr (inl x)) (inr (inl v)) h = h
literal_keeps mode (inr (inl x)) (inr (inr v)) h = absurd h
literal_keeps mode (inr (inr x)) (inr (inl v)) h = absurd h
literal_keeps mode (inr (inr x)) (inr (inr v)) h = h

blank_keeps : (mode : Mode) → Keeps mode blank_nt
unfolding production
blank_keeps mode (inl x) (inl v) h = h.0
blank_keeps mode (inl x) (inr v) h = absurd h
blank_keeps mode (inr x) (inl v) h = absurd h
blank_keeps mode (inr x) (inr v) h = h

property_list_keeps : (mode : Mode) → Keeps mode blankNodePropertyList
unfolding production
property_list_keeps mode (t, (f, c)) (u, (v, d)) (p, (h, q)) =
    subst (λ z. NodeSame (bracket_node (t, (f, c))) (Said.property_list (z, (v, d)))) p (bracket_same t c f v h)

collection_keeps : (mode : Mode) → Keeps mode collection
unfolding production
collection_keeps mode (t, (xs, c)) (u, (vs, d)) (p, (h, q)) =
    subst (λ z. NodeSame (collection_node (t, (xs, c))) (Said.collection_node (z, (vs, d)))) p (collection_same t c xs vs h)

number_keeps : (mode : Mode) → Keeps mode NumericLiteral
unfolding production
number_keeps mode (inl t) (inl u) h = typed_token xsd_integer t u h
number_keeps mode (inl t) (inr u) h = absurd h
number_keeps mode (inr t) (inl u) h = absurd h
number_keeps mode (inr (inl t)) (inr (inl u)) h = typed_token xsd_decimal t u h
number_keeps mode (inr (inl t)) (inr (inr u)) h = absurd h
number_keeps mode (inr (inr t)) (inr (inl u)) h = absurd h
number_keeps mode (inr (inr t)) (inr (inr u)) h = typed_token xsd_double t u h

boolean_keeps : (mode : Mode) → Keeps mode BooleanLiteral
unfolding production
boolean_keeps mode (inl t) (inl u) h = typed_token xsd_boolean t u h
boolean_keeps mode (inl t) (inr u) h = absurd h
boolean_keeps mode (inr t) (inl u) h = absurd h
boolean_keeps mode (inr t) (inr u) h = typed_token xsd_boolean t u h

string_keeps : (mode : Mode) → Keeps mode String_nt
unfolding production
string_keeps mode (inl t) (inl u) h = h
string_keeps mode (inl t) (inr u) h = absurd h
string_keeps mode (inr t) (inl u) h = absurd h
string_keeps mode (inr (inl t)) (inr (inl u)) h = h
string_keeps mode (inr (inl t)) (inr (inr u)) h = absurd h
string_keeps mode (inr (inr t)) (inr (inl u)) h = absurd h
string_keeps mode (inr (inr (inl t))) (inr (inr (inl u))) h = h
string_keeps mode (inr (inr (inl t))) (inr (inr (inr u))) h = absurd h
string_keeps mode (inr (inr (inr t))) (inr (inr (inl u))) h = absurd h
string_keeps mode (inr (inr (inr t))) (inr (inr (inr u))) h = h

iri_keeps : (mode : Mode) → Keeps mode iri_nt
unfolding production
iri_keeps mode (inl t) (inl u) h = h
iri_keeps mode (inl t) (inr u) h = absurd h
iri_keeps mode (inr t) (inl u) h = absurd h
iri_keeps mode (inr t) (inr u) h = h

prefixed_name_keeps : (mode : Mode) → Keeps mode PrefixedName
unfolding production
prefixed_name_keeps mode (inl t) (inl u) h = h
prefixed_name_keeps mode (inl t) (inr u) h = absurd h
prefixed_name_keeps mode (inr t) (inl u) h = absurd h
prefixed_name_keeps mode (inr t) (inr u) h = h

blank_node_keeps : (mode : Mode) → Keeps mode BlankNode
unfolding production
blank_node_keeps mode (inl t) (inl u) h =
    (subst (λ z. NodeSame (simple t (term (blank (label (node_label t))))) (λ e. Said.simple z (blank (label (node_label z))))) h (label_same t), λ e. refl)
blank_node_keeps mode (inl t) (inr v) h = absurd h
blank_node_keeps mode (inr x) (inl u) h = absurd h
blank_node_keeps mode (inr x) (inr v) h = h

keeps : (mode : Mode) (n : Nonterminal) → Keeps mode n
unfolding production
keeps mode trigDoc = trig_same
keeps mode block = block_keeps mode
keeps mode triplesOrGraph = triples_or_graph_keeps mode
keeps mode triples2 = triples_2_keeps mode
keeps mode wrappedGraph = λ (t, (w, u)) (t', (v, u')) (p, (h, q)). graph_same t u w v h
keeps mode triplesBlock = block_of_triples_keeps mode
keeps mode labelOrSubject = label_or_subject_keeps mode
keeps mode turtleDoc = turtle_same
keeps mode statement = statement_keeps mode
keeps mode directive = directive_keeps mode
keeps mode prefixID = λ (t, (p, (i, d))) (t', (q, (j, d'))) (a, (b, (c, e))). prefix_same p q i j b c
keeps mode base_nt = λ (t, (i, d)) (t', (j, d')) (a, (b, c)). base_same i j b
keeps mode sparqlPrefix = λ (t, (p, i)) (t', (q, j)) (a, (b, c)). prefix_same p q i j b c
keeps mode sparqlBase = λ (t, i) (t', j) (a, b). base_same i j b
keeps mode triples = triples_keep mode
keeps mode predicateObjectList = properties_keep mode
keeps mode objectList = λ (x, xs) (v, vs) (h, k). object_list_same x v xs vs h k
keeps mode verb = verb_keeps mode
keeps mode subject_nt = subject_keeps mode
keeps mode predicate_nt = λ a b h. h
keeps mode object_nt = object_keeps mode
keeps mode literal_nt = literal_keeps mode
keeps mode blank_nt = blank_keeps mode
keeps mode blankNodePropertyList = property_list_keeps mode
keeps mode collection = collection_keeps mode
keeps mode NumericLiteral = number_keeps mode
keeps mode RDFLiteral = λ (t, x) (u, y) (p, h). literal_same t u x y p h
keeps mode BooleanLiteral = boolean_keeps mode
keeps mode String_nt = string_keeps mode
keeps mode iri_nt = iri_keeps mode
keeps mode PrefixedName = prefixed_name_keeps mode
keeps mode BlankNode = blank_node_keeps mode
keeps mode ANON = λ (t, c) (u, d) (p, q). (subst (λ z. NodeSame (simple t (bracket_term t)) (λ e. Said.simple z (blank (bracket z.start)))) p (new_bracket_same t), λ e. refl)

-- ---- The theorem

start_at : (base : Text) → At (start_memory base) (start_environment base) none []
start_at base = record { env = refl; graph = refl; rows = tt }

-- The tables that a document's derivation makes hold the statements that it constructs, row by row.
pub tables_hold : (mode : Mode) (x : Derivation mode) (base : Text) → quads (tables mode x base).terms (tables mode x base).rows ≡ statements mode x base
unfolding tables statements root
tables_hold trig x base =
    let m = (meaning Meaning (action trig) x (start_memory base)).1 in
    holds_quads m.terms m.rows (meaning Value (Said.action trig) x (start_environment base)) (same_tree trig (keeps trig) x (start_environment base) [] (start_memory base) (start_at base))
tables_hold turtle x base =
    let m = (meaning Meaning (action turtle) x (start_memory base)).1 in
    holds_quads m.terms m.rows (meaning Value (Said.action turtle) x (start_environment base)) (same_tree turtle (keeps turtle) x (start_environment base) [] (start_memory base) (start_at base))

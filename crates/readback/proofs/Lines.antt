-- The derivation of printed lines, and the statements that it constructs.
use mathlib.Core.Path.{◌≡◌, refl, sym, ap, ap₂, ◌∙◌}
use mathlib.Core.Bool.{Bool}
use mathlib.Core.List.{List, [], ◌∷◌, ◌++◌, append_assoc, append-nil, map}
use mathlib.Core.Option.{Option, none, some}
use Prim.Native.Nat.{ℕ, ◌+◌}
use lib.ListN.{length}
use Rattle.text.specs.Text.{Text, cond, same_text}
use Rattle.text.proofs.Compare.{same_eq}
use Rattle.utf8.specs.Utf8.{first_bad}
use Rattle.utf8.proofs.Tests.{by}
use Rattle.token.specs.Kind.{IRIREF, STRING_LITERAL_QUOTE, BLANK_NODE_LABEL, LANGTAG, carets, dot, open_brace, close_brace}
use Rattle.token.specs.Tokens.{Token}
use Rattle.grammar.specs.Ebnf.{nt, Tree, leaf, node, both, left, right, done, more, absent, present, leaves}
use Rattle.grammar.specs.Meaning.{meaning}
use Rattle.grammar.specs.Productions.{Nonterminal, trig, production, root, kind_of, Derivation, trigDoc, block, triplesOrGraph, wrappedGraph, triplesBlock, labelOrSubject, triples, predicateObjectList, objectList, verb, RDFLiteral, BlankNode}
use Rattle.grammar.specs.Productions.{subject as subject_nt, predicate as predicate_nt, object as object_nt, literal as literal_nt, blank as blank_nt, String as String_nt, iri as iri_nt}
use Rattle.iri.specs.Iri.{has_scheme}
use Rattle.iri.specs.Resolve.{resolve, resolved}
use Rattle.dataset.specs.Terms.{Blank, label, bracket, cell, numbered, Term, iri, blank, literal, tagged, Triple, Quad, xsd_string}
use Rattle.environment.specs.Environment.{Environment, start_environment}
use Rattle.dataset.specs.Constructors.{node_label, resolved_reference, iri_of}
use Rattle.dataset.specs.Statements.{Node, Value, action, triple, more_objects, more_verbs, in_graph, trig_quads, statements}
use Rattle.table.specs.Usable.{for_long_form}
use Rattle.readback.specs.ReadBack.{renamed_blank, renamed_term, renamed}
use Rattle.readback.proofs.Cutting.{Part, printed, gap, bytes, tokens_at, tokens_append}
use Rattle.readback.proofs.Printed.{label_points}
use Rattle.readback.proofs.Forms.{iri_points, string_points, GoodIri, Numbered, Good, GoodPredicate, GoodResource, GoodGraph, GoodQuad, GoodQuads, number_of, string_part, type_parts, term_parts, triple_parts, line_parts, parts}
use Rattle.readback.proofs.Values.{token_of, iri_reference, string_value, tag_value, label_value}

-- Trees of mode 0, their leaves and their values.
abbrev TreeOf : Nonterminal → Type 0
TreeOf n = Tree kind_of (production trig) (nt n)

abbrev leaves_of : {n : Nonterminal} → TreeOf n → List Token
leaves_of x = leaves kind_of (production trig) x

abbrev value : {n : Nonterminal} → TreeOf n → Value n
value x = meaning Value (action trig) x

abbrev environment : Environment
environment = start_environment []

-- ---- Terms

abbrev iri_token_at : ℕ → Text → Token
iri_token_at at s = token_of IRIREF at (iri_points s)

iri_value : (at : ℕ) (s : Text) → GoodIri for_long_form s → iri_of environment (iri_token_at at s) ≡ s
unfolding iri_of resolved_reference resolved
iri_value at s g =
    let e = iri_reference at s g.utf8 in
    ap (λ (r : Text). cond (has_scheme r) r (resolve [] r)) e ∙ ap (λ (b : Bool). cond b s (resolve [] s)) g.taken

-- A derivation of the term t, whose tokens are those of the parts; v says that the nonterminal's values are nodes.
record NodeTree (n : Nonterminal) (v : Value n → Environment → Node) (at : ℕ) (ps : List Part) (t : Term) : Type 0 where
  tree : TreeOf n
  tokens : leaves_of tree ≡ tokens_at at ps
  term : (v (value tree) environment).term ≡ t
  own : (v (value tree) environment).own ≡ []

iri_tree : ℕ → Text → TreeOf iri_nt
unfolding production
iri_tree at s = node iri_nt (left (leaf (iri_token_at at s) refl))

label_tree : ℕ → Blank → TreeOf BlankNode
unfolding production
label_tree at b = node BlankNode (left (leaf (token_of BLANK_NODE_LABEL at (label_points (number_of b))) refl))

label_term : (at : ℕ) (b : Blank) → Numbered b → blank (label (node_label (token_of BLANK_NODE_LABEL at (label_points (number_of b))))) ≡ blank (renamed_blank b)
label_term at (label s) h = absurd h
label_term at (bracket p) h = absurd h
label_term at (cell p) h = absurd h
label_term at (numbered n) h = ap (λ (x : Text). blank (label x)) (label_value at n)

label_or_subject : (t : Term) → GoodResource for_long_form t → (at : ℕ) → NodeTree labelOrSubject (λ v. v) at (term_parts t) (renamed_term t)
unfolding production leaves meaning tokens_at iri_tree label_tree
label_or_subject (iri s) g at = record { tree = node labelOrSubject (left (iri_tree at s)); tokens = refl; term = ap iri (iri_value at s g); own = refl }
label_or_subject (blank b) g at = record { tree = node labelOrSubject (right (label_tree at b)); tokens = refl; term = label_term at b g; own = refl }
label_or_subject (literal s d) g at = absurd g
label_or_subject (tagged s h) g at = absurd g

subject_tree : (t : Term) → GoodResource for_long_form t → (at : ℕ) → NodeTree subject_nt (λ v. v) at (term_parts t) (renamed_term t)
unfolding production leaves meaning tokens_at iri_tree label_tree
subject_tree (iri s) g at = record { tree = node subject_nt (left (iri_tree at s)); tokens = refl; term = ap iri (iri_value at s g); own = refl }
subject_tree (blank b) g at = record { tree = node subject_nt (right (node blank_nt (left (label_tree at b)))); tokens = refl; term = label_term at b g; own = refl }
subject_tree (literal s d) g at = absurd g
subject_tree (tagged s h) g at = absurd g

abbrev string_token_at : ℕ → Text → Token
string_token_at at s = token_of STRING_LITERAL_QUOTE at (string_points s)

abbrev carets_at : ℕ → Token
carets_at at = token_of carets at (94 ∷ 94 ∷ [])

-- The place behind a token.
abbrev behind : Token → ℕ
behind t = t.start + length t.text

string_tree : ℕ → Text → TreeOf String_nt
unfolding production
string_tree at s = node String_nt (left (leaf (string_token_at at s) refl))

literal_object : TreeOf RDFLiteral → TreeOf object_nt
unfolding production
literal_object x = node object_nt (right (right (right (node literal_nt (left x)))))

typed_tree : (s d : Text) → first_bad s ≡ none → GoodIri for_long_form d → (at : ℕ) → NodeTree object_nt (λ v. v) at (string_part s ∷ type_parts d) (literal s d)
unfolding production leaves meaning tokens_at string_tree literal_object iri_tree
typed_tree s d v g at =
    by (same_text d xsd_string)
    (λ e.
    rw e
    (record {
      tree = literal_object (node RDFLiteral (both (string_tree at s) absent));
      tokens = refl;
      term = ap₂ literal (string_value at s v) (sym (same_eq d xsd_string e));
      own = refl;
    }))
    (λ e.
    rw e
    (record {
      tree = literal_object (node RDFLiteral (both (string_tree at s) (present (right (both (leaf (carets_at (behind (string_token_at at s))) refl) (iri_tree type_place d))))));
      tokens = refl;
      term = ap₂ literal (string_value at s v) (iri_value type_place d g);
      own = refl;
    }))
  where
    type_place : ℕ
    type_place = behind (carets_at (behind (string_token_at at s)))

object_tree : (t : Term) → Good for_long_form t → (at : ℕ) → NodeTree object_nt (λ v. v) at (term_parts t) (renamed_term t)
unfolding production leaves meaning tokens_at string_tree literal_object iri_tree label_tree
object_tree (iri s) g at = record { tree = node object_nt (left (iri_tree at s)); tokens = refl; term = ap iri (iri_value at s g); own = refl }
object_tree (blank b) g at = record { tree = node object_nt (right (left (node blank_nt (left (label_tree at b))))); tokens = refl; term = label_term at b g; own = refl }
object_tree (literal s d) g at = typed_tree s d g.0 g.1 at
object_tree (tagged s h) g at = record {
  tree = literal_object (node RDFLiteral (both (string_tree at s) (present (left (leaf (token_of LANGTAG (behind (string_token_at at s)) (64 ∷ h)) refl)))));
  tokens = refl;
  term = ap₂ tagged (string_value at s g.0) (tag_value (behind (string_token_at at s)) h g.1);
  own = refl;
}

-- ---- A predicate with its object

record VerbTree (at : ℕ) (ps : List Part) (t : Term) : Type 0 where
  tree : TreeOf verb
  tokens : leaves_of tree ≡ tokens_at at ps
  term : value tree environment ≡ t

verb_tree : (t : Term) → GoodPredicate for_long_form t → (at : ℕ) → VerbTree at (term_parts t) (renamed_term t)
unfolding production leaves meaning tokens_at iri_tree
verb_tree (iri s) g at = record { tree = node verb (left (node predicate_nt (iri_tree at s))); tokens = refl; term = ap iri (iri_value at s g) }
verb_tree (blank b) g at = absurd g
verb_tree (literal s d) g at = absurd g
verb_tree (tagged s h) g at = absurd g

record PropertyTree (p o : List Token) (P O : Term) : Type 0 where
  tree : TreeOf predicateObjectList
  tokens : leaves_of tree ≡ p ++ o
  triples_of : (s : Term) → value tree environment s ≡ triple s P O ∷ []

property_tree : {ps qs : List Part} {P O : Term} {i j : ℕ} → VerbTree i ps P → NodeTree object_nt (λ v. v) j qs O → PropertyTree (tokens_at i ps) (tokens_at j qs) P O
unfolding production leaves meaning more_objects more_verbs
property_tree {ps} {qs} {P} {O} {i} {j} v x = record {
  tree = node predicateObjectList (both v.tree (both (node objectList (both x.tree done)) done));
  tokens = ap₂ (λ (a b : List Token). a ++ ((b ++ []) ++ [])) v.tokens x.tokens ∙ ap (λ (b : List Token). tokens_at i ps ++ b) (append-nil (tokens_at j qs ++ []) ∙ append-nil (tokens_at j qs));
  triples_of = λ s.
      ap₂ (λ (a : Term) (b : List Triple). ((triple s a (value x.tree environment).term ∷ b) ++ []) ++ []) v.term x.own
      ∙ ap (λ (b : Term). triple s P b ∷ []) x.term;
}

-- ---- A line

-- The tokens of a term and a blank; of three terms and a dot.
blank_tokens : (ps rest : List Part) (at : ℕ) → tokens_at at (ps ++ gap 32 ∷ rest) ≡ tokens_at at ps ++ tokens_at (at + length (bytes ps) + 1) rest
unfolding tokens_at
blank_tokens ps rest at = tokens_append ps (gap 32 ∷ rest) at

-- The place behind a term and a blank.
abbrev past : ℕ → Term → ℕ
past at t = at + length (bytes (term_parts t)) + 1

-- The places of a triple's parts, where it begins at a place.
abbrev predicate_place : ℕ → Triple → ℕ
predicate_place at t = past at t.subject

abbrev object_place : ℕ → Triple → ℕ
object_place at t = past (predicate_place at t) t.predicate

abbrev dot_of : ℕ → Triple → Token
dot_of at t = token_of dot (past (object_place at t) t.object) (46 ∷ [])

abbrev subject_tokens : ℕ → Triple → List Token
subject_tokens at t = tokens_at at (term_parts t.subject)

abbrev predicate_tokens : ℕ → Triple → List Token
predicate_tokens at t = tokens_at (predicate_place at t) (term_parts t.predicate)

abbrev object_tokens : ℕ → Triple → List Token
object_tokens at t = tokens_at (object_place at t) (term_parts t.object)

triple_tokens : (t : Triple) (at : ℕ) (rest : List Part)
    → tokens_at at (triple_parts t rest)
    ≡ subject_tokens at t ++ (predicate_tokens at t ++ (object_tokens at t ++ dot_of at t ∷ tokens_at (behind (dot_of at t)) rest))
unfolding tokens_at
triple_tokens t at rest =
    blank_tokens (term_parts t.subject) (term_parts t.predicate ++ gap 32 ∷ (term_parts t.object ++ gap 32 ∷ printed dot (46 ∷ []) ∷ rest)) at
    ∙ ap (λ (ts : List Token). subject_tokens at t ++ ts)
    (blank_tokens (term_parts t.predicate) (term_parts t.object ++ gap 32 ∷ printed dot (46 ∷ []) ∷ rest) (predicate_place at t)
    ∙ ap (λ (ts : List Token). predicate_tokens at t ++ ts) (blank_tokens (term_parts t.object) (printed dot (46 ∷ []) ∷ rest) (object_place at t)))

-- A line, and the place of what follows it.
record LineTree (at : ℕ) (g : Option Term) (t : Triple) (rest : List Part) : Type 0 where
  tree : TreeOf block
  next : ℕ
  tokens : leaves_of tree ++ tokens_at next rest ≡ tokens_at at (line_parts g t rest)
  quads : value tree environment ≡ renamed (record { graph = g; triple = t }) ∷ []

-- In the graph g, the triple t of the renamed terms.
abbrev one_quad : Option Term → Triple → Term → List Quad
one_quad g t s = in_graph g (triple s (renamed_term t.predicate) (renamed_term t.object) ∷ [])

module _ (t : Triple) (s : GoodResource for_long_form t.subject) (p : GoodPredicate for_long_form t.predicate) (o : Good for_long_form t.object) where
  properties : (at : ℕ) → PropertyTree (predicate_tokens at t) (object_tokens at t) (renamed_term t.predicate) (renamed_term t.object)
  properties at = property_tree (verb_tree t.predicate p (predicate_place at t)) (object_tree t.object o (object_place at t))

  -- In the default graph: triplesOrGraph ::= labelOrSubject predicateObjectList '.'
  default_line : (at : ℕ) (rest : List Part) → LineTree at none t rest
  unfolding production leaves meaning tokens_at
  default_line at rest = record {
    tree = node block (left (node triplesOrGraph (both x.tree (right (both f.tree (leaf (dot_of at t) refl))))));
    next = behind (dot_of at t) + 1;
    tokens =
        ap₂ (λ (a b : List Token). (a ++ (b ++ dot_of at t ∷ [])) ++ after) x.tokens f.tokens
        ∙ join (subject_tokens at t) (predicate_tokens at t) (object_tokens at t) (dot_of at t) after
        ∙ sym (triple_tokens t at (gap 10 ∷ rest));
    quads = ap (in_graph none) (f.triples_of (value x.tree environment).term) ∙ ap (one_quad none t) x.term;
  }
    where
      x : NodeTree labelOrSubject (λ v. v) at (term_parts t.subject) (renamed_term t.subject)
      x = label_or_subject t.subject s at

      f : PropertyTree (predicate_tokens at t) (object_tokens at t) (renamed_term t.predicate) (renamed_term t.object)
      f = properties at

      after : List Token
      after = tokens_at (behind (dot_of at t) + 1) rest

      join : (a b c : List Token) (d : Token) (r : List Token) → (a ++ ((b ++ c) ++ d ∷ [])) ++ r ≡ a ++ (b ++ (c ++ d ∷ r))
      join a b c d r = simp append_assoc

  -- In a graph: triplesOrGraph ::= labelOrSubject wrappedGraph, with one triple and its '.' in the braces.
  graph_line : (g : Term) → GoodResource for_long_form g → (at : ℕ) (rest : List Part) → LineTree at (some g) t rest
  unfolding production leaves meaning tokens_at
  graph_line g h at rest = record {
    tree =
        node block
        (left
        (node triplesOrGraph
        (both y.tree
        (left
        (node wrappedGraph
        (both (leaf opening refl)
        (both (present (node triplesBlock (both (node triples (left (both x.tree f.tree))) (present (both (leaf (dot_of first t) refl) absent)))))
        (leaf closing refl))))))));
    next = behind closing + 1;
    tokens =
        ap₂ (λ (a : List Token) (b : List Token). (a ++ opening ∷ ((b ++ dot_of first t ∷ []) ++ closing ∷ [])) ++ after) y.tokens
        (ap₂ (λ (a b : List Token). a ++ b) x.tokens f.tokens)
        ∙ join (tokens_at at (term_parts g)) opening (subject_tokens first t) (predicate_tokens first t) (object_tokens first t) (dot_of first t) closing after
        ∙ ap (λ (ts : List Token). tokens_at at (term_parts g) ++ opening ∷ ts) (sym (triple_tokens t first (gap 32 ∷ printed close_brace (125 ∷ []) ∷ gap 10 ∷ rest)))
        ∙ sym (blank_tokens (term_parts g) (printed open_brace (123 ∷ []) ∷ gap 32 ∷ triple_parts t (gap 32 ∷ printed close_brace (125 ∷ []) ∷ gap 10 ∷ rest)) at);
    quads =
        ap₂ (λ (a : Term) (ts : List Triple). in_graph (some a) ((ts ++ value f.tree environment (value x.tree environment).term) ++ [])) y.term x.own
        ∙ ap (λ (ts : List Triple). in_graph (some (renamed_term g)) (ts ++ [])) (f.triples_of (value x.tree environment).term)
        ∙ ap (one_quad (some (renamed_term g)) t) x.term;
  }
    where
      opening : Token
      opening = token_of open_brace (past at g) (123 ∷ [])

      first : ℕ
      first = behind opening + 1

      closing : Token
      closing = token_of close_brace (behind (dot_of first t) + 1) (125 ∷ [])

      y : NodeTree labelOrSubject (λ v. v) at (term_parts g) (renamed_term g)
      y = label_or_subject g h at

      x : NodeTree subject_nt (λ v. v) first (term_parts t.subject) (renamed_term t.subject)
      x = subject_tree t.subject s first

      f : PropertyTree (predicate_tokens first t) (object_tokens first t) (renamed_term t.predicate) (renamed_term t.object)
      f = properties first

      after : List Token
      after = tokens_at (behind closing + 1) rest

      join : (a : List Token) (d : Token) (b c e : List Token) (u v : Token) (r : List Token)
          → (a ++ d ∷ (((b ++ (c ++ e)) ++ u ∷ []) ++ v ∷ [])) ++ r ≡ a ++ d ∷ (b ++ (c ++ (e ++ u ∷ v ∷ r)))
      join a d b c e u v r = simp append_assoc

  line : (g : Option Term) → GoodGraph for_long_form g → (at : ℕ) (rest : List Part) → LineTree at g t rest
  line none h at rest = default_line at rest
  line (some g) h at rest = graph_line g h at rest

-- ---- The lines

-- The derivation of lines that begin at a place.
record Document (at : ℕ) (qs : List Quad) : Type 0 where
  tree : Tree kind_of (production trig) (production trig trigDoc)
  tokens : leaves kind_of (production trig) tree ≡ tokens_at at (parts qs)
  quads : action trig trigDoc (meaning Value (action trig) tree) environment ≡ map renamed qs

document : (qs : List Quad) → GoodQuads for_long_form qs → (at : ℕ) → Document at qs
unfolding production leaves meaning tokens_at parts trig_quads
document [] g at = record { tree = done; tokens = refl; quads = refl }
document (q ∷ qs) g at = go (line q.triple h.subject h.predicate h.object q.graph h.graph at (parts qs)) (λ i. document qs g.1 i)
  where
    h : GoodQuad for_long_form q
    h = g.0

    go : LineTree at q.graph q.triple (parts qs) → ((i : ℕ) → Document i qs) → Document at (q ∷ qs)
    go x d =
        let y = d x.next in
        record {
          tree = more (right x.tree) y.tree;
          tokens = ap (λ (ts : List Token). leaves_of x.tree ++ ts) y.tokens ∙ x.tokens;
          quads = ap₂ (λ (a b : List Quad). a ++ b) x.quads y.quads;
        }

-- The derivation of the document that statements make, with the statements that it constructs.
pub record Derived (qs : List Quad) : Type 0 where
  pub derivation : Derivation trig
  pub tokens : leaves kind_of (production trig) derivation ≡ tokens_at 0 (parts qs)
  pub same : statements trig derivation [] ≡ map renamed qs

pub derived : (qs : List Quad) → GoodQuads for_long_form qs → Derived qs
unfolding root leaves meaning statements
derived qs g = let d = document qs g 0 in record { derivation = node trigDoc d.tree; tokens = d.tokens; same = d.quads }

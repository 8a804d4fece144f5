-- What the writes of the machine do to the statements that the tables hold.
use mathlib.Core.Path.{◌≡◌, refl, sym, ap, ◌∙◌, subst}
use mathlib.Core.List.{List, [], ◌∷◌, ◌++◌, append-nil, append_assoc}
use mathlib.Core.Option.{Option, none, some}
use Prim.Native.Nat.{ℕ}
use Rattle.dataset.specs.Terms.{Term, iri, literal, Triple, Quad, rdf_first}
use Rattle.environment.specs.Environment.{Environment}
use Rattle.dataset.specs.Constructors.{iri_of}
use Rattle.dataset.specs.Statements.{triple, in_graph}
use Rattle.table.specs.Tables.{number}
use Rattle.table.proofs.Numbers.{Known, known_more, known_last, found_known}
use Rattle.table.proofs.Held.{GraphIs, graph_more, Holds, holds_more, holds_last}
use Rattle.token.specs.Tokens.{Token}
use Rattle.text.specs.Text.{Text}
use Rattle.machine.specs.Memory.{Memory, term, term_by, new_term, typed, typed_by, iri_term, row}
use Rattle.machine.specs.Frame.{Place, top, subject_before, object_of, element_of}
use Rattle.machine.specs.Rules.{hold}

-- The memory has this environment, this graph open, and its tables hold these quads.
pub record At (m : Memory) (e : Environment) (g : Option Term) (qs : List Quad) : Type 0 where
  pub env : m.environment ≡ e
  pub graph : GraphIs m.terms m.graph g
  pub rows : Holds m.terms m.rows qs

-- Terms are only added.
pub record Grows (m m' : Memory) : Type 0 where
  pub new : List Term
  pub same : m'.terms ≡ m.terms ++ new

pub grows_none : (m : Memory) → Grows m m
grows_none m = record { new = []; same = sym (append-nil m.terms) }

pub grows_both : {m m' m'' : Memory} → Grows m m' → Grows m' m'' → Grows m m''
grows_both {m} a b = record { new = a.new ++ b.new; same = b.same ∙ ap (λ l. l ++ b.new) a.same ∙ append_assoc m.terms a.new b.new }

-- What was known stays known.
pub still : {m m' : Memory} → Grows m m' → (n : ℕ) (t : Term) → Known m.terms n t → Known m'.terms n t
still {m} a n t h = subst (λ l. Known l n t) (sym a.same) (known_more m.terms a.new n t h)

-- A write that made m' of m: terms were added, and the tables hold more.
pub record Wrote (m m' : Memory) (e : Environment) (g : Option Term) (qs : List Quad) : Type 0 where
  pub at : At m' e g qs
  pub more : Grows m m'

-- A write whose result is the number of the term t.
pub record Named (m : Memory) (r : ℕ × Memory) (t : Term) (e : Environment) (g : Option Term) (qs : List Quad) : Type 0 where
  pub at : At r.1 e g qs
  pub more : Grows m r.1
  pub known : Known r.1.terms r.0 t

module _ {e : Environment} {g : Option Term} {qs : List Quad} where
  pub new_term_named : (t : Term) (m : Memory) → At m e g qs → Named m (new_term t m) t e g qs
  new_term_named t m a =
      record {
        at =
            record {
              env = a.env;
              graph = graph_more m.terms (t ∷ []) m.graph g a.graph;
              rows = holds_more m.terms (t ∷ []) m.rows qs a.rows;
            };
        more = record { new = t ∷ []; same = refl };
        known = known_last m.terms t;
      }

  pub term_named : (t : Term) (m : Memory) → At m e g qs → Named m (term t m) t e g qs
  term_named t m a = go (number t m.terms) refl
    where
      go : (o : Option ℕ) → number t m.terms ≡ o → Named m (term_by o t m) t e g qs
      go none p = new_term_named t m a
      go (some n) p = record { at = a; more = grows_none m; known = found_known t m.terms n p }

  pub typed_named : (s d : Text) (m : Memory) → At m e g qs → Named m (typed s d m) (literal s d) e g qs
  typed_named s d m a =
      let i = term_named (iri d) m a in
      let l = term_named (literal s d) (term (iri d) m).1 i.at in
      record { at = l.at; more = grows_both i.more l.more; known = l.known }

  -- The IRI of a token in the environment.
  pub iri_named : (t : Token) (m : Memory) → At m e g qs → Named m (iri_term t m) (iri (iri_of e t)) e g qs
  iri_named t m a = subst (λ x. Named m (iri_term t m) (iri (iri_of x t)) e g qs) a.env (term_named (iri (iri_of m.environment t)) m a)

  pub typed_by_named : (s : Text) (t : Token) (m : Memory) → At m e g qs → Named m (typed_by s t m) (literal s (iri_of e t)) e g qs
  typed_by_named s t m a = subst (λ x. Named m (typed_by s t m) (literal s (iri_of x t)) e g qs) a.env (typed_named s (iri_of m.environment t) m a)

  -- A row in the open graph.
  pub row_wrote : (s p o at : ℕ) (S P O : Term) (m : Memory) → At m e g qs → Known m.terms s S → Known m.terms p P → Known m.terms o O
      → Wrote m (row s p o at m).1 e g (qs ++ in_graph g (triple S P O ∷ []))
  row_wrote s p o at S P O m a hs hp ho =
      record {
        at =
            record {
              env = a.env;
              graph = a.graph;
              rows =
                  holds_last m.terms m.rows qs (record { graph = m.graph; subject = s; predicate = p; object = o; position = at }) (record { graph = g; triple = triple S P O })
                  a.rows (record { graph = a.graph; subject = hs; predicate = hp; object = ho });
            };
        more = record { new = []; same = sym (append-nil m.terms) };
      }

-- The triple that holds a term at its place, if it is an object or an element.
abbrev pub PlaceIs : List Term → Place → (Term → List Triple) → Type 0
PlaceIs ts top h = (t : Term) → h t ≡ []
PlaceIs ts (subject_before x) h = (t : Term) → h t ≡ []
PlaceIs ts (object_of s p) h = (S : Term) × (P : Term) × Known ts s S × Known ts p P × ((t : Term) → h t ≡ triple S P t ∷ [])
PlaceIs ts (element_of c) h = (C : Term) × Known ts c C × ((t : Term) → h t ≡ triple C (iri rdf_first) t ∷ [])

pub place_still : (m m' : Memory) (q : Place) (h : Term → List Triple) → Grows m m' → PlaceIs m.terms q h → PlaceIs m'.terms q h
place_still m m' top h a p = p
place_still m m' (subject_before x) h a p = p
place_still m m' (object_of s p) h a (S, P, ks, kp, f) = (S, P, still a s S ks, still a p P kp, f)
place_still m m' (element_of c) h a (C, kc, f) = (C, still a c C kc, f)

module _ {e : Environment} {g : Option Term} {qs : List Quad} where
  nothing_more : (m : Memory) (ts : List Triple) → ts ≡ [] → At m e g qs → Wrote m m e g (qs ++ in_graph g ts)
  nothing_more m ts p a = record { at = subst (λ l. At m e g l) (sym (append-nil qs) ∙ ap (λ l. qs ++ in_graph g l) (sym p)) a; more = grows_none m }

  pub hold_wrote : (q : Place) (h : Term → List Triple) (n at : ℕ) (t : Term) (m : Memory) → At m e g qs → PlaceIs m.terms q h → Known m.terms n t
      → Wrote m (hold q n at m).1 e g (qs ++ in_graph g (h t))
  hold_wrote top h n at t m a p k = nothing_more m (h t) (p t) a
  hold_wrote (subject_before x) h n at t m a p k = nothing_more m (h t) (p t) a
  hold_wrote (object_of s p) h n at t m a (S, P, ks, kp, f) k =
      subst (λ l. Wrote m (row s p n at m).1 e g (qs ++ in_graph g l)) (sym (f t)) (row_wrote s p n at S P t m a ks kp k)
  hold_wrote (element_of c) h n at t m a (C, kc, f) k =
      let i = term_named (iri rdf_first) m a in
      let m' = (term (iri rdf_first) m).1 in
      let r = row_wrote c (term (iri rdf_first) m).0 n at C (iri rdf_first) t m' i.at (still i.more c C kc) i.known (still i.more n t k) in
      let w : Wrote m (hold (element_of c) n at m).1 e g (qs ++ in_graph g (triple C (iri rdf_first) t ∷ [])) =
      record { at = r.at; more = grows_both i.more r.more } in
      subst (λ l. Wrote m (hold (element_of c) n at m).1 e g (qs ++ in_graph g l)) (sym (f t)) w

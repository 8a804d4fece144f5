-- The statements that rows and terms hold.
use mathlib.Core.Path.{◌≡◌, refl, ap, ap₂}
use mathlib.Core.List.{List, [], ◌∷◌, ◌++◌}
use mathlib.Core.Option.{Option, none, some}
use Prim.Native.Nat.{ℕ, zero, suc}
use Rattle.dataset.specs.Terms.{Term, Quad}
use Rattle.table.specs.Layout.{Row}
use Rattle.table.specs.Tables.{or_nil, term_of, graph_of, quad_of, quads}
use Rattle.table.proofs.Numbers.{Known, known_zero, known_more}

-- The number is of the graph: 0 of the default graph, else its name's.
abbrev pub GraphIs : List Term → ℕ → Option Term → Type 0
GraphIs ts n none = n ≡ 0
GraphIs ts n (some g) = Known ts n g

pub graph_more : (ts us : List Term) (n : ℕ) (g : Option Term) → GraphIs ts n g → GraphIs (ts ++ us) n g
graph_more ts us n none h = h
graph_more ts us n (some g) h = known_more ts us n g h

pub record RowIs (ts : List Term) (r : Row) (q : Quad) : Type 0 where
  pub graph : GraphIs ts r.graph q.graph
  pub subject : Known ts r.subject q.triple.subject
  pub predicate : Known ts r.predicate q.triple.predicate
  pub object : Known ts r.object q.triple.object

-- The rows hold these quads, in order.
abbrev pub Holds : List Term → List Row → List Quad → Type 0
Holds ts [] [] = Unit {0}
Holds ts [] (q ∷ qs) = ⊥
Holds ts (r ∷ rs) [] = ⊥
Holds ts (r ∷ rs) (q ∷ qs) = RowIs ts r q × Holds ts rs qs

pub holds_more : (ts us : List Term) (rs : List Row) (qs : List Quad) → Holds ts rs qs → Holds (ts ++ us) rs qs
holds_more ts us [] [] h = tt
holds_more ts us [] (q ∷ qs) h = h
holds_more ts us (r ∷ rs) [] h = h
holds_more ts us (r ∷ rs) (q ∷ qs) (h, k) = (
  record {
    graph = graph_more ts us r.graph q.graph h.graph;
    subject = known_more ts us r.subject q.triple.subject h.subject;
    predicate = known_more ts us r.predicate q.triple.predicate h.predicate;
    object = known_more ts us r.object q.triple.object h.object;
  },
  holds_more ts us rs qs k,
)

pub holds_last : (ts : List Term) (rs : List Row) (qs : List Quad) (r : Row) (q : Quad) → Holds ts rs qs → RowIs ts r q → Holds ts (rs ++ r ∷ []) (qs ++ q ∷ [])
holds_last ts [] [] r q h k = (k, tt)
holds_last ts [] (p ∷ qs) r q h k = absurd h
holds_last ts (s ∷ rs) [] r q h k = absurd h
holds_last ts (s ∷ rs) (p ∷ qs) r q (h, l) k = (h, holds_last ts rs qs r q l k)

term_of_known : (ts : List Term) (n : ℕ) (t : Term) → Known ts n t → term_of ts n ≡ t
term_of_known ts n t h = ap or_nil h

graph_of_is : (ts : List Term) (n : ℕ) (g : Option Term) → GraphIs ts n g → graph_of ts n ≡ g
graph_of_is ts n none h = ap (graph_of ts) h
graph_of_is ts zero (some g) h = absurd (known_zero ts g h)
graph_of_is ts (suc n) (some g) h = ap some (term_of_known ts (suc n) g h)

quad_of_is : (ts : List Term) (r : Row) (q : Quad) → RowIs ts r q → quad_of ts r ≡ q
quad_of_is ts r q h i =
    record {
      graph = graph_of_is ts r.graph q.graph h.graph i;
      triple =
          record {
            subject = term_of_known ts r.subject q.triple.subject h.subject i;
            predicate = term_of_known ts r.predicate q.triple.predicate h.predicate i;
            object = term_of_known ts r.object q.triple.object h.object i;
          };
    }

pub holds_quads : (ts : List Term) (rs : List Row) (qs : List Quad) → Holds ts rs qs → quads ts rs ≡ qs
unfolding quads
holds_quads ts [] [] h = refl
holds_quads ts [] (q ∷ qs) h = absurd h
holds_quads ts (r ∷ rs) [] h = absurd h
holds_quads ts (r ∷ rs) (q ∷ qs) (h, k) = ap₂ ◌∷◌ (quad_of_is ts r q h) (holds_quads ts rs qs k)

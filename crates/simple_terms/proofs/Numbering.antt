-- The numbers that terms get, and what stays while a place is made.
use mathlib.Core.Path.{◌≡◌, refl}
use mathlib.Core.Bool.{Bool, true, false}
use mathlib.Core.Option.{Option, none, some}
use Prim.Native.Nat.{ℕ, zero, suc, ◌<◌}
use native.Mathlib.Omega.{arith}
use lib.ListN.{length}
use Rattle.text.specs.Text.{cond}
use Rattle.dataset.specs.Terms.{Term, iri, blank, cell, rdf_first, rdf_rest, rdf_nil}
use Rattle.table.specs.Tables.{number}
use Rattle.table.proofs.Numbers.{known_zero, found_known}
use Rattle.machine.specs.Memory.{Memory, Write, term_by, term, new_term}
use Rattle.machine.specs.Rules.{hold, new_cell}
use Rattle.machine.proofs.Extends.{adds_term}
use Rattle.state.specs.Writes.{place_of, cells_of, begin, new_element, placed, closed}
use Rattle.state.specs.declared.Spot.{Spot}

-- ---- No term has the number 0

pub term_positive : (t : Term) (m : Memory) → 0 < (term t m).0
term_positive t m = go (number t m.terms) refl
  where
    go : (o : Option ℕ) → number t m.terms ≡ o → 0 < (term_by o t m).0
    go none e = omega arith
    go (some zero) e = absurd (known_zero m.terms t (found_known t m.terms 0 e))
    go (some (suc n)) e = omega arith

pub placed_positive : (s : Spot) (v : Write ℕ) → ((m : Memory) → 0 < (v m).0) → (m : Memory) → 0 < (placed s v m).0
unfolding placed
placed_positive s v p m = p (begin s m).1

pub bracket_positive : (s : Spot) (t : Term) (m : Memory) → 0 < (placed s (new_term t) m).0
bracket_positive s t m = placed_positive s (new_term t) (λ n. omega arith) m

-- The node of an empty list.
pub nil_positive : (s : Spot) → s.last ≡ 0 → (m : Memory) → 0 < (closed s m).0
unfolding closed
nil_positive s e m = rw e (term_positive (iri rdf_nil) m)

-- ---- A place leaves the environment

hold_environment : (x y n at : ℕ) (m : Memory) → (hold (place_of x y) n at m).1.environment ≡ m.environment
hold_environment zero y n at m = refl
hold_environment (suc x) zero n at m = (adds_term (iri rdf_first)).same m
hold_environment (suc x) (suc y) n at m = refl

cell_environment : (x y opened last at : ℕ) (m : Memory) → (new_cell (place_of x y) opened (cells_of last) at m).1.environment ≡ m.environment
cell_environment x y opened zero at m = hold_environment x y (suc (length m.terms)) opened (new_term (blank (cell at)) m).1
cell_environment x y opened (suc last) at m = (adds_term (iri rdf_rest)).same (new_term (blank (cell at)) m).1

pub begin_environment : (s : Spot) (m : Memory) → (begin s m).1.environment ≡ m.environment
unfolding begin
begin_environment s m = go s.list
  where
    go : (b : Bool) → (cond b (new_element s) (λ n. (place_of s.x s.y, n)) m).1.environment ≡ m.environment
    go true = cell_environment s.x s.y s.opened s.last s.at m
    go false = refl

-- Nodes that are equal in the environment of the memory are placed alike.
pub placed_alike : (s : Spot) (v w : Write ℕ) (m : Memory) → ((n : Memory) → n.environment ≡ m.environment → v n ≡ w n) → placed s v m ≡ placed s w m
unfolding placed
placed_alike s v w m e = rw (e (begin s m).1 (begin_environment s m))

-- Slices that were lent on in a struct, and come back from it: the same borrows.
use mathlib.Core.Path.{◌≡◌, refl, sym, ap}
use mathlib.Core.List.{List}
use Prim.Native.Nat.{ℕ}
use denote.Ref.{MutBor, at_last}
use Rattle.state.specs.declared.Held.{Held}
use Rattle.simulation.specs.Simulation.{Same}
use Rattle.reader.specs.Reader.{lent_slices}
use Rattle.reader.specs.Stages.{held_slices}

same_name : (x y : MutBor (List ℕ)) (l : List ℕ) → y ≡ at_last x l → x.ghost_name ≡ y.ghost_name
same_name x y l e = sym (ap (λ (z : MutBor (List ℕ)). z.ghost_name) e)

-- What stands behind a name, when the borrow is over.
abbrev Ended : List ℕ → MutBor (List ℕ) → MutBor (List ℕ) → Type 0
Ended l x y = x.ghost_name ≡ y.ghost_name → l ≡ y.now

module _ {a b : Held} (s : Same a b) where
  pub slices_back : {work rows terms store : List ℕ} → Ended work a.work b.work → Ended rows a.rows b.rows → Ended terms a.terms b.terms → Ended store a.store b.store → lent_slices work rows terms store ≡ held_slices b
  slices_back w r u v = rw (
    w (same_name a.work b.work b.work.now s.work),
    r (same_name a.rows b.rows b.rows.now s.rows),
    u (same_name a.terms b.terms b.terms.now s.terms),
    v (same_name a.store b.store b.store.now s.store),
  ) refl

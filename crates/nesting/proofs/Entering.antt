-- The place of a list.
use mathlib.Core.Path.{◌≡◌, ◌∙◌}
use mathlib.Core.List.{List}
use Prim.Native.Nat.{ℕ}
use borrow.Author.Tests.{ne_eqb}
use lib.ListN.{get_or}
use Rattle.state.specs.Words.{x_word, y_word, list_in}
use Rattle.nodes.specs.Nodes.{Aimed}
use Rattle.nesting.specs.Nesting.{Entered}

module _ (st st' : List ℕ) (at cell : ℕ) where
  pub entered_node : list_in st ≡ 0 → Aimed st st' 1 (get_or st x_word 0) (get_or st y_word 0) at 0 → Entered st st' at cell
  entered_node e a = record { list_is = a.list_is; x_is = a.x_is ∙ rw e; y_is = a.y_is ∙ rw e; opened_is = a.opened_is; last_is = a.last_is; before = a.before; behind = a.behind; words = a.words }

  pub entered_element : (list_in st ≡ 0 → ⊥) → Aimed st st' 1 cell 0 at 0 → Entered st st' at cell
  entered_element z a = record { list_is = a.list_is; x_is = a.x_is ∙ rw (ne_eqb (list_in st) 0 z); y_is = a.y_is ∙ rw (ne_eqb (list_in st) 0 z); opened_is = a.opened_is; last_is = a.last_is; before = a.before; behind = a.behind; words = a.words }

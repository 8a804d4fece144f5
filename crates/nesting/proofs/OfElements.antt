-- The elements of a list, and its end.
use mathlib.Core.Path.{◌≡◌, refl, sym, ◌∙◌, subst}
use mathlib.Core.List.{List, [], ◌∷◌}
use Prim.Native.Nat.{ℕ, zero, suc, ◌+◌, ◌-◌, ◌≤◌, ◌<◌}
use native.Mathlib.Omega.{arith}
use borrow.Author.Tests.{ne_eqb}
use lib.ListN.{length, get_or}
use denote.Ref.{MutBor}
use Rattle.text.specs.Text.{Text}
use Rattle.token.specs.Kind.{kind_code, close_paren}
use Rattle.machine.specs.Frame.{full_stop, Place, subject_before, object_of, element_of, Cells, no_cell, cells, list}
use Rattle.machine.specs.Rules.{extended, after_node}
use Rattle.state.specs.Words.{terms_word, kind_word, at_word, depth_word, x_word, y_word, opened_word, kind_in, at_in, depth_in, node_in}
use Rattle.simulation.specs.Simulation.{held, Ready, Reads, on_top}
use Rattle.state.specs.declared.Held.{Held}
use Rattle.simulation.proofs.Compose.{comes_here, comes_then, comes_stop}
use Rattle.nodes.specs.Nodes.{Aimed, Fills, Steady, Spotted, Belongs, LastCell, InList, Closes}
use Rattle.nodes.proofs.Passing.{depth_closing}
use Rattle.nodes.proofs.Slots.{in_list, element_slot, list_closes, cell_or_nil}
use Rattle.nesting.specs.Nesting.{Awaited, Lists, list_node}
use Rattle.nesting.proofs.Skipping.{token_there}
use Rattle.simulation.proofs.Numbers.{next_small}
use Rattle.nesting.proofs.Aiming.{comes_aimed, ready_aimed, spotted, less_left}
use Rattle.table.specs.Layout.{word_limit}

-- What is known of the list's first cell: where there is none yet, all is as at the start.
abbrev pub Head : Cells → Held → Held → Type 0
Head no_cell a₀ a = (kind_in a.st ≡ kind_in a₀.st) × (get_or a.st terms_word 0 ≡ get_or a₀.st terms_word 0)
Head (cells head c) a₀ a = (head ≡ suc (get_or a₀.st terms_word 0)) × ((kind_in a₀.st ≡ kind_code close_paren → ⊥) × (head < word_limit))

-- Some place that the words may stand for.
pub some_place : (x y : ℕ) → (place : Place) × Belongs place x y
some_place zero y = (subject_before full_stop, refl)
some_place (suc x) zero = (element_of (suc x), (refl, (refl, omega arith)))
some_place (suc x) (suc y) = (object_of (suc x) (suc y), (refl, (refl, (omega arith, omega arith))))

-- Before the next element.
pub record ElementsInv (doc : Text) (a₀ a : Held) (x y opened last : ℕ) : Type 0 where
  pub ready : Ready doc a
  pub depth : depth_in a.st ≡ depth_in a₀.st
  pub later : at_in a₀.st ≤ at_in a.st
  pub x_is : x ≡ get_or a₀.st x_word 0
  pub y_is : y ≡ get_or a₀.st y_word 0
  pub opened_is : opened ≡ get_or a₀.st opened_word 0
  pub cs : Cells
  pub last_cell : LastCell cs last
  pub last_small : last < word_limit
  pub head : Head cs a₀ a
  pub reads : (place : Place) → Belongs place x y → Reads doc (list place opened no_cell ∷ []) (list place opened cs ∷ []) a₀ a 0

pub elements_start : (doc : Text) (a : Held) → Ready doc a → ElementsInv doc a a (get_or a.st x_word 0) (get_or a.st y_word 0) (get_or a.st opened_word 0) 0
elements_start doc a r =
    record {
      ready = r;
      depth = refl;
      later = omega arith;
      x_is = refl;
      y_is = refl;
      opened_is = refl;
      cs = no_cell;
      last_cell = refl;
      last_small = omega arith;
      head = (refl, refl);
      reads = λ place b. comes_here doc (on_top (list place (get_or a.st opened_word 0) no_cell ∷ [])) a r;
    }

module _ (doc : Text) (a₀ : Held) (spot : Spotted a₀) (work rows terms store : MutBor (List ℕ)) (st st' : List ℕ) (x y opened last : ℕ) (I : ElementsInv doc a₀ (held work rows terms store st) x y opened last) (aim : Aimed st st' 1 x y opened last) where
  abbrev a : Held
  a = held work rows terms store st

  abbrev a1 : Held
  a1 = held work rows terms store st'

  ready_1 : Ready doc a1
  ready_1 = ready_aimed doc work rows terms store st st' aim.before aim.words I.ready

  pub elements_ready : Ready doc a1 × Spotted a1
  elements_ready = (ready_1, spotted work rows terms store st st' 1 x y opened last aim (rw I.x_is spot.x) (rw I.y_is spot.y) (rw I.opened_is spot.opened) I.last_small)

  pub elements_depth : depth_in st' ≡ depth_in a₀.st
  elements_depth = aim.before depth_word (omega arith) ∙ I.depth

  pub elements_small : get_or st' terms_word 0 + 1 < word_limit
  elements_small = next_small doc a1 ready_1

  pub elements_close_call : kind_in st' ≡ kind_code close_paren → 0 < depth_in a₀.st → (Ready doc a1 × Spotted a1) × ((kind_in st' ≡ kind_code close_paren) × (0 < depth_in st'))
  elements_close_call k d = (elements_ready, (k, omega (arith, elements_depth)))

  to_aimed : (place : Place) → Belongs place x y → Reads doc (list place opened no_cell ∷ []) (list place opened I.cs ∷ []) a₀ a1 0
  to_aimed place b =
      comes_then doc (on_top (list place opened no_cell ∷ [])) (on_top (list place opened I.cs ∷ [])) (on_top (list place opened I.cs ∷ [])) a₀ a a1 0 0 (I.reads place b) refl
      (comes_aimed doc work rows terms store st st' aim.before aim.words (on_top (list place opened I.cs ∷ [])) I.ready)

  belongs : (place : Place) → Belongs place x y → Belongs place (get_or st' x_word 0) (get_or st' y_word 0)
  belongs place b = rw (aim.x_is, aim.y_is) b

  there : (place : Place) → Belongs place x y → InList a1 place opened I.cs
  there place b = subst (λ (o : ℕ). InList a1 place o I.cs) aim.opened_is (in_list a1 place I.cs (belongs place b) (rw aim.last_is I.last_cell))

  pub elements_call : (kind_in st' ≡ kind_code close_paren → ⊥) → (Ready doc a1 × Spotted a1) × Awaited doc a1
  elements_call k =
      let (place, q) = some_place x y in (
        elements_ready,
        (list place opened I.cs, (list place opened (extended I.cs (suc (get_or st' terms_word 0))), element_slot doc a1 place opened I.cs (λ e. omega (arith, aim.list_is)) (there place q) k)),
      )

  -- From the start's own words.
  from_start : (place : Place) → Belongs place (get_or a₀.st x_word 0) (get_or a₀.st y_word 0) → Belongs place x y
  from_start place b = rw (I.x_is, I.y_is) b

  -- The end of the list.
  module _ (b : Held) (r : ℕ) (k : kind_in st' ≡ kind_code close_paren) (C : Closes doc a1 b r) where
    node_is : cell_or_nil I.cs (node_in b.st) ≡ list_node a₀ b
    node_is = go I.cs I.head
      where
        go : (cs : Cells) → Head cs a₀ a → cell_or_nil cs (node_in b.st) ≡ list_node a₀ b
        go no_cell h = let e : kind_in a₀.st ≡ kind_code close_paren = sym h.0 ∙ (sym (aim.before kind_word (omega arith)) ∙ k) in rw e
        go (cells head c) h = rw (ne_eqb (kind_in a₀.st) (kind_code close_paren) h.1.0) h.0

    to_close : (place : Place) → Belongs place (get_or a₀.st x_word 0) (get_or a₀.st y_word 0) → Reads doc (list place (get_or a₀.st opened_word 0) no_cell ∷ []) (after_node place (list_node a₀ b)) a₀ b r
    to_close place b₀ =
        let q = from_start place b₀ in
        let t = token_there doc st' (kind_code close_paren) ready_1.cursor k (λ h. omega arith) (λ h. omega arith) in
        let R : Reads doc (list place opened I.cs ∷ []) (after_node place (cell_or_nil I.cs (node_in b.st))) a1 b r = list_closes doc a1 b r ready_1 t (λ h. omega arith) k C.gives place opened I.cs (there place q) in
        let S : Reads doc (list place opened no_cell ∷ []) (after_node place (cell_or_nil I.cs (node_in b.st))) a₀ b r =
        comes_then doc (on_top (list place opened no_cell ∷ [])) (on_top (list place opened I.cs ∷ [])) (on_top (after_node place (cell_or_nil I.cs (node_in b.st)))) a₀ a1 b 0 r (to_aimed place q) refl R in
        subst (λ (o : ℕ). Reads doc (list place o no_cell ∷ []) (after_node place (list_node a₀ b)) a₀ b r) I.opened_is
        (subst (λ (n : ℕ). Reads doc (list place opened no_cell ∷ []) (after_node place n) a₀ b r) node_is S)

    pub elements_close : 0 < depth_in a₀.st → Lists doc a₀ b r
    elements_close d =
        record {
          reads = to_close;
          depth = λ z. let e = (C.gives.does.done z).depth ∙ sym (depth_closing doc a1 25 k refl refl) in omega (arith, e, elements_depth);
          small = λ z. small_node I.cs I.head refl z;
          some_node = λ z. some_there I.cs I.head I.last_cell refl z;
        }
      where
        small_node : (cs : Cells) → Head cs a₀ a → I.cs ≡ cs → r ≡ 0 → list_node a₀ b < word_limit
        small_node cs h e z = subst (λ (n : ℕ). n < word_limit) node_is (subst (λ (c : Cells). cell_or_nil c (node_in b.st) < word_limit) (sym e) (go cs h z))
          where
            go : (cs : Cells) → Head cs a₀ a → r ≡ 0 → cell_or_nil cs (node_in b.st) < word_limit
            go no_cell h z = C.gives.small z
            go (cells head c) h z = h.1.1

        some_there : (cs : Cells) → Head cs a₀ a → LastCell cs last → I.cs ≡ cs → r ≡ 0 → 0 < list_node a₀ b
        some_there cs h l e z = subst (λ (n : ℕ). 0 < n) node_is (subst (λ (c : Cells). 0 < cell_or_nil c (node_in b.st)) (sym e) (go cs h l z))
          where
            go : (cs : Cells) → Head cs a₀ a → LastCell cs last → r ≡ 0 → 0 < cell_or_nil cs (node_in b.st)
            go no_cell h l z = C.positive z (aim.last_is ∙ l)
            go (cells head c) h l z = omega (arith, h.0)

  -- One element more.
  module _ (b : Held) (r : ℕ) (k : kind_in st' ≡ kind_code close_paren → ⊥) (N : Fills doc a1 b r × Steady a1 b r) where
    to_element : (place : Place) → Belongs place x y → Reads doc (list place opened no_cell ∷ []) (list place opened (extended I.cs (suc (get_or st' terms_word 0))) ∷ []) a₀ b r
    to_element place q =
        let slot = element_slot doc a1 place opened I.cs (λ e. omega (arith, aim.list_is)) (there place q) k in
        let R : Reads doc (list place opened I.cs ∷ []) (list place opened (extended I.cs (suc (get_or st' terms_word 0))) ∷ []) a1 b r = N.0 (list place opened I.cs) (list place opened (extended I.cs (suc (get_or st' terms_word 0)))) slot in
        comes_then doc (on_top (list place opened no_cell ∷ [])) (on_top (list place opened I.cs ∷ [])) (on_top (list place opened (extended I.cs (suc (get_or st' terms_word 0))) ∷ [])) a₀ a1 b 0 r (to_aimed place q) refl R

    pub elements_stop : (r ≡ 0 → ⊥) → Lists doc a₀ b r
    elements_stop z =
        record {
          reads = λ place q.
              subst (λ (o : ℕ). Reads doc (list place o no_cell ∷ []) (after_node place (list_node a₀ b)) a₀ b r) I.opened_is
              (comes_stop doc (on_top (list place opened no_cell ∷ [])) (on_top (list place opened (extended I.cs (suc (get_or st' terms_word 0))) ∷ [])) (on_top (after_node place (list_node a₀ b))) a₀ b r (to_element place (from_start place q)) z);
          depth = λ y. absurd (z y);
          small = λ y. absurd (z y);
          some_node = λ y. absurd (z y);
        }

    pub elements_again : r ≡ 0 → (c : ℕ) → c ≡ get_or st' terms_word 0 + 1 → ElementsInv doc a₀ b x y opened c
    elements_again z c ec =
        let e : suc (get_or st' terms_word 0) ≡ c = omega arith in
        record {
          ready = ready_b z;
          depth = N.1.depth z ∙ elements_depth;
          later = omega (arith, N.1.later z, aim.before at_word (omega arith), I.later);
          x_is = I.x_is;
          y_is = I.y_is;
          opened_is = I.opened_is;
          cs = extended I.cs c;
          last_cell = last_new I.cs c (omega arith);
          last_small = omega (arith, elements_small);
          head = head_new I.cs I.head c ec;
          reads = λ place q. subst (λ (n : ℕ). Reads doc (list place opened no_cell ∷ []) (list place opened (extended I.cs n) ∷ []) a₀ b 0) e (subst (λ (n : ℕ). Reads doc (list place opened no_cell ∷ []) (list place opened (extended I.cs (suc (get_or st' terms_word 0))) ∷ []) a₀ b n) z (to_element place q));
        }
      where
        ready_b : r ≡ 0 → Ready doc b
        ready_b z = let (place, q) = some_place x y in (to_element place q).ready z

        last_new : (cs : Cells) (c : ℕ) → 0 < c → LastCell (extended cs c) c
        last_new no_cell c h = (refl, h)
        last_new (cells head l) c h = (refl, h)

        head_new : (cs : Cells) → Head cs a₀ a → (c : ℕ) → c ≡ get_or st' terms_word 0 + 1 → Head (extended cs c) a₀ b
        head_new no_cell h c ec = (omega (arith, aim.before terms_word (omega arith), h.1), ((λ y. k (aim.before kind_word (omega arith) ∙ (h.0 ∙ y))), omega (arith, elements_small)))
        head_new (cells head l) h c ec = h

    pub elements_less : r ≡ 0 → length doc - at_in b.st < length doc - at_in st
    elements_less z = let (place, q) = some_place x y in less_left doc a b ((to_element place q).ready z) (omega (arith, N.1.later z, aim.before at_word (omega arith)))

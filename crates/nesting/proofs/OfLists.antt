-- A list in brackets: its next element or its end; and what is resumed behind a node.
use mathlib.Core.Path.{◌≡◌, refl, sym, ap, ◌∙◌, subst}
use mathlib.Core.List.{List, [], ◌∷◌, ◌++◌}
use Prim.Native.Nat.{ℕ, zero, suc, ◌+◌, ◌-◌, ◌<◌}
use native.Mathlib.Omega.{arith}
use lib.ListN.{get_or}
use denote.Ref.{MutBor}
use Rattle.text.specs.Text.{Text}
use Rattle.token.specs.Kind.{kind_code, close_paren}
use Rattle.machine.specs.Frame.{Place, object_of, Cells, no_cell, cells, Frame, list}
use Rattle.machine.specs.Rules.{extended, after_node}
use Rattle.state.specs.Words.{terms_word, kind_word, depth_word, list_word, x_word, y_word, opened_word, last_word, level_word, kind_in, at_in, depth_in, node_in, list_in}
use Rattle.simulation.specs.Simulation.{held, Ready, Reads, on_top}
use Rattle.state.specs.declared.Held.{Held}
use Rattle.simulation.proofs.Compose.{comes_here, comes_then, comes_stop, comes_within}
use Rattle.simulation.proofs.Frames.{ready_does}
use Rattle.simulation.proofs.Numbers.{next_small}
use Rattle.state.specs.Writes.{closed}
use Rattle.nodes.specs.Nodes.{Aimed, Spotted, Slot, InList, Closes, spot_of}
use Rattle.nodes.proofs.Passing.{depth_closing}
use Rattle.nodes.proofs.Slots.{element_slot, list_closes, cell_or_nil}
use Rattle.nesting.specs.Nesting.{Awaited, level_x, level_y, Marked, Saves, Levels, SomeLevels, Deep, Resumes, Values, Follows, Elements}
use Rattle.nesting.proofs.Skipping.{token_there}
use Rattle.nesting.proofs.Aiming.{comes_aimed, ready_aimed, spotted}
use Rattle.nesting.proofs.OfElements.{some_place}
use Rattle.nesting.proofs.Levels.{levels_at, mark_depth, mark_before, mark_spot, mark_levels, saves_list, level_object, level_list, level_none}
use Rattle.table.specs.Layout.{word_limit}

-- ---- The end of a list

module _ (doc : Text) (a : Held) (ready : Ready doc a) (k : kind_in a.st ≡ kind_code close_paren) (b : Held) (r : ℕ) (C : Closes doc a b r) where
  to_close : (place : Place) → ((n : ℕ) → after_node place n ≡ []) → (opened : ℕ) (cs : Cells) → InList a place opened cs → (fs : List Frame) → Reads doc (list place opened cs ∷ fs) fs a b r
  to_close place e opened cs w fs =
      comes_within doc (λ x. fs ++ x) (on_top (list place opened cs ∷ [])) (on_top []) a b r
      (subst (λ (gs : List Frame). Reads doc (list place opened cs ∷ []) gs a b r) (e (cell_or_nil cs (node_in b.st)))
      (list_closes doc a b r ready (token_there doc a.st 25 ready.cursor k (λ h. omega arith) (λ h. omega arith)) (λ h. omega arith) k C.gives place opened cs w))

  pub element_stop : (r ≡ 0 → ⊥) → Elements doc a b r
  element_stop z place e opened cs w fs l = record { reads = comes_stop doc (on_top (list place opened cs ∷ fs)) (on_top fs) (on_top []) a b r (to_close place e opened cs w fs) z; depth = λ y. absurd (z y) }

  module _ (z : r ≡ 0) where
    depth_there : depth_in b.st ≡ depth_in a.st - 1
    depth_there = (C.gives.does.done z).depth ∙ sym (depth_closing doc a 25 k refl refl)

    pub closed_later : at_in a.st < at_in b.st
    closed_later = (C.gives.does.done z).later

    up : (fs : List Frame) → Levels a.st (depth_in a.st - 1) fs → Levels b.st (depth_in b.st) fs
    up fs l = levels_at a.st b.st (depth_in a.st - 1) (depth_in b.st) depth_there (λ i h. (C.gives.does.done z).spot i (omega arith)) fs l

    pub closed_call : Deep a.st → Ready doc b × SomeLevels b.st (depth_in b.st)
    closed_call (h, (fs, l)) = (ready_does doc (closed (spot_of a)) a b r ready (token_there doc a.st 25 ready.cursor k (λ h. omega arith) (λ h. omega arith)) (λ h. omega arith) C.gives.does z, (fs, up fs l))

    pub element_resumes : 0 < depth_in a.st → (d : Held) (q : ℕ) → Resumes doc b d q → Elements doc a d q
    element_resumes h d q R place e opened cs w fs l =
        let v = R fs (up fs l) in
        record {
          reads = comes_then doc (on_top (list place opened cs ∷ fs)) (on_top fs) (on_top []) a b d r q (to_close place e opened cs w fs) z v.reads;
          depth = λ y. omega (arith, v.depth y, depth_there);
        }

-- ---- One element more

module _ (doc : Text) (work rows terms store : MutBor (List ℕ)) (st st' : List ℕ) (ready : Ready doc (held work rows terms store st)) (k : kind_in st ≡ kind_code close_paren → ⊥) (in_a_list : list_in st ≡ 1) (deep : Deep st) (cell : ℕ) (ec : cell ≡ get_or st terms_word 0 + 1) (M : Marked st st' 0 cell) where
  abbrev a : Held
  a = held work rows terms store st

  abbrev a1 : Held
  a1 = held work rows terms store st'

  same : (i : ℕ) → i < level_word → get_or st' i 0 ≡ get_or st i 0
  same = mark_spot st st' 0 cell M

  cell_there : cell ≡ suc (get_or st' terms_word 0)
  cell_there = omega (arith, same terms_word (omega arith))

  cell_small : cell < word_limit
  cell_small = omega (arith, next_small doc a ready)

  -- The list as it is behind the element.
  saves_element : (place : Place) → ((n : ℕ) → after_node place n ≡ []) → (opened : ℕ) (cs : Cells) → Saves 0 cell (list place opened (extended cs cell))
  saves_element place e opened no_cell = saves_list cell place e opened cell cell_small (omega arith)
  saves_element place e opened (cells head last) = saves_list cell place e opened head cell_small (omega arith)

  levels_there : (place : Place) → ((n : ℕ) → after_node place n ≡ []) → (opened : ℕ) (cs : Cells) → (fs : List Frame) → Levels st (depth_in st - 1) fs → Levels st' (depth_in st') (list place opened (extended cs cell) ∷ fs)
  levels_there place e opened cs fs l = mark_levels st st' 0 cell M (list place opened (extended cs cell)) (saves_element place e opened cs) deep.0 fs l

  -- Some list is read there.
  some_list : (last : ℕ) → get_or st' last_word 0 ≡ last → (place : Place) × ((opened : ℕ) × ((cs : Cells) × InList a1 place opened cs))
  some_list zero e = let (place, b) = some_place (get_or st' x_word 0) (get_or st' y_word 0) in (place, (get_or st' opened_word 0, (no_cell, (b, (refl, e)))))
  some_list (suc last) e = (object_of 1 1, (0, (cells 1 (suc last), (e, omega arith))))

  awaits : (place : Place) (opened : ℕ) (cs : Cells) → InList a1 place opened cs → Slot doc a1 (list place opened cs) (list place opened (extended cs (suc (get_or st' terms_word 0))))
  awaits place opened cs w = element_slot doc a1 place opened cs (λ x. omega (arith, same list_word (omega arith))) w (λ x. k (sym (same kind_word (omega arith)) ∙ x))

  pub element_call : Spotted a → (Ready doc a1 × Spotted a1) × (Awaited doc a1 × SomeLevels st' (depth_in st'))
  element_call s = (
    (
      ready_aimed doc work rows terms store st st' (mark_before st st' 0 cell M) M.words ready,
      record { x = rw (same x_word (omega arith)) s.x; y = rw (same y_word (omega arith)) s.y; opened = rw (same opened_word (omega arith)) s.opened; last = rw (same last_word (omega arith)) s.last },
    ),
    (
      (let (place, (opened, (cs, w))) = some_list (get_or st' last_word 0) refl in (list place opened cs, (list place opened (extended cs (suc (get_or st' terms_word 0))), awaits place opened cs w))),
      (let (h, (fs, l)) = deep in (list (object_of 1 1) 0 (extended no_cell cell) ∷ fs, levels_there (object_of 1 1) (λ n. refl) 0 no_cell fs l)),
    ),
  )

  in_list_there : (place : Place) (opened : ℕ) (cs : Cells) → InList a place opened cs → InList a1 place opened cs
  in_list_there place opened no_cell (b, (o, l)) = (rw (same x_word (omega arith), same y_word (omega arith)) b, (rw (same opened_word (omega arith)) o, same last_word (omega arith) ∙ l))
  in_list_there place opened (cells head c) (l, h) = (same last_word (omega arith) ∙ l, h)

  pub element_value : (d : Held) (q : ℕ) → Values doc a1 d q → Elements doc a d q
  element_value d q W place e opened cs w fs l =
      let slot = awaits place opened cs (in_list_there place opened cs w) in
      let v = W.goes_on (list place opened cs) (list place opened (extended cs (suc (get_or st' terms_word 0)))) slot fs (subst (λ (n : ℕ). Levels st' (depth_in st') (list place opened (extended cs n) ∷ fs)) cell_there (levels_there place e opened cs fs l)) in
      record {
        reads = comes_then doc (on_top (list place opened cs ∷ fs)) (on_top (list place opened cs ∷ fs)) (on_top []) a a1 d 0 q (comes_aimed doc work rows terms store st st' (mark_before st st' 0 cell M) M.words (on_top (list place opened cs ∷ fs)) ready) refl v.reads;
        depth = λ y. v.depth y ∙ mark_depth st st' 0 cell M;
      }

-- ---- What is resumed

module _ (doc : Text) (work rows terms store : MutBor (List ℕ)) (st : List ℕ) (ready : Ready doc (held work rows terms store st)) where
  abbrev h : Held
  h = held work rows terms store st

  abbrev x : ℕ
  x = level_x st (depth_in st)

  abbrev y : ℕ
  y = level_y st (depth_in st)

  -- Behind an object.
  pub resumes_object : 0 < x → (d : Held) (q : ℕ) → Follows doc h d q → Resumes doc h d q
  resumes_object z d q F fs l =
      let (gs, (e, (p, (w, (s, l'))))) = level_object st (depth_in st) z fs l in rw e (F gs l')

  -- The caller goes on.
  pub resumes_none : y ≡ 0 → Resumes doc h h 0
  resumes_none e fs l = rw (level_none st (depth_in st) e fs l) (record { reads = comes_here doc (on_top []) h ready; depth = λ z. omega arith })

  -- A list.
  module _ (ex : x ≡ 0) (ny : y ≡ 0 → ⊥) (st' : List ℕ) (last : ℕ) (el : last ≡ y) (aim : Aimed st st' 1 0 0 0 last) where
    abbrev h1 : Held
    h1 = held work rows terms store st'

    depth_same : depth_in st' ≡ depth_in st
    depth_same = aim.before depth_word (omega arith)

    below : (fs : List Frame) → Levels st (depth_in st - 1) fs → Levels st' (depth_in st' - 1) fs
    below fs l = levels_at st st' (depth_in st - 1) (depth_in st' - 1) (ap (λ (d : ℕ). d - 1) depth_same) (λ i g. aim.behind i (omega arith)) fs l

    pub resumes_call : SomeLevels st (depth_in st) → (Ready doc h1 × Spotted h1) × ((list_in st' ≡ 1) × Deep st')
    resumes_call (fs, l) =
        let (f, (gs, (e, (p, (o, (small, l')))))) = level_list st (depth_in st) ex ny fs l in (
          (
            ready_aimed doc work rows terms store st st' aim.before aim.words ready,
            spotted work rows terms store st st' 1 0 0 0 last aim (omega arith) (omega arith) (omega arith) (rw el small),
          ),
          (aim.list_is, (omega (arith, depth_same), (gs, below gs l'))),
        )

    pub resumes_list : (d : Held) (q : ℕ) → Elements doc h1 d q → Resumes doc h d q
    resumes_list d q L fs l =
        let (f, (gs, (e, (p, (o, (small, l')))))) = level_list st (depth_in st) ex ny fs l in
        let v = L o.place o.no_node o.opened (cells o.head y) (aim.last_is ∙ el, omega arith) gs (below gs l') in
        let R = comes_then doc (on_top (list o.place o.opened (cells o.head y) ∷ gs)) (on_top (list o.place o.opened (cells o.head y) ∷ gs)) (on_top []) h h1 d 0 q
        (comes_aimed doc work rows terms store st st' aim.before aim.words (on_top (list o.place o.opened (cells o.head y) ∷ gs)) ready) refl v.reads in
        rw (e, o.is_list) (record { reads = R; depth = λ z. v.depth z ∙ depth_same })

-- Objects and elements: the frames that await them, and what their tokens leave open.
use mathlib.Core.Path.{◌≡◌, refl, sym, ap, ◌∙◌, subst}
use mathlib.Core.List.{List, [], ◌∷◌, ◌++◌}
use mathlib.Core.Bool.{Bool, true, false, not, ◌||◌}
use mathlib.Core.Option.{none, some}
use Prim.Native.Nat.{ℕ, zero, suc, ◌≤◌, ◌<◌}
use native.Mathlib.Omega.{arith}
use borrow.Author.Tests.{ne_eqb}
use lib.Dec.{T, eqb}
use lib.ListN.{length, get_or}
use Rattle.text.specs.Text.{Text}
use Rattle.text.proofs.Compare.{by, contrary}
use Rattle.text.proofs.Booleans.{imp, imp_use, all, is_true}
use Rattle.token.specs.Kind.{Kind, kind_code, last_kind, end_kind, kind_of_code, among, open_bracket, open_paren, close_paren, strings, kw_a}
use Rattle.token.specs.Tokens.{Token}
use Rattle.token.proofs.KindCodes.{each_kind, all_kinds}
use Rattle.table.proofs.Numbers.{not_none}
use Rattle.machine.proofs.Made.{some_same}
use Rattle.dataset.specs.Terms.{blank, cell, iri, rdf_type, rdf_nil, bracket as bracket_node}
use Rattle.machine.specs.Memory.{Memory, Write, return, ◌>>=◌, ◌>>◌, new_term, term, Done}
use Rattle.machine.specs.Frame.{Ending, Place, top, subject_before, object_of, element_of, Cells, no_cell, cells, Frame, object, after_object, list, bracket}
use Rattle.machine.specs.Rules.{Rule, ◌⇒◌, find_rule, hold, new_cell, extended, end_list, Opening, after_node, bracket_term, simple, string, object_rules}
use Rattle.state.specs.Words.{terms_word, x_word, y_word, opened_word, last_word, kind_in, at_in, node_in, list_in}
use Rattle.state.specs.Represents.{Tables}
use Rattle.state.specs.Writes.{place_of, cells_of, begin, new_element, placed, opened_at, closed}
use Rattle.state.specs.Cursor.{TokenHere}
use Rattle.simulation.specs.Simulation.{here, Holding, Ready, Reads, Does, Gives}
use Rattle.state.specs.declared.Held.{Held}
use Rattle.simulation.proofs.Tests.{kinds_of, among_any, no_rule, among_code}
use Rattle.simulation.proofs.Frames.{reads_does}
use Rattle.nodes.specs.Nodes.{node_rules, term_rules, spot_of, slot_place, object_kinds, term_kinds, Slot, Fills, PutsTerm, Belongs, LastCell, InList}

-- ---- Kinds

-- The kinds that object rules are for.
module _ (t : Token) (tied : Bool) (begins : Write Opening) where
  object_rules_kinds : (k : Kind) → among_any (kinds_of (object_rules t tied begins)) k ≡ among object_kinds k
  object_rules_kinds k = each_kind (among_any (kinds_of (object_rules t tied begins))) (among object_kinds) refl k

  pub no_object : (k : Kind) → among object_kinds k ≡ false → find_rule k (object_rules t tied begins) ≡ none
  no_object k e = no_rule (object_rules t tied begins) k (object_rules_kinds k ∙ e)

object_not_close : (k : Kind) → among object_kinds k ≡ true → among (close_paren ∷ []) k ≡ false
unfolding all
object_not_close k e = go (among (close_paren ∷ []) k) (imp_use (among object_kinds k) (not (among (close_paren ∷ []) k)) (all_kinds (λ j. imp (among object_kinds j) (not (among (close_paren ∷ []) j))) tt k) (subst T (sym e) tt))
  where
    go : (b : Bool) → T (not b) → b ≡ false
    go true x = absurd x
    go false x = refl

-- ---- Places

module _ (a : Held) (x y : ℕ) (ex : get_or a.st x_word 0 ≡ x) (ey : get_or a.st y_word 0 ≡ y) where
  pub slot_plain : list_in a.st ≡ 0 → slot_place a ≡ place_of x y
  unfolding slot_place
  slot_plain el = rw (el, ex, ey)

  pub begin_plain : list_in a.st ≡ 0 → (m : Memory) → begin (spot_of a) m ≡ (place_of x y, m)
  unfolding begin
  begin_plain el m = rw (el, ex, ey)

pub slot_list : (a : Held) → (list_in a.st ≡ 0 → ⊥) → slot_place a ≡ element_of (suc (get_or a.st terms_word 0))
unfolding slot_place
slot_list a z = rw (ne_eqb (list_in a.st) 0 z)

pub begin_list : (a : Held) → (list_in a.st ≡ 0 → ⊥) → (m : Memory) → begin (spot_of a) m ≡ new_element (spot_of a) m
unfolding begin
begin_list a z m = rw (ne_eqb (list_in a.st) 0 z)

-- ---- An object

pub object_slot : (doc : Text) (a : Held) (s p : ℕ) (e : Ending) → list_in a.st ≡ 0 → get_or a.st x_word 0 ≡ s → get_or a.st y_word 0 ≡ p → 0 < s → 0 < p → Slot doc a (object s p e) (after_object s p e)
object_slot doc a zero p e el ex ey hs hp = absurd (omega arith)
object_slot doc a (suc s) zero e el ex ey hs hp = absurd (omega arith)
object_slot doc a (suc s) (suc p) e el ex ey hs hp =
    let there : slot_place a ≡ object_of (suc s) (suc p) = slot_plain a (suc s) (suc p) ex ey el in
    let starts : (m : Memory) → begin (spot_of a) m ≡ (object_of (suc s) (suc p), m) = begin_plain a (suc s) (suc p) ex ey el in
    record {
      opening = return (record { place = object_of (suc s) (suc p); after = after_object (suc s) (suc p) e ∷ [] });
      rules = λ k tied h. refl;
      others = λ z y tied h. no_object (here doc a) tied (return (record { place = object_of (suc s) (suc p); after = after_object (suc s) (suc p) e ∷ [] })) (here doc a).kind h;
      opens = λ old m h. rw (there, starts m);
      begins = λ old m h. rw (there, starts m);
      no_node = λ n. rw there;
      no_properties = λ n. rw there;
    }

-- ---- An element

-- A list's own place and cells, as far as the array knows them.
hold_belongs : (place : Place) (x y : ℕ) → Belongs place x y → (n at : ℕ) → hold place n at ≡ hold (place_of x y) n at
hold_belongs top x y b n at = absurd b
hold_belongs (subject_before e) x y b n at = rw b
hold_belongs (object_of zero p) x y b n at = absurd (omega arith)
hold_belongs (object_of (suc s) zero) x y b n at = absurd (omega arith)
hold_belongs (object_of (suc s) (suc p)) x y b n at = rw (b.0, b.1.0)
hold_belongs (element_of zero) x y b n at = absurd (omega arith)
hold_belongs (element_of (suc c)) x y b n at = rw (b.0, b.1.0)

cell_same : (a : Held) (place : Place) (opened : ℕ) (cs : Cells) (at : ℕ) → InList a place opened cs → (m : Memory)
    → new_cell place opened cs at m ≡ new_cell (place_of (get_or a.st x_word 0) (get_or a.st y_word 0)) (get_or a.st opened_word 0) (cells_of (get_or a.st last_word 0)) at m
cell_same a place opened no_cell at (b, (o, l)) m =
    rw (o, l) (ap (λ (w : Write Done). (suc (length m.terms), (w (new_term (blank (cell at)) m).1).1)) (hold_belongs place (get_or a.st x_word 0) (get_or a.st y_word 0) b (suc (length m.terms)) (get_or a.st opened_word 0)))
cell_same a place opened (cells head zero) at (l, h) m = absurd (omega arith)
cell_same a place opened (cells head (suc c)) at (l, h) m = rw l

-- A list at the place that the array knows.
pub in_list : (a : Held) (place : Place) (cs : Cells) → Belongs place (get_or a.st x_word 0) (get_or a.st y_word 0) → LastCell cs (get_or a.st last_word 0) → InList a place (get_or a.st opened_word 0) cs
in_list a place no_cell b l = (b, (refl, l))
in_list a place (cells head c) b l = l

-- The node of a list: its first cell, or the number of rdf:nil.
abbrev pub cell_or_nil : Cells → ℕ → ℕ
cell_or_nil no_cell n = n
cell_or_nil (cells head last) n = head

abbrev closed_here : Held → ℕ → Write ℕ
closed_here a at = end_list (place_of (get_or a.st x_word 0) (get_or a.st y_word 0)) (get_or a.st opened_word 0) (cells_of (get_or a.st last_word 0)) at

closes_same : (a : Held) (place : Place) (opened : ℕ) (cs : Cells) (at : ℕ) → InList a place opened cs → (m : Memory)
    → ((end_list place opened cs at m).1 ≡ (closed_here a at m).1) × ((n : ℕ) → n ≡ (closed_here a at m).0 → (end_list place opened cs at m).0 ≡ cell_or_nil cs n)
closes_same a place opened no_cell at (b, (o, l)) m = (
  rw (o, l) (ap (λ (w : Write Done). (w (term (iri rdf_nil) m).1).1) (hold_belongs place (get_or a.st x_word 0) (get_or a.st y_word 0) b (term (iri rdf_nil) m).0 (get_or a.st opened_word 0))),
  λ n e. sym (e ∙ rw l),
)
closes_same a place opened (cells head zero) at (l, h) m = absurd (omega arith)
closes_same a place opened (cells head (suc c)) at (l, h) m = (rw l, λ n e. refl)

-- The memory has as many terms as the array says.
count_of : (old : Tables) (m : Memory) (a : Held) → Holding old m a → get_or a.st terms_word 0 ≡ length m.terms
count_of old m a h = h.terms_held.keeps.count

-- The number of a new cell is the next one.
cell_number : (place : Place) (opened : ℕ) (cs : Cells) (at : ℕ) (m : Memory) → (new_cell place opened cs at m).0 ≡ suc (length m.terms)
cell_number place opened no_cell at m = refl
cell_number place opened (cells head last) at m = refl

module _ (doc : Text) (a : Held) (place : Place) (opened : ℕ) (cs : Cells) (z : list_in a.st ≡ 0 → ⊥) (w : InList a place opened cs) where
  abbrev cell_next : ℕ
  cell_next = suc (get_or a.st terms_word 0)

  abbrev begins_list : Write Opening
  begins_list = new_cell place opened cs (at_in a.st) >>= λ c. return (record { place = element_of c; after = list place opened (extended cs c) ∷ [] })

  same_cell : (m : Memory) → new_cell place opened cs (at_in a.st) m ≡ new_cell (place_of (get_or a.st x_word 0) (get_or a.st y_word 0)) (get_or a.st opened_word 0) (cells_of (get_or a.st last_word 0)) (at_in a.st) m
  same_cell m = cell_same a place opened cs (at_in a.st) w m

  number_next : (old : Tables) (m : Memory) → Holding old m a → (new_cell place opened cs (at_in a.st) m).0 ≡ cell_next
  number_next old m h = cell_number place opened cs (at_in a.st) m ∙ ap suc (sym (count_of old m a h))

  pub element_slot : (kind_in a.st ≡ kind_code close_paren → ⊥) → Slot doc a (list place opened cs) (list place opened (extended cs cell_next))
  element_slot k25 =
      record {
        opening = begins_list;
        rules = λ k tied h. rw (object_not_close k h);
        others = λ x y tied h. rw (close_not (kind_in a.st) k25 x y.known) (no_object (here doc a) tied begins_list (here doc a).kind h);
        opens = λ old m h.
            let n = number_next old m h in
            rw (slot_list a z, begin_list a z m, ← same_cell m) (ap (λ (c : ℕ). (record { place = element_of c; after = list place opened (extended cs c) ∷ [] }, (new_cell place opened cs (at_in a.st) m).1)) n);
        begins = λ old m h. rw (slot_list a z, begin_list a z m, ← same_cell m) (ap element_of (number_next old m h));
        no_node = λ n. rw (slot_list a z);
        no_properties = λ n. rw (slot_list a z);
      }
    where
      close_not : (k : ℕ) → (k ≡ kind_code close_paren → ⊥) → (k ≡ end_kind → ⊥) → k ≤ last_kind → among (close_paren ∷ []) (kind_of_code k) ≡ false
      close_not k x y w = rw (among_code (close_paren ∷ []) k y w, ne_eqb k (kind_code close_paren) x)

-- ---- Nodes of one token

-- Rules whose results are made into other ones, before more rules.
abbrev made_of : {A B : Type 0} → (Write A → Write B) → List (Rule A) → List (Rule B)
made_of g [] = []
made_of g ((ks ⇒ w) ∷ rs) = (ks ⇒ g w) ∷ made_of g rs

pub found_made : {A B : Type 0} (g : Write A → Write B) (k : Kind) (rs : List (Rule A)) (os : List (Rule B)) (v : Write A) → find_rule k rs ≡ some v → find_rule k (made_of g rs ++ os) ≡ some (g v)
found_made g k [] os v e = not_none e
found_made g k ((ks ⇒ w) ∷ rs) os v e =
    by (among ks k) (λ h. rw h (ap (λ x. some (g x)) (some_same (rw h at e)))) (λ h. rw h (found_made g k rs os v (rw h at e)))

pub found_front : {A : Type 0} (k : Kind) (rs qs : List (Rule A)) (v : Write A) → among_any (kinds_of rs) k ≡ true → find_rule k (rs ++ qs) ≡ some v → find_rule k rs ≡ some v
found_front k [] qs v h e = contrary (sym h)
found_front k ((ks ⇒ w) ∷ rs) qs v h e = by (among ks k) (λ p. rw p (rw p at e)) (λ p. rw p (found_front k rs qs v (rw p at h) (rw p at e)))

-- A kind that a term's rule takes is taken by an object's rule.
module _ (t : Token) (tied : Bool) (begins : Write Opening) (k : Kind) (h : among term_kinds k ≡ true) where
  node_kinds : among_any (kinds_of (node_rules t)) k ≡ true
  node_kinds = each_kind (among_any (kinds_of (node_rules t))) (among term_kinds) refl k ∙ h

  term_object : (v : Write ℕ) → find_rule k (term_rules t) ≡ some v → find_rule k (object_rules t tied begins) ≡ some (simple t tied begins v)
  term_object v e =
      found_made (simple t tied begins) k (node_rules t)
      ((strings ⇒ string t tied begins tied)
      ∷ (open_bracket ∷ [] ⇒ (begins >>= λ o. (bracket_term t tied >>= λ n. (hold o.place n t.start >> return (bracket o.place n ∷ o.after)))))
      ∷ (open_paren ∷ [] ⇒ (begins >>= λ o. return (list o.place t.start no_cell ∷ o.after))) ∷ [])
      v (found_front k (node_rules t) ((kw_a ∷ [] ⇒ term (iri rdf_type)) ∷ []) v node_kinds e)

  term_among : among object_kinds k ≡ true
  unfolding all
  term_among = is_true (among object_kinds k) (imp_use (among term_kinds k) (among object_kinds k) (all_kinds (λ j. imp (among term_kinds j) (among object_kinds j)) tt k) (subst T (sym h) tt))

-- There is a rule for it.
pub term_rule : (t : Token) (k : Kind) → among (kw_a ∷ term_kinds) k ≡ true → (v : Write ℕ) × (find_rule k (term_rules t) ≡ some v)
term_rule t k h = some_rule (term_rules t) k (each_kind (among_any (kinds_of (term_rules t))) (among (kw_a ∷ term_kinds)) refl k ∙ h)
  where
    some_rule : {A : Type 0} (rs : List (Rule A)) (k : Kind) → among_any (kinds_of rs) k ≡ true → (v : Write A) × (find_rule k rs ≡ some v)
    some_rule [] k e = contrary (sym e)
    some_rule ((ks ⇒ w) ∷ rs) k e = by (among ks k) (λ p. (w, rw p)) (λ p. let (v, q) = some_rule rs k (rw p at e) in (v, rw p q))

-- A term fills the place that awaits it.
module _ (doc : Text) (a b : Held) (r : ℕ) (ready : Ready doc a) (here_token : TokenHere doc a.st) (z : kind_in a.st ≡ end_kind → ⊥) where
  -- What an object's token writes is what the place and the node write.
  simple_placed : (f g : Frame) (s : Slot doc a f g) (tied : Bool) (v : Write ℕ) (old : Tables) (m : Memory) → Holding old m a
      → ((simple (here doc a) tied s.opening v m).1 ≡ (placed (spot_of a) v m).1) × ((simple (here doc a) tied s.opening v m).0 ≡ g ∷ [])
  unfolding placed
  simple_placed f g s tied v old m x = (rw (s.opens old m x, s.begins old m x), rw (s.opens old m x))

  pub term_fills : PutsTerm doc a b r → among term_kinds (here doc a).kind ≡ true → Fills doc a b r
  term_fills P h f g s =
      let (v, e) = term_rule (here doc a) (here doc a).kind (more (here doc a).kind h) in
      reads_does doc f (g ∷ []) a b r ready (placed (spot_of a) v) here_token z (P v e).gives.does
      (λ tied. (
        simple (here doc a) tied s.opening v,
        (
          s.rules (here doc a).kind tied (term_among (here doc a) tied s.opening (here doc a).kind h) ∙ term_object (here doc a) tied s.opening (here doc a).kind h v e,
          λ old m x. let p = simple_placed f g s tied v old m x in (p.0, λ y. p.1),
        ),
      ))
    where
      or_true : (b : Bool) → (b || true) ≡ true
      or_true true = refl
      or_true false = refl

      more : (k : Kind) → among term_kinds k ≡ true → among (kw_a ∷ term_kinds) k ≡ true
      more k h = rw h (or_true (eqb 13 (kind_code k)))

  -- A bracket: its node is at its place, and what is in it is open.
  pub bracket_opens : kind_in a.st ≡ kind_code open_bracket → Gives doc (placed (spot_of a) (new_term (blank (bracket_node (at_in a.st))))) a b r → (f g : Frame) → Slot doc a f g
      → Reads doc (f ∷ []) (bracket (slot_place a) (node_in b.st) ∷ g ∷ []) a b r
  unfolding placed
  bracket_opens k G f g s =
      reads_does doc f (bracket (slot_place a) (node_in b.st) ∷ g ∷ []) a b r ready (placed (spot_of a) (new_term (blank (bracket_node (at_in a.st))))) here_token z G.does
      (λ tied. (
        (s.opening >>= λ o. (bracket_term (here doc a) tied >>= λ n. (hold o.place n (here doc a).start >> return (bracket o.place n ∷ o.after)))),
        (
          s.rules (here doc a).kind tied (rw k) ∙ rw k,
          λ old m x. (
            rw (s.opens old m x, s.begins old m x),
            λ y. rw (s.opens old m x) (ap (λ (n : ℕ). bracket (slot_place a) n ∷ g ∷ []) (sym (G.node y old m x))),
          ),
        ),
      ))

  -- A list: its place is known, and its elements are open.
  pub paren_opens : kind_in a.st ≡ kind_code open_paren → Does doc (opened_at (spot_of a)) a b r → (f g : Frame) → Slot doc a f g
      → Reads doc (f ∷ []) (list (slot_place a) (at_in a.st) no_cell ∷ g ∷ []) a b r
  unfolding opened_at
  paren_opens k D f g s =
      reads_does doc f (list (slot_place a) (at_in a.st) no_cell ∷ g ∷ []) a b r ready (opened_at (spot_of a)) here_token z D
      (λ tied. (
        (s.opening >>= λ o. return (list o.place (here doc a).start no_cell ∷ o.after)),
        (
          s.rules (here doc a).kind tied (rw k) ∙ rw k,
          λ old m x. (rw (s.opens old m x), λ y. rw (s.opens old m x)),
        ),
      ))

  -- The end of a list.
  pub list_closes : kind_in a.st ≡ kind_code close_paren → Gives doc (closed (spot_of a)) a b r → (place : Place) (opened : ℕ) (cs : Cells) → InList a place opened cs
      → Reads doc (list place opened cs ∷ []) (after_node place (cell_or_nil cs (node_in b.st))) a b r
  unfolding closed
  list_closes k G place opened cs w =
      reads_does doc (list place opened cs) (after_node place (cell_or_nil cs (node_in b.st))) a b r ready (closed (spot_of a)) here_token z G.does
      (λ tied. (
        (end_list place opened cs (here doc a).start >>= λ n. return (after_node place n)),
        (
          rw k,
          λ old m x. let e = closes_same a place opened cs (at_in a.st) w m in (
            e.0,
            λ y. ap (after_node place) (e.1 (node_in b.st) (G.node y old m x)),
          ),
        ),
      ))

-- The objects of a subject and a predicate.
use mathlib.Core.Path.{◌≡◌, refl, ◌∙◌, subst}
use mathlib.Core.List.{List, [], ◌∷◌}
use Prim.Native.Nat.{ℕ, ◌-◌, ◌≤◌, ◌<◌}
use native.Mathlib.Omega.{arith}
use lib.ListN.{length}
use denote.Ref.{MutBor}
use Rattle.text.specs.Text.{Text}
use Rattle.token.specs.Kind.{kind_code, comma}
use Rattle.machine.specs.Memory.{return}
use Rattle.machine.specs.Frame.{Ending, full_stop, object, after_object}
use Rattle.machine.specs.Refusals.{new_depth}
use Rattle.state.specs.Words.{at_word, depth_word, kind_in, at_in, depth_in, graph_in}
use Rattle.simulation.specs.Simulation.{held, here, Ready, Reads, on_top}
use Rattle.state.specs.declared.Held.{Held}
use Rattle.simulation.proofs.Compose.{comes_here, comes_then}
use Rattle.simulation.proofs.Frames.{reads_does}
use Rattle.nodes.specs.Nodes.{Aimed, Passed, Fills, Steady, Spotted}
use Rattle.nodes.proofs.Passing.{Quiet, passed_same}
use Rattle.nodes.proofs.Slots.{object_slot}
use Rattle.nesting.specs.Nesting.{Awaited, Objects}
use Rattle.nesting.proofs.Skipping.{token_there}
use Rattle.nesting.proofs.Aiming.{comes_aimed, ready_aimed, spotted, less_left}
use Rattle.table.specs.Layout.{word_limit}

-- Before the next object.
pub record ObjectsInv (doc : Text) (a₀ a : Held) (s p : ℕ) : Type 0 where
  pub ready : Ready doc a
  pub depth : depth_in a.st ≡ depth_in a₀.st
  pub later : at_in a₀.st ≤ at_in a.st
  pub reads : (e : Ending) → Reads doc (object s p e ∷ []) (object s p e ∷ []) a₀ a 0

pub objects_start : (doc : Text) (a : Held) (s p : ℕ) → Ready doc a → ObjectsInv doc a a s p
objects_start doc a s p r = record { ready = r; depth = refl; later = omega arith; reads = λ e. comes_here doc (on_top (object s p e ∷ [])) a r }

module _ (doc : Text) (a₀ : Held) (work rows terms store : MutBor (List ℕ)) (st st' : List ℕ) (s p : ℕ) (I : ObjectsInv doc a₀ (held work rows terms store st) s p) (aim : Aimed st st' 0 s p 0 0) where
  pub objects_ready : (s < word_limit) → (p < word_limit) → 0 < s → 0 < p → (Ready doc (held work rows terms store st') × Spotted (held work rows terms store st')) × Awaited doc (held work rows terms store st')
  objects_ready hs hp zs zp = (
    (ready_aimed doc work rows terms store st st' aim.before aim.words I.ready, spotted work rows terms store st st' 0 s p 0 0 aim hs hp (omega arith) (omega arith)),
    (object s p full_stop, (after_object s p full_stop, object_slot doc (held work rows terms store st') s p full_stop aim.list_is aim.x_is aim.y_is zs zp)),
  )

  pub objects_depth : depth_in st' ≡ depth_in a₀.st
  objects_depth = aim.before depth_word (omega arith) ∙ I.depth

  module _ (b : Held) (r : ℕ) (hs : 0 < s) (hp : 0 < p) (N : Fills doc (held work rows terms store st') b r × Steady (held work rows terms store st') b r) where
    to_node : (e : Ending) → Reads doc (object s p e ∷ []) (after_object s p e ∷ []) a₀ b r
    to_node e =
        let f = on_top (object s p e ∷ []) in
        let g = on_top (after_object s p e ∷ []) in
        let a = held work rows terms store st in
        let a1 = held work rows terms store st' in
        comes_then doc f f g a₀ a b 0 r (I.reads e) refl
        (comes_then doc f f g a a1 b 0 r (comes_aimed doc work rows terms store st st' aim.before aim.words f I.ready) refl
        (N.0 (object s p e) (after_object s p e) (object_slot doc a1 s p e aim.list_is aim.x_is aim.y_is hs hp)))

    steady : Steady a₀ b r
    steady = record { depth = λ e. N.1.depth e ∙ objects_depth; later = λ e. omega (arith, N.1.later e, aim.before at_word (omega arith), I.later) }

    pub objects_stop : (r ≡ 0 → ⊥) → Objects doc a₀ b s p r
    objects_stop z = record { reads = to_node; ended = λ e. absurd (z e); steady = steady }

    pub objects_end : r ≡ 0 → (kind_in b.st ≡ kind_code comma → ⊥) → Objects doc a₀ b s p 0
    objects_end z k = subst (λ (x : ℕ). Objects doc a₀ b s p x) z (record { reads = to_node; ended = λ e. k; steady = steady })

    pub objects_more_ready : r ≡ 0 → Ready doc b
    objects_more_ready z = (to_node full_stop).ready z

quiet : Quiet (kind_code comma)
quiet = record { escapes = refl; reference = refl; name = refl; opening = refl }

module _ (doc : Text) (work rows terms store : MutBor (List ℕ)) (u u' : List ℕ) (ready : Ready doc (held work rows terms store u)) (k : kind_in u ≡ kind_code comma) (P : Passed doc u u' (depth_in u) (graph_in u)) where
  depth_20 : depth_in u ≡ new_depth (depth_in u) (here doc (held work rows terms store u))
  unfolding new_depth
  depth_20 = rw k

  pub comma_reads : (s p : ℕ) (e : Ending) → Reads doc (after_object s p e ∷ []) (object s p e ∷ []) (held work rows terms store u) (held work rows terms store u') 0
  comma_reads s p e =
      reads_does doc (after_object s p e) (object s p e ∷ []) (held work rows terms store u) (held work rows terms store u') 0 ready (λ m. (0, m)) (token_there doc u (kind_code comma) ready.cursor k (λ h. omega arith) (λ h. omega arith)) (λ h. omega arith)
      (passed_same doc work rows terms store u u' 20 (depth_in u) 0 k quiet P depth_20)
      (λ tied. (return (object s p e ∷ []), (rw k, λ old m h. (refl, λ y. refl))))

-- A comma, and one object more.
module _ (doc : Text) (a₀ : Held) (work₁ rows₁ terms₁ store₁ : MutBor (List ℕ)) (st st' : List ℕ) (s p : ℕ) (I : ObjectsInv doc a₀ (held work₁ rows₁ terms₁ store₁ st) s p) (aim : Aimed st st' 0 s p 0 0)
    (work rows terms store : MutBor (List ℕ)) (u u' : List ℕ) (r : ℕ) (hs : 0 < s) (hp : 0 < p) (N : Fills doc (held work₁ rows₁ terms₁ store₁ st') (held work rows terms store u) r × Steady (held work₁ rows₁ terms₁ store₁ st') (held work rows terms store u) r)
    (z : r ≡ 0) (k : kind_in u ≡ kind_code comma) (P : Passed doc u u' (depth_in u) (graph_in u)) where
  abbrev b : Held
  b = held work rows terms store u

  abbrev b' : Held
  b' = held work rows terms store u'

  ready_b : Ready doc b
  ready_b = objects_more_ready doc a₀ work₁ rows₁ terms₁ store₁ st st' s p I aim b r hs hp N z

  over_comma : (e : Ending) → Reads doc (after_object s p e ∷ []) (object s p e ∷ []) b b' 0
  over_comma e = comma_reads doc work rows terms store u u' ready_b k P s p e

  pub objects_again : ObjectsInv doc a₀ b' s p
  objects_again =
      let w = steady doc a₀ work₁ rows₁ terms₁ store₁ st st' s p I aim b r hs hp N in
      record {
        ready = (over_comma full_stop).ready refl;
        depth = P.depth_is ∙ w.depth z;
        later = omega (arith, P.later, w.later z);
        reads = λ e. comes_then doc (on_top (object s p e ∷ [])) (on_top (after_object s p e ∷ [])) (on_top (object s p e ∷ [])) a₀ b b' r 0 (to_node doc a₀ work₁ rows₁ terms₁ store₁ st st' s p I aim b r hs hp N e) z (over_comma e);
      }

  -- The cursor has gone on.
  pub objects_less : length doc - at_in u' < length doc - at_in st
  objects_less = less_left doc (held work₁ rows₁ terms₁ store₁ st) b' ((over_comma full_stop).ready refl) (omega (arith, P.later, N.1.later z, aim.before at_word (omega arith)))

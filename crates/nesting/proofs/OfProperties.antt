-- Predicates and their objects.
use mathlib.Core.Path.{◌≡◌, refl, sym, ◌∙◌, subst}
use mathlib.Core.List.{List, [], ◌∷◌, ◌++◌}
use mathlib.Core.Bool.{true, false}
use Prim.Native.Nat.{ℕ, ◌-◌, ◌≤◌, ◌<◌}
use native.Mathlib.Omega.{arith}
use lib.ListN.{length}
use denote.Ref.{MutBor}
use Rattle.token.specs.Kind.{kind_code, semicolon}
use Rattle.environment.specs.Code.{words_size}
use Rattle.text.specs.Text.{Text}
use Rattle.machine.specs.Frame.{Ending, full_stop, Frame, object, after_object, after_semicolon}
use Rattle.state.specs.Words.{kind_in, at_in, depth_in, node_in}
use Rattle.state.specs.Cursor.{Cursor}
use Rattle.simulation.specs.Simulation.{code_among, held, Ready, Reads, on_top}
use Rattle.state.specs.declared.Held.{Held}
use Rattle.simulation.proofs.Compose.{comes_here, comes_then, comes_within}
use Rattle.nodes.specs.Nodes.{Aimed, Steady, PutsTerm, Verbs, verb_kinds}
use Rattle.nodes.proofs.Predicates.{verbs_semicolon, ends_object, ends_semicolon}
use Rattle.nesting.specs.Nesting.{Objects, Properties, Skips}
use Rattle.nesting.proofs.OfVerbs.{VerbDone, verb_comes, verb_done}
use Rattle.nesting.proofs.Aiming.{less_left}
use Rattle.table.specs.Layout.{word_limit}

-- What is open where the next predicate is awaited: at first f; later what is open behind a semicolon, and the frames after it.
pub record Awaits (doc : Text) (f : Frame) (s : ℕ) (e : Ending) (after : List Frame) (a₀ a : Held) : Type 0 where
  pub frames : List Frame
  pub reads : Reads doc (f ∷ []) frames a₀ a 0
  pub next : (b : Held) (r : ℕ) → ((g : Frame) (x : List Frame) → Verbs g s e x → Reads doc (g ∷ []) (object s (node_in b.st) e ∷ x) a b r) → Reads doc frames (object s (node_in b.st) e ∷ after) a b r

-- Before the next predicate.
pub record PropertiesInv (doc : Text) (a₀ a : Held) (s : ℕ) : Type 0 where
  pub ready : Ready doc a
  pub verb : code_among verb_kinds (kind_in a.st) ≡ true
  pub depth : depth_in a.st ≡ depth_in a₀.st
  pub later : at_in a₀.st ≤ at_in a.st
  pub reads : (f : Frame) (e : Ending) (after : List Frame) → Verbs f s e after → Awaits doc f s e after a₀ a

pub properties_start : (doc : Text) (a : Held) (s : ℕ) → Ready doc a → code_among verb_kinds (kind_in a.st) ≡ true → PropertiesInv doc a a s
properties_start doc a s r v =
    record {
      ready = r;
      verb = v;
      depth = refl;
      later = omega arith;
      reads = λ f e after verbs. record { frames = f ∷ []; reads = comes_here doc (on_top (f ∷ [])) a r; next = λ b q R. R f after verbs };
    }

module _ (doc : Text) (a₀ : Held) (work rows terms store : MutBor (List ℕ)) (st st' : List ℕ) (s : ℕ) (I : PropertiesInv doc a₀ (held work rows terms store st) s) (aim : Aimed st st' 0 0 0 0 0) where
  abbrev a : Held
  a = held work rows terms store st

  abbrev a1 : Held
  a1 = held work rows terms store st'

  module _ (b : Held) (r : ℕ) (P : PutsTerm doc a1 b r) where
    -- The predicate is read.
    to_verb : (f : Frame) (e : Ending) (after : List Frame) → Verbs f s e after → Reads doc (f ∷ []) (object s (node_in b.st) e ∷ after) a₀ b r
    to_verb f e after verbs =
        let w = I.reads f e after verbs in
        comes_then doc (on_top (f ∷ [])) (on_top w.frames) (on_top (object s (node_in b.st) e ∷ after)) a₀ a b 0 r w.reads refl
        (w.next b r (λ g x v. verb_comes doc work rows terms store st st' I.ready I.verb aim b r P g s e x v))

    done : r ≡ 0 → VerbDone doc st b
    done z = verb_done doc work rows terms store st st' I.ready I.verb aim b r P z

    -- The predicate was refused.
    pub properties_stop : (r ≡ 0 → ⊥) → Properties doc a₀ b s r
    properties_stop z =
        record {
          reads = λ f e after verbs. record { open_frame = object s (node_in b.st) e; reads = to_verb f e after verbs; ends = λ y. absurd (z y) };
          steady = record { depth = λ y. absurd (z y); later = λ y. absurd (z y) };
        }

    -- What its objects may be called with.
    pub objects_call : r ≡ 0 → (s < word_limit) → 0 < s → (p : ℕ) → p ≡ node_in b.st → (Ready doc b × ((s < word_limit) × (p < word_limit))) × ((0 < s) × (0 < p))
    objects_call z hs h0 p ep = (((done z).ready, (hs, rw ep (done z).small)), (h0, rw ep (done z).some_node))

    module _ (z : r ≡ 0) (d : Held) (q p : ℕ) (ep : p ≡ node_in b.st) (O : Objects doc b d s p q) where
      to_objects : (f : Frame) (e : Ending) (after : List Frame) → Verbs f s e after → Reads doc (f ∷ []) (after_object s p e ∷ after) a₀ d q
      to_objects f e after verbs =
          comes_then doc (on_top (f ∷ [])) (on_top (object s p e ∷ after)) (on_top (after_object s p e ∷ after)) a₀ b d r q
          (subst (λ (x : ℕ). Reads doc (f ∷ []) (object s x e ∷ after) a₀ b r) (sym ep) (to_verb f e after verbs)) z
          (comes_within doc (λ k. after ++ k) (on_top (object s p e ∷ [])) (on_top (after_object s p e ∷ [])) b d q (O.reads e))

      steady_objects : Steady a₀ d q
      steady_objects = record { depth = λ y. O.steady.depth y ∙ ((done z).depth ∙ I.depth); later = λ y. omega (arith, O.steady.later y, (done z).later, I.later) }

      pub properties_stop_2 : (q ≡ 0 → ⊥) → Properties doc a₀ d s q
      properties_stop_2 y =
          record {
            reads = λ f e after verbs. record { open_frame = after_object s p e; reads = to_objects f e after verbs; ends = λ w. absurd (y w) };
            steady = steady_objects;
          }

      pub properties_end : q ≡ 0 → (kind_in d.st ≡ kind_code semicolon → ⊥) → Properties doc a₀ d s 0
      properties_end y k =
          subst (λ (x : ℕ). Properties doc a₀ d s x) y
          (record {
            reads = λ f e after verbs. record { open_frame = after_object s p e; reads = to_objects f e after verbs; ends = λ w. ends_object s e (kind_in d.st) k p (O.ended w) };
            steady = steady_objects;
          })

      pub skips_call : q ≡ 0 → kind_in d.st ≡ kind_code semicolon → (Cursor doc d.st × (length d.st ≡ words_size)) × (kind_in d.st ≡ kind_code semicolon)
      skips_call y k =
          let R = (to_objects (after_semicolon s full_stop) full_stop [] (verbs_semicolon s full_stop)).ready y in
          let (old, (m, h)) = R.holds in
          ((R.cursor, h.usable.words), k)

-- Semicolons, and then more or not.
module _ (doc : Text) (a₀ : Held) (work₁ rows₁ terms₁ store₁ : MutBor (List ℕ)) (st st' : List ℕ) (s : ℕ) (I : PropertiesInv doc a₀ (held work₁ rows₁ terms₁ store₁ st) s) (aim : Aimed st st' 0 0 0 0 0)
    (b : Held) (r : ℕ) (P : PutsTerm doc (held work₁ rows₁ terms₁ store₁ st') b r) (z : r ≡ 0) (work rows terms store : MutBor (List ℕ)) (u u' : List ℕ) (q p : ℕ) (ep : p ≡ node_in b.st)
    (O : Objects doc b (held work rows terms store u) s p q) (y : q ≡ 0) (S : Skips doc u u') where
  abbrev d : Held
  d = held work rows terms store u

  abbrev d' : Held
  d' = held work rows terms store u'

  to_d : (f : Frame) (e : Ending) (after : List Frame) → Verbs f s e after → Reads doc (f ∷ []) (after_object s p e ∷ after) a₀ d q
  to_d f e after verbs = to_objects doc a₀ work₁ rows₁ terms₁ store₁ st st' s I aim b r P z d q p ep O f e after verbs

  ready_d : Ready doc d
  ready_d = (to_d (after_semicolon s full_stop) full_stop [] (verbs_semicolon s full_stop)).ready y

  to_semicolon : (f : Frame) (e : Ending) (after : List Frame) → Verbs f s e after → Reads doc (f ∷ []) (after_semicolon s e ∷ after) a₀ d' 0
  to_semicolon f e after verbs =
      comes_then doc (on_top (f ∷ [])) (on_top (after_object s p e ∷ after)) (on_top (after_semicolon s e ∷ after)) a₀ d d' q 0 (to_d f e after verbs) y
      (comes_within doc (λ k. after ++ k) (on_top (after_object s p e ∷ [])) (on_top (after_semicolon s e ∷ [])) d d' 0 (S.reads work rows terms store ready_d s p e))

  w : Steady a₀ d q
  w = steady_objects doc a₀ work₁ rows₁ terms₁ store₁ st st' s I aim b r P z d q p ep O

  pub properties_end_2 : code_among verb_kinds (kind_in u') ≡ false → Properties doc a₀ d' s 0
  properties_end_2 v =
      record {
        reads = λ f e after verbs. record { open_frame = after_semicolon s e; reads = to_semicolon f e after verbs; ends = λ x. ends_semicolon s e (kind_in u') S.ended v };
        steady = record { depth = λ x. S.depth ∙ w.depth y; later = λ x. omega (arith, S.later, w.later y) };
      }

  pub properties_again : code_among verb_kinds (kind_in u') ≡ true → PropertiesInv doc a₀ d' s
  properties_again v =
      record {
        ready = (to_semicolon (after_semicolon s full_stop) full_stop [] (verbs_semicolon s full_stop)).ready refl;
        verb = v;
        depth = S.depth ∙ w.depth y;
        later = omega (arith, S.later, w.later y);
        reads = λ f e after verbs.
            record {
              frames = after_semicolon s e ∷ after;
              reads = to_semicolon f e after verbs;
              next = λ c x R. comes_within doc (λ k. after ++ k) (on_top (after_semicolon s e ∷ [])) (on_top (object s (node_in c.st) e ∷ [])) d' c x (R (after_semicolon s e) [] (verbs_semicolon s e));
            };
      }

  pub properties_less : length doc - at_in u' < length doc - at_in st
  properties_less = less_left doc (held work₁ rows₁ terms₁ store₁ st) d' ((to_semicolon (after_semicolon s full_stop) full_stop [] (verbs_semicolon s full_stop)).ready refl) (omega (arith, S.later, O.steady.later y, (done doc a₀ work₁ rows₁ terms₁ store₁ st st' s I aim b r P z).later))

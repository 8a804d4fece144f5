-- In a bracket: a predicate with its first object, and what follows an object.
use mathlib.Core.Path.{◌≡◌, refl, sym, ap, ◌∙◌, subst}
use mathlib.Core.List.{List, [], ◌∷◌, ◌++◌}
use mathlib.Core.Bool.{true, false}
use Prim.Native.Nat.{ℕ, ◌+◌, ◌*◌, ◌-◌, ◌<◌}
use native.Mathlib.Omega.{arith}
use lib.ListN.{get_or}
use denote.Ref.{MutBor}
use Rattle.text.specs.Text.{Text}
use Rattle.token.specs.Kind.{kind_code, comma, semicolon}
use Rattle.machine.specs.Frame.{Ending, bracket_end, Frame, object, after_object, after_semicolon}
use Rattle.state.specs.Words.{at_word, depth_word, list_word, level_word, level_size, kind_in, at_in, depth_in, node_in, graph_in}
use Rattle.simulation.specs.Simulation.{code_among, held, Ready, Reads, on_top}
use Rattle.state.specs.declared.Held.{Held}
use Rattle.simulation.proofs.Compose.{comes_then, comes_stop, comes_within}
use Rattle.nodes.specs.Nodes.{Aimed, Passed, Spotted, PutsTerm, Slot, Verbs, verb_kinds}
use Rattle.nodes.proofs.Predicates.{verbs_semicolon, ends_object, ends_semicolon}
use Rattle.nodes.proofs.Slots.{object_slot}
use Rattle.nesting.specs.Nesting.{Awaited, Skips, level_x, level_y, Marked, Levels, SomeLevels, Deep, Values, Predicates, Follows, Closing}
use Rattle.nesting.proofs.Aiming.{comes_aimed, ready_aimed, spotted}
use Rattle.nesting.proofs.Levels.{levels_at, mark_before, mark_levels, saves_object, level_object}
use Rattle.nesting.proofs.OfVerbs.{VerbDone, verb_comes, verb_done}
use Rattle.nesting.proofs.OfObjects.{comma_reads}
use Rattle.table.specs.Layout.{word_limit}

-- ---- A predicate

module _ (doc : Text) (work rows terms store : MutBor (List ℕ)) (st st' : List ℕ) (ready : Ready doc (held work rows terms store st)) (verb : code_among verb_kinds (kind_in st) ≡ true) (aim : Aimed st st' 0 0 0 0 0) (b : Held) (r : ℕ) (P : PutsTerm doc (held work rows terms store st') b r) where
  abbrev a : Held
  a = held work rows terms store st

  to_verb : (f : Frame) (s : ℕ) → Verbs f s bracket_end [] → (fs : List Frame) → Reads doc (f ∷ fs) (object s (node_in b.st) bracket_end ∷ fs) a b r
  to_verb f s verbs fs = comes_within doc (λ k. fs ++ k) (on_top (f ∷ [])) (on_top (object s (node_in b.st) bracket_end ∷ [])) a b r (verb_comes doc work rows terms store st st' ready verb aim b r P f s bracket_end [] verbs)

  pub predicate_stop : (r ≡ 0 → ⊥) → Predicates doc a b r
  predicate_stop z f verbs fs l =
      record {
        reads = comes_stop doc (on_top (f ∷ fs)) (on_top (object (level_x st (depth_in st)) (node_in b.st) bracket_end ∷ fs)) (on_top []) a b r (to_verb f (level_x st (depth_in st)) verbs fs) z;
        depth = λ y. absurd (z y);
      }

-- Its level is put, and its object awaited.
module _ (doc : Text) (work rows terms store : MutBor (List ℕ)) (st st' : List ℕ) (ready : Ready doc (held work rows terms store st)) (verb : code_among verb_kinds (kind_in st) ≡ true) (aim : Aimed st st' 0 0 0 0 0)
    (work₁ rows₁ terms₁ store₁ : MutBor (List ℕ)) (u : List ℕ) (r : ℕ) (P : PutsTerm doc (held work rows terms store st') (held work₁ rows₁ terms₁ store₁ u) r) (z : r ≡ 0) where
  abbrev b : Held
  b = held work₁ rows₁ terms₁ store₁ u

  done : VerbDone doc st b
  done = verb_done doc work rows terms store st st' ready verb aim b r P z

  module _ (s p : ℕ) (es : s ≡ level_x st (depth_in st)) (ep : p ≡ node_in u) (u1 u2 : List ℕ) (M : Marked u u1 s p) (aim' : Aimed u1 u2 0 s p 0 0) where
    abbrev b2 : Held
    b2 = held work₁ rows₁ terms₁ store₁ u2

    same_before : (k : ℕ) → k < list_word → get_or u2 k 0 ≡ get_or u k 0
    same_before k h = aim'.before k h ∙ mark_before u u1 s p M k h

    pub predicate_later : at_in st < at_in u2
    predicate_later = omega (arith, done.later, same_before at_word (omega arith))

    p_small : p < word_limit
    p_small = rw ep done.small

    some_p : 0 < p
    some_p = rw ep done.some_node

    module _ (hs : level_x st (depth_in st) < word_limit) (zs : 0 < level_x st (depth_in st)) (deep : 0 < depth_in st) where
      levels_u2 : (fs : List Frame) → Levels st (depth_in st - 1) fs → Levels u2 (depth_in u2) (after_object s p bracket_end ∷ fs)
      levels_u2 fs l =
          levels_at u1 u2 (depth_in u1) (depth_in u2) (aim'.before depth_word (omega arith)) (λ k h. aim'.behind k (omega arith)) (after_object s p bracket_end ∷ fs)
          (mark_levels u u1 s p M (after_object s p bracket_end) (saves_object s p (rw es hs) p_small (rw es zs) some_p) (omega (arith, done.depth)) fs (levels_at st u (depth_in st - 1) (depth_in u - 1) (ap (λ (d : ℕ). d - 1) done.depth) done.spot fs l))

      slot : Slot doc b2 (object s p bracket_end) (after_object s p bracket_end)
      slot = object_slot doc b2 s p bracket_end aim'.list_is aim'.x_is aim'.y_is (rw es zs) some_p

      pub predicate_value_call : SomeLevels st (depth_in st - 1) → (Ready doc b2 × Spotted b2) × (Awaited doc b2 × SomeLevels u2 (depth_in u2))
      predicate_value_call (fs, l) = (
        (
          ready_aimed doc work₁ rows₁ terms₁ store₁ u u2 same_before (aim'.words ∙ M.words) done.ready,
          spotted work₁ rows₁ terms₁ store₁ u1 u2 0 s p 0 0 aim' (rw es hs) p_small (omega arith) (omega arith),
        ),
        ((object s p bracket_end, (after_object s p bracket_end, slot)), (after_object s p bracket_end ∷ fs, levels_u2 fs l)),
      )

      pub predicate_value : (d : Held) (q : ℕ) → Values doc b2 d q → Predicates doc (held work rows terms store st) d q
      predicate_value d q W f verbs fs l =
          let w = W.goes_on (object s p bracket_end) (after_object s p bracket_end) slot fs (levels_u2 fs l) in
          let R : Reads doc (f ∷ fs) (object s p bracket_end ∷ fs) (held work rows terms store st) b r =
          subst (λ (n : ℕ). Reads doc (f ∷ fs) (object s n bracket_end ∷ fs) (held work rows terms store st) b r) (sym ep) (to_verb doc work rows terms store st st' ready verb aim b r P f s (rw es verbs) fs) in
          record {
            reads = comes_then doc (on_top (f ∷ fs)) (on_top (object s p bracket_end ∷ fs)) (on_top []) (held work rows terms store st) b d r q R z
                (comes_then doc (on_top (object s p bracket_end ∷ fs)) (on_top (object s p bracket_end ∷ fs)) (on_top []) b b2 d 0 q (comes_aimed doc work₁ rows₁ terms₁ store₁ u u2 same_before (aim'.words ∙ M.words) (on_top (object s p bracket_end ∷ fs)) done.ready) refl w.reads);
            depth = λ y. w.depth y ∙ (same_before depth_word (omega arith) ∙ done.depth);
          }

-- ---- Behind an object

module _ (doc : Text) (work rows terms store : MutBor (List ℕ)) (st : List ℕ) (ready : Ready doc (held work rows terms store st)) where
  abbrev o : Held
  o = held work rows terms store st

  abbrev s : ℕ
  s = level_x st (depth_in st)

  abbrev p : ℕ
  p = level_y st (depth_in st)

  -- What the level says of itself.
  pub follows_deep : 0 < s → SomeLevels st (depth_in st) → Deep st
  follows_deep z (fs, l) = let (gs, (e, (h, (w, (y, l'))))) = level_object st (depth_in st) z fs l in (h, (gs, l'))

  -- Neither a comma nor a semicolon.
  pub follows_close : (kind_in st ≡ kind_code comma → ⊥) → (kind_in st ≡ kind_code semicolon → ⊥) → (d : Held) (q : ℕ) → Closing doc o d q → Follows doc o d q
  follows_close x y d q C = C (after_object s p bracket_end) (ends_object s bracket_end (kind_in st) y p x)

  -- A comma.
  module _ (u u' : List ℕ) (k : kind_in st ≡ kind_code comma) (P : Passed doc st u (depth_in st) (graph_in st)) (s' p' : ℕ) (es : s' ≡ level_x u (depth_in u)) (ep : p' ≡ level_y u (depth_in u)) (aim : Aimed u u' 0 s' p' 0 0)
      (z : 0 < s) (lv : SomeLevels st (depth_in st)) where
    abbrev u_held : Held
    u_held = held work rows terms store u

    abbrev u'_held : Held
    u'_held = held work rows terms store u'

    s_same : s' ≡ s
    s_same = es ∙ (ap (level_x u) P.depth_is ∙ P.spot (level_word + level_size * depth_in st) (omega arith))

    p_same : p' ≡ p
    p_same = ep ∙ (ap (level_y u) P.depth_is ∙ P.spot (level_word + level_size * depth_in st + 1) (omega arith))

    known : ((s < word_limit) × (p < word_limit)) × (0 < p)
    known = let (fs, l) = lv in let (gs, (e, (h, (w, (y, l'))))) = level_object st (depth_in st) z fs l in (w, y)

    over_comma : (e : Ending) → Reads doc (after_object s p e ∷ []) (object s p e ∷ []) o u_held 0
    over_comma e = comma_reads doc work rows terms store st u ready k P s p e

    depth_same : depth_in u' ≡ depth_in st
    depth_same = aim.before depth_word (omega arith) ∙ P.depth_is

    pub comma_later : at_in st < at_in u'
    comma_later = omega (arith, P.later, aim.before at_word (omega arith))

    moved : (fs : List Frame) → Levels st (depth_in st) fs → Levels u' (depth_in u') fs
    moved fs l = levels_at st u' (depth_in st) (depth_in u') depth_same (λ i h. aim.behind i (omega arith) ∙ P.spot i (omega arith)) fs l

    object_there : Slot doc u'_held (object s p bracket_end) (after_object s p bracket_end)
    object_there = object_slot doc u'_held s p bracket_end aim.list_is (aim.x_is ∙ s_same) (aim.y_is ∙ p_same) z known.1

    pub comma_call : (Ready doc u'_held × Spotted u'_held) × (Awaited doc u'_held × SomeLevels u' (depth_in u'))
    comma_call = (
      (
        ready_aimed doc work rows terms store u u' aim.before aim.words ((over_comma bracket_end).ready refl),
        spotted work rows terms store u u' 0 s' p' 0 0 aim (rw s_same known.0.0) (rw p_same known.0.1) (omega arith) (omega arith),
      ),
      ((object s p bracket_end, (after_object s p bracket_end, object_there)), (let (fs, l) = lv in (fs, moved fs l))),
    )

    pub comma_value : (d : Held) (q : ℕ) → Values doc u'_held d q → Follows doc o d q
    comma_value d q W fs l =
        let (gs, (e, (h, (w, (y, l'))))) = level_object st (depth_in st) z lv.0 lv.1 in
        let R = W.goes_on (object s p bracket_end) (after_object s p bracket_end) object_there fs
        (moved (after_object s p bracket_end ∷ fs) (h, (saves_object s p known.0.0 known.0.1 z known.1, l))) in
        record {
          reads = comes_then doc (on_top (after_object s p bracket_end ∷ fs)) (on_top (object s p bracket_end ∷ fs)) (on_top []) o u_held d 0 q (comes_within doc (λ x. fs ++ x) (on_top (after_object s p bracket_end ∷ [])) (on_top (object s p bracket_end ∷ [])) o u_held 0 (over_comma bracket_end)) refl
              (comes_then doc (on_top (object s p bracket_end ∷ fs)) (on_top (object s p bracket_end ∷ fs)) (on_top []) u_held u'_held d 0 q (comes_aimed doc work rows terms store u u' aim.before aim.words (on_top (object s p bracket_end ∷ fs)) ((over_comma bracket_end).ready refl)) refl R.reads);
          depth = λ x. R.depth x ∙ depth_same;
        }

  -- Semicolons.
  module _ (u : List ℕ) (S : Skips doc st u) where
    abbrev v : Held
    v = held work rows terms store u

    to_semicolon : (fs : List Frame) → Reads doc (after_object s p bracket_end ∷ fs) (after_semicolon s bracket_end ∷ fs) o v 0
    to_semicolon fs = comes_within doc (λ x. fs ++ x) (on_top (after_object s p bracket_end ∷ [])) (on_top (after_semicolon s bracket_end ∷ [])) o v 0 (S.reads work rows terms store ready s p bracket_end)

    pub semicolon_ready : Ready doc v
    semicolon_ready = (to_semicolon []).ready refl

    s_there : level_x u (depth_in u) ≡ s
    s_there = ap (level_x u) S.depth ∙ S.spot (level_word + level_size * depth_in st) (omega arith)

    down : (fs : List Frame) → Levels st (depth_in st - 1) fs → Levels u (depth_in u - 1) fs
    down fs l = levels_at st u (depth_in st - 1) (depth_in u - 1) (ap (λ (d : ℕ). d - 1) S.depth) (λ i h. S.spot i (omega arith)) fs l

    pub semicolon_deep : Deep st → Deep u
    semicolon_deep (h, (fs, l)) = (omega (arith, S.depth), (fs, down fs l))

    pub semicolon_predicate_call : 0 < s → SomeLevels st (depth_in st) → code_among verb_kinds (kind_in u) ≡ true
        → (Ready doc v × (level_x u (depth_in u) < word_limit)) × (((0 < level_x u (depth_in u)) × (code_among verb_kinds (kind_in u) ≡ true)) × Deep u)
    semicolon_predicate_call z lv x =
        let (gs, (e, (h, (w, (y, l'))))) = level_object st (depth_in st) z lv.0 lv.1 in ((semicolon_ready, rw s_there w.0), ((rw s_there z, x), semicolon_deep (h, (gs, l'))))

    pub semicolon_predicate : (d : Held) (q : ℕ) → Predicates doc v d q → Follows doc o d q
    semicolon_predicate d q R fs l =
        let w = R (after_semicolon s bracket_end) (rw s_there (verbs_semicolon s bracket_end)) fs (down fs l) in
        record {
          reads = comes_then doc (on_top (after_object s p bracket_end ∷ fs)) (on_top (after_semicolon s bracket_end ∷ fs)) (on_top []) o v d 0 q (to_semicolon fs) refl w.reads;
          depth = λ x. w.depth x ∙ S.depth;
        }

    pub semicolon_close : code_among verb_kinds (kind_in u) ≡ false → (d : Held) (q : ℕ) → Closing doc v d q → Follows doc o d q
    semicolon_close x d q C fs l =
        let w = C (after_semicolon s bracket_end) (ends_semicolon s bracket_end (kind_in u) S.ended x) fs (down fs l) in
        record {
          reads = comes_then doc (on_top (after_object s p bracket_end ∷ fs)) (on_top (after_semicolon s bracket_end ∷ fs)) (on_top []) o v d 0 q (to_semicolon fs) refl w.reads;
          depth = λ x. w.depth x ∙ S.depth;
        }

-- The levels: what leaves them alone, and what is put on top of them.
use mathlib.Core.Path.{◌≡◌, refl, sym, ap, ◌∙◌, subst}
use mathlib.Core.Logic.{inl, inr, ⊎_elim}
use mathlib.Core.List.{List, [], ◌∷◌}
use Prim.Native.Nat.{ℕ, zero, suc, ◌+◌, ◌*◌, ◌-◌, ◌≤◌, ◌<◌}
use native.Mathlib.Omega.{arith}
use lib.ListN.{length, get_or, set, length-set}
use lib.Seq.{get_or-set_same, get_or-set_other}
use Rattle.environment.specs.Code.{words_size}
use Rattle.text.specs.Text.{Text}
use Rattle.machine.specs.Frame.{bracket_end, Place, cells, Frame, list, after_object}
use Rattle.machine.specs.Rules.{after_node}
use Rattle.state.specs.Words.{depth_word, list_word, level_word, level_size, depth_in}
use Rattle.simulation.specs.Simulation.{Ready}
use Rattle.state.specs.declared.Held.{Held}
use Rattle.nesting.specs.Nesting.{level_x, level_y, Marked, ListOf, Saves, Levels, Deep}
use Rattle.nesting.proofs.Aiming.{ready_words}
use Rattle.limits.specs.Limits.{depth_limit}
use Rattle.table.specs.Layout.{word_limit}

-- Levels depend on their own words.
pub levels_same : (st st' : List ℕ) (d : ℕ) → ((k : ℕ) → level_word ≤ k → k < level_word + level_size * d + level_size → get_or st' k 0 ≡ get_or st k 0) → (fs : List Frame) → Levels st d fs → Levels st' d fs
levels_same st st' d same [] (x, y) = (same (level_word + level_size * d) (omega arith) (omega arith) ∙ x, same (level_word + level_size * d + 1) (omega arith) (omega arith) ∙ y)
levels_same st st' d same (f ∷ fs) (h, (s, l)) = (
  h,
  (
    saves_same (level_x st d) (level_y st d) (level_x st' d) (level_y st' d) (same (level_word + level_size * d) (omega arith) (omega arith)) (same (level_word + level_size * d + 1) (omega arith) (omega arith)) f s,
    levels_same st st' (d - 1) (λ k a b. same k a (omega arith)) fs l,
  ),
)
  where
    saves_same : (x y x' y' : ℕ) → x' ≡ x → y' ≡ y → (f : Frame) → Saves x y f → Saves x' y' f
    saves_same x y x' y' ex ey f s = rw (ex, ey) s

-- The same at a depth that is reached otherwise.
pub levels_at : (st st' : List ℕ) (d d' : ℕ) → d' ≡ d → ((k : ℕ) → level_word ≤ k → get_or st' k 0 ≡ get_or st k 0) → (fs : List Frame) → Levels st d fs → Levels st' d' fs
levels_at st st' d d' e same fs l = subst (λ (i : ℕ). Levels st' i fs) (sym e) (levels_same st st' d (λ k a b. same k a) fs l)

-- ---- A level is put

pub marked : (st st' : List ℕ) (x y i : ℕ) → (length st ≡ words_size) × (depth_in st ≤ depth_limit) → i ≡ level_word + level_size * depth_in st → st' ≡ set (set st i x) (i + 1) y → Marked st st' x y
marked st st' x y i (n, d) ei e = record {
  x_is = ap (λ (l : List ℕ). level_x l (depth_in st)) e ∙ (get_or-set_other (set st i x) (i + 1) (level_word + level_size * depth_in st) y 0 (λ h. omega arith) ∙ (ap (λ (j : ℕ). get_or (set st i x) j 0) (sym ei) ∙ get_or-set_same st i x 0 (omega arith)));
  y_is = ap (λ (l : List ℕ). level_y l (depth_in st)) e ∙ (ap (λ (j : ℕ). get_or (set (set st i x) (i + 1) y) (j + 1) 0) (sym ei) ∙ get_or-set_same (set st i x) (i + 1) y 0 (omega (arith, length-set st i x)));
  below = λ k h. ap (λ (l : List ℕ). get_or l k 0) e ∙ (get_or-set_other (set st i x) (i + 1) k y 0 (λ z. omega arith) ∙ get_or-set_other st i k x 0 (λ z. omega arith));
  words = ap length e ∙ (length-set (set st i x) (i + 1) y ∙ length-set st i x);
}

module _ (st st' : List ℕ) (x y : ℕ) (M : Marked st st' x y) where
  pub mark_depth : depth_in st' ≡ depth_in st
  mark_depth = M.below depth_word (omega arith)

  pub mark_before : (k : ℕ) → k < list_word → get_or st' k 0 ≡ get_or st k 0
  mark_before k h = M.below k (omega arith)

  pub mark_spot : (k : ℕ) → k < level_word → get_or st' k 0 ≡ get_or st k 0
  mark_spot k h = M.below k (omega arith)

  -- Zeros: nothing is resumed.
  pub mark_none : x ≡ 0 → y ≡ 0 → Levels st' (depth_in st') []
  mark_none ex ey = subst (λ (d : ℕ). Levels st' d []) (sym mark_depth) (M.x_is ∙ ex, M.y_is ∙ ey)

  -- The levels below stay.
  pub mark_below : 0 < depth_in st → (fs : List Frame) → Levels st (depth_in st - 1) fs → Levels st' (depth_in st' - 1) fs
  mark_below h fs l = subst (λ (d : ℕ). Levels st' (d - 1) fs) (sym mark_depth) (levels_same st st' (depth_in st - 1) (λ k a b. M.below k (omega arith)) fs l)

  pub mark_deep : Deep st → Deep st'
  mark_deep (h, (fs, l)) = (omega (arith, mark_depth), (fs, mark_below h fs l))

  -- One frame more is saved.
  pub mark_levels : (f : Frame) → Saves x y f → 0 < depth_in st → (fs : List Frame) → Levels st (depth_in st - 1) fs → Levels st' (depth_in st') (f ∷ fs)
  mark_levels f s h fs l = (omega (arith, mark_depth), (rw (mark_depth, M.x_is, M.y_is) s, mark_below h fs l))

-- ---- Frames that are saved

pub saves_object : (s p : ℕ) → s < word_limit → p < word_limit → 0 < s → 0 < p → Saves s p (after_object s p bracket_end)
saves_object s p hs hp zs zp = record { x_small = hs; y_small = hp; some_y = zp; frame = inl (zs, refl) }

pub saves_list : (last : ℕ) (place : Place) → ((n : ℕ) → after_node place n ≡ []) → (opened head : ℕ) → last < word_limit → 0 < last → Saves 0 last (list place opened (cells head last))
saves_list last place e opened head h z = record { x_small = omega arith; y_small = h; some_y = z; frame = inr (refl, record { place = place; opened = opened; head = head; is_list = refl; no_node = e }) }

-- ---- What a level says

-- Behind an object.
pub level_object : (st : List ℕ) (d : ℕ) → 0 < level_x st d → (fs : List Frame) → Levels st d fs
    → (gs : List Frame) × ((fs ≡ after_object (level_x st d) (level_y st d) bracket_end ∷ gs) × ((0 < d) × (((level_x st d < word_limit) × (level_y st d < word_limit)) × ((0 < level_y st d) × Levels st (d - 1) gs))))
level_object st d z [] (x, y) = absurd (omega arith)
level_object st d z (f ∷ fs) (h, (s, l)) = (fs, (ap (λ (g : Frame). g ∷ fs) (⊎_elim (λ w. w.1) (λ w. absurd (omega (arith, w.0))) s.frame), (h, ((s.x_small, s.y_small), (s.some_y, l)))))

-- In a list.
pub level_list : (st : List ℕ) (d : ℕ) → level_x st d ≡ 0 → (level_y st d ≡ 0 → ⊥) → (fs : List Frame) → Levels st d fs
    → (f : Frame) × ((gs : List Frame) × ((fs ≡ f ∷ gs) × ((0 < d) × (ListOf (level_y st d) f × ((level_y st d < word_limit) × Levels st (d - 1) gs)))))
level_list st d e z [] (x, y) = absurd (z y)
level_list st d e z (f ∷ fs) (h, (s, l)) = (f, (fs, (refl, (h, (⊎_elim (λ w. absurd (omega (arith, w.0))) (λ w. w.1) s.frame, (s.y_small, l))))))

-- Nothing.
pub level_none : (st : List ℕ) (d : ℕ) → level_y st d ≡ 0 → (fs : List Frame) → Levels st d fs → fs ≡ []
level_none st d e [] l = refl
level_none st d e (f ∷ fs) (h, (s, l)) = absurd (omega (arith, s.some_y))

-- What reading and writing levels asks for.
pub mark_call : (doc : Text) (a : Held) → Ready doc a → (length a.st ≡ words_size) × (depth_in a.st ≤ depth_limit)
mark_call doc a r = (ready_words doc a r, r.depth)

pub some_level : (r x : ℕ) → r ≡ x → (r ≡ 0 → ⊥) → 0 < x
some_level r zero e z = absurd (z e)
some_level r (suc x) e z = omega arith

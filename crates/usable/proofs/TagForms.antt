-- A tag is a walk to the end of one, and neither of the two keywords: what stands behind an @ as a whole.
use mathlib.Core.Path.{◌≡◌, refl, ap, sym, ◌∙◌, subst}
use mathlib.Core.Logic.{⊎_elim}
use mathlib.Core.Bool.{Bool, true, false, not, ◌&&◌}
use mathlib.Core.List.{List, [], ◌∷◌}
use Rattle.std.proofs.Common.{fold}
use Prim.Native.Nat.{ℕ, suc, ◌≤◌, ◌<◌, min}
use native.Mathlib.Numerals.{one-add}
use native.Mathlib.Nat.{min-le_left}
use native.Mathlib.Omega.{arith}
use borrow.Author.Tests.{lt-ltb, le-leb, lt-leb, ne_eqb, eq-eqb, eqb-true, eqb-false}
use lib.Dec.{T, eqb, ltb, leb, ltb→lt, eqb-suc-suc, eqb-zero-suc}
use lib.ListN.{length, drop}
use Rattle.text.specs.Text.{Text, ascii, cond, same_text}
use Rattle.text.proofs.Compare.{and_false}
use Rattle.utf8.specs.Utf8.{Range, ◌–◌, width}
use Rattle.utf8.proofs.Tests.{by, split, below, below_at, and_true}
use Rattle.token.specs.Regular.{Re, eps, set, seq, alt, star, in_ranges, item, Match, nothing, hit, nullable, after, step, least_of, now_at, later, best}
use Rattle.token.specs.Terminals.{terminals, tripled, token_at}
use Rattle.automaton.specs.States.{State, open_states, after_at, in_tag, tag_dash, in_subtag}
use Rattle.automaton.proofs.Same.{same_state, same_state_eq}
use Rattle.characters.specs.Bytes.{letter, letter_or_digit}
use Rattle.characters.proofs.Sets.{all_low, set_low}
use Rattle.table.specs.Usable.{is_match, is_tag}
use Rattle.usable.specs.declared.tags.Place.{Place}
use Rattle.usable.specs.declared.tags.Place.TheVariants.{Start, Letters, Dash, Subtag, Off}
use Rattle.usable.specs.Places.{dashed, next_place, ends, walks}

-- ---- The whole text is a token of the kind 7

unfoldable whole : State → Text → Bool
whole q g = is_match (best width q g) 7 (length g)

abbrev Flat : Match → Type 0
Flat nothing = Unit {0}
Flat (hit k n) = n ≡ 0

now_flat : (q : State) → Flat (now_at q)
now_flat [] = tt
now_flat (item k r ∷ xs) = by (nullable r) (λ e. rw e (least (now_at xs) (now_flat xs))) (λ e. rw e (now_flat xs))
  where
    least : (m : Match) → Flat m → Flat (least_of k m)
    least nothing f = refl
    least (hit j n) f = f

-- A match of the empty text is none of a text that has a byte more.
not_empty : (a : Match) (n : ℕ) → Flat a → is_match a 7 (suc n) ≡ false
unfolding is_match
not_empty nothing n f = refl
not_empty (hit k x) n f = rw (f, eqb-zero-suc n) (and_false (eqb k 7))

shorter : (m a : Match) (n : ℕ) → Flat a → is_match (later 1 m a) 7 (suc n) ≡ is_match m 7 n
unfolding is_match
shorter nothing a n f = not_empty a n f
shorter (hit k x) a n f = rw (one-add x, eqb-suc-suc x n)

longer : (w : ℕ) (m a b : Match) (n : ℕ) → Flat a → Flat b → is_match (later w m a) 7 (suc n) ≡ is_match (later w m b) 7 (suc n)
longer w nothing a b n f g = not_empty a n f ∙ sym (not_empty b n g)
longer w (hit k x) a b n f g = refl

whole_next : (q : State) (c : ℕ) (g : Text) → c < 128 → whole q (c ∷ g) ≡ whole (step c q) g
unfolding whole
whole_next q c g h = rw (lt-ltb c 0x80 h) (shorter (best width (step c q) g) (now_at q) (length g) (now_flat q))

-- Where a code point leads to, and not what ended before it, says the rest.
whole_step : (q r : State) (c : ℕ) (g : Text) → step c q ≡ step c r → whole q (c ∷ g) ≡ whole r (c ∷ g)
unfolding whole
whole_step q r c g e =
    ap (λ (x : State). is_match (later (width c) (best width x g) (now_at q)) 7 (suc (length g))) e
    ∙ longer (width c) (best width (step c r) g) (now_at q) (now_at r) (length g) (now_flat q) (now_flat r)

whole_dead : (g : Text) → whole [] g ≡ false
unfolding whole is_match
whole_dead g = ap (λ (m : Match). is_match m 7 (length g)) (none g)
  where
    none : (g : Text) → best width [] g ≡ nothing
    none [] = refl
    none (c ∷ g) = rw (none g)

-- ---- A keyword besides, of a smaller kind, takes itself away

abbrev word : Text → Re
word [] = eps
word (c ∷ []) = set true ((c – c) ∷ [])
word (c ∷ d ∷ w) = seq (set true ((c – c) ∷ [])) (word (d ∷ w))

abbrev all_ascii : Text → Bool
all_ascii [] = true
all_ascii (c ∷ w) = ltb c 128 && all_ascii w

module _ (k : ℕ) (small : k < 7) where
  least_small : (m : Match) (n : ℕ) → is_match (least_of k m) 7 n ≡ false
  unfolding is_match
  least_small nothing n = rw (ne_eqb k 7 (λ e. omega arith))
  least_small (hit j x) n = rw (ne_eqb (min k j) 7 (λ e. omega (arith, min-le_left k j)))

  no_text : (x : ℕ) (w : Text) → nullable (word (x ∷ w)) ≡ false
  no_text x [] = refl
  no_text x (y ∷ w) = refl

  same_char : (c x : ℕ) → in_ranges c ((x – x) ∷ []) ≡ eqb c x
  same_char c x =
      by (eqb c x) (λ e. let z = eqb-true c x e in rw (z, le-leb x x (omega arith), eq-eqb x x refl))
      (λ e. let z = eqb-false c x e in
      ⊎_elim (λ l. rw (lt-leb x c l, e)) (λ l. rw (lt-leb c x (lt_other c x z l), and_false (leb x c), e)) (split c x))
    where
      lt_other : (c x : ℕ) → (c ≡ x → ⊥) → x ≤ c → x < c
      lt_other c x n l = omega arith

  -- The word's next letter stays, any other byte ends it.
  step_word : (c x : ℕ) (w : Text) (q : State) → step c (item k (word (x ∷ w)) ∷ q) ≡ cond (eqb c x) (item k (word w) ∷ step c q) (step c q)
  step_word c x [] q = rw (same_char c x) (by (eqb c x) (λ e. rw e) (λ e. rw e))
  step_word c x (y ∷ w) q = rw (same_char c x) (by (eqb c x) (λ e. rw e) (λ e. rw e))

  -- The word has ended, or has more letters.
  ended : (q : State) → whole (item k eps ∷ q) [] ≡ false
  unfolding whole
  ended q = least_small (now_at q) 0

  open_word : (q : State) (x : ℕ) (w : Text) → whole (item k (word (x ∷ w)) ∷ q) [] ≡ whole q []
  unfolding whole
  open_word q x w = rw (no_text x w)

  keyword : (w g : Text) (q : State) → T (all_ascii w) → whole (item k (word w) ∷ q) g ≡ (not (same_text g w) && whole q g)
  unfolding same_text
  keyword [] [] q t = ended q
  keyword [] (c ∷ g) q t = whole_step (item k eps ∷ q) q c g refl
  keyword (x ∷ w) [] q t = open_word q x w
  keyword (x ∷ w) (c ∷ g) q t =
      by (eqb c x)
      (λ e.
      let v = and_true (ltb x 128) (all_ascii w) t in
      let l : c < 128 = subst (λ (n : ℕ). n < 128) (sym (eqb-true c x e)) (ltb→lt x 128 v.0) in
      rw e
      (whole_next (item k (word (x ∷ w)) ∷ q) c g l
      ∙ ap (λ (r : State). whole r g) (step_word c x w q ∙ ap (λ (b : Bool). cond b (item k (word w) ∷ step c q) (step c q)) e)
      ∙ keyword w g (step c q) v.1
      ∙ ap (λ (b : Bool). not (same_text g w) && b) (sym (whole_next q c g l))))
      (λ e. rw e (whole_step (item k (word (x ∷ w)) ∷ q) q c g (step_word c x w q ∙ ap (λ (b : Bool). cond b (item k (word w) ∷ step c q) (step c q)) e)))

-- ---- The states of a tag

unfoldable state : Place → State
state Start = drop 2 after_at
state Letters = in_tag
state Dash = tag_dash
state Subtag = in_subtag
state Off = []

-- Bytes below 128 lead from a place's state to the next place's.
abbrev leads : Place → ℕ → Bool
leads p c = same_state (step c (state p)) (state (next_place p c))

record Moves : Type 0 where
  start : T (below (leads Start) 128)
  letters : T (below (leads Letters) 128)
  dash : T (below (leads Dash) 128)
  subtag : T (below (leads Subtag) 128)

moves : Moves
unfolding open_states state next_place dashed
moves = record { start = tt; letters = tt; dash = tt; subtag = tt }

off_next : (c : ℕ) → next_place Off c ≡ Off
unfolding next_place
off_next c = refl

off_stays : (c : ℕ) → step c (state Off) ≡ state Off
unfolding state
off_stays c = refl

low_moves : (p : Place) (c : ℕ) → c < 128 → step c (state p) ≡ state (next_place p c)
low_moves Start c h = same_state_eq _ _ (below_at (leads Start) 128 moves.start c h)
low_moves Letters c h = same_state_eq _ _ (below_at (leads Letters) 128 moves.letters c h)
low_moves Dash c h = same_state_eq _ _ (below_at (leads Dash) 128 moves.dash c h)
low_moves Subtag c h = same_state_eq _ _ (below_at (leads Subtag) 128 moves.subtag c h)
low_moves Off c h = off_stays c ∙ ap state (sym (off_next c))

-- No code point from 128 on is in a tag.
abbrev low_re : Re → Bool
low_re eps = true
low_re (set true rs) = all_low rs
low_re (set false rs) = false
low_re (seq p q) = low_re p && low_re q
low_re (alt p q) = low_re p && low_re q
low_re (star p) = low_re p

set_high : (rs : List Range) → T (all_low rs) → (c : ℕ) → 128 ≤ c → in_ranges c rs ≡ false
set_high rs t c h = by (in_ranges c rs) (λ e. absurd (omega (arith, set_low rs t c e))) (λ e. e)

after_high : (r : Re) → T (low_re r) → (c : ℕ) → 128 ≤ c → after c r ≡ []
after_high eps t c h = refl
after_high (set true rs) t c h = rw (set_high rs t c h)
after_high (set false rs) t c h = absurd t
after_high (seq p q) t c h =
    let v = and_true (low_re p) (low_re q) t in
    rw (after_high p v.0 c h, after_high q v.1 c h) (by (nullable p) (λ e. rw e) (λ e. rw e))
after_high (alt p q) t c h = let v = and_true (low_re p) (low_re q) t in rw (after_high p v.0 c h, after_high q v.1 c h)
after_high (star p) t c h = rw (after_high p t c h)

abbrev low_state : State → Bool
low_state [] = true
low_state (item k r ∷ q) = low_re r && low_state q

step_high : (q : State) → T (low_state q) → (c : ℕ) → 128 ≤ c → step c q ≡ []
step_high [] t c h = refl
step_high (item k r ∷ q) t c h = let v = and_true (low_re r) (low_state q) t in rw (after_high r v.0 c h, step_high q v.1 c h)

low_places : (p : Place) → T (low_state (state p))
unfolding open_states state
low_places Start = tt
low_places Letters = tt
low_places Dash = tt
low_places Subtag = tt
low_places Off = tt

high_off : (p : Place) (c : ℕ) → 128 ≤ c → next_place p c ≡ Off
unfolding next_place dashed
high_off Start c h = rw (set_high letter tt c h)
high_off Letters c h = rw (set_high letter tt c h, ne_eqb c 45 (λ e. omega arith))
high_off Dash c h = rw (set_high letter_or_digit tt c h)
high_off Subtag c h = rw (set_high letter_or_digit tt c h, ne_eqb c 45 (λ e. omega arith))
high_off Off c h = refl

walks_off : (g : Text) → walks Off g ≡ false
unfolding walks ends next_place
walks_off [] = refl
walks_off (c ∷ g) = walks_off g

-- The whole text is a tag from a place on where the walk ends one.
at_end : (p : Place) → whole (state p) [] ≡ ends p
unfolding open_states state whole ends is_match
at_end Start = refl
at_end Letters = refl
at_end Dash = refl
at_end Subtag = refl
at_end Off = refl

whole_walks : (p : Place) (g : Text) → whole (state p) g ≡ walks p g
unfolding walks
whole_walks p [] = at_end p
whole_walks p (c ∷ g) =
    ⊎_elim (λ l. whole_next (state p) c g l ∙ ap (λ (q : State). whole q g) (low_moves p c l) ∙ whole_walks (next_place p c) g)
    (λ l. whole_step (state p) [] c g (step_high (state p) (low_places p) c l) ∙ whole_dead (c ∷ g) ∙ sym (ap (λ (r : Place). walks r g) (high_off p c l) ∙ walks_off g))
    (split c 128)

-- ---- The tag behind its @

abbrev prefix : Text
prefix = ascii "prefix"

abbrev base : Text
base = ascii "base"

untripled : (g : Text) → tripled (64 ∷ g) ≡ false
untripled [] = refl
untripled (a ∷ []) = refl
untripled (a ∷ b ∷ g) = refl

at_tag : step 64 terminals ≡ item 5 (word prefix) ∷ item 6 (word base) ∷ state Start
unfolding open_states state
at_tag = same_state_eq (step 64 terminals) (item 5 (word prefix) ∷ item 6 (word base) ∷ drop 2 (step 64 terminals)) tt

is_whole : (g : Text) → is_tag g ≡ whole terminals (64 ∷ g)
unfolding is_tag token_at whole
is_whole g = rw (untripled g)

pub tag_walks : (g : Text) → is_tag g ≡ (not (same_text g prefix) && (not (same_text g base) && walks Start g))
tag_walks g =
    is_whole g
    ∙ whole_next terminals 64 g (omega arith)
    ∙ ap (λ (q : State). whole q g) at_tag
    ∙ keyword 5 (omega arith) prefix g (item 6 (word base) ∷ state Start) tt
    ∙ ap (λ (b : Bool). not (same_text g prefix) && b) (keyword 6 (omega arith) base g (state Start) tt ∙ ap (λ (b : Bool). not (same_text g base) && b) (whole_walks Start g))

-- ---- A walk is a fold of its steps

pub walks_by_steps : (p : Place) (s : Text) → ends (fold next_place p s) ≡ walks p s
unfolding walks
walks_by_steps p [] = refl
walks_by_steps p (c ∷ s) = walks_by_steps (next_place p c) s

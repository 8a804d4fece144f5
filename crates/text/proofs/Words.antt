-- Comparing four bytes, and eight, at once.
use mathlib.Core.Path.{◌≡◌, sym, ap, ◌∙◌}
use mathlib.Core.Bool.{Bool, true, false}
use Prim.Native.Nat.{ℕ, ◌+◌, ◌*◌, ◌-◌, ◌<◌, ◌≤◌}
use native.Mathlib.Omega.{arith}
use lib.ListN.{length, get_or, drop, drop_of_length-le}
use lib.Seq.{get_or-drop, drop-drop}
use lib.Dec.{eqb}
use borrow.Author.Tests.{eqb-true, eqb-false}
use Rattle.text.specs.Text.{Text, same_text}
use Rattle.text.specs.Words.{four_at, eight_at}
use Rattle.text.proofs.Compare.{by, contrary, same_eq, same_refl, same_more}

abbrev pub Bytes : Text → Type 0
Bytes s = (i : ℕ) → get_or s i 0 < 256

pub four_small : (s : Text) (i : ℕ) → Bytes s → four_at s i < 4294967296
unfolding four_at
four_small s i b = omega (arith, b i, b (i + 1), b (i + 2), b (i + 3))

-- A number says its low byte and the rest.
low : (a b x y : ℕ) → a < 256 → b < 256 → a + 256 * x ≡ b + 256 * y → (b ≡ a) × (x ≡ y)
low a b x y h g e = (omega arith, omega arith)

-- A comparison that goes on behind a byte that both texts have.
abbrev pub GoesOn : (Text → Text → Bool) → Text → Text → Type 0
GoesOn f s t = (i : ℕ) → i < length s → i < length t → get_or t i 0 ≡ get_or s i 0 → f (drop i s) (drop i t) ≡ f (drop (i + 1) s) (drop (i + 1) t)

-- It goes on behind four, and behind eight.
module _ (f : Text → Text → Bool) (s t : Text) (bs : Bytes s) (bt : Bytes t) (on : GoesOn f s t) where
  four_on : (i : ℕ) → i + 4 ≤ length s → i + 4 ≤ length t → four_at s i ≡ four_at t i → f (drop i s) (drop i t) ≡ f (drop (i + 4) s) (drop (i + 4) t)
  unfolding four_at
  four_on i h g e =
      let (p, r) = low (get_or s i 0) (get_or t i 0) (get_or s (i + 1) 0 + 256 * (get_or s (i + 2) 0 + 256 * get_or s (i + 3) 0)) (get_or t (i + 1) 0 + 256 * (get_or t (i + 2) 0 + 256 * get_or t (i + 3) 0)) (bs i) (bt i) (omega (arith, e)) in
      let (q, u) = low (get_or s (i + 1) 0) (get_or t (i + 1) 0) (get_or s (i + 2) 0 + 256 * get_or s (i + 3) 0) (get_or t (i + 2) 0 + 256 * get_or t (i + 3) 0) (bs (i + 1)) (bt (i + 1)) r in
      let (v, w) = low (get_or s (i + 2) 0) (get_or t (i + 2) 0) (get_or s (i + 3) 0) (get_or t (i + 3) 0) (bs (i + 2)) (bt (i + 2)) u in
      on i (omega arith) (omega arith) p
      ∙ (on (i + 1) (omega arith) (omega arith) q
      ∙ (next (i + 1) (i + 2) (omega arith)
      ∙ (on (i + 2) (omega arith) (omega arith) v
      ∙ (next (i + 2) (i + 3) (omega arith)
      ∙ (on (i + 3) (omega arith) (omega arith) (sym w) ∙ next (i + 3) (i + 4) (omega arith))))))
    where
      next : (j k : ℕ) → j + 1 ≡ k → f (drop (j + 1) s) (drop (j + 1) t) ≡ f (drop k s) (drop k t)
      next j k e = ap (λ (n : ℕ). f (drop n s) (drop n t)) e

  pub eight_on : (i : ℕ) → i + 8 ≤ length s → i + 8 ≤ length t → eight_at s i ≡ eight_at t i → f (drop i s) (drop i t) ≡ f (drop (i + 8) s) (drop (i + 8) t)
  eight_on i h g e =
      let a = four_small s i bs in
      let b = four_small t i bt in
      four_on i (omega arith) (omega arith) (omega (arith, e, a, b))
      ∙ (four_on (i + 4) (omega arith) (omega arith) (omega (arith, e, a, b))
      ∙ ap (λ (n : ℕ). f (drop n s) (drop n t)) (let z : i + 4 + 4 ≡ i + 8 = omega arith in z))

module _ (s t : Text) (bs : Bytes s) (bt : Bytes t) where
  same_on : GoesOn same_text s t
  same_on i h g e = same_more s t i i h g e

  pub four_more : (i : ℕ) → i + 4 ≤ length s → i + 4 ≤ length t → four_at s i ≡ four_at t i → same_text (drop i s) (drop i t) ≡ same_text (drop (i + 4) s) (drop (i + 4) t)
  four_more = four_on same_text s t bs bt same_on

  pub eight_more : (i : ℕ) → i + 8 ≤ length s → i + 8 ≤ length t → eight_at s i ≡ eight_at t i → same_text (drop i s) (drop i t) ≡ same_text (drop (i + 8) s) (drop (i + 8) t)
  eight_more = eight_on same_text s t bs bt same_on

pub four_drop : (s : Text) (i j : ℕ) → four_at (drop i s) j ≡ four_at s (i + j)
unfolding four_at
four_drop s i j =
    let at : (k : ℕ) → get_or (drop i s) (j + k) 0 ≡ get_or s (i + j + k) 0 = λ k. get_or-drop i s (j + k) 0 ∙ ap (λ (n : ℕ). get_or s n 0) (let z : i + (j + k) ≡ i + j + k = omega arith in z) in
    rw (get_or-drop i s j 0, at 1, at 2, at 3)

-- Texts that are the same from i on have the same bytes there.
pub eight_not : (s t : Text) (i : ℕ) → (eight_at s i ≡ eight_at t i → ⊥) → same_text (drop i s) (drop i t) ≡ false
eight_not s t i ne =
    by (same_text (drop i s) (drop i t))
    (λ e. let same = same_eq (drop i s) (drop i t) e in
    let at : (j : ℕ) → four_at s (i + j) ≡ four_at t (i + j) = λ j. sym (four_drop s i j) ∙ (ap (λ (x : Text). four_at x j) same ∙ four_drop t i j) in
    absurd (ne (let low_four : four_at s i ≡ four_at t i = ap (four_at s) (omega arith) ∙ (at 0 ∙ ap (four_at t) (omega arith)) in omega (arith, low_four, at 4))))
    (λ e. e)

pub four_not : (s t : Text) (i : ℕ) → (four_at s i ≡ four_at t i → ⊥) → same_text (drop i s) (drop i t) ≡ false
four_not s t i ne =
    by (same_text (drop i s) (drop i t))
    (λ e. let same = same_eq (drop i s) (drop i t) e in
    let at : four_at s (i + 0) ≡ four_at t (i + 0) = sym (four_drop s i 0) ∙ (ap (λ (x : Text). four_at x 0) same ∙ four_drop t i 0) in
    absurd (ne (let z : i + 0 ≡ i = omega arith in rw z at at)))
    (λ e. e)

-- A comparison from a place on that suffices; then one from an earlier place does too.
overlap : (s t : Text) (i j : ℕ) → j ≤ i → same_text s t ≡ same_text (drop i s) (drop i t) → same_text (drop j s) (drop j t) ≡ same_text s t
overlap s t i j h e =
    by (same_text (drop j s) (drop j t))
    (λ f. let same = same_eq (drop j s) (drop j t) f in
    let k : j + (i - j) ≡ i = omega arith in
    let rest : drop i s ≡ drop i t = rw (drop-drop (i - j) j s, drop-drop (i - j) j t, k) at (ap (drop (i - j)) same) in
    f ∙ sym (e ∙ rw rest (same_refl (drop i t))))
    (λ f. by (same_text s t) (λ g. let same = same_eq s t g in contrary (sym (rw same (same_refl (drop j t))) ∙ f)) (λ g. f ∙ sym g))

same_ends : (s t : Text) (i : ℕ) → length s ≤ i → length t ≤ i → same_text (drop i s) (drop i t) ≡ true
unfolding same_text
same_ends s t i h g = rw (drop_of_length-le s {i = i} h, drop_of_length-le t {i = i} g)

-- The last bytes, some of which may be compared already.
module _ (s t : Text) (bs : Bytes s) (bt : Bytes t) (l : length s ≡ length t) (i j : ℕ) (h : j ≤ i) (e : same_text s t ≡ same_text (drop i s) (drop i t)) where
  pub eight_last : j + 8 ≡ length s → (x y : ℕ) → x ≡ eight_at s j → y ≡ eight_at t j → eqb x y ≡ same_text s t
  eight_last k x y p q =
      by (eqb x y)
      (λ f. f ∙ sym (sym (overlap s t i j h e) ∙ (eight_more s t bs bt j (omega arith) (omega arith) (sym p ∙ (eqb-true x y f ∙ q)) ∙ same_ends s t (j + 8) (omega arith) (omega arith))))
      (λ f. f ∙ sym (sym (overlap s t i j h e) ∙ eight_not s t j (λ z. eqb-false x y f (p ∙ (z ∙ sym q)))))

  pub four_last : j + 4 ≡ length s → (x y : ℕ) → x ≡ four_at s j → y ≡ four_at t j → eqb x y ≡ same_text s t
  four_last k x y p q =
      by (eqb x y)
      (λ f. f ∙ sym (sym (overlap s t i j h e) ∙ (four_more s t bs bt j (omega arith) (omega arith) (sym p ∙ (eqb-true x y f ∙ q)) ∙ same_ends s t (j + 4) (omega arith) (omega arith))))
      (λ f. f ∙ sym (sym (overlap s t i j h e) ∙ four_not s t j (λ z. eqb-false x y f (p ∙ (z ∙ sym q)))))

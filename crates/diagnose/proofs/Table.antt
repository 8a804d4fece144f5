-- Laws of the table of phrases.
use Rattle.std.proofs.Common.{◌≡◌, ℕ, zero, suc, ◌+◌, ◌-◌, ◌<◌, ◌≤◌, List, [], ◌∷◌, length, get_or, take, drop, slice_range, refl, sym, ap, ◌∙◌, add-one, arith, eq-eqb, drop_of_length-le, length-drop}
use Rattle.std.proofs.Math.Seq.{drop-cons}
use borrow.Author.Tests.{ne_eqb}
use Rattle.documents.specs.Places.{left_in_line, line_end}
use Rattle.diagnose.specs.Phrase.{behind, phrase}

behind_nil : (n : ℕ) → behind n [] ≡ []
unfolding behind
behind_nil zero = refl
behind_nil (suc n) = refl

pub behind_none : (n : ℕ) (s t : List ℕ) → n ≡ 0 → behind n s ≡ t → s ≡ t
unfolding behind
behind_none n s t e h = sym (ap (λ (k : ℕ). behind k s) e) ∙ h

pub behind_end : (n i : ℕ) (s t : List ℕ) → length s ≤ i → behind n (drop i s) ≡ t → drop i s ≡ t
behind_end n i s t h e =
    let z : drop i s ≡ [] = drop_of_length-le s {i = i} h in z ∙ sym (behind_nil n) ∙ sym (ap (behind n) z) ∙ e

at_byte : (n i : ℕ) (s : List ℕ) → i < length s → behind n (drop i s) ≡ behind n (get_or s i 0 ∷ drop (i + 1) s)
at_byte n i s h = ap (behind n) (drop-cons s i 0 h ∙ ap (λ (k : ℕ). get_or s i 0 ∷ drop k s) (sym (add-one i)))

pub behind_feed : (n i : ℕ) (s : List ℕ) → i < length s → (n ≡ 0 → ⊥) → get_or s i 0 ≡ 10 → behind n (drop i s) ≡ behind (n - 1) (drop (i + 1) s)
unfolding behind
behind_feed zero i s h p e = absurd (p refl)
behind_feed (suc n) i s h p e = let m : suc n - 1 ≡ n = omega arith in at_byte (suc n) i s h ∙ simp (eq-eqb _ 10 e, m)

pub behind_other : (n i : ℕ) (s : List ℕ) → i < length s → (n ≡ 0 → ⊥) → (get_or s i 0 ≡ 10 → ⊥) → behind n (drop i s) ≡ behind n (drop (i + 1) s)
unfolding behind
behind_other zero i s h p e = absurd (p refl)
behind_other (suc n) i s h p e = at_byte (suc n) i s h ∙ simp (ne_eqb _ 10 e)

left_short : (s : List ℕ) → left_in_line s ≤ length s
unfolding left_in_line
left_short [] = omega arith
left_short (b ∷ s) = grind (arith, left_short s)

-- From where a line begins to where it ends stands its phrase.
pub phrase_within : (words : List ℕ) (n from to : ℕ) → from ≤ length words → drop from words ≡ behind n words → to ≡ line_end words from → to ≤ length words
phrase_within words n from to h e l = omega (arith, left_short (drop from words), length-drop from words)

pub phrase_is : (words : List ℕ) (n from to : ℕ) → drop from words ≡ behind n words → to ≡ line_end words from → slice_range words from to ≡ phrase words n
unfolding phrase
phrase_is words n from to e l =
    let k : to - from ≡ left_in_line (drop from words) = omega arith in
    ap (λ (m : ℕ). take m (drop from words)) k ∙ ap (λ (s : List ℕ). take (left_in_line s) s) e

-- A walk over the rows of tables is one over the statements that they hold.
use mathlib.Core.Path.{◌≡◌, refl, ap, ◌∙◌}
use mathlib.Core.Bool.{Bool, true, false}
use mathlib.Core.Option.{Option, none}
use Prim.Native.Nat.{ℕ, zero, suc, ◌+◌, ◌<◌}
use native.Mathlib.Omega.{arith}
use lib.ListN.{length}
use Rattle.text.specs.Text.{Text, cond}
use Rattle.text.proofs.Compare.{by}
use Rattle.dataset.specs.Terms.{blank, literal, tagged, numbered}
use Rattle.table.specs.Layout.{Slices, iri_kind, blank_kind, literal_kind, row_at}
use Rattle.table.specs.Usable.{the, text, tag, has_kind, term, quads_from, quads_held}
use Rattle.subject_index.specs.Index.{walk, subject}
use Rattle.subject_index.specs.About.{iri_text, subject_of, about}

pub walk_same : (f g : ℕ → Option Text) (t : Text) (n : ℕ) → ((i : ℕ) → i < n → f i ≡ g i) → walk f t n ≡ walk g t n
unfolding walk
walk_same f g t zero h = refl
walk_same f g t (suc n) h = rw (h n (omega arith), walk_same f g t n (λ i l. h i (omega arith)))

other_text : (a b : Bool) (t u v : Text) (n : ℕ) → iri_text (cond a (blank (numbered n)) (cond b (literal t u) (tagged t v))) ≡ none
other_text true b t u v n = refl
other_text false true t u v n = refl
other_text false false t u v n = refl

module _ (s : Slices) where
  subject_held : (i : ℕ) → subject s i ≡ iri_text (term s (row_at s.rows i).subject)
  unfolding subject
  subject_held i =
      let n = (row_at s.rows i).subject in
      by (has_kind s iri_kind n) (λ e. rw e)
      (λ e. rw (e, other_text (has_kind s blank_kind n) (has_kind s literal_kind n) (text s n) (text s (the s n).fourth) (tag s n) (the s n).fourth))

  from_held : (k n i : ℕ) → i < n → subject s (k + i) ≡ subject_of (quads_from s k n) i
  unfolding quads_from
  from_held k zero i h = absurd (omega arith)
  from_held k (suc n) zero h = ap (subject s) (let z : k + 0 ≡ k = omega arith in z) ∙ subject_held k
  from_held k (suc n) (suc i) h = ap (subject s) (let z : k + suc i ≡ suc k + i = omega arith in z) ∙ from_held (suc k) n i (omega arith)

  held_length : (k n : ℕ) → length (quads_from s k n) ≡ n
  unfolding quads_from
  held_length k zero = refl
  held_length k (suc n) = let e = held_length (suc k) n in omega arith

  pub walk_held : (t : Text) → walk (subject s) t s.row_count ≡ about (quads_held s) t
  unfolding quads_held
  walk_held t =
      walk_same (subject s) (subject_of (quads_from s 0 s.row_count)) t s.row_count (λ i h. ap (subject s) (let z : i ≡ 0 + i = omega arith in z) ∙ from_held 0 s.row_count i h)
      ∙ ap (walk (subject_of (quads_from s 0 s.row_count)) t) (let z : s.row_count ≡ length (quads_from s 0 s.row_count) = let e = held_length 0 s.row_count in omega arith in z)

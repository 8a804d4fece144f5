-- What a span shows.
use mathlib.Core.Path.{◌≡◌, sym, ap, ◌∙◌}
use mathlib.Core.Bool.{true, ◌&&◌}
use mathlib.Core.Option.{none, some}
use Prim.Native.Nat.{ℕ, ◌+◌, ◌*◌, ◌-◌, ◌≤◌}
use native.Mathlib.Omega.{arith}
use lib.Dec.{leb}
use borrow.Author.Tests.{leb-true}
use lib.ListN.{length, take, drop}
use Rattle.text.specs.Text.{between}
use Rattle.text.proofs.Compare.{by, and_left, and_right}
use Rattle.table.specs.Layout.{term_size, entry_at, iri_kind, tagged_kind, Slices, span}
use Rattle.table.specs.TermText.{shows, term_text}
use Rattle.std.specs.Prelude.{Option, Some, None}
use Rattle.term_text.specs.declared.Span.{Span}
use Rattle.term_text.specs.Shown.{answer, text_of, number_of, part_of as part_of_store, span_at}

start_of : Option Span → ℕ
start_of None = 0
start_of (Some p) = p.start

size_of : Option Span → ℕ
size_of None = 0
size_of (Some p) = p.size

-- What a span that was found says of the text.
module _ (s : Slices) (n : ℕ) where
  pub record PartOf (start size : ℕ) : Type 0 where
    pub text : term_text s n ≡ some (span s.store start size)
    pub inside : start + size ≤ length s.store

  within : shows s n ≡ true → (entry_at s.terms n).start + (entry_at s.terms n).size ≤ length s.store
  unfolding shows
  within h =
      let e = entry_at s.terms n in
      let used = leb (e.start + e.size) s.store_count in
      let kind = between iri_kind tagged_kind e.kind in
      let stored = leb s.store_count (length s.store) in
      let counted = between 1 s.term_count n && leb (term_size * s.term_count) (length s.terms) in
      omega (
        arith,
        leb-true s.store_count (length s.store) (and_right counted stored (and_left (counted && stored) kind (and_left (counted && stored && kind) used h))),
        leb-true (e.start + e.size) s.store_count (and_right (counted && stored && kind) used h),
      )

  pub part_of : (p : Span) → span_at s n ≡ Some p → PartOf p.start p.size
  unfolding span_at term_text entry_at start_of size_of
  part_of p e =
      by (shows s n)
      (λ h.
      let q : Some (record { start = (entry_at s.terms n).start; size = (entry_at s.terms n).size }) ≡ Some p = sym (rw h) ∙ e in
      let a : (entry_at s.terms n).start ≡ p.start = ap (λ (o : Option Span). start_of o) q in
      let b : (entry_at s.terms n).size ≡ p.size = ap (λ (o : Option Span). size_of o) q in
      record { text = rw (h, a, b); inside = omega (arith, a, b, within h) })
      (λ h. let q : None ≡ Some p = sym (rw h) ∙ e in let z : ◌≡◌ {A = ℕ} 18 0 = ap number_of q in absurd (omega arith))

  pub shown_part : (start size : ℕ) → PartOf start size → take (start + size - start) (drop start s.store) ≡ text_of (term_text s n)
  shown_part start size P = let e : start + size - start ≡ size = omega arith in rw (e, P.text)

  pub none_of : span_at s n ≡ None → term_text s n ≡ none
  unfolding span_at term_text
  none_of e =
      by (shows s n) (λ h. let q : Some (record { start = (entry_at s.terms n).start; size = (entry_at s.terms n).size }) ≡ None = sym (rw h) ∙ e in let z : ◌≡◌ {A = ℕ} 0 18 = ap number_of q in absurd (omega arith)) (λ h. rw h)

  -- A span stands for the answer that is asked for.
  pub span_number : number_of (span_at s n) ≡ answer (term_text s n)
  unfolding span_at term_text
  span_number = by (shows s n) (λ h. rw h) (λ h. rw h)

  pub span_text : part_of_store s.store (span_at s n) ≡ text_of (term_text s n)
  unfolding span_at term_text
  span_text = by (shows s n) (λ h. rw h) (λ h. rw h)

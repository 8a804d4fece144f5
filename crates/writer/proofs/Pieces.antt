-- A term's form by its kind.
use mathlib.Core.Path.{◌≡◌}
use mathlib.Core.Bool.{true, false}
use mathlib.Core.List.{[], ◌++◌, append_assoc}
use Prim.Native.Nat.{ℕ}
use borrow.Author.Tests.{eq-eqb, ne_eqb}
use Rattle.text.specs.Text.{Text, ascii, cond, same_text}
use Rattle.dataset.specs.Terms.{xsd_string}
use Rattle.table.specs.Layout.{Slices, literal_kind, iri_kind, blank_kind}
use Rattle.table.specs.Usable.{the, text, tag, has_kind}
use Rattle.table.specs.LongForm.{iri_form, string_form, type_form, term_form}
use Rattle.utf8.proofs.Tests.{by}
use Rattle.writer.specs.Writing.{Countable}
use Rattle.writer.specs.Drawn.{tag_form, blank_form, literal_form}
use Rattle.writer.proofs.Chains.{room_before}

module _ (d : Text) where
  pub type_none : same_text d xsd_string ≡ true → type_form d ≡ []
  type_none e = rw e

  pub type_some : same_text d xsd_string ≡ false → type_form d ≡ ascii "^^" ++ iri_form d
  type_some e = rw e

module _ (s : Slices) (n : ℕ) where
  pub literal_typed : (the s n).kind ≡ literal_kind → literal_form s n ≡ string_form (text s n) ++ type_form (text s (the s n).fourth)
  unfolding literal_form
  literal_typed e = rw (eq-eqb (the s n).kind literal_kind e)

  pub literal_tagged : ((the s n).kind ≡ literal_kind → ⊥) → literal_form s n ≡ string_form (text s n) ++ tag_form (tag s n)
  unfolding literal_form
  literal_tagged e = rw (ne_eqb (the s n).kind literal_kind e)

  pub literal_string : {at : ℕ} → Countable at (literal_form s n) → Countable at (string_form (text s n))
  unfolding literal_form
  literal_string r = room_before (string_form (text s n)) (cond (has_kind s literal_kind n) (type_form (text s (the s n).fourth)) (tag_form (tag s n))) r

  pub term_iri : (the s n).kind ≡ iri_kind → term_form s n ≡ iri_form (text s n)
  unfolding term_form
  term_iri e = rw (eq-eqb (the s n).kind iri_kind e)

  module _ (h : (the s n).kind ≡ iri_kind → ⊥) where
    pub term_blank : (the s n).kind ≡ blank_kind → term_form s n ≡ blank_form (the s n).fourth
    unfolding term_form
    term_blank e = rw (ne_eqb (the s n).kind iri_kind h, eq-eqb (the s n).kind blank_kind e)

    pub term_literal : ((the s n).kind ≡ blank_kind → ⊥) → term_form s n ≡ literal_form s n
    unfolding term_form literal_form
    term_literal e =
        rw (ne_eqb (the s n).kind iri_kind h, ne_eqb (the s n).kind blank_kind e)
        (by (has_kind s literal_kind n) (λ f. rw f) (λ f. rw f (append_assoc (string_form (text s n)) (ascii "@") (tag s n))))

-- The tests of an entry, as the code makes them one after another.
use mathlib.Core.Path.{◌≡◌, refl, sym, ap, ◌∙◌}
use mathlib.Core.Bool.{Bool, true, false}
use mathlib.Core.List.{List}
use Prim.Native.Nat.{ℕ, suc, ◌+◌, ◌*◌, ◌-◌, ◌<◌, ◌≤◌}
use native.Mathlib.Nat.{add-zero}
use native.Mathlib.Numerals.{add-one}
use native.Mathlib.Omega.{arith}
use borrow.Author.Tests.{eq-eqb, ne_eqb}
use lib.ListN.{get_or, take, drop}
use Rattle.text.specs.Text.{Text, cond, same_text}
use Rattle.table.specs.Layout.{Entry, term_size, entry_at, literal_kind, span}
use Rattle.terms.specs.declared.Sort.{Sort}
use Rattle.terms.specs.declared.Sort.TheVariants.{Iri, Blank, Literal, Tagged}
use Rattle.terms.specs.Sorts.{kind_of, type_of}
use Rattle.terms.specs.Code.{same_rest, matches, first}

-- A part of the store between two places.
pub span_of : (store : Text) (a n end : ℕ) → end ≡ a + n → take (end - a) (drop a store) ≡ span store a n
span_of store a n end e = let m : end - a ≡ n = omega arith in rw m

-- The kind of an entry, as it is read.
pub kind_read : (terms : List ℕ) (i r : ℕ) → r ≡ get_or terms (term_size * i + 0) 0 → r ≡ (entry_at terms (suc i)).kind
unfolding entry_at
kind_read terms i r e = rw add-zero at e

module _ (store : Text) (e : Entry) (sort : Sort) (x g : Text) where
  pub other_kind : (e.kind ≡ (kind_of sort) → ⊥) → false ≡ matches store e sort x g
  unfolding matches
  other_kind h = rw (ne_eqb e.kind (kind_of sort) h)

  module _ (k : e.kind ≡ (kind_of sort)) (start end : ℕ) (a : start ≡ e.start) (z : end ≡ e.start + e.size) where
    compared : (b : Bool) → b ≡ same_text x (take (end - start) (drop start store)) → b ≡ same_text x (span store e.start e.size)
    compared b h = h ∙ (rw a (ap (same_text x) (span_of store e.start e.size end z)))

    pub other_text : (b : Bool) → b ≡ same_text x (take (end - start) (drop start store)) → b ≡ false → false ≡ matches store e sort x g
    unfolding matches
    other_text b h f = rw (eq-eqb e.kind (kind_of sort) k, ← compared b h, f)

    pub same_text_too : (b r : Bool) → b ≡ same_text x (take (end - start) (drop start store)) → b ≡ true → r ≡ same_rest store e sort g → r ≡ matches store e sort x g
    unfolding matches
    same_text_too b r h f q = rw (eq-eqb e.kind (kind_of sort) k, ← compared b h, f) q

  pub rest_tagged : (kind_of sort) ≡ 4 → (start end : ℕ) → start ≡ e.fourth → end ≡ e.fourth + e.fifth → (b : Bool) → b ≡ same_text g (take (end - start) (drop start store)) → b ≡ same_rest store e sort g
  unfolding same_rest
  rest_tagged k start end a z b h = h ∙ rw (k, a) (ap (same_text g) (span_of store e.fourth e.fifth end z))

  -- Of a term that has neither datatype nor tag nothing but the text is compared.
  pub text_alone : e.kind ≡ (kind_of sort) → true ≡ same_rest store e sort g → (start end : ℕ) → start ≡ e.start → end ≡ e.start + e.size
      → (b : Bool) → b ≡ same_text x (take (end - start) (drop start store)) → b ≡ matches store e sort x g
  text_alone k h start end a z true q = same_text_too k start end a z true true q refl h
  text_alone k h start end a z false q = other_text k start end a z false q refl

pub rest_other : (store : Text) (e : Entry) (sort : Sort) (g : Text) → ((d : ℕ) → sort ≡ Literal d → ⊥) → (sort ≡ Tagged → ⊥) → true ≡ same_rest store e sort g
unfolding same_rest
rest_other store e Iri g h k = refl
rest_other store e Blank g h k = refl
rest_other store e (Literal d) g h k = absurd (h d refl)
rest_other store e Tagged g h k = absurd (k refl)

-- One index further in a search.
first_suc : (p : ℕ → Bool) (i n m : ℕ) → n ≡ suc m → first p i n ≡ cond (p i) (suc i) (first p (suc i) m)
unfolding first
first_suc p i n m e = rw e

module _ (p : ℕ → Bool) (i count : ℕ) (h : i < count) where
  step : first p i (count - i) ≡ cond (p i) (suc i) (first p (suc i) (count - (i + 1)))
  step = first_suc p i (count - i) (count - (i + 1)) (omega arith)

  pub first_here : p i ≡ true → i + 1 ≡ first p i (count - i)
  first_here e = sym (step ∙ rw (e, add-one i))

  pub first_further : p i ≡ false → first p i (count - i) ≡ first p (i + 1) (count - (i + 1))
  first_further e = step ∙ rw (e, add-one i)

pub first_none : (p : ℕ → Bool) (i count : ℕ) → count ≤ i → first p i (count - i) ≡ 0
unfolding first
first_none p i count h = let e : count - i ≡ 0 = omega arith in rw e

-- A term that is no literal has no datatype.
pub untyped : (sort : Sort) → (kind_of sort ≡ literal_kind → ⊥) → 0 ≡ type_of sort
untyped Iri h = refl
untyped Blank h = refl
untyped (Literal d) h = absurd (h refl)
untyped Tagged h = refl

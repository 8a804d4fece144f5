-- Escaped bytes and texts.
use mathlib.Core.Path.{◌≡◌, refl, ap, sym, ◌∙◌, subst}
use mathlib.Core.Bool.{Bool, true, false, not}
use mathlib.Core.List.{[], ◌∷◌, ◌++◌, append_assoc, append-nil}
use Prim.Native.Nat.{ℕ, ◌+◌, ◌≤◌, ◌<◌}
use native.Mathlib.Numerals.{add-one}
use lib.Dec.{T, ltb}
use lib.ListN.{length, get_or, take, drop, take-append-drop}
use lib.Seq.{take-suc, take_all}
use Rattle.std.specs.Prelude.{Option, Some, None}
use Rattle.text.specs.Text.{Text, cond, is}
use Rattle.utf8.proofs.Tests.{by, below_at}
use Rattle.token.specs.Regular.{in_ranges}
use Rattle.iri.specs.Iri.{forbidden}
use Rattle.characters.specs.Bytes.{iri}
use Rattle.table.specs.LongForm.{iri_byte, string_byte, escaped}
use Rattle.writer.specs.Writing.{Countable, Wrote, code_form, escape_of}
use Rattle.writer.proofs.Chains.{both, room_before, room_after, wrote_nothing}

-- ---- Which bytes are escaped

abbrev pub escape_form : ℕ → Option ℕ → Text
escape_form c None = c ∷ []
escape_form c (Some e) = 92 ∷ e ∷ []

abbrev same : Bool → Bool → Bool
same true b = b
same false b = not b

same_eq : (a b : Bool) → T (same a b) → a ≡ b
same_eq true true t = refl
same_eq true false t = absurd t
same_eq false true t = absurd t
same_eq false false t = refl

abbrev told : ℕ → Bool
told c = let r = ltb c 128 in same (cond (in_ranges c iri) false r) (forbidden c)

pub forbidden_told : (c : ℕ) → c < 256 → (cond (in_ranges c iri) false (ltb c 128)) ≡ forbidden c
forbidden_told c h = same_eq (cond (in_ranges c iri) false (ltb c 128)) (forbidden c) (below_at told 256 tt c h)

module _ (c : ℕ) where
  pub iri_escaped : forbidden c ≡ true → iri_byte c ≡ code_form c
  unfolding iri_byte
  iri_escaped e = rw e

  pub iri_plain : forbidden c ≡ false → iri_byte c ≡ c ∷ []
  unfolding iri_byte
  iri_plain e = rw e

  -- A byte of a literal, by what stands behind its backslash.
  pub string_told : string_byte c ≡ escape_form c (escape_of c)
  unfolding string_byte escape_of
  string_told =
      by (is "\"" c) (λ e. rw e)
      (λ e.
      rw e
      (by (is "\\" c) (λ e. rw e)
      (λ e. rw e (by (is "\n" c) (λ e. rw e) (λ e. rw e (by (is "\r" c) (λ e. rw e) (λ e. rw e)))))))

-- ---- A text, a byte at a time

module _ (f : ℕ → Text) where
  pub escaped_append : (s t : Text) → escaped f (s ++ t) ≡ escaped f s ++ escaped f t
  unfolding escaped
  escaped_append [] t = refl
  escaped_append (c ∷ s) t = rw (escaped_append s t) (sym (append_assoc (f c) (escaped f s) (escaped f t)))

  one : (c : ℕ) → escaped f (c ∷ []) ≡ f c
  unfolding escaped
  one c = append-nil (f c)

  pub escaped_none : (at : ℕ) (s x : Text) → Wrote at (escaped f (take 0 s)) x x at
  unfolding escaped
  escaped_none at s x = wrote_nothing at x

  module _ (s : Text) (i : ℕ) where
    pub escaped_all : length s ≤ i → escaped f (take i s) ≡ escaped f s
    escaped_all h = ap (escaped f) (take_all i s h)

    module _ (h : i < length s) where
      next : escaped f (take (i + 1) s) ≡ escaped f (take i s) ++ f (get_or s i 0)
      next = rw (add-one i, take-suc s i 0 h) (escaped_append (take i s) (get_or s i 0 ∷ []) ∙ rw (one (get_or s i 0)))

      module _ {at end : ℕ} {x y : Text} (v : Wrote at (escaped f (take i s)) x y end) where
        pub room_next : Countable at (escaped f s) → Countable end (f (get_or s i 0))
        room_next r =
            room_after v
            (subst (Countable at) next
            (room_before (escaped f (take (i + 1) s)) (escaped f (drop (i + 1) s))
            (subst (Countable at) (ap (escaped f) (sym (take-append-drop (i + 1) s)) ∙ escaped_append (take (i + 1) s) (drop (i + 1) s)) r)))

        pub wrote_next : {z : Text} {m : ℕ} → Wrote end (f (get_or s i 0)) y z m → Wrote at (escaped f (take (i + 1) s)) x z m
        wrote_next {z} {m} w = subst (λ (t : Text). Wrote at t x z m) (sym next) (both v w)

pub escaped_plain : (s : Text) → escaped (λ c. c ∷ []) s ≡ s
unfolding escaped
escaped_plain [] = refl
escaped_plain (c ∷ s) = ap (λ (t : Text). c ∷ t) (escaped_plain s)

-- What the writer's answer makes the program print.
use Rattle.std.proofs.Common.{◌≡◌, refl, ℕ, Ok, Err, ◌+◌, ◌≤◌, ◌++◌, Bool, true, false, not, cond, ltb, length, take, drop, ap, ◌∙◌, arith, length-append}
use Rattle.std.proofs.Math.Seq.{take-append_seam}
use Rattle.text.specs.Text.{Text}
use Rattle.table.specs.Layout.{Slices}
use Rattle.table.specs.Usable.{for_long_form, usable}
use Rattle.limits.specs.declared.Refusal.{Refusal}
use Rattle.limits.specs.declared.Refusal.TheVariants.{DocumentLength, Mode, Base, Work, Utf8, Token, Escape, Grammar, Prefix, NoBase, IriLength, Prefixes, Depth, Rows, Terms, Store, Output, Tables, IndexOutput, Index, Pairing, List}
use Rattle.limits.specs.Refusal.{number}
use Rattle.table.specs.Written.{Written, written, answer}
use Rattle.table.specs.LongForm.{long_form, write}
use Rattle.printing.specs.Printed.{refusal, tables_printed}

-- What is printed of a text that can be written, or not.
abbrev shown : Bool → Text → Text → Text
shown u f x = cond (not u) (refusal 18 0) (cond (ltb (length x) (length f)) (refusal 17 0) f)

refused_shown : (u : Bool) (f x : Text) (w : Written) → w ≡ written 17 u f x → (w.number ≡ 0 → ⊥) → refusal w.number w.position ≡ shown u f x
refused_shown false f x w e h = ap (λ (v : Written). refusal v.number v.position) e
refused_shown true f x w e h = go (ltb (length x) (length f)) e
  where
    go : (b : Bool) → w ≡ cond b (record { number = 17; position = 0; output = x }) (record { number = 0; position = length f; output = f ++ drop (length f) x }) → refusal w.number w.position ≡ cond b (refusal 17 0) f
    go true k = ap (λ (v : Written). refusal v.number v.position) k
    go false k = absurd (h (ap (λ (v : Written). v.number) k))

whole_shown : (u : Bool) (f x : Text) (w : Written) → w ≡ written 17 u f x → w.number ≡ 0 → (take w.position w.output ≡ shown u f x) × (w.position ≤ length w.output)
whole_shown false f x w e h = let k : w.number ≡ 18 = ap (λ (v : Written). v.number) e in absurd (omega arith)
whole_shown true f x w e h = go (ltb (length x) (length f)) e
  where
    go : (b : Bool) → w ≡ cond b (record { number = 17; position = 0; output = x }) (record { number = 0; position = length f; output = f ++ drop (length f) x }) → (take w.position w.output ≡ cond b (refusal 17 0) f) × (w.position ≤ length w.output)
    go true k = let n : w.number ≡ 17 = ap (λ (v : Written). v.number) k in absurd (omega arith)
    go false k =
        let p : w.position ≡ length f = ap (λ (v : Written). v.position) k in
        let y : length w.output ≡ length f + length (drop (length f) x) = ap (λ (v : Written). length v.output) k ∙ length-append f (drop (length f) x) in
        (ap (λ (v : Written). take v.position v.output) k ∙ take-append_seam f (drop (length f) x), omega arith)

-- A refusal's number is not that of an accepted call.
pub refused_told : (r : Refusal) → number r ≡ 0 → ⊥
refused_told DocumentLength e = omega arith
refused_told Mode e = omega arith
refused_told Base e = omega arith
refused_told Work e = omega arith
refused_told Utf8 e = omega arith
refused_told Token e = omega arith
refused_told Escape e = omega arith
refused_told Grammar e = omega arith
refused_told Prefix e = omega arith
refused_told NoBase e = omega arith
refused_told IriLength e = omega arith
refused_told Prefixes e = omega arith
refused_told Depth e = omega arith
refused_told Rows e = omega arith
refused_told Terms e = omega arith
refused_told Store e = omega arith
refused_told Output e = omega arith
refused_told Tables e = omega arith
refused_told IndexOutput e = omega arith
refused_told Index e = omega arith
refused_told Pairing e = omega arith
refused_told List e = omega arith

module _ (s : Slices) (x : Text) (out : Text) where
  pub refusal_printed : (r : Refusal) → answer (Err r) out ≡ write s x → refusal (number r) 0 ≡ tables_printed s (length x)
  unfolding write tables_printed
  refusal_printed r e = refused_shown (usable for_long_form s) (long_form s) x (answer (Err r) out) e (refused_told r)

  module _ (n : ℕ) (e : answer (Ok n) out ≡ write s x) where
    pub form_printed : take n out ≡ tables_printed s (length x)
    unfolding write tables_printed
    form_printed = (whole_shown (usable for_long_form s) (long_form s) x (answer (Ok n) out) e refl).0

    pub form_within : n ≤ length out
    unfolding write
    form_within = (whole_shown (usable for_long_form s) (long_form s) x (answer (Ok n) out) e refl).1

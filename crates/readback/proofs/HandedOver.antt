-- What an accepted call leaves in the lent slices, read off their words and bytes, are the document's statements.
use mathlib.Core.Path.{◌≡◌, sym, ap, ◌∙◌}
use mathlib.Core.List.{List, map}
use Prim.Native.Nat.{ℕ}
use Rattle.text.specs.Text.{Text}
use Rattle.grammar.proofs.Grammar.{one_derivation}
use Rattle.dataset.specs.Terms.{Quad}
use Rattle.table.specs.Usable.{for_long_form, quads_held}
use Rattle.machine.specs.Read.{Lent, Answer, mode_of, read}
use Rattle.machine.proofs.Constructed.{tables_hold}
use Rattle.machine.proofs.Demands.{meets_answer, zero_meets}
use Rattle.machine.proofs.Distinct.{one_number}
use Rattle.readback.specs.ReadBack.{with_blanks, slices_after}
use Rattle.readback.specs.HandedOver.{HandedOver}
use Rattle.readback.proofs.Numbering.{by_number, numbers_differ, held_numbered}
use Rattle.readback.proofs.RoundTrip.{made, made_kept}

-- Demand 2's first sentence, over what a call leaves: whatever stood in the lent slices.
pub handed_over : (doc : Text) (mode : ℕ) (base : Text) (lent : Lent) → (read doc mode base lent).number ≡ 0
    → (rows terms : List ℕ) (store : Text) → HandedOver doc mode base (slices_after (read doc mode base lent) rows terms store)
handed_over doc mode base lent e rows terms store =
    let x = zero_meets doc mode base lent e in
    let m = made doc mode base lent x in
    let k = made_kept doc mode base lent x in
    record {
      derivation = x.derivation.0;
      tokens = x.derivation.1;
      only = λ y p. one_derivation (mode_of mode) y x.derivation.0 (p ∙ sym x.derivation.1);
      rename = by_number m.terms;
      apart = numbers_differ m.terms;
      same =
          ap (λ (a : Answer). quads_held (slices_after a rows terms store)) (meets_answer doc mode base lent x)
          ∙ held_numbered for_long_form m.terms m.rows _ _ _ k.terms k.rows (one_number doc mode base lent x)
          ∙ ap (λ (qs : List Quad). map (with_blanks (by_number m.terms)) qs) (tables_hold (mode_of mode) x.derivation.0 base);
    }

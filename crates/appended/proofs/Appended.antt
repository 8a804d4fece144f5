-- "A file added at the end must not move the beginning."
use mathlib.Core.Path.{◌≡◌, sym, ap, ◌∙◌, subst}
use mathlib.Core.List.{List, ◌++◌}
use Prim.Native.Nat.{ℕ}
use lib.ListN.{length}
use Rattle.text.specs.Text.{Text}
use Rattle.token.specs.Tokens.{Token}
use Rattle.machine.specs.Read.{Lent, Answer, success, mode_of, read}
use Rattle.machine.proofs.Demands.{zero_meets, meets_answer}
use Rattle.machine.proofs.Extends.{Extends}
use Rattle.machine.proofs.Joined.{joined_tables}
use Rattle.table.specs.Usable.{for_long_form}
use Rattle.readback.specs.ReadBack.{slices_after}
use Rattle.readback.proofs.RoundTrip.{made, made_kept}
use Rattle.appended.specs.Appended.{with_text_added, Begins}
use Rattle.appended.proofs.Parts.{added, more_utf8, both_tokens}
use Rattle.appended.proofs.Words.{begins}

-- If a document is accepted, and the same document, a line feed and further text is accepted with the same mode and base, whatever each call is lent and
-- whatever its slices held, then the rows, terms and store bytes of the first are the beginning of those of the second.
pub appended : (doc more : Text) (mode : ℕ) (base : Text) (lent lent' : Lent)
    → (read doc mode base lent).number ≡ 0 → (read (with_text_added doc more) mode base lent').number ≡ 0
    → (rows rows' terms terms' : List ℕ) (store store' : Text)
    → Begins (slices_after (read doc mode base lent) rows terms store) (slices_after (read (with_text_added doc more) mode base lent') rows' terms' store')
appended doc more mode base lent lent' e f rows rows' terms terms' store store' =
    let whole = with_text_added doc more in
    let x = zero_meets doc mode base lent e in
    let y = zero_meets whole mode base lent' f in
    let longer : Extends (made doc mode base lent x) (made whole mode base lent' y) =
    joined_tables (mode_of mode) base x.derivation.0 y.derivation.0 (added doc more)
    (y.derivation.1 ∙ both_tokens doc more mode base lent x (more_utf8 doc more y.utf8) ∙ ap (λ (l : List Token). l ++ added doc more) (sym x.derivation.1)) in
    subst (λ (a : Answer). Begins (slices_after a rows terms store) (slices_after (read whole mode base lent') rows' terms' store')) (sym (meets_answer doc mode base lent x))
    (subst (λ (a : Answer). Begins (slices_after (success (length doc) (made doc mode base lent x)) rows terms store) (slices_after a rows' terms' store')) (sym (meets_answer whole mode base lent' y))
    (begins for_long_form (length doc) (length whole) (made doc mode base lent x) (made whole mode base lent' y) (made_kept doc mode base lent x).terms longer rows rows' terms terms' store store'))

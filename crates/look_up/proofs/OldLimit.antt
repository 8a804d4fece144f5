-- The look-up under two limits of a text's length: "Old scanners answer 23 on reaching a record with a length over 1,024, never a wrong count" (C-20).
use mathlib.Core.Path.{◌≡◌, refl}
use mathlib.Core.Logic.{◌⊎◌, inl, inr}
use mathlib.Core.List.{[], ◌∷◌}
use mathlib.Core.Bool.{Bool, true, false, ◌&&◌}
use mathlib.Core.Option.{Option, none, some}
use Prim.Native.Nat.{ℕ, zero, suc, ◌+◌, ◌-◌, ◌≤◌}
use native.Mathlib.Omega.{arith}
use lib.Dec.{leb}
use lib.ListN.{length}
use borrow.Author.Tests.{leb-true, le-leb}
use Rattle.text.specs.Text.{Text, cond, begins}
use Rattle.text.specs.Order.{smaller}
use Rattle.text.proofs.Compare.{by, and_left, and_right}
use Rattle.std.specs.Prelude.{Result, Ok}
use Rattle.limits.specs.declared.Refusal.{Refusal}
use Rattle.look_up.specs.Record.{Rows, mark, head_size, size_of, text_of, is_record, entry_of, entries_from}
use Rattle.look_up.specs.Look.{refused, rises, stops, search, look}

-- The first refuses, or gives the second's answer.
abbrev pub Agrees : Result Rows Refusal → Result Rows Refusal → Type 0
Agrees a b = (a ≡ refused) ⊎ (a ≡ b)

pass : (p q : Bool) (a b c : Result Rows Refusal) → Agrees a b → Agrees (cond p (cond q a c) refused) (cond p (cond q b c) refused)
pass true true a b c x = x
pass true false a b c x = inr refl
pass false q a b c x = inr refl

module _ (old new : ℕ) (h : old ≤ new) where
  wider : (r : Text) → is_record old r ≡ true → is_record new r ≡ true
  unfolding is_record
  wider r e =
      let whole = leb (head_size + size_of r) (length r) in
      let p = and_left (begins mark r && leb (size_of r) old) whole e in
      let l = leb-true (size_of r) old (and_right (begins mark r) (leb (size_of r) old) p) in
      rw (and_left (begins mark r) (leb (size_of r) old) p, le-leb (size_of r) new (omega arith), and_right (begins mark r && leb (size_of r) old) whole e)

  module _ (address : Text) where
    agrees_from : (before : Option Text) (k : ℕ) (s : Text) → Agrees (search address before (entries_from old k s)) (search address before (entries_from new k s))
    unfolding entries_from search
    agrees_from before zero [] = inr refl
    agrees_from before (suc k) [] = inr refl
    agrees_from before (suc k) (b ∷ s) = agrees_from before k s
    agrees_from before zero (b ∷ s) =
        let r = b ∷ s in
        let left = head_size + size_of r - 1 in
        by (is_record old r)
        (λ e. rw (e, wider r e)
        (pass (rises before (text_of r)) (smaller (text_of r) address) (search address (some (text_of r)) (entries_from old left s)) (search address (some (text_of r)) (entries_from new left s)) (Ok (stops address (entry_of r))) (agrees_from (some (text_of r)) left s)))
        (λ e. inl (rw e))

    pub old_agrees : (index : Text) → Agrees (look old address index) (look new address index)
    unfolding look
    old_agrees index = agrees_from none 0 index

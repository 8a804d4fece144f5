-- Where the look-up stops, and how it goes on.
use mathlib.Core.Path.{◌≡◌, refl, sym, ap, ◌∙◌}
use mathlib.Core.List.{[], ◌∷◌}
use mathlib.Core.Bool.{true, false}
use mathlib.Core.Option.{Option, none, some}
use Prim.Native.Nat.{ℕ, ◌+◌, ◌≤◌, ◌<◌}
use native.Mathlib.Omega.{arith}
use lib.ListN.{length, drop, length-drop}
use lib.Seq.{length-take-le}
use Rattle.std.specs.Prelude.{Result, Ok}
use Rattle.limits.specs.declared.Refusal.{Refusal}
use Rattle.text.specs.Text.{Text, cond}
use Rattle.text.specs.Order.{smaller}
use Rattle.look_up.specs.Record.{Rows, head_size, size_of, text_of, is_record, entry_of, entries_from, entries}
use Rattle.look_up.specs.Look.{absent, refused, rises, stops, search, look}
use Rattle.look_up.proofs.Records.{record_in, at_front}

module _ (limit : ℕ) (address : Text) where
  -- What the look-up gives at the front of what is left, behind a text.
  abbrev pub left : Option Text → Text → Result Rows Refusal
  left before front = search address before (entries limit front)

  pub starts : (index : Text) → look limit address index ≡ left none index
  unfolding look
  starts index = refl

  pub ends : (before : Option Text) (front : Text) → length front ≡ 0 → Ok absent ≡ left before front
  unfolding entries_from search
  ends before [] h = refl
  ends before (b ∷ s) h = absurd (omega arith)

  module _ (before : Option Text) (front : Text) (h : 0 < length front) where
    here : left before front ≡ search address before (cond (is_record limit front) (some (entry_of front) ∷ entries limit (drop (head_size + size_of front) front)) (none ∷ []))
    here = ap (search address before) (at_front limit front h)

    pub stops_broken : is_record limit front ≡ false → refused ≡ left before front
    unfolding search
    stops_broken n = sym (here ∙ rw n)

    module _ (is : is_record limit front ≡ true) (t : Text) (g : t ≡ text_of front) where
      read : left before front ≡ cond (rises before t) (cond (smaller t address) (search address (some t) (entries limit (drop (head_size + size_of front) front))) (Ok (stops address (entry_of front)))) refused
      unfolding search
      read = here ∙ rw (is, ← g)

      pub stops_fallen : rises before t ≡ false → refused ≡ left before front
      stops_fallen n = sym (read ∙ rw n)

      size_is : length t ≡ size_of front
      unfolding text_of
      size_is = ap length g ∙ length-take-le (size_of front) (drop head_size front) (let l = length-drop head_size front in let m = record_in limit front is in omega arith)

      -- The next record begins behind the text.
      pub next_in : head_size + length t ≤ length front
      next_in = let m = record_in limit front is in let n = size_is in omega arith

      module _ (r : rises before t ≡ true) where
        pub stops_here : smaller t address ≡ false → Ok (stops address (entry_of front)) ≡ left before front
        stops_here n = sym (read ∙ rw (r, n))

        pub goes_on : smaller t address ≡ true → left before front ≡ left (some t) (drop (head_size + length t) front)
        goes_on n = read ∙ rw (r, n, ← size_is)

-- The look-up (C-17): "From an address and an index, give the number of rows and the first."
use Rattle.std.specs.Prelude.{List, [], ◌∷◌, Bool, true, ℕ, Result, Ok, Err}
use Rattle.std.proofs.Math.Option.{Option, none, some}
use Rattle.text.specs.Text.{Text, cond, same_text, computing as text_computing}
use Rattle.text.specs.Order.{smaller}
use Rattle.text.specs.Words.{four_at}
use Rattle.limits.specs.declared.Refusal.{Refusal}
use Rattle.limits.specs.declared.Refusal.TheVariants.{Index}
use Rattle.look_up.specs.Record.{Rows, rows, head_of, size_of, text_of, is_record, Entry, entries_from, entries}

-- "absent subjects included (0 rows, first row 0)"
abbrev pub absent : Rows
absent = rows 0 0

-- "23, .."
abbrev pub refused : Result Rows Refusal
refused = Err Index

-- The text rises above the one before it, where there is one.
abbrev pub rises : Option Text → Text → Bool
rises none t = true
rises (some b) t = smaller b t

-- What the stopping record says: its text is the address, or greater.
abbrev pub stops : Text → Entry → Rows
stops address e = cond (same_text e.text address) e.rows absent

-- "Stop at the first record whose text is not smaller." "23, a record before the stopping place, or the stopping one, lacks its mark, is cut short, has a length over 1,024, or does not rise"
unfoldable pub search : Text → Option Text → List (Option Entry) → Result Rows Refusal
search address before [] = Ok absent
search address before (none ∷ es) = refused
search address before (some e ∷ es) =
    let next = search address (some e.text) es in
    cond (rises before e.text) (cond (smaller e.text address) next (Ok (stops address e))) refused

-- The limit of a text's length is given; the call takes an IRI's, 1,024.
unfoldable pub look : ℕ → Text → Text → Result Rows Refusal
look limit address index = search address none (entries limit index)

-- All that computes here; an example that is checked by evaluation names it.
unfoldable pub computing : ℕ
unfolding text_computing four_at smaller head_of size_of text_of is_record entries_from search look
computing = 0

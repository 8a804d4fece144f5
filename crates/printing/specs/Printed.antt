-- What the program prints.
use Rattle.std.specs.Prelude.{List, [], ◌++◌, cond, ltb, leb, not, eqb, ℕ, length, replicate, codes, decimal}
use Rattle.text.specs.Text.{Text}
use Rattle.table.specs.Layout.{Slices}
use Rattle.table.specs.Usable.{for_long_form, usable}
use Rattle.table.specs.LongForm.{long_form}
use Rattle.usable.specs.Lent.{slices}
use Rattle.machine.specs.Read.{Answer, Lent, lends, contents, read}

-- The line of a refusal.
abbrev pub refusal : ℕ → ℕ → List ℕ
refusal number at = codes "refused " ++ (decimal number ++ (codes " at " ++ (decimal at ++ codes "\n")))

-- The long form of tables, for which there is so much room, or a refusal.
unfoldable pub tables_printed : Slices → ℕ → Text
tables_printed s room =
    cond (not (usable for_long_form s)) (refusal 18 0) (cond (ltb room (length (long_form s))) (refusal 17 0) (long_form s))

-- A count as the writer takes it: none is so large that it is not this number.
abbrev pub narrow : ℕ → ℕ
narrow n = cond (leb n 4294967295) n 0

-- The tables that an answer leaves in slices of zeros.
abbrev pub tables_left : Answer → Lent → Slices
tables_left a lent =
    slices
    (contents a.rows (replicate lent.rows 0))
    (narrow a.row_count)
    (contents a.terms (replicate lent.terms 0))
    (narrow a.term_count)
    (contents a.store (replicate lent.store 0))
    (narrow a.store_count)

-- A document in TriG: its long form, with so much lent and so much room for it, or a refusal.
unfoldable pub document_printed : Lent → ℕ → Text → Text
document_printed lent room doc =
    let a = read doc 0 [] lent in cond (eqb a.number 0) (tables_printed (tables_left a lent) room) (refusal a.number a.position)

-- The input: at most 65,536 bytes, else the refusal of a document that is too long.
unfoldable pub printed : Text → Text
printed input = cond (ltb 65536 (length input)) (refusal 1 0) (document_printed (lends 131072 16384 16384 65536) 65536 input)

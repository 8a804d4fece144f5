-- A term's text, asked for by its number.
use Rattle.std.specs.Prelude.{Bool, ◌&&◌, ℕ, ◌+◌, ◌*◌, leb, length}
use Rattle.std.proofs.Math.Option.{Option, none, some}
use Rattle.text.specs.Text.{Text, cond, between}
use Rattle.table.specs.Layout.{term_size, entry_at, iri_kind, tagged_kind, Slices, span}

-- "number 0, one over the count, a count past its slice, a kind not 1 to 4 or a span outside the used store gives 18 and an empty part."
unfoldable pub shows : Slices → ℕ → Bool
shows s n =
    let t = entry_at s.terms n in
    between 1 s.term_count n && leb (term_size * s.term_count) (length s.terms) && leb s.store_count (length s.store)
    && between iri_kind tagged_kind t.kind && leb (t.start + t.size) s.store_count

-- The text, or none where the answer is 18. "A term's text .. is shown as that part of the store itself"
unfoldable pub term_text : Slices → ℕ → Option Text
term_text s n = let t = entry_at s.terms n in cond (shows s n) (some (span s.store t.start t.size)) none

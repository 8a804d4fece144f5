-- The answer to a term's number, in the scope's numbers and as a part of the store.
use Rattle.std.specs.Prelude.{[], ℕ, Option, Some, None}
use Rattle.std.proofs.Math.Option as math
use Rattle.std.proofs.Math.Option.{none, some}
use Rattle.text.specs.Text.{Text, cond}
use Rattle.table.specs.Layout.{entry_at, Slices, span}
use Rattle.table.specs.Lent.{slices}
use Rattle.table.specs.TermText.{shows}
use Rattle.term_text.specs.declared.Span.{Span}
use Rattle.term_text.specs.declared.Terms.{Terms}

-- "gives 18 and an empty part"
abbrev pub answer : math.Option Text → ℕ
answer none = 18
answer (some t) = 0

abbrev pub text_of : math.Option Text → Text
text_of none = []
text_of (some t) = t

-- The tables as they are lent to this call, which takes no rows.
abbrev pub lent : Terms → Slices
lent t = slices [] 0 t.terms.now t.count t.store.now t.used

-- The number and the part that a span, or none, stands for.
abbrev pub number_of : Option Span → ℕ
number_of None = 18
number_of (Some p) = 0

abbrev pub part_of : Text → Option Span → Text
part_of store None = []
part_of store (Some p) = span store p.start p.size

-- Where the text lies.
unfoldable pub span_at : Slices → ℕ → Option Span
span_at s n = cond (shows s n) (Some (record { start = (entry_at s.terms n).start; size = (entry_at s.terms n).size })) None

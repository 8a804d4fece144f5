-- Tables of IRIs alone.
use Rattle.std.specs.Prelude.{ℕ}
use Rattle.terms.specs.declared.Counts.{Counts}

abbrev pub counts : ℕ → ℕ → Counts
counts n used = record { terms = n; used = used; blanks = 0 }

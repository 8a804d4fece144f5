-- What the checks see of a call.
use Rattle.std.specs.Prelude.{ℕ}
use Rattle.machine.specs.Read.{Lent, lends}

-- The checks see of what is lent the length of the work slice alone.
abbrev pub lent_work : ℕ → Lent
lent_work n = lends n 0 0 0

-- The IRIs that lists supply, by the numbers that the definitions give them: 0 is none.
use Rattle.std.specs.Prelude.{ℕ, Option, Some, None}
use Rattle.state.specs.declared.Supplied.{Supplied}
use Rattle.state.specs.declared.Supplied.TheVariants.{First, Rest, Nil}

abbrev pub number_of : Option Supplied → ℕ
number_of None = 0
number_of (Some First) = 1
number_of (Some Rest) = 2
number_of (Some Nil) = 3

-- Directives, by evaluation.
use mathlib.Core.Path.{◌≡◌, refl}
use mathlib.Core.List.{List, []}
use mathlib.Core.Option.{none, some}
use Rattle.text.specs.Text.{ascii}
use Rattle.environment.specs.Environment.{Binding, lookup, bound, computing}

-- @prefix m: <x:m#> . @prefix e: <x:e#> . @prefix m: <x:n#> .
abbrev three : List Binding
three = bound (ascii "m") (ascii "x:n#") (bound (ascii "e") (ascii "x:e#") (bound (ascii "m") (ascii "x:m#") []))

latest : lookup (ascii "m") three ≡ some (ascii "x:n#")
unfolding computing
latest = refl

other : lookup (ascii "e") three ≡ some (ascii "x:e#")
unfolding computing
other = refl

undeclared : lookup [] three ≡ none
unfolding computing
undeclared = refl

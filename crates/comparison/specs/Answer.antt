-- The answer, with what the two lists then hold.
use Rattle.std.specs.Prelude.{List, ℕ, Bool, ◌&&◌, eqb, Result, Ok, Err}
use Rattle.limits.specs.declared.Refusal.{Refusal}
use Rattle.limits.specs.Refusal.{number}
use Rattle.comparison.specs.Comparison.{Comparison, refused}
use Rattle.comparison.specs.declared.Counts.{Counts}

-- None is listed on either side.
abbrev pub none_listed : Counts → Bool
none_listed c = eqb c.left 0 && eqb c.right 0

abbrev pub answer : Result Counts Refusal → List ℕ → List ℕ → Comparison
answer (Ok c) left_list right_list = record { number = 0; left_count = c.left; right_count = c.right; same = none_listed c; left_list = left_list; right_list = right_list }
answer (Err r) left_list right_list = refused (number r) left_list right_list

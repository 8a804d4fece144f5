-- The reader's whole answer: number, position, counts, and what each lent slice holds after it.
use Rattle.std.specs.Prelude.{[], ℕ, length}
use Rattle.std.proofs.Math.Option.{Option, none, some}
use Rattle.text.specs.Text.{Text}
use Rattle.utf8.specs.Utf8.{first_bad}
use Rattle.token.specs.Tokens.{lexemes}
use Rattle.dataset.specs.Constructors.{computing as dataset_computing}
use Rattle.table.specs.LongForm.{computing as table_computing}
use Rattle.machine.specs.Memory.{start_memory}
use Rattle.machine.specs.Frame.{statement}
use Rattle.machine.specs.Rules.{rules}
use Rattle.machine.specs.Refusals.{no_character, undeclared, no_base, too_long, one_prefix_more, too_deep, new_depth}
pub use Rattle.machine.specs.Call.{Lent, lends, mode_of, room_of, first_checks, After, kept, zeroed, written, contents, Answer, untouched, refusal, filled, success}
unfoldable pub use Rattle.machine.specs.Call.{bad_base}
use Rattle.machine.specs.Step.{State, first_refusal, Outcome, accepted, refused, step, run}

abbrev pub reported : ℕ → Outcome → Answer
reported n (accepted m) = success n m
reported n (refused c p) = refusal c p

abbrev pub start_state : Text → State
start_state base = record { open_now = statement []; depth = 0; memory = start_memory base }

-- A document that 1 to 5 do not refuse.
unfoldable pub read_tokens : Text → ℕ → Text → Lent → Answer
read_tokens doc mode base lent = reported (length doc) (run (mode_of mode) (room_of lent) (length doc) (lexemes doc) (start_state base))

unfoldable pub read_utf8 : Option ℕ → Text → ℕ → Text → Lent → Answer
read_utf8 (some p) doc mode base lent = refusal 5 p
read_utf8 none doc mode base lent = read_tokens doc mode base lent

unfoldable pub read_checked : Option ℕ → Text → ℕ → Text → Lent → Answer
read_checked (some n) doc mode base lent = untouched n
read_checked none doc mode base lent = read_utf8 (first_bad doc) doc mode base lent

unfoldable pub read : Text → ℕ → Text → Lent → Answer
read doc mode base lent = read_checked (first_refusal (first_checks doc mode base lent)) doc mode base lent

-- All that computes here; an example that is checked by evaluation names it.
unfoldable pub computing : ℕ
unfolding dataset_computing table_computing rules no_character undeclared no_base too_long one_prefix_more too_deep new_depth step run bad_base read_tokens read_utf8 read_checked read
computing = 0

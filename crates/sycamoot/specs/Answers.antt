-- The calls as C sees them, in the words of the definitions, number for number.
use Rattle.std.specs.Prelude.{◌≡◌, List, ℕ, Bool, leb, Option, Some, None, Result, Ok, Err}
use Rattle.text.specs.Text.{Text, cond}
use Rattle.table.specs.LongForm as long
use Rattle.reader.specs.Reader.{Reading}
use Rattle.term_text.specs.declared.Span.{Span}
use Rattle.sycamoot.specs.declared.Answer.{Answer}
use Rattle.sycamoot.specs.declared.Text as text
use Rattle.look_up.specs.declared.Rows.{Rows}
use Rattle.limits.specs.declared.Refusal.{Refusal}
use Rattle.limits.specs.Refusal.{number}
use Rattle.sycamoot.specs.declared.Written.{Written}
use Rattle.sycamoot.specs.declared.Checked.{Checked}
use Rattle.sycamoot.specs.declared.Found.{Found}
use Rattle.comparison.specs.Comparison.{Comparison}
use Rattle.sycamoot.specs.declared.Compared.{Compared}

-- A mode in one byte: 0, 1, or 2 for every other, which is refused alike.
abbrev pub known_mode : ℕ → ℕ
known_mode mode = cond (leb mode 1) mode 2

abbrev pub reading : Answer → Reading
reading r = record { number = r.number; position = r.position; rows = r.rows; terms = r.terms; store = r.store }

-- "gives 18 and an empty part"
abbrev pub shown : Option Span → text.Text
shown (Some p) = record { start = p.start; length = p.size; number = 0 }
shown None = record { start = 0; length = 0; number = 18 }

abbrev pub written : Written → Text → long.Written
written r out = record { number = r.number; position = r.position; output = out }

-- "yes" is 1.
abbrev pub checked : Result Bool Refusal → Checked
checked (Ok is) = record { number = 0; yes = cond is 1 0 }
checked (Err r) = record { number = number r; yes = 0 }

abbrev pub looked_up : Result Rows Refusal → Found
looked_up (Ok r) = record { number = 0; rows = r.count; first = r.first }
looked_up (Err r) = record { number = number r; rows = 0; first = 0 }

-- "answer whether the files are the same": yes is 1.
abbrev pub compared : Comparison → Compared
compared v = record { number = v.number; same = cond v.same 1 0; left = v.left_count; right = v.right_count }

abbrev pub Tells : Comparison → Compared → List ℕ → List ℕ → Type 0
Tells v r left_list right_list = (r ≡ compared v) × ((left_list ≡ v.left_list) × (right_list ≡ v.right_list))

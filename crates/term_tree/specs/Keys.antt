-- By what a term is looked for: hashes of its text, its tag and the number of its datatype's term.
use Rattle.std.specs.Prelude.{List, ℕ, ◌+◌, ◌*◌, ◌/◌, ◌%◌}
use Rattle.text.specs.Text.{Text}
use Rattle.dataset.specs.Terms.{Term, iri, blank, literal, tagged}
use Rattle.table.specs.Tables.{number, or_zero}
use Rattle.spelling.specs.Hash.{first_multiplier, stir, hash_from}

-- The hashes have each a multiplier of its own.
abbrev pub multiplier : ℕ → ℕ
multiplier k = first_multiplier + 2 * (k % 65536)

unfoldable pub key_at : ℕ → Text → Text → ℕ → ℕ
key_at k x g n = stir (multiplier k) (hash_from (multiplier k) (hash_from (multiplier k) 0 x) g) (n % 4294967296)

-- Which way the search goes from a term that is another, d levels below the first of its bucket. A hash serves sixteen levels; terms
-- that it does not tell apart are told apart by the next.
abbrev pub turn_of : ℕ → ℕ → ℕ
turn_of key d = key / (2 * (d % 16) + 3) % 2

unfoldable pub turn_at : Text → Text → ℕ → ℕ → ℕ
turn_at x g n d = turn_of (key_at (d / 16) x g n) d

-- The number of a literal's datatype, 0 for any other term, as the terms have it; a search gives it as type_of.
abbrev pub type_in : List Term → Term → ℕ
type_in ts (iri s) = 0
type_in ts (blank b) = 0
type_in ts (literal s d) = or_zero (number (iri d) ts)
type_in ts (tagged s g) = 0

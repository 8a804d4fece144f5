-- The tests of a token that stands for an IRI, in number order, and those of the IRI that a directive awaits.
use Rattle.std.specs.Prelude.{◌≡◌, ◌++◌, true, not, ◌&&◌, ◌||◌, ℕ, ltb, length}
use Rattle.text.specs.Text.{Text, cond, empty}
use Rattle.limits.specs.Limits.{iri_limit}
use Rattle.token.specs.Kind.{kind_of_code}
use Rattle.token.specs.Tokens.{Token}
use Rattle.iri.specs.Iri.{has_scheme}
use Rattle.iri.specs.Resolve.{resolved}
use Rattle.iri.specs.declared.ResolveError.{ResolveError}
use Rattle.std.specs.Prelude.{Result, Ok, Err}
use Rattle.iri.specs.declared.ResolveError.TheVariants.{Long, NoBase}
use Rattle.environment.specs.Environment.{Environment}
use Rattle.dataset.specs.Constructors.{InForce}
use Rattle.table.specs.Tables.{or_zero}
use Rattle.machine.specs.Refusals.{long_resolved, escape_tests, iri_tests, prefix_tests}
use Rattle.machine.specs.Call.{first_refusal}

-- The token of this kind with these bytes, at any place.
abbrev pub token_as : ℕ → ℕ → Text → Token
token_as kind at s = record { kind = kind_of_code kind; start = at; text = s }

-- A base in force has a scheme.
abbrev pub Sound : Environment → Type 0
Sound e = (empty e.base || has_scheme e.base) ≡ true

-- 0 where no test holds.
unfoldable pub iri_refusal : InForce → Token → ℕ
iri_refusal f t = or_zero (first_refusal (escape_tests t ++ iri_tests f t))

unfoldable pub namespace_refusal : InForce → Token → ℕ
namespace_refusal f t = or_zero (first_refusal (escape_tests t ++ iri_tests f t ++ prefix_tests f))

-- What becomes of a reference without bad escapes against the base in force.
unfoldable pub outcome : Text → Text → Result ℕ ResolveError
outcome b r = cond (not (has_scheme r) && empty b) (Err NoBase) (cond (ltb iri_limit (length r) || long_resolved b r) (Err Long) (Ok (length (resolved b r))))

-- The bytes at which a run of an IRIREF's text stops.
use Rattle.std.specs.Prelude.{Bool, not, ◌||◌, ℕ, leb}
use Rattle.token.specs.Regular.{in_ranges}
use Rattle.characters.specs.Bytes.{iri}

-- Below 128, and not of [^#x00-#x20<>"{}|^`\].
abbrev pub iri_stop : ℕ → Bool
iri_stop c = not (leb 128 c || in_ranges c iri)

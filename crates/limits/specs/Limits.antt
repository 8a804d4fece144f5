-- "The limits belong to the reader and are named once." Sizes are in bytes.
use Rattle.std.specs.Prelude.{ℕ, ◌+◌, ◌*◌}

-- A document; an IRI; a declared prefix without its colon; how many prefixes; how many [ and ( open at once.
abbrev pub document_limit : ℕ
document_limit = 1048576

abbrev pub iri_limit : ℕ
iri_limit = 1024

abbrev pub prefix_limit : ℕ
prefix_limit = 64

abbrev pub prefixes_limit : ℕ
prefixes_limit = 32

abbrev pub depth_limit : ℕ
depth_limit = 64

-- "The work slice (32 prefixes of 64 + 1,024 bytes, and a base of 1,024)"
abbrev pub work_size : ℕ
work_size = prefixes_limit * (prefix_limit + iri_limit) + iri_limit

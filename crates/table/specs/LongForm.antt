-- The long form: "One line a row, LF after each."
use Rattle.std.specs.Prelude.{[], ◌∷◌, ◌++◌, ℕ, zero, suc, ◌+◌, ◌/◌, ◌%◌, eqb, ltb}
use Rattle.text.specs.Text.{Text, ascii, cond, is, same_text}
use Rattle.token.specs.Tokens.{computing as token_computing}
use Rattle.iri.specs.Iri.{forbidden}
use Rattle.iri.specs.Resolve.{computing as iri_computing}
use Rattle.dataset.specs.Terms.{xsd_string}
use Rattle.table.specs.Layout.{Row, row_words, row_at, entry_words, entry_at, iri_kind, blank_kind, literal_kind, Slices}
use Rattle.table.specs.Tables.{same_blank, same_term, number_from, number, term_at, words_from, terms_words, store_bytes, store_size, rows_words, quads}
use Rattle.table.specs.Usable.{each, is_match, is_tag, for_long_form, the, text, tag, has_kind, counts_fit, good_term, good_row, usable, quads_from, quads_held}
use Rattle.table.specs.TermText.{shows, term_text}
pub use Rattle.table.specs.Written.{Written, written}

-- A 32-bit number in decimal digits: at most ten.
unfoldable pub digits : ℕ → ℕ → Text
digits zero n = []
digits (suc most) n = let r = digits most (n / 10) in cond (ltb n 10) ((48 + n) ∷ []) (r ++ (48 + n % 10) ∷ [])

abbrev pub decimal : ℕ → Text
decimal n = digits 10 n

abbrev pub hex_digit : ℕ → ℕ
hex_digit d = cond (ltb d 10) (48 + d) (55 + d)

-- "the characters IRIREF forbids as \u and four capital hex digits": they are all below 128.
unfoldable pub iri_byte : ℕ → Text
iri_byte c = cond (forbidden c) (ascii "\\u00" ++ hex_digit (c / 16) ∷ hex_digit (c % 16) ∷ []) (c ∷ [])

-- "only \" \\ LF CR escaped, as \\\" \\\\ \\n \\r"
unfoldable pub string_byte : ℕ → Text
string_byte c =
    cond (is "\"" c) (ascii "\\\"") (cond (is "\\" c) (ascii "\\\\") (cond (is "\n" c) (ascii "\\n") (cond (is "\r" c) (ascii "\\r") (c ∷ []))))

unfoldable pub escaped : (ℕ → Text) → Text → Text
escaped f [] = []
escaped f (c ∷ s) = f c ++ escaped f s

-- "IRIs in < >"
abbrev pub iri_form : Text → Text
iri_form s = ascii "<" ++ escaped iri_byte s ++ ascii ">"

-- "Literals in double quotes"
abbrev pub string_form : Text → Text
string_form s = ascii "\"" ++ escaped string_byte s ++ ascii "\""

-- "^^ and the type unless xsd:string"
abbrev pub type_form : Text → Text
type_form d = cond (same_text d xsd_string) [] (ascii "^^" ++ iri_form d)

module _ (s : Slices) where
  -- "Blanks as _:b and the blank number"; "@ and the tag"
  unfoldable pub term_form : ℕ → Text
  term_form n =
      let t = the s n in
      cond (has_kind s iri_kind n) (iri_form (text s n))
      (cond (has_kind s blank_kind n) (ascii "_:b" ++ decimal t.fourth)
      (cond (has_kind s literal_kind n) (string_form (text s n) ++ type_form (text s t.fourth))
      (string_form (text s n) ++ ascii "@" ++ tag s n)))

  unfoldable pub triple_form : Row → Text
  triple_form r = term_form r.subject ++ ascii " " ++ term_form r.predicate ++ ascii " " ++ term_form r.object ++ ascii " ."

  -- "Default graph: subject, predicate, object, dot. Otherwise label, {, the three, dot, }. One blank between parts."
  unfoldable pub line : Row → Text
  line r = cond (eqb r.graph 0) (triple_form r) (term_form r.graph ++ ascii " { " ++ triple_form r ++ ascii " }") ++ ascii "\n"

  unfoldable pub lines_from : ℕ → ℕ → Text
  lines_from i zero = []
  lines_from i (suc n) = line (row_at s.rows i) ++ lines_from (suc i) n

  unfoldable pub long_form : Text
  long_form = lines_from 0 s.row_count

-- ---- The writer's answer: 18, then 17

unfoldable pub write : Slices → Text → Written
write s out = written 17 (usable for_long_form s) (long_form s) out

-- All that computes here; an example that is checked by evaluation names it.
unfoldable pub computing : ℕ
unfolding token_computing iri_computing row_words row_at entry_words entry_at same_blank same_term number_from number term_at words_from terms_words store_bytes store_size rows_words quads each is_match is_tag counts_fit good_term good_row usable quads_from quads_held shows term_text digits iri_byte string_byte escaped term_form triple_form line lines_from long_form write
computing = 0

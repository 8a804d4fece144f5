-- What printed tokens stand for.
use mathlib.Core.Path.{◌≡◌, ap, ◌∙◌}
use mathlib.Core.Bool.{true}
use mathlib.Core.List.{List, [], ◌∷◌}
use mathlib.Core.Option.{none}
use Prim.Native.Nat.{ℕ, ◌-◌}
use native.Mathlib.Omega.{arith}
use lib.ListN.{length, drop, length-append}
use lib.Seq.{take_at}
use Rattle.text.specs.Text.{Text}
use Rattle.utf8.specs.Utf8.{encodes, first_bad}
use Rattle.token.specs.Kind.{Kind, IRIREF, STRING_LITERAL_QUOTE, BLANK_NODE_LABEL, LANGTAG}
use Rattle.token.specs.Tokens.{Token}
use Rattle.escape.specs.Escape.{unescape}
use Rattle.dataset.specs.Constructors.{inner, string_text, reference, tag, node_label}
use Rattle.table.specs.Usable.{is_tag}
use Rattle.table.specs.LongForm.{decimal, iri_byte, string_byte, escaped}
use Rattle.readback.proofs.Undone.{iri_rule, string_rule, unescape_escaped}
use Rattle.readback.proofs.Printed.{marked, label_points}
use Rattle.readback.proofs.Forms.{iri_points, string_points, iri_bytes, string_bytes, label_bytes, tag_bytes}

-- A token at a place.
abbrev pub token_of : Kind → ℕ → List ℕ → Token
token_of k at cs = record { kind = k; start = at; text = encodes cs }

inner_marked : (a b : ℕ) (x : Text) → inner 1 (marked a b x) ≡ x
unfolding inner
inner_marked a b x = take_at x (b ∷ []) (length (marked a b x) - 2) (let l = length-append x (b ∷ []) in omega arith)

pub iri_reference : (at : ℕ) (s : Text) → first_bad s ≡ none → reference (token_of IRIREF at (iri_points s)) ≡ s
unfolding reference
iri_reference at s v = ap (λ (x : Text). unescape (inner 1 x)) (iri_bytes s v) ∙ ap unescape (inner_marked 60 62 (escaped iri_byte s)) ∙ unescape_escaped iri_rule s

pub string_value : (at : ℕ) (s : Text) → first_bad s ≡ none → string_text (token_of STRING_LITERAL_QUOTE at (string_points s)) ≡ s
unfolding string_text
string_value at s v = ap (λ (x : Text). unescape (inner 1 x)) (string_bytes s v) ∙ ap unescape (inner_marked 34 34 (escaped string_byte s)) ∙ unescape_escaped string_rule s

pub tag_value : (at : ℕ) (g : Text) → is_tag g ≡ true → tag (token_of LANGTAG at (64 ∷ g)) ≡ g
unfolding tag
tag_value at g e = ap (drop 1) (tag_bytes g e)

pub label_value : (at n : ℕ) → node_label (token_of BLANK_NODE_LABEL at (label_points n)) ≡ 98 ∷ decimal n
unfolding node_label
label_value at n = ap (drop 2) (label_bytes n)

-- How long forms are at most.
use mathlib.Core.List.{[], ◌∷◌}
use Prim.Native.Nat.{ℕ, zero, suc, ◌+◌, ◌*◌, ◌/◌, ◌%◌, ◌≤◌}
use native.Mathlib.Nat.{min-le_left}
use native.Mathlib.Omega.{arith}
use lib.Dec.{ltb}
use lib.ListN.{length, drop, length-append, length-take}
use Rattle.text.specs.Text.{Text, ascii, same_text}
use Rattle.utf8.proofs.Tests.{by}
use Rattle.iri.specs.Iri.{forbidden}
use Rattle.dataset.specs.Terms.{xsd_string}
use Rattle.table.specs.Layout.{span}
use Rattle.table.specs.LongForm.{digits, iri_byte, string_byte, escaped, iri_form, string_form, type_form}
use Rattle.writer.specs.Writing.{escape_of}
use Rattle.std.specs.Prelude.{Option, Some, None}
use Rattle.writer.proofs.Escapes.{iri_escaped, iri_plain, escape_form, string_told}
use Rattle.writer.proofs.Pieces.{type_none, type_some}

pub span_bound : (store : Text) (start size : ℕ) → length (span store start size) ≤ size
span_bound store start size = rw (length-take size (drop start store)) (min-le_left size (length (drop start store)))

escaped_bound : (f : ℕ → Text) → ((c : ℕ) → length (f c) ≤ 6) → (s : Text) → length (escaped f s) ≤ 6 * length s
unfolding escaped
escaped_bound f h [] = omega arith
escaped_bound f h (c ∷ s) =
    let a = h c in let b = escaped_bound f h s in let e = length-append (f c) (escaped f s) in omega arith

iri_bound : (c : ℕ) → length (iri_byte c) ≤ 6
iri_bound c =
    by (forbidden c) (λ e. rw (iri_escaped c e) (omega arith)) (λ e. rw (iri_plain c e) (omega arith))

escape_bound : (c : ℕ) (e : Option ℕ) → length (escape_form c e) ≤ 6
escape_bound c None = omega arith
escape_bound c (Some e) = omega arith

string_bound : (c : ℕ) → length (string_byte c) ≤ 6
string_bound c = rw (string_told c) (escape_bound c (escape_of c))

pub iri_form_bound : (s : Text) → length (iri_form s) ≤ 6 * length s + 2
iri_form_bound s =
    let a = escaped_bound iri_byte iri_bound s in let e = length-append (escaped iri_byte s) (ascii ">") in omega arith

pub string_form_bound : (s : Text) → length (string_form s) ≤ 6 * length s + 2
string_form_bound s =
    let a = escaped_bound string_byte string_bound s in let e = length-append (escaped string_byte s) (ascii "\"") in omega arith

pub type_form_bound : (d : Text) → length (type_form d) ≤ 6 * length d + 4
type_form_bound d =
    by (same_text d xsd_string) (λ e. rw (type_none d e) (omega arith))
    (λ e. let a = iri_form_bound d in rw (type_some d e) (omega arith))

pub digits_bound : (most n : ℕ) → length (digits most n) ≤ most
unfolding digits
digits_bound zero n = omega arith
digits_bound (suc k) n =
    by (ltb n 10) (λ e. rw e (omega arith))
    (λ e. let a = digits_bound k (n / 10) in let b = length-append (digits k (n / 10)) ((48 + n % 10) ∷ []) in rw e (omega arith))

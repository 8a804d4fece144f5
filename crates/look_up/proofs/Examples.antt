-- Look-ups, by computing.
use mathlib.Core.Path.{◌≡◌, refl}
use mathlib.Core.List.{List, [], ◌∷◌, ◌++◌, map}
use Prim.Native.Nat.{ℕ}
use Prim.Native.String.{String}
use lib.ListN.{take, drop, replicate}
use Rattle.text.specs.Text.{Text, ascii}
use Rattle.text.proofs.Table.{◌⇒◌, Gives}
use Rattle.limits.specs.Limits.{iri_limit}
use Rattle.std.specs.Prelude.{Result, Ok}
use Rattle.limits.specs.declared.Refusal.{Refusal}
use Rattle.look_up.specs.Record.{Rows, rows, record_of}
use Rattle.look_up.specs.Look.{absent, refused, look, computing}

abbrev of : String → ℕ → ℕ → Text
of t count first = record_of (ascii t) (rows count first)

abbrev a : Text
a = of "x:a" 3 7

abbrev looked : Text → Text → Result Rows Refusal
looked index address = look iri_limit address index

-- Each reason for 23, behind a record of the text x:b: no mark, another one, a head or a text cut short, a length over the limit, an equal text, a smaller one. The look-up of x:a and of x:b has stopped before it,
-- that of x:c stops there, that of x:e would go on.
abbrev reasons : List Text
reasons =
    ascii "junk" ∷ (0x47 ∷ 0x59 ∷ drop 2 (of "x:d" 2 1)) ∷ take 11 (of "x:d" 2 1) ∷ take 14 (of "x:d" 2 1) ∷ record_of (ascii "x:d" ++ replicate 1022 97) (rows 2 1) ∷ of "x:b" 2 1 ∷ of "x:a" 2 1 ∷ []

each_reason : Gives (λ t. map (λ bad. looked (of "x:b" 3 7 ++ bad) t) reasons) (
    ascii "x:a" ⇒ replicate 7 (Ok absent)
    ∷ ascii "x:b" ⇒ replicate 7 (Ok (rows 3 7))
    ∷ ascii "x:c" ⇒ replicate 7 refused
    ∷ ascii "x:e" ⇒ replicate 7 refused
    ∷ [])
unfolding computing
each_reason = refl

-- Without any of them.
no_reason : Gives (looked (of "x:b" 3 7 ++ of "x:d" 2 1)) (ascii "x:a" ⇒ Ok absent ∷ ascii "x:b" ⇒ Ok (rows 3 7) ∷ ascii "x:c" ⇒ Ok absent ∷ ascii "x:d" ⇒ Ok (rows 2 1) ∷ ascii "x:e" ⇒ Ok absent ∷ [])
unfolding computing
no_reason = refl

-- Cut in its text, behind its head, in its head; the end of the bytes is no refusal.
cut_short : Gives (λ n. looked (take n a) (ascii "x:a")) (0 ⇒ Ok absent ∷ 1 ⇒ refused ∷ 11 ⇒ refused ∷ 12 ⇒ refused ∷ 14 ⇒ refused ∷ 15 ⇒ Ok (rows 3 7) ∷ [])
unfolding computing
cut_short = refl

-- The stopping record is tested too, where its text is greater.
cut_greater : looked (take 14 (of "x:b" 3 7)) (ascii "x:a") ≡ refused
unfolding computing
cut_greater = refl

other_mark : Gives (λ m. looked (m ++ drop 2 a) (ascii "x:a")) ((0x47 ∷ 0x58 ∷ []) ⇒ Ok (rows 3 7) ∷ (0x47 ∷ 0x59 ∷ []) ⇒ refused ∷ (0x48 ∷ 0x58 ∷ []) ⇒ refused ∷ [])
unfolding computing
other_mark = refl

-- Between the records, at the last one, behind it.
between : Gives (looked (a ++ of "x:ab" 4294967295 65536)) (ascii "x:aa" ⇒ Ok absent ∷ ascii "x:ab" ⇒ Ok (rows 4294967295 65536) ∷ ascii "x:c" ⇒ Ok absent ∷ [])
unfolding computing
between = refl

-- Bytes are unsigned: C3 comes after 7F.
unsigned : Gives (looked (of "x:\u{7f}" 1 2 ++ record_of (120 ∷ 58 ∷ 195 ∷ 169 ∷ []) (rows 3 4))) ((120 ∷ 58 ∷ 195 ∷ 169 ∷ []) ⇒ Ok (rows 3 4) ∷ ascii "x:a" ⇒ Ok absent ∷ [])
unfolding computing
unsigned = refl

-- A text and an address may be empty.
empty_text : Gives (looked (of "" 3 7)) ([] ⇒ Ok (rows 3 7) ∷ ascii "x" ⇒ Ok absent ∷ [])
unfolding computing
empty_text = refl

nothing : Gives (looked []) ([] ⇒ Ok absent ∷ ascii "x" ⇒ Ok absent ∷ [])
unfolding computing
nothing = refl

-- 1,024 bytes are legal, one more is not; under a longer limit it is.
long : ℕ → Text
long n = record_of (replicate n 97) (rows 1 0)

limit : Gives (λ n. looked (long n) (ascii "b")) (1024 ⇒ Ok absent ∷ 1025 ⇒ refused ∷ [])
unfolding computing long
limit = refl

longer_limit : Gives (λ n. look 1536 (ascii "b") (long n)) (1025 ⇒ Ok absent ∷ 1536 ⇒ Ok absent ∷ 1537 ⇒ refused ∷ [])
unfolding computing long
longer_limit = refl

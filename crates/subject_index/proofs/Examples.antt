-- Indexes and their checks, by computing.
use mathlib.Core.Path.{◌≡◌, refl}
use mathlib.Core.Bool.{true, false}
use mathlib.Core.List.{List, [], ◌∷◌, ◌++◌}
use Prim.Native.Nat.{ℕ, zero, suc}
use Prim.Native.String.{String}
use lib.ListN.{length, take}
use Rattle.text.specs.Text.{Text, ascii}
use Rattle.text.specs.Order.{smaller}
use Rattle.text.proofs.Table.{◌⇒◌, Gives}
use Rattle.dataset.specs.Terms.{label, Term, iri, blank, literal}
use Rattle.limits.specs.Limits.{iri_limit}
use Rattle.table.specs.Layout.{Row, Slices}
use Rattle.table.specs.Tables.{terms_words, store_bytes, store_size, rows_words}
use Rattle.table.specs.Usable.{quads_held}
use Rattle.table.specs.Written.{Written}
use Rattle.usable.specs.Lent.{slices}
use Rattle.look_up.specs.Record.{rows, record_of}
use Rattle.look_up.specs.Look.{absent, look, computing as look_computing}
use Rattle.std.specs.Prelude.{Ok, Err}
use Rattle.limits.specs.declared.Refusal.TheVariants.{Tables}
use Rattle.subject_index.specs.Index.{index, write, check, computing}
use Rattle.subject_index.specs.About.{about}

-- ---- The order of texts: by unsigned bytes, a beginning before its continuation

ordered : Gives (smaller (ascii "x:a")) (
    ascii "x:b" ⇒ true
    ∷ ascii "x:a" ⇒ false
    ∷ ascii "x:a-" ⇒ true
    ∷ ascii "x:" ⇒ false
    ∷ ascii "x:A" ⇒ false
    ∷ (120 ∷ 58 ∷ 195 ∷ 169 ∷ []) ⇒ true
    ∷ [])
unfolding computing
ordered = refl

-- ---- Tables: rows of graph, subject, predicate and object, and terms

abbrev row : ℕ → ℕ → ℕ → ℕ → Row
row g s p o = record { graph = g; subject = s; predicate = p; object = o; position = 0 }

abbrev tables : List Row → List Term → Slices
tables rs ts = slices (rows_words rs) (length rs) (terms_words ts) (length ts) (store_bytes ts) (store_size ts)

abbrev of : String → ℕ → ℕ → Text
of t count first = record_of (ascii t) (rows count first)

-- <x:b> <x:p> 1, 1 . <x:a> <x:p> 1 . _:a <x:p> 2 . <x:g> { <x:b> <x:p> 1 }
abbrev pallet : Slices
pallet =
    tables (row 0 1 2 4 ∷ row 0 1 2 4 ∷ row 0 5 2 4 ∷ row 0 6 2 7 ∷ row 8 1 2 4 ∷ [])
    (iri (ascii "x:b") ∷ iri (ascii "x:p") ∷ iri (ascii "x:t") ∷ literal (ascii "1") (ascii "x:t") ∷ iri (ascii "x:a") ∷ blank (label (ascii "a")) ∷ literal (ascii "2") (ascii "x:t") ∷ iri (ascii "x:g") ∷ [])

-- Rows of all graphs count, repeated ones too; a blank node has no record.
pallet_index : index pallet ≡ of "x:a" 1 2 ++ of "x:b" 3 0
unfolding computing
pallet_index = refl

-- Its bytes.
pallet_bytes : take 15 (index pallet) ≡ 0x47 ∷ 0x58 ∷ 3 ∷ 0 ∷ 1 ∷ 0 ∷ 0 ∷ 0 ∷ 2 ∷ 0 ∷ 0 ∷ 0 ∷ 120 ∷ 58 ∷ 97 ∷ []
unfolding computing
pallet_bytes = refl

-- <x:a-> a 1 . <x:ab> a 1 . <x:a> a 1 . <x:A> a 1 .
sorted_index :
    index (tables (row 0 1 5 5 ∷ row 0 2 5 5 ∷ row 0 3 5 5 ∷ row 0 4 5 5 ∷ []) (iri (ascii "x:a-") ∷ iri (ascii "x:ab") ∷ iri (ascii "x:a") ∷ iri (ascii "x:A") ∷ iri (ascii "x:p") ∷ []))
    ≡ of "x:A" 1 3 ++ of "x:a" 1 2 ++ of "x:a-" 1 0 ++ of "x:ab" 1 1
unfolding computing
sorted_index = refl

-- One text under two numbers is one subject.
one_text : index (tables (row 0 3 1 1 ∷ row 0 2 1 1 ∷ row 0 1 1 1 ∷ row 0 2 1 1 ∷ []) (iri (ascii "x:p") ∷ iri (ascii "x:a") ∷ iri (ascii "x:a") ∷ [])) ≡ of "x:a" 3 0 ++ of "x:p" 1 2
unfolding computing
one_text = refl

no_subjects : index (tables (row 0 2 1 1 ∷ []) (iri (ascii "x:p") ∷ blank (label (ascii "a")) ∷ [])) ≡ []
unfolding computing
no_subjects = refl

-- ---- The look-up in it, and the walk over all statements that it spares

pallet_looked : Gives (λ t. look iri_limit t (index pallet)) (ascii "x:b" ⇒ Ok (rows 3 0) ∷ ascii "x:a" ⇒ Ok (rows 1 2) ∷ ascii "x:g" ⇒ Ok absent ∷ [])
unfolding computing look_computing
pallet_looked = refl

pallet_about : Gives (about (quads_held pallet)) (ascii "x:b" ⇒ rows 3 0 ∷ ascii "x:a" ⇒ rows 1 2 ∷ ascii "x:g" ⇒ rows 0 0 ∷ [])
unfolding computing
pallet_about = refl

-- ---- The builder: 18, then 22, with the output as it was; what lies past the index stays

abbrev built : ℕ → ℕ → Text → Written
built number position out = record { number = number; position = position; output = out }

abbrev small : Slices
small = tables (row 0 1 1 1 ∷ []) (iri (ascii "x:a") ∷ [])

abbrev bytes : ℕ → Text
bytes zero = []
bytes (suc n) = 0xFF ∷ bytes n

builds : Gives (λ n. write small (bytes n)) (
    15 ⇒ built 0 15 (of "x:a" 1 0)
    ∷ 16 ⇒ built 0 15 (of "x:a" 1 0 ++ 0xFF ∷ [])
    ∷ 14 ⇒ built 22 0 (bytes 14)
    ∷ 0 ⇒ built 22 0 []
    ∷ [])
unfolding computing
builds = refl

-- A subject that is no term.
abbrev broken : Slices
broken = tables (row 0 2 1 1 ∷ []) (iri (ascii "x:a") ∷ [])

refuses : Gives (λ n. write broken (bytes n)) (15 ⇒ built 18 0 (bytes 15) ∷ 0 ⇒ built 18 0 [] ∷ [])
unfolding computing
refuses = refl

-- ---- The check

checks : Gives (check small) (
    of "x:a" 1 0 ⇒ Ok true
    ∷ of "x:a" 1 1 ⇒ Ok false
    ∷ of "x:a" 2 0 ⇒ Ok false
    ∷ of "x:b" 1 0 ⇒ Ok false
    ∷ (of "x:a" 1 0 ++ 0 ∷ []) ⇒ Ok false
    ∷ take 14 (of "x:a" 1 0) ⇒ Ok false
    ∷ (of "x:a" 1 0 ++ of "x:a" 1 0) ⇒ Ok false
    ∷ [] ⇒ Ok false
    ∷ [])
unfolding computing
checks = refl

refuses_too : Gives (check broken) ([] ⇒ Err Tables ∷ of "x:a" 1 0 ⇒ Err Tables ∷ [])
unfolding computing
refuses_too = refl

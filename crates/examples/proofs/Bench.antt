-- The bench cases, a single table: what each document is answered, and what each lent slice holds after it; and that the
-- reader's call answers so.
use mathlib.Core.Path.{◌≡◌, refl, ap, ◌∙◌, subst}
use mathlib.Core.List.{List, [], ◌∷◌, ◌++◌}
use Prim.Native.Nat.{ℕ}
use Rattle.text.proofs.Table.{Example, ◌⇒◌, Gives}
use Rattle.machine.specs.Read.{Lent, Answer, filled, refusal, read, computing}
use Rattle.reader.specs.Reader.{Gives as Leaves}
use Rattle.examples.specs.Call.{utf8, S, Call, trig, turtle, with_rows, answered}
use Rattle.examples.specs.Reader.{Each}

-- One row, at the place `at`, of a document with so many bytes.
abbrev integer_1 : ℕ → ℕ → Answer
integer_1 end at =
    filled end 1 4 47
    (0 ∷ 1 ∷ 2 ∷ 4 ∷ at ∷ [])
    (1 ∷ 0 ∷ 3 ∷ 0 ∷ 0 ∷ 1 ∷ 3 ∷ 3 ∷ 0 ∷ 0 ∷ 1 ∷ 6 ∷ 40 ∷ 0 ∷ 0 ∷ 3 ∷ 46 ∷ 1 ∷ 3 ∷ 0 ∷ [])
    (utf8 "x:sx:phttp://www.w3.org/2001/XMLSchema#integer1")

abbrev double_1e0 : ℕ → ℕ → Answer
double_1e0 end at =
    filled end 1 4 49
    (0 ∷ 1 ∷ 2 ∷ 4 ∷ at ∷ [])
    (1 ∷ 0 ∷ 3 ∷ 0 ∷ 0 ∷ 1 ∷ 3 ∷ 3 ∷ 0 ∷ 0 ∷ 1 ∷ 6 ∷ 39 ∷ 0 ∷ 0 ∷ 3 ∷ 45 ∷ 4 ∷ 3 ∷ 0 ∷ [])
    (utf8 "x:sx:phttp://www.w3.org/2001/XMLSchema#double1.e0")

abbrev string_D7FF : ℕ → ℕ → Answer
string_D7FF end at =
    filled end 1 4 48
    (0 ∷ 1 ∷ 2 ∷ 4 ∷ at ∷ [])
    (1 ∷ 0 ∷ 3 ∷ 0 ∷ 0 ∷ 1 ∷ 3 ∷ 3 ∷ 0 ∷ 0 ∷ 1 ∷ 6 ∷ 39 ∷ 0 ∷ 0 ∷ 3 ∷ 45 ∷ 3 ∷ 3 ∷ 0 ∷ [])
    (utf8 "x:sx:phttp://www.w3.org/2001/XMLSchema#string\u{d7ff}")

abbrev cases : List (Example Call Answer)
cases =
    trig [] ⇒ filled 0 0 0 0 [] [] []
    ∷ trig (S "1.") ⇒ integer_1 14 12
    ∷ trig (S "1.e0.") ⇒ double_1e0 17 12
    ∷ trig (S "1") ⇒ refusal 8 13
    ∷ trig (utf8 "{ " ++ S "1 }") ⇒ integer_1 17 14
    ∷ turtle (utf8 "{ " ++ S "1 }") ⇒ refusal 8 0
    ∷ trig (utf8 "(1) .") ⇒ refusal 8 4
    ∷ trig (S "\"Z\"@base .") ⇒ refusal 8 15
    ∷ trig (S "true.ex:t .") ⇒ refusal 9 12
    ∷ trig (utf8 "PREFIX: <x:n#>") ⇒ refusal 9 0
    ∷ trig (S "<g> .") ⇒ refusal 10 12
    ∷ trig (S "\"\\uD800\" .") ⇒ refusal 7 12
    ∷ trig (S "\"\\uD7FF\" .") ⇒ string_D7FF 22 12
    -- room for one row
    ∷ with_rows 5 (S "1, 2 .") ⇒ refusal 14 15
    ∷ []

bench : Gives answered cases
unfolding computing
bench = refl

-- What the definition answers, the reader's call does.
own : (es : List (Example Call Answer)) → Gives answered es → Each es
own [] e = tt
own ((c ⇒ a) ∷ es) e =
    let h : answered c ≡ a = cc in (
      λ old new r l g. subst (λ (x : Answer). Leaves x old new r) (ap (λ (x : Lent). read c.document c.mode c.base x) l ∙ h) g,
      own es cc,
    )

pub reader_bench : Each cases
reader_bench = own cases bench

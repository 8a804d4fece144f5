-- The next token of a small document from each of some places, by computing.
use mathlib.Core.Path.{◌≡◌, refl, ◌∙◌}
use mathlib.Core.List.{[], ◌∷◌, ◌++◌}
use mathlib.Core.Option.{none, some}
use Prim.Native.Nat.{◌<◌}
use lib.ListN.{drop}
use Rattle.text.specs.Text.{Text, ascii}
use Rattle.text.proofs.Table.{◌⇒◌, Gives}
use Rattle.utf8.specs.Utf8.{encodes, first_bad}
use Rattle.token.specs.Kind.{kind_code, end_kind, unreadable_kind, PNAME_LN, INTEGER, STRING_LITERAL_QUOTE, kw_a, dot}
use Rattle.token.specs.Tokens.{computing}
use Rattle.lexer.specs.Rest.{rest}
use Rattle.token_reader.specs.Next.{found, first_of, next_from, NextFrom}
use Rattle.token_reader.specs.declared.TokenAt.{TokenAt}

abbrev document : Text
document = encodes (ascii "m:41 m:stop \"é\" . # end\n | ")

answers : Gives (next_from document) (
    0 ⇒ found (kind_code PNAME_LN) 0 4
    ∷ 4 ⇒ found (kind_code PNAME_LN) 5 11
    ∷ 11 ⇒ found (kind_code STRING_LITERAL_QUOTE) 12 16
    ∷ 16 ⇒ found (kind_code dot) 17 18
    -- behind the comment
    ∷ 18 ⇒ found unreadable_kind 26 26
    ∷ 26 ⇒ found unreadable_kind 26 26
    -- the end, and past it
    ∷ 27 ⇒ found end_kind 28 28
    ∷ 28 ⇒ found end_kind 28 28
    ∷ 100 ⇒ found end_kind 28 28
    -- within a token, and within the comment
    ∷ 1 ⇒ found (kind_code PNAME_LN) 1 4
    ∷ 2 ⇒ found (kind_code INTEGER) 2 4
    ∷ 20 ⇒ found unreadable_kind 21 21
    ∷ [])
unfolding computing rest first_of next_from
answers = refl

-- ---- A bad byte in a comment, and one behind a token

abbrev broken : Text
broken = ascii "m:41 # " ++ (255 ∷ ascii "\n a ") ++ (192 ∷ ascii " .")

bad_places : Gives (λ n. first_bad (drop n broken)) (0 ⇒ some 7 ∷ 4 ⇒ some 3 ∷ 8 ⇒ some 4 ∷ 13 ⇒ none ∷ [])
unfolding computing
bad_places = refl

-- The token before each is answered; from 4 on, in the comment, only that the answer lies within the document is known.
first_answer : (r : TokenAt) → NextFrom broken 0 r → r.end < 7 → r ≡ found (kind_code PNAME_LN) 0 4
unfolding computing rest first_of next_from
first_answer r n h = n.front 7 refl h ∙ refl

second_answer : (r : TokenAt) → NextFrom broken 8 r → r.end < 12 → r ≡ found (kind_code kw_a) 10 11
unfolding computing rest first_of next_from
second_answer r n h = n.front 4 refl h ∙ refl

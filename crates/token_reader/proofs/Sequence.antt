-- One after the other, the answers are the tokens of the document.
use mathlib.Core.Path.{◌≡◌, refl, ap, sym, subst, ◌∙◌}
use mathlib.Core.Bool.{false}
use mathlib.Core.List.{List, [], ◌∷◌}
use mathlib.Core.Option.{none}
use Prim.Native.Nat.{ℕ, ◌+◌, ◌≤◌}
use native.Mathlib.Omega.{arith}
use lib.Dec.{ltb}
use lib.ListN.{length, drop}
use lib.Seq.{length-take-le}
use borrow.Author.Tests.{ltb-true, ltb-false}
use Rattle.text.specs.Text.{Text}
use Rattle.text.proofs.Compare.{by}
use Rattle.utf8.specs.Utf8.{first_bad, decode, width}
use Rattle.token.specs.Regular.{Match, nothing, hit, Longest, size}
use Rattle.token.specs.Terminals.{token_at, terminals_at}
use Rattle.token.specs.Tokens.{Token, Lexeme, token, unreadable, lexemes}
use Rattle.token.proofs.Longest.{token_longest}
use Rattle.token.proofs.Sizes.{size_append}
use Rattle.automaton.specs.Run.{answer}
use Rattle.lexer.specs.Blanks.{blanks}
use Rattle.lexer.specs.Rest.{rest}
use Rattle.lexer.proofs.Cutting.{blanks_valid, cut_end, cut_none, cut_token}
use Rattle.token_reader.specs.Next.{first_of, next_from}
use Rattle.token_reader.specs.declared.TokenAt.{TokenAt}
use Rattle.token_reader.proofs.Cut.{text_size}

-- From the place on the answers are these tokens, each behind the one before, and then the end or that none can be read.
abbrev pub Reads : Text → ℕ → List Lexeme → Type 0
Reads doc place [] = next_from doc place ≡ first_of (length doc) []
Reads doc place (unreadable p ∷ ls) = next_from doc place ≡ first_of (length doc) (unreadable p ∷ ls)
Reads doc place (token t ∷ ls) = (next_from doc place ≡ first_of (length doc) (token t ∷ ls)) × Reads doc (next_from doc place).end ls

-- A match is within the text.
match_within : (cs : List ℕ) (k n : ℕ) → Longest width (terminals_at cs) cs (hit k n) → n ≤ size width cs
match_within cs k n l = omega (arith, l.bytes, ap (size width) l.whole ∙ size_append l.front l.back)

-- ---- Behind a token

module _ (doc : Text) (place : ℕ) (t : Token) (ls : List Lexeme) (v : first_bad (drop place doc) ≡ none) (e : rest doc place ≡ token t ∷ ls) where
  abbrev b : ℕ
  b = blanks false (decode (drop place doc))

  abbrev cs : List ℕ
  cs = decode (drop (place + b) doc)

  abbrev Behind : Type 0
  Behind = (rest doc (t.start + length t.text) ≡ ls) × (first_bad (drop (t.start + length t.text) doc) ≡ none)

  none_empty : rest doc place ≡ [] → Behind
  none_empty f = let z : ◌≡◌ {A = ℕ} 0 1 = cc in absurd (omega arith)

  none_unreadable : (p : ℕ) → rest doc place ≡ unreadable p ∷ [] → Behind
  none_unreadable p f = let z : ◌≡◌ {A = ℕ} 0 1 = cc in absurd (omega arith)

  token_behind : (u : Token) (n : ℕ) → u.start + length u.text ≡ n → rest doc place ≡ token u ∷ rest doc n → first_bad (drop n doc) ≡ none → Behind
  token_behind u n h f w =
      let a : t ≡ u = cc in
      let c : rest doc n ≡ ls = cc in
      let i : t.start + length t.text ≡ n = ap (λ (x : Token). x.start + length x.text) a ∙ h in
      (ap (rest doc) i ∙ c, ap (λ (k : ℕ). first_bad (drop k doc)) i ∙ w)

  behind : Behind
  behind = go (token_at cs) refl (token_longest cs)
    where
      go : (m : Match) → token_at cs ≡ m → Longest width (terminals_at cs) cs (token_at cs) → Behind
      go nothing e l =
          by (ltb (place + b) (length doc))
          (λ h. none_unreadable (place + b) (cut_none doc place b v refl (sym (ap answer e)) (ltb-true (place + b) (length doc) h)))
          (λ h. none_empty (cut_end doc place b v refl (ltb-false (place + b) (length doc) h)))
      go (hit k n) e l =
          let c = cut_token doc place b v refl k n (sym (ap answer e)) in
          let h : n ≤ length (drop (place + b) doc) =
          omega (arith, match_within cs k n (subst (Longest width (terminals_at cs) cs) e l), text_size (drop (place + b) doc) (blanks_valid doc place b v refl)) in
          token_behind _ (place + b + n) (ap (λ (x : ℕ). place + b + x) (length-take-le n (drop (place + b) doc) h)) c.0 c.1.0

-- ---- All of them

reads_from : (doc : Text) (place : ℕ) (ls : List Lexeme) → first_bad (drop place doc) ≡ none → rest doc place ≡ ls → Reads doc place ls
unfolding next_from first_of
reads_from doc place [] v e = ap (first_of (length doc)) e
reads_from doc place (unreadable p ∷ ls) v e = ap (first_of (length doc)) e
reads_from doc place (token t ∷ ls) v e =
    let f : next_from doc place ≡ first_of (length doc) (token t ∷ ls) = ap (first_of (length doc)) e in
    let o = behind doc place t ls v e in
    (f, subst (λ (n : ℕ). Reads doc n ls) (sym (ap (λ (x : TokenAt). x.end) f)) (reads_from doc (t.start + length t.text) ls o.1 o.0))

-- From the beginning of a document in UTF-8 on, they are its tokens.
pub reads_all : (doc : Text) → first_bad doc ≡ none → Reads doc 0 (lexemes doc)
unfolding rest lexemes
reads_all doc v = reads_from doc 0 (lexemes doc) v refl

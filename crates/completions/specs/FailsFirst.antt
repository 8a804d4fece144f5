-- Where the grammar fails first, in words about the mode, the document and what is lent, and never of what the reader did.
use Rattle.std.specs.Prelude.{◌≡◌, [], ℕ, T, length, take, drop}
use Rattle.std.proofs.Math.Option.{none}
use Rattle.text.specs.Text.{Text}
use Rattle.utf8.specs.Utf8.{first_bad}
use Rattle.token.specs.Tokens.{lexemes, readable}
use Rattle.grammar.specs.Productions.{GrammarFailsAt}
use Rattle.machine.specs.Refusals.{no_character}
use Rattle.machine.specs.Call.{Lent, room_of, mode_of, first_refusal, first_checks}
use Rattle.machine.specs.Demand.{document_tokens, Nowhere, Fair}
use Rattle.completions.specs.Written.{WrittenFits}

-- The answer where it fails.
abbrev pub grammar_refusal : ℕ
grammar_refusal = 8

-- "It fails first when 1 to 5 don't apply, no other refusal stands at an earlier place, and none that goes before 8 stands at this one."
-- At token i, or at the document's end, which is where i is the number of tokens.
pub record FailsFirst (doc : Text) (mode : ℕ) (base : Text) (lent : Lent) (i : ℕ) : Type 0 where
  pub usable : first_refusal (first_checks doc mode base lent) ≡ none
  pub utf8 : first_bad doc ≡ none
  pub fails : GrammarFailsAt (mode_of mode) (document_tokens doc) i
  -- at an earlier place: 7 and 9 to 13, and 14 to 16
  pub fair : Fair base [] (take i (document_tokens doc))
  pub room : WrittenFits (mode_of mode) (room_of lent) base (take i (document_tokens doc))
  -- at this one: 7, and at the end 6
  pub character : Nowhere (λ xs t. no_character t) (take i (document_tokens doc)) (take 1 (drop i (document_tokens doc)))
  pub cuts : i ≡ length (document_tokens doc) → T (readable (lexemes doc))

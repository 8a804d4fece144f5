-- Whether a text that was added is accepted: it is read by itself, but with the prefixes and the base that the document before it leaves.
use Rattle.std.specs.Prelude.{◌≡◌, ℕ, ◌+◌, T}
use Rattle.std.proofs.Math.Option.{none}
use Rattle.text.specs.Text.{Text}
use Rattle.utf8.specs.Utf8.{first_bad}
use Rattle.token.specs.Tokens.{Token, Lexeme, token, unreadable, lexemes, readable}
use Rattle.grammar.specs.Productions.{Grammatical}
use Rattle.machine.specs.Step.{first_refusal}
use Rattle.machine.specs.Read.{Lent, first_checks, mode_of, room_of}
use Rattle.machine.specs.Construction.{tables}
use Rattle.machine.specs.Demand.{document_tokens, Fair, Fits}
use Rattle.appended.specs.Appended.{with_text_added}

-- What stands in a text, where n bytes are put before it.
abbrev pub moved_token : ℕ → Token → Token
moved_token n t = record { kind = t.kind; start = n + t.start; text = t.text }

abbrev pub moved : ℕ → Lexeme → Lexeme
moved n (token t) = token (moved_token n t)
moved n (unreadable p) = unreadable (n + p)

-- What further text has to meet behind an accepted document: the conditions of acceptance (`Meets`) of the text alone, but for these three.
pub record MeetsBehind (doc more : Text) (mode : ℕ) (base : Text) (lent : Lent) : Type 0 where
  -- 1 is about both together;
  pub usable : first_refusal (first_checks (with_text_added doc more) mode base lent) ≡ none
  pub utf8 : first_bad more ≡ none
  pub cuts : T (readable (lexemes more))
  pub derivation : Grammatical (mode_of mode) (document_tokens more)
  -- its names and references stand under what the document has declared, and its prefixes count with the document's;
  pub fair : Fair base (document_tokens doc) (document_tokens more)
  -- and the room is for what both write.
  pub room : (both : Grammatical (mode_of mode) (document_tokens (with_text_added doc more))) → Fits (room_of lent) (tables (mode_of mode) both.0 base)

-- `next_token_from` meets its contract: each return cites the law of its answer.
use Rattle.token_reader.proofs.Answers.{past_end, some_token, no_token, at_end}
use borrow.Author.Rules.{rules}
use mathlib.Core.Path.{ap, ◌∙◌}
use Prim.Native.Nat.{ℕ}
use Rattle.std.specs.Prelude.{Option}
use Rattle.automaton.specs.Run.{len_of}
use Rattle.automaton.specs.declared.Next.{Next}
use Rattle.lexer_words.specs.Ahead.{token_in}
use Rattle.token_reader.proofs.next_token_from.Goals.{in-Some+else-t-ne0, in_default}
use Rattle.token_reader.proofs.next_token_from.Goals as goal

-- The length of the token of an answer.
abbrev len_in : Option Next → ℕ
len_in r = len_of (token_in r)

pub returns-then-size-place : goal.returns-then-size-place
returns-then-size-place c = search past_end

pub returns-then-t-ne0 : goal.returns-then-t-ne0
returns-then-t-ne0 c = search (some_token, rules)

pub returns-then-start-size : goal.returns-then-start-size
returns-then-start-size c = no_token c.args.document.now c.args.place c.skip_blanks.result c.next_token.result c.if-size-place.false c.skip_blanks.ensures c.next_token.ensures (elim c.match-next_token.branch [ in-Some+else-t-ne0 w ↦ ap len_in w.in-Some.is ∙ w.if-t-ne0.false | in_default w ↦ ap len_in w.in_default.is ]) c.if-start-size.true

pub returns : goal.returns
returns c = search (at_end, rules)

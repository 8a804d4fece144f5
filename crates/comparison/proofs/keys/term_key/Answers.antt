use mathlib.Core.Path.{sym, ap, ◌∙◌}
use Rattle.spelling.specs.Hash.{first_multiplier, hash_from}
use Rattle.usable.specs.Lent.{bare, slices_of}
use Rattle.usable.proofs.Words.{kind_word, fourth_word}
use Rattle.comparison.specs.Code.{number_key}
use Rattle.comparison.proofs.RowKeys.{blank_key, text_key}
use Rattle.comparison.proofs.keys.term_key.Goals as goal

pub returns-then-term_word-eq-BLANK : goal.returns-then-term_word-eq-BLANK
returns-then-term_word-eq-BLANK c = (c.number_key.ensures.0 ∙ (ap (number_key c.args.edition c.args.pairing.now.words.now) (fourth_word c.args.tables.now.terms.now c.args.n c.term_word-then-term_word-eq-BLANK.result c.term_word-then-term_word-eq-BLANK.ensures.0) ∙ blank_key (number_key c.args.edition c.args.pairing.now.words.now) (bare (slices_of c.args.tables.now)) c.args.n (sym (kind_word c.args.tables.now.terms.now c.args.n c.term_word.result c.term_word.ensures.0) ∙ c.if-term_word-eq-BLANK.true)), c.number_key.ensures.1)

pub returns : goal.returns
returns c = (c.hash_bytes.ensures.0 ∙ (ap (hash_from first_multiplier 0) c.text_of.ensures ∙ text_key (number_key c.args.edition c.args.pairing.now.words.now) (bare (slices_of c.args.tables.now)) c.args.n c.requires (λ q. c.if-term_word-eq-BLANK.false ((kind_word c.args.tables.now.terms.now c.args.n c.term_word.result c.term_word.ensures.0) ∙ q))), c.hash_bytes.ensures.1)

use native.Mathlib.Omega.{arith}
use Rattle.terms.proofs.Growth.{five_small, fourth_small}
use Rattle.terms.specs.Code.{next_entry}
use Rattle.table.specs.Layout.{entry_words}
use Rattle.terms.proofs.put_entry.Goals as goal

pub put_words-requires : goal.put_words-requires
put_words-requires c = (omega (arith, c.requires.0), five_small c.kind.result c.args.counts.used c.args.size c.fourth_word.result c.args.tag (rw c.kind.ensures c.requires.1.kind) (omega (arith, c.requires.1.used)) (omega (arith, c.requires.1.used)) (omega (arith, c.fourth_word.ensures, fourth_small c.args.counts c.args.sort c.args.size c.args.tag c.requires.1)) (omega (arith, c.requires.1.used)))

pub returns : goal.returns
unfolding entry_words next_entry
returns c = rw (← c.kind.ensures, ← c.fourth_word.ensures) c.put_words.ensures

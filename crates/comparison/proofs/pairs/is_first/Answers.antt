use native.Mathlib.Omega.{arith}
use lib.ListN.{length}
use Rattle.chains.specs.Chains.{heads, word_at}
use Rattle.comparison.proofs.Partners.{before_low, before_on, is_fresh}
use Rattle.comparison.proofs.pairs.is_first.Goals as goal

pub find-requires : goal.find-requires
find-requires c =
    let n = c.args.numbers.now in
    let l = c.args.links.now in
    let f = word_at n.words.now n.from n.step in
    let h = heads (length l.words.now) l.count in
    let b = c.before-before.ensures.next f c.requires.1.1 in
    (c.requires.1.0, (c.requires.1.1, (omega (arith, before_low h f c.args.i c.word.result c.before-before.result c.word.ensures.0 b, c.requires.0, c.requires.1.0), before_on h f c.args.i c.word.result c.before-before.result c.word.ensures.0 b)))

pub returns : goal.returns
returns c =
    let n = c.args.numbers.now in
    let l = c.args.links.now in
    let f = word_at n.words.now n.from n.step in
    let h = heads (length l.words.now) l.count in
    is_fresh h f c.args.i c.word.result c.before-before.result c.word.ensures.0 (c.before-before.ensures.next f c.requires.1.1) c.find.result c.find.ensures c.is_none.result c.is_none.ensures

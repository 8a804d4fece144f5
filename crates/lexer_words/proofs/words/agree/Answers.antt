use native.Mathlib.Omega.{arith}
use mathlib.Core.Path.{refl}
use Rattle.lexer_words.proofs.Agreeing.{agree_begin, agree_short, agree_whole, agree_stop, agree_more}
use Rattle.lexer_words.proofs.words.agree.Goals as goal

pub loop-k-init : goal.loop-k-init
loop-k-init c = (omega arith, agree_begin c.args.s.now c.args.at c.args.low.now c.args.up.now)

pub returns-then-s-at : goal.returns-then-s-at
returns-then-s-at c = agree_short c.args.s.now c.args.at c.args.low.now c.args.up.now c.loop-k.k c.loop-k.invariant.1 c.if-s-at.true

pub returns-then-not-agrees : goal.returns-then-not-agrees
returns-then-not-agrees c = agree_stop c.args.s.now c.args.at c.args.low.now c.args.up.now c.loop-k.k c.loop-k.invariant.1 c.loop-k-test.true c.requires.1 c.if-s-at.false _ refl c.if-not-agrees.true

pub loop-k-preserved : goal.loop-k-preserved
loop-k-preserved c = (omega arith, agree_more c.args.s.now c.args.at c.args.low.now c.args.up.now c.loop-k.k c.loop-k.invariant.1 c.loop-k-test.true c.requires.1 c.if-s-at.false _ refl c.if-not-agrees.false)

pub returns : goal.returns
returns c = agree_whole c.args.s.now c.args.at c.args.low.now c.args.up.now c.loop-k.k c.loop-k.invariant.1 c.loop-k-test.false

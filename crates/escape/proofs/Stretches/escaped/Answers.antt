use mathlib.Core.Path.{refl, sym, ◌∙◌}
use native.Mathlib.Omega.{arith}
use borrow.Author.Rules.{rules}
use lib.ListN.{get_or}
use Rattle.text.proofs.Over.{rest_all}
use Rattle.escape.proofs.Walk.{alone_ends, letter_yields, number_walks, short_yields, long_yields}
use Rattle.escape.proofs.Stretches.escaped.Goals as goal

pub returns-then-s-lt2 : goal.returns-then-s-lt2
returns-then-s-lt2 c = λ e. rw e (alone_ends c.args.self.now.rest.now (omega arith) c.requires.1)

pub returns-in-117 : goal.returns-in-117
returns-in-117 c = λ e.
    let s = c.args.self.now.rest.now in
    number_walks s 117 (omega arith) c.requires.1 (sym c.in-117.is) 3 (short_yields s 117 (omega arith) c.requires.1 (sym c.in-117.is) refl) c.args.self.now c.numeric.new.self refl e c.numeric.result c.numeric.ensures

pub returns-in-85 : goal.returns-in-85
returns-in-85 c = λ e.
    let s = c.args.self.now.rest.now in
    number_walks s 85 (omega arith) c.requires.1 (sym c.in-85.is) 7 (long_yields s 85 (omega arith) c.requires.1 (sym c.in-85.is) refl) c.args.self.now c.numeric-in-85.new.self refl e c.numeric-in-85.result c.numeric-in-85.ensures

pub returns-in_default : goal.returns-in_default
returns-in_default c = λ e.
    let s = c.args.self.now.rest.now in
    (rw (e, rest_all s 2) (letter_yields s (get_or s 1 0) (omega arith) c.requires.1 refl (λ q. search rules) (λ q. search rules) c.wide.result (c.wide.ensures.0 ∙ c.letter_value.ensures)), refl)

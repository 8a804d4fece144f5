use mathlib.Core.Path.{◌∙◌}
use Rattle.std.proofs.Common.{Bool, ℕ, arith, rules, tests}
use Rattle.std.proofs.lemmas.Iterator.{YieldsList-from_range}
use Rattle.std.proofs.lemmas.Iterator.Search.{all_from_yields_List}
use Rattle.comparison.specs.Code.{with_terms}
use Rattle.usable.proofs.Each.{each_of}
use Rattle.chains.specs.Chains.{word_at}
use Rattle.comparison.specs.Comparison.{has_node, known}
use Rattle.comparison.proofs.pairs.is_known.Goals as goal

pub returns : goal.returns
unfolding known
returns c =
    let n = c.args.numbers.now in
    let test : ℕ → Bool = λ i. has_node (with_terms c.args.tables.now c.args.count) (word_at n.words.now n.from n.step i) in
    (all_from_yields_List test _ _ _ c.all.ensures.ran (YieldsList-from_range 0 n.count n.count (search rules) (omega arith)) (λ x b q k. search (rules, tests)) ∙ each_of test 0 n.count, c.link.ensures.0)

use Rattle.std.proofs.Common.{Bool, ℕ, ◌+◌, ◌∙◌, arith, rules, tests}
use Rattle.std.proofs.lemmas.Iterator.{YieldsList-from_range}
use Rattle.std.proofs.lemmas.Iterator.Search.{all_from_yields_List}
use Rattle.table.specs.Usable.{for_long_form, good_term}
use Rattle.usable.specs.Lent.{lent}
use Rattle.usable.proofs.Each.{each_of}
use Rattle.usable.proofs.entries.all_good.Goals as goal

pub returns : goal.returns
returns c =
    let s = lent c.args.tables.now.terms.now 0 c.args.tables.now.store.now c.args.used in
    let test : ℕ → Bool = good_term for_long_form s in
    all_from_yields_List test _ _ _ c.all.ensures.ran (YieldsList-from_range 1 (c.args.count + 1) c.args.count (search rules) (omega arith)) (λ x b q k. search (rules, tests)) ∙ each_of test 1 c.args.count

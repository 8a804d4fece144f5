use Rattle.std.proofs.Common.{Bool, ℕ, ◌∙◌, arith, rules, tests}
use Rattle.std.proofs.lemmas.Iterator.{YieldsList-from_range}
use Rattle.std.proofs.lemmas.Iterator.Search.{all_from_yields_List}
use Rattle.usable.specs.Lent.{row_test}
use Rattle.usable.proofs.Each.{each_of}
use Rattle.usable.proofs.rows.all_good.Goals as goal

pub returns : goal.returns
returns c =
    let test : ℕ → Bool = row_test c.args.tables.now.rows.now c.args.tables.now.terms.now c.args.count in
    all_from_yields_List test _ _ _ c.all.ensures.ran (YieldsList-from_range 0 c.args.row_count c.args.row_count (search rules) (omega arith)) (λ x b q k. search (rules, tests)) ∙ each_of test 0 c.args.row_count

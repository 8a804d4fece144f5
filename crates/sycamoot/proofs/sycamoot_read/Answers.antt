use mathlib.Core.Path.{refl, ◌∙◌}
use Rattle.reader.proofs.Counts.{rows_small, terms_small, store_small}
use Rattle.sycamoot.proofs.Modes.{same_mode}
use Rattle.sycamoot.proofs.sycamoot_read.Goals as goal

pub narrow-requires : goal.narrow-requires
narrow-requires c = rows_small _ _ _ _ _ _ c.in-Ok.ensures

pub narrow-requires-in-Ok : goal.narrow-requires-in-Ok
narrow-requires-in-Ok c = terms_small _ _ _ _ _ _ c.in-Ok.ensures

pub narrow-requires-in-Ok-2 : goal.narrow-requires-in-Ok-2
narrow-requires-in-Ok-2 c = store_small _ _ _ _ _ _ c.in-Ok.ensures

pub returns-in-Ok : goal.returns-in-Ok
returns-in-Ok c = let g = same_mode _ _ _ _ _ _ _ c.byte_mode-known.ensures c.in-Ok.ensures in
    record {
      number = g.number;
      position = g.position;
      row_count = c.narrow.ensures ∙ g.row_count;
      term_count = c.narrow-in-Ok.ensures ∙ g.term_count;
      store_count = c.narrow-in-Ok-2.ensures ∙ g.store_count;
      work = g.work;
      rows = g.rows;
      terms = g.terms;
      store = g.store;
    }

pub returns-in-Err : goal.returns-in-Err
returns-in-Err c = let g = same_mode _ _ _ _ _ _ _ c.byte_mode-known.ensures c.in-Err.ensures in
    record {
      number = c.number_of.ensures ∙ g.number;
      position = g.position;
      row_count = g.row_count;
      term_count = g.term_count;
      store_count = g.store_count;
      work = g.work;
      rows = g.rows;
      terms = g.terms;
      store = g.store;
    }

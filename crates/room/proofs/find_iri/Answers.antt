use lib.ListN.{take, drop}
use Prim.Native.Nat.{◌-◌}
use Rattle.spelling.specs.Form.{joined}
use Rattle.dataset.specs.Terms.{iri}
use mathlib.Core.Path.{refl}
use Rattle.terms.specs.Keeps.{Means}
use Rattle.term_tree.proofs.Indexes.{searchable}
use Rattle.room.proofs.find_iri.Goals as goal

pub find_name-requires : goal.find_name-requires
find_name-requires c = (record { size = c.requires.0.0; order = c.requires.1.0; inside = c.requires.1.1 }, searchable c.requires.0.1.0 _ _ _ _ c.requires.0.1.1)

pub returns : goal.returns
unfolding Means
returns c = (λ ts H. c.find_name.ensures.0 ts (iri (joined (take (c.args.end - c.args.start) (drop c.args.start c.args.work.now)) c.args.form c.args.back.now)) H (refl, (refl, refl)) refl, c.find_name.ensures.1)

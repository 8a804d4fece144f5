use mathlib.Core.Path.{refl}
use Rattle.look_up.specs.Record.{rows}
use Rattle.subject_index.proofs.Building.{put_law}
use Rattle.subject_index.proofs.put_record.Goals as goal

pub returns : goal.returns
returns c = put_law c.args.text.now (rows c.args.count c.args.first) _ _ _ _ _ _ _ _ c.head_of-head.ensures refl c.copy.ensures refl refl c.copy-2.ensures

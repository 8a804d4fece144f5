use mathlib.Core.Path.{refl}
use Rattle.reader.proofs.Start.{can_seek, started, lasts}
use Rattle.reader.proofs.prepare.Goals as goal

pub seek-requires : goal.seek-requires
seek-requires c = can_seek c.requires.0 (c.fill.ensures.after (λ y e. e)) c.requires.1 c.set_base.ensures

pub returns : goal.returns
returns c = record {
  same = lasts c.requires.0 (c.fill.ensures.after (λ y e. e)) c.requires.1 c.set_base.ensures c.args.held.now refl refl _ c.seek.ensures;
  started = started c.requires.0 (c.fill.ensures.after (λ y e. e)) c.requires.1 c.set_base.ensures _ c.seek.ensures;
  tables = (refl, (refl, refl));
}

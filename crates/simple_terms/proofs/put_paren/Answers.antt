use Rattle.std.proofs.Common.{refl, ap, sym, arith}
use Rattle.token.specs.Kind.{kind_of_code}
use Rattle.state.specs.Writes.{opened_at}
use Rattle.limits.proofs.Errors.{handed_on, numbered}
use Rattle.simple_terms.proofs.Refusing.{shallow}
use Rattle.simple_terms.proofs.Writing.{spot_fits, aimed_put}
use Rattle.simple_terms.proofs.Leaving.{put_ready, still_there, open_deep, plain_refused, plain_done, below_stays, opening_depth}
use Rattle.simple_terms.proofs.put_paren.Goals as goal

pub returns-then-held-ge-DEPTH : goal.returns-then-held-ge-DEPTH
returns-then-held-ge-DEPTH c = let a = c.args.held.now in let doc = c.args.doc.now in (open_deep doc _ a 24 c.requires.1 (record { escapes = refl; reference = refl; name = refl }) refl c.if-held-ge-DEPTH.true).does

pub open-requires : goal.open-requires
open-requires c = let a = c.args.held.now in let doc = c.args.doc.now in let p = put_ready doc a c.requires.0.0 c.requires.0.1 in (p.holds, spot_fits a.st _ c.spot_here-spot.ensures p.fits)

pub returns-in_err-open : goal.returns-in_err-open
returns-in_err-open c = let a = c.args.held.now in let doc = c.args.doc.now in rw (handed_on _ _ c.from_residual.ensures) (plain_refused doc _ a 24 c.requires.1 (record { escapes = refl; reference = refl; name = refl }) _ _ _ _ _ _ (shallow _ _ 24 (ap kind_of_code c.requires.1) refl c.if-held-ge-DEPTH.false) (aimed_put a.st _ c.spot_here-spot.ensures opened_at _ _ _ _ _ _ c.in_err-open.ensures) c.open.auto.work c.open.auto.rows c.open.auto.terms c.open.auto.store (numbered _)).does

pub deepen-requires : goal.deepen-requires
deepen-requires c = let a = c.args.held.now in let doc = c.args.doc.now in let s = c.open.new.st in let t = still_there doc a c.requires.0.0 24 c.requires.1 (omega arith) (omega arith) s c.open.ensures.stays c.open.ensures.words in (t.0, (t.1, below_stays a.st s c.open.ensures.stays c.if-held-ge-DEPTH.false))

pub returns : goal.returns
returns c = let a = c.args.held.now in let doc = c.args.doc.now in (plain_done doc _ a 24 c.requires.1 (record { escapes = refl; reference = refl; name = refl }) _ _ _ _ _ _ (shallow _ _ 24 (ap kind_of_code c.requires.1) refl c.if-held-ge-DEPTH.false) (aimed_put a.st _ c.spot_here-spot.ensures opened_at _ _ _ _ _ _ c.in_ok-open.ensures) c.open.auto.work c.open.auto.rows c.open.auto.terms c.open.auto.store refl _ _ c.deepen.ensures (opening_depth doc a 24 c.requires.1 refl c.open.new.st c.open.ensures.stays)).does

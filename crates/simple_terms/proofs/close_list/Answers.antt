use Rattle.limits.proofs.Errors.{handed_on, numbered}
use mathlib.Core.Path.{refl, ap}
use native.Mathlib.Omega.{arith}
use Rattle.token.specs.Kind.{kind_of_code}
use Rattle.state.specs.Writes.{closed}
use Rattle.simple_terms.proofs.Refusing.{flat}
use Rattle.simple_terms.proofs.Writing.{spot_fits, aimed_put}
use Rattle.simple_terms.proofs.Leaving.{put_ready, still_there, plain_refused, plain_done, above_stays, closing_depth, closes}
use Rattle.simple_terms.proofs.close_list.Goals as goal

pub close-requires : goal.close-requires
close-requires c = let a = c.args.held.now in let doc = c.args.doc.now in let p = put_ready doc a c.requires.0.0 c.requires.0.1 in (p.holds, spot_fits a.st _ c.spot_here-spot.ensures p.fits)

pub returns-in_err-close : goal.returns-in_err-close
returns-in_err-close c = let a = c.args.held.now in let doc = c.args.doc.now in rw (handed_on _ _ c.from_residual.ensures) (closes doc a c.requires.0.0 _ _ (plain_refused doc _ a 25 c.requires.1.0 (record { escapes = refl; reference = refl; name = refl }) _ _ _ _ _ _ (flat _ _ 25 (ap kind_of_code c.requires.1.0) refl) (aimed_put a.st _ c.spot_here-spot.ensures closed _ _ _ _ _ _ c.in_err-close.ensures) c.close.auto.work c.close.auto.rows c.close.auto.terms c.close.auto.store (numbered _)))

pub leave-requires : goal.leave-requires
leave-requires c = let a = c.args.held.now in let doc = c.args.doc.now in let s = c.close.new.st in let t = still_there doc a c.requires.0.0 25 c.requires.1.0 (omega arith) (omega arith) s c.close.ensures.stays c.close.ensures.words in (t.0, (t.1, above_stays a.st s c.close.ensures.stays c.requires.1.1))

pub returns : goal.returns
returns c = let a = c.args.held.now in let doc = c.args.doc.now in closes doc a c.requires.0.0 _ _ (plain_done doc _ a 25 c.requires.1.0 (record { escapes = refl; reference = refl; name = refl }) _ _ _ _ _ _ (flat _ _ 25 (ap kind_of_code c.requires.1.0) refl) (aimed_put a.st _ c.spot_here-spot.ensures closed _ _ _ _ _ _ c.in_ok-close.ensures) c.close.auto.work c.close.auto.rows c.close.auto.terms c.close.auto.store refl _ _ c.leave.ensures (closing_depth doc a 25 c.requires.1.0 refl refl c.close.new.st c.in_ok-close.ensures.stays))

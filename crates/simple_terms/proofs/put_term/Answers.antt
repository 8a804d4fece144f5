use mathlib.Core.Path.{refl}
use Rattle.limits.proofs.Errors.{handed_on, numbered}
use Rattle.simulation.specs.Simulation.{here}
use Rattle.simple_terms.proofs.Numbering.{placed_positive}
use Rattle.simple_terms.proofs.Terms.{term_some, term_readable, rule_positive}
use Rattle.simple_terms.proofs.Leaving.{put_ready, numbers, put_refused, put_done, term_still, term_depth_here}
use Rattle.simple_terms.proofs.put_term.Goals as goal

pub place_term-requires : goal.place_term-requires
place_term-requires c = let a = c.args.held.now in let doc = c.args.doc.now in let r = c.requires.0.0 in let h = c.requires.1 in (put_ready doc a r c.requires.0.1, ((r.cursor, r.cursor.token (term_some _ h) (term_readable _ h)), h))

pub returns-in_err-place_term : goal.returns-in_err-place_term
returns-in_err-place_term c = λ v g. let a = c.args.held.now in let doc = c.args.doc.now in rw (handed_on _ _ c.from_residual.ensures) (numbers doc a c.requires.0.0 _ _ _ (placed_positive _ v (rule_positive (here doc a) (here doc a).kind v g)) (put_refused doc _ a _ _ _ _ _ _ (c.in_err-place_term.ensures v g) c.place_term.auto.work c.place_term.auto.rows c.place_term.auto.terms c.place_term.auto.store (numbered _)))

pub pass-requires : goal.pass-requires
pass-requires c = let a = c.args.held.now in let doc = c.args.doc.now in term_still doc a c.requires.0.0 c.requires.1 _ _ c.place_term.new.st _ c.place_term.ensures

pub returns : goal.returns
returns c = λ v g. let a = c.args.held.now in let doc = c.args.doc.now in numbers doc a c.requires.0.0 _ _ _ (placed_positive _ v (rule_positive (here doc a) (here doc a).kind v g)) (put_done doc _ a _ _ _ _ _ _ (c.in_ok-place_term.ensures v g) c.place_term.auto.work c.place_term.auto.rows c.place_term.auto.terms c.place_term.auto.store refl _ _ c.pass.ensures (term_depth_here doc a c.requires.0.0 c.requires.1 _ _ c.place_term.new.st _ c.in_ok-place_term.ensures))

use Rattle.limits.proofs.Errors.{handed_on, numbered}
use mathlib.Core.Path.{refl, ap}
use native.Mathlib.Omega.{arith}
use Rattle.token.specs.Kind.{kind_of_code}
use Rattle.simple_terms.proofs.Refusing.{shallow}
use Rattle.simple_terms.proofs.Numbering.{bracket_positive}
use Rattle.simple_terms.proofs.Leaving.{put_ready, numbers, still_there, open_deep, plain_refused, plain_done, below_stays, opening_depth}
use Rattle.simple_terms.proofs.put_bracket.Goals as goal

pub returns-then-held-ge-DEPTH : goal.returns-then-held-ge-DEPTH
returns-then-held-ge-DEPTH c = let a = c.args.held.now in let doc = c.args.doc.now in numbers doc a c.requires.0.0 _ a 13 (bracket_positive _ _) (open_deep doc _ a 22 c.requires.1 (record { escapes = refl; reference = refl; name = refl }) refl c.if-held-ge-DEPTH.true)

pub place_bracket-requires : goal.place_bracket-requires
place_bracket-requires c = let a = c.args.held.now in let doc = c.args.doc.now in put_ready doc a c.requires.0.0 c.requires.0.1

pub returns-in_err-place_bracket : goal.returns-in_err-place_bracket
returns-in_err-place_bracket c = let a = c.args.held.now in let doc = c.args.doc.now in rw (handed_on _ _ c.from_residual.ensures) (numbers doc a c.requires.0.0 _ _ _ (bracket_positive _ _) (plain_refused doc _ a 22 c.requires.1 (record { escapes = refl; reference = refl; name = refl }) _ _ _ _ _ _ (shallow _ _ 22 (ap kind_of_code c.requires.1) refl c.if-held-ge-DEPTH.false) c.in_err-place_bracket.ensures c.place_bracket.auto.work c.place_bracket.auto.rows c.place_bracket.auto.terms c.place_bracket.auto.store (numbered _)))

pub deepen-requires : goal.deepen-requires
deepen-requires c = let a = c.args.held.now in let doc = c.args.doc.now in let s = c.place_bracket.new.st in let t = still_there doc a c.requires.0.0 22 c.requires.1 (omega arith) (omega arith) s c.place_bracket.ensures.stays c.place_bracket.ensures.words in (t.0, (t.1, below_stays a.st s c.place_bracket.ensures.stays c.if-held-ge-DEPTH.false))

pub returns : goal.returns
returns c = let a = c.args.held.now in let doc = c.args.doc.now in numbers doc a c.requires.0.0 _ _ _ (bracket_positive _ _) (plain_done doc _ a 22 c.requires.1 (record { escapes = refl; reference = refl; name = refl }) _ _ _ _ _ _ (shallow _ _ 22 (ap kind_of_code c.requires.1) refl c.if-held-ge-DEPTH.false) c.in_ok-place_bracket.ensures c.place_bracket.auto.work c.place_bracket.auto.rows c.place_bracket.auto.terms c.place_bracket.auto.store refl _ _ c.deepen.ensures (opening_depth doc a 22 c.requires.1 refl c.place_bracket.new.st c.in_ok-place_bracket.ensures.stays))

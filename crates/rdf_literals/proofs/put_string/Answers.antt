use mathlib.Core.Path.{refl}
use Rattle.limits.proofs.Errors.{handed_on, numbered}
use mathlib.Core.Path.{sym, ◌∙◌}
use Rattle.rdf_literals.proofs.Whole.{string_bad, string_pass, plain_call, string_plain, own_call, place_call, string_stop, suffix_call, string_suffix}
use Rattle.rdf_literals.proofs.put_string.Goals as goal

pub returns-then-is_bad : goal.returns-then-is_bad
returns-then-is_bad c = string_bad c.args.doc.now c.args.held.now c.requires.0.0 c.requires.1 (sym c.is_bad.ensures ∙ c.if-is_bad.true)

pub pass-requires : goal.pass-requires
pass-requires c = string_pass c.args.doc.now c.args.held.now c.requires.0.0 c.requires.1

pub put_plain-requires : goal.put_plain-requires
put_plain-requires c = plain_call c.args.doc.now c.args.held.now.work c.args.held.now.rows c.args.held.now.terms c.args.held.now.store c.args.held.now.st _ c.requires.0.0 c.requires.1 (sym c.is_bad.ensures ∙ c.if-is_bad.false) c.pass.ensures _ c.quotes_of-quotes.ensures c.requires.0.1

pub returns-then-not-is_tie : goal.returns-then-not-is_tie
returns-then-not-is_tie c = string_plain c.args.doc.now c.args.held.now.work c.args.held.now.rows c.args.held.now.terms c.args.held.now.store c.args.held.now.st _ c.requires.0.0 c.requires.1 (sym c.is_bad.ensures ∙ c.if-is_bad.false) c.pass.ensures _ c.quotes_of-quotes.ensures _ _ (sym c.is_tie.ensures ∙ c.if-not-is_tie.true) c.put_plain.ensures

pub own_x-x-requires : goal.own_x-x-requires
own_x-x-requires c = own_call c.args.doc.now c.args.held.now.work c.args.held.now.rows c.args.held.now.terms c.args.held.now.store c.args.held.now.st _ c.requires.0.0 c.requires.1 (sym c.is_bad.ensures ∙ c.if-is_bad.false) c.pass.ensures

pub put_place-requires : goal.put_place-requires
put_place-requires c = place_call c.args.doc.now c.args.held.now.work c.args.held.now.rows c.args.held.now.terms c.args.held.now.store c.args.held.now.st _ c.requires.0.0 c.requires.1 (sym c.is_bad.ensures ∙ c.if-is_bad.false) c.pass.ensures c.requires.0.1

pub returns-in_err-put_place : goal.returns-in_err-put_place
returns-in_err-put_place c = rw (handed_on _ _ c.from_residual.ensures) (string_stop c.args.doc.now c.args.held.now.work c.args.held.now.rows c.args.held.now.terms c.args.held.now.store c.args.held.now.st _ c.requires.0.0 c.requires.1 (sym c.is_bad.ensures ∙ c.if-is_bad.false) c.pass.ensures (sym c.is_tie.ensures ∙ c.if-not-is_tie.false) _ _ c.in_err-put_place.ensures (numbered _))

pub put_suffix-requires : goal.put_suffix-requires
put_suffix-requires c = suffix_call c.args.doc.now c.args.held.now.work c.args.held.now.rows c.args.held.now.terms c.args.held.now.store c.args.held.now.st _ c.requires.0.0 c.requires.1 (sym c.is_bad.ensures ∙ c.if-is_bad.false) c.pass.ensures (sym c.is_tie.ensures ∙ c.if-not-is_tie.false) _ _ c.in_ok-put_place.ensures refl _ _ c.own_x-x.ensures c.own_y-y.ensures _ c.quotes_of-quotes.ensures c.requires.0.1

pub returns : goal.returns
returns c = string_suffix c.args.doc.now c.args.held.now.work c.args.held.now.rows c.args.held.now.terms c.args.held.now.store c.args.held.now.st _ c.requires.0.0 c.requires.1 (sym c.is_bad.ensures ∙ c.if-is_bad.false) c.pass.ensures (sym c.is_tie.ensures ∙ c.if-not-is_tie.false) _ _ c.in_ok-put_place.ensures refl _ _ c.own_x-x.ensures c.own_y-y.ensures _ c.quotes_of-quotes.ensures _ _ c.put_suffix.ensures

use Rattle.std.proofs.Common.{◌+◌, ◌<◌, length, Ok, ap, rules, tests}
use mathlib.Core.Path.{sym, ◌∙◌}
use Rattle.text.proofs.Over.{rest_all}
use Rattle.limits.specs.Limits.{iri_limit}
use Rattle.look_up.specs.Record.{Rows}
use Rattle.look_up.specs.Code.{prior}
use Rattle.look_up.proofs.Stops.{starts, ends, stops_broken, stops_fallen, stops_here, next_in, goes_on}
use Rattle.look_up.proofs.look_up.Goals as goal

pub loop-before-init : goal.loop-before-init
loop-before-init c = starts iri_limit c.args.address.now c.args.index.now

pub returns-then-not-is_record : goal.returns-then-not-is_record
returns-then-not-is_record c =
    let some : 0 < length c.loop-before.rest.now = search (rules, tests) in
    stops_broken iri_limit c.args.address.now (prior c.loop-before.before) c.loop-before.rest.now some (sym c.is_record.ensures ∙ c.if-not-is_record.true) ∙ sym c.loop-before.invariant

pub text_of-text-requires : goal.text_of-text-requires
text_of-text-requires c = sym c.is_record.ensures ∙ c.if-not-is_record.false

pub returns-then-not-has_risen : goal.returns-then-not-has_risen
returns-then-not-has_risen c =
    let some : 0 < length c.loop-before.rest.now = search (rules, tests) in
    stops_fallen iri_limit c.args.address.now (prior c.loop-before.before) c.loop-before.rest.now some (sym c.is_record.ensures ∙ c.if-not-is_record.false) c.text_of-text.result.now c.text_of-text.ensures (sym c.has_risen.ensures ∙ c.if-not-has_risen.true)
    ∙ sym c.loop-before.invariant

pub stop-requires : goal.stop-requires
stop-requires c = sym c.is_record.ensures ∙ c.if-not-is_record.false

pub returns-then-not-smaller : goal.returns-then-not-smaller
returns-then-not-smaller c =
    let some : 0 < length c.loop-before.rest.now = search (rules, tests) in
    ap (λ (r : Rows). Ok r) c.stop.ensures
    ∙ stops_here iri_limit c.args.address.now (prior c.loop-before.before) c.loop-before.rest.now some (sym c.is_record.ensures ∙ c.if-not-is_record.false) c.text_of-text.result.now c.text_of-text.ensures (sym c.has_risen.ensures ∙ c.if-not-has_risen.false) (sym c.smaller.ensures ∙ c.if-not-smaller.true)
    ∙ sym c.loop-before.invariant

pub slice_bounds-rest-count : goal.slice_bounds-rest-count
slice_bounds-rest-count c =
    let some : 0 < length c.loop-before.rest.now = search (rules, tests) in
    next_in iri_limit c.args.address.now (prior c.loop-before.before) c.loop-before.rest.now some (sym c.is_record.ensures ∙ c.if-not-is_record.false) c.text_of-text.result.now c.text_of-text.ensures

pub slice_bounds-rest-start : goal.slice_bounds-rest-start
slice_bounds-rest-start c =
    let some : 0 < length c.loop-before.rest.now = search (rules, tests) in
    next_in iri_limit c.args.address.now (prior c.loop-before.before) c.loop-before.rest.now some (sym c.is_record.ensures ∙ c.if-not-is_record.false) c.text_of-text.result.now c.text_of-text.ensures

pub loop-before-preserved : goal.loop-before-preserved
loop-before-preserved c =
    let some : 0 < length c.loop-before.rest.now = search (rules, tests) in
    let next = goes_on iri_limit c.args.address.now (prior c.loop-before.before) c.loop-before.rest.now some (sym c.is_record.ensures ∙ c.if-not-is_record.false) c.text_of-text.result.now c.text_of-text.ensures (sym c.has_risen.ensures ∙ c.if-not-has_risen.false) (sym c.smaller.ensures ∙ c.if-not-smaller.false) in
    rw (rest_all c.loop-before.rest.now (12 + length c.text_of-text.result.now)) (c.loop-before.invariant ∙ next)

pub returns : goal.returns
returns c = ends iri_limit c.args.address.now (prior c.loop-before.before) c.loop-before.rest.now (search (rules, tests)) ∙ sym c.loop-before.invariant

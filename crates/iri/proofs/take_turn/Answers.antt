-- Each step is the rule's that the rest of the path asks for.
use native.Mathlib.Omega.{arith}
use Rattle.iri.specs.declared.Rule.TheVariants.{UpSlash, HereSlash, SlashHere, SlashUp}
use Rattle.iri.proofs.Buffer.{long, turned_up, turned_here, turned_stay, turned_stay_end, turned_dots, turned_back, turned_back_end, turned_segment, segment_fits}
use borrow.Author.Rules.{rules}
use Rattle.iri.proofs.take_turn.Goals as goal

pub overflow_add-result : goal.overflow_add-result
overflow_add-result c = let h = long c.args.b.now c.args.at c.args.end c.args.w (omega arith) (omega arith) (omega arith) c.next_rule-r.result c.next_rule-r.ensures UpSlash c.in-UpSlash.is in search rules

pub overflow_add-result-in-HereSlash : goal.overflow_add-result-in-HereSlash
overflow_add-result-in-HereSlash c = let h = long c.args.b.now c.args.at c.args.end c.args.w (omega arith) (omega arith) (omega arith) c.next_rule-r.result c.next_rule-r.ensures HereSlash c.in-HereSlash.is in search rules

pub overflow_add-result-in-SlashHere : goal.overflow_add-result-in-SlashHere
overflow_add-result-in-SlashHere c = let h = long c.args.b.now c.args.at c.args.end c.args.w (omega arith) (omega arith) (omega arith) c.next_rule-r.result c.next_rule-r.ensures SlashHere c.in-SlashHere.is in search rules

pub overflow_add-result-in-SlashUp : goal.overflow_add-result-in-SlashUp
overflow_add-result-in-SlashUp c = let h = long c.args.b.now c.args.at c.args.end c.args.w (omega arith) (omega arith) (omega arith) c.next_rule-r.result c.next_rule-r.ensures SlashUp c.in-SlashUp.is in search rules

pub cut-requires : goal.cut-requires
cut-requires c = omega arith

pub cut-requires-in-SlashUpEnd : goal.cut-requires-in-SlashUpEnd
cut-requires-in-SlashUpEnd c = omega arith

pub shift-n-requires : goal.shift-n-requires
shift-n-requires c = (omega arith, (omega arith, omega arith))

pub overflow_add-result-in-Segment : goal.overflow_add-result-in-Segment
overflow_add-result-in-Segment c = let h = segment_fits c.args.b.now c.args.at c.args.end c.args.w (omega arith) (omega arith) (omega arith) c.next_rule-r.result c.next_rule-r.ensures c.shift-n.result c.shift-n.ensures.0 in search rules

pub overflow_add-result-in-Segment-2 : goal.overflow_add-result-in-Segment-2
overflow_add-result-in-Segment-2 c = let h = segment_fits c.args.b.now c.args.at c.args.end c.args.w (omega arith) (omega arith) (omega arith) c.next_rule-r.result c.next_rule-r.ensures c.shift-n.result c.shift-n.ensures.0 in search rules

pub returns-in-UpSlash : goal.returns-in-UpSlash
returns-in-UpSlash c = turned_up c.args.b.now c.args.at c.args.end c.args.w (omega arith) (omega arith) (omega arith) c.next_rule-r.result c.next_rule-r.ensures c.in-UpSlash.is

pub returns-in-HereSlash : goal.returns-in-HereSlash
returns-in-HereSlash c = turned_here c.args.b.now c.args.at c.args.end c.args.w (omega arith) (omega arith) (omega arith) c.next_rule-r.result c.next_rule-r.ensures c.in-HereSlash.is

pub returns-in-SlashHere : goal.returns-in-SlashHere
returns-in-SlashHere c = turned_stay c.args.b.now c.args.at c.args.end c.args.w (omega arith) (omega arith) (omega arith) c.next_rule-r.result c.next_rule-r.ensures c.in-SlashHere.is

pub returns-in-SlashHereEnd : goal.returns-in-SlashHereEnd
returns-in-SlashHereEnd c = turned_stay_end c.args.b.now c.args.at c.args.end c.args.w (omega arith) (omega arith) (omega arith) c.next_rule-r.result c.next_rule-r.ensures c.in-SlashHereEnd.is

pub returns-in-SlashUp : goal.returns-in-SlashUp
returns-in-SlashUp c = turned_back c.args.b.now c.args.at c.args.end c.args.w (omega arith) (omega arith) (omega arith) c.next_rule-r.result c.next_rule-r.ensures c.cut.result c.cut.ensures c.in-SlashUp.is

pub returns-in-SlashUpEnd : goal.returns-in-SlashUpEnd
returns-in-SlashUpEnd c = turned_back_end c.args.b.now c.args.at c.args.end c.args.w (omega arith) (omega arith) (omega arith) c.next_rule-r.result c.next_rule-r.ensures c.cut-in-SlashUpEnd.result c.cut-in-SlashUpEnd.ensures c.in-SlashUpEnd.is

pub returns-in-Dots : goal.returns-in-Dots
returns-in-Dots c = turned_dots c.args.b.now c.args.at c.args.end c.args.w (omega arith) (omega arith) (omega arith) c.next_rule-r.result c.next_rule-r.ensures c.in-Dots.is

pub returns-in-Segment : goal.returns-in-Segment
returns-in-Segment c = turned_segment c.args.b.now c.args.at c.args.end c.args.w (omega arith) (omega arith) (omega arith) c.next_rule-r.result c.next_rule-r.ensures c.shift-n.result c.shift-n.ensures.0 c.in-Segment.is _ c.shift-n.ensures.1

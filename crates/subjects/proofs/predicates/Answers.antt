use mathlib.Core.Path.{sym, ◌∙◌}
use Rattle.nesting.proofs.Aiming.{unexpected_call}
use Rattle.subjects.proofs.OfPredicates.{predicates_there, predicates_alone, predicates_none}
use Rattle.subjects.proofs.predicates.Goals as goal

pub properties-requires : goal.properties-requires
properties-requires c = ((c.requires.0.0, c.requires.0.1), (c.requires.1, sym c.is_verb.ensures ∙ c.if-is_verb.true))

pub returns-then-is_verb : goal.returns-then-is_verb
returns-then-is_verb c = predicates_there _ _ c.requires.0.0 _ _ (sym c.is_verb.ensures ∙ c.if-is_verb.true) c.properties.ensures

pub returns-then-held-eq2 : goal.returns-then-held-eq2
returns-then-held-eq2 c = predicates_alone _ _ c.requires.0.0 (sym c.is_verb.ensures ∙ c.if-is_verb.false) c.if-held-eq2.true

pub unexpected-requires : goal.unexpected-requires
unexpected-requires c = unexpected_call _ c.args.held.now c.requires.0.0

pub returns : goal.returns
returns c = predicates_none _ _ c.requires.0.0 _ (sym c.is_verb.ensures ∙ c.if-is_verb.false) c.if-held-eq2.false c.unexpected.ensures

use mathlib.Core.Path.{refl}
use Rattle.directives.proofs.Calling.{able_ready, able_passed, pass_call, keyword_some, keyword_read, keyword_last}
use Rattle.directives.proofs.Parts.{directs, at_prefix_keyword, prefix_keyword, at_base_keyword, base_keyword}
use Rattle.directives.proofs.directive.Goals as goal

pub pass-requires : goal.pass-requires
pass-requires c = pass_call _ _ _ (able_ready _ _ _ _ _ _ c.requires.0) _ refl (keyword_some _ c.requires.1) (keyword_read _ c.requires.1)

pub prefix_part-requires : goal.prefix_part-requires
prefix_part-requires c = able_passed _ _ _ _ _ _ (able_ready _ _ _ _ _ _ c.requires.0) c.pass.ensures

pub returns-then-kind-eq-AT_PREFIX : goal.returns-then-kind-eq-AT_PREFIX
returns-then-kind-eq-AT_PREFIX c = directs _ _ _ _ _ _ c.requires.0 _ _ at_prefix_keyword c.if-kind-eq-AT_PREFIX.true _ c.pass.ensures _ _ _ c.prefix_part.ensures

pub prefix_part-requires-then-kind-eq-PREFIX : goal.prefix_part-requires-then-kind-eq-PREFIX
prefix_part-requires-then-kind-eq-PREFIX c = able_passed _ _ _ _ _ _ (able_ready _ _ _ _ _ _ c.requires.0) c.pass.ensures

pub returns-then-kind-eq-PREFIX : goal.returns-then-kind-eq-PREFIX
returns-then-kind-eq-PREFIX c = directs _ _ _ _ _ _ c.requires.0 _ _ prefix_keyword c.if-kind-eq-PREFIX.true _ c.pass.ensures _ _ _ c.prefix_part-then-kind-eq-PREFIX.ensures

pub base_part-requires : goal.base_part-requires
base_part-requires c = able_passed _ _ _ _ _ _ (able_ready _ _ _ _ _ _ c.requires.0) c.pass.ensures

pub returns-then-kind-eq-AT_BASE : goal.returns-then-kind-eq-AT_BASE
returns-then-kind-eq-AT_BASE c = directs _ _ _ _ _ _ c.requires.0 _ _ at_base_keyword c.if-kind-eq-AT_BASE.true _ c.pass.ensures _ _ _ c.base_part.ensures

pub base_part-requires-2 : goal.base_part-requires-2
base_part-requires-2 c = able_passed _ _ _ _ _ _ (able_ready _ _ _ _ _ _ c.requires.0) c.pass.ensures

pub returns : goal.returns
returns c = directs _ _ _ _ _ _ c.requires.0 _ _ base_keyword (keyword_last _ c.requires.1 c.if-kind-eq-AT_PREFIX.false c.if-kind-eq-PREFIX.false c.if-kind-eq-AT_BASE.false) _ c.pass.ensures _ _ _ c.base_part-2.ensures

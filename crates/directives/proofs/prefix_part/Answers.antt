use native.Mathlib.Omega.{arith}
use Rattle.directives.proofs.Calling.{pass_call, able_passed, prefix_fits}
use Rattle.directives.proofs.Parts.{name_none, name_long, name_done}
use Rattle.directives.proofs.prefix_part.Goals as goal

pub returns-then-st-ne-PNAME_NS : goal.returns-then-st-ne-PNAME_NS
returns-then-st-ne-PNAME_NS c = search name_none

pub returns-then-n-gt-PREFIX : goal.returns-then-n-gt-PREFIX
returns-then-n-gt-PREFIX c = search name_long

pub pass-requires : goal.pass-requires
pass-requires c = pass_call _ _ _ c.requires 2 c.if-st-ne-PNAME_NS.false (λ z. omega arith) (λ z. omega arith)

pub namespace_part-requires : goal.namespace_part-requires
namespace_part-requires c = (able_passed _ _ _ _ _ _ c.requires c.pass.ensures, prefix_fits _ _ _ _ c.requires.cursor.inside c.prefix_length-n.ensures c.if-n-gt-PREFIX.false)

pub returns : goal.returns
returns c = search name_done

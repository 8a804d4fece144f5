use mathlib.Core.Path.{refl, sym, ◌∙◌}
use native.Mathlib.Omega.{arith}
use Rattle.iri.proofs.Places.{window_past}
use Rattle.iri.proofs.Buffer.{rule_read}
use Rattle.iri.proofs.next_rule.Goals as goal

pub which-requires : goal.which-requires
which-requires c = λ e. c.peek-c1.ensures ∙ sym (window_past c.args.b.now c.args.at c.args.end 1 (omega arith) (omega arith))

pub returns : goal.returns
returns c = rule_read c.args.b.now c.args.at c.args.end _ _ _ _ _ _ (omega arith) refl c.peek-c0.ensures c.peek-c1.ensures c.peek-c2.ensures c.peek-c3.ensures c.which.ensures

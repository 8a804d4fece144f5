use mathlib.Core.Path.{refl, sym, ◌∙◌}
use Rattle.token_iri.proofs.Directives.{base_refused_bad}
use Rattle.token_iri.proofs.declare_base.Goals as goal

pub returns-then-has_bad_escape : goal.returns-then-has_bad_escape
returns-then-has_bad_escape c = base_refused_bad c.args.token.now c.args.work.now c.args.st.now c.has_bad_escape.result c.has_bad_escape.ensures c.if-has_bad_escape.true

pub set_written-requires : goal.set_written-requires
set_written-requires c = (refl, (record { begun = c.requires.0; good = sym c.has_bad_escape.ensures ∙ c.if-has_bad_escape.false }, c.requires.1))

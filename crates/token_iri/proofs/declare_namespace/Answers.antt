use mathlib.Core.Path.{refl, sym, ◌∙◌}
use Rattle.token_iri.proofs.Directives.{namespace_refused_bad}
use Rattle.token_iri.proofs.declare_namespace.Goals as goal

pub returns-then-has_bad_escape : goal.returns-then-has_bad_escape
returns-then-has_bad_escape c = namespace_refused_bad c.args.token.now c.args.work.now c.args.st.now c.has_bad_escape.result c.has_bad_escape.ensures c.if-has_bad_escape.true c.args.prefix.now

pub declare_written-requires : goal.declare_written-requires
declare_written-requires c = (refl, (c.requires.1.0, (record { begun = c.requires.0; good = sym c.has_bad_escape.ensures ∙ c.if-has_bad_escape.false }, c.requires.1.1)))

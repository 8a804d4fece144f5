use Rattle.token_iri.proofs.Answers.{plain_scheme}
use Rattle.token_iri.proofs.with_scheme.Goals as goal

pub returns-in-Plain : goal.returns-in-Plain
returns-in-Plain c = plain_scheme c.args.form c.args.text.now c.has_scheme.result c.in-Plain.is c.has_scheme.ensures c.requires

use Rattle.rdf_literals.proofs.Quotes.{inside_none, inside_some}
use Rattle.rdf_literals.proofs.inside.Goals as goal

pub returns-then-token-quotes : goal.returns-then-token-quotes
returns-then-token-quotes c = search inside_none

pub returns : goal.returns
returns c = search inside_some

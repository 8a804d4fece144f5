-- `comment_end` meets its contract.
use Rattle.lexer.proofs.Blanking.{comment_next}
use Rattle.lexer.proofs.comment_end.Goals as goal

pub returns : goal.returns
returns c = comment_next c.args.s.now c.args.at c.next_of_four.result c.requires c.next_of_four.ensures.0 c.next_of_four.ensures.1.0 c.next_of_four.ensures.1.1

use Rattle.cursor.specs.Code.{put_token}
use borrow.Author.Rules.{rules}
use Rattle.cursor.proofs.put.Goals as goal

pub returns : goal.returns
unfolding put_token
returns c = search rules

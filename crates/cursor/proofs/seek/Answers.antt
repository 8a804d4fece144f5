use Rattle.cursor.proofs.Seeking.{seek_token, seek_none}
use Rattle.cursor.proofs.seek.Goals as goal

pub returns : goal.returns
returns c = search seek_token

pub returns-in_default : goal.returns-in_default
returns-in_default c = search seek_none

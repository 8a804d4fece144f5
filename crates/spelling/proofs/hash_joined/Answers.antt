use mathlib.Core.Path.{sym, ◌∙◌}
use Rattle.spelling.proofs.Hashes.{hash_append}
use Rattle.spelling.specs.Form.{joined, undo}
use Rattle.spelling.proofs.hash_joined.Goals as goal

pub hash_undone-requires : goal.hash_undone-requires
hash_undone-requires c = (c.requires, c.hash_bytes.ensures.1)

pub returns : goal.returns
unfolding joined
returns c = (c.hash_undone.ensures.0 ∙ rw c.hash_bytes.ensures.0 (sym (hash_append c.args.m 0 c.args.front.now (undo c.args.form c.args.back.now))), c.hash_undone.ensures.1)

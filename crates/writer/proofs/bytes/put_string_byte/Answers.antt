use mathlib.Core.Path.{sym, ap, ◌∙◌}
use Rattle.writer.proofs.Escapes.{escape_form, string_told}
use Rattle.writer.proofs.bytes.put_string_byte.Goals as goal

pub put_all-requires : goal.put_all-requires
put_all-requires c = rw (string_told c.args.c ∙ ap (escape_form c.args.c) (sym c.escape_of.ensures ∙ c.in-Some.is)) at c.requires

pub put-requires : goal.put-requires
put-requires c = rw (string_told c.args.c ∙ ap (escape_form c.args.c) (sym c.escape_of.ensures ∙ c.in-None.is)) at c.requires

pub returns-in-Some : goal.returns-in-Some
returns-in-Some c = rw (string_told c.args.c ∙ ap (escape_form c.args.c) (sym c.escape_of.ensures ∙ c.in-Some.is)) c.put_all.ensures

pub returns-in-None : goal.returns-in-None
returns-in-None c = rw (string_told c.args.c ∙ ap (escape_form c.args.c) (sym c.escape_of.ensures ∙ c.in-None.is)) c.put.ensures

use Rattle.writer.proofs.Escapes.{iri_escaped, iri_plain}
use mathlib.Core.Path.{sym, ◌∙◌}
use Rattle.writer.proofs.bytes.put_iri_byte.Goals as goal

pub put_code-requires : goal.put_code-requires
put_code-requires c = let form = iri_escaped c.args.c (sym c.is_forbidden.ensures ∙ c.if-is_forbidden.true) in
    rw form at c.requires

pub returns-then-is_forbidden : goal.returns-then-is_forbidden
returns-then-is_forbidden c = let form = iri_escaped c.args.c (sym c.is_forbidden.ensures ∙ c.if-is_forbidden.true) in
    rw form c.put_code.ensures

pub put-requires : goal.put-requires
put-requires c = let form = iri_plain c.args.c (sym c.is_forbidden.ensures ∙ c.if-is_forbidden.false) in
    rw form at c.requires

pub returns : goal.returns
returns c = let form = iri_plain c.args.c (sym c.is_forbidden.ensures ∙ c.if-is_forbidden.false) in
    rw form c.put.ensures

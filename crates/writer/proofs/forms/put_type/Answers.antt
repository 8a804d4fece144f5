use Rattle.writer.proofs.Chains.{both, room_before, room_after, wrote_nothing}
use Rattle.writer.proofs.Pieces.{type_none, type_some}
use mathlib.Core.Path.{sym, ◌∙◌}
use Rattle.writer.proofs.forms.put_type.Goals as goal

pub returns-then-is_xsd_string : goal.returns-then-is_xsd_string
returns-then-is_xsd_string c = let form = type_none c.args.datatype.now (sym c.is_xsd_string.ensures ∙ c.if-is_xsd_string.true) in
    rw form (wrote_nothing c.args.at c.args.out.now)

pub put_all-next-requires : goal.put_all-next-requires
put_all-next-requires c = let form = type_some c.args.datatype.now (sym c.is_xsd_string.ensures ∙ c.if-is_xsd_string.false) in
    room_before _ _ (rw form at c.requires)

pub put_iri-requires : goal.put_iri-requires
put_iri-requires c = let form = type_some c.args.datatype.now (sym c.is_xsd_string.ensures ∙ c.if-is_xsd_string.false) in
    room_after c.put_all-next.ensures (rw form at c.requires)

pub returns : goal.returns
returns c = let form = type_some c.args.datatype.now (sym c.is_xsd_string.ensures ∙ c.if-is_xsd_string.false) in
    rw form (both c.put_all-next.ensures c.put_iri.ensures)

use Rattle.iri.proofs.Parts.{authority_short, authority_one, authority_two, authority_here}
use Rattle.iri.proofs.authority_end.Goals as goal

pub returns-then-s-start-lt2 : goal.returns-then-s-start-lt2
returns-then-s-start-lt2 c = authority_short c.args.s.now c.args.start c.if-s-start-lt2.true

pub returns-then-s-start-ne47 : goal.returns-then-s-start-ne47
returns-then-s-start-ne47 c = authority_one c.args.s.now c.args.start c.if-s-start-ne47.true

pub returns-then-s-start-ne47-2 : goal.returns-then-s-start-ne47-2
returns-then-s-start-ne47-2 c = authority_two c.args.s.now c.args.start c.if-s-start-ne47.false c.if-s-start-ne47-2.true

pub returns : goal.returns
returns c = authority_here c.args.s.now c.args.start _ c.if-s-start-ne47.false c.if-s-start-ne47-2.false c.find.ensures

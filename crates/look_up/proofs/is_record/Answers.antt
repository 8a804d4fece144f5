use Rattle.limits.specs.Limits.{iri_limit}
use Rattle.look_up.proofs.Records.{too_short, other_first, other_second, too_long, is_whole}
use Rattle.look_up.proofs.is_record.Goals as goal

pub returns-then-front-lt-SIZE : goal.returns-then-front-lt-SIZE
returns-then-front-lt-SIZE c = too_short iri_limit _ c.if-front-lt-SIZE.true

pub returns-then-front-ne-FIRST_MARK : goal.returns-then-front-ne-FIRST_MARK
returns-then-front-ne-FIRST_MARK c = other_first iri_limit _ c.if-front-ne-FIRST_MARK.true

pub returns-then-front-ne-SECOND_MARK : goal.returns-then-front-ne-SECOND_MARK
returns-then-front-ne-SECOND_MARK c = other_second iri_limit _ c.if-front-ne-SECOND_MARK.true

pub returns-then-size-gt-IRI : goal.returns-then-size-gt-IRI
returns-then-size-gt-IRI c = too_long iri_limit _ c.if-front-lt-SIZE.false c.if-front-ne-FIRST_MARK.false c.if-front-ne-SECOND_MARK.false _ c.size_of-size.ensures.0 c.if-size-gt-IRI.true

pub returns : goal.returns
returns c = is_whole iri_limit _ c.if-front-lt-SIZE.false c.if-front-ne-FIRST_MARK.false c.if-front-ne-SECOND_MARK.false _ c.size_of-size.ensures.0 c.if-size-gt-IRI.false

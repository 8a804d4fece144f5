use Rattle.comparison.proofs.Listing.{put_none, put_full, put_one}
use Rattle.comparison.proofs.sides.put_row.Goals as goal

pub returns-then-not-listed : goal.returns-then-not-listed
returns-then-not-listed c = put_none c.args.listed c.args.i c.args.at c.args.out.now c.if-not-listed.true

pub returns-then-out-at : goal.returns-then-out-at
returns-then-out-at c = put_full c.args.listed c.args.i c.args.at c.args.out.now c.if-not-listed.false c.if-out-at.true

pub returns : goal.returns
returns c = put_one c.args.listed c.args.i c.args.at c.args.out.now c.if-not-listed.false

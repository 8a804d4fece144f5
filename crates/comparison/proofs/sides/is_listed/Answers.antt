use native.Mathlib.Omega.{arith}
use Rattle.comparison.proofs.Listing.{own_key, sought_within, sought_across, before_low, before_on, first_low, first_on, listed_repeated, listed_first}
use Rattle.comparison.proofs.sides.is_listed.Goals as goal

pub is_found-requires : goal.is_found-requires
is_found-requires c =
    let p = c.args.pairing.now.words.now in
    let m = c.args.mine.now in
    let o = c.args.other.now in
    let r = c.requires.0 in
    let k = own_key p m o r c.args.i c.key_of.result c.key_of.ensures c.unwrap_or-key.result 0 c.unwrap_or-key.ensures in (
      (r.matched, (r.rows c.args.i c.requires.1, r.rows)),
      (
        sought_within p m o r c.args.i c.unwrap_or-key.result k,
        (omega (arith, before_low p m o r c.args.i c.unwrap_or-key.result k c.before-before.result c.before-before.ensures.next, c.requires.1), before_on p m o r c.args.i c.unwrap_or-key.result k c.before-before.result c.before-before.ensures.next),
      ),
    )

pub returns-then-is_found : goal.returns-then-is_found
returns-then-is_found c =
    let p = c.args.pairing.now.words.now in
    let m = c.args.mine.now in
    let o = c.args.other.now in
    let r = c.requires.0 in
    let k = own_key p m o r c.args.i c.key_of.result c.key_of.ensures c.unwrap_or-key.result 0 c.unwrap_or-key.ensures in
    listed_repeated p m o r c.args.i c.unwrap_or-key.result k c.before-before.result c.before-before.ensures.next c.is_found.result c.is_found.ensures c.if-is_found.true

pub is_found-requires-2 : goal.is_found-requires-2
is_found-requires-2 c =
    let p = c.args.pairing.now.words.now in
    let m = c.args.mine.now in
    let o = c.args.other.now in
    let r = c.requires.0 in
    let k = own_key p m o r c.args.i c.key_of.result c.key_of.ensures c.unwrap_or-key.result 0 c.unwrap_or-key.ensures in (
      (r.matched, (r.rows c.args.i c.requires.1, r.other_rows)),
      (
        sought_across p m o r c.args.i c.unwrap_or-key.result k,
        (first_low p m o r c.args.i c.unwrap_or-key.result k c.first-first.result c.first-first.ensures, first_on p m o r c.args.i c.unwrap_or-key.result k c.first-first.result c.first-first.ensures),
      ),
    )

pub returns : goal.returns
returns c =
    let p = c.args.pairing.now.words.now in
    let m = c.args.mine.now in
    let o = c.args.other.now in
    let r = c.requires.0 in
    let k = own_key p m o r c.args.i c.key_of.result c.key_of.ensures c.unwrap_or-key.result 0 c.unwrap_or-key.ensures in
    listed_first p m o r c.args.i c.unwrap_or-key.result k c.before-before.result c.before-before.ensures.next c.is_found.result c.is_found.ensures c.if-is_found.false c.first-first.result c.first-first.ensures c.is_found-2.result c.is_found-2.ensures

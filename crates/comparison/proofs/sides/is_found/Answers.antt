use mathlib.Core.Path.{sym, ◌∙◌, subst}
use Prim.Native.Nat.{◌<◌}
use native.Mathlib.Omega.{arith}
use Rattle.chains.specs.Chains.{Before}
use Rattle.chains.specs.declared.Links.{Links}
use Rattle.chains.proofs.Chains.{falling, at_below, at_next}
use Rattle.comparison.specs.Code.{tables_of, row_key}
use Rattle.comparison.proofs.Listing.{found_near}
use Rattle.comparison.proofs.Search.{any_at, none_at}
use Rattle.comparison.proofs.sides.is_found.Goals as goal

pub along-j-items-requires : goal.along-j-items-requires
along-j-items-requires c = (c.requires.1.1.0, falling _ _ _ c.requires.1.0.linked)

pub is_match-requires : goal.is_match-requires
is_match-requires c =
    let e = sym c.next.ensures.steps.1.0 ∙ c.in-Some.is in
    let low : c.in-Some.j < c.args.other.now.links.count = omega (arith, at_below _ _ c.args.key _ _ c.loop-j.j-iterator.at c.in-Some.j e c.loop-j.invariant.1, c.requires.1.1.0) in
    ((c.requires.0.0, (c.requires.0.1.0, c.requires.0.1.1 c.in-Some.j low)), (c.requires.1.0, low))

pub returns-then-is_match : goal.returns-then-is_match
returns-then-is_match c = any_at _ _ c.args.key _ _ c.loop-j.j-iterator.at c.loop-j.invariant.1 c.in-Some.j (sym c.next.ensures.steps.1.0 ∙ c.in-Some.is) (sym c.is_match.ensures ∙ c.if-is_match.true)

pub loop-j-preserved : goal.loop-j-preserved
loop-j-preserved c =
    let e = sym c.next.ensures.steps.1.0 ∙ c.in-Some.is in
    let b = subst (λ (l : Links). Before l.words.now l.count c.in-Some.j c.next.new.self.at) c.loop-j.invariant.0 (c.next.ensures.steps.1.1 c.in-Some.j e) in (
      c.next.ensures.steps.0 ∙ c.loop-j.invariant.0,
      at_next _ _ c.args.key _ _ c.loop-j.j-iterator.at c.in-Some.j e c.loop-j.invariant.1 c.next.new.self.at (b (row_key c.args.other.now.edition c.args.pairing.now.words.now (tables_of c.args.other.now)) c.requires.1.0.linked) (λ j h. found_near c.args.pairing.now.words.now c.requires.0.0 c.args.mine.now c.args.i c.args.other.now c.args.key c.requires.1.0 j) (sym c.is_match.ensures ∙ c.if-is_match.false),
    )

pub returns : goal.returns
returns c = none_at _ _ c.args.key _ _ c.loop-j.j-iterator.at c.loop-j.invariant.1 (sym c.next.ensures.steps.1.0 ∙ c.in-None.is)

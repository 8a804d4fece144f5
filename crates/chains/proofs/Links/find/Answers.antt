use mathlib.Core.Path.{sym, ◌∙◌, subst}
use borrow.Author.Tests.{eq-eqb, ne_eqb, eqb-true}
use Rattle.chains.specs.Chains.{behind, word_at, Before}
use Rattle.chains.specs.declared.Links.{Links}
use Rattle.chains.proofs.Chains.{near_key, falling, at_none, at_found, at_next}
use Rattle.chains.proofs.Links.find.Goals as goal

pub along-j-items-requires : goal.along-j-items-requires
along-j-items-requires c = (c.requires.1.1.0, falling _ _ _ c.requires.1.0)

pub returns-then-word-x : goal.returns-then-word-x
returns-then-word-x c = sym (at_found _ _ c.args.x _ _ c.loop-j.j-iterator.at c.in-Some.j (sym c.next.ensures.steps.1.0 ∙ c.in-Some.is) c.loop-j.invariant.1 (eq-eqb _ _ (sym c.word.ensures.0 ∙ c.if-word-x.true)))

pub loop-j-preserved : goal.loop-j-preserved
loop-j-preserved c =
    let e = sym c.next.ensures.steps.1.0 ∙ c.in-Some.is in
    let b = subst (λ (l : Links). Before l.words.now l.count c.in-Some.j c.next.new.self.at) c.loop-j.invariant.0 (c.next.ensures.steps.1.1 c.in-Some.j e) in (
      c.next.ensures.steps.0 ∙ c.loop-j.invariant.0,
      at_next _ _ c.args.x _ _ c.loop-j.j-iterator.at c.in-Some.j e c.loop-j.invariant.1 c.next.new.self.at (b (word_at c.args.column.now.words.now c.args.column.now.from c.args.column.now.step) c.requires.1.0) (λ j k h. near_key _ _ c.args.x j (eqb-true _ _ h)) (ne_eqb _ _ (λ z. c.if-word-x.false (c.word.ensures.0 ∙ z))),
    )

pub returns : goal.returns
returns c = sym (at_none _ _ c.args.x _ (behind c.args.from) c.loop-j.j-iterator.at (sym c.next.ensures.steps.1.0 ∙ c.in-None.is) c.loop-j.invariant.1)

use Rattle.limits.proofs.Errors.{handed_on, numbered}
use mathlib.Core.Path.{refl, sym, ◌∙◌}
use Rattle.nesting.proofs.OfProperties.{properties_start, properties_stop, objects_call, properties_stop_2, properties_end, skips_call, properties_end_2, properties_again, properties_less}
use Rattle.nesting.proofs.OfVerbs.{verb_call}
use Rattle.nesting.proofs.Aiming.{ready_words}
use Rattle.nesting.proofs.properties.Goals as goal

pub loop-p-init : goal.loop-p-init
loop-p-init c = search properties_start

pub aim-requires : goal.aim-requires
aim-requires c = ready_words _ c.loop-p.held c.loop-p.invariant.ready

pub leaf-requires : goal.leaf-requires
leaf-requires c = verb_call _ _ _ _ _ _ _ c.loop-p.invariant.ready c.loop-p.invariant.verb c.aim.ensures

pub returns-in_err-leaf : goal.returns-in_err-leaf
returns-in_err-leaf c = rw (handed_on _ _ c.from_residual.ensures) (properties_stop _ _ _ _ _ _ _ _ _ c.loop-p.invariant c.aim.ensures _ _ c.in_err-leaf.ensures.puts (numbered _))

pub objects-requires : goal.objects-requires
objects-requires c = objects_call _ _ _ _ _ _ _ _ _ c.loop-p.invariant c.aim.ensures _ _ c.in_ok-leaf.ensures.puts refl c.requires.0.1 c.requires.1.0 _ refl

pub returns-in_err-objects : goal.returns-in_err-objects
returns-in_err-objects c = rw (handed_on _ _ c.from_residual-in_err-objects.ensures) (properties_stop_2 _ _ _ _ _ _ _ _ _ c.loop-p.invariant c.aim.ensures _ _ c.in_ok-leaf.ensures.puts refl _ _ _ refl c.in_err-objects.ensures (numbered _))

pub returns-then-held-ne-SEMICOLON : goal.returns-then-held-ne-SEMICOLON
returns-then-held-ne-SEMICOLON c = properties_end _ _ _ _ _ _ _ _ _ c.loop-p.invariant c.aim.ensures _ _ c.in_ok-leaf.ensures.puts refl _ _ _ refl c.in_ok-objects.ensures refl c.if-held-ne-SEMICOLON.true

pub skip_semicolons-requires : goal.skip_semicolons-requires
skip_semicolons-requires c = skips_call _ _ _ _ _ _ _ _ _ c.loop-p.invariant c.aim.ensures _ _ c.in_ok-leaf.ensures.puts refl _ _ _ refl c.in_ok-objects.ensures refl c.if-held-ne-SEMICOLON.false

pub returns-then-not-is_verb : goal.returns-then-not-is_verb
returns-then-not-is_verb c = properties_end_2 _ _ _ _ _ _ _ _ _ c.loop-p.invariant c.aim.ensures _ _ c.in_ok-leaf.ensures.puts refl _ _ _ _ _ _ _ _ refl c.in_ok-objects.ensures refl c.skip_semicolons.ensures (sym c.is_verb.ensures ∙ c.if-not-is_verb.true)

pub loop-p-smaller : goal.loop-p-smaller
loop-p-smaller c = properties_less _ _ _ _ _ _ _ _ _ c.loop-p.invariant c.aim.ensures _ _ c.in_ok-leaf.ensures.puts refl _ _ _ _ _ _ _ _ refl c.in_ok-objects.ensures refl c.skip_semicolons.ensures

pub loop-p-preserved : goal.loop-p-preserved
loop-p-preserved c = properties_again _ _ _ _ _ _ _ _ _ c.loop-p.invariant c.aim.ensures _ _ c.in_ok-leaf.ensures.puts refl _ _ _ _ _ _ _ _ refl c.in_ok-objects.ensures refl c.skip_semicolons.ensures (sym c.is_verb.ensures ∙ c.if-not-is_verb.false)

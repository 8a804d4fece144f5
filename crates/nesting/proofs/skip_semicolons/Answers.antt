use Rattle.nesting.proofs.Skipping.{skip_start, skip_ready, skip_again, skips, skip_less}
use Rattle.nesting.proofs.skip_semicolons.Goals as goal

pub loop-st-init : goal.loop-st-init
loop-st-init c = search skip_start

pub pass-requires : goal.pass-requires
pass-requires c = skip_ready _ _ _ c.loop-st.invariant c.requires.0.1

pub returns-then-st-ne-SEMICOLON : goal.returns-then-st-ne-SEMICOLON
returns-then-st-ne-SEMICOLON c = search skips

pub loop-st-smaller : goal.loop-st-smaller
loop-st-smaller c = search skip_less

pub loop-st-preserved : goal.loop-st-preserved
loop-st-preserved c = search skip_again

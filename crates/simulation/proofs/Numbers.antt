-- The next term's number fits a word of the tables.
use Prim.Native.Nat.{◌+◌, ◌/◌, ◌<◌}
use native.Mathlib.Omega.{arith}
use lib.ListN.{length, get_or}
use Rattle.text.specs.Text.{Text}
use Rattle.table.specs.Layout.{term_size, word_limit}
use Rattle.machine.specs.Memory.{Memory}
use Rattle.state.specs.Words.{terms_word}
use Rattle.state.specs.Represents.{Tables}
use Rattle.state.proofs.Counted.{counted_room}
use Rattle.simulation.specs.Simulation.{Holding, Ready}
use Rattle.state.specs.declared.Held.{Held}

pub next_held : (old : Tables) (m : Memory) (a : Held) → Holding old m a → get_or a.st terms_word 0 + 1 < word_limit
next_held old m a h = omega (arith, h.terms_held.keeps.count, h.fits.terms, (counted_room (length a.terms.now / term_size)).1)

pub next_small : (doc : Text) (a : Held) → Ready doc a → get_or a.st terms_word 0 + 1 < word_limit
next_small doc a r = let (old, (m, h)) = r.holds in next_held old m a h

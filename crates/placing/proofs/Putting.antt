-- A test of room, and then the write.
use mathlib.Core.Path.{◌≡◌, refl, sym}
use mathlib.Core.List.{List}
use Prim.Native.Nat.{ℕ}
use Rattle.machine.specs.Step.{Room}
use Rattle.machine.specs.Refusals.{room_tests}
use Rattle.machine.specs.Demand.{Fits}
use Rattle.machine.proofs.Firsts.{passes_fits, zero_passes}
use Rattle.writes.specs.Ready.{Ready}
use Rattle.writes.proofs.Compose.{ready}
use Rattle.text.specs.Text.{Text}
use Rattle.machine.specs.Memory.{Memory, Write}
use Rattle.state.specs.Represents.{Tables, room_in, Represented, room_refusal}
use Rattle.room.specs.Counting.{Answers}

room_fits : (room : Room) (m : Memory) → 0 ≡ room_refusal room m → Fits room m
unfolding room_refusal
room_fits room m e = passes_fits room m (zero_passes (room_tests room m) refl (sym e))

-- What the write asks for, where nothing is refused.
pub put_ready : (w : Write ℕ) (work : Text) (t : Tables) (st : List ℕ) → Answers work t st w 0 → Represented work t st → Ready w work t st
put_ready w work t st a R = ready w work t st R (λ old m h. room_fits (room_in t) (w m).1 (a old m h))

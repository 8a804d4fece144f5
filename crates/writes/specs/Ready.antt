-- What a write asks for, and what it leaves.
use Rattle.std.specs.Prelude.{◌≡◌, List, ℕ, length, take}
use Rattle.text.specs.Text.{Text}
use Rattle.limits.specs.Limits.{work_size}
use Rattle.machine.specs.Memory.{Memory, Write, return, ◌>>=◌, ◌>>◌}
use Rattle.machine.specs.Frame.{Place}
use Rattle.machine.specs.Rules.{hold}
use Rattle.machine.specs.Demand.{Fits}
use Rattle.state.specs.Words.{Stays}
use Rattle.state.specs.Represents.{Tables, room_in, Represents}

-- Some memory is held, and there is room for what w makes of it.
pub record Ready {A : Type 0} (w : Write A) (work : Text) (t : Tables) (st : List ℕ) : Type 0 where
  pub old : Tables
  pub memory : Memory
  pub represents : Represents old memory work t st
  pub fits : Fits (room_in t) (w memory).1

-- The environment's bytes, the room, and the words from the cursor's on are left as they were.
pub record Kept (work work' : Text) (t t' : Tables) (st st' : List ℕ) : Type 0 where
  pub front : take work_size work' ≡ take work_size work
  pub room : room_in t' ≡ room_in t
  pub stays : Stays st st'
  pub words : length st' ≡ length st

-- The write w was done, with the result a.
pub record Writes {A : Type 0} (w : Write A) (a : A) (work work' : Text) (t t' : Tables) (st st' : List ℕ) : Type 0 where
  pub represents : (old : Tables) (m : Memory) → Represents old m work t st → Represents old (w m).1 work' t' st'
  pub result : (old : Tables) (m : Memory) → Represents old m work t st → (w m).0 ≡ a
  pub kept : Kept work work' t t' st st'

-- A node, and the row that holds it.
abbrev pub put_at : Place → ℕ → Write ℕ → Write ℕ
put_at p at w = do
  n ← w
  hold p n at
  return n

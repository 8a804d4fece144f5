-- What the reader's call answers, where these slices are lent.
use Rattle.std.specs.Prelude.{◌≡◌, List, [], ◌∷◌}
use Rattle.text.proofs.Table.{Example, ◌⇒◌}
use Rattle.machine.specs.Read.{Answer}
use Rattle.reader.specs.Reader.{LentSlices, lengths, Gives, Contract, Reading}
use Rattle.examples.specs.Call.{Call}

-- Whatever the lent slices hold, the call c gives the answer a and leaves in each slice what a says.
abbrev pub Answers : Call → Answer → Type 0
Answers c a = (old new : LentSlices) (r : Reading) → lengths old ≡ c.lent → Contract c.document c.mode c.base old new r → Gives a old new r

abbrev pub Each : List (Example Call Answer) → Type 0
Each [] = Unit {0}
Each ((c ⇒ a) ∷ es) = Answers c a × Each es

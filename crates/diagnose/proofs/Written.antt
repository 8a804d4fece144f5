-- Laws of what is written piece by piece.
use Rattle.std.proofs.Common.{◌≡◌, ℕ, List, ◌++◌, subst, Option, Result, Ok, Err, OnOk}
use Rattle.std.specs.Io.KnownBytes.{Appends}
use Rattle.std.proofs.KnownBytes.{Appends-trans}

-- The last piece, whose writing may fail.
pub last_piece : {T E : Type 0} (r : Result T E) (x y z : Option (List ℕ)) (s t : List ℕ) → Appends x y s → OnOk r (Appends y z t) → OnOk r (Appends x z (s ++ t))
last_piece (Ok u) x y z s t h k = Appends-trans x y z s t h k
last_piece (Err e) x y z s t h k = tt

pub appends_same : (x y : Option (List ℕ)) (s t : List ℕ) → s ≡ t → Appends x y s → Appends x y t
appends_same x y s t e h = subst (Appends x y) e h

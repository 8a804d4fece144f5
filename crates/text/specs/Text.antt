-- Texts: lists of bytes or of code points. Tests on them, and how they are taken apart.
use Rattle.std.specs.Prelude.{List, [], ◌∷◌, Bool, true, false, ◌&&◌, ◌||◌, ℕ, eqb, leb}
use Rattle.std.proofs.Math.Option.{Option, none, some}
use Prim.Native.Char.{Char, code}
use Prim.Native.String.{String, [] as end, ◌∷◌ as ◌then◌}

abbrev pub Text : Type 0
Text = List ℕ

-- The code points of a quoted text. Of ASCII, they are its bytes.
abbrev pub ascii : String → Text
ascii end = []
ascii (c then s) = code c ∷ ascii s

-- The first where the test holds, else the second.
abbrev pub cond {ℓ} : {A : Type ℓ} → Bool → A → A → A
cond true a b = a
cond false a b = b

abbrev pub is_none : {A : Type 0} → Option A → Bool
is_none none = true
is_none (some a) = false

-- Is c this character?
abbrev pub is : Char → ℕ → Bool
is x c = eqb c (code x)

abbrev pub member : ℕ → List ℕ → Bool
member c [] = false
member c (x ∷ xs) = eqb c x || member c xs

-- Is c one of these characters?
abbrev pub one_of : String → ℕ → Bool
one_of s c = member c (ascii s)

-- Is c from lo to hi?
abbrev pub between : ℕ → ℕ → ℕ → Bool
between lo hi c = leb lo c && leb c hi

abbrev pub empty : Text → Bool
empty [] = true
empty (c ∷ s) = false

unfoldable pub same_text : Text → Text → Bool
same_text [] [] = true
same_text [] (b ∷ t) = false
same_text (a ∷ s) [] = false
same_text (a ∷ s) (b ∷ t) = let r = same_text s t in eqb a b && r

-- Does the second text begin with the first?
unfoldable pub begins : Text → Text → Bool
begins [] t = true
begins (a ∷ s) [] = false
begins (a ∷ s) (b ∷ t) = let r = begins s t in eqb a b && r

-- The text before the first that passes the test, and the text from there on.
unfoldable pub until : (ℕ → Bool) → Text → Text
until p [] = []
until p (c ∷ s) = let r = c ∷ until p s in cond (p c) [] r

unfoldable pub from : (ℕ → Bool) → Text → Text
from p [] = []
from p (c ∷ s) = let r = from p s in cond (p c) (c ∷ s) r

-- Does some byte pass the test?
unfoldable pub some_byte : (ℕ → Bool) → Text → Bool
some_byte p [] = false
some_byte p (c ∷ s) = let r = some_byte p s in p c || r

-- All that computes here; an example that is checked by evaluation names it.
unfoldable pub computing : ℕ
unfolding same_text begins until from some_byte
computing = 0

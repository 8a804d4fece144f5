-- The parts of an escaped text, as the code finds them.
use Rattle.std.specs.Prelude.{Option, Some, None, [], ◌∷◌, ◌++◌, ◌≡◌, Bool, false, ◌||◌, ℕ, zero, suc, ◌+◌, ◌*◌, ◌/◌, ◌%◌, ◌≤◌, ◌<◌, eqb, ltb, length, take, drop}
use Rattle.text.specs.Text.{Text, cond}
use Rattle.text.specs.Slice.{over}
use Rattle.utf8.specs.Utf8.{width}
use Rattle.escape.specs.Escape.{hex_value, unescape, bad_escape, no_character, unreserve}
use Rattle.escape.specs.declared.Escapes.{Escapes}
use Rattle.escape.specs.declared.Escapes.TheVariants.{Quoted, Local}
use Rattle.escape.specs.declared.Character.{Character}
use Rattle.escape.specs.declared.Stretch.{Stretch}
use Rattle.escape.specs.declared.Stretch.TheVariants.{Run, One}
use Rattle.escape.specs.declared.Stretches.{Stretches}

-- The text with its escapes undone.
unfoldable pub undone : Escapes → Text → Text
undone Quoted s = unescape s
undone Local s = unreserve s

-- The bytes of a character are the first ones of these.
unfoldable pub four : Character → Text
four c =
    cond (ltb c.width 2) (c.value ∷ 0 ∷ 0 ∷ 0 ∷ [])
    (cond (eqb c.width 2) ((0xC0 + c.value / 64) ∷ (0x80 + c.value % 64) ∷ 0 ∷ 0 ∷ [])
    (cond (eqb c.width 3) ((0xE0 + c.value / 4096) ∷ (0x80 + c.value / 64 % 64) ∷ (0x80 + c.value % 64) ∷ 0 ∷ [])
    ((0xF0 + c.value / 262144) ∷ (0x80 + c.value / 4096 % 64) ∷ (0x80 + c.value / 64 % 64) ∷ (0x80 + c.value % 64) ∷ [])))

unfoldable pub encoded : Character → Text
encoded c = take c.width (four c)

-- Is it no character?
unfoldable pub bad : Character → Bool
bad c = cond (ltb 2 c.width) (no_character c.value) false

-- What a part stands for, how many bytes that is, and whether the part names no character.
abbrev pub shown : Stretch → Text
shown (Run s) = s.now
shown (One c) = encoded c

abbrev pub size : Stretch → ℕ
size (Run s) = length s.now
size (One c) = c.width

abbrev pub names_none : Stretch → Bool
names_none (Run s) = false
names_none (One c) = bad c

-- The number that hex digits make, behind a number so far.
unfoldable pub number : ℕ → Text → ℕ
number v [] = v
number v (c ∷ s) = number (v * 16 + hex_value c) s

-- The largest number that so many digits make, whatever bytes they are.
unfoldable pub most : ℕ → ℕ
most zero = 0
most (suc k) = most k * 16 + 168

-- The numbers as bytes; of a text without bad escapes they are the text.
unfoldable pub low : Text → Text
low [] = []
low (b ∷ s) = b % 256 ∷ low s

-- The text s begins with a part, and goes on with t.
pub record Yields (k : Escapes) (s t : Text) (p : Stretch) : Type 0 where
  pub text : undone k s ≡ shown p ++ undone k t
  pub named : k ≡ Quoted → bad_escape s ≡ (names_none p || bad_escape t)
  pub long : length (shown p) ≡ size p
  pub some : k ≡ Quoted → 0 < size p
  pub less : length t < length s

-- Nothing is left of the text.
pub record Ends (k : Escapes) (s : Text) : Type 0 where
  pub text : undone k s ≡ []
  pub named : k ≡ Quoted → bad_escape s ≡ false

-- What the next part is, and what is left behind it.
abbrev pub Walks : Stretches → Stretches → Option Stretch → Type 0
Walks x y None = Ends x.escapes x.rest.now
Walks x y (Some p) = Yields x.escapes x.rest.now y.rest.now p × (y.escapes ≡ x.escapes)

-- The character of so many hex digits from a place on.
abbrev pub Numbered : Stretches → Stretches → ℕ → ℕ → Option Stretch → Type 0
Numbered x y at n None = length x.rest.now < at + n
Numbered x y at n (Some p) =
    let v = number 0 (take n (drop at x.rest.now)) in
    (at + n ≤ length x.rest.now) × ((p ≡ One (record { value = v; width = width v })) × ((y.rest.now ≡ drop (at + n) x.rest.now) × (y.escapes ≡ x.escapes)))

-- What writing the text t over the front of x answers and leaves, if `bytes` (then each number of t is a byte).
pub record Written (bytes : Type 0) (t x y : Text) (r : ℕ) : Type 0 where
  pub long : r ≡ length t
  pub size : length y ≡ length x
  pub text : bytes → y ≡ over t x

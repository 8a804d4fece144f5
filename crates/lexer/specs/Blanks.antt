-- Blanks and comments between tokens.
use Rattle.std.specs.Prelude.{◌≡◌, Bool, true, false, not, ◌||◌, List, [], ◌∷◌, ℕ, suc, ◌+◌, ◌≤◌, ◌<◌, length, drop}
use Rattle.std.proofs.Math.Option.{none}
use Rattle.text.specs.Text.{Text, cond, is}
use Rattle.utf8.specs.Utf8.{Range, ◌–◌, width, decode, first_bad}
use Rattle.token.specs.Regular.{size}
use Rattle.token.specs.Tokens.{white_space, line_end}
use Rattle.automaton.specs.Run.{Front}

-- How many bytes of blanks and comments stand at the front of some code points; true: within a comment.
unfoldable pub blanks : Bool → List ℕ → ℕ
blanks b [] = 0
blanks false (c ∷ cs) = let r = suc (blanks (is "#" c) cs) in cond (white_space c || is "#" c) r 0
blanks true (c ∷ cs) = width c + blanks (not (line_end c)) cs

-- The code points after them.
unfoldable pub after_blanks : Bool → List ℕ → List ℕ
after_blanks b [] = []
after_blanks false (c ∷ cs) = let r = after_blanks (is "#" c) cs in cond (white_space c || is "#" c) r (c ∷ cs)
after_blanks true (c ∷ cs) = after_blanks (not (line_end c)) cs

-- The blanks and comments at the front of s: within s; of UTF-8, those of its code points; and where they end before
-- the first bad sequence, those of the code points before it.
pub record BlanksAt (s : Text) (r : ℕ) : Type 0 where
  pub within : r ≤ length s
  pub right : first_bad s ≡ none → r ≡ blanks false (decode s)
  pub front : (cs : List ℕ) (z : Text) → Front s cs z → r < size width cs → r ≡ blanks false cs

-- ---- The same of bytes

abbrev pub white_spaces : List Range
white_spaces = (32 – 32) ∷ (9 – 9) ∷ (13 – 13) ∷ (10 – 10) ∷ []

unfoldable pub skips : Bool → Text → ℕ
skips b [] = 0
skips false (c ∷ s) = let r = suc (skips (is "#" c) s) in cond (white_space c || is "#" c) r 0
skips true (c ∷ s) = suc (skips (not (line_end c)) s)

-- A comment that begins before `at` goes on to r.
pub record CommentTo (s : Text) (at r : ℕ) : Type 0 where
  pub from : at ≤ r
  pub within : r ≤ length s
  pub same : at + skips true (drop at s) ≡ r + skips false (drop r s)

-- RFC 3986, section 5.2.4: Remove Dot Segments.
use Rattle.std.specs.Prelude.{[], ◌∷◌, ◌++◌, ◌||◌, ℕ, zero, suc, length, drop}
use Rattle.text.specs.Text.{Text, ascii, cond, is, same_text, begins, until, from, some_byte}

-- The output buffer and the input buffer.
pub record Buffers : Type 0 where
  pub out : Text
  pub input : Text

abbrev pub buffers : Text → Text → Buffers
buffers o i = record { out = o; input = i }

-- The text before its last slash; empty where it has none.
unfoldable pub without_last_segment : Text → Text
without_last_segment [] = []
without_last_segment (c ∷ s) = let r = c ∷ without_last_segment s in cond (some_byte (is "/") s) r []

-- The first path segment with the slash in front of it, if any; and what follows it.
unfoldable pub first_segment : Text → Text
first_segment [] = []
first_segment (c ∷ s) = c ∷ until (is "/") s

unfoldable pub after_first_segment : Text → Text
after_first_segment [] = []
after_first_segment (c ∷ s) = from (is "/") s

-- One turn of the loop.
unfoldable pub turn : Buffers → Buffers
turn b =
    let o = b.out in
    let i = b.input in
    -- 2A. "../" or "./" at the front goes
    cond (begins (ascii "../") i) (buffers o (drop 3 i))
    (cond (begins (ascii "./") i) (buffers o (drop 2 i))
    -- 2B. "/./" at the front, or "/." as the whole, becomes "/"
    (cond (begins (ascii "/./") i) (buffers o (drop 2 i))
    (cond (same_text i (ascii "/.")) (buffers o (ascii "/"))
    -- 2C. "/../" at the front, or "/.." as the whole, becomes "/", and the last segment of the output goes with its slash
    (cond (begins (ascii "/../") i) (buffers (without_last_segment o) (drop 3 i))
    (cond (same_text i (ascii "/..")) (buffers (without_last_segment o) (ascii "/"))
    -- 2D. "." or ".." as the whole goes
    (cond (same_text i (ascii ".") || same_text i (ascii "..")) (buffers o [])
    -- 2E. the first segment moves to the end of the output
    (buffers (o ++ first_segment i) (after_first_segment i))))))))

unfoldable pub turns : ℕ → Buffers → Buffers
turns zero b = b
turns (suc n) b = turns n (turn b)

-- Each turn shortens the input buffer, and an empty one stays empty: as many turns as the path has bytes are enough.
unfoldable pub remove_dot_segments : Text → Text
remove_dot_segments path = (turns (length path) (buffers [] path)).out

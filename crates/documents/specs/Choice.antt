-- The mode in which a file is read: by a word among the arguments, else by the ending of its name.
use Rattle.std.specs.Prelude.{Bool, ℕ, ◌-◌, length, drop}
use Rattle.text.specs.Text.{Text, ascii, cond, same_text}

-- Is this the end of the text?
unfoldable pub ends_with : Text → Text → Bool
ends_with end s = same_text (drop (length s - length end) s) end

-- Turtle by the ending.ttl, else TriG.
unfoldable pub mode_by_name : Text → ℕ
mode_by_name name = cond (ends_with (ascii ".ttl") name) 1 0

-- The words that say how the files named after them are read: in mode 0, in mode 1, or (2) by their names. Any other word (3) is a name.
unfoldable pub mode_by_word : Text → ℕ
mode_by_word word =
    cond (same_text word (ascii "trig")) 0
    (cond (same_text word (ascii "turtle")) 1
    (cond (same_text word (ascii "auto")) 2 3))

-- Which line of the table says what an answer means.
use Rattle.std.specs.Prelude.{List, cond, ◌||◌, eqb, leb, ℕ, ◌+◌, length, get_or}
use Rattle.text.specs.Text.{between}
use Rattle.diagnose.specs.declared.phrases.TheConstants.Phrases.{MEANINGS, MAY_NOT_END, NO_STRING, NO_IRI, NO_WORD}

-- What begins with a byte where no token can be read: a string, an IRI, a word, another.
abbrev pub unreadable : ℕ → ℕ
unreadable b = cond (eqb b 34 || eqb b 39) NO_STRING (cond (eqb b 60) NO_IRI (cond (between 97 122 b || between 65 90 b) NO_WORD (MEANINGS + 6)))

-- At the end of the document 8 says that it may not end there; within it 6 is told by the byte.
abbrev pub meaning : List ℕ → ℕ → ℕ → ℕ
meaning document number at =
    cond (leb (length document) at)
    (cond (eqb number 8) MAY_NOT_END (MEANINGS + number))
    (cond (eqb number 6) (unreadable (get_or document at 0)) (MEANINGS + number))

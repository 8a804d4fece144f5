-- The bytes that begin a token other than a keyword or a name with a prefix.
use Rattle.std.specs.Prelude.{List, [], ◌∷◌}
use Rattle.utf8.specs.Utf8.{Range, ◌–◌}

abbrev pub mark : List Range
mark = (34 – 34) ∷ (39 – 41) ∷ (43 – 46) ∷ (48 – 60) ∷ (64 – 64) ∷ (91 – 91) ∷ (93 – 95) ∷ (123 – 123) ∷ (125 – 125) ∷ []

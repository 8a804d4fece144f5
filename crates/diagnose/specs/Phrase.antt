-- The phrases of the table, and the lines that are printed with them.
use Rattle.std.specs.Prelude.{List, [], ◌∷◌, cond, eqb, ℕ, zero, suc, take}
use Rattle.documents.specs.Places.{left_in_line}

-- What stands behind so many line feeds of the table; nothing where it has fewer.
unfoldable pub behind : ℕ → List ℕ → List ℕ
behind zero s = s
behind (suc n) [] = []
behind (suc n) (b ∷ s) = cond (eqb b 10) (behind n s) (behind (suc n) s)

-- A line of the table, counted from 0.
unfoldable pub phrase : List ℕ → ℕ → List ℕ
phrase words n = let s = behind n words in take (left_in_line s) s

-- Tables of computed examples.
use mathlib.Core.Path.{◌≡◌}
use mathlib.Core.List.{List, [], ◌∷◌}

-- What is asked, and what is to be given.
infix 80 ◌⇒◌
pub data Example (A B : Type 0) : Type 0 where
  ◌⇒◌ : A → B → Example A B

abbrev pub given : {A B : Type 0} → (A → B) → List (Example A B) → List B
given f [] = []
given f ((a ⇒ b) ∷ es) = f a ∷ given f es

abbrev pub expected : {A B : Type 0} → List (Example A B) → List B
expected [] = []
expected ((a ⇒ b) ∷ es) = b ∷ expected es

-- f gives what each example expects.
abbrev pub Gives : {A B : Type 0} → (A → B) → List (Example A B) → Type 0
Gives f es = given f es ≡ expected es

-- Regular expressions over code points: the texts that one matches, and the longest match at the front of a text.
use Rattle.std.specs.Prelude.{◌≡◌, ◌⊎◌, Bool, true, false, not, ◌&&◌, ◌||◌, List, [], ◌∷◌, ◌++◌, ℕ, ◌+◌, ◌≤◌, min, T, length}
use Rattle.text.specs.Text.{cond, between}
use Rattle.utf8.specs.Utf8.{Range, ◌–◌}

-- set true rs: one code point of the ranges; set false rs: one that is not of them.
pub data Re : Type 0 where
  eps : Re
  set : Bool → List Range → Re
  seq : Re → Re → Re
  alt : Re → Re → Re
  star : Re → Re

abbrev pub in_ranges : ℕ → List Range → Bool
in_ranges c [] = false
in_ranges c ((lo – hi) ∷ rs) = between lo hi c || in_ranges c rs

abbrev pub in_set : ℕ → Bool → List Range → Bool
in_set c true rs = in_ranges c rs
in_set c false rs = not (in_ranges c rs)

-- None or more texts of P, one after the other.
pub data Star (P : List ℕ → Type 0) : List ℕ → Type 0 where
  stop : Star P []
  more : (c : ℕ) (x y : List ℕ) {z : List ℕ} → P (c ∷ x) → Star P y → z ≡ c ∷ (x ++ y) → Star P z

-- The texts that an expression matches.
abbrev pub Matches : Re → List ℕ → Type 0
Matches eps z = z ≡ []
Matches (set b rs) z = (c : ℕ) × (z ≡ c ∷ []) × T (in_set c b rs)
Matches (seq p q) z = (x : List ℕ) × (y : List ℕ) × (z ≡ x ++ y) × Matches p x × Matches q y
Matches (alt p q) z = Matches p z ⊎ Matches q z
Matches (star p) z = Star (Matches p) z

-- An expression with the number of its kind of token.
pub data Item : Type 0 where
  item : ℕ → Re → Item

-- One of the expressions, of the kind k, matches z.
abbrev pub Some : List Item → ℕ → List ℕ → Type 0
Some [] k z = ⊥
Some (item j r ∷ xs) k z = ((j ≡ k) × Matches r z) ⊎ Some xs k z

-- Nothing, or a token of a kind and its length in bytes.
pub data Match : Type 0 where
  nothing : Match
  hit : ℕ → ℕ → Match

-- The length of code points in bytes, where w is that of one.
abbrev pub size : (ℕ → ℕ) → List ℕ → ℕ
size w [] = 0
size w (c ∷ cs) = w c + size w cs

-- The longest match at the front of z; of the kinds that match as much, the smallest.
pub record Hit (w : ℕ → ℕ) (S : List Item) (z : List ℕ) (k n : ℕ) : Type 0 where
  pub front : List ℕ
  pub back : List ℕ
  pub whole : z ≡ front ++ back
  pub bytes : n ≡ size w front
  pub match : Some S k front
  pub longest : (x y : List ℕ) (j : ℕ) → z ≡ x ++ y → Some S j x → length x ≤ length front
  pub least : (j : ℕ) → Some S j front → k ≤ j

abbrev pub Longest : (ℕ → ℕ) → List Item → List ℕ → Match → Type 0
Longest w S z nothing = (x y : List ℕ) (j : ℕ) → z ≡ x ++ y → Some S j x → ⊥
Longest w S z (hit k n) = Hit w S z k n

-- ---- The longest match by computing: partial derivatives

abbrev pub nullable : Re → Bool
nullable eps = true
nullable (set b rs) = false
nullable (seq p q) = nullable p && nullable q
nullable (alt p q) = nullable p || nullable q
nullable (star p) = true

abbrev pub cat : Re → Re → Re
cat eps q = q
cat (set b rs) q = seq (set b rs) q
cat (seq p p') q = seq (seq p p') q
cat (alt p p') q = seq (alt p p') q
cat (star p) q = seq (star p) q

abbrev pub cats : List Re → Re → List Re
cats [] q = []
cats (p ∷ ps) q = cat p q ∷ cats ps q

-- What is left of an expression after the code point c.
abbrev pub after : ℕ → Re → List Re
after c eps = []
after c (set b rs) = cond (in_set c b rs) (eps ∷ []) []
after c (seq p q) = let r = after c q in cats (after c p) q ++ cond (nullable p) r []
after c (alt p q) = after c p ++ after c q
after c (star p) = cats (after c p) (star p)

abbrev pub of_kind : ℕ → List Re → List Item
of_kind k [] = []
of_kind k (r ∷ rs) = item k r ∷ of_kind k rs

abbrev pub step : ℕ → List Item → List Item
step c [] = []
step c (item k r ∷ xs) = of_kind k (after c r) ++ step c xs

abbrev pub least_of : ℕ → Match → Match
least_of k nothing = hit k 0
least_of k (hit j n) = hit (min k j) n

-- The smallest kind that matches the empty text.
abbrev pub now_at : List Item → Match
now_at [] = nothing
now_at (item k r ∷ xs) = cond (nullable r) (least_of k (now_at xs)) (now_at xs)

abbrev pub later : ℕ → Match → Match → Match
later n nothing other = other
later n (hit k m) other = hit k (n + m)

abbrev pub best : (ℕ → ℕ) → List Item → List ℕ → Match
best w S [] = now_at S
best w S (c ∷ cs) = later (w c) (best w (step c S) cs) (now_at S)

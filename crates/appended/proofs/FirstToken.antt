-- A line feed behind a text that has a token at its front, and whatever follows it, change nothing of that token.
use mathlib.Core.Path.{◌≡◌, refl, sym, ap, ap₂, ◌∙◌, subst}
use mathlib.Core.Logic.{⊎_elim}
use mathlib.Core.Bool.{Bool, true, false}
use mathlib.Core.List.{List, [], ◌∷◌, ◌++◌, append_assoc, append-nil}
use Prim.Native.Nat.{ℕ, ◌≤◌, ◌<◌}
use native.Mathlib.Omega.{arith}
use lib.Dec.{eqb}
use lib.ListN.{length, length-append}
use Rattle.text.specs.Text.{cond, member}
use Rattle.text.proofs.Compare.{contrary, and_false}
use Rattle.utf8.specs.Utf8.{width}
use Rattle.utf8.proofs.Tests.{split, or_false}
use Rattle.token.specs.Regular.{Item, Some, Match, nothing, hit, Hit, Longest, size}
use Rattle.token.specs.Terminals.{terminals, long_terminals, tripled, terminals_at, token_at}
use Rattle.token.proofs.Longest.{token_longest}
use Rattle.token.proofs.Sizes.{size_append}
use Rattle.appended.specs.Appended.{line_feed}
use Rattle.appended.proofs.Endings.{no_line_feed, long_ends}

-- Of two beginnings of a text the longer one begins with the shorter.
longer : (a b c d : List ℕ) → a ++ b ≡ c ++ d → length a ≤ length c → (y : List ℕ) × (c ≡ a ++ y)
longer [] b c d e l = (c, refl)
longer (x ∷ a) b [] d e l = absurd (omega arith)
longer (x ∷ a) b (z ∷ c) d e l =
    let p : z ≡ x = cc in
    let q : a ++ b ≡ c ++ d = cc in
    let (y, r) = longer a b c d q (omega arith) in
    (y, ap₂ (λ (u : ℕ) (v : List ℕ). u ∷ v) p r)

-- A beginning that has no line feed does not go past it.
ends_before : (z ds x y : List ℕ) → z ++ line_feed ∷ ds ≡ x ++ y → member line_feed x ≡ false → length x ≤ length z
ends_before z ds [] y e m = omega arith
ends_before [] ds (c ∷ x) y e m =
    let p : line_feed ≡ c = cc in
    contrary (ap (eqb line_feed) p ∙ (or_false (eqb line_feed c) (member line_feed x) m).0)
ends_before (b ∷ z) ds (c ∷ x) y e m =
    let q : z ++ line_feed ∷ ds ≡ x ++ y = cc in
    let r = ends_before z ds x y q (or_false (eqb line_feed c) (member line_feed x) m).1 in omega arith

-- Three quotes are there with and without the line feed.
same_three : (z ds : List ℕ) → tripled (z ++ line_feed ∷ ds) ≡ tripled z
same_three [] [] = refl
same_three [] (d ∷ []) = refl
same_three [] (d ∷ e ∷ ds) = refl
same_three (a ∷ []) [] = refl
same_three (a ∷ []) (d ∷ ds) = simp and_false
same_three (a ∷ b ∷ []) ds = simp and_false
same_three (a ∷ b ∷ c ∷ z) ds = refl

no_length : (y : List ℕ) → length y ≤ 0 → y ≡ []
no_length [] u = refl
no_length (c ∷ y) u = absurd (omega arith)

module _ (z ds : List ℕ) (k n : ℕ) where
  abbrev more_text : List ℕ
  more_text = z ++ line_feed ∷ ds

  begins : (S : List Item) (h : Hit width S z k n) → more_text ≡ h.front ++ (h.back ++ line_feed ∷ ds)
  begins S h = ap (λ (l : List ℕ). l ++ line_feed ∷ ds) h.whole ∙ append_assoc h.front h.back (line_feed ∷ ds)

  -- The longest match of the longer text is that of the shorter, where none goes past it.
  same_hit : (S : List Item) (h : Hit width S z k n) → ((x y : List ℕ) (j : ℕ) → more_text ≡ x ++ y → Some S j x → length x ≤ length h.front)
      → (m : Match) → Longest width S more_text m → m ≡ hit k n
  same_hit S h none_past nothing l = absurd (l h.front (h.back ++ line_feed ∷ ds) k (begins S h) h.match)
  same_hit S h none_past (hit j i) l =
      let a : length h.front ≤ length l.front = l.longest h.front (h.back ++ line_feed ∷ ds) k (begins S h) h.match in
      let b : length l.front ≤ length h.front = none_past l.front l.back j l.whole l.match in
      let (y, e) = longer h.front (h.back ++ line_feed ∷ ds) l.front l.back (sym (begins S h) ∙ l.whole) a in
      let c = ap length e ∙ length-append h.front y in
      let f : l.front ≡ h.front = e ∙ ap (λ (v : List ℕ). h.front ++ v) (no_length y (omega arith)) ∙ append-nil h.front in
      let p : k ≤ j = h.least j (subst (Some S j) f l.match) in
      let q : j ≤ k = l.least k (subst (Some S k) (sym f) h.match) in
      ap₂ hit (omega arith) (l.bytes ∙ ap (size width) f ∙ sym h.bytes)

  by_terminals : (b : Bool) → Longest width (cond b long_terminals terminals) z (hit k n)
      → (m : Match) → Longest width (cond b long_terminals terminals) more_text m → m ≡ hit k n
  by_terminals false h m l =
      same_hit terminals h
      (λ x y j e s. let (v, f) = longer x y z (line_feed ∷ ds) (sym e) (ends_before z ds x y e (no_line_feed j x s)) in h.longest x v j f s) m l
  by_terminals true h m l =
      same_hit long_terminals h
      (λ x y j e s.
      ⊎_elim
      (λ (p : length h.front < length x).
      let (v, f) = longer h.front (h.back ++ line_feed ∷ ds) x y (sym (begins long_terminals h) ∙ e) (omega arith) in
      let g = ap length (long_ends k j h.front v h.match (subst (Some long_terminals j) f s)) in
      let i = ap length f ∙ length-append h.front v in absurd (omega arith))
      (λ (p : length x ≤ length h.front). p) (split (length h.front) (length x))) m l

  -- The token at the front stays what it is.
  pub same_token : token_at z ≡ hit k n → token_at more_text ≡ hit k n
  same_token e =
      by_terminals (tripled z) (subst (Longest width (terminals_at z) z) e (token_longest z)) (token_at more_text)
      (subst (λ (b : Bool). Longest width (cond b long_terminals terminals) more_text (token_at more_text)) (same_three z ds) (token_longest more_text))

-- It has no more bytes than the text.
pub token_within : (z : List ℕ) (k n : ℕ) → token_at z ≡ hit k n → n ≤ size width z
token_within z k n e =
    let h : Hit width (terminals_at z) z k n = subst (Longest width (terminals_at z) z) e (token_longest z) in
    let p = ap (size width) h.whole ∙ size_append h.front h.back in
    let q = h.bytes in omega arith

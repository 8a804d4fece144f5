-- No terminal but the long strings has a line feed, and no long string goes on behind its end.
use mathlib.Core.Path.{◌≡◌, refl, sym, ap, ◌∙◌, subst}
use mathlib.Core.Logic.{inl, inr}
use mathlib.Core.Bool.{Bool, true, false, not, ◌&&◌, ◌||◌}
use mathlib.Core.List.{List, [], ◌∷◌, ◌++◌}
use Prim.Native.Nat.{ℕ}
use Prim.Native.Char.{Char, code}
use native.Mathlib.Omega.{arith}
use borrow.Author.Tests.{eqb-true}
use lib.Dec.{T, eqb}
use Rattle.text.specs.Text.{cond, between, member}
use Rattle.text.proofs.Booleans.{and_0, and_1}
use Rattle.text.proofs.Compare.{by}
use Rattle.utf8.specs.Utf8.{◌–◌}
use Rattle.utf8.proofs.Tests.{or_false, between_true}
use Rattle.token.specs.Regular.{Re, eps, set, seq, alt, star, in_set, Star, stop, more, Matches, Item, item, Some}
use Rattle.token.specs.Terminals.{◌·◌, ◌∣◌, opt, chars, none_of, char, HEX, UCHAR, ECHAR, long_string, terminals, long_terminals}
use Rattle.appended.specs.Appended.{line_feed}

-- ---- A code point that no set of an expression has

abbrev avoids : ℕ → Re → Bool
avoids d eps = true
avoids d (set b rs) = not (in_set d b rs)
avoids d (seq p q) = let r = avoids d q in avoids d p && r
avoids d (alt p q) = let r = avoids d q in avoids d p && r
avoids d (star p) = avoids d p

member_append : (d : ℕ) (x y : List ℕ) → member d x ≡ false → member d y ≡ false → member d (x ++ y) ≡ false
member_append d [] y e f = f
member_append d (c ∷ x) y e f = let (g, h) = or_false (eqb d c) (member d x) e in simp (g, member_append d x y h f)

star_avoided : (d : ℕ) (P : List ℕ → Type 0) → ((x : List ℕ) → P x → member d x ≡ false) → {z : List ℕ} → Star P z → member d z ≡ false
star_avoided d P f stop = refl
star_avoided d P f (more c x y m s e) = subst (λ (l : List ℕ). member d l ≡ false) (sym e) (member_append d (c ∷ x) y (f (c ∷ x) m) (star_avoided d P f s))

avoided : (d : ℕ) (r : Re) (z : List ℕ) → T (avoids d r) → Matches r z → member d z ≡ false
avoided d eps z t m = ap (member d) m
avoided d (set b rs) z t m =
    by (eqb d m.0)
    (λ e. absurd (contra (in_set d b rs) t (subst (λ (x : ℕ). T (in_set x b rs)) (sym (eqb-true d m.0 e)) m.2)))
    (λ e. ap (member d) m.1 ∙ simp e)
  where
    contra : (x : Bool) → T (not x) → T x → ⊥
    contra true u v = u
    contra false u v = v
avoided d (seq p q) z t m =
    ap (member d) m.2
    ∙ member_append d m.0 m.1 (avoided d p m.0 (and_0 (avoids d p) (avoids d q) t) m.3) (avoided d q m.1 (and_1 (avoids d p) (avoids d q) t) m.4)
avoided d (alt p q) z t (inl m) = avoided d p z (and_0 (avoids d p) (avoids d q) t) m
avoided d (alt p q) z t (inr m) = avoided d q z (and_1 (avoids d p) (avoids d q) t) m
avoided d (star p) z t m = star_avoided d (Matches p) (λ x n. avoided d p x t n) m

abbrev all_avoid : ℕ → List Item → Bool
all_avoid d [] = true
all_avoid d (item k r ∷ xs) = let q = all_avoid d xs in avoids d r && q

some_avoided : (d : ℕ) (S : List Item) (k : ℕ) (z : List ℕ) → T (all_avoid d S) → Some S k z → member d z ≡ false
some_avoided d [] k z t a = absurd a
some_avoided d (item j r ∷ xs) k z t (inl m) = avoided d r z (and_0 (avoids d r) (all_avoid d xs) t) m.1
some_avoided d (item j r ∷ xs) k z t (inr a) = some_avoided d xs k z (and_1 (avoids d r) (all_avoid d xs) t) a

-- No terminal but the long strings has a line feed.
pub no_line_feed : (k : ℕ) (z : List ℕ) → Some terminals k z → member line_feed z ≡ false
no_line_feed k z a = some_avoided line_feed terminals k z tt a

-- ---- Long strings

abbrev backslash : ℕ
backslash = code "\\"

-- Where a reader of a long string is: within it, behind one quote or two, behind a backslash, behind the last quote, and past that.
data Where : Type 0 where
  within one two escaped over past : Where

abbrev turn : ℕ → ℕ → Where → Where
turn q c s = cond (eqb q c) s (cond (eqb backslash c) escaped within)

abbrev next : ℕ → Where → ℕ → Where
next q within c = turn q c one
next q one c = turn q c two
next q two c = turn q c over
next q escaped c = within
next q over c = past
next q past c = past

goes : ℕ → Where → List ℕ → Where
goes q s [] = s
goes q s (c ∷ cs) = goes q (next q s c) cs

goes_append : (q : ℕ) (s : Where) (x y : List ℕ) → goes q s (x ++ y) ≡ goes q (goes q s x) y
unfolding goes
goes_append q s [] y = refl
goes_append q s (c ∷ x) y = goes_append q (next q s c) x y

goes_past : (q : ℕ) (y : List ℕ) → goes q past y ≡ past
unfolding goes
goes_past q [] = refl
goes_past q (c ∷ y) = goes_past q y

over_ends : (q : ℕ) (y : List ℕ) → goes q over y ≡ over → y ≡ []
unfolding goes
over_ends q [] e = refl
over_ends q (c ∷ y) e = let f : past ≡ over = sym (goes_past q y) ∙ e in let z : ◌≡◌ {A = ℕ} 0 1 = cc in absurd (omega arith)

-- The expressions in a long string, by its quote.
abbrev unquoted : Char → Re
unquoted q = none_of ((code q – code q) ∷ chars "\\")

abbrev body : Char → Re
body q = unquoted q ∣ ECHAR ∣ UCHAR

abbrev quotes : Char → Re
quotes q = opt (char (code q) ∣ char (code q) · char (code q))

abbrev parts : Char → Re
parts q = star (quotes q · body q)

abbrev closing : Char → Re
closing q = char (code q) · char (code q) · char (code q)

abbrev four_digits : Re
four_digits = HEX · HEX · HEX · HEX

abbrev eight_digits : Re
eight_digits = HEX · HEX · HEX · HEX · HEX · HEX · HEX · HEX

-- What is used of a quote; it is computed of both.
record Quote (q : Char) : Type 0 where
  self : eqb (code q) (code q) ≡ true
  other : eqb (code q) backslash ≡ false
  four : T (avoids (code q) four_digits)
  eight : T (avoids (code q) eight_digits)
  own : T (avoids (code q) (unquoted q))
  slash : T (avoids backslash (unquoted q))

double_quote : Quote "\""
double_quote = record { self = refl; other = refl; four = tt; eight = tt; own = tt; slash = tt }

single_quote : Quote "'"
single_quote = record { self = refl; other = refl; four = tt; eight = tt; own = tt; slash = tt }

one_char : (c : ℕ) (z : List ℕ) → Matches (char c) z → z ≡ c ∷ []
one_char c z m = m.1 ∙ ap (λ (x : ℕ). x ∷ []) (go (between c c m.0) refl m.2)
  where
    go : (b : Bool) → between c c m.0 ≡ b → T (b || false) → m.0 ≡ c
    go true e t = let (l, h) = between_true c c m.0 e in omega arith
    go false e t = absurd t

first_char : (c : ℕ) (r : Re) (z : List ℕ) → Matches (seq (char c) r) z → (v : List ℕ) × (z ≡ c ∷ v) × Matches r v
first_char c r z m = (m.1, m.2 ∙ ap (λ (l : List ℕ). l ++ m.1) (one_char c m.0 m.3), m.4)

-- Code points that are neither the quote nor a backslash lead nowhere else.
turn_plain : (q c : ℕ) (s : Where) → eqb q c ≡ false → eqb backslash c ≡ false → turn q c s ≡ within
turn_plain q c s e f = simp (e, f)

plain : (q : ℕ) (z : List ℕ) → member q z ≡ false → member backslash z ≡ false → goes q within z ≡ within
unfolding goes
plain q [] e f = refl
plain q (c ∷ z) e f =
    let (a, b) = or_false (eqb q c) (member q z) e in
    let (d, g) = or_false (eqb backslash c) (member backslash z) f in
    ap (λ (s : Where). goes q s z) (turn_plain q c one a d) ∙ plain q z b g

module _ (q : Char) (it : Quote q) where
  abbrev k : ℕ
  k = code q

  -- Where the next thing may be anything: within, or behind one quote or two.
  abbrev Ready : Where → Type 0
  Ready s = (t : Where) × ((c : ℕ) → next k s c ≡ turn k c t)

  read_quotes : (z : List ℕ) → Matches (quotes q) z → Ready (goes k within z)
  unfolding goes
  read_quotes z (inl m) = subst (λ (l : List ℕ). Ready (goes k within l)) (sym m) (one, λ c. refl)
  read_quotes z (inr (inl m)) =
      let e : goes k within z ≡ one = ap (goes k within) (one_char k z m) ∙ simp it.self in
      subst Ready (sym e) (two, λ c. refl)
  read_quotes z (inr (inr m)) =
      let (v, f, n) = first_char k (char k) z m in
      let e : goes k within z ≡ two = ap (goes k within) (f ∙ ap (λ (l : List ℕ). k ∷ l) (one_char k v n)) ∙ simp it.self in
      subst Ready (sym e) (over, λ c. refl)

  -- An escape: a backslash, a code point, and others that are neither the quote nor a backslash.
  read_escape : (s : Where) → Ready s → (d : ℕ) (v : List ℕ) → member k v ≡ false → member backslash v ≡ false → goes k s (backslash ∷ d ∷ v) ≡ within
  unfolding goes
  read_escape s (t, r) d v e f =
      let a : next k s backslash ≡ escaped = r backslash ∙ simp it.other in
      ap (λ (x : Where). goes k (next k x d) v) a ∙ plain k v e f

  read_numeric : (s : Where) → Ready s → (u : ℕ) (digits : Re) → T (avoids k digits) → T (avoids backslash digits) → (z : List ℕ)
      → Matches (seq (char backslash) (seq (char u) digits)) z → goes k s z ≡ within
  read_numeric s r u digits a b z m =
      let (x, e, n) = first_char backslash (seq (char u) digits) z m in
      let (v, f, o) = first_char u digits x n in
      ap (goes k s) (e ∙ ap (λ (l : List ℕ). backslash ∷ l) f) ∙ read_escape s r u v (avoided k digits v a o) (avoided backslash digits v b o)

  single : (d c : ℕ) → member d (c ∷ []) ≡ false → eqb d c ≡ false
  single d c e = (or_false (eqb d c) false e).0

  read_body : (s : Where) → Ready s → (z : List ℕ) → Matches (body q) z → goes k s z ≡ within
  unfolding goes
  read_body s (t, r) z (inl m) =
      let a = avoided k (unquoted q) (m.0 ∷ []) it.own (m.0, refl, m.2) in
      let b = avoided backslash (unquoted q) (m.0 ∷ []) it.slash (m.0, refl, m.2) in
      ap (goes k s) m.1 ∙ r m.0 ∙ turn_plain k m.0 t (single k m.0 a) (single backslash m.0 b)
  read_body s r z (inr (inl m)) =
      let (v, e, n) = first_char backslash (set true (chars "tbnrf\"'\\")) z m in
      ap (goes k s) (e ∙ ap (λ (l : List ℕ). backslash ∷ l) n.1) ∙ read_escape s r n.0 [] refl refl
  read_body s r z (inr (inr (inl m))) = read_numeric s r (code "u") four_digits it.four tt z m
  read_body s r z (inr (inr (inr m))) = read_numeric s r (code "U") eight_digits it.eight tt z m

  read_part : (z : List ℕ) → Matches (quotes q · body q) z → goes k within z ≡ within
  read_part z m = ap (goes k within) m.2 ∙ goes_append k within m.0 m.1 ∙ read_body (goes k within m.0) (read_quotes m.0 m.3) m.1 m.4

  read_parts : {z : List ℕ} → Star (Matches (quotes q · body q)) z → goes k within z ≡ within
  unfolding goes
  read_parts stop = refl
  read_parts (more c x y m s e) = ap (goes k within) e ∙ goes_append k within (c ∷ x) y ∙ ap (λ (t : Where). goes k t y) (read_part (c ∷ x) m) ∙ read_parts s

  -- A long string: three quotes, and what leads to the last.
  read_long : (z : List ℕ) → Matches (long_string q) z → (v : List ℕ) × (z ≡ k ∷ k ∷ k ∷ v) × (goes k within v ≡ over)
  unfolding goes
  read_long z m =
      let (x, e, n) = first_char k (char k · char k · parts q · closing q) z m in
      let (y, f, o) = first_char k (char k · parts q · closing q) x n in
      let (v, g, p) = first_char k (parts q · closing q) y o in
      let (a, h, l) = first_char k (char k · char k) p.1 p.4 in
      let (b, i, j) = first_char k (char k) a l in
      let last : p.1 ≡ k ∷ k ∷ k ∷ [] = h ∙ ap (λ (x : List ℕ). k ∷ x) (i ∙ ap (λ (x : List ℕ). k ∷ x) (one_char k b j)) in
      let ends : goes k within (k ∷ k ∷ k ∷ []) ≡ over = simp it.self in (
        v,
        e ∙ ap (λ (x : List ℕ). k ∷ x) (f ∙ ap (λ (x : List ℕ). k ∷ x) g),
        ap (goes k within) p.2 ∙ goes_append k within p.0 p.1 ∙ ap (λ (t : Where). goes k t p.1) (read_parts p.3) ∙ ap (goes k within) last ∙ ends,
      )

  -- No long string goes on behind its end.
  sharp : (x y : List ℕ) → Matches (long_string q) x → Matches (long_string q) (x ++ y) → y ≡ []
  sharp x y m n =
      let (v, e, f) = read_long x m in
      let (w, g, h) = read_long (x ++ y) n in
      let i : v ++ y ≡ w = (let j : k ∷ k ∷ k ∷ (v ++ y) ≡ k ∷ k ∷ k ∷ w = ap (λ (l : List ℕ). l ++ y) (sym e) ∙ g in cc) in
      over_ends k y (ap (λ (t : Where). goes k t y) (sym f) ∙ sym (goes_append k within v y) ∙ ap (goes k within) i ∙ h)

-- The two kinds begin with different quotes.
differ : (p q : Char) → Quote p → Quote q → (x y : List ℕ) → Matches (long_string p) x → Matches (long_string q) (x ++ y) → code p ≡ code q
differ p q a b x y m n =
    let (v, e, f) = read_long p a x m in
    let (w, g, h) = read_long q b (x ++ y) n in
    let i : code p ∷ code p ∷ code p ∷ (v ++ y) ≡ code q ∷ code q ∷ code q ∷ w = ap (λ (l : List ℕ). l ++ y) (sym e) ∙ g in cc

pub long_ends : (j k : ℕ) (x y : List ℕ) → Some long_terminals j x → Some long_terminals k (x ++ y) → y ≡ []
long_ends j k x y (inl m) (inl n) = sharp "\"" double_quote x y m.1 n.1
long_ends j k x y (inl m) (inr (inl n)) = let d = differ "\"" "'" double_quote single_quote x y m.1 n.1 in absurd (omega arith)
long_ends j k x y (inl m) (inr (inr n)) = absurd n
long_ends j k x y (inr (inl m)) (inl n) = let d = differ "'" "\"" single_quote double_quote x y m.1 n.1 in absurd (omega arith)
long_ends j k x y (inr (inl m)) (inr (inl n)) = sharp "'" single_quote x y m.1 n.1
long_ends j k x y (inr (inl m)) (inr (inr n)) = absurd n
long_ends j k x y (inr (inr m)) n = absurd m

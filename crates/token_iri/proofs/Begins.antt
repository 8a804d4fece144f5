-- What a token begins with, by its kind: an IRIREF with "<", a string with its quote. This is what a caller knows of the token.
use Prim.Native.Nat.{ℕ, ◌<◌}
use mathlib.Core.Path.{◌≡◌, refl, ap, sym, subst, ◌∙◌}
use mathlib.Core.List.{List, [], ◌∷◌, ◌++◌}
use mathlib.Core.Bool.{Bool, true, false, not, ◌&&◌, ◌||◌}
use mathlib.Core.Logic.{inl, inr}
use mathlib.Core.Option.{none}
use native.Mathlib.Omega.{arith}
use lib.ListN.{get_or}
use lib.Dec.{T, eqb}
use borrow.Author.Tests.{eqb-true, eq-eqb, lt-ltb}
use Rattle.text.specs.Text.{Text, between}
use Rattle.text.proofs.Compare.{by, contrary, and_left, and_right}
use Rattle.utf8.specs.Utf8.{Range, ◌–◌, decode, first_bad, encodes, width}
use Rattle.utf8.proofs.Decoding.{valid_encoded}
use Rattle.utf8.proofs.Tests.{between_true}
use Rattle.token.specs.Regular.{in_ranges, in_set, Re, eps, set, seq, alt, star, Item, item, Some, Matches, Match, hit, Hit, Longest}
use Rattle.token.specs.Terminals.{terminals, long_terminals, tripled, terminals_at, token_at}
use Rattle.token.proofs.Longest.{token_longest}

-- Is c all that the ranges hold?
abbrev just : ℕ → List Range → Bool
just c [] = true
just c ((lo – hi) ∷ rs) = eqb lo c && (eqb hi c && just c rs)

abbrev just_in : ℕ → Bool → List Range → Bool
just_in c true rs = just c rs
just_in c false rs = false

-- Does each text that the expression matches begin with c?
abbrev starts : ℕ → Re → Bool
starts c eps = false
starts c (set b rs) = just_in c b rs
starts c (seq p q) = starts c p
starts c (alt p q) = false
starts c (star p) = false

-- Do so all expressions of the kind k?
abbrev all_start : ℕ → ℕ → List Item → Bool
all_start k c [] = true
all_start k c (item j r ∷ xs) = (not (eqb j k) || starts c r) && all_start k c xs

pub record Begins (c : ℕ) (z : List ℕ) : Type 0 where
  pub rest : List ℕ
  pub whole : z ≡ c ∷ rest

just_one : (c : ℕ) (rs : List Range) (d : ℕ) → just c rs ≡ true → T (in_ranges d rs) → d ≡ c
just_one c [] d e t = absurd t
just_one c ((lo – hi) ∷ rs) d e t =
    let l : lo ≡ c = eqb-true lo c (and_left (eqb lo c) _ e) in
    let h : hi ≡ c = eqb-true hi c (and_left (eqb hi c) _ (and_right (eqb lo c) _ e)) in
    by (between lo hi d)
    (λ b. let p = between_true lo hi d b in omega (arith, p.0, p.1))
    (λ b. just_one c rs d (and_right (eqb hi c) _ (and_right (eqb lo c) _ e)) (subst (λ (x : Bool). T (x || in_ranges d rs)) b t))

just_set : (c : ℕ) (b : Bool) (rs : List Range) (d : ℕ) → just_in c b rs ≡ true → T (in_set d b rs) → d ≡ c
just_set c true rs d e t = just_one c rs d e t
just_set c false rs d e t = contrary (sym e)

begins_match : (c : ℕ) (r : Re) (z : List ℕ) → starts c r ≡ true → Matches r z → Begins c z
begins_match c eps z e m = contrary (sym e)
begins_match c (set b rs) z e (d, w, t) = record { rest = []; whole = w ∙ ap (λ (x : ℕ). x ∷ []) (just_set c b rs d e t) }
begins_match c (seq p q) z e (x, y, w, m, n) = let b = begins_match c p x e m in record { rest = b.rest ++ y; whole = w ∙ ap (λ (l : List ℕ). l ++ y) b.whole }
begins_match c (alt p q) z e m = contrary (sym e)
begins_match c (star p) z e m = contrary (sym e)

begins_some : (k c : ℕ) (xs : List Item) (z : List ℕ) → all_start k c xs ≡ true → Some xs k z → Begins c z
begins_some k c [] z e s = absurd s
begins_some k c (item j r ∷ xs) z e (inl (q, m)) = begins_match c r z (own (and_left (not (eqb j k) || starts c r) _ e)) m
  where
    own : (not (eqb j k) || starts c r) ≡ true → starts c r ≡ true
    own h = rw (eq-eqb j k q) at h
begins_some k c (item j r ∷ xs) z e (inr s) = begins_some k c xs z (and_right (not (eqb j k) || starts c r) _ e) s

-- A token of the kind k begins with c.
module _ (k c : ℕ) (short : all_start k c terminals ≡ true) (long : all_start k c long_terminals ≡ true) where
  either : (cs : List ℕ) → all_start k c (terminals_at cs) ≡ true
  either cs = by (tripled cs) (λ e. rw e long) (λ e. rw e short)

  hit_begins : (cs : List ℕ) (n : ℕ) → Hit width (terminals_at cs) cs k n → Begins c cs
  hit_begins cs n h =
      let b = begins_some k c (terminals_at cs) h.front (either cs) h.match in
      record { rest = b.rest ++ h.back; whole = h.whole ∙ ap (λ (l : List ℕ). l ++ h.back) b.whole }

  pub token_begins : (cs : List ℕ) (n : ℕ) → token_at cs ≡ hit k n → Begins c cs
  token_begins cs n e = hit_begins cs n (subst (λ (m : Match). Longest width (terminals_at cs) cs m) e (token_longest cs))

  -- The same of the bytes of a text whose first token is of this kind.
  pub text_begins : c < 128 → (s : Text) → first_bad s ≡ none → (n : ℕ) → token_at (decode s) ≡ hit k n → get_or s 0 0 ≡ c
  unfolding encodes
  text_begins low s v n e =
      let b = token_begins (decode s) n e in
      ap (λ (l : Text). get_or l 0 0) ((valid_encoded s v).bytes ∙ ap encodes b.whole) ∙ rw (lt-ltb c 0x80 low)

pub iriref_begins : (s : Text) → first_bad s ≡ none → (n : ℕ) → token_at (decode s) ≡ hit 1 n → get_or s 0 0 ≡ 60
iriref_begins s v n e = text_begins 1 60 refl refl (omega arith) s v n e

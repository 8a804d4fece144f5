-- Sets of bytes: a test that is made by comparisons has a value on a range, or on some bytes, that is computed; and what is of a set is below 128.
use mathlib.Core.Path.{◌≡◌, refl, subst, sym, ap, ◌∙◌}
use mathlib.Core.Logic.{inl, inr, ⊎_elim}
use mathlib.Core.Bool.{Bool, true, false, ◌&&◌, ◌||◌}
use mathlib.Core.List.{List, [], ◌∷◌}
use Prim.Native.Nat.{ℕ, ◌+◌, ◌-◌, ◌/◌, ◌%◌, ◌^◌, ◌≤◌, ◌<◌}
use native.Mathlib.Omega.{arith}
use lib.Dec.{T, eqb, ltb, ltb→lt}
use lib.ListN.{length, get_or}
use types.Run.{OneOf, hit}
use mir.Val.{has_key}
use Rattle.std.specs.Prelude.{Option, Some}
use Rattle.automaton.specs.declared.Token.{Token}
use Rattle.text.specs.Text.{Text, between}
use Rattle.utf8.specs.Utf8.{Range, ◌–◌}
use Rattle.utf8.proofs.Tests.{by, below, below_at, and_true, or_true, between_true, same, same_eq}
use Rattle.token.specs.Regular.{in_ranges}
use Rattle.automaton.specs.States.{State}
use Rattle.automaton.specs.Run.{tok, At}
use Rattle.automaton.proofs.Steps.{Sent, pass, gain}

-- ---- The value of a test

-- The value is v on the n bytes from lo on, but for those of ks.
pub ranged : (rs : List Range) (v : Bool) (ks : List ℕ) (lo n : ℕ) → T (below (λ k. has_key ks (lo + k) || same v (in_ranges (lo + k) rs)) n)
    → (b : ℕ) → (OneOf ks b → ⊥) → lo ≤ b → b < lo + n → v ≡ in_ranges b rs
ranged rs v ks lo n t b o l u =
    fin (has_key ks b) refl
    (subst (λ (x : ℕ). T (has_key ks x || same v (in_ranges x rs))) (omega arith)
    (below_at (λ k. has_key ks (lo + k) || same v (in_ranges (lo + k) rs)) n t (b - lo) (omega arith)))
  where
    fin : (p : Bool) → has_key ks b ≡ p → T (p || same v (in_ranges b rs)) → v ≡ in_ranges b rs
    fin true e t = absurd (o (hit ks b (subst T (sym e) tt)))
    fin false e t = same_eq v (in_ranges b rs) t

abbrev every : List Range → Bool → List ℕ → Bool
every rs v [] = true
every rs v (k ∷ ks) = same v (in_ranges k rs) && every rs v ks

-- The value is v on each of the bytes ks.
pub keyed : (rs : List Range) (v : Bool) (ks : List ℕ) → T (every rs v ks) → (b : ℕ) → OneOf ks b → v ≡ in_ranges b rs
keyed rs v [] t b o = absurd o
keyed rs v (k ∷ []) t b o = same_eq v (in_ranges k rs) (and_true (same v (in_ranges k rs)) true t).0 ∙ ap (λ (x : ℕ). in_ranges x rs) (sym o)
keyed rs v (k ∷ j ∷ ks) t b (inl o) =
    same_eq v (in_ranges k rs) (and_true (same v (in_ranges k rs)) (every rs v (j ∷ ks)) t).0 ∙ ap (λ (x : ℕ). in_ranges x rs) (sym o)
keyed rs v (k ∷ j ∷ ks) t b (inr o) = keyed rs v (j ∷ ks) (and_true (same v (in_ranges k rs)) (every rs v (j ∷ ks)) t).1 b o

-- What a `match` says of its last arm: none of the keys of the arms before it, the last of them first.
abbrev RestOf : List (List ℕ) → ℕ → Type 0
RestOf [] b = Unit {0}
RestOf (ks ∷ kss) b = RestOf kss b × (OneOf ks b → ⊥)

abbrev has_any : List (List ℕ) → ℕ → Bool
has_any [] b = false
has_any (ks ∷ kss) b = has_key ks b || has_any kss b

has_none : (kss : List (List ℕ)) (b : ℕ) → RestOf kss b → has_any kss b ≡ false
has_none [] b r = refl
has_none (ks ∷ kss) b r =
    by (has_key ks b) (λ e. absurd (r.1 (hit ks b (subst T (sym e) tt)))) (λ e. ap (λ (v : Bool). v || has_any kss b) e ∙ has_none kss b r.0)

-- The value is v on the n bytes from lo on, but for the keys of the arms.
pub ranged_rest : (rs : List Range) (v : Bool) (kss : List (List ℕ)) (lo n : ℕ) → T (below (λ k. has_any kss (lo + k) || same v (in_ranges (lo + k) rs)) n)
    → (b : ℕ) → RestOf kss b → lo ≤ b → b < lo + n → v ≡ in_ranges b rs
ranged_rest rs v kss lo n t b r l u =
    let e : lo + (b - lo) ≡ b = omega arith in
    let w : T (has_any kss b || same v (in_ranges b rs)) =
    subst (λ (x : ℕ). T (has_any kss x || same v (in_ranges x rs))) e
    (below_at (λ k. has_any kss (lo + k) || same v (in_ranges (lo + k) rs)) n t (b - lo) (omega arith)) in
    same_eq v (in_ranges b rs) (subst (λ (x : Bool). T (x || same v (in_ranges b rs))) (has_none kss b r) w)

-- A test with a definition of its own is that of the set, on each byte.
pub told : (rs : List Range) (f : ℕ → Bool) → T (below (λ k. same (f k) (in_ranges k rs)) 256) → (b : ℕ) → b < 256 → f b ≡ in_ranges b rs
told rs f t b h = same_eq (f b) (in_ranges b rs) (below_at (λ k. same (f k) (in_ranges k rs)) 256 t b h)

-- ---- Sets below 128

abbrev pub all_low : List Range → Bool
all_low [] = true
all_low ((lo – hi) ∷ rs) = ltb hi 128 && all_low rs

pub set_low : (rs : List Range) → T (all_low rs) → (b : ℕ) → in_ranges b rs ≡ true → b < 128
set_low [] t b e = absurd (subst T (sym e) tt)
set_low ((lo – hi) ∷ rs) t b e =
    let u = and_true (ltb hi 128) (all_low rs) t in
    ⊎_elim (λ x. let y = (between_true lo hi b x).1 in let z = ltb→lt hi 128 u.0 in omega arith) (set_low rs u.1 b) (or_true (between lo hi b) (in_ranges b rs) e)

-- A byte of a set, which the automaton takes; t says that the set lies below 128.
module _ {s : Text} {q : State} {i : ℕ} {seen : Option Token} (rs : List Range) {q2 : State} (g : At s q i seen) (h : i < length s) (t : T (all_low rs)) (e : in_ranges (get_or s i 0) rs ≡ true) where
  pub take_pass : Sent q (λ b. in_ranges b rs) q2 0 → At s q2 (i + 1) seen
  take_pass m = pass g h (set_low rs t (get_or s i 0) e) e m

  pub take_gain : {k : ℕ} → 0 < k → Sent q (λ b. in_ranges b rs) q2 k → At s q2 (i + 1) (Some (tok k (i + 1)))
  take_gain p m = gain g h (set_low rs t (get_or s i 0) e) e p m

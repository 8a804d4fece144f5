-- The first refusal of a list of tests.
use mathlib.Core.Path.{◌≡◌, refl, sym, ap, ◌∙◌, subst}
use mathlib.Core.Logic.{◌↔◌}
use mathlib.Core.List.{List, [], ◌∷◌, ◌++◌, map}
use mathlib.Core.Bool.{Bool, true, false, not}
use mathlib.Core.Option.{Option, none, some}
use Prim.Native.Nat.{ℕ, zero, suc}
use native.Mathlib.Omega.{arith}
use borrow.Author.Tests.{ltb-false, le-ltb}
use lib.Dec.{T, eqb}
use lib.ListN.{length}
use Rattle.text.specs.Text.{cond}
use Rattle.text.proofs.Booleans.{all, and_0, and_1}
use Rattle.text.proofs.Compare.{contrary}
use Rattle.token.specs.Tokens.{Token}
use Rattle.table.specs.Tables.{or_zero, store_size}
use Rattle.table.proofs.Numbers.{not_none}
use Rattle.machine.specs.Memory.{Memory, Write}
use Rattle.machine.specs.Frame.{Open}
use Rattle.machine.specs.Refusals.{escape_tests, force_tests, room_tests}
use Rattle.machine.specs.Step.{Room, State, in_force_now, Test, ◌when◌, first_refusal, tests}
use Rattle.machine.specs.Demand.{Fits}
use Rattle.machine.proofs.Made.{some_same}

-- ---- Numbers

unfoldable pub number_of : Test → ℕ
number_of (n when b) = n

-- The tests of a token stand in number order.
in_order : (room : Room) (s : State) (t : Token) (rule : Option (Write Open)) (s' : State) → map number_of (tests room s t rule s') ≡ 7 ∷ 8 ∷ 9 ∷ 10 ∷ 11 ∷ 12 ∷ 13 ∷ 14 ∷ 15 ∷ 16 ∷ []
unfolding number_of
in_order room s t rule s' = refl

pick : (p : ℕ → Bool) (b : Bool) (n : ℕ) (r : Option ℕ) (c : ℕ) → T (p n) → (r ≡ some c → T (p c)) → cond b (some n) r ≡ some c → T (p c)
pick p true n r c t f q = let e : n ≡ c = cc in subst (λ x. T (p x)) e t
pick p false n r c t f q = f q

-- What holds of the number of each test holds of the number of a refusal.
pub refusal_number : (p : ℕ → Bool) (ts : List Test) → T (all (λ x. p (number_of x)) ts) → (c : ℕ) → first_refusal ts ≡ some c → T (p c)
unfolding all number_of
refusal_number p [] t c q = let z : ◌≡◌ {A = ℕ} 0 1 = cc in absurd (omega arith)
refusal_number p ((n when b) ∷ ts) t c q = pick p b n (first_refusal ts) c (and_0 (p n) _ t) (λ r. refusal_number p ts (and_1 (p n) _ t) c r) q

-- ---- Where none refuses

-- No test holds.
abbrev pub Passes : List Test → Type 0
Passes [] = Unit {0}
Passes (n when b ∷ ts) = (b ≡ false) × Passes ts

pub passes_none : (ts : List Test) → Passes ts → first_refusal ts ≡ none
passes_none [] p = refl
passes_none (n when b ∷ ts) (e, p) = ap (λ x. cond x (some n) (first_refusal ts)) e ∙ passes_none ts p

pub none_passes : (ts : List Test) → first_refusal ts ≡ none → Passes ts
none_passes [] e = tt
none_passes (n when true ∷ ts) e = not_none (sym e)
none_passes (n when false ∷ ts) e = (refl, none_passes ts e)

-- Tests of two lists.
pub passes_both : (xs ys : List Test) → Passes xs → Passes ys → Passes (xs ++ ys)
passes_both [] ys p q = q
passes_both (n when b ∷ xs) ys (e, p) q = (e, passes_both xs ys p q)

pub passes_each : (xs ys : List Test) → Passes (xs ++ ys) → Passes xs × Passes ys
passes_each [] ys q = (tt, q)
passes_each (n when b ∷ xs) ys (e, p) = let (u, v) = passes_each xs ys p in ((e, u), v)

-- ---- The first of two lists

-- It is the first of the one; or where this has none, that of the other.
pub first_of_both : (P : Option ℕ → Type 0) (xs ys : List Test) → ((c : ℕ) → first_refusal xs ≡ some c → P (some c)) → (first_refusal xs ≡ none → P (first_refusal ys))
    → P (first_refusal (xs ++ ys))
first_of_both P [] ys f g = g refl
first_of_both P (n when true ∷ xs) ys f g = f n refl
first_of_both P (n when false ∷ xs) ys f g = first_of_both P xs ys f g

-- Tests that do not hold can be left out,
pub first_past : (xs ys : List Test) → Passes xs → first_refusal (xs ++ ys) ≡ first_refusal ys
first_past xs ys p = first_of_both (λ o. o ≡ first_refusal ys) xs ys (λ c e. not_none (sym (passes_none xs p) ∙ e)) (λ e. refl)

-- and where one holds, those behind it.
pub first_stands : (xs ys : List Test) (c : ℕ) → first_refusal xs ≡ some c → first_refusal (xs ++ ys) ≡ some c
first_stands xs ys c q = first_of_both (λ o. o ≡ some c) xs ys (λ d e. sym e ∙ q) (λ e. not_none (sym e ∙ q))

-- Tests at the end that do not hold can be left out too.
pub first_before : (xs ys : List Test) → Passes ys → first_refusal (xs ++ ys) ≡ first_refusal xs
first_before xs ys p = first_of_both (λ o. o ≡ first_refusal xs) xs ys (λ c e. sym e) (λ e. passes_none ys p ∙ sym e)

-- ---- Numbers, 0 where none refuses

-- No test has the number 0.
abbrev pub positive : List Test → Bool
positive [] = true
positive (zero when b ∷ ts) = false
positive (suc n when b ∷ ts) = positive ts

pub zero_none : (ts : List Test) → positive ts ≡ true → or_zero (first_refusal ts) ≡ 0 → first_refusal ts ≡ none
zero_none [] p e = refl
zero_none (zero when b ∷ ts) p e = let z : ◌≡◌ {A = ℕ} 0 1 = cc in absurd (omega arith)
zero_none (suc n when true ∷ ts) p e = absurd (omega arith)
zero_none (suc n when false ∷ ts) p e = zero_none ts p e

pub zero_passes : (ts : List Test) → positive ts ≡ true → or_zero (first_refusal ts) ≡ 0 → Passes ts
zero_passes ts p e = none_passes ts (zero_none ts p e)

pub passes_zero : (ts : List Test) → Passes ts → or_zero (first_refusal ts) ≡ 0
passes_zero ts p = ap or_zero (passes_none ts p)

pub number_some : (ts : List Test) → (or_zero (first_refusal ts) ≡ 0 → ⊥) → first_refusal ts ≡ some (or_zero (first_refusal ts))
number_some ts z = go (first_refusal ts) z
  where
    go : (o : Option ℕ) → (or_zero o ≡ 0 → ⊥) → o ≡ some (or_zero o)
    go none z = absurd (z refl)
    go (some n) z = refl

pub number_past : (xs ys : List Test) → positive xs ≡ true → or_zero (first_refusal xs) ≡ 0 → or_zero (first_refusal (xs ++ ys)) ≡ or_zero (first_refusal ys)
number_past xs ys p e = ap or_zero (first_past xs ys (zero_passes xs p e))

pub number_stands : (xs ys : List Test) → (or_zero (first_refusal xs) ≡ 0 → ⊥) → or_zero (first_refusal (xs ++ ys)) ≡ or_zero (first_refusal xs)
number_stands xs ys z = ap or_zero (first_stands xs ys (or_zero (first_refusal xs)) (number_some xs z))

-- ---- Room

-- What fits passes the tests of room,
pub fits_passes : (room : Room) (m : Memory) → Fits room m → Passes (room_tests room m)
fits_passes room m f =
    (le-ltb room.rows (length m.rows) f.rows, (le-ltb room.terms (length m.terms) f.terms, (le-ltb room.store (store_size m.terms) f.store, tt)))

-- and nothing else does.
pub passes_fits : (room : Room) (m : Memory) → Passes (room_tests room m) → Fits room m
passes_fits room m (r, (t, (s, u))) =
    record {
      rows = ltb-false room.rows (length m.rows) r;
      terms = ltb-false room.terms (length m.terms) t;
      store = ltb-false room.store (store_size m.terms) s;
    }

-- ---- The tests of a token

module _ (room : Room) (s : State) (t : Token) where
  -- Where a rule is there, they are the token's own and those of room.
  pub own_and_room : (w : Write Open) (s' : State)
      → (first_refusal (tests room s t (some w) s') ≡ none) ↔ (Passes (escape_tests t) × (Passes (force_tests (in_force_now s) s.depth t) × Passes (room_tests room s'.memory)))
  own_and_room w s' =
      let es = escape_tests t in
      let fs = force_tests (in_force_now s) s.depth t in
      let rs = room_tests room s'.memory in (
        λ e. let (x, y) = passes_each es (fs ++ rs) (none_passes (es ++ fs ++ rs) e) in (x, passes_each fs rs y),
        λ p. passes_none (es ++ fs ++ rs) (passes_both es (fs ++ rs) p.0 (passes_both fs rs p.1.0 p.1.1)),
      )

  -- Where there is none, the token is refused: by 8, if its escapes name characters.
  pub no_rule : {A : Type 0} → first_refusal (tests room s t none s) ≡ none → A
  no_rule e = contrary (passes_each (escape_tests t) (8 when true ∷ force_tests (in_force_now s) s.depth t ++ room_tests room s.memory) (none_passes (tests room s t none s) e)).1.0

  pub eight_passes : first_refusal (tests room s t none s) ≡ some 8 → Passes (escape_tests t)
  unfolding all number_of
  eight_passes e = none_passes (escape_tests t) (go (first_refusal (escape_tests t)) refl)
    where
      go : (o : Option ℕ) → first_refusal (escape_tests t) ≡ o → first_refusal (escape_tests t) ≡ none
      go none q = q
      go (some c) q =
          let z : c ≡ 8 = some_same (sym (first_stands (escape_tests t) (8 when true ∷ []) c q) ∙ e) in
          absurd (subst (λ x. T (not (eqb x 8))) z (refusal_number (λ x. not (eqb x 8)) (escape_tests t) tt c q))

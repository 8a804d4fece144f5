-- Runs of bytes of a set: what a loop over them shows, and a state that they do not leave.
use mathlib.Core.Path.{◌≡◌, refl, subst, sym, ap, ap₂, ◌∙◌}
use mathlib.Core.Logic.{⊎_elim}
use mathlib.Core.Bool.{Bool, true, false, ◌&&◌}
use mathlib.Core.List.{List, [], ◌∷◌}
use Prim.Native.Nat.{ℕ, zero, suc, ◌+◌, ◌-◌, ◌≤◌, ◌<◌}
use native.Mathlib.Omega.{arith}
use native.Mathlib.Nat.{add-zero}
use lib.Dec.{T}
use lib.ListN.{length, get_or, take, drop}
use Rattle.std.specs.Prelude.{Option, Some, ◌↔◌}
use Rattle.std.specs.List.{AllPass}
use Rattle.automaton.specs.declared.Token.{Token}
use Rattle.text.specs.Text.{Text}
use Rattle.text.proofs.Compare.{and_false}
use Rattle.utf8.specs.Utf8.{Range}
use Rattle.utf8.proofs.Tests.{split, by}
use Rattle.utf8.proofs.Decoding.{tail_eq}
use Rattle.token.specs.Regular.{in_ranges}
use Rattle.automaton.specs.States.{State}
use Rattle.automaton.specs.Run.{tok, At}
use Rattle.automaton.proofs.Steps.{Sent}
use Rattle.characters.specs.Bytes.{hex}
use Rattle.characters.specs.Runs.{hex_run, Span}
use Rattle.characters.proofs.Sets.{all_low, take_gain}

abbrev pub All : List Range → Text → ℕ → ℕ → Type 0
All rs s a e = (j : ℕ) → a ≤ j → j < e → in_ranges (get_or s j 0) rs ≡ true

pub span_begin : (rs : List Range) (s : Text) (a : ℕ) → All rs s a a
span_begin rs s a j l u = absurd (omega arith)

module _ (rs : List Range) (s : Text) (a i : ℕ) (all : All rs s a i) where
  pub span_more : in_ranges (get_or s i 0) rs ≡ true → All rs s a (i + 1)
  span_more e j l u =
      ⊎_elim (λ x. all j l x) (λ x. let m : j ≡ i = omega arith in subst (λ (n : ℕ). in_ranges (get_or s n 0) rs ≡ true) (sym m) e) (split j i)

  pub span_stop : a ≤ i → i < length s → in_ranges (get_or s i 0) rs ≡ false → Span rs s a i
  span_stop l u e = record { from = l; within = omega arith; all = all; stop = λ _. e }

  pub span_end : a ≤ i → i ≤ length s → length s ≤ i → Span rs s a i
  span_end l u e = record { from = l; within = u; all = all; stop = λ x. absurd (omega arith) }

-- A state where a token of the kind k ends, and which the bytes of the set do not leave.
pub stay : {q : State} {k : ℕ} (rs : List Range) → T (all_low rs) → 0 < k → Sent q (λ b. in_ranges b rs) q k
    → {s : Text} {a e : ℕ} → Span rs s a e → At s q a (Some (tok k a)) → At s q e (Some (tok k e))
stay {q} {k} rs low p t {s} {a} {e} sp g =
    let h = sp.from in
    let m : a + (e - a) ≡ e = omega arith in
    subst (λ (n : ℕ). At s q n (Some (tok k n))) m (up (e - a) (omega arith))
  where
    up : (n : ℕ) → a + n ≤ e → At s q (a + n) (Some (tok k (a + n)))
    up zero h = subst (λ (n : ℕ). At s q n (Some (tok k n))) (sym (add-zero a)) g
    up (suc n) h =
        let w = sp.within in
        let m : a + n + 1 ≡ a + suc n = omega arith in
        subst (λ (n : ℕ). At s q n (Some (tok k n))) m
        (take_gain rs (up n (omega arith)) (omega arith) low (sp.all (a + n) (omega arith) (omega arith)) p t)

-- A run of at least one byte, from a state that its first byte leaves.
pub enter : {q q2 : State} {k : ℕ} (rs : List Range) → T (all_low rs) → 0 < k → Sent q (λ b. in_ranges b rs) q2 k → Sent q2 (λ b. in_ranges b rs) q2 k
    → {s : Text} {a e : ℕ} {seen : Option Token} → Span rs s a e → a < e → At s q a seen → At s q2 e (Some (tok k e))
enter rs low p t t' {s} {a} {e} sp h g =
    let w = sp.within in
    stay rs low p t' (record { from = omega arith; within = w; all = λ j l u. sp.all j (omega arith) u; stop = sp.stop })
    (take_gain rs g (omega arith) low (sp.all a (omega arith) h) p t)

-- ---- Hexadecimal digits

abbrev is_hex : ℕ → Bool
is_hex b = in_ranges b hex

run_of : (n : ℕ) (s : Text) → n ≤ length s → AllPass is_hex (take n s) → hex_run n s ≡ true
unfolding hex_run
run_of zero s h a = refl
run_of (suc n) [] h a = absurd (omega arith)
run_of (suc n) (b ∷ s) h a = rw (a 0 0 (omega arith), run_of n s (omega arith) (λ k d l. a (suc k) d (omega arith)))

both : (a b : Bool) → (a && b) ≡ true → (a ≡ true) × (b ≡ true)
both true b e = (refl, e)
both false b e = absurd (subst T (sym e) tt)

of_run : (n : ℕ) (s : Text) → hex_run n s ≡ true → AllPass is_hex (take n s)
unfolding hex_run
of_run zero s e k d l = absurd (omega arith)
of_run (suc n) [] e k d l = absurd (omega arith)
of_run (suc n) (b ∷ s) e zero d l = (both (is_hex b) (hex_run n s) e).0
of_run (suc n) (b ∷ s) e (suc k) d l = of_run n s (both (is_hex b) (hex_run n s) e).1 k d (omega arith)

-- Too few bytes stand there.
pub hex_short : (n : ℕ) (s : Text) → length s < n → false ≡ hex_run n s
unfolding hex_run
hex_short zero s h = absurd (omega arith)
hex_short (suc n) [] h = refl
hex_short (suc n) (b ∷ s) h = sym (ap (λ (v : Bool). is_hex b && v) (sym (hex_short n s (omega arith))) ∙ and_false (is_hex b))

all_of : (n : ℕ) (s : Text) → n ≤ length s → (v : Bool) → (v ≡ true ↔ AllPass is_hex (take n s)) → v ≡ hex_run n s
all_of n s h true w = sym (run_of n s h (w.0 refl))
all_of n s h false w = by (hex_run n s) (λ e. w.1 (of_run n s e) ∙ sym e) (λ e. sym e)

-- The part of n bytes from `at` on.
pub hex_all : (s : Text) (at n : ℕ) → n ≤ length (take (length s - at) (drop at s)) → (d : Text) → d ≡ take (n - 0) (take (length s - at) (drop at s))
    → (v : Bool) → (v ≡ true ↔ AllPass is_hex d) → v ≡ hex_run n (drop at s)
hex_all s at n h d e v w =
    let t = tail_eq s at in
    let z : n - 0 ≡ n = omega arith in
    all_of n (drop at s) (omega (arith, ap length t)) v (subst (λ (x : Text). v ≡ true ↔ AllPass is_hex x) (e ∙ ap₂ (λ (m : ℕ) (x : Text). take m x) z t) w)

-- Escapes: what the routines compute, and what the automaton does over them.
use mathlib.Core.Path.{◌≡◌, refl, subst, sym, ap, ◌∙◌}
use mathlib.Core.Logic.{⊎_elim}
use mathlib.Core.Bool.{Bool, true, false, not, ◌&&◌, ◌||◌}
use Prim.Native.Nat.{ℕ, zero, suc, ◌+◌, ◌≤◌, ◌<◌}
use native.Mathlib.Omega.{arith}
use native.Mathlib.Nat.{add-zero}
use native.Mathlib.Numerals.{add-one}
use borrow.Author.Tests.{ne_eqb, eqb-true}
use lib.Dec.{T, eqb}
use lib.ListN.{length, get_or, drop, drop_of_length-le}
use lib.Seq.{drop-cons}
use Rattle.std.specs.Prelude.{Option, Some, None}
use Rattle.std.specs.Bool.{then_some}
use Rattle.automaton.specs.declared.Token.{Token}
use Rattle.text.specs.Text.{Text, cond}
use Rattle.utf8.proofs.Tests.{by, split, and_true}
use Rattle.token.specs.Regular.{in_ranges, step}
use Rattle.automaton.specs.States.{State, dead}
use Rattle.automaton.specs.Run.{At, TokenAt}
use Rattle.automaton.proofs.Same.{same_state, same_state_eq}
use Rattle.automaton.proofs.Steps.{only, always, sends, high_sends, Sent, Ends, pass, done, at_end}
use Rattle.characters.specs.Bytes.{hex, echar}
use Rattle.characters.specs.Runs.{hex_run}
use Rattle.characters.proofs.Sets.{take_pass}
use Rattle.lexer_quoted.specs.Escapes.{uchar_size, escape_size}

-- ---- The routine `uchar`

module _ (s : Text) (at : ℕ) where
  pub uchar_none : length s ≤ at → None ≡ uchar_size (drop at s)
  unfolding uchar_size
  uchar_none h = rw (drop_of_length-le s {i = at} h)

  module _ (h : at < length s) where
    uchar_eq : uchar_size (drop at s)
        ≡ cond (eqb (get_or s at 0) 117) (cond (hex_run 4 (drop (at + 1) s)) (Some 5) None) (cond (eqb (get_or s at 0) 85) (cond (hex_run 8 (drop (at + 1) s)) (Some 9) None) None)
    unfolding uchar_size
    uchar_eq = rw (add-one, drop-cons s at 0 h)

    then_is : (v : Bool) (n : ℕ) → then_some v n ≡ cond v (Some n) None
    then_is true n = refl
    then_is false n = refl

    pub uchar_four : get_or s at 0 ≡ 117 → (v : Bool) → v ≡ hex_run 4 (drop (at + 1) s) → then_some v 5 ≡ uchar_size (drop at s)
    uchar_four e v f = then_is v 5 ∙ sym (uchar_eq ∙ simp (e, ← f))

    pub uchar_eight : get_or s at 0 ≡ 85 → (v : Bool) → v ≡ hex_run 8 (drop (at + 1) s) → then_some v 9 ≡ uchar_size (drop at s)
    uchar_eight e v f = then_is v 9 ∙ sym (uchar_eq ∙ simp (e, ← f))

    pub uchar_other : (get_or s at 0 ≡ 117 → ⊥) → (get_or s at 0 ≡ 85 → ⊥) → None ≡ uchar_size (drop at s)
    uchar_other n m = sym (uchar_eq ∙ simp (ne_eqb _ _ n, ne_eqb _ _ m))

-- ---- The routine `escape`

module _ (s : Text) (at : ℕ) where
  pub escape_none : length s ≤ at → None ≡ escape_size (drop at s)
  unfolding escape_size
  escape_none h = rw (drop_of_length-le s {i = at} h)

  module _ (h : at < length s) where
    escape_eq : escape_size (drop at s) ≡ cond (in_ranges (get_or s at 0) echar) (Some 1) (uchar_size (drop at s))
    unfolding escape_size
    escape_eq = rw (drop-cons s at 0 h)

    pub escape_is : (v : Bool) → v ≡ in_ranges (get_or s at 0) echar → escape_size (drop at s) ≡ cond v (Some 1) (uchar_size (drop at s))
    escape_is v e = escape_eq ∙ ap (λ (b : Bool). cond b (Some 1) (uchar_size (drop at s))) (sym e)

-- ---- The automaton over hexadecimal digits

abbrev is_hex : ℕ → Bool
is_hex b = in_ranges b hex

-- n hexadecimal digits lead from q to q0, and nothing else leads on from a state before that.
abbrev pub hex_chain : ℕ → State → State → Bool
hex_chain zero q q0 = same_state q q0
hex_chain (suc n) q q0 =
    let q1 = step 48 q in
    sends q is_hex q1 0 && sends q (λ b. not (is_hex b)) dead 0 && high_sends q always dead && hex_chain n q1 q0

-- An escape was read from the place i on, or none: then the token is the last one seen.
pub record Escaped (s : Text) (q0 : State) (i : ℕ) (seen : Option Token) (r : Option ℕ) : Type 0 where
  pub broken : r ≡ None → TokenAt s seen
  pub whole : (n : ℕ) → r ≡ Some n → At s q0 (i + n) seen

module _ {s : Text} {seen : Option Token} where
  pub hex_on : (n : ℕ) (q q0 : State) (i : ℕ) → T (hex_chain n q q0) → At s q i seen
      → (v : Bool) → hex_run n (drop i s) ≡ v → cond v (At s q0 (i + n) seen) (TokenAt s seen)
  unfolding hex_run
  hex_on zero q q0 i t g true e = subst (λ (x : State). At s x (i + 0) seen) (same_state_eq q q0 t) (rw (add-zero i) g)
  hex_on zero q q0 i t g false e = let z : true ≡ false = e in absurd (subst T z tt)
  hex_on (suc n) q q0 i t g v e =
      ⊎_elim
      (λ h.
      let f : hex_run (suc n) (drop i s) ≡ is_hex (get_or s i 0) && hex_run n (drop (i + 1) s) = rw (add-one, drop-cons s i 0 h) in
      by (is_hex (get_or s i 0))
      (λ p.
      let m : i + 1 + n ≡ i + suc n = omega arith in
      subst (λ (x : ℕ). cond v (At s q0 x seen) (TokenAt s seen)) m
      (hex_on n (step 48 q) q0 (i + 1) u.1 (take_pass hex g h tt p (record { test = u0.0 })) v
      (sym (f ∙ ap (λ (b : Bool). b && hex_run n (drop (i + 1) s)) p) ∙ e)))
      (λ p. lost (sym e ∙ f ∙ ap (λ (b : Bool). b && hex_run n (drop (i + 1) s)) p) (done g stops (λ _. p))))
      (λ h. lost (sym e ∙ ap (hex_run (suc n)) (drop_of_length-le s {i = i} h)) (at_end g h))
      (split i (length s))
    where
      u : T (sends q is_hex (step 48 q) 0 && sends q (λ b. not (is_hex b)) dead 0 && high_sends q always dead) × T (hex_chain n (step 48 q) q0)
      u = and_true (sends q is_hex (step 48 q) 0 && sends q (λ b. not (is_hex b)) dead 0 && high_sends q always dead) (hex_chain n (step 48 q) q0) t

      u1 : T (sends q is_hex (step 48 q) 0 && sends q (λ b. not (is_hex b)) dead 0) × T (high_sends q always dead)
      u1 = and_true (sends q is_hex (step 48 q) 0 && sends q (λ b. not (is_hex b)) dead 0) (high_sends q always dead) u.0

      u0 : T (sends q is_hex (step 48 q) 0) × T (sends q (λ b. not (is_hex b)) dead 0)
      u0 = and_true (sends q is_hex (step 48 q) 0) (sends q (λ b. not (is_hex b)) dead 0) u1.0

      stops : Ends q is_hex
      stops = record { low = record { test = u0.1 }; high = record { test = u1.1 } }

      lost : v ≡ false → TokenAt s seen → cond v (At s q0 (i + suc n) seen) (TokenAt s seen)
      lost f x = rw f x

-- From q, after the backslash, u and four digits or U and eight lead to q0; nothing else leads on but bytes that pass e.
pub record Uchars (e : ℕ → Bool) (q q0 : State) : Type 0 where
  pub small : Sent q (only 117) (step 117 q) 0
  pub four : T (hex_chain 4 (step 117 q) q0)
  pub capital : Sent q (only 85) (step 85 q) 0
  pub eight : T (hex_chain 8 (step 85 q) q0)
  pub other : Ends q (λ b. eqb b 117 || (eqb b 85 || e b))

module _ {s : Text} {seen : Option Token} {q0 : State} where
  one_of : (v : Bool) (i m : ℕ) (r : Option ℕ) → cond v (At s q0 (i + 1 + m) seen) (TokenAt s seen) → r ≡ cond v (Some (suc m)) None → Escaped s q0 i seen r
  one_of true i m r g f = record {
    broken = λ z. let w : ◌≡◌ {A = ℕ} 0 1 = cc in absurd (omega arith);
    whole = λ n z.
        let w : suc m ≡ n = cc in
        let p : i + 1 + m ≡ i + n = omega arith in
        subst (λ (x : ℕ). At s q0 x seen) p g;
  }
  one_of false i m r g f = record { broken = λ z. g; whole = λ n z. let w : ◌≡◌ {A = ℕ} 0 1 = cc in absurd (omega arith) }

  lost : {i : ℕ} {r : Option ℕ} → r ≡ None → TokenAt s seen → Escaped s q0 i seen r
  lost z x = record { broken = λ _. x; whole = λ n y. let w : ◌≡◌ {A = ℕ} 0 1 = cc in absurd (omega arith) }

  pub uchar_on : {e : ℕ → Bool} {q : State} → Uchars e q q0 → {i : ℕ} {r : Option ℕ} → At s q i seen → (i < length s → e (get_or s i 0) ≡ false) → r ≡ uchar_size (drop i s)
      → Escaped s q0 i seen r
  uchar_on {e} {q} t {i} {r} g nt e' =
      ⊎_elim
      (λ h.
      let f = uchar_eq s i h in
      by (eqb (get_or s i 0) 117)
      (λ p.
      let l = eqb-true (get_or s i 0) 117 p in
      one_of (hex_run 4 (drop (i + 1) s)) i 4 r
      (hex_on 4 (step 117 q) q0 (i + 1) t.four (pass g h (omega arith) p t.small) (hex_run 4 (drop (i + 1) s)) refl) (e' ∙ f ∙ simp p))
      (λ p.
      by (eqb (get_or s i 0) 85)
      (λ p'.
      let l = eqb-true (get_or s i 0) 85 p' in
      one_of (hex_run 8 (drop (i + 1) s)) i 8 r
      (hex_on 8 (step 85 q) q0 (i + 1) t.eight (pass g h (omega arith) p' t.capital) (hex_run 8 (drop (i + 1) s)) refl) (e' ∙ f ∙ simp (p, p')))
      (λ p'. lost (e' ∙ f ∙ simp (p, p')) (done g t.other (λ x. simp (p, p', nt x))))))
      (λ h. lost (e' ∙ sym (uchar_none s i h)) (at_end g h))
      (split i (length s))

-- ECHAR leads to q0 too.
pub record Echars (q q0 : State) : Type 0 where
  pub char : Sent q (λ b. in_ranges b echar) q0 0
  pub uchar : Uchars (λ b. in_ranges b echar) q q0

pub escape_on : {s : Text} {seen : Option Token} {q q0 : State} → Echars q q0 → {i : ℕ} {r : Option ℕ} → At s q i seen → r ≡ escape_size (drop i s)
    → Escaped s q0 i seen r
escape_on {s} {seen} {q} {q0} t {i} {r} g e =
    ⊎_elim
    (λ h.
    by (in_ranges (get_or s i 0) echar)
    (λ p.
    let m : r ≡ Some 1 = e ∙ escape_is s i h true (sym p) in
    record {
      broken = λ z. let w : ◌≡◌ {A = ℕ} 0 1 = cc in absurd (omega arith);
      whole = λ n z. let w : 1 ≡ n = cc in subst (λ (x : ℕ). At s q0 (i + x) seen) w (take_pass echar g h tt p t.char);
    })
    (λ p. uchar_on t.uchar g (λ _. p) (e ∙ escape_is s i h false (sym p))))
    (λ h. uchar_on t.uchar g (λ x. absurd (omega arith)) (e ∙ sym (escape_none s i h) ∙ uchar_none s i h))
    (split i (length s))

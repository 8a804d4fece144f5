-- Numbers: after a sign, within an integer, after its dot, within a fraction, after e, after the sign of an exponent, within an exponent.
use Rattle.utf8.proofs.Tests.{nor}
use mathlib.Core.Path.{◌≡◌, subst, sym, ◌∙◌}
use mathlib.Core.Bool.{Bool, true, false, ◌||◌}
use Prim.Native.Nat.{ℕ, ◌+◌, ◌≤◌, ◌<◌}
use native.Mathlib.Omega.{arith}
use borrow.Author.Tests.{eq-eqb, ne_eqb}
use lib.Dec.{eqb}
use lib.ListN.{length, get_or}
use Rattle.std.specs.Prelude.{Option, Some, None}
use Rattle.automaton.specs.declared.Token.{Token}
use Rattle.text.specs.Text.{Text}
use Rattle.token.specs.Regular.{in_ranges}
use Rattle.automaton.specs.Levels.{intervals}
use Rattle.automaton.specs.States.{State, after_sign, in_integer, integer_dot, after_dot, sign_dot, in_fraction, after_e, exponent_sign, in_exponent, open_states}
use Rattle.automaton.specs.Run.{tok, At, TokenAt}
use Rattle.automaton.proofs.Steps.{only, sends, high_sends, Sent, Ends, pass, done}
use Rattle.characters.specs.Bytes.{digit, sign, exponent}
use Rattle.characters.specs.Runs.{Span}
use Rattle.characters.proofs.Sets.{take_pass, take_gain}
use Rattle.characters.proofs.Spans.{stay}

abbrev is_digit : ℕ → Bool
is_digit b = in_ranges b digit

abbrev is_sign : ℕ → Bool
is_sign b = in_ranges b sign

abbrev is_exponent : ℕ → Bool
is_exponent b = in_ranges b exponent

record Moves : Type 0 where
  integer : Sent in_integer is_digit in_integer 8
  integer_point : Sent in_integer (only 46) integer_dot 0
  integer_e : Sent in_integer is_exponent after_e 0
  integer_end : Ends in_integer (λ b. is_digit b || (eqb b 46 || is_exponent b))
  point : Sent integer_dot is_digit in_fraction 9
  point_e : Sent integer_dot is_exponent after_e 0
  point_end : Ends integer_dot (λ b. is_digit b || is_exponent b)
  fraction : Sent in_fraction is_digit in_fraction 9
  fraction_e : Sent in_fraction is_exponent after_e 0
  fraction_end : Ends in_fraction (λ b. is_digit b || is_exponent b)
  e : Sent after_e is_digit in_exponent 10
  e_sign : Sent after_e is_sign exponent_sign 0
  e_end : Ends after_e (λ b. is_digit b || is_sign b)
  e_signed : Sent exponent_sign is_digit in_exponent 10
  e_signed_end : Ends exponent_sign is_digit
  exponent : Sent in_exponent is_digit in_exponent 10
  exponent_end : Ends in_exponent is_digit
  dot : Sent after_dot is_digit in_fraction 9
  dot_end : Ends after_dot is_digit
  sign : Sent after_sign is_digit in_integer 8
  sign_point : Sent after_sign (only 46) sign_dot 0
  sign_end : Ends after_sign (λ b. is_digit b || eqb b 46)
  signed_point : Sent sign_dot is_digit in_fraction 9
  signed_point_end : Ends sign_dot is_digit

m : Moves
unfolding open_states sends high_sends intervals
m = record {
  integer = record { test = tt };
  integer_point = record { test = tt };
  integer_e = record { test = tt };
  integer_end = record { low = record { test = tt }; high = record { test = tt } };
  point = record { test = tt };
  point_e = record { test = tt };
  point_end = record { low = record { test = tt }; high = record { test = tt } };
  fraction = record { test = tt };
  fraction_e = record { test = tt };
  fraction_end = record { low = record { test = tt }; high = record { test = tt } };
  e = record { test = tt };
  e_sign = record { test = tt };
  e_end = record { low = record { test = tt }; high = record { test = tt } };
  e_signed = record { test = tt };
  e_signed_end = record { low = record { test = tt }; high = record { test = tt } };
  exponent = record { test = tt };
  exponent_end = record { low = record { test = tt }; high = record { test = tt } };
  dot = record { test = tt };
  dot_end = record { low = record { test = tt }; high = record { test = tt } };
  sign = record { test = tt };
  sign_point = record { test = tt };
  sign_end = record { low = record { test = tt }; high = record { test = tt } };
  signed_point = record { test = tt };
  signed_point_end = record { low = record { test = tt }; high = record { test = tt } };
}

-- A digit that leads on; v is what the code's test says.
leads : {s : Text} {q q2 : State} {i k : ℕ} {seen : Option Token} → At s q i seen → i < length s → 0 < k → Sent q is_digit q2 k
    → (v : Bool) → v ≡ is_digit (get_or s i 0) → v ≡ true → At s q2 (i + 1) (Some (tok k (i + 1)))
leads g h p t v e f = take_gain digit g h tt (sym e ∙ f) p t

out : {X : Type 0} {i n : ℕ} → n ≤ i → i < n → X
out h l = absurd (omega arith)

module _ (s : Text) where
  -- exponent_digits
  pub exponent_done : (at i : ℕ) → At s in_exponent at (Some (tok 10 at)) → Span digit s at i → TokenAt s (Some (tok 10 i))
  exponent_done at i g sp = done (stay digit tt (omega arith) m.exponent sp g) m.exponent_end sp.stop

  -- exponent
  module _ (at : ℕ) (before : Token) (g : At s after_e at (Some before)) where
    pub e_none : length s ≤ at → TokenAt s (Some before)
    e_none h = done g m.e_end (λ x. out h x)

    module _ (h : at < length s) (v : Bool) (e : v ≡ is_digit (get_or s at 0)) where
      pub e_digit : v ≡ true → At s in_exponent (at + 1) (Some (tok 10 (at + 1)))
      e_digit f = leads g h (omega arith) m.e v e f

      module _ (f : v ≡ false) (w : Bool) (e' : w ≡ is_sign (get_or s at 0)) where
        pub e_other : w ≡ false → TokenAt s (Some before)
        e_other f' = done g m.e_end (λ _. nor (is_digit (get_or s at 0)) (is_sign (get_or s at 0)) (sym e ∙ f) (sym e' ∙ f'))

        module _ (f' : w ≡ true) where
          signed : At s exponent_sign (at + 1) (Some before)
          signed = take_pass sign g h tt (sym e' ∙ f') m.e_sign

          pub e_sign_none : length s ≤ at + 1 → TokenAt s (Some before)
          e_sign_none h' = done signed m.e_signed_end (λ x. out h' x)

          module _ (h' : at + 1 < length s) (u : Bool) (e'' : u ≡ is_digit (get_or s (at + 1) 0)) where
            pub e_sign_digit : u ≡ true → At s in_exponent (at + 2) (Some (tok 10 (at + 2)))
            e_sign_digit f'' =
                let o : at + 1 + 1 ≡ at + 2 = omega arith in
                subst (λ (n : ℕ). At s in_exponent n (Some (tok 10 n))) o (leads signed h' (omega arith) m.e_signed u e'' f'')

            pub e_sign_other : u ≡ false → TokenAt s (Some before)
            e_sign_other f'' = done signed m.e_signed_end (λ _. sym e'' ∙ f'')

  -- fraction
  module _ (at i : ℕ) (g : At s in_fraction at (Some (tok 9 at))) (sp : Span digit s at i) where
    at_fraction : At s in_fraction i (Some (tok 9 i))
    at_fraction = stay digit tt (omega arith) m.fraction sp g

    pub fraction_none : length s ≤ i → TokenAt s (Some (tok 9 i))
    fraction_none h = done at_fraction m.fraction_end (λ x. out h x)

    module _ (h : i < length s) (v : Bool) (e : v ≡ is_exponent (get_or s i 0)) where
      pub fraction_to_e : v ≡ true → At s after_e (i + 1) (Some (tok 9 i))
      fraction_to_e f = take_pass exponent at_fraction h tt (sym e ∙ f) m.fraction_e

      pub fraction_other : v ≡ false → TokenAt s (Some (tok 9 i))
      fraction_other f =
          done at_fraction m.fraction_end (λ _. nor (is_digit (get_or s i 0)) (is_exponent (get_or s i 0)) (sp.stop h) (sym e ∙ f))

  -- integer
  module _ (at i : ℕ) (g : At s in_integer at (Some (tok 8 at))) (sp : Span digit s at i) where
    at_integer : At s in_integer i (Some (tok 8 i))
    at_integer = stay digit tt (omega arith) m.integer sp g

    pub integer_none : length s ≤ i → TokenAt s (Some (tok 8 i))
    integer_none h = done at_integer m.integer_end (λ x. out h x)

    module _ (h : i < length s) where
      pub integer_to_dot : get_or s i 0 ≡ 46 → At s integer_dot (i + 1) (Some (tok 8 i))
      integer_to_dot e = pass at_integer h (omega arith) (eq-eqb _ _ e) m.integer_point

      module _ (v : Bool) (e : v ≡ is_exponent (get_or s i 0)) where
        pub integer_to_e : v ≡ true → At s after_e (i + 1) (Some (tok 8 i))
        integer_to_e f = take_pass exponent at_integer h tt (sym e ∙ f) m.integer_e

        pub integer_other : (get_or s i 0 ≡ 46 → ⊥) → v ≡ false → TokenAt s (Some (tok 8 i))
        integer_other n f =
            done at_integer m.integer_end
            (λ _.
            nor (is_digit (get_or s i 0)) (eqb (get_or s i 0) 46 || is_exponent (get_or s i 0)) (sp.stop h)
            (nor (eqb (get_or s i 0) 46) (is_exponent (get_or s i 0)) (ne_eqb _ _ n) (sym e ∙ f)))

  -- point
  module _ (at : ℕ) (g : At s integer_dot (at + 1) (Some (tok 8 at))) where
    pub point_none : length s ≤ at + 1 → TokenAt s (Some (tok 8 at))
    point_none h = done g m.point_end (λ x. out h x)

    module _ (h : at + 1 < length s) (v : Bool) (e : v ≡ is_digit (get_or s (at + 1) 0)) where
      pub point_digit : v ≡ true → At s in_fraction (at + 2) (Some (tok 9 (at + 2)))
      point_digit f =
          let o : at + 1 + 1 ≡ at + 2 = omega arith in
          subst (λ (n : ℕ). At s in_fraction n (Some (tok 9 n))) o (leads g h (omega arith) m.point v e f)

      module _ (w : Bool) (e' : w ≡ is_exponent (get_or s (at + 1) 0)) where
        pub point_to_e : w ≡ true → At s after_e (at + 2) (Some (tok 8 at))
        point_to_e f =
            let o : at + 1 + 1 ≡ at + 2 = omega arith in
            subst (λ (n : ℕ). At s after_e n (Some (tok 8 at))) o (take_pass exponent g h tt (sym e' ∙ f) m.point_e)

        pub point_other : v ≡ false → w ≡ false → TokenAt s (Some (tok 8 at))
        point_other f f' =
            done g m.point_end (λ _. nor (is_digit (get_or s (at + 1) 0)) (is_exponent (get_or s (at + 1) 0)) (sym e ∙ f) (sym e' ∙ f'))

  -- dot
  module _ (g : At s after_dot 1 (Some (tok 19 1))) where
    pub dot_none : length s ≤ 1 → TokenAt s (Some (tok 19 1))
    dot_none h = done g m.dot_end (λ x. out h x)

    module _ (h : 1 < length s) (v : Bool) (e : v ≡ is_digit (get_or s 1 0)) where
      pub dot_digit : v ≡ true → At s in_fraction 2 (Some (tok 9 2))
      dot_digit f = leads g h (omega arith) m.dot v e f

      pub dot_other : v ≡ false → TokenAt s (Some (tok 19 1))
      dot_other f = done g m.dot_end (λ _. sym e ∙ f)

  -- signed
  module _ (g : At s after_sign 1 None) where
    pub sign_none : length s ≤ 1 → TokenAt s None
    sign_none h = done g m.sign_end (λ x. out h x)

    module _ (h : 1 < length s) where
      module _ (v : Bool) (e : v ≡ is_digit (get_or s 1 0)) where
        pub sign_digit : v ≡ true → At s in_integer 2 (Some (tok 8 2))
        sign_digit f = leads g h (omega arith) m.sign v e f

        pub sign_other : v ≡ false → (get_or s 1 0 ≡ 46 → ⊥) → TokenAt s None
        sign_other f n = done g m.sign_end (λ _. nor (is_digit (get_or s 1 0)) (eqb (get_or s 1 0) 46) (sym e ∙ f) (ne_eqb _ _ n))

      module _ (n : get_or s 1 0 ≡ 46) where
        dotted : At s sign_dot 2 None
        dotted = pass g h (omega arith) (eq-eqb _ _ n) m.sign_point

        pub sign_dot_none : length s ≤ 2 → TokenAt s None
        sign_dot_none h' = done dotted m.signed_point_end (λ x. out h' x)

        module _ (h' : 2 < length s) (w : Bool) (e' : w ≡ is_digit (get_or s 2 0)) where
          pub sign_dot_digit : w ≡ true → At s in_fraction 3 (Some (tok 9 3))
          sign_dot_digit f = leads dotted h' (omega arith) m.signed_point w e' f

          pub sign_dot_other : w ≡ false → TokenAt s None
          sign_dot_other f = done dotted m.signed_point_end (λ _. sym e' ∙ f)

-- Strings, short and long, for either quote.
use mathlib.Core.Path.{◌≡◌, refl, subst, sym, ◌∙◌}
use mathlib.Core.Logic.{◌⊎◌, inl, inr, ⊎_elim}
use mathlib.Core.Bool.{Bool, true, false, not, ◌&&◌, ◌||◌}
use mathlib.Core.List.{[], ◌∷◌}
use Prim.Native.Nat.{ℕ, zero, suc, ◌+◌, ◌≤◌, ◌<◌}
use native.Mathlib.Omega.{arith}
use borrow.Author.Tests.{eq-eqb, ne_eqb, eqb-false}
use lib.Dec.{T, eqb, eqb→eq}
use lib.ListN.{length, get_or, drop}
use Rattle.std.specs.Prelude.{Option, Some, None}
use Rattle.text.specs.Text.{Text}
use Rattle.text.specs.Runs.{four, next_at}
use Rattle.text.proofs.Compare.{or_left, or_right}
use Rattle.text.proofs.Runs.{next_walk}
use Rattle.utf8.proofs.Tests.{by, split, and_true}
use Rattle.token.specs.Terminals.{tripled}
use Rattle.automaton.specs.Levels.{intervals}
use Rattle.automaton.specs.States.{State, start, long_start, in_string, in_string_escape, after_string, one_quote, two_quotes, in_long, in_long_one, in_long_two, in_long_escape, after_long, dead, open_states}
use Rattle.automaton.specs.Run.{tok, At, In, TokenAt}
use Rattle.automaton.proofs.Steps.{only, never, sends, high_sends, Sent, HighMoves, Ends, begin_short, begin_long, pass, gain, fail, stop, at_end, at_in, in_at, in_end, over, over_to}
use Rattle.lexer_quoted.specs.Escapes.{escape_size}
use Rattle.lexer_quoted.specs.Quotes.{Short, Long}
use Rattle.lexer_quoted.proofs.Escaping.{Echars, Escaped, escape_on}

-- ---- Short strings

abbrev plain_in : ℕ → ℕ → Bool
plain_in q b = not (eqb b q) && not (eqb b 10) && not (eqb b 13) && not (eqb b 92)

record ShortMoves (q kind : ℕ) : Type 0 where
  ascii : q < 128
  some : 0 < kind
  opens : Sent start (only q) (in_string q) 0
  plain : Sent (in_string q) (plain_in q) (in_string q) 0
  high : HighMoves (in_string q) (in_string q)
  line : Sent (in_string q) (only 10) dead 0
  return : Sent (in_string q) (only 13) dead 0
  slash : Sent (in_string q) (only 92) (in_string_escape q) 0
  closes : Sent (in_string q) (only q) (after_string q) kind
  closed : Ends (after_string q) never
  escape : Echars (in_string_escape q) (in_string q)

double : ShortMoves 34 11
unfolding open_states sends high_sends intervals
double = record {
  ascii = omega arith;
  some = omega arith;
  opens = record { test = tt };
  plain = record { test = tt };
  high = record { moves = record { test = tt }; silent = record { test = tt } };
  line = record { test = tt };
  return = record { test = tt };
  slash = record { test = tt };
  closes = record { test = tt };
  closed = record { low = record { test = tt }; high = record { test = tt } };
  escape = record {
    char = record { test = tt };
    uchar = record {
      small = record { test = tt };
      four = tt;
      capital = record { test = tt };
      eight = tt;
      other = record { low = record { test = tt }; high = record { test = tt } };
    };
  };
}

single : ShortMoves 39 12
unfolding open_states sends high_sends intervals
single = record {
  ascii = omega arith;
  some = omega arith;
  opens = record { test = tt };
  plain = record { test = tt };
  high = record { moves = record { test = tt }; silent = record { test = tt } };
  line = record { test = tt };
  return = record { test = tt };
  slash = record { test = tt };
  closes = record { test = tt };
  closed = record { low = record { test = tt }; high = record { test = tt } };
  escape = record {
    char = record { test = tt };
    uchar = record {
      small = record { test = tt };
      four = tt;
      capital = record { test = tt };
      eight = tt;
      other = record { low = record { test = tt }; high = record { test = tt } };
    };
  };
}

short_moves : (q kind : ℕ) → Short q kind → ShortMoves q kind
short_moves q kind (inl e) = rw (e.0, e.1) double
short_moves q kind (inr e) = rw (e.0, e.1) single

module _ (s : Text) (q kind : ℕ) (short : Short q kind) where
  M : ShortMoves q kind
  M = short_moves q kind short

  pub str_start : 0 < length s → get_or s 0 0 ≡ q → tripled s ≡ false → In s (in_string q) 1 None
  str_start h e t = let a = M.ascii in at_in (pass (begin_short s t) h (omega arith) (eq-eqb _ _ e) M.opens)

  module _ (i : ℕ) (g : In s (in_string q) i None) where
    pub str_end : length s ≤ i → TokenAt s None
    str_end h = in_end g h

    module _ (h : i < length s) where
      pub str_close : get_or s i 0 ≡ q → TokenAt s (Some (tok kind (i + 1)))
      str_close e =
          let a = M.ascii in
          let l : get_or s i 0 < 128 = omega arith in
          stop (gain (in_at g h l) h l (eq-eqb _ _ e) M.some M.closes) M.closed

      pub str_line : get_or s i 0 ≡ 10 → TokenAt s None
      str_line e = let l : get_or s i 0 < 128 = omega arith in fail (in_at g h l) h l (eq-eqb _ _ e) M.line

      pub str_return : get_or s i 0 ≡ 13 → TokenAt s None
      str_return e = let l : get_or s i 0 < 128 = omega arith in fail (in_at g h l) h l (eq-eqb _ _ e) M.return

      pub str_plain : (get_or s i 0 ≡ q → ⊥) → (get_or s i 0 ≡ 10 → ⊥) → (get_or s i 0 ≡ 13 → ⊥) → (get_or s i 0 ≡ 92 → ⊥) → In s (in_string q) (i + 1) None
      str_plain n1 n2 n3 n4 =
          ⊎_elim
          (λ l. at_in (pass (in_at g h l) h l (simp (ne_eqb _ _ n1, ne_eqb _ _ n2, ne_eqb _ _ n3, ne_eqb _ _ n4)) M.plain))
          (λ l. over M.high g h l)
          (split (get_or s i 0) 128)

      module _ (e : get_or s i 0 ≡ 92) (r : Option ℕ) (f : r ≡ escape_size (drop (i + 1) s)) where
        escaped : Escaped s (in_string q) (i + 1) None r
        escaped = let l : get_or s i 0 < 128 = omega arith in escape_on M.escape (pass (in_at g h l) h l (eq-eqb _ _ e) M.slash) f

        pub str_broken : r ≡ None → TokenAt s None
        str_broken z = escaped.broken z

        pub str_escaped : (n : ℕ) → r ≡ Some n → In s (in_string q) (i + 1 + n) None
        str_escaped n z = at_in (escaped.whole n z)

  -- A byte that none of the tests stops at, and on to the next that one does.
  str_on : (j : ℕ) → j < length s → four q 10 13 92 (get_or s j 0) ≡ false → In s (in_string q) j None → In s (in_string q) (j + 1) None
  str_on j h f g =
      let c = get_or s j 0 in
      let a = or_left (eqb c q || eqb c 10) (eqb c 13 || eqb c 92) f in
      let b = or_right (eqb c q || eqb c 10) (eqb c 13 || eqb c 92) f in
      str_plain j g h (eqb-false c q (or_left (eqb c q) (eqb c 10) a)) (eqb-false c 10 (or_right (eqb c q) (eqb c 10) a)) (eqb-false c 13 (or_left (eqb c 13) (eqb c 92) b)) (eqb-false c 92 (or_right (eqb c 13) (eqb c 92) b))

  pub str_run : (i k : ℕ) → i ≤ length s → k ≡ next_at (four q 10 13 92) s i → In s (in_string q) i None → In s (in_string q) k None
  str_run i k h e g = next_walk (four q 10 13 92) s (λ (j : ℕ). In s (in_string q) j None) str_on i k h e g

-- ---- Long strings

abbrev other_in : ℕ → ℕ → Bool
other_in q b = not (eqb b q) && not (eqb b 92)

-- From a state within a long string, after none, one or two quotes.
record From (q : ℕ) (x : State) : Type 0 where
  plain : Sent x (other_in q) (in_long q) 0
  high : HighMoves x (in_long q)
  slash : Sent x (only 92) (in_long_escape q) 0

record LongMoves (q kind : ℕ) : Type 0 where
  ascii : q < 128
  some : 0 < kind
  open1 : Sent long_start (only q) (one_quote q) 0
  open2 : Sent (one_quote q) (only q) (two_quotes q) 0
  open3 : Sent (two_quotes q) (only q) (in_long q) 0
  from0 : From q (in_long q)
  from1 : From q (in_long_one q)
  from2 : From q (in_long_two q)
  first : Sent (in_long q) (only q) (in_long_one q) 0
  second : Sent (in_long_one q) (only q) (in_long_two q) 0
  third : Sent (in_long_two q) (only q) (after_long q) kind
  closed : Ends (after_long q) never
  escape : Echars (in_long_escape q) (in_long q)

double_long : LongMoves 34 29
unfolding open_states sends high_sends intervals
double_long = record {
  ascii = omega arith;
  some = omega arith;
  open1 = record { test = tt };
  open2 = record { test = tt };
  open3 = record { test = tt };
  from0 = record { plain = record { test = tt }; high = record { moves = record { test = tt }; silent = record { test = tt } }; slash = record { test = tt } };
  from1 = record { plain = record { test = tt }; high = record { moves = record { test = tt }; silent = record { test = tt } }; slash = record { test = tt } };
  from2 = record { plain = record { test = tt }; high = record { moves = record { test = tt }; silent = record { test = tt } }; slash = record { test = tt } };
  first = record { test = tt };
  second = record { test = tt };
  third = record { test = tt };
  closed = record { low = record { test = tt }; high = record { test = tt } };
  escape = record {
    char = record { test = tt };
    uchar = record {
      small = record { test = tt };
      four = tt;
      capital = record { test = tt };
      eight = tt;
      other = record { low = record { test = tt }; high = record { test = tt } };
    };
  };
}

single_long : LongMoves 39 30
unfolding open_states sends high_sends intervals
single_long = record {
  ascii = omega arith;
  some = omega arith;
  open1 = record { test = tt };
  open2 = record { test = tt };
  open3 = record { test = tt };
  from0 = record { plain = record { test = tt }; high = record { moves = record { test = tt }; silent = record { test = tt } }; slash = record { test = tt } };
  from1 = record { plain = record { test = tt }; high = record { moves = record { test = tt }; silent = record { test = tt } }; slash = record { test = tt } };
  from2 = record { plain = record { test = tt }; high = record { moves = record { test = tt }; silent = record { test = tt } }; slash = record { test = tt } };
  first = record { test = tt };
  second = record { test = tt };
  third = record { test = tt };
  closed = record { low = record { test = tt }; high = record { test = tt } };
  escape = record {
    char = record { test = tt };
    uchar = record {
      small = record { test = tt };
      four = tt;
      capital = record { test = tt };
      eight = tt;
      other = record { low = record { test = tt }; high = record { test = tt } };
    };
  };
}

long_moves : (q kind : ℕ) → Long q kind → LongMoves q kind
long_moves q kind (inl e) = rw (e.0, e.1) double_long
long_moves q kind (inr e) = rw (e.0, e.1) single_long

-- The state after a run of quotes.
abbrev pub LongAt : Text → ℕ → ℕ → ℕ → Type 0
LongAt s q i zero = In s (in_long q) i None
LongAt s q i (suc zero) = At s (in_long_one q) i None
LongAt s q i (suc (suc zero)) = At s (in_long_two q) i None
LongAt s q i (suc (suc (suc n))) = ⊥

quote_eq : (a b c k : ℕ) → T (eqb a k && eqb b k && eqb c k) → (b ≡ a) × (c ≡ a)
quote_eq a b c k t =
    let x = and_true (eqb a k && eqb b k) (eqb c k) t in
    let y = and_true (eqb a k) (eqb b k) x.0 in
    let p = eqb→eq a k y.0 in
    let p' = eqb→eq b k y.1 in
    let p'' = eqb→eq c k x.1 in
    (omega arith, omega arith)

-- Three equal quotes are equal.
three : (s : Text) → tripled s ≡ true → (get_or s 1 0 ≡ get_or s 0 0) × (get_or s 2 0 ≡ get_or s 0 0)
three [] e = absurd (subst T (sym e) tt)
three (a ∷ []) e = absurd (subst T (sym e) tt)
three (a ∷ b ∷ []) e = absurd (subst T (sym e) tt)
three (a ∷ b ∷ c ∷ t) e =
    by (eqb a 34 && eqb b 34 && eqb c 34) (λ f. quote_eq a b c 34 (subst T (sym f) tt))
    (λ f. quote_eq a b c 39 (subst T (sym (rw f at e)) tt))

module _ (s : Text) (q kind : ℕ) (long : Long q kind) where
  L : LongMoves q kind
  L = long_moves q kind long

  pub long_begin : 3 ≤ length s → get_or s 0 0 ≡ q → tripled s ≡ true → In s (in_long q) 3 None
  long_begin h e t =
      let a = L.ascii in
      let u = three s t in
      let e1 : get_or s 1 0 ≡ q = u.0 ∙ e in
      let e2 : get_or s 2 0 ≡ q = u.1 ∙ e in
      let a1 = pass (begin_long s t) (omega arith) (omega arith) (eq-eqb _ _ e) L.open1 in
      let a2 = pass a1 (omega arith) (omega arith) (eq-eqb _ _ e1) L.open2 in
      at_in (pass a2 (omega arith) (omega arith) (eq-eqb _ _ e2) L.open3)

  module _ (i run : ℕ) (g : LongAt s q i run) where
    pub long_end : length s ≤ i → TokenAt s None
    long_end h = fin run g
      where
        fin : (run : ℕ) → LongAt s q i run → TokenAt s None
        fin zero g = in_end g h
        fin (suc zero) g = at_end g h
        fin (suc (suc zero)) g = at_end g h
        fin (suc (suc (suc n))) g = absurd g

    module _ (h : i < length s) where
      pub long_close : get_or s i 0 ≡ q → run ≡ 2 → TokenAt s (Some (tok kind (i + 1)))
      long_close e r =
          let a = L.ascii in
          let l : get_or s i 0 < 128 = omega arith in
          let g2 : At s (in_long_two q) i None = subst (LongAt s q i) r g in
          stop (gain g2 h l (eq-eqb _ _ e) L.some L.third) L.closed

      pub long_quote : get_or s i 0 ≡ q → (run ≡ 2 → ⊥) → LongAt s q (i + 1) (run + 1)
      long_quote e n = fin run g n
        where
          fin : (run : ℕ) → LongAt s q i run → (run ≡ 2 → ⊥) → LongAt s q (i + 1) (run + 1)
          fin zero g n =
              let a = L.ascii in
              let l : get_or s i 0 < 128 = omega arith in
              pass (in_at g h l) h l (eq-eqb _ _ e) L.first
          fin (suc zero) g n =
              let a = L.ascii in
              let l : get_or s i 0 < 128 = omega arith in
              pass g h l (eq-eqb _ _ e) L.second
          fin (suc (suc zero)) g n = absurd (n refl)
          fin (suc (suc (suc n))) g m = absurd g

      -- By the state that it is in.
      each : {X : Type 0} → ((x : State) → From q x → At s x i None → X) → get_or s i 0 < 128 → X
      each {X = X} f l = fin run g
        where
          fin : (run : ℕ) → LongAt s q i run → X
          fin zero g = f (in_long q) L.from0 (in_at g h l)
          fin (suc zero) g = f (in_long_one q) L.from1 g
          fin (suc (suc zero)) g = f (in_long_two q) L.from2 g
          fin (suc (suc (suc n))) g = absurd g

      pub long_plain : (get_or s i 0 ≡ q → ⊥) → (get_or s i 0 ≡ 92 → ⊥) → In s (in_long q) (i + 1) None
      long_plain n1 n2 =
          ⊎_elim (λ l. each (λ x p a. at_in (pass a h l (simp (ne_eqb _ _ n1, ne_eqb _ _ n2)) p.plain)) l) (λ l. fin l run g)
          (split (get_or s i 0) 128)
        where
          fin : 128 ≤ get_or s i 0 → (run : ℕ) → LongAt s q i run → In s (in_long q) (i + 1) None
          fin l zero g = over L.from0.high g h l
          fin l (suc zero) g = over_to L.from1.high g h l
          fin l (suc (suc zero)) g = over_to L.from2.high g h l
          fin l (suc (suc (suc n))) g = absurd g

      module _ (e : get_or s i 0 ≡ 92) (r : Option ℕ) (f : r ≡ escape_size (drop (i + 1) s)) where
        escaped_long : Escaped s (in_long q) (i + 1) None r
        escaped_long =
            let l : get_or s i 0 < 128 = omega arith in
            escape_on L.escape (each (λ x p a. pass a h l (eq-eqb _ _ e) p.slash) l) f

        pub long_broken : r ≡ None → TokenAt s None
        long_broken z = escaped_long.broken z

        pub long_escaped : (n : ℕ) → r ≡ Some n → In s (in_long q) (i + 1 + n) None
        long_escaped n z = at_in (escaped_long.whole n z)

  long_on : (j : ℕ) → j < length s → four q 92 q 92 (get_or s j 0) ≡ false → In s (in_long q) j None → In s (in_long q) (j + 1) None
  long_on j h f g =
      let c = get_or s j 0 in
      let a = or_left (eqb c q || eqb c 92) (eqb c q || eqb c 92) f in
      long_plain j 0 g h (eqb-false c q (or_left (eqb c q) (eqb c 92) a)) (eqb-false c 92 (or_right (eqb c q) (eqb c 92) a))

  pub long_run : (i k : ℕ) → i ≤ length s → k ≡ next_at (four q 92 q 92) s i → In s (in_long q) i None → In s (in_long q) k None
  long_run i k h e g = next_walk (four q 92 q 92) s (λ (j : ℕ). In s (in_long q) j None) long_on i k h e g

-- ---- Which of them

module _ (s : Text) (q : ℕ) (e : get_or s 0 0 ≡ q) where
  pub tripled_yes : (q ≡ 34) ⊎ (q ≡ 39) → 2 < length s → get_or s 1 0 ≡ q → get_or s 2 0 ≡ q → tripled s ≡ true
  tripled_yes k h e1 e2 = fin s h e e1 e2 k
    where
      fin : (s : Text) → 2 < length s → get_or s 0 0 ≡ q → get_or s 1 0 ≡ q → get_or s 2 0 ≡ q → (q ≡ 34) ⊎ (q ≡ 39) → tripled s ≡ true
      fin [] h e e1 e2 k = absurd (omega arith)
      fin (a ∷ []) h e e1 e2 k = absurd (omega arith)
      fin (a ∷ b ∷ []) h e e1 e2 k = absurd (omega arith)
      fin (a ∷ b ∷ c ∷ t) h e e1 e2 (inl k) = rw (e ∙ k, e1 ∙ k, e2 ∙ k)
      fin (a ∷ b ∷ c ∷ t) h e e1 e2 (inr k) = rw (e ∙ k, e1 ∙ k, e2 ∙ k)

  pub tripled_short : length s < 3 → tripled s ≡ false
  tripled_short h = fin s h
    where
      fin : (s : Text) → length s < 3 → tripled s ≡ false
      fin [] h = refl
      fin (a ∷ []) h = refl
      fin (a ∷ b ∷ []) h = refl
      fin (a ∷ b ∷ c ∷ t) h = absurd (omega arith)

  pub tripled_no : (get_or s 1 0 ≡ q → ⊥) ⊎ (get_or s 2 0 ≡ q → ⊥) → tripled s ≡ false
  tripled_no n =
      by (tripled s) (λ f. let u = three s f in ⊎_elim (λ x. absurd (x (u.0 ∙ e))) (λ x. absurd (x (u.1 ∙ e))) n) (λ f. f)

-- Local parts and labels: PLX, and a run of characters whose dots at the end are given back.
use mathlib.Core.Path.{◌≡◌, refl, subst, sym, ap, ◌∙◌}
use mathlib.Core.Logic.{inl, ⊎_elim}
use mathlib.Core.Bool.{Bool, true, false, ◌&&◌, ◌||◌}
use mathlib.Core.List.{List, [], ◌∷◌}
use Prim.Native.Nat.{ℕ, zero, suc, ◌+◌, ◌≤◌, ◌<◌}
use native.Mathlib.Omega.{arith}
use native.Mathlib.Numerals.{add-one}
use borrow.Author.Tests.{eq-eqb, ne_eqb, eqb-true, lt-ltb}
use lib.Dec.{T, eqb}
use lib.ListN.{length, get_or, drop, length-drop, drop_of_length-le}
use lib.Seq.{drop-cons}
use Rattle.std.specs.Prelude.{Option, Some, None}
use Rattle.automaton.specs.declared.Token.{Token}
use Rattle.text.specs.Text.{Text, cond}
use Rattle.utf8.specs.Utf8.{Range}
use Rattle.utf8.proofs.Tests.{by, split, or_true, nor}
use Rattle.token.specs.Regular.{in_ranges, step}
use Rattle.automaton.specs.Levels.{intervals}
use Rattle.automaton.specs.States.{State, after_colon, first_local, in_local, local_dot, after_underscore, label_colon, first_label, in_label, label_dot, open_states}
use Rattle.automaton.specs.Run.{tok, At, TokenAt}
use Rattle.automaton.proofs.Steps.{only, never, sends, high_sends, mimics, Sent, Ends, Alias, pass, done, at_end, as_other}
use Rattle.characters.specs.Bytes.{hex, name, local, local_first, label_first, reserved}
use Rattle.characters.specs.Names.{base, inner, CharAt}
use Rattle.characters.specs.Runs.{hex_run, Span}
use Rattle.characters.proofs.Sets.{take_pass, take_gain}
use Rattle.characters.proofs.Spans.{stay}
use Rattle.characters.proofs.Points.{CharSent, CharEnds, char_on, char_off}
use Rattle.lexer_words.specs.Locals.{reserved_size, plx_size, is_plx, LocalAt}

-- ---- The routine `plx`

module _ (s : Text) (at : ℕ) (h : at < length s) where
  plx_eq : plx_size (drop at s) ≡ cond (eqb (get_or s at 0) 37) (cond (hex_run 2 (drop (at + 1) s)) (Some 3) None) (cond (eqb (get_or s at 0) 92) (reserved_size (drop (at + 1) s)) None)
  unfolding plx_size
  plx_eq = rw (add-one, drop-cons s at 0 h)

  pub plx_percent : get_or s at 0 ≡ 37 → (v : Bool) → v ≡ hex_run 2 (drop (at + 1) s) → cond {A = Option ℕ} v (Some 3) None ≡ plx_size (drop at s)
  plx_percent e v f = sym (plx_eq ∙ simp (e, ← f))

  pub plx_other : (get_or s at 0 ≡ 37 → ⊥) → (get_or s at 0 ≡ 92 → ⊥) → None ≡ plx_size (drop at s)
  plx_other n m = sym (plx_eq ∙ simp (ne_eqb _ _ n, ne_eqb _ _ m))

  module _ (n : get_or s at 0 ≡ 37 → ⊥) (e : get_or s at 0 ≡ 92) where
    pub plx_short : length s ≤ at + 1 → None ≡ plx_size (drop at s)
    plx_short l = sym (plx_eq ∙ simp (e, drop_of_length-le s {i = at + 1} l))

    pub plx_slash : at + 1 < length s → (v : Bool) → v ≡ in_ranges (get_or s (at + 1) 0) reserved → cond {A = Option ℕ} v (Some 2) None ≡ plx_size (drop at s)
    plx_slash l v f =
        let a : reserved_size (drop (at + 1) s) ≡ cond {A = Option ℕ} v (Some 2) None = rw (f, drop-cons s (at + 1) 0 l) in
        sym (plx_eq ∙ simp (e, a))

hex_long : (n : ℕ) (x : Text) → hex_run n x ≡ true → n ≤ length x
unfolding hex_run
hex_long zero x e = omega arith
hex_long (suc n) [] e = absurd (subst T (sym e) tt)
hex_long (suc n) (b ∷ x) e = let m = hex_long n x (right (in_ranges b hex) (hex_run n x) e) in omega arith
  where
    right : (a b : Bool) → (a && b) ≡ true → b ≡ true
    right true b e = e
    right false b e = absurd (subst T (sym e) tt)

plx_within : (s : Text) (i : ℕ) → i < length s → (n : ℕ) → plx_size (drop i s) ≡ Some n → (0 < n) × (i + n ≤ length s)
plx_within s i h n z =
    let e = plx_eq s i h in
    let l = length-drop (i + 1) s in
    by (eqb (get_or s i 0) 37)
    (λ p.
    by (hex_run 2 (drop (i + 1) s))
    (λ q. let o = hex_long 2 (drop (i + 1) s) q in let w = is_some 3 n (sym (e ∙ simp (p, q)) ∙ z) in (omega arith, omega arith))
    (λ q. is_none n (sym (e ∙ simp (p, q)) ∙ z)))
    (λ p.
    by (eqb (get_or s i 0) 92) (λ q. let w = most (drop (i + 1) s) (sym (e ∙ simp (p, q)) ∙ z) in let a = w.0 in let b = w.1 in (omega arith, omega arith))
    (λ q. is_none n (sym (e ∙ simp (p, q)) ∙ z)))
  where
    is_some : (m n : ℕ) → Some m ≡ Some n → m ≡ n
    is_some m n e = cc

    is_none : {X : Type 0} (n : ℕ) → None ≡ Some n → X
    is_none n e = let w : ◌≡◌ {A = ℕ} 0 1 = cc in absurd (omega arith)

    most : (x : Text) → reserved_size x ≡ Some n → (n ≡ 2) × (0 < length x)
    most [] y = is_none n y
    most (b ∷ x) y = by (in_ranges b reserved) (λ f. (sym (is_some 2 n (rw f at y)), omega arith)) (λ f. is_none n (rw f at y))

-- ---- The routines `local_first` and `local_next`: a code point that passes, and else PLX

module _ (rs : List Range) (least : ℕ) (s : Text) (i : ℕ) (r : Option ℕ) (h : i < length s) (ch : CharAt rs least s i r) (no37 : in_ranges 37 rs ≡ false) (no92 : in_ranges 92 rs ≡ false) where
  -- No code point passes where PLX begins.
  no_char : (b : ℕ) → b < 128 → in_ranges b rs ≡ false → get_or s i 0 ≡ b → r ≡ None
  no_char b l e f =
      let z = ch.right b (drop (i + 1) s) (omega arith, inl (omega arith)) (rw (lt-ltb b 0x80 l, ← f, add-one, drop-cons s i 0 h)) in
      z ∙ rw (lt-ltb b 128 l, e)

  pub local_char_is : (n : ℕ) → r ≡ Some n → LocalAt rs least s i (Some n)
  local_char_is n z = record {
    within = λ m e. ch.within m (z ∙ e);
    plx = λ e.
        let y : r ≡ None =
        ⊎_elim (λ x. no_char 37 (omega arith) no37 (eqb-true (get_or s i 0) 37 x)) (λ x. no_char 92 (omega arith) no92 (eqb-true (get_or s i 0) 92 x))
        (or_true (eqb (get_or s i 0) 37) (eqb (get_or s i 0) 92) e) in
        let w : ◌≡◌ {A = ℕ} 0 1 = cc in
        absurd (omega arith);
    char = λ _. subst (λ (x : Option ℕ). CharAt rs least s i x) z ch;
  }

  pub local_plx_is : r ≡ None → (m : Option ℕ) → m ≡ plx_size (drop i s) → LocalAt rs least s i m
  local_plx_is z m e = record {
    within = λ n f. plx_within s i h n (sym e ∙ f);
    plx = λ _. e;
    char = λ f. subst (λ (x : Option ℕ). CharAt rs least s i x) (z ∙ sym (nothing f)) ch;
  }
    where
      nothing : is_plx (get_or s i 0) ≡ false → m ≡ None
      nothing f = by (eqb (get_or s i 0) 37) (λ p. absurd (subst T (sym (yes_left p) ∙ f) tt)) (λ p. let q : eqb (get_or s i 0) 92 ≡ false = rw p at f in e ∙ plx_eq s i h ∙ simp (p, q))
        where
          yes_left : eqb (get_or s i 0) 37 ≡ true → is_plx (get_or s i 0) ≡ true
          yes_left p = simp p

-- ---- The automaton over PLX: from q over two digits or one character to q2, where a local part ends

record Plx (q q2 : State) : Type 0 where
  percent : Sent q (only 37) (step 37 q) 0
  hex1 : Sent (step 37 q) (λ b. in_ranges b hex) (step 48 (step 37 q)) 0
  none1 : Ends (step 37 q) (λ b. in_ranges b hex)
  hex2 : Sent (step 48 (step 37 q)) (λ b. in_ranges b hex) q2 3
  none2 : Ends (step 48 (step 37 q)) (λ b. in_ranges b hex)
  slash : Sent q (only 92) (step 92 q) 0
  kept : Sent (step 92 q) (λ b. in_ranges b reserved) q2 3
  none3 : Ends (step 92 q) (λ b. in_ranges b reserved)

-- So much of a local part was read from the place i on, or nothing: then the token is the last one seen.
record Went (s : Text) (q2 : State) (i : ℕ) (seen : Option Token) (r : Option ℕ) : Type 0 where
  broken : r ≡ None → TokenAt s seen
  whole : (n : ℕ) → r ≡ Some n → At s q2 (i + n) (Some (tok 3 (i + n)))

module _ {s : Text} {seen : Option Token} {q q2 : State} (P : Plx q q2) where
  lost : {i : ℕ} {r : Option ℕ} → r ≡ None → TokenAt s seen → Went s q2 i seen r
  lost e g = record { broken = λ _. g; whole = λ n z. let w : ◌≡◌ {A = ℕ} 0 1 = cc in absurd (omega arith) }

  reached : {i j : ℕ} {r : Option ℕ} (m : ℕ) → r ≡ Some m → i + m ≡ j → At s q2 j (Some (tok 3 j)) → Went s q2 i seen r
  reached {i} {j} {r} m e f g = record {
    broken = λ z. let w : ◌≡◌ {A = ℕ} 0 1 = cc in absurd (omega arith);
    whole = λ n z.
        let w : m ≡ n = cc in
        let x : j ≡ i + n = omega arith in
        subst (λ (k : ℕ). At s q2 k (Some (tok 3 k))) x g;
  }

  two_hex : {i : ℕ} {r : Option ℕ} → At s (step 37 q) (i + 1) seen → r ≡ cond {A = Option ℕ} (hex_run 2 (drop (i + 1) s)) (Some 3) None → Went s q2 i seen r
  unfolding hex_run
  two_hex {i} {r} g e =
      ⊎_elim
      (λ h.
      let f : hex_run 2 (drop (i + 1) s) ≡ in_ranges (get_or s (i + 1) 0) hex && hex_run 1 (drop (i + 1 + 1) s) = rw (add-one (i + 1), drop-cons s (i + 1) 0 h) in
      by (in_ranges (get_or s (i + 1) 0) hex)
      (λ x.
      second (take_pass hex g h tt x P.hex1) (e ∙ ap (λ (v : Bool). cond {A = Option ℕ} v (Some 3) None) (f ∙ ap (λ (v : Bool). v && hex_run 1 (drop (i + 1 + 1) s)) x)))
      (λ x. lost (e ∙ ap (λ (v : Bool). cond {A = Option ℕ} v (Some 3) None) (f ∙ ap (λ (v : Bool). v && hex_run 1 (drop (i + 1 + 1) s)) x)) (done g P.none1 (λ _. x))))
      (λ h. lost (e ∙ ap (λ (d : Text). cond {A = Option ℕ} (hex_run 2 d) (Some 3) None) (drop_of_length-le s {i = i + 1} h)) (at_end g h))
      (split (i + 1) (length s))
    where
      second : At s (step 48 (step 37 q)) (i + 1 + 1) seen → r ≡ cond {A = Option ℕ} (hex_run 1 (drop (i + 1 + 1) s)) (Some 3) None → Went s q2 i seen r
      second g e =
          ⊎_elim
          (λ h.
          let f : hex_run 1 (drop (i + 1 + 1) s) ≡ in_ranges (get_or s (i + 1 + 1) 0) hex && true = rw (drop-cons s (i + 1 + 1) 0 h) in
          by (in_ranges (get_or s (i + 1 + 1) 0) hex)
          (λ x.
          reached 3 (e ∙ ap (λ (v : Bool). cond {A = Option ℕ} v (Some 3) None) (f ∙ ap (λ (v : Bool). v && true) x)) (omega arith)
          (take_gain hex g h tt x (omega arith) P.hex2))
          (λ x. lost (e ∙ ap (λ (v : Bool). cond {A = Option ℕ} v (Some 3) None) (f ∙ ap (λ (v : Bool). v && true) x)) (done g P.none2 (λ _. x))))
          (λ h. lost (e ∙ ap (λ (d : Text). cond {A = Option ℕ} (hex_run 1 d) (Some 3) None) (drop_of_length-le s {i = i + 1 + 1} h)) (at_end g h))
          (split (i + 1 + 1) (length s))

  escaped : {i : ℕ} {r : Option ℕ} → At s (step 92 q) (i + 1) seen → r ≡ reserved_size (drop (i + 1) s) → Went s q2 i seen r
  escaped {i} {r} g e =
      ⊎_elim
      (λ h.
      let f : reserved_size (drop (i + 1) s) ≡ cond {A = Option ℕ} (in_ranges (get_or s (i + 1) 0) reserved) (Some 2) None = rw (drop-cons s (i + 1) 0 h) in
      by (in_ranges (get_or s (i + 1) 0) reserved)
      (λ x. reached 2 (e ∙ f ∙ ap (λ (v : Bool). cond {A = Option ℕ} v (Some 2) None) x) (omega arith) (take_gain reserved g h tt x (omega arith) P.kept))
      (λ x. lost (e ∙ f ∙ ap (λ (v : Bool). cond {A = Option ℕ} v (Some 2) None) x) (done g P.none3 (λ _. x))))
      (λ h. lost (e ∙ ap reserved_size (drop_of_length-le s {i = i + 1} h)) (at_end g h))
      (split (i + 1) (length s))

  plx_on : {i : ℕ} {r : Option ℕ} → At s q i seen → i < length s → is_plx (get_or s i 0) ≡ true → r ≡ plx_size (drop i s) → Went s q2 i seen r
  plx_on {i} {r} g h e f =
      by (eqb (get_or s i 0) 37)
      (λ x.
      let y : get_or s i 0 ≡ 37 = eqb-true (get_or s i 0) 37 x in
      two_hex (pass g h (omega arith) x P.percent) (f ∙ plx_eq s i h ∙ simp x))
      (λ x.
      let z : eqb (get_or s i 0) 92 ≡ true = rw x at e in
      let y : get_or s i 0 ≡ 92 = eqb-true (get_or s i 0) 92 z in
      escaped (pass g h (omega arith) z P.slash) (f ∙ plx_eq s i h ∙ simp (x, z)))

-- ---- What the automaton does

abbrev dot_or_plx : ℕ → Bool
dot_or_plx b = eqb b 46 || is_plx b

record Moves : Type 0 where
  first : CharSent after_colon local_first base first_local 3
  first_plx : Plx after_colon first_local
  first_none : CharEnds after_colon local_first base is_plx
  first_like : Alias first_local in_local never
  next : CharSent in_local local inner in_local 3
  next_plx : Plx in_local in_local
  next_none : CharEnds in_local local inner dot_or_plx
  next_dot : Sent in_local (only 46) local_dot 0
  dot_like : Alias local_dot in_local never
  under_colon : Sent after_underscore (only 58) label_colon 0
  under_none : Ends after_underscore (only 58)
  label_begin : CharSent label_colon label_first base first_label 4
  label_none : CharEnds label_colon label_first base never
  label_like : Alias first_label in_label never
  label_next : CharSent in_label name inner in_label 4
  label_end : CharEnds in_label name inner (only 46)
  label_point : Sent in_label (only 46) label_dot 0
  label_dot_like : Alias label_dot in_label never

moves : Moves
unfolding open_states sends high_sends mimics intervals
moves = record {
  first = record { low = record { test = tt }; high = record { test = tt } };
  first_plx = record { percent = record { test = tt }; hex1 = record { test = tt }; none1 = record { low = record { test = tt }; high = record { test = tt } }; hex2 = record { test = tt }; none2 = record { low = record { test = tt }; high = record { test = tt } }; slash = record { test = tt }; kept = record { test = tt }; none3 = record { low = record { test = tt }; high = record { test = tt } } };
  first_none = record { low = record { test = tt }; high = record { test = tt } };
  first_like = record { test = tt };
  next = record { low = record { test = tt }; high = record { test = tt } };
  next_plx = record { percent = record { test = tt }; hex1 = record { test = tt }; none1 = record { low = record { test = tt }; high = record { test = tt } }; hex2 = record { test = tt }; none2 = record { low = record { test = tt }; high = record { test = tt } }; slash = record { test = tt }; kept = record { test = tt }; none3 = record { low = record { test = tt }; high = record { test = tt } } };
  next_none = record { low = record { test = tt }; high = record { test = tt } };
  next_dot = record { test = tt };
  dot_like = record { test = tt };
  under_colon = record { test = tt };
  under_none = record { low = record { test = tt }; high = record { test = tt } };
  label_begin = record { low = record { test = tt }; high = record { test = tt } };
  label_none = record { low = record { test = tt }; high = record { test = tt } };
  label_like = record { test = tt };
  label_next = record { low = record { test = tt }; high = record { test = tt } };
  label_end = record { low = record { test = tt }; high = record { test = tt } };
  label_point = record { test = tt };
  label_dot_like = record { test = tt };
}

module _ (s : Text) where
  -- Over characters of the set to the end of them.
  pub rest_run : (a e : ℕ) → At s in_local a (Some (tok 3 a)) → Span local s a e → At s in_local e (Some (tok 3 e))
  rest_run a e g sp = stay local tt (omega arith) moves.next.low sp g

  pub label_run : (a e : ℕ) → At s in_label a (Some (tok 4 a)) → Span name s a e → At s in_label e (Some (tok 4 e))
  label_run a e g sp = stay name tt (omega arith) moves.label_next.low sp g

  -- local_rest
  module _ (i end : ℕ) (g : At s in_local i (Some (tok 3 end))) where
    pub rest_end : length s ≤ i → TokenAt s (Some (tok 3 end))
    rest_end h = at_end g h

    module _ (h : i < length s) where
      pub rest_dot : get_or s i 0 ≡ 46 → At s in_local (i + 1) (Some (tok 3 end))
      rest_dot e = as_other (pass g h (omega arith) (eq-eqb _ _ e) moves.next_dot) moves.dot_like (λ _. refl)

      module _ (d : get_or s i 0 ≡ 46 → ⊥) (r : Option ℕ) (l : LocalAt local inner s i r) where
        went : Went s in_local i (Some (tok 3 end)) r
        went =
            by (is_plx (get_or s i 0)) (λ e. plx_on moves.next_plx g h e (l.plx e))
            (λ e.
            record {
              broken = λ z. char_off g (l.char e) moves.next_none z (λ _. nor (eqb (get_or s i 0) 46) (is_plx (get_or s i 0)) (ne_eqb _ _ d) e);
              whole = λ n z. char_on g (l.char e) moves.next z;
            })

        pub rest_none : r ≡ None → TokenAt s (Some (tok 3 end))
        rest_none z = went.broken z

        pub rest_more : (n : ℕ) → r ≡ Some n → At s in_local (i + n) (Some (tok 3 (i + n)))
        rest_more n z = went.whole n z

  -- local_part
  module _ (at : ℕ) (g : At s after_colon at (Some (tok 2 at))) where
    pub local_end : length s ≤ at → TokenAt s (Some (tok 2 at))
    local_end h = at_end g h

    module _ (h : at < length s) (r : Option ℕ) (l : LocalAt local_first base s at r) where
      begun : Went s first_local at (Some (tok 2 at)) r
      begun =
          by (is_plx (get_or s at 0)) (λ e. plx_on moves.first_plx g h e (l.plx e))
          (λ e.
          record {
            broken = λ z. char_off g (l.char e) moves.first_none z (λ _. e);
            whole = λ n z. char_on g (l.char e) moves.first z;
          })

      pub local_none : r ≡ None → TokenAt s (Some (tok 2 at))
      local_none z = begun.broken z

      pub local_more : (n : ℕ) → r ≡ Some n → At s in_local (at + n) (Some (tok 3 (at + n)))
      local_more n z = as_other (begun.whole n z) moves.first_like (λ _. refl)

  -- label_rest
  module _ (i end : ℕ) (g : At s in_label i (Some (tok 4 end))) where
    pub label_stop : length s ≤ i → TokenAt s (Some (tok 4 end))
    label_stop h = at_end g h

    module _ (h : i < length s) where
      pub label_to_dot : get_or s i 0 ≡ 46 → At s in_label (i + 1) (Some (tok 4 end))
      label_to_dot e = as_other (pass g h (omega arith) (eq-eqb _ _ e) moves.label_point) moves.label_dot_like (λ _. refl)

      module _ (r : Option ℕ) (c : CharAt name inner s i r) where
        pub label_other : (get_or s i 0 ≡ 46 → ⊥) → r ≡ None → TokenAt s (Some (tok 4 end))
        label_other d z = char_off g c moves.label_end z (λ _. ne_eqb _ _ d)

        pub label_more : (n : ℕ) → r ≡ Some n → At s in_label (i + n) (Some (tok 4 (i + n)))
        label_more n z = char_on g c moves.label_next z

  -- label
  module _ (g : At s after_underscore 1 None) where
    pub under_end : length s < 2 → TokenAt s None
    under_end h = at_end g (omega arith)

    module _ (h : 2 ≤ length s) where
      pub under_other : (get_or s 1 0 ≡ 58 → ⊥) → TokenAt s None
      under_other n = done g moves.under_none (λ _. ne_eqb _ _ n)

      module _ (e : get_or s 1 0 ≡ 58) where
        colon : At s label_colon 2 None
        colon = pass g (omega arith) (omega arith) (eq-eqb _ _ e) moves.under_colon

        pub colon_end : length s < 3 → TokenAt s None
        colon_end l = at_end colon (omega arith)

        module _ (r : Option ℕ) (c : CharAt label_first base s 2 r) where
          pub colon_none : r ≡ None → TokenAt s None
          colon_none z = char_off colon c moves.label_none z (λ _. refl)

          pub colon_more : (n : ℕ) → r ≡ Some n → At s in_label (2 + n) (Some (tok 4 (2 + n)))
          colon_more n z = as_other (char_on colon c moves.label_begin z) moves.label_like (λ _. refl)

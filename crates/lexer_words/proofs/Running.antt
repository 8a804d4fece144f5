-- Runs of PN_CHARS and dots: what the routine `name_run` shows, and what an automaton does over them.
use Rattle.token.proofs.Sizes.{length_encodes, size_append}
use mathlib.Core.Path.{◌≡◌, refl, subst, sym, ap, ap₂, ◌∙◌}
use mathlib.Core.Logic.{◌⊎◌, inl, inr, ⊎_elim}
use mathlib.Core.Bool.{Bool, true, false, ◌||◌}
use mathlib.Core.List.{List, [], ◌∷◌, ◌++◌, append_assoc, append-nil}
use Prim.Native.Nat.{ℕ, zero, suc, ◌+◌, ◌-◌, ◌%◌, ◌≤◌, ◌<◌}
use native.Mathlib.Omega.{arith}
use native.Mathlib.Nat.{add-zero, add_assoc}
use borrow.Author.Tests.{eq-eqb, ne_eqb, eqb-true, lt-ltb, le-ltb}
use lib.Dec.{T, eqb, ltb}
use lib.ListN.{length, get_or, drop, length-append, length-drop}
use lib.Seq.{get_or-drop, get_or-append-add}
use Rattle.std.specs.Prelude.{Option, Some, None}
use Rattle.automaton.specs.declared.Token.{Token}
use Rattle.text.specs.Text.{Text, cond}
use Rattle.utf8.specs.Utf8.{encode, encodes, width, sequence_size}
use Rattle.utf8.specs.Scalar.{Scalar, Scalars, Encodes}
use Rattle.utf8.proofs.Tests.{by, or_false}
use Rattle.utf8.proofs.Encoding.{by_width, length_encode, width_pos}
use Rattle.utf8.proofs.Decoding.{encodes_append}
use Rattle.token.specs.Regular.{Match, nothing, in_ranges, step, now_at, size}
use Rattle.automaton.specs.States.{State, dead}
use Rattle.automaton.specs.Run.{see, run, Front}
use Rattle.automaton.proofs.Steps.{only, Sent, sent_to, sent_kind, at_first, next_left, front_whole}
use Rattle.characters.specs.Bytes.{name}
use Rattle.characters.specs.Names.{inner, passes, CharAt}
use Rattle.characters.specs.Runs.{Span}
use Rattle.characters.proofs.Sets.{set_low}
use Rattle.characters.proofs.Points.{first, char_low, some_passes, none_passes, CharSent, CharEnds, point_to, point_dead}
use Rattle.lexer_words.specs.Runs.{in_run, All_run, Scan, Beyond, Scanned, RunAt}
use Rattle.lexer_words.proofs.Muting.{Mute, mute_dead}

-- ---- The routine

run_append : (xs : List ℕ) (c : ℕ) → All_run xs → in_run c ≡ true → All_run (xs ++ (c ∷ []))
run_append [] c r e = (e, tt)
run_append (x ∷ xs) c r e = (r.0, run_append xs c r.1 e)

module _ (s : Text) (at : ℕ) where
  pub scan_begin : at ≤ length s → Scanned s at at
  scan_begin h = record {
    from = omega arith;
    within = h;
    over = λ cs z g. inl (record { xs = []; ys = cs; whole = refl; sized = add-zero at; left = g; run = tt });
  }

  module _ (i : ℕ) (g : Scanned s at i) where
    scan_on : (n : ℕ) → i + n ≤ length s → 0 < n
        → ((c : ℕ) (u : Text) → Scalar c → drop i s ≡ encode c ++ u → (n ≡ width c) × (in_run c ≡ true)) → Scanned s at (i + n)
    unfolding encodes
    scan_on n h p f = record {
      from = let a = g.from in omega arith;
      within = h;
      over = λ cs z e.
          ⊎_elim (λ r. fin cs z r.xs r.ys r.whole r.sized r.left.scalars r.left.bytes r.left.bad r.run)
          (λ r. inr (record { behind = let o = r.behind in omega arith; run = r.run }))
          (g.over cs z e);
    }
      where
        fin : (cs : List ℕ) (z : Text) (xs ys : List ℕ) → cs ≡ xs ++ ys → at + size width xs ≡ i → Scalars ys → drop i s ≡ encodes ys ++ z → sequence_size z ≡ 0 → All_run xs
            → Scan s at (i + n) cs z ⊎ Beyond at (i + n) cs
        fin cs z xs [] w y sc d b a =
            let e : cs ≡ xs = w ∙ append-nil xs in
            let o = ap (size width) e in
            inr (record { behind = omega arith; run = subst All_run (sym e) a })
        fin cs z xs (c ∷ ys) w y sc d b a =
            let d' = d ∙ append_assoc (encode c) (encodes ys) z in
            let v = f c (encodes ys ++ z) sc.0 d' in
            let v0 = v.0 in
            let o = size_append xs (c ∷ []) in
            inl
            (record {
              xs = xs ++ (c ∷ []);
              ys = ys;
              whole = w ∙ sym (append_assoc xs (c ∷ []) ys);
              sized = omega arith;
              left = record { scalars = sc.1; bytes = next_left s i c (encodes ys ++ z) d' n v0; bad = b };
              run = run_append xs c a v.1;
            })

    pub scan_dot : i < length s → get_or s i 0 ≡ 46 → Scanned s at (i + 1)
    scan_dot h e =
        scan_on 1 (omega arith) (omega arith)
        (λ c u sc d.
        ⊎_elim
        (λ v.
        let z : c ≡ 46 = sym v.1 ∙ e in
        (let x = v.0 in simp (lt-ltb c 0x80 x), ap in_run z))
        (λ v. let x = v.1 in absurd (omega arith))
        (at_first s i c u d))

    module _ (r : Option ℕ) (ch : CharAt name inner s i r) where
      pub scan_name : (n : ℕ) → r ≡ Some n → Scanned s at (i + n)
      scan_name n z =
          scan_on n (ch.within n z).1 (ch.within n z).0
          (λ c u sc d. let v = some_passes (passes name inner c) (width c) n (sym z ∙ ch.right c u sc d) in (v.1, rw v.0))

      pub run_stop : i < length s → (get_or s i 0 ≡ 46 → ⊥) → r ≡ None → RunAt s at i
      run_stop h m z = record {
        scanned = g;
        stop = λ c t sc d.
            let p : passes name inner c ≡ false = none_passes (passes name inner c) (width c) (sym z ∙ ch.right c t sc d) in
            let q : eqb c 46 ≡ false = ne_eqb c 46 (λ x. ⊎_elim (λ v. m (v.1 ∙ x)) (λ v. let y = v.0 in omega arith) (first s i c t d)) in
            simp (p, q);
      }

    pub run_end : length s ≤ i → RunAt s at i
    run_end h = record {
      scanned = g;
      stop = λ c t sc d.
          let o = sym (length-drop i s) ∙ ap length d ∙ length-append (encode c) t in
          let p = length_encode c in
          let q = width_pos c in
          absurd (omega arith);
    }

  -- Over bytes of PN_CHARS to the end of them.
  pub scan_run : (e : ℕ) → at ≤ length s → Span name s at e → Scanned s at e
  scan_run e h sp =
      let f = sp.from in
      let m : at + (e - at) ≡ e = omega arith in
      subst (λ (n : ℕ). Scanned s at n) m (up (e - at) (omega arith))
    where
      up : (n : ℕ) → at + n ≤ e → Scanned s at (at + n)
      up zero l = subst (λ (n : ℕ). Scanned s at n) (sym (add-zero at)) (scan_begin h)
      up (suc n) l =
          let w = sp.within in
          let m : at + n + 1 ≡ at + suc n = omega arith in
          let b : in_ranges (get_or s (at + n) 0) name ≡ true = sp.all (at + n) (omega arith) (omega arith) in
          subst (λ (n : ℕ). Scanned s at n) m
          (scan_name (at + n) (up n (omega arith)) (Some 1) (char_low name inner s (at + n) (omega arith) true (set_low name tt (get_or s (at + n) 0) b) (sym b)) 1 refl)

-- Of UTF-8, the end of the run is not behind.
pub whole_scan : (s : Text) (at i : ℕ) → Scanned s at i → (cs : List ℕ) → Encodes (drop at s) cs → Scan s at i cs []
whole_scan s at i g cs e =
    ⊎_elim (λ r. r)
    (λ r.
    let o = r.behind in
    let h = g.within in
    let m = sym (length-drop at s) ∙ ap length e.bytes ∙ length_encodes cs in
    absurd (omega arith))
    (g.over cs [] (front_whole e))

-- ---- The last code point of a run is a dot where the last byte is one

abbrev pub last_dot : Bool → List ℕ → Bool
last_dot d [] = d
last_dot d (x ∷ xs) = last_dot (eqb x 46) xs

-- Whether the byte before i is a dot, for a run that begins at `at`.
abbrev pub dot_before : Text → ℕ → ℕ → Bool
dot_before s at i = cond (ltb at i) (eqb (get_or s (i - 1) 0) 46) false

last_byte_one : (c : ℕ) (t : Text) → eqb c 46 ≡ eqb (get_or (encode c ++ t) (width c - 1) 0) 46
last_byte_one c t =
    by_width c
    (λ h. simp (lt-ltb c 0x80 h))
    (λ h h'. simp (le-ltb c 0x80 h, lt-ltb c 0x800 h') (ne_eqb c 46 (omega arith) ∙ sym (ne_eqb (0x80 + c % 64) 46 (omega arith))))
    (λ h h'. simp (le-ltb c 0x80 (omega arith), le-ltb c 0x800 h, lt-ltb c 0x10000 h') (ne_eqb c 46 (omega arith) ∙ sym (ne_eqb (0x80 + c % 64) 46 (omega arith))))
    (λ h. simp (le-ltb c 0x80 (omega arith), le-ltb c 0x800 (omega arith), le-ltb c 0x10000 h) (ne_eqb c 46 (omega arith) ∙ sym (ne_eqb (0x80 + c % 64) 46 (omega arith))))

last_byte : (d : Bool) (x : ℕ) (xs : List ℕ) (t : Text) → last_dot d (x ∷ xs) ≡ eqb (get_or (encodes (x ∷ xs) ++ t) (size width (x ∷ xs) - 1) 0) 46
unfolding encodes
last_byte d x [] t =
    let z : size width (x ∷ []) - 1 ≡ width x - 1 = omega arith in
    last_byte_one x ([] ++ t) ∙ ap₂ (λ (y : Text) (n : ℕ). eqb (get_or y n 0) 46) (sym (append_assoc (encode x) [] t)) (sym z)
last_byte d x (y ∷ xs) t =
    let p = width_pos y in
    let z : size width (x ∷ y ∷ xs) - 1 ≡ length (encode x) + (size width (y ∷ xs) - 1) = (let l = length_encode x in omega arith) in
    last_byte (eqb x 46) y xs t
    ∙ sym
    (ap₂ (λ (u : Text) (n : ℕ). eqb (get_or u n 0) 46) (append_assoc (encode x) (encodes (y ∷ xs)) t) z
    ∙ ap (λ (b : ℕ). eqb b 46) (get_or-append-add (encode x) (encodes (y ∷ xs) ++ t) (size width (y ∷ xs) - 1) 0))

-- The code points that were passed end with a dot where the byte before i is one.
pub scan_last : (s : Text) (at i : ℕ) (cs : List ℕ) (z : Text) → Front (drop at s) cs z → (r : Scan s at i cs z) → last_dot false r.xs ≡ dot_before s at i
scan_last s at i cs z g r = fin r.xs r.ys (g.bytes ∙ ap (λ (x : List ℕ). encodes x ++ z) r.whole) r.sized
  where
    fin : (xs ys : List ℕ) → drop at s ≡ encodes (xs ++ ys) ++ z → at + size width xs ≡ i → last_dot false xs ≡ dot_before s at i
    fin [] ys d w =
        let m : i ≡ at = sym w ∙ add-zero at in
        sym (ap (λ (v : Bool). cond v (eqb (get_or s (i - 1) 0) 46) false) (le-ltb at i (omega arith)))
    fin (x ∷ xs) ys d w =
        let p = width_pos x in
        let m : at + (size width (x ∷ xs) - 1) ≡ i - 1 = omega arith in
        let b : get_or s (i - 1) 0 ≡ get_or (encodes (x ∷ xs) ++ (encodes ys ++ z)) (size width (x ∷ xs) - 1) 0 =
        ap (λ (n : ℕ). get_or s n 0) (sym m) ∙ sym (get_or-drop at s (size width (x ∷ xs) - 1) 0)
        ∙ ap (λ (u : Text). get_or u (size width (x ∷ xs) - 1) 0)
        (d ∙ ap (λ (u : Text). u ++ z) (encodes_append (x ∷ xs) ys) ∙ append_assoc (encodes (x ∷ xs)) (encodes ys) z) in
        last_byte false x xs (encodes ys ++ z) ∙ ap (λ (n : ℕ). eqb n 46) (sym b)
        ∙ sym (ap (λ (v : Bool). cond v (eqb (get_or s (i - 1) 0) 46) false) (lt-ltb at i (omega arith)))

-- ---- Two states, within a run and after a dot there

abbrev dot_or_colon : ℕ → Bool
dot_or_colon b = eqb b 46 || eqb b 58

pub record Pair (a b : State) : Type 0 where
  pub name_on : CharSent a name inner a 0
  pub dot : Sent a (only 46) b 0
  pub none : CharEnds a name inner dot_or_colon
  pub dot_name : CharSent b name inner a 0
  pub dot_dot : Sent b (only 46) b 0
  pub dot_none : CharEnds b name inner dot_or_colon
  pub dot_colon : Sent b (only 58) dead 0

module _ {a b : State} (t : Pair a b) where
  abbrev pub state : Bool → State
  state d = cond d b a

  pub silent : (d : Bool) → now_at (state d) ≡ nothing
  silent true = sent_kind t.dot
  silent false = sent_kind t.name_on.low

  run_move : (d : Bool) (x : ℕ) → Scalar x → in_run x ≡ true → step x (state d) ≡ state (eqb x 46)
  run_move d x sc e =
      by (eqb x 46)
      (λ f. let z = eqb-true x 46 f in rw f (with_dot d x z))
      (λ f. rw f (with_name d (left (passes name inner x) (eqb x 46) f e)))
    where
      left : (p q : Bool) → q ≡ false → (p || q) ≡ true → p ≡ true
      left true q f e = refl
      left false q f e = absurd (subst T (sym (sym f ∙ e)) tt)

      with_dot : (d : Bool) (x : ℕ) → x ≡ 46 → step x (state d) ≡ b
      with_dot true x z = sent_to t.dot_dot x (omega arith) (eq-eqb _ _ z)
      with_dot false x z = sent_to t.dot x (omega arith) (eq-eqb _ _ z)

      with_name : (d : Bool) → passes name inner x ≡ true → step x (state d) ≡ a
      with_name true p = point_to t.dot_name x sc p
      with_name false p = point_to t.name_on x sc p

  -- What follows the run leads nowhere, but for a colon after no dot.
  pub stop_dead : (d : Bool) (y : ℕ) → Scalar y → in_run y ≡ false → (y ≡ 58 → d ≡ true) → step y (state d) ≡ dead
  stop_dead d y sc e n =
      by (eqb y 58) (λ f. let z = eqb-true y 58 f in colon d (n z) z) (λ f. other d (or_false (passes name inner y) (eqb y 46) e).0 (or_false (passes name inner y) (eqb y 46) e).1 f)
    where
      colon : (d : Bool) → d ≡ true → y ≡ 58 → step y (state d) ≡ dead
      colon true f z = sent_to t.dot_colon y (omega arith) (eq-eqb _ _ z)
      colon false f z = absurd (subst T (sym f) tt)

      other : (d : Bool) → passes name inner y ≡ false → eqb y 46 ≡ false → eqb y 58 ≡ false → step y (state d) ≡ dead
      other true p q r = point_dead t.dot_none y sc p (λ _. simp (q, r))
      other false p q r = point_dead t.none y sc p (λ _. simp (q, r))

  pub run_over : (xs ys : List ℕ) (d : Bool) (i : ℕ) (seen : Option Token) → Scalars (xs ++ ys) → All_run xs
      → run (state d) i seen (xs ++ ys) ≡ run (state (last_dot d xs)) (i + size width xs) seen ys
  run_over [] ys d i seen sc r = ap (λ (n : ℕ). run (state d) n seen ys) (sym (add-zero i))
  run_over (x ∷ xs) ys d i seen sc r =
      ap (λ (q : State). run q (i + width x) (see (now_at q) (i + width x) seen) (xs ++ ys)) (run_move d x sc.0 r.0)
      ∙ ap (λ (m : Match). run (state (eqb x 46)) (i + width x) (see m (i + width x) seen) (xs ++ ys)) (silent (eqb x 46))
      ∙ run_over xs ys (eqb x 46) (i + width x) seen sc.1 r.1
      ∙ ap (λ (n : ℕ). run (state (last_dot (eqb x 46) xs)) n seen ys) (add_assoc i (width x) (size width xs))

  -- No token ends in a run, nor after it.
  pub mute_run : (xs ys : List ℕ) (d : Bool) → Scalars (xs ++ ys) → All_run xs
      → ((c : ℕ) (zs : List ℕ) → ys ≡ c ∷ zs → (in_run c ≡ false) × (c ≡ 58 → last_dot d xs ≡ true)) → Mute (state d) (xs ++ ys)
  mute_run [] [] d sc r n = silent d
  mute_run [] (y ∷ ys) d sc r n =
      let v = n y ys refl in
      (silent d, subst (λ (q : State). Mute q ys) (sym (stop_dead d y sc.0 v.0 v.1)) (mute_dead ys))
  mute_run (x ∷ xs) ys d sc r n =
      (silent d, subst (λ (q : State). Mute q (xs ++ ys)) (sym (run_move d x sc.0 r.0)) (mute_run xs ys (eqb x 46) sc.1 r.1 n))

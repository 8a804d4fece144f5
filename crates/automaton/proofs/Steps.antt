-- One step of the automaton, as a routine takes it: by a byte below 128 that passes a test, over a byte from 128 on, to a dead end, at the end.
-- That all bytes that pass a test lead from one state to another is computed.
use mathlib.Core.Path.{◌≡◌, refl, subst, sym, ap, ◌∙◌}
use mathlib.Core.Logic.{◌⊎◌, inl, inr, ⊎_elim}
use mathlib.Core.Bool.{Bool, true, false, not, ◌&&◌}
use mathlib.Core.List.{List, [], ◌∷◌, ◌++◌, append_assoc, append-nil}
use Prim.Native.Nat.{ℕ, zero, suc, ◌+◌, ◌≤◌, ◌<◌}
use native.Mathlib.Omega.{arith}
use native.Mathlib.Nat.{add-zero}
use borrow.Author.Tests.{lt-ltb, ne_eqb}
use lib.Dec.{T, eqb}
use lib.ListN.{length, get_or, drop, length-append, length-drop}
use lib.Seq.{drop_at, drop-drop, get_or-drop}
use Rattle.std.specs.Prelude.{Option, Some, None}
use Rattle.automaton.specs.declared.Token.{Token}
use Rattle.text.specs.Text.{Text, cond}
use Rattle.utf8.specs.Utf8.{encode, encodes, width, sequences, fits, first_fit, sequence_size}
use Rattle.utf8.specs.Scalar.{Scalar, Scalars, Encodes, Highs}
use Rattle.utf8.proofs.Tests.{split, below, below_at, and_true, and_left, and_right}
use Rattle.utf8.proofs.Encoding.{head, length_encode, width_pos, highs_encode}
use Rattle.token.specs.Regular.{Match, nothing, hit, step, now_at, size}
use Rattle.token.specs.Terminals.{terminals, long_terminals, tripled, token_at}
use Rattle.token.proofs.Sizes.{length_encodes}
use Rattle.automaton.specs.States.{State, ending, start, long_start, dead}
use Rattle.automaton.specs.Levels.{Interval, interval, intervals, find, level_in, level}
use Rattle.automaton.specs.Run.{tok, answer, len_of, see, run, Front, Rest, Past, At, Inner, In, TokenAt}
use Rattle.automaton.proofs.Same.{same_state, same_state_eq, same_match, same_match_eq}
use Rattle.automaton.proofs.Uniform.{Holds, each, found_in, solid, step_solid}
use Rattle.automaton.proofs.Runs.{start_of, rest_start, rest_end, dead_run}

-- ---- Tests of moves

-- The test that a byte is k, the one that each passes, and the one that none does.
abbrev pub only : ℕ → ℕ → Bool
only k b = eqb b k

abbrev pub always : ℕ → Bool
always b = true

abbrev pub never : ℕ → Bool
never b = false

-- Every byte below 128 that passes f leads from q to q2, where a token of the kind k ends (0: none).
abbrev send : State → (ℕ → Bool) → State → ℕ → Bool
send q f q2 b = let r = same_state (step b q) q2 in cond (f b) r true

unfoldable pub sends : State → (ℕ → Bool) → State → ℕ → Bool
sends q f q2 k = below (send q f q2) 128 && same_match (now_at q2) (ending k)

pub record Sent (q : State) (f : ℕ → Bool) (q2 : State) (k : ℕ) : Type 0 where
  pub test : T (sends q f q2 k)

-- Every code point from 128 on whose level passes f leads from q to q2.
abbrev high_send : State → (ℕ → Bool) → State → Interval → Bool
high_send q f q2 (interval lo hi k) = let r = solid lo hi q && same_state (step lo q) q2 in cond (f k) r true

unfoldable pub high_sends : State → (ℕ → Bool) → State → Bool
high_sends q f q2 = each (high_send q f q2) intervals

pub record HighSent (q : State) (f : ℕ → Bool) (q2 : State) : Type 0 where
  pub test : T (high_sends q f q2)

pub sent_to : {q : State} {f : ℕ → Bool} {q2 : State} {k : ℕ} → Sent q f q2 k → (b : ℕ) → b < 128 → f b ≡ true → step b q ≡ q2
unfolding sends
sent_to {q} {f} {q2} {k} t b h e =
    same_state_eq (step b q) q2 (rw e at (below_at (send q f q2) 128 (and_left (below (send q f q2) 128) (same_match (now_at q2) (ending k)) t.test) b h))

pub sent_kind : {q : State} {f : ℕ → Bool} {q2 : State} {k : ℕ} → Sent q f q2 k → now_at q2 ≡ ending k
unfolding sends
sent_kind {q} {f} {q2} {k} t = same_match_eq (now_at q2) (ending k) (and_right (below (send q f q2) 128) (same_match (now_at q2) (ending k)) t.test)

pub high_to : {q : State} {f : ℕ → Bool} {q2 : State} → HighSent q f q2 → (c : ℕ) → 128 ≤ c → c < 0x110000 → f (level c) ≡ true → step c q ≡ q2
unfolding high_sends level
high_to {q} {f} {q2} t c l u e = fin (find intervals c) (found_in (high_send q f q2) t.test c l u) e
  where
    fin : (x : Interval) → Holds x c × T (high_send q f q2 x) → f (level_in x) ≡ true → step c q ≡ q2
    fin (interval lo hi k) v e =
        let w : T (solid lo hi q && same_state (step lo q) q2) = rw e at v.1 in
        let r = and_true (solid lo hi q) (same_state (step lo q) q2) w in
        step_solid c lo hi v.0.0 v.0.1 q r.0 ∙ same_state_eq (step lo q) q2 r.1

-- Nothing but a byte that passes f leaves q.
pub record Ends (q : State) (f : ℕ → Bool) : Type 0 where
  pub low : Sent q (λ b. not (f b)) dead 0
  pub high : HighSent q always dead

-- Code points from 128 on lead from q to q2, where no token ends.
pub record HighMoves (q q2 : State) : Type 0 where
  pub moves : HighSent q always q2
  pub silent : Sent q never q2 0

-- q does as q2 does, but for bytes that pass f.
abbrev alike : State → State → (ℕ → Bool) → ℕ → Bool
alike q q2 f b = let r = same_state (step b q) (step b q2) in cond (f b) true r

abbrev high_alike : State → State → Interval → Bool
high_alike q q2 (interval lo hi k) = solid lo hi q && solid lo hi q2 && same_state (step lo q) (step lo q2)

unfoldable pub mimics : State → State → (ℕ → Bool) → Bool
mimics q q2 f = below (alike q q2 f) 128 && each (high_alike q q2) intervals

pub record Alias (q q2 : State) (f : ℕ → Bool) : Type 0 where
  pub test : T (mimics q q2 f)

low_alias : {q q2 : State} {f : ℕ → Bool} → Alias q q2 f → (c : ℕ) → c < 128 → f c ≡ false → step c q ≡ step c q2
unfolding mimics
low_alias {q} {q2} {f} t c h e =
    same_state_eq (step c q) (step c q2) (rw e at (below_at (alike q q2 f) 128 (and_left (below (alike q q2 f) 128) (each (high_alike q q2) intervals) t.test) c h))

high_alias : {q q2 : State} {f : ℕ → Bool} → Alias q q2 f → (c : ℕ) → 128 ≤ c → c < 0x110000 → step c q ≡ step c q2
unfolding mimics
high_alias {q} {q2} {f} t c l u =
    fin (find intervals c) (found_in (high_alike q q2) (and_right (below (alike q q2 f) 128) (each (high_alike q q2) intervals) t.test) c l u)
  where
    fin : (x : Interval) → Holds x c × T (high_alike q q2 x) → step c q ≡ step c q2
    fin (interval lo hi k) v =
        let r = and_true (solid lo hi q && solid lo hi q2) (same_state (step lo q) (step lo q2)) v.1 in
        let p = and_true (solid lo hi q) (solid lo hi q2) r.0 in
        step_solid c lo hi v.0.0 v.0.1 q p.0 ∙ same_state_eq (step lo q) (step lo q2) r.1
        ∙ sym (step_solid c lo hi v.0.0 v.0.1 q2 p.1)

-- The two states move alike with a code point that does not pass f.
pub alias_step : {q q2 : State} {f : ℕ → Bool} → Alias q q2 f → (c : ℕ) → Scalar c → (c < 128 → f c ≡ false) → step c q ≡ step c q2
alias_step t c sc n = ⊎_elim (λ l. low_alias t c l (n l)) (λ l. high_alias t c l sc.0) (split c 128)

-- ---- The code point at a place

seen_within : (m : Match) (i j : ℕ) (seen : Option Token) → len_of seen ≤ i → i ≤ j → len_of (see m j seen) ≤ j
seen_within nothing i j seen h k = omega arith
seen_within (hit k n) i j seen h l = omega arith

module _ (s : Text) (i c : ℕ) (u : Text) (d : drop i s ≡ encode c ++ u) where
  pub first_byte : get_or s i 0 ≡ get_or (encode c ++ u) 0 0
  first_byte = ap (λ (n : ℕ). get_or s n 0) (sym (add-zero i)) ∙ sym (get_or-drop i s 0 0) ∙ ap (λ (x : Text). get_or x 0 0) d

  -- The byte at a place says whether the code point there is below 128, and which.
  pub at_first : ((c < 0x80) × (get_or s i 0 ≡ c)) ⊎ ((0x80 ≤ c) × (0x80 ≤ get_or s i 0))
  at_first =
      ⊎_elim (λ v. inl (v.0, first_byte ∙ v.1)) (λ v. inr (v.0, subst (λ (n : ℕ). 0x80 ≤ n) (sym first_byte) v.1)) (head c u)

  pub some_left : i < length s
  some_left =
      let o = sym (length-drop i s) ∙ ap length d ∙ length-append (encode c) u in
      let p = length_encode c in
      let p' = width_pos c in
      omega arith

  -- What is left after it.
  pub next_left : (n : ℕ) → n ≡ width c → drop (i + n) s ≡ u
  next_left n e = sym (drop-drop n i s) ∙ ap (drop n) d ∙ drop_at (encode c) u n (length_encode c ∙ sym e)

-- ---- The end of the code points

pub front_whole : {s : Text} {cs : List ℕ} → Encodes s cs → Front s cs []
unfolding sequence_size first_fit sequences fits
front_whole {s} {cs} e = record { scalars = e.scalars; bytes = e.bytes ∙ sym (append-nil (encodes cs)); bad = refl }

-- The place, by those that are left there.
pub front_place : {s : Text} {cs : List ℕ} {z : Text} → Front s cs z → (i : ℕ) → i ≤ length s → (ds : List ℕ) → drop i s ≡ encodes ds ++ z
    → i + size width ds ≡ size width cs
front_place {s} {cs} {z} e i h ds d =
    let o = ap length e.bytes ∙ length-append (encodes cs) z in
    let p = length_encodes cs in
    let q = sym (length-drop i s) ∙ ap length d ∙ length-append (encodes ds) z in
    let r = length_encodes ds in
    omega arith

-- A token that is seen behind their end ends there.
past_on : (m : Match) (j : ℕ) (seen : Option Token) (cs : List ℕ) → size width cs < j → (len_of seen < size width cs → seen ≡ answer (token_at cs))
    → Past j (see m j seen) cs
past_on nothing j seen cs h w = record { behind = h; kept = w }
past_on (hit k n) j seen cs h w = record { behind = h; kept = λ l. absurd (omega arith) }

-- The token at the end of a run.
token : {s : Text} {i : ℕ} {seen : Option Token} → i ≤ length s → len_of seen ≤ i
    → ((cs : List ℕ) (z : Text) → Front s cs z → (seen ≡ answer (token_at cs)) ⊎ Past i seen cs) → TokenAt s seen
token {s} {i} {seen} h l f = record {
  within = omega arith;
  right = λ cs e.
      ⊎_elim (λ w. w)
      (λ p. let o = p.behind in let m = ap length e.bytes ∙ length_encodes cs in absurd (omega arith))
      (f cs [] (front_whole e));
  front = λ cs z e n. ⊎_elim (λ w. w) (λ p. p.kept n) (f cs z e);
}

-- Of UTF-8, the place is not behind.
pub whole_rest : {s : Text} {q : State} {i : ℕ} {seen : Option Token} → At s q i seen → (cs : List ℕ) → Encodes s cs → Rest s q i seen cs []
whole_rest g cs e =
    ⊎_elim (λ r. r)
    (λ p. let o = p.behind in let h = g.within in let m = ap length e.bytes ∙ length_encodes cs in absurd (omega arith))
    (g.rest cs [] (front_whole e))

-- ---- One code point on

module _ {s : Text} {q : State} {i : ℕ} {seen : Option Token} (g : At s q i seen) where
  -- The next code point leads to q2, whatever it is, and has n bytes.
  pub by_code_point : (q2 : State) (n : ℕ) → i + n ≤ length s → (0 < n)
      → ((c : ℕ) (u : Text) → Scalar c → drop i s ≡ encode c ++ u → (n ≡ width c) × (step c q ≡ q2))
      → At s q2 (i + n) (see (now_at q2) (i + n) seen)
  unfolding encodes
  by_code_point q2 n h p f = record {
    within = h;
    last = seen_within (now_at q2) i (i + n) seen g.last (omega arith);
    rest = λ cs z e.
        ⊎_elim (λ r. fin cs z e r.ds r.left.scalars r.left.bytes r.same)
        (λ r. let o = r.behind in inr (past_on (now_at q2) (i + n) seen cs (omega arith) r.kept))
        (g.rest cs z e);
  }
    where
      fin : (cs : List ℕ) (z : Text) → Front s cs z → (ds : List ℕ) → Scalars ds → drop i s ≡ encodes ds ++ z → run q i seen ds ≡ answer (token_at cs)
          → Rest s q2 (i + n) (see (now_at q2) (i + n) seen) cs z ⊎ Past (i + n) (see (now_at q2) (i + n) seen) cs
      fin cs z e [] sc d w = let o = front_place e i g.within [] d in inr (past_on (now_at q2) (i + n) seen cs (omega arith) (λ _. w))
      fin cs z e (c ∷ ds) sc d w =
          let d' = d ∙ append_assoc (encode c) (encodes ds) z in
          let v = f c (encodes ds ++ z) sc.0 d' in
          inl
          (record {
            ds = ds;
            left = record { scalars = sc.1; bytes = next_left s i c (encodes ds ++ z) d' n v.0; bad = e.bad };
            same = rw (v.0, ← v.1) w;
          })

  -- The next code point leads nowhere, if there is one.
  pub by_nothing : ((c : ℕ) (u : Text) → Scalar c → drop i s ≡ encode c ++ u → step c q ≡ dead) → TokenAt s seen
  unfolding encodes
  by_nothing f = token g.within g.last (λ cs z e. ⊎_elim (λ r. inl (fin cs z r.ds r.left.scalars r.left.bytes r.same)) inr (g.rest cs z e))
    where
      fin : (cs : List ℕ) (z : Text) (ds : List ℕ) → Scalars ds → drop i s ≡ encodes ds ++ z → run q i seen ds ≡ answer (token_at cs)
          → seen ≡ answer (token_at cs)
      fin cs z [] sc d w = w
      fin cs z (c ∷ ds) sc d w =
          let y : run dead (i + width c) seen ds ≡ answer (token_at cs) = rw (f c (encodes ds ++ z) sc.0 (d ∙ append_assoc (encode c) (encodes ds) z)) at w in
          sym (dead_run ds (i + width c) seen) ∙ y

  pub at_dead : q ≡ dead → TokenAt s seen
  at_dead e = by_nothing (λ c u sc d. ap (step c) e)

  pub at_end : length s ≤ i → TokenAt s seen
  at_end h = token g.within g.last (λ cs z e. ⊎_elim (λ r. inl (rest_end s q i seen cs z h r)) inr (g.rest cs z e))

  -- A state that does as another does, but for bytes that pass f, where no such byte stands.
  pub as_other : {q2 : State} {f : ℕ → Bool} → Alias q q2 f → (i < length s → f (get_or s i 0) ≡ false) → At s q2 i seen
  unfolding encodes
  as_other {q2} {f} t n = record {
    within = g.within;
    last = g.last;
    rest = λ cs z e.
        ⊎_elim
        (λ r. inl (record { ds = r.ds; left = r.left; same = sym (fin z r.ds r.left.scalars r.left.bytes) ∙ r.same }))
        inr
        (g.rest cs z e);
  }
    where
      fin : (z : Text) (ds : List ℕ) → Scalars ds → drop i s ≡ encodes ds ++ z → run q i seen ds ≡ run q2 i seen ds
      fin z [] sc d = refl
      fin z (c ∷ ds) sc d =
          let d' = d ∙ append_assoc (encode c) (encodes ds) z in
          ap (λ (x : State). run x (i + width c) (see (now_at x) (i + width c) seen) ds)
          (⊎_elim (λ v. low_alias t c v.0 (ap f (sym v.1) ∙ n (some_left s i c (encodes ds ++ z) d'))) (λ v. high_alias t c v.0 sc.0.0)
          (at_first s i c (encodes ds ++ z) d'))

-- ---- A byte below 128 that passes f ..

module _ {s : Text} {q : State} {i : ℕ} {seen : Option Token} {f : ℕ → Bool} {q2 : State} (g : At s q i seen) (h : i < length s) (l : get_or s i 0 < 128) (e : f (get_or s i 0) ≡ true) where
  by_byte : {k : ℕ} → Sent q f q2 k → At s q2 (i + 1) (see (ending k) (i + 1) seen)
  by_byte t =
      rw (sent_kind t) at
      (by_code_point g q2 1 (omega arith) (omega arith)
      (λ c u sc d.
      ⊎_elim
      (λ v. (let x = v.0 in simp (lt-ltb c 0x80 x), ap (λ (b : ℕ). step b q) (sym v.1) ∙ sent_to t (get_or s i 0) l e))
      (λ v. let x = v.1 in absurd (omega arith))
      (at_first s i c u d)))

  -- .. leads to a state where no token ends
  pub pass : Sent q f q2 0 → At s q2 (i + 1) seen
  pass t = by_byte t

  -- .. leads to a state where a token of the kind k ends
  pub gain : {k : ℕ} → 0 < k → Sent q f q2 k → At s q2 (i + 1) (Some (tok k (i + 1)))
  gain {k = zero} p t = absurd (omega arith)
  gain {k = suc k} p t = by_byte t

-- .. leads nowhere: the token is the last one seen
pub fail : {s : Text} {q : State} {i : ℕ} {seen : Option Token} {f : ℕ → Bool} → At s q i seen → i < length s → get_or s i 0 < 128 → f (get_or s i 0) ≡ true
    → Sent q f dead 0 → TokenAt s seen
fail g h l e t = at_dead (pass g h l e t) refl

-- ---- Where no byte that passes f stands, and nothing else leaves the state

module _ {s : Text} {q : State} {i : ℕ} {seen : Option Token} (g : At s q i seen) where
  pub done : {f : ℕ → Bool} → Ends q f → (i < length s → f (get_or s i 0) ≡ false) → TokenAt s seen
  done {f} t n =
      by_nothing g
      (λ c u sc d.
      ⊎_elim
      (λ v. sent_to t.low c v.0 (ap not (ap f (sym v.1) ∙ n (some_left s i c u d))))
      (λ v. high_to t.high c v.0 sc.0 refl)
      (at_first s i c u d))

  pub stop : Ends q never → TokenAt s seen
  stop t = done t (λ _. refl)

-- ---- Over bytes from 128 on

module _ {s : Text} {q : State} {i : ℕ} {seen : Option Token} where
  pub at_in : At s q i seen → In s q i seen
  at_in g = record {
    within = g.within;
    last = g.last;
    rest = λ cs z e.
        ⊎_elim
        (λ r. inl (record { mid = []; high = tt; ds = r.ds; scalars = r.left.scalars; bytes = r.left.bytes; same = rw (add-zero i) r.same }))
        inr
        (g.rest cs z e);
  }

  -- A byte below 128 stands between code points.
  pub in_at : In s q i seen → i < length s → get_or s i 0 < 128 → At s q i seen
  in_at g h l = record {
    within = g.within;
    last = g.last;
    rest = λ cs z e. ⊎_elim (λ r. inl (fin cs z e r.ds r.scalars r.mid r.high r.bytes r.same)) inr (g.rest cs z e);
  }
    where
      fin : (cs : List ℕ) (z : Text) → Front s cs z → (ds : List ℕ) → Scalars ds → (m : Text) → Highs m → drop i s ≡ m ++ (encodes ds ++ z)
          → run q (i + length m) seen ds ≡ answer (token_at cs) → Rest s q i seen cs z
      fin cs z e ds sc [] v d w = record { ds = ds; left = record { scalars = sc; bytes = d; bad = e.bad }; same = rw (add-zero i) at w }
      fin cs z e ds sc (b ∷ m) v d w =
          let f : get_or s i 0 ≡ b = ap (λ (n : ℕ). get_or s n 0) (sym (add-zero i)) ∙ sym (get_or-drop i s 0 0) ∙ ap (λ (x : Text). get_or x 0 0) d in
          let x = v.0 in
          absurd (omega arith)

  pub in_end : In s q i seen → length s ≤ i → TokenAt s seen
  in_end g h =
      token g.within g.last (λ cs z e. ⊎_elim (λ r. inl (fin cs z e r.ds r.scalars r.mid r.bytes r.same)) inr (g.rest cs z e))
    where
      fin : (cs : List ℕ) (z : Text) → Front s cs z → (ds : List ℕ) → Scalars ds → (m : Text) → drop i s ≡ m ++ (encodes ds ++ z)
          → run q (i + length m) seen ds ≡ answer (token_at cs) → seen ≡ answer (token_at cs)
      fin cs z e ds sc [] d w =
          rest_end s q i seen cs z h (record { ds = ds; left = record { scalars = sc; bytes = d; bad = e.bad }; same = rw (add-zero i) at w })
      fin cs z e ds sc (b ∷ m) d w = let o = sym (length-drop i s) ∙ ap length d in absurd (omega arith)

next_mid : (s : Text) (i b : ℕ) (m u : Text) → drop i s ≡ b ∷ (m ++ u) → drop (i + 1) s ≡ m ++ u
next_mid s i b m u d = sym (drop-drop 1 i s) ∙ ap (drop 1) d

module _ (s : Text) {q q2 : State} (i : ℕ) (seen : Option Token) (t : HighMoves q q2) (h : i < length s) (l : 128 ≤ get_or s i 0) where
  -- The first byte of a code point that leads on, or the byte behind the last one.
  enter : (cs : List ℕ) (z : Text) → Front s cs z → (ds : List ℕ) → Scalars ds → drop i s ≡ encodes ds ++ z → run q i seen ds ≡ answer (token_at cs)
      → Inner s q2 (i + 1) seen cs z ⊎ Past (i + 1) seen cs
  unfolding encodes
  enter cs z e [] sc d w = let o = front_place e i (omega arith) [] d in inr (record { behind = omega arith; kept = λ _. w })
  enter cs z e (c ∷ ds) sc d w =
      let d' = d ∙ append_assoc (encode c) (encodes ds) z in
      ⊎_elim (λ v. let x = v.0 in let y = v.1 in absurd (omega arith))
      (λ v.
      inl (more (encode c) (highs_encode c v.0) (length_encode c) d' (high_to t.moves c v.0 sc.0.0 refl)))
      (at_first s i c (encodes ds ++ z) d')
    where
      more : (m : Text) → Highs m → length m ≡ width c → drop i s ≡ m ++ (encodes ds ++ z) → step c q ≡ q2 → Inner s q2 (i + 1) seen cs z
      more [] v e d n = let o = width_pos c in absurd (omega arith)
      more (b ∷ m) v e d n =
          let y : run q2 (i + width c) seen ds ≡ answer (token_at cs) = rw (n, sent_kind t.silent) at w in
          let o : i + width c ≡ i + 1 + length m = omega arith in
          record {
            mid = m;
            high = v.1;
            ds = ds;
            scalars = sc.1;
            bytes = next_mid s i b m (encodes ds ++ z) d;
            same = subst (λ (n : ℕ). run q2 n seen ds ≡ answer (token_at cs)) o y;
          }

  past_one : (cs : List ℕ) → Past i seen cs → Past (i + 1) seen cs
  past_one cs r = record { behind = let o = r.behind in omega arith; kept = r.kept }

-- A byte from 128 on, between two code points.
pub over_to : {s : Text} {q q2 : State} {i : ℕ} {seen : Option Token} → HighMoves q q2 → At s q i seen → i < length s → 128 ≤ get_or s i 0 → In s q2 (i + 1) seen
over_to {s} {q} {q2} {i} {seen} t g h l = record {
  within = omega arith;
  last = let a = g.last in omega arith;
  rest = λ cs z e.
      ⊎_elim (λ r. enter s i seen t h l cs z e r.ds r.left.scalars r.left.bytes r.same) (λ r. inr (past_one s i seen t h l cs r))
      (g.rest cs z e);
}

-- A byte from 128 on, in a state that no code point from 128 on leaves.
pub over : {s : Text} {q : State} {i : ℕ} {seen : Option Token} → HighMoves q q → In s q i seen → i < length s → 128 ≤ get_or s i 0 → In s q (i + 1) seen
over {s} {q} {i} {seen} t g h l = record {
  within = omega arith;
  last = let a = g.last in omega arith;
  rest = λ cs z e.
      ⊎_elim (λ r. fin cs z e r.mid r.high r.ds r.scalars r.bytes r.same) (λ r. inr (past_one s i seen t h l cs r)) (g.rest cs z e);
}
  where
    fin : (cs : List ℕ) (z : Text) → Front s cs z → (m : Text) → Highs m → (ds : List ℕ) → Scalars ds → drop i s ≡ m ++ (encodes ds ++ z)
        → run q (i + length m) seen ds ≡ answer (token_at cs) → Inner s q (i + 1) seen cs z ⊎ Past (i + 1) seen cs
    fin cs z e [] v ds sc d w = enter s i seen t h l cs z e ds sc d (rw (add-zero i) at w)
    fin cs z e (b ∷ m) v ds sc d w =
        let o : i + suc (length m) ≡ i + 1 + length m = omega arith in
        inl
        (record {
          mid = m;
          high = v.1;
          ds = ds;
          scalars = sc;
          bytes = next_mid s i b m (encodes ds ++ z) d;
          same = subst (λ (n : ℕ). run q n seen ds ≡ answer (token_at cs)) o w;
        })

-- ---- The beginning

begins_in : (s : Text) (q : State) → start_of s ≡ q → At s q 0 None
begins_in s q e = record { within = omega arith; last = omega arith; rest = λ cs z g. inl (rw e at (rest_start s cs z g)) }

pub begin_long : (s : Text) → tripled s ≡ true → At s long_start 0 None
unfolding long_start
begin_long s e = begins_in s long_terminals (ap (λ (b : Bool). cond b long_terminals terminals) e)

pub begin_short : (s : Text) → tripled s ≡ false → At s start 0 None
unfolding start
begin_short s e = begins_in s terminals (ap (λ (b : Bool). cond b long_terminals terminals) e)

-- No quote stands at the front.
pub begin : (s : Text) → (get_or s 0 0 ≡ 34 → ⊥) → (get_or s 0 0 ≡ 39 → ⊥) → At s start 0 None
begin s h h' = begin_short s (go s h h')
  where
    go : (s : Text) → (get_or s 0 0 ≡ 34 → ⊥) → (get_or s 0 0 ≡ 39 → ⊥) → tripled s ≡ false
    go [] h h' = refl
    go (a ∷ []) h h' = refl
    go (a ∷ b ∷ []) h h' = refl
    go (a ∷ b ∷ c ∷ t) h h' = simp (ne_eqb a 34 h, ne_eqb a 39 h')

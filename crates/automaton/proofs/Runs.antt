-- The run of the automaton from the beginning gives the token at the front; nothing comes after a dead end.
use mathlib.Core.Path.{◌≡◌, refl, subst, sym, ap, ◌∙◌}
use mathlib.Core.Logic.{◌⊎◌, inl, inr, ⊎_elim}
use mathlib.Core.Bool.{Bool, true, false}
use mathlib.Core.List.{List, [], ◌∷◌, ◌++◌, append_assoc}
use Prim.Native.Nat.{ℕ, ◌+◌, ◌≤◌, ◌<◌}
use native.Mathlib.Omega.{arith}
use native.Mathlib.Nat.{add-zero, zero-add, add_assoc}
use borrow.Author.Tests.{lt-ltb, ne_eqb}
use lib.Dec.{eqb}
use lib.ListN.{length, get_or, drop, length-append, length-drop}
use Rattle.std.specs.Prelude.{Option, Some, None}
use Rattle.text.specs.Text.{Text, cond}
use Rattle.text.proofs.Compare.{and_false}
use Rattle.utf8.specs.Utf8.{encode, encodes, width, sequence_size}
use Rattle.utf8.proofs.Tests.{by, split}
use Rattle.utf8.proofs.Encoding.{head, length_encode, width_pos, size_one}
use Rattle.token.specs.Regular.{item, Match, nothing, hit, nullable, step, least_of, now_at, later, best}
use Rattle.token.specs.Terminals.{terminals, long_terminals, tripled, token_at}
use Rattle.automaton.specs.States.{State}
use Rattle.automaton.specs.Run.{tok, answer, see, run, Front, Rest}
use Rattle.automaton.specs.declared.Token.{Token}

-- ---- The run is the longest match

-- The last token seen, where a match at the place i comes after it.
abbrev over : ℕ → Option Token → Match → Option Token
over i seen nothing = seen
over i seen (hit k n) = Some (tok k (i + n))

-- A match of the empty text has no bytes.
abbrev Flat : Match → Type 0
Flat nothing = Unit {0}
Flat (hit k n) = n ≡ 0

now_flat : (q : State) → Flat (now_at q)
now_flat [] = tt
now_flat (item k r ∷ xs) = by (nullable r) (λ e. rw e (least (now_at xs) (now_flat xs))) (λ e. rw e (now_flat xs))
  where
    least : (m : Match) → Flat m → Flat (least_of k m)
    least nothing f = refl
    least (hit j n) f = f

settle : (m : Match) (i : ℕ) (seen : Option Token) → Flat m → see m i seen ≡ over i seen m
settle nothing i seen f = refl
settle (hit k n) i seen f = ap (λ (x : ℕ). Some (tok k x)) (sym (ap (λ (x : ℕ). i + x) f ∙ add-zero i))

over_later : (n i : ℕ) (seen : Option Token) (m a : Match) → Flat m → over (i + n) (see m i seen) a ≡ over i seen (later n a m)
over_later n i seen m nothing f = settle m i seen f
over_later n i seen m (hit k x) f = ap (λ (x : ℕ). Some (tok k x)) (add_assoc i n x)

run_best : (cs : List ℕ) (q : State) (i : ℕ) (seen : Option Token)
    → run q i (see (now_at q) i seen) cs ≡ over i seen (best width q cs)
run_best [] q i seen = settle (now_at q) i seen (now_flat q)
run_best (c ∷ cs) q i seen =
    run_best cs (step c q) (i + width c) (see (now_at q) i seen)
    ∙ over_later (width c) i seen (now_at q) (best width (step c q) cs) (now_flat q)

over_answer : (m : Match) → over 0 None m ≡ answer m
over_answer nothing = refl
over_answer (hit k n) = ap (λ (x : ℕ). Some (tok k x)) (zero-add n)

-- The state in which a text begins.
abbrev pub start_of : Text → State
start_of s = cond (tripled s) long_terminals terminals

pub start_nothing : (b : Bool) → now_at (cond b long_terminals terminals) ≡ nothing
start_nothing true = refl
start_nothing false = refl

run_token : (cs : List ℕ) → run (start_of cs) 0 None cs ≡ answer (token_at cs)
unfolding token_at
run_token cs =
    ap (λ (m : Match). run (start_of cs) 0 (see m 0 None) cs) (sym (start_nothing (tripled cs)))
    ∙ run_best cs (start_of cs) 0 None ∙ over_answer (best width (start_of cs) cs)

-- ---- Nothing is left

pub dead_run : (cs : List ℕ) (i : ℕ) (seen : Option Token) → run [] i seen cs ≡ seen
dead_run [] i seen = refl
dead_run (c ∷ cs) i seen = dead_run cs (i + width c) seen

-- ---- Three equal quotes among the bytes are three among the code points

no_quote : (a k : ℕ) → 128 ≤ a → k < 128 → eqb a k ≡ false
no_quote a k h l = ne_eqb a k (omega arith)

first_no : (a : ℕ) (s : Text) → 128 ≤ a → tripled (a ∷ s) ≡ false
first_no a [] h = refl
first_no a (b ∷ []) h = refl
first_no a (b ∷ c ∷ t) h = simp (no_quote a 34 h (omega arith), no_quote a 39 h (omega arith))

second_no : (a b : ℕ) (s : Text) → 128 ≤ b → tripled (a ∷ b ∷ s) ≡ false
second_no a b [] h = refl
second_no a b (c ∷ t) h = simp (no_quote b 34 h (omega arith), no_quote b 39 h (omega arith), and_false)

third_no : (a b c : ℕ) (s : Text) → 128 ≤ c → tripled (a ∷ b ∷ c ∷ s) ≡ false
third_no a b c s h = simp (no_quote c 34 h (omega arith), no_quote c 39 h (omega arith), and_false)

record Far (c : ℕ) (s : Text) : Type 0 where
  byte : ℕ
  more : Text
  far : 128 ≤ c
  high : 128 ≤ byte
  eq : s ≡ byte ∷ more

-- An encoding is the code point itself, or begins with a byte from 128 on.
shape : (c : ℕ) (t : Text) → (encode c ++ t ≡ c ∷ t) ⊎ Far c (encode c ++ t)
shape c t = ⊎_elim (λ h. inl (simp (lt-ltb c 0x80 h))) (λ h. inr (go h (encode c ++ t) refl)) (split c 0x80)
  where
    go : 0x80 ≤ c → (s : Text) → s ≡ encode c ++ t → Far c (encode c ++ t)
    go h [] e =
        let m = ap length e ∙ length-append (encode c) t in
        let n = length_encode c in
        let o = width_pos c in
        absurd (omega arith)
    go h (b ∷ r) e =
        let m : 0x80 ≤ b =
        ⊎_elim (λ v. let x = v.0 in absurd (omega arith)) (λ v. subst (λ (x : Text). 0x80 ≤ get_or x 0 0) (sym e) v.1) (head c t) in
        record { byte = b; more = r; far = h; high = m; eq = sym e }

-- What is at the front of no sequence is empty, or begins with a byte from 128 on.
bad_high : (b : ℕ) (z : Text) → sequence_size (b ∷ z) ≡ 0 → 128 ≤ b
bad_high b z e = ⊎_elim (λ h. let o = size_one b z h in absurd (omega arith)) (λ h. h) (split b 128)

module _ (z : Text) (e : sequence_size z ≡ 0) where
  tri_third : (c d : ℕ) (es : List ℕ) → tripled (c ∷ d ∷ (encodes es ++ z)) ≡ tripled (c ∷ d ∷ es)
  unfolding encodes
  tri_third c d [] = go z e
    where
      go : (z : Text) → sequence_size z ≡ 0 → tripled (c ∷ d ∷ z) ≡ false
      go [] e = refl
      go (b ∷ z) e = third_no c d b z (bad_high b z e)
  tri_third c d (x ∷ es) =
      ap (λ (u : Text). tripled (c ∷ d ∷ u)) (append_assoc (encode x) (encodes es) z)
      ∙ ⊎_elim (λ v. ap (λ (u : Text). tripled (c ∷ d ∷ u)) v)
      (λ v. ap (λ (u : Text). tripled (c ∷ d ∷ u)) v.eq ∙ third_no c d v.byte v.more v.high ∙ sym (third_no c d x es v.far))
      (shape x (encodes es ++ z))

  tri_second : (c : ℕ) (ds : List ℕ) → tripled (c ∷ (encodes ds ++ z)) ≡ tripled (c ∷ ds)
  unfolding encodes
  tri_second c [] = go z e
    where
      go : (z : Text) → sequence_size z ≡ 0 → tripled (c ∷ z) ≡ false
      go [] e = refl
      go (b ∷ z) e = second_no c b z (bad_high b z e)
  tri_second c (d ∷ ds) =
      ap (λ (u : Text). tripled (c ∷ u)) (append_assoc (encode d) (encodes ds) z)
      ∙ ⊎_elim (λ v. ap (λ (u : Text). tripled (c ∷ u)) v ∙ tri_third c d ds)
      (λ v. ap (λ (u : Text). tripled (c ∷ u)) v.eq ∙ second_no c v.byte v.more v.high ∙ sym (second_no c d ds v.far))
      (shape d (encodes ds ++ z))

  tri_first : (cs : List ℕ) → tripled (encodes cs ++ z) ≡ tripled cs
  unfolding encodes
  tri_first [] = go z e
    where
      go : (z : Text) → sequence_size z ≡ 0 → tripled z ≡ false
      go [] e = refl
      go (b ∷ z) e = first_no b z (bad_high b z e)
  tri_first (c ∷ cs) =
      ap tripled (append_assoc (encode c) (encodes cs) z)
      ∙ ⊎_elim (λ v. ap tripled v ∙ tri_second c cs)
      (λ v. ap tripled v.eq ∙ first_no v.byte v.more v.high ∙ sym (first_no c cs v.far))
      (shape c (encodes cs ++ z))

-- ---- The beginning and the end of a run

pub rest_start : (s : Text) (cs : List ℕ) (z : Text) → Front s cs z → Rest s (start_of s) 0 None cs z
rest_start s cs z g = record {
  ds = cs;
  left = g;
  same = ap (λ (b : Bool). run (cond b long_terminals terminals) 0 None cs) (ap tripled g.bytes ∙ tri_first z g.bad cs) ∙ run_token cs;
}

pub rest_end : (s : Text) (q : State) (i : ℕ) (seen : Option Token) (cs : List ℕ) (z : Text) → length s ≤ i → Rest s q i seen cs z → seen ≡ answer (token_at cs)
unfolding encodes
rest_end s q i seen cs z h r = fin r.ds r.left.bytes r.same
  where
    fin : (ds : List ℕ) → drop i s ≡ encodes ds ++ z → run q i seen ds ≡ answer (token_at cs) → seen ≡ answer (token_at cs)
    fin [] e w = w
    fin (c ∷ ds) e w =
        let m = sym (length-drop i s) ∙ ap length (e ∙ append_assoc (encode c) (encodes ds) z) ∙ length-append (encode c) (encodes ds ++ z) in
        let n = length_encode c in
        let o = width_pos c in
        absurd (omega arith)

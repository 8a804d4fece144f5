-- A document of n bytes needs at most 2n rows, 2n + 9 terms and 1,025n + 386 bytes of the store. A token makes two rows and two terms at the most, besides the
-- nine IRIs that the language itself writes, and stores one IRI at the most; the other texts are no longer than their tokens, and no two tokens overlap.
use mathlib.Core.Path.{◌≡◌, refl, sym, ap, subst, ◌∙◌}
use mathlib.Core.List.{List, [], ◌∷◌, ◌++◌}
use mathlib.Core.Bool.{Bool, true, false, not, ◌&&◌, ◌||◌}
use mathlib.Core.Option.{Option, none, some}
use Prim.Native.Nat.{ℕ, zero, suc, pred, ◌+◌, ◌*◌, ◌-◌, ◌≤◌}
use native.Mathlib.Omega.{arith}
use borrow.Author.Tests.{ltb-false, le-ltb}
use lib.Dec.{eqb, ltb}
use lib.ListN.{length, take, drop, length-drop}
use Rattle.text.specs.Text.{Text, cond, is}
use Rattle.text.proofs.Compare.{by, contrary}
use Rattle.limits.specs.Limits.{iri_limit}
use Rattle.utf8.specs.Utf8.{decode_from, decode, sequence_size, width}
use Rattle.token.specs.Regular.{Match, nothing as no_match, hit}
use Rattle.token.specs.Terminals.{token_at}
use Rattle.token.specs.Kind.{kind_code, kind_of_code, among, names, iris, IRIREF}
use Rattle.token.specs.Tokens.{Token, has_kind, Lexeme, token, unreadable, Cutting, between, comment, inside, white_space, line_end, in_comment, passed, trig_cuts, lexemes_from, lexemes, tokens_of}
use Rattle.token.proofs.Cutting.{cut_comment}
use Rattle.iri.specs.Iri.{has_scheme}
use Rattle.iri.specs.Resolve.{resolve, resolve_with_dots, resolved}
use Rattle.iri.proofs.Lengths.{resolve_short}
use Rattle.grammar.specs.Productions.{Mode}
use Rattle.environment.specs.Environment.{Environment}
use Rattle.dataset.specs.Constructors.{nothing, awaiting, prefix, reference, resolved_reference, joined_name, iri_of}
use Rattle.table.specs.Tables.{store_size}
use Rattle.machine.specs.Memory.{Memory, Write}
use Rattle.machine.specs.Frame.{Open}
use Rattle.machine.specs.Rules.{find_rule, rules}
use Rattle.machine.specs.Refusals.{too_long, escape_tests, force_tests, room_tests}
use Rattle.machine.specs.Call.{room_up_to}
use Rattle.machine.specs.Step.{Room, State, in_force_now, Test, ◌when◌, first_refusal, answer, obeyed, tests, step, tied_to, Outcome, onward, run}
use Rattle.machine.specs.Read.{Lent, mode_of, start_state}
use Rattle.machine.specs.Construction.{tables}
use Rattle.machine.specs.Demand.{room_for, Fits, Meets}
use Rattle.machine.proofs.Firsts.{Passes, passes_each}
use Rattle.machine.proofs.Extends.{two_rows}
use Rattle.machine.proofs.Demands.{start_tracks, start_fits, accepted_fair, meets_run}
use Rattle.machine.proofs.Weights.{one, size, weight, take_short, waiting_open, light_rule, count_weight, size_weight, first_count, first_size}

-- ---- IRIs

-- An IRI that a statement names is short, where 11 does not refuse it.
by_kind : (a b s : Bool) (p : ℕ) (ref dotted res joined : Text) → length res ≤ length dotted
    → (((a || false) && (ltb iri_limit (length ref) || (not s && ltb iri_limit (length dotted)))) || (b && not false && ltb iri_limit (length joined)) || (false && ltb 64 p)) ≡ false
    → (a || b) ≡ true → length (cond (a || false) (cond s ref res) joined) ≤ iri_limit
by_kind true b true p ref dotted res joined l h k = by (ltb iri_limit (length ref)) (λ e. contrary (rw e at h)) (λ e. ltb-false iri_limit (length ref) e)
by_kind true b false p ref dotted res joined l h k =
    by (ltb iri_limit (length ref)) (λ e. contrary (rw e at h))
    (λ e. by (ltb iri_limit (length dotted)) (λ f. contrary (rw (e, f) at h)) (λ f. omega (arith, ltb-false iri_limit (length dotted) f)))
by_kind false true s p ref dotted res joined l h k = by (ltb iri_limit (length joined)) (λ e. contrary (rw e at h)) (λ e. ltb-false iri_limit (length joined) e)
by_kind false false s p ref dotted res joined l h k = contrary (sym k)

pub iri_short : (e : Environment) (t : Token) → too_long (awaiting nothing e) t ≡ false → among iris t.kind ≡ true → length (iri_of e t) ≤ iri_limit
unfolding too_long iri_of resolved_reference resolved
iri_short e t h k =
    by_kind (eqb (kind_code IRIREF) (kind_code t.kind)) (has_kind names t) (has_scheme (reference t)) (length (prefix t)) (reference t) (resolve_with_dots e.base (reference t)) (resolve e.base (reference t))
    (joined_name e t) (resolve_short e.base (reference t)) h k

-- ---- Tokens

-- How many bytes of the last token are left.
left_of : Cutting → ℕ
left_of between = 0
left_of comment = 0
left_of (inside k) = k

left_passed : (k : ℕ) → left_of (passed k) ≡ k
unfolding left_of
left_passed zero = refl
left_passed (suc k) = refl

left_cond : (b : Bool) (x y : Cutting) → left_of x ≡ 0 → left_of y ≡ 0 → left_of (cond b x y) ≡ 0
left_cond true x y p q = p
left_cond false x y p q = q

abbrev bytes_of : List Token → ℕ
bytes_of [] = 0
bytes_of (t ∷ ts) = length t.text + bytes_of ts

-- The tokens from a place on are no more than the code points from there on, and together no longer than the document from there on.
record Cut (doc : Text) (from points : ℕ) (ts : List Token) : Type 0 where
  count : length ts ≤ points
  bytes : bytes_of ts ≤ length doc - from

cut_from : (doc : Text) (state : Cutting) (at : ℕ) (cs : List ℕ) → Cut doc (at + left_of state) (length cs) (tokens_of (lexemes_from trig_cuts doc state at cs))
unfolding lexemes_from tokens_of left_of
cut_from doc state at [] = record { count = omega arith; bytes = omega arith }
cut_from doc (inside k) at (c ∷ cs) =
    let h = cut_from doc (passed (k - width c)) (at + width c) cs in
    record { count = omega (arith, h.count); bytes = omega (arith, h.bytes, left_passed (k - width c)) }
cut_from doc comment at (c ∷ cs) =
    let h = cut_from doc (in_comment c) (at + width c) cs in
    subst (λ (ls : List Lexeme). Cut doc (at + 0) (length (c ∷ cs)) (tokens_of ls)) (sym (cut_comment doc at c cs))
    (record { count = omega (arith, h.count); bytes = omega (arith, h.bytes, left_cond (line_end c) between comment refl refl) })
cut_from doc between at (c ∷ cs) =
    here (white_space c || is "#" c) (token_at (c ∷ cs)) (cut_from doc (cond (is "#" c) comment between) (at + width c) cs) (λ n. cut_from doc (passed (n - width c)) (at + width c) cs)
  where
    here : (b : Bool) (o : Match) → Cut doc (at + width c + left_of (cond (is "#" c) comment between)) (length cs) (tokens_of (lexemes_from trig_cuts doc (cond (is "#" c) comment between) (at + width c) cs))
        → ((n : ℕ) → Cut doc (at + width c + left_of (passed (n - width c))) (length cs) (tokens_of (lexemes_from trig_cuts doc (passed (n - width c)) (at + width c) cs)))
        → Cut doc (at + 0) (length (c ∷ cs))
        (tokens_of
        (elim b [
          | true ↦ lexemes_from trig_cuts doc (cond (is "#" c) comment between) (at + width c) cs
          | false ↦
              elim o [
                | no_match ↦ unreadable at ∷ []
                | hit k n ↦
                    token (record { kind = kind_of_code k; start = at; text = take n (drop at doc) })
                    ∷ lexemes_from trig_cuts doc (passed (n - width c)) (at + width c) cs
              ]
        ]))
    here true o h f = record { count = omega (arith, h.count); bytes = omega (arith, h.bytes, left_cond (is "#" c) comment between refl refl) }
    here false no_match h f = record { count = omega arith; bytes = omega arith }
    here false (hit k n) h f =
        let g = f n in
        let (p, q) = take_short n (drop at doc) in
        record { count = omega (arith, g.count); bytes = omega (arith, g.bytes, left_passed (n - width c), p, q, length-drop at doc) }

decode_count : (k : ℕ) (s : Text) → length (decode_from k s) ≤ length s
unfolding decode_from
decode_count zero [] = omega arith
decode_count (suc k) [] = omega arith
decode_count zero (b ∷ s) = let h = decode_count (pred (sequence_size (b ∷ s))) s in omega arith
decode_count (suc k) (b ∷ s) = let h = decode_count k s in omega arith

-- A document has no more tokens than bytes, and they are together no longer than it.
pub token_count : (doc : Text) → length (tokens_of (lexemes doc)) ≤ length doc
unfolding lexemes decode left_of
token_count doc = let h = (cut_from doc between 0 (decode_from 0 doc)).count in let g = decode_count 0 doc in omega arith

pub token_bytes : (doc : Text) → bytes_of (tokens_of (lexemes doc)) ≤ length doc
unfolding lexemes decode left_of
token_bytes doc = let h = (cut_from doc between 0 (decode_from 0 doc)).bytes in omega arith

-- ---- Room

-- The room holds what is written and all that the tokens ts can add to it. A text that waits for its tag or datatype is counted at its own token.
record Within (room : Room) (s : State) (ts : List Token) : Type 0 where
  rows : length s.memory.rows + 2 * length ts ≤ room.rows
  terms : weight one s.memory.terms + 2 * length ts ≤ room.terms
  store : weight size s.memory.terms + waiting_open s.open_now + (iri_limit * length ts + bytes_of ts) ≤ room.store

within_start : (doc base : Text) → Within (room_for (length doc)) (start_state base) (tokens_of (lexemes doc))
within_start doc base =
    record {
      rows = omega (arith, token_count doc);
      terms = omega (arith, token_count doc, first_count);
      store = omega (arith, token_count doc, token_bytes doc, first_size);
    }

within_fits : {room : Room} {s : State} {ts : List Token} → Within room s ts → Fits room s.memory
within_fits {s = s} x =
    record {
      rows = omega (arith, x.rows);
      terms = omega (arith, x.terms, count_weight s.memory.terms);
      store = omega (arith, x.store, size_weight s.memory.terms);
    }

-- A token that 11 does not refuse keeps within it.
within_step : {room : Room} (mode : Mode) (s : State) (t : Token) (ts : List Token) (tied : Bool) (w : Write Open) → find_rule t.kind (rules t tied mode s.open_now) ≡ some w
    → too_long (in_force_now s) t ≡ false → Within room s (t ∷ ts) → Within room (obeyed (some w) t s) ts
within_step mode s t ts tied w e h x =
    let m = s.memory in
    let l = light_rule t tied m mode s.open_now w e (λ p. iri_short m.environment t (ap (λ a. too_long (awaiting a m.environment) t) (sym p) ∙ h)) in
    record {
      rows = omega (arith, x.rows, two_rows t tied mode m s.open_now w e);
      terms = omega (arith, x.terms, l.terms);
      store = omega (arith, x.store, l.bytes);
    }

-- Whatever fits within the first room fits both others, or neither.
pub record Alike (most a b : Room) : Type 0 where
  pub rows : (k : ℕ) → k ≤ most.rows → ltb a.rows k ≡ ltb b.rows k
  pub terms : (k : ℕ) → k ≤ most.terms → ltb a.terms k ≡ ltb b.terms k
  pub store : (k : ℕ) → k ≤ most.store → ltb a.store k ≡ ltb b.store k

same_room : {most a b : Room} → Alike most a b → (m : Memory) → Fits most m → first_refusal (room_tests a m) ≡ first_refusal (room_tests b m)
same_room x m f = rw (x.rows (length m.rows) f.rows, x.terms (length m.terms) f.terms, x.store (store_size m.terms) f.store)

module _ (mode : Mode) (n : ℕ) {most a b : Room} (alike : Alike most a b) where
  same_run : (ls : List Lexeme) (s : State) → Within most s (tokens_of ls) → run mode a n ls s ≡ run mode b n ls s
  unfolding run step tokens_of
  same_run [] s x = refl
  same_run (unreadable p ∷ ls) s x = refl
  same_run (token t ∷ ls) s x = go (find_rule t.kind (rules t (tied_to ls) mode s.open_now)) refl (λ s' y. same_run ls s' y)
    where
      after : Room → State → Option ℕ → Outcome
      after room s' o = onward (λ s''. run mode room n ls s'') (answer o t.start s')

      -- A test that holds refuses in both rooms.
      past : (s' : State) (xs ys zs : List Test) → (Passes xs → after a s' (first_refusal ys) ≡ after b s' (first_refusal zs))
          → after a s' (first_refusal (xs ++ ys)) ≡ after b s' (first_refusal (xs ++ zs))
      past s' [] ys zs f = f tt
      past s' (c when true ∷ xs) ys zs f = refl
      past s' (c when false ∷ xs) ys zs f = past s' xs ys zs (λ p. f (refl, p))

      same_after : (s' : State) → run mode a n ls s' ≡ run mode b n ls s' → (o : Option ℕ) → after a s' o ≡ after b s' o
      same_after s' e none = e
      same_after s' e (some c) = refl

      go : (r : Option (Write Open)) → find_rule t.kind (rules t (tied_to ls) mode s.open_now) ≡ r → ((s' : State) → Within most s' (tokens_of ls) → run mode a n ls s' ≡ run mode b n ls s')
          → after a (obeyed r t s) (first_refusal (tests a s t r (obeyed r t s))) ≡ after b (obeyed r t s) (first_refusal (tests b s t r (obeyed r t s)))
      go none e f = past s (escape_tests t) (8 when true ∷ []) (8 when true ∷ []) (λ _. refl)
      go (some w) e f =
          let s' = obeyed (some w) t s in
          past s' (escape_tests t ++ force_tests (in_force_now s) s.depth t) (room_tests a s'.memory) (room_tests b s'.memory)
          (λ p.
          let (u, (v, (h, rest))) = (passes_each (escape_tests t) (force_tests (in_force_now s) s.depth t) p).1 in
          let y = within_step mode s t (tokens_of ls) (tied_to ls) w e h x in
          ap (after a s') (same_room alike s'.memory (within_fits y)) ∙ same_after s' (f s' y) (first_refusal (room_tests b s'.memory)))

-- Room past what the document needs at most changes no outcome.
pub room_past : (mode : Mode) (doc base : Text) {a b : Room} → Alike (room_for (length doc)) a b
    → run mode a (length doc) (lexemes doc) (start_state base) ≡ run mode b (length doc) (lexemes doc) (start_state base)
room_past mode doc base x = same_run mode (length doc) x (lexemes doc) (start_state base) (within_start doc base)

-- ---- What is accepted

module _ (doc : Text) (mode : ℕ) (base : Text) (lent : Lent) (x : Meets doc mode base lent) where
  abbrev made : Memory
  made = tables (mode_of mode) x.derivation.0 base

  -- It needs no more than that: it is accepted in a room that is larger, so in this one too.
  pub sizes : Fits (room_for (length doc)) made
  sizes =
      let n = length doc in
      let large : Room = room_up_to (2 * n + length made.rows) (2 * n + 9 + length made.terms) (1025 * n + 386 + store_size made.terms) in
      let fits : Fits large made = record { rows = omega arith; terms = omega arith; store = omega arith } in
      let within : (k i j : ℕ) → k ≤ i → ltb i k ≡ ltb (i + j) k = λ k i j h. le-ltb i k h ∙ sym (le-ltb (i + j) k (omega arith)) in
      let alike : Alike (room_for n) (room_for n) large =
      record {
        rows = λ k h. within k (2 * n) (length made.rows) h;
        terms = λ k h. within k (2 * n + 9) (length made.terms) h;
        store = λ k h. within k (1025 * n + 386) (store_size made.terms) h;
      } in
      (accepted_fair (mode_of mode) (room_for n) base n (lexemes doc) [] (start_state base) made (start_tracks base) (start_fits (room_for n) base)
      (room_past (mode_of mode) doc base alike ∙ meets_run doc mode base lent large x fits)).1

  -- "A document of n bytes makes at most 2n rows."
  pub rows_at_most : length made.rows ≤ 2 * length doc
  rows_at_most = sizes.rows

  pub terms_at_most : length made.terms ≤ 2 * length doc + 9
  terms_at_most = sizes.terms

  pub store_at_most : store_size made.terms ≤ 1025 * length doc + 386
  store_at_most = sizes.store

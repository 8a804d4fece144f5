-- The answers: what is counted tells whether there is room.
use mathlib.Core.Path.{◌≡◌, refl, sym, ap, ◌∙◌}
use mathlib.Core.List.{List}
use Prim.Native.Nat.{ℕ, ◌+◌, ◌/◌, ◌≤◌}
use native.Mathlib.Omega.{arith}
use lib.ListN.{length}
use borrow.Author.Tests.{ltb-false, le-ltb}
use Rattle.text.specs.Text.{Text}
use Rattle.dataset.specs.Terms.{Term}
use Rattle.table.specs.Tables.{store_size}
use Rattle.table.specs.Layout.{row_size, term_size}
use Rattle.terms.specs.declared.Counts.{Counts}
use Rattle.machine.specs.Memory.{Memory, Write}
use Rattle.machine.specs.Call.{Room}
use Rattle.machine.specs.Refusals.{size_tests}
use Rattle.machine.proofs.Firsts.{zero_passes, passes_zero}
use Rattle.state.specs.declared.Spot.{Spot}
use Rattle.state.specs.declared.Node.{Node}
use Rattle.state.specs.Words.{counts_of}
use Rattle.state.specs.Represents.{Tables, room_in, Represents, Represented, room_refusal}
use Rattle.state.proofs.Counted.{counted_room}
use Rattle.state.specs.Writes.{node_iri, node_write, placed, opened_at, closed}
use Rattle.room.specs.declared.Tally.{Tally}
use Rattle.room.specs.Asks.{Ask, asked, before_node, before_rows, behind_rows, to_place, to_close, close_rows}
use Rattle.room.specs.Counting.{tally, count_before, count_place, count_close, Held, Tallies, Answers, Small, rows_in, tally_in, refusal_of}
use Rattle.room.proofs.Asks.{Asks, opened_asks, closed_asks, placed_asks}
use Rattle.room.proofs.Counting.{Counted, opening_counted, place_counted, close_counted}
use Rattle.room.proofs.Bounds.{Within, before_within, place_within, close_within}
use Rattle.std.specs.Prelude.{Result, Ok, Err, true}
use Rattle.std.specs.Result.{is_ok}
use Rattle.limits.specs.declared.Refusal.{Refusal}
use Rattle.limits.specs.Refusal.{code}
use Rattle.limits.specs.Limits.{iri_limit}

-- An answer that refuses nothing.
pub ok_code : {T : Type 0} → (r : Result T Refusal) → is_ok r ≡ true → code r ≡ 0
ok_code (Ok x) e = refl
ok_code (Err x) e = cc

-- Where there is room for more, there is room.
pub enough_more : (room : Room) (n : ℕ) (c d : Tally) → refusal_of room n c ≡ 0 → d.terms ≤ c.terms → d.bytes ≤ c.bytes → refusal_of room n d ≡ 0
unfolding refusal_of
enough_more room n c d e h k =
    let (a, (b, (f, u))) = zero_passes (size_tests room n c.terms c.bytes) refl e in
    passes_zero (size_tests room n d.terms d.bytes)
    (a, (le-ltb room.terms d.terms (omega (arith, ltb-false room.terms c.terms b)), (le-ltb room.store d.bytes (omega (arith, ltb-false room.store c.bytes f)), tt)))

counted_refusal : (room : Room) (n : ℕ) (c : Tally) (m : Memory) → n ≡ length m.rows → Counted c m.terms → refusal_of room n c ≡ room_refusal room m
unfolding refusal_of room_refusal
counted_refusal room n c m e C = rw (e, C.terms, C.bytes)

module _ (work : Text) (t : Tables) (st : List ℕ) where
  module _ (old : Tables) (m : Memory) (R : Represents old m work t st) where
    start : Counted (tally_in st) m.terms
    start = record { terms = R.terms_held.keeps.count; bytes = R.terms_held.keeps.used }

    -- A write that asks for what was counted.
    answered : (w : Write ℕ) (asks : List Ask) (n k : ℕ) (c : Tally) → Asks w asks n → k ≡ rows_in st + n → Counted c (asked m.terms asks) → refusal_of (room_in t) k c ≡ room_refusal (room_in t) (w m).1
    answered w asks n k c A e C =
        counted_refusal (room_in t) k c (w m).1 (omega (arith, A.rows m, R.rows_held.size))
        (record { terms = C.terms ∙ sym (ap length (A.terms m)); bytes = C.bytes ∙ sym (ap store_size (A.terms m)) })

  pub held : (q : Counts) → q ≡ counts_of st → Represented work t st → Held work t.terms t.store q
  held q e (old, (m, R)) = rw e (R.usable.room, (m.terms, R.terms_held))

  pub rows_small : Represented work t st → rows_in st ≤ 4294967294
  rows_small (old, (m, R)) = omega (arith, R.rows_held.size, R.fits.rows, (counted_room (length t.rows / row_size)).1)

  pub tally_small : (u : Tally) → u ≡ tally_in st → Represented work t st → Small u 4294967294
  tally_small u e (old, (m, R)) =
      rw e
      (record {
        terms = omega (arith, R.terms_held.keeps.count, R.fits.terms, (counted_room (length t.terms / term_size)).1);
        bytes = omega (arith, R.terms_held.keeps.used, R.fits.store, (counted_room (length t.store)).1);
      })

  -- A write whose terms are counted, from the tally u on: a bound fits, or what is new was counted.
  module _ (w : Write ℕ) (asks : List Ask) (n : ℕ) (A : Asks w asks n) (count : List Term → Tally → Tally) (C : (ts : List Term) (c : Tally) → Counted c ts → Counted (count ts c) (asked ts asks)) where
    surely : (k b : ℕ) → ((ts : List Term) (c : Tally) → Within c (count ts c) k b) → (i : ℕ) (u c : Tally) → i ≡ rows_in st + n → u ≡ tally_in st → c ≡ tally (u.terms + k) (u.bytes + b)
        → refusal_of (room_in t) i c ≡ 0 → Answers work t st w 0
    surely k b W i u c e f h z = λ old m R.
        let B : Within u (count m.terms u) k b = W m.terms u in
        sym (enough_more (room_in t) i c (count m.terms u) z (omega (arith, B.terms, ap (λ (x : Tally). x.terms) h)) (omega (arith, B.bytes, ap (λ (x : Tally). x.bytes) h)))
        ∙ answered old m R w asks n i (count m.terms u) A e (C m.terms u (rw f (start old m R)))

    exactly : (i : ℕ) (u c : Tally) (q : Counts) (r : ℕ) → i ≡ rows_in st + n → u ≡ tally_in st → q ≡ counts_of st → Tallies work t.terms t.store q (λ ts. count ts u) c
        → r ≡ refusal_of (room_in t) i c → Answers work t st w r
    exactly i u c q r e f g T h = λ old m R.
        h ∙ (ap (refusal_of (room_in t) i) (T m.terms (rw g R.terms_held)) ∙ answered old m R w asks n i (count m.terms u) A e (C m.terms u (rw f (start old m R))))

  module _ (s : Spot) where
    pub open_surely : (i : ℕ) (u c : Tally) → i ≡ rows_in st + before_rows s → u ≡ tally_in st → c ≡ tally (u.terms + 2) (u.bytes + 48) → refusal_of (room_in t) i c ≡ 0
        → Answers work t st (opened_at s) 0
    open_surely =
        surely (opened_at s) (before_node s) (before_rows s) (opened_asks s) (λ ts c. count_before ts s c) (λ ts c C. opening_counted ts s c C) 2 48 (λ ts c. before_within ts s c)

    pub open_exactly : (i : ℕ) (u c : Tally) (q : Counts) (r : ℕ) → i ≡ rows_in st + before_rows s → u ≡ tally_in st → q ≡ counts_of st
        → Tallies work t.terms t.store q (λ ts. count_before ts s u) c → r ≡ refusal_of (room_in t) i c → Answers work t st (opened_at s) r
    open_exactly = exactly (opened_at s) (before_node s) (before_rows s) (opened_asks s) (λ ts c. count_before ts s c) (λ ts c C. opening_counted ts s c C)

    pub close_surely : (i : ℕ) (u c : Tally) → i ≡ rows_in st + close_rows s → u ≡ tally_in st → c ≡ tally (u.terms + 2) (u.bytes + 96) → refusal_of (room_in t) i c ≡ 0
        → Answers work t st (closed s) 0
    close_surely = surely (closed s) (to_close s) (close_rows s) (closed_asks s) (λ ts c. count_close ts s c) (λ ts c C. close_counted ts s c C) 2 96 (λ ts c. close_within ts s c)

    pub close_exactly : (i : ℕ) (u c : Tally) (q : Counts) (r : ℕ) → i ≡ rows_in st + close_rows s → u ≡ tally_in st → q ≡ counts_of st
        → Tallies work t.terms t.store q (λ ts. count_close ts s u) c → r ≡ refusal_of (room_in t) i c → Answers work t st (closed s) r
    close_exactly = exactly (closed s) (to_close s) (close_rows s) (closed_asks s) (λ ts c. count_close ts s c) (λ ts c C. close_counted ts s c C)

    module _ (n : Node) (back text tag : Text) where
      abbrev write : Write ℕ
      write = placed s (node_write n work back text tag s.at)

      pub place_surely : length (node_iri n work back) ≤ iri_limit → (i : ℕ) (u c : Tally) → i ≡ rows_in st + (before_rows s + behind_rows s) → u ≡ tally_in st
          → c ≡ tally (u.terms + 5) (u.bytes + (1120 + (length text + length tag))) → refusal_of (room_in t) i c ≡ 0
          → Answers work t st (placed s (node_write n work back text tag s.at)) 0
      place_surely short =
          surely write (to_place s n work back text tag) (before_rows s + behind_rows s) (placed_asks s n work back text tag) (λ ts c. count_place ts s n work back text tag c)
          (λ ts c C. place_counted ts s c C n work back text tag) 5 (1120 + (length text + length tag)) (λ ts c. place_within ts s n work back text tag c short)

      pub place_exactly : (i : ℕ) (u c : Tally) (q : Counts) (r : ℕ) → i ≡ rows_in st + (before_rows s + behind_rows s) → u ≡ tally_in st → q ≡ counts_of st
          → Tallies work t.terms t.store q (λ ts. count_place ts s n work back text tag u) c → r ≡ refusal_of (room_in t) i c
          → Answers work t st (placed s (node_write n work back text tag s.at)) r
      place_exactly =
          exactly write (to_place s n work back text tag) (before_rows s + behind_rows s) (placed_asks s n work back text tag) (λ ts c. count_place ts s n work back text tag c)
          (λ ts c C. place_counted ts s c C n work back text tag)

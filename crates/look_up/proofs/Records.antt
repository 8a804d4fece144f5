-- Laws of records: what stands at the front of some bytes; a record that was written is read again.
use mathlib.Core.Path.{◌≡◌, refl, sym, ap, ◌∙◌}
use mathlib.Core.List.{[], ◌∷◌, ◌++◌}
use mathlib.Core.Bool.{true, false, ◌&&◌}
use mathlib.Core.Option.{none, some}
use Prim.Native.Nat.{ℕ, zero, suc, ◌+◌, ◌*◌, ◌-◌, ◌/◌, ◌%◌, ◌≤◌, ◌<◌}
use native.Mathlib.Omega.{arith}
use lib.Dec.{eqb, leb}
use lib.ListN.{length, get_or, drop, length-append}
use lib.Seq.{drop-drop, take-append_seam, drop-append_seam}
use borrow.Author.Tests.{leb-true, le-leb, lt-leb, ne_eqb}
use Rattle.text.specs.Text.{Text, cond, begins}
use Rattle.text.specs.Words.{four_at}
use Rattle.text.proofs.Compare.{and_right, and_false}
use Rattle.look_up.specs.Record.{Rows, mark, head_of, record_of, head_size, size_of, text_of, is_record, entry_of, entries_from, entries}

-- ---- Whether a record stands at the front

no_first : (r : Text) → (get_or r 0 0 ≡ 0x47 → ⊥) → begins mark r ≡ false
unfolding begins
no_first [] n = refl
no_first (a ∷ r) n = rw (ne_eqb 0x47 a (λ e. n (sym e)))

no_second : (r : Text) → (get_or r 1 0 ≡ 0x58 → ⊥) → begins mark r ≡ false
unfolding begins
no_second [] n = refl
no_second (a ∷ []) n = and_false (eqb 0x47 a)
no_second (a ∷ b ∷ r) n = rw (ne_eqb 0x58 b (λ e. n (sym e))) (and_false (eqb 0x47 a))

both : (r : Text) → 2 ≤ length r → get_or r 0 0 ≡ 0x47 → get_or r 1 0 ≡ 0x58 → begins mark r ≡ true
unfolding begins
both [] h a b = absurd (omega arith)
both (x ∷ []) h a b = absurd (omega arith)
both (x ∷ y ∷ r) h a b = rw (a, b)

module _ (limit : ℕ) (r : Text) where
  third : leb (head_size + size_of r) (length r) ≡ false → is_record limit r ≡ false
  unfolding is_record
  third e = rw e (and_false (begins mark r && leb (size_of r) limit))

  pub too_short : length r < head_size → false ≡ is_record limit r
  too_short h = sym (third (lt-leb (head_size + size_of r) (length r) (omega arith)))

  pub other_first : (get_or r 0 0 ≡ 0x47 → ⊥) → false ≡ is_record limit r
  unfolding is_record
  other_first n = rw (no_first r n)

  pub other_second : (get_or r 1 0 ≡ 0x58 → ⊥) → false ≡ is_record limit r
  unfolding is_record
  other_second n = rw (no_second r n)

  module _ (h : head_size ≤ length r) (a : get_or r 0 0 ≡ 0x47) (b : get_or r 1 0 ≡ 0x58) (size : ℕ) (e : size ≡ size_of r) where
    pub too_long : limit < size → false ≡ is_record limit r
    unfolding is_record
    too_long l = rw (both r (omega arith) a b, lt-leb (size_of r) limit (omega (arith, e)))

    pub is_whole : size ≤ limit → leb (head_size + size) (length r) ≡ is_record limit r
    unfolding is_record
    is_whole l = rw (both r (omega arith) a b, ← e, le-leb size limit l)

  pub record_in : is_record limit r ≡ true → head_size + size_of r ≤ length r
  unfolding is_record
  record_in e = leb-true (head_size + size_of r) (length r) (and_right (begins mark r && leb (size_of r) limit) (leb (head_size + size_of r) (length r)) e)

-- ---- One record, and those behind it

module _ (limit : ℕ) where
  passed : (k : ℕ) (s : Text) → entries_from limit k s ≡ entries limit (drop k s)
  unfolding entries_from
  passed zero s = refl
  passed (suc k) [] = refl
  passed (suc k) (b ∷ s) = passed k s

  -- What stands at the front of bytes that are not empty.
  pub at_front : (r : Text) → 0 < length r → entries limit r ≡ cond (is_record limit r) (some (entry_of r) ∷ entries limit (drop (head_size + size_of r) r)) (none ∷ [])
  unfolding entries_from
  at_front [] h = absurd (omega arith)
  at_front (b ∷ s) h =
      let n : head_size + size_of (b ∷ s) ≡ suc (head_size + size_of (b ∷ s) - 1) = omega arith in
      let e : drop (head_size + size_of (b ∷ s)) (b ∷ s) ≡ drop (head_size + size_of (b ∷ s) - 1) s = ap (λ (k : ℕ). drop k (b ∷ s)) n in
      rw (e, ← passed (head_size + size_of (b ∷ s) - 1) s)

-- ---- Written, and read again

four_told : (n : ℕ) → n < 4294967296 → n % 256 + 256 * (n / 256 % 256) + 65536 * (n / 65536 % 256) + 16777216 * (n / 16777216 % 256) ≡ n
four_told n h =
    let p : n / 65536 ≡ n / 256 / 256 = omega arith in
    let q : n / 16777216 ≡ n / 256 / 256 / 256 = omega arith in
    rw (p, q) (low n h)
  where
    low : (n : ℕ) → n < 4294967296 → n % 256 + 256 * (n / 256 % 256) + 65536 * (n / 256 / 256 % 256) + 16777216 * (n / 256 / 256 / 256 % 256) ≡ n
    low n h = omega arith

-- The numbers of a record are not cut where its length takes two bytes and its rows' numbers four.
pub record Holds (limit : ℕ) (t : Text) (r : Rows) : Type 0 where
  pub size : length t ≤ limit
  pub two : length t < 65536
  pub count : r.count < 4294967296
  pub first : r.first < 4294967296

module _ (limit : ℕ) (t : Text) (r : Rows) (H : Holds limit t r) (rest : Text) where
  abbrev bytes : Text
  bytes = record_of t r ++ rest

  size_told : size_of bytes ≡ length t
  unfolding head_of size_of
  size_told = let h = H.two in omega arith

  behind_head : drop head_size bytes ≡ t ++ rest
  unfolding head_of
  behind_head = refl

  text_told : text_of bytes ≡ t
  unfolding text_of
  text_told = rw (size_told, behind_head, take-append_seam t rest)

  count_told : four_at bytes 4 ≡ r.count
  unfolding head_of four_at
  count_told = four_told r.count H.count

  first_told : four_at bytes 8 ≡ r.first
  unfolding head_of four_at
  first_told = four_told r.first H.first

  marked : begins mark bytes ≡ true
  unfolding head_of begins
  marked = refl

  whole : head_size + length t ≤ length bytes
  unfolding head_of
  whole = let e = length-append t rest in omega arith

  is_told : is_record limit bytes ≡ true
  unfolding is_record
  is_told = rw (marked, size_told, le-leb (length t) limit H.size, le-leb (head_size + length t) (length bytes) whole)

  behind : drop (head_size + length t) bytes ≡ rest
  behind = sym (drop-drop (length t) head_size bytes) ∙ (ap (drop (length t)) behind_head ∙ drop-append_seam t rest)

  told : entry_of bytes ≡ record { text = t; rows = r }
  told = rw (text_told, count_told, first_told)

  -- A record that was written is read again, and what stands behind it is read as before.
  pub read_again : entries limit bytes ≡ some (record { text = t; rows = r }) ∷ entries limit rest
  read_again =
      at_front limit bytes (let w = whole in omega arith)
      ∙ rw (is_told, told, size_told, behind)

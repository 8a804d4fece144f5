-- Laws of the cells of the work slice: what is written into one is read from it, and the others keep theirs.
use Prim.Native.Nat.{ℕ, zero, suc, ◌+◌, ◌*◌, ◌-◌, ◌≤◌, ◌<◌, min}
use mathlib.Core.Path.{◌≡◌, refl, ap, sym, ◌∙◌}
use mathlib.Core.List.{List, [], ◌∷◌}
use mathlib.Core.Bool.{Bool}
use mathlib.Core.Option.{some}
use mathlib.Core.Logic.{⊎_elim, ◌⊎◌, inl, inr}
use native.Mathlib.Nat.{zero-add, suc-add}
use native.Mathlib.Omega.{arith}
use lib.ListN.{length, get_or, take, drop, set, length-drop, length-set}
use lib.Seq.{take-nil, take-take, get_or-set_same, get_or-set_other}
use lib.Dec.{ltb}
use borrow.Author.Tests.{ltb-true, ltb-false}
use Rattle.text.specs.Text.{Text, same_text}
use Rattle.text.specs.Slice.{over_at}
use Rattle.text.proofs.Compare.{by}
use Rattle.text.proofs.Over.{over_front, over_at_length, over_at_before, over_at_back, over_at_from}
use Rattle.environment.specs.Environment.{bind}
use Rattle.environment.specs.Code.{cell, binding, count, listed, place, base_cell, environment_in, FoundIn, Usable, WroteBinding, Beside, cell_size, base_place, count_word, base_word}
use Rattle.std.specs.Prelude.{Some, None}
use Rattle.environment.proofs.Bindings.{lookup_at, lookup_none}
use Rattle.limits.specs.Limits.{iri_limit, prefix_limit, prefixes_limit, work_size}

-- The code reads a cell from its start to its end.
pub cell_read : (work : Text) (start size n r : ℕ) → r ≡ min n size → take (start + r - start) (drop start work) ≡ cell work start size n
unfolding cell
cell_read work start size n r e = let z : start + r - start ≡ r = omega arith in rw (z, e)

pub prefix_read : (work : Text) (lens : List ℕ) (i : ℕ) (p : Text) (m : ℕ) (r : Bool) → m ≡ min (get_or lens i 0) prefix_limit → r ≡ same_text p (take (i * cell_size + m - i * cell_size) (drop (i * cell_size) work))
    → r ≡ same_text p (binding work lens i).prefix
unfolding binding
prefix_read work lens i p m r e f = f ∙ rw (cell_read work (i * cell_size) prefix_limit (get_or lens i 0) m e)

names : (work : Text) (lens : List ℕ) (i : ℕ) → (binding work lens i).namespace ≡ take (min (get_or lens (prefixes_limit + i) 0) iri_limit) (drop (i * cell_size + prefix_limit) work)
unfolding binding cell
names work lens i = refl

-- The namespace of the binding that was found.
pub found_at : (p work : Text) (lens : List ℕ) (n i m : ℕ) → n ≡ count lens → i ≡ place p (listed (binding work lens) 0 n) → i < n → n ≤ prefixes_limit → m ≡ min (get_or lens (prefixes_limit + i) 0) iri_limit → m ≤ iri_limit → work_size ≤ length work
    → FoundIn p (environment_in work lens) work (Some (i * cell_size + prefix_limit, m))
unfolding FoundIn environment_in
found_at p work lens n i m en ei h h32 em hm room =
    let z : 0 + i ≡ i = omega arith in (
      rw (← en) (lookup_at p (binding work lens) 0 n i ei h ∙ ap some (rw z (read work lens i m em))),
      (omega arith, hm),
    )
  where
    read : (work : Text) (lens : List ℕ) (i m : ℕ) → m ≡ min (get_or lens (prefixes_limit + i) 0) iri_limit → (binding work lens i).namespace ≡ take m (drop (i * cell_size + prefix_limit) work)
    read work lens i m e = names work lens i ∙ rw e

pub missing : (p work : Text) (lens : List ℕ) (n i : ℕ) → n ≡ count lens → i ≡ place p (listed (binding work lens) 0 n) → n ≤ i → FoundIn p (environment_in work lens) work None
unfolding FoundIn environment_in
missing p work lens n i en ei h = rw (← en) (lookup_none p (binding work lens) 0 n (omega arith))

take_drop : (m s : ℕ) (l : Text) → take m (drop s l) ≡ drop s (take (s + m) l)
take_drop m zero l = rw (zero-add m)
take_drop m (suc s) [] = rw (suc-add s m) (take-nil m)
take_drop m (suc s) (b ∷ l) = rw (suc-add s m) (take_drop m s l)

pub most_small : (n most : ℕ) → n ≤ most → min n most ≡ n
most_small n most h = omega arith

-- A text that is written elsewhere leaves a cell as it was.
module _ (x s : Text) (at start size n : ℕ) where
  pub kept_before : start + size ≤ at → cell (over_at at s x) start size n ≡ cell x start size n
  unfolding cell
  kept_before h =
      let m : ℕ = min n size in
      take_drop m start (over_at at s x) ∙ (rw (over_at_before at s x (start + m) (omega arith)) (sym (take_drop m start x)))

  kept_behind : at + length s ≤ start → cell (over_at at s x) start size n ≡ cell x start size n
  unfolding cell
  kept_behind h = rw (over_at_back at s x start h)

-- A cell in the front part of two texts that agree there.
pub front_cell : (x y : Text) (start size n : ℕ) → take work_size y ≡ take work_size x → start + size ≤ work_size → cell y start size n ≡ cell x start size n
unfolding cell
front_cell x y start size n e h =
    let m : ℕ = min n size in
    let l : start + m ≤ work_size = omega arith in
    take_drop m start y ∙ ap (drop start) (sym (take-take (start + m) work_size y l) ∙ ap (take (start + m)) e ∙ take-take (start + m) work_size x l) ∙ sym (take_drop m start x)

-- A text that is written into a cell is read from it.
pub cell_new : (x s : Text) (at size n : ℕ) → n ≡ length s → length s ≤ size → at + length s ≤ length x → cell (over_at at s x) at size n ≡ s
unfolding cell
cell_new x s at size n e h g = rw (e, most_small (length s) size h, over_at_from at s x) (over_front s (drop at x) (omega (arith, length-drop at x)))

apart : (i j : ℕ) → (j ≡ i → ⊥) → (suc j ≤ i) ⊎ (suc i ≤ j)
apart i j h = by (ltb j i) (λ e. inl (ltb-true j i e)) (λ e. inr (by (ltb i j) (λ f. ltb-true i j f) (λ f. absurd (h (omega (arith, ltb-false j i e, ltb-false i j f))))))

-- The i-th binding is written.
module _ (work work' : Text) (lens lens' : List ℕ) (i : ℕ) (p ns : Text) (w : WroteBinding work work' lens lens' i p ns) (u : Usable work lens) (hi : i < prefixes_limit) (hp : length p ≤ prefix_limit) (hn : length ns ≤ iri_limit) where
  abbrev middle : Text
  middle = over_at (i * cell_size) p work

  written_length : length work' ≡ length work
  written_length = ap length w.texts ∙ (over_at_length (i * cell_size + prefix_limit) ns middle ∙ over_at_length (i * cell_size) p work)

  pub written_usable : Usable work' lens'
  written_usable = record {
    room = omega (arith, written_length, u.room);
    words = ap length w.lengths ∙ (length-set (set lens i (length p)) (prefixes_limit + i) (length ns) ∙ (length-set lens i (length p) ∙ u.words));
  }

  other_length : (k : ℕ) → (k ≡ i → ⊥) → (k ≡ prefixes_limit + i → ⊥) → get_or lens' k 0 ≡ get_or lens k 0
  other_length k h g =
      ap (λ (l : List ℕ). get_or l k 0) w.lengths
      ∙ (get_or-set_other (set lens i (length p)) (prefixes_limit + i) k (length ns) 0 g ∙ get_or-set_other lens i k (length p) 0 h)

  pub written_beside : Beside work work' lens lens'
  written_beside = record {
    own = λ k h. other_length k (λ e. omega arith) (λ e. omega arith);
    behind =
        ap (drop work_size) w.texts
        ∙ (over_at_back (i * cell_size + prefix_limit) ns middle work_size (omega arith) ∙ over_at_back (i * cell_size) p work work_size (omega arith));
    long = written_length;
  }

  prefix_length : get_or lens' i 0 ≡ length p
  prefix_length =
      ap (λ (l : List ℕ). get_or l i 0) w.lengths
      ∙ (get_or-set_other (set lens i (length p)) (prefixes_limit + i) i (length ns) 0 (λ e. omega arith) ∙ get_or-set_same lens i (length p) 0 (omega (arith, u.words)))

  namespace_length : get_or lens' (prefixes_limit + i) 0 ≡ length ns
  namespace_length = ap (λ (l : List ℕ). get_or l (prefixes_limit + i) 0) w.lengths ∙ get_or-set_same (set lens i (length p)) (prefixes_limit + i) (length ns) 0 (omega (arith, u.words, length-set lens i (length p)))

  -- A cell that lies in front of both texts, or behind them.
  cell_before : (start size n : ℕ) → start + size ≤ i * cell_size → cell work' start size n ≡ cell work start size n
  cell_before start size n h =
      ap (λ (l : Text). cell l start size n) w.texts
      ∙ (kept_before middle ns (i * cell_size + prefix_limit) start size n (omega arith) ∙ kept_before work p (i * cell_size) start size n h)

  cell_behind : (start size n : ℕ) → i * cell_size + cell_size ≤ start → cell work' start size n ≡ cell work start size n
  cell_behind start size n h =
      ap (λ (l : Text). cell l start size n) w.texts
      ∙ (kept_behind middle ns (i * cell_size + prefix_limit) start size n (omega arith) ∙ kept_behind work p (i * cell_size) start size n (omega arith))

  pub binding_new : binding work' lens' i ≡ bind p ns
  unfolding binding
  binding_new =
      let first : cell work' (i * cell_size) prefix_limit (get_or lens' i 0) ≡ p =
      ap (λ (l : Text). cell l (i * cell_size) prefix_limit (get_or lens' i 0)) w.texts
      ∙ (kept_before middle ns (i * cell_size + prefix_limit) (i * cell_size) prefix_limit (get_or lens' i 0) (omega arith) ∙ cell_new work p (i * cell_size) prefix_limit (get_or lens' i 0) prefix_length hp (omega (arith, u.room))) in
      let second : cell work' (i * cell_size + prefix_limit) iri_limit (get_or lens' (prefixes_limit + i) 0) ≡ ns =
      ap (λ (l : Text). cell l (i * cell_size + prefix_limit) iri_limit (get_or lens' (prefixes_limit + i) 0)) w.texts
      ∙ cell_new middle ns (i * cell_size + prefix_limit) iri_limit (get_or lens' (prefixes_limit + i) 0) namespace_length hn (omega (arith, u.room, over_at_length (i * cell_size) p work)) in
      rw (first, second)

  binding_before : (j : ℕ) → suc j ≤ i → binding work' lens' j ≡ binding work lens j
  unfolding binding
  binding_before j h =
      rw (other_length j (λ e. omega arith) (λ e. omega arith), other_length (prefixes_limit + j) (λ e. omega arith) (λ e. omega arith), cell_before (j * cell_size) prefix_limit (get_or lens j 0) (omega arith), cell_before (j * cell_size + prefix_limit) iri_limit (get_or lens (prefixes_limit + j) 0) (omega arith))

  binding_behind : (j : ℕ) → suc i ≤ j → j < prefixes_limit → binding work' lens' j ≡ binding work lens j
  unfolding binding
  binding_behind j h g =
      rw (other_length j (λ e. omega arith) (λ e. omega arith), other_length (prefixes_limit + j) (λ e. omega arith) (λ e. omega arith), cell_behind (j * cell_size) prefix_limit (get_or lens j 0) (omega arith), cell_behind (j * cell_size + prefix_limit) iri_limit (get_or lens (prefixes_limit + j) 0) (omega arith))

  pub binding_other : (j : ℕ) → j < prefixes_limit → (j ≡ i → ⊥) → binding work' lens' j ≡ binding work lens j
  binding_other j g h = ⊎_elim (λ l. binding_before j l) (λ l. binding_behind j l g) (apart i j h)

  pub base_stays : base_cell work' lens' ≡ base_cell work lens
  unfolding base_cell
  base_stays = rw (other_length base_word (λ e. omega arith) (λ e. omega arith), cell_behind base_place iri_limit (get_or lens base_word 0) (omega arith))

  pub count_stays : get_or lens' count_word 0 ≡ get_or lens count_word 0
  count_stays = other_length count_word (λ e. omega arith) (λ e. omega arith)

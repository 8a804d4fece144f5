-- Laws of a trial.
use mathlib.Core.Path.{◌≡◌, refl, sym, ap, subst, ◌∙◌}
use mathlib.Core.Bool.{Bool, true, false}
use mathlib.Core.List.{[], ◌++◌}
use Prim.Native.Nat.{ℕ, suc, ◌+◌, ◌*◌, ◌-◌, ◌<◌, ◌≤◌}
use native.Mathlib.Omega.{arith}
use lib.Dec.{eqb, leb, ltb}
use lib.ListN.{length, take, drop, length-take, length-drop}
use borrow.Author.Tests.{lt-ltb, le-ltb, le-leb, lt-leb, eq-eqb, ne_eqb, eqb-true, eqb-false, ltb-true, ltb-false}
use Rattle.text.specs.Text.{Text}
use Rattle.text.proofs.Compare.{by}
use Rattle.text.specs.Slice.{over, over_at}
use Rattle.text.proofs.Over.{over_part, over_at_front}
use Rattle.token.specs.Kind.{last_kind}
use Rattle.machine.specs.Read.{Answer, read}
use Rattle.reader.specs.Reader.{LentSlices, lengths, Gives, Reading}
use Rattle.diagnosis.specs.Samples.{samples, sample, with_sample, can_try, trial, allowed, page_after, Leaves, Takes, Tries}

-- ---- The answer

module _ (a : Answer) (place : ℕ) (x : Reading) (n : x.number ≡ a.number) (p : x.position ≡ a.position) where
  stands_behind : place < x.position → true ≡ allowed a place
  stands_behind h = simp (lt-ltb place a.position (subst (λ (k : ℕ). place < k) p h))

  stands_before : x.position < place → false ≡ allowed a place
  stands_before h =
      let k : a.position < place = omega arith in
      let d : a.position ≡ place → ⊥ = λ e. omega arith in
      simp (le-ltb place a.position (omega arith), ne_eqb a.position place d)

  stands_there : x.position ≤ place → place ≤ x.position → leb 9 x.number ≡ allowed a place
  stands_there h k =
      let e : a.position ≡ place = omega arith in
      simp (le-ltb place a.position (omega arith), eq-eqb a.position place e, n)

module _ (text : Text) (place mode : ℕ) (old new : LentSlices) (x : Reading) (g : Gives (read text mode [] (lengths old)) old new x) where
  leaves : Leaves (read text mode [] (lengths old)) old new
  leaves = record { work = g.work; rows = g.rows; terms = g.terms; store = g.store }

  pub behind : place < x.position → Takes text place mode old new true
  behind h = record { answer = stands_behind (read text mode [] (lengths old)) place x g.number g.position h; slices = leaves }

  pub before : x.position < place → Takes text place mode old new false
  before h = record { answer = stands_before (read text mode [] (lengths old)) place x g.number g.position h; slices = leaves }

  pub there : x.position ≤ place → place ≤ x.position → Takes text place mode old new (leb 9 x.number)
  there h k = record { answer = stands_there (read text mode [] (lengths old)) place x g.number g.position h k; slices = leaves }

  -- A refusal elsewhere.
  pub apart : (x.position ≡ place → ⊥) → Takes text place mode old new (ltb place x.position)
  apart k =
      by (ltb place x.position)
      (λ q. rw q (behind (ltb-true place x.position q)))
      (λ q. let h = ltb-false place x.position q in rw q (before (omega (arith, k))))

  -- No refusal.
  pub whole : x.number ≡ 0 → Takes text place mode old new (ltb place x.position)
  whole e =
      by (eqb x.position place)
      (λ q. let h : x.position ≡ place = eqb-true x.position place q in
      let t : Takes text place mode old new (leb 9 x.number) = there (omega arith) (omega arith) in
      let l : ltb place x.position ≡ false = le-ltb place x.position (omega arith) in
      rw (e, sym l) at t)
      (λ q. apart (eqb-false x.position place q))

-- ---- The sample

samples_size : length samples ≡ 8 * suc last_kind
unfolding samples
samples_size = refl

sample_size : (kind : ℕ) → kind ≤ last_kind → length (sample kind) ≡ 8
unfolding sample
sample_size kind h =
    let z = samples_size in
    let n : length (drop (8 * kind) samples) ≡ length samples - 8 * kind = length-drop (8 * kind) samples in
    simp length-take (omega arith)

-- The sample was written over the part of the page from the place on, k bytes.
pub sample_put : (at kind : ℕ) (x y : Text) (k : ℕ) → k ≡ length x - at → y ≡ over (take (8 * kind + 8 - 8 * kind) (drop (8 * kind) samples)) (take k (drop at x))
    → take at x ++ (y ++ drop k (drop at x)) ≡ over_at at (sample kind) x
unfolding sample
sample_put at kind x y k e h =
    let n : 8 * kind + 8 - 8 * kind ≡ 8 = omega arith in
    over_part at (sample kind) x y k e (h ∙ ap (λ (m : ℕ). over (take m (drop (8 * kind) samples)) (take k (drop at x))) n)

module _ (page : Text) (at kind mode : ℕ) (old : LentSlices) where
  -- It cannot be tried.
  untried : can_try page at kind ≡ false → Tries page at kind mode old page old false
  unfolding trial page_after
  untried e =
      record {
        answer = simp e (simp (le-ltb (at + 1) 0 (omega arith), ne_eqb 0 (at + 1) (λ z. omega arith)));
        written = simp e;
        slices = record { work = simp e; rows = simp e; terms = simp e; store = simp e };
      }

  pub no_kind : kind < 1 → Tries page at kind mode old page old false
  no_kind h = untried (simp (lt-leb 1 kind h))

  pub past_kinds : 1 ≤ kind → last_kind < kind → Tries page at kind mode old page old false
  past_kinds k h = untried (simp (le-leb 1 kind k, lt-leb kind last_kind h))

  pub no_room : 1 ≤ kind → kind ≤ last_kind → length page < at + 8 → Tries page at kind mode old page old false
  no_room k l h = untried (simp (le-leb 1 kind k, le-leb kind last_kind l, lt-leb (at + 8) (length page) h))

  -- It is tried.
  pub tried : (page' : Text) (new : LentSlices) (r : Bool) → 1 ≤ kind → kind ≤ last_kind → at + 8 ≤ length page → page' ≡ over_at at (sample kind) page
      → Takes (take (at + 8) page') (at + 1) mode old new r → Tries page at kind mode old page' new r
  unfolding trial page_after
  tried page' new r k l h e t =
      let can : can_try page at kind ≡ true = simp (le-leb 1 kind k, le-leb kind last_kind l, le-leb (at + 8) (length page) h) in
      let s : length (sample kind) ≡ 8 = sample_size kind l in
      let text : take (at + 8) page' ≡ with_sample page at kind =
      ap (take (at + 8)) e ∙ ap (λ (n : ℕ). take (at + n) (over_at at (sample kind) page)) (sym s) ∙ over_at_front at (sample kind) page (omega arith) in
      let u : Takes (with_sample page at kind) (at + 1) mode old new r = subst (λ (x : Text). Takes x (at + 1) mode old new r) text t in
      record {
        answer = simp can u.answer;
        written = simp can e;
        slices = record { work = simp can u.slices.work; rows = simp can u.slices.rows; terms = simp can u.slices.terms; store = simp can u.slices.store };
      }

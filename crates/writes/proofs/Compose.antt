-- Writes one after the other: what each finds room for, and what both have done.
use mathlib.Core.Path.{◌≡◌, refl, sym, ap, subst, ◌∙◌}
use mathlib.Core.List.{List}
use Prim.Native.Nat.{ℕ}
use native.Mathlib.Omega.{arith}
use lib.ListN.{length, length-append}
use Rattle.text.specs.Text.{Text}
use Rattle.table.specs.Tables.{store_size}
use Rattle.table.proofs.Store.{size_append}
use Rattle.machine.specs.Memory.{Memory, Write, return, ◌>>=◌}
use Rattle.machine.specs.Step.{Room}
use Rattle.machine.specs.Demand.{Fits}
use Rattle.machine.proofs.Extends.{Extends, extends_same, extends_both}
use Rattle.state.specs.Represents.{Tables, room_in, Represents, Represented}
use Rattle.writes.specs.Ready.{Ready, Kept, Writes}

-- From what a caller knows of every memory that is held.
pub ready : {A : Type 0} (w : Write A) (work : Text) (t : Tables) (st : List ℕ) → Represented work t st → ((old : Tables) (m : Memory) → Represents old m work t st → Fits (room_in t) (w m).1) → Ready w work t st
ready w work t st (old, (m, R)) f = record { old = old; memory = m; represents = R; fits = f old m R }

-- ---- Room for a first write: later ones only add

abbrev pub Grows : {A : Type 0} → Write A → Type 0
Grows w = (m : Memory) → Extends m (w m).1

pub grows_return : {A : Type 0} (a : A) → Grows (return a)
grows_return a m = extends_same m m refl refl

pub grows_bind : {A B : Type 0} (w : Write A) (f : A → Write B) → Grows w → ((a : A) → Grows (f a)) → Grows (w >>= f)
grows_bind w f x y m = extends_both (x m) (y (w m).0 (w m).1)

fits_before : (room : Room) (m m' : Memory) → Extends m m' → Fits room m' → Fits room m
fits_before room m m' x F = record {
  rows = omega (arith, F.rows, ap length x.rows, length-append m.rows x.new_rows);
  terms = omega (arith, F.terms, ap length x.terms, length-append m.terms x.new_terms);
  store = omega (arith, F.store, ap store_size x.terms, size_append m.terms x.new_terms);
}

module _ {A B : Type 0} (w : Write A) (f : A → Write B) {work : Text} {t : Tables} {st : List ℕ} (r : Ready (w >>= f) work t st) where
  pub ready_first : ((a : A) → Grows (f a)) → Ready w work t st
  ready_first x = record {
    old = r.old;
    memory = r.memory;
    represents = r.represents;
    fits = fits_before (room_in t) (w r.memory).1 ((w >>= f) r.memory).1 (x (w r.memory).0 (w r.memory).1) r.fits;
  }

  pub ready_next : {a : A} {work' : Text} {t' : Tables} {st' : List ℕ} → Writes w a work work' t t' st st' → Ready (f a) work' t' st'
  ready_next {a} {work'} {t'} {st'} x =
      let e : (w r.memory).0 ≡ a = x.result r.old r.memory r.represents in
      record {
        old = r.old;
        memory = (w r.memory).1;
        represents = x.represents r.old r.memory r.represents;
        fits = subst (λ (b : A). Fits (room_in t') (f b (w r.memory).1).1) e (subst (λ (q : Room). Fits q (f (w r.memory).0 (w r.memory).1).1) (sym x.kept.room) r.fits);
      }

-- ---- What two writes have done

pub kept_both : {work work₁ work₂ : Text} {t t₁ t₂ : Tables} {st st₁ st₂ : List ℕ} → Kept work work₁ t t₁ st st₁ → Kept work₁ work₂ t₁ t₂ st₁ st₂ → Kept work work₂ t t₂ st st₂
kept_both x y = record {
  front = y.front ∙ x.front;
  room = y.room ∙ x.room;
  stays = λ k h. y.stays k h ∙ x.stays k h;
  words = y.words ∙ x.words;
}

pub kept_same : (work : Text) (t : Tables) (st : List ℕ) → Kept work work t t st st
kept_same work t st = record { front = refl; room = refl; stays = λ k h. refl; words = refl }

pub writes_return : {A : Type 0} (a : A) (work : Text) (t : Tables) (st : List ℕ) → Writes (return a) a work work t t st st
writes_return a work t st = record { represents = λ old m R. R; result = λ old m R. refl; kept = kept_same work t st }

pub writes_bind : {A B : Type 0} (w : Write A) (f : A → Write B) {a : A} {b : B} {work work₁ work₂ : Text} {t t₁ t₂ : Tables} {st st₁ st₂ : List ℕ}
    → Writes w a work work₁ t t₁ st st₁ → Writes (f a) b work₁ work₂ t₁ t₂ st₁ st₂ → Writes (w >>= f) b work work₂ t t₂ st st₂
writes_bind {A} {B} w f {a} {b} {work} {work₁} {work₂} {t} {t₁} {t₂} {st} {st₁} {st₂} x y = record {
  represents = λ old m R. subst (λ (z : A). Represents old (f z (w m).1).1 work₂ t₂ st₂) (sym (x.result old m R)) (y.represents old (w m).1 (x.represents old m R));
  result = λ old m R. subst (λ (z : A). (f z (w m).1).0 ≡ b) (sym (x.result old m R)) (y.result old (w m).1 (x.represents old m R));
  kept = kept_both x.kept y.kept;
}

-- A write with its result handed on.
pub writes_then_return : {A B : Type 0} (w : Write A) (b : B) {a : A} {work work' : Text} {t t' : Tables} {st st' : List ℕ} → Writes w a work work' t t' st st' → Writes (w >>= (λ x. return b)) b work work' t t' st st'
writes_then_return w b {work' = work'} {t' = t'} {st' = st'} x = writes_bind w (λ z. return b) x (writes_return b work' t' st')

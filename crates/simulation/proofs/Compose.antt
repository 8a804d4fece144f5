-- How the statements of routines compose.
use mathlib.Core.Path.{◌≡◌, refl, ap, ◌∙◌}
use mathlib.Core.List.{List}
use Prim.Native.Nat.{ℕ}
use native.Mathlib.Omega.{arith}
use denote.Ref.{MutBor, at_last}
use Rattle.text.specs.Text.{Text}
use Rattle.machine.specs.Frame.{Open}
use Rattle.state.specs.Represents.{room_in}
use Rattle.simulation.specs.Simulation.{tables_of, Ready, Same, Comes}
use Rattle.state.specs.declared.Held.{Held}

at_both : (x y z : MutBor (List ℕ)) → z ≡ at_last y z.now → y ≡ at_last x y.now → z ≡ at_last x z.now
at_both x y z e f = e ∙ ap (λ (r : MutBor (List ℕ)). at_last r z.now) f

pub same_all : (a : Held) → Same a a
same_all a = record { work = refl; rows = refl; terms = refl; store = refl; work_length = refl; rows_length = refl; terms_length = refl; store_length = refl; words = refl }

pub same_both : (a b c : Held) → Same a b → Same b c → Same a c
same_both a b c s t = record {
  work = at_both a.work b.work c.work t.work s.work;
  rows = at_both a.rows b.rows c.rows t.rows s.rows;
  terms = at_both a.terms b.terms c.terms t.terms s.terms;
  store = at_both a.store b.store c.store t.store s.store;
  work_length = t.work_length ∙ s.work_length;
  rows_length = t.rows_length ∙ s.rows_length;
  terms_length = t.terms_length ∙ s.terms_length;
  store_length = t.store_length ∙ s.store_length;
  words = t.words ∙ s.words;
}

-- The room stays.
pub room_same : (a b : Held) → Same a b → room_in (tables_of b) ≡ room_in (tables_of a)
room_same a b s = rw (s.rows_length, s.terms_length, s.store_length)

module _ {I : Type 0} (doc : Text) where
  pub comes_here : (F : I → Open) (a : Held) → Ready doc a → Comes doc F F a a 0
  comes_here F a r = record {
    same = same_all a;
    ready = λ e. r;
    later = λ e. omega arith;
    on = λ e mode old m h. record { after = m; holding = h; same = λ i. refl };
    stop = λ z mode old m h i. absurd (z refl);
  }

  pub comes_then : (F G H : I → Open) (a b c : Held) (r s : ℕ) → Comes doc F G a b r → r ≡ 0 → Comes doc G H b c s → Comes doc F H a c s
  comes_then F G H a b c r s x z y = record {
    same = same_both a b c x.same y.same;
    ready = y.ready;
    later = λ e. omega (arith, x.later z, y.later e);
    on = λ e mode old m h.
        let o = x.on z mode old m h in
        let p = y.on e mode old o.after o.holding in
        record { after = p.after; holding = p.holding; same = λ i. o.same i ∙ p.same i };
    stop = λ e mode old m h i. let o = x.on z mode old m h in o.same i ∙ y.stop e mode old o.after o.holding i;
  }

  pub comes_stop : (F G H : I → Open) (a b : Held) (r : ℕ) → Comes doc F G a b r → (r ≡ 0 → ⊥) → Comes doc F H a b r
  comes_stop F G H a b r x z = record {
    same = x.same;
    ready = λ e. absurd (z e);
    later = λ e. absurd (z e);
    on = λ e. absurd (z e);
    stop = x.stop;
  }

  -- What is open below may be more.
  pub comes_within : {J : Type 0} (g : J → I) (F G : I → Open) (a b : Held) (r : ℕ) → Comes doc F G a b r → Comes doc (λ j. F (g j)) (λ j. G (g j)) a b r
  comes_within g F G a b r x = record {
    same = x.same;
    ready = x.ready;
    later = x.later;
    on = λ e mode old m h. let o = x.on e mode old m h in record { after = o.after; holding = o.holding; same = λ j. o.same (g j) };
    stop = λ e mode old m h j. x.stop e mode old m h (g j);
  }

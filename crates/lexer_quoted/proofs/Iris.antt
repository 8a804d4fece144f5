-- IRIREF: within it, after a backslash, and after its end.
use mathlib.Core.Path.{◌≡◌, refl, ap, sym, ◌∙◌}
use mathlib.Core.Logic.{⊎_elim}
use mathlib.Core.Bool.{Bool, true, false, not, ◌||◌}
use Prim.Native.Nat.{ℕ, ◌+◌, ◌≤◌, ◌<◌}
use native.Mathlib.Omega.{arith}
use borrow.Author.Tests.{eq-eqb, ne_eqb, leb-true, leb-false, le-leb, lt-leb, not-true, not-false}
use lib.Dec.{eqb, leb}
use lib.ListN.{length, get_or, drop}
use Rattle.std.specs.Prelude.{Option, Some, None}
use Rattle.text.specs.Text.{Text}
use Rattle.text.specs.Runs.{next_at}
use Rattle.text.proofs.Runs.{next_walk, next_stop}
use Rattle.utf8.proofs.Tests.{by, below_at, or_true, or_false, same, same_eq}
use Rattle.token.specs.Regular.{in_ranges}
use Rattle.automaton.specs.Levels.{intervals}
use Rattle.automaton.specs.States.{start, in_iri, in_iri_escape, after_iri, dead, open_states}
use Rattle.automaton.specs.Run.{tok, At, In, TokenAt}
use Rattle.automaton.proofs.Steps.{only, never, sends, high_sends, Sent, HighMoves, Ends, begin, pass, gain, fail, stop, at_in, in_at, in_end, over}
use Rattle.characters.specs.Bytes.{iri}
use Rattle.characters.proofs.Sets.{set_low, take_pass}
use Rattle.lexer_quoted.specs.Escapes.{uchar_size}
use Rattle.lexer_quoted.specs.Stops.{iri_stop}
use Rattle.lexer_quoted.proofs.Escaping.{Uchars, Escaped, uchar_on}

abbrev no_iri : ℕ → Bool
no_iri b = not (in_ranges b iri || (eqb b 62 || eqb b 92))

record Moves : Type 0 where
  opens : Sent start (only 60) in_iri 0
  plain : Sent in_iri (λ b. in_ranges b iri) in_iri 0
  high : HighMoves in_iri in_iri
  slash : Sent in_iri (only 92) in_iri_escape 0
  refuses : Sent in_iri no_iri dead 0
  closes : Sent in_iri (only 62) after_iri 1
  closed : Ends after_iri never
  escape : Uchars never in_iri_escape in_iri

moves : Moves
unfolding open_states sends high_sends intervals
moves = record {
  opens = record { test = tt };
  plain = record { test = tt };
  high = record { moves = record { test = tt }; silent = record { test = tt } };
  slash = record { test = tt };
  refuses = record { test = tt };
  closes = record { test = tt };
  closed = record { low = record { test = tt }; high = record { test = tt } };
  escape = record {
    small = record { test = tt };
    four = tt;
    capital = record { test = tt };
    eight = tt;
    other = record { low = record { test = tt }; high = record { test = tt } };
  };
}

-- The test of the code, for eight bytes at a time.
abbrev pub stopping : ℕ → Bool
stopping b = leb b 32 || eqb b 34 || eqb b 60 || eqb b 62 || eqb b 92 || eqb b 94 || eqb b 96 || eqb b 123 || eqb b 124 || eqb b 125

pub stop_test : (b : ℕ) → b < 256 → stopping b ≡ iri_stop b
stop_test b h = same_eq (stopping b) (iri_stop b) (below_at (λ k. same (stopping k) (iri_stop k)) 256 tt b h)

-- And byte by byte.
pub at_stop : (b : ℕ) (r : Bool) → b < 128 → r ≡ in_ranges b iri → not r ≡ true → iri_stop b ≡ true
at_stop b r h e f = rw (lt-leb 128 b h, sym e) f

pub no_stop_low : (b : ℕ) (r : Bool) → r ≡ in_ranges b iri → not r ≡ false → iri_stop b ≡ false
no_stop_low b r e f = by (leb 128 b) (λ g. rw g) (λ g. rw (g, sym e) f)

pub no_stop_high : (b : ℕ) → 128 ≤ b → iri_stop b ≡ false
no_stop_high b h = rw (le-leb 128 b h)

-- Within an IRIREF, where a run of its text stops.
pub record Stopped (s : Text) (i : ℕ) : Type 0 where
  pub inside : In s in_iri i None
  pub stops : i < length s → iri_stop (get_or s i 0) ≡ true

module _ (s : Text) where
  -- A byte at which no run stops, and on to the next at which one does.
  on : (j : ℕ) → j < length s → iri_stop (get_or s j 0) ≡ false → In s in_iri j None → In s in_iri (j + 1) None
  on j h f g =
      ⊎_elim (λ e. over moves.high g h (leb-true 128 (get_or s j 0) e))
      (λ e. at_in (take_pass iri (in_at g h (set_low iri tt (get_or s j 0) e)) h tt e moves.plain))
      (or_true (leb 128 (get_or s j 0)) (in_ranges (get_or s j 0) iri) (not-false _ f))

  pub iri_run : (i k : ℕ) → In s in_iri i None → k ≡ next_at iri_stop s i → Stopped s k
  iri_run i k g e = record { inside = next_walk iri_stop s (λ (j : ℕ). In s in_iri j None) on i k g.within e g; stops = next_stop iri_stop s i k e }

  pub iri_start : 0 < length s → get_or s 0 0 ≡ 60 → In s in_iri 1 None
  iri_start h e = at_in (pass (begin s (λ x. absurd (omega arith)) (λ x. absurd (omega arith))) h (omega arith) (eq-eqb _ _ e) moves.opens)

  module _ (i : ℕ) (g : Stopped s i) where
    pub iri_end : length s ≤ i → TokenAt s None
    iri_end h = in_end g.inside h

    module _ (h : i < length s) where
      neither : (leb 128 (get_or s i 0) ≡ false) × (in_ranges (get_or s i 0) iri ≡ false)
      neither = or_false (leb 128 (get_or s i 0)) (in_ranges (get_or s i 0) iri) (not-true _ (g.stops h))

      low : get_or s i 0 < 128
      low = leb-false 128 (get_or s i 0) neither.0

      at : At s in_iri i None
      at = in_at g.inside h low

      pub iri_close : get_or s i 0 ≡ 62 → TokenAt s (Some (tok 1 (i + 1)))
      iri_close e = stop (gain at h low (eq-eqb _ _ e) (omega arith) moves.closes) moves.closed

      pub iri_bad : (get_or s i 0 ≡ 62 → ⊥) → (get_or s i 0 ≡ 92 → ⊥) → TokenAt s None
      iri_bad n m =
          fail at h low
          (ap (λ (v : Bool). not (v || (eqb (get_or s i 0) 62 || eqb (get_or s i 0) 92))) neither.1 ∙ simp (ne_eqb _ _ n, ne_eqb _ _ m))
          moves.refuses

      module _ (e : get_or s i 0 ≡ 92) (r : Option ℕ) (f : r ≡ uchar_size (drop (i + 1) s)) where
        escaped : Escaped s in_iri (i + 1) None r
        escaped = uchar_on moves.escape (pass at h low (eq-eqb _ _ e) moves.slash) (λ x. refl) f

        pub iri_broken : r ≡ None → TokenAt s None
        iri_broken z = escaped.broken z

        pub iri_escaped : (n : ℕ) → r ≡ Some n → In s in_iri (i + 1 + n) None
        iri_escaped n z = at_in (escaped.whole n z)

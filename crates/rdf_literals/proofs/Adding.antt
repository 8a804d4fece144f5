-- From what the slices hold to what was done at a token.
use mathlib.Core.Path.{◌≡◌, refl, sym, ◌∙◌, subst}
use mathlib.Core.List.{List}
use Prim.Native.Nat.{ℕ}
use native.Mathlib.Omega.{arith}
use lib.ListN.{length, set, length-set}
use lib.Seq.{get_or-set_same}
use denote.Ref.{MutBor, at_last}
use Rattle.text.specs.Text.{Text}
use Rattle.lexer.specs.Rest.{rest}
use Rattle.machine.specs.Memory.{Memory, Write}
use Rattle.machine.specs.Refusals.{new_depth}
use Rattle.state.specs.Words.{at_word, depth_word, len_word, at_in, depth_in, graph_in}
use Rattle.state.specs.Cursor.{remaining}
use Rattle.state.specs.Represents.{Tables, lent_tables, room_in, Represented, room_refusal, Puts}
use Rattle.simulation.specs.Simulation.{held, tables_of, here, Holding, Same, token_refusal, Does}
use Rattle.state.specs.declared.Held.{Held}
use Rattle.simulation.proofs.Compose.{same_both}
use Rattle.nodes.specs.Nodes.{Passed}
use Rattle.nodes.proofs.Moving.{cursor_words, left_words}
use Rattle.nodes.proofs.Passing.{represents_words}
use Rattle.rdf_literals.specs.Literals.{Adds, Obeys}

same_words : (work rows terms store : MutBor (List ℕ)) (st st' : List ℕ) → length st' ≡ length st → Same (held work rows terms store st) (held work rows terms store st')
same_words work rows terms store st st' n = record { work = refl; rows = refl; terms = refl; store = refl; work_length = refl; rows_length = refl; terms_length = refl; store_length = refl; words = n }

-- The cursor went on, then w was done.
module _ (doc : Text) (work rows terms store : MutBor (List ℕ)) (st st1 : List ℕ) (b : Held) (w : Write ℕ) (r : ℕ) where
  abbrev a : Held
  a = held work rows terms store st

  abbrev a1 : Held
  a1 = held work rows terms store st1

  pub adds_does : Passed doc st st1 (depth_in st) (graph_in st) → Adds w a1 b (at_in st) r
      → ((m : Memory) → token_refusal (room_in (tables_of a)) (depth_in st) m.environment (here doc a) (w m).1 ≡ room_refusal (room_in (tables_of a)) (w m).1)
      → new_depth (depth_in st) (here doc a) ≡ depth_in st → Does doc w a b r
  adds_does p A q d =
      record {
        same = same_both a a1 b (same_words work rows terms store st st1 p.words) A.same;
        refusal = λ old m h. A.room old m (moved old m h) ∙ sym (q m);
        place = A.place;
        done = λ e.
            record {
              cursor = cursor_words doc st1 b.st (λ k x y. A.stays e k x) p.cursor;
              tokens = p.tokens ∙ sym (left_words doc st1 b.st (λ k x y. A.stays e k x));
              later = rw (A.stays e at_word (omega arith)) p.later;
              depth = A.stays e depth_word (omega arith) ∙ (p.depth_is ∙ sym d);
              spot = λ k h. A.stays e k (omega arith) ∙ p.spot k h;
              holding = λ old m h. A.holding e old m (moved old m h);
            };
      }
    where
      moved : (old : Tables) (m : Memory) → Holding old m a → Holding old m a1
      moved old m h = represents_words old m work.now (tables_of a) st st1 p.before p.graph_is p.words h

-- The references stay; what is behind them may be other.
abbrev after : Held → List ℕ → List ℕ → List ℕ → List ℕ → List ℕ → Held
after a work rows terms store st = held (at_last a.work work) (at_last a.rows rows) (at_last a.terms terms) (at_last a.store store) st

module _ (a : Held) (work rows terms store st1 : List ℕ) (lw : length work ≡ length a.work.now) (lr : length rows ≡ length a.rows.now) (lt : length terms ≡ length a.terms.now) (ls : length store ≡ length a.store.now) where
  abbrev later_held : Held
  later_held = after a work rows terms store st1

  same_after : length st1 ≡ length a.st → Same a later_held
  same_after n = record { work = refl; rows = refl; terms = refl; store = refl; work_length = lw; rows_length = lr; terms_length = lt; store_length = ls; words = n }

  same_later : length st1 ≡ length a.st → (st2 : List ℕ) → length st2 ≡ length st1 → Same a (after a work rows terms store st2)
  same_later n st2 m = same_both a later_held (after a work rows terms store st2) (same_after n) (same_words later_held.work later_held.rows later_held.terms later_held.store st1 st2 m)

  -- w was done, then the cursor went on.
  module _ (doc : Text) (w : Write ℕ) (r : ℕ) (O : Obeys doc w a.work.now work (tables_of a) (lent_tables rows terms store) a.st st1 r) where
    pub obeys_stop : (r ≡ 0 → ⊥) → Does doc w a later_held r
    obeys_stop z = record { same = same_after O.words; refusal = λ old m h. O.refusal old m h; place = λ e. O.stays at_word (omega arith); done = λ e. absurd (z e) }

    pub obeys_does : r ≡ 0 → (st2 : List ℕ) → Passed doc st1 st2 (depth_in st1) (graph_in st1) → new_depth (depth_in a.st) (here doc a) ≡ depth_in a.st
        → Does doc w a (after a work rows terms store st2) 0
    obeys_does z st2 p d =
        record {
          same = same_later O.words st2 p.words;
          refusal = λ old m h. sym z ∙ O.refusal old m h;
          place = λ e. absurd (e refl);
          done = λ e.
              record {
                cursor = p.cursor;
                tokens = subst (λ (n : ℕ). rest doc n ≡ remaining doc st2) (let e1 = O.stays at_word (omega arith) in let e2 = O.stays len_word (omega arith) in omega arith) p.tokens;
                later = let e1 = O.stays at_word (omega arith) in omega (arith, p.later);
                depth = p.depth_is ∙ (O.stays depth_word (omega arith) ∙ sym d);
                spot = λ k h. p.spot k h ∙ O.stays k (omega arith);
                holding = λ old m h. represents_words old (w m).1 work (lent_tables rows terms store) st1 st2 p.before p.graph_is p.words ((O.wrote z).represents old m h);
              };
        }

  -- What was put, behind the references.
  module _ (w : Write ℕ) (r : ℕ) (P : Puts w a.work.now work (tables_of a) (lent_tables rows terms store) a.st st1 r) where
    pub puts_adds : r ≡ 0 → (at : ℕ) → Adds w a later_held at 0
    puts_adds z at = record { same = same_after P.words; room = λ old m h. sym z ∙ P.room old m h; place = λ e. absurd (e refl); stays = λ e. P.stays; holding = λ e old m h. (P.wrote z).represents old m h }

    pub puts_back : (r ≡ 0 → ⊥) → (at : ℕ) → Represented a.work.now (tables_of a) a.st → Adds w a (after a work rows terms store (set st1 at_word at)) at r
    puts_back z at (old, (m, h)) =
        record {
          same = same_later P.words (set st1 at_word at) (length-set st1 at_word at);
          room = λ old m h. P.room old m h;
          place = λ y. get_or-set_same st1 at_word at 0 (omega (arith, P.words, h.usable.words));
          stays = λ y. absurd (z y);
          holding = λ y. absurd (z y);
        }

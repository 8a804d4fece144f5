-- Saying where the next node belongs changes nothing for the machine.
use mathlib.Core.Path.{◌≡◌, refl, sym, ◌∙◌}
use mathlib.Core.List.{List}
use Prim.Native.Nat.{ℕ, ◌-◌, ◌<◌}
use native.Mathlib.Omega.{arith}
use lib.ListN.{length, get_or}
use denote.Ref.{MutBor}
use Rattle.token.specs.Kind.{end_kind, unreadable_kind}
use Rattle.environment.specs.Code.{words_size}
use Rattle.text.specs.Text.{Text}
use Rattle.machine.specs.Frame.{Open}
use Rattle.machine.specs.Memory.{Memory}
use Rattle.grammar.specs.Productions.{Mode}
use Rattle.state.specs.Words.{at_word, depth_word, graph_word, list_word, kind_in, at_in, depth_in}
use Rattle.state.specs.Cursor.{Cursor, TokenHere}
use Rattle.state.specs.Represents.{Tables}
use Rattle.simulation.specs.Simulation.{held, tables_of, Holding, goes, Ready, Comes}
use Rattle.state.specs.declared.Held.{Held}
use Rattle.nodes.specs.Nodes.{Aimed, Spotted}
use Rattle.nodes.proofs.Moving.{cursor_words, left_words}
use Rattle.nodes.proofs.Passing.{represents_words}
use Rattle.table.specs.Layout.{word_limit}

module _ (doc : Text) (work rows terms store : MutBor (List ℕ)) (st st' : List ℕ) (same : (k : ℕ) → k < list_word → get_or st' k 0 ≡ get_or st k 0) (n : length st' ≡ length st) where
  abbrev a : Held
  a = held work rows terms store st

  abbrev b : Held
  b = held work rows terms store st'

  goes_aimed : (mode : Mode) (o : Open) (m : Memory) → goes mode doc a o m ≡ goes mode doc b o m
  unfolding goes
  goes_aimed mode o m = rw (left_words doc st st' (λ k x y. same k (omega arith)), same depth_word (omega arith))

  holding_aimed : (old : Tables) (m : Memory) → Holding old m a → Holding old m b
  holding_aimed old m h = represents_words old m work.now (tables_of a) st st' (λ k x. same k (omega arith)) (same graph_word (omega arith)) n h

  pub ready_aimed : Ready doc a → Ready doc b
  ready_aimed r =
      let (old, (m, h)) = r.holds in
      record { cursor = cursor_words doc st st' (λ k x y. same k (omega arith)) r.cursor; holds = (old, (m, holding_aimed old m h)); depth = rw (same depth_word (omega arith)) r.depth }

  pub comes_aimed : {I : Type 0} (F : I → Open) → Ready doc a → Comes doc F F a b 0
  comes_aimed F r =
      record {
        same = record { work = refl; rows = refl; terms = refl; store = refl; work_length = refl; rows_length = refl; terms_length = refl; store_length = refl; words = n };
        ready = λ e. ready_aimed r;
        later = λ e. rw (same at_word (omega arith)) (omega arith);
        on = λ e mode old m h. record { after = m; holding = holding_aimed old m h; same = λ i. goes_aimed mode (F i) m };
        stop = λ z mode old m h i. absurd (z refl);
      }

-- A place within the words that there may be.
pub spotted : (work rows terms store : MutBor (List ℕ)) (st st' : List ℕ) (list x y opened last : ℕ) → Aimed st st' list x y opened last → x < word_limit → y < word_limit → opened < word_limit → last < word_limit → Spotted (held work rows terms store st')
spotted work rows terms store st st' list x y opened last a hx hy ho hl =
    record { x = rw a.x_is hx; y = rw a.y_is hy; opened = rw a.opened_is ho; last = rw a.last_is hl }

-- A place in the document fits.
pub place_small : (doc : Text) (a : Held) → Ready doc a → at_in a.st < word_limit
place_small doc a r = omega (arith, r.cursor.inside, r.cursor.size)

-- ---- What routines ask for

pub ready_words : (doc : Text) (a : Held) → Ready doc a → length a.st ≡ words_size
ready_words doc a r = let (old, (m, h)) = r.holds in h.usable.words

pub unexpected_call : (doc : Text) (a : Held) → Ready doc a → Cursor doc a.st × (length a.st ≡ words_size)
unexpected_call doc a r = (r.cursor, ready_words doc a r)

pub pass_call : (doc : Text) (a : Held) (k : ℕ) → Ready doc a → kind_in a.st ≡ k → (k ≡ end_kind → ⊥) → (k ≡ unreadable_kind → ⊥) → (Cursor doc a.st × TokenHere doc a.st) × (length a.st ≡ words_size)
pass_call doc a k r e z y = ((r.cursor, r.cursor.token (λ h. z (sym e ∙ h)) (λ h. y (sym e ∙ h))), ready_words doc a r)

pub leave_call : (doc : Text) (a : Held) (k : ℕ) → Ready doc a → kind_in a.st ≡ k → (k ≡ end_kind → ⊥) → (k ≡ unreadable_kind → ⊥) → 0 < depth_in a.st → (Cursor doc a.st × TokenHere doc a.st) × ((length a.st ≡ words_size) × (0 < depth_in a.st))
leave_call doc a k r e z y d = let w = pass_call doc a k r e z y in (w.0, (w.1, d))

-- The cursor has gone on, within the document.
pub less_left : (doc : Text) (a b : Held) → Ready doc b → at_in a.st < at_in b.st → length doc - at_in b.st < length doc - at_in a.st
less_left doc a b r h = omega (arith, r.cursor.inside)

-- A string literal: what is kept of its own token, and what is put for it.
use Rattle.std.specs.Prelude.{◌≡◌, List, [], ◌∷◌, false, not, ℕ, ◌+◌, ◌≤◌, eqb, length, get_or, take, drop}
use Rattle.text.specs.Text.{Text, cond}
use Rattle.limits.specs.Limits.{document_limit, iri_limit, work_size}
use Rattle.token.specs.Kind.{Kind, LANGTAG, carets, long_strings}
use Rattle.escape.specs.Escape.{unescape, bad_escape}
use Rattle.spelling.specs.Form.{bad, joined}
use Rattle.dataset.specs.Constructors.{inner}
use Rattle.machine.specs.Memory.{Memory, Write}
use Rattle.state.specs.Words.{terms_word, x_word, y_word, opened_word, last_word, Stays, kind_in, at_in, len_in, depth_in, list_in}
use Rattle.state.specs.Cursor.{token_of}
use Rattle.state.specs.Represents.{Tables, room_in, Represents, room_refusal, Wrote}
use Rattle.state.specs.declared.Spot.{Spot}
use Rattle.token_iri.specs.Addresses.{Answered, front_of, back_of}
use Rattle.simulation.specs.Simulation.{code_among, tables_of, Holding, Same, token_refusal}
use Rattle.state.specs.declared.Held.{Held}

-- What follows a string that is not complete at its own token.
abbrev pub ties : List Kind
ties = LANGTAG ∷ carets ∷ []

-- The quotes on each side of a string, by the number of its kind.
abbrev pub quotes_of : ℕ → ℕ
quotes_of k = cond (code_among long_strings k) 3 1

-- The text of a string token, its escapes undone.
abbrev pub between : Text → ℕ → ℕ → ℕ → Text
between doc at len quotes = inner quotes (take len (drop at doc))

abbrev pub text_of : Text → ℕ → ℕ → ℕ → Text
text_of doc at len quotes = unescape (between doc at len quotes)

-- What is known of a string behind which the cursor is.
pub record Quoted (doc : Text) (at len quotes : ℕ) : Type 0 where
  pub size : length doc ≤ document_limit
  pub inside : at + len ≤ length doc
  pub few : quotes ≤ 3
  pub right : bad_escape (between doc at len quotes) ≡ false

-- Where the array says that the next node belongs, for a token at a place.
abbrev pub spot_at : List ℕ → ℕ → Spot
spot_at st at =
    record {
      list = not (eqb (list_in st) 0);
      x = get_or st x_word 0;
      y = get_or st y_word 0;
      opened = get_or st opened_word 0;
      last = get_or st last_word 0;
      at = at;
    }

-- The place that is got there: an element's is its new cell.
abbrev pub own_x : List ℕ → ℕ
own_x st = cond (eqb (list_in st) 0) (get_or st x_word 0) (get_or st terms_word 0 + 1)

abbrev pub own_y : List ℕ → ℕ
own_y st = cond (eqb (list_in st) 0) (get_or st y_word 0) 0

abbrev pub own_spot : ℕ → ℕ → ℕ → Spot
own_spot x y at = record { list = false; x = x; y = y; opened = 0; last = 0; at = at }

-- The IRI of a datatype lies within its slices, and is right; so is the text of the literal.
pub record Located (a : Answered) (token text buffer work : Text) : Type 0 where
  pub order : a.start ≤ a.end
  pub front : a.end ≤ work_size
  pub back_order : a.from ≤ a.to
  pub back_inside : a.to ≤ length (cond a.buffered buffer token)
  pub right : bad a.form (back_of a token buffer) ≡ false
  pub short : length (joined (front_of a work) a.form (back_of a token buffer)) ≤ iri_limit
  pub text_right : bad_escape text ≡ false
  pub text_size : length text ≤ document_limit

-- w was done behind the references where there is room for it; else the cursor is at this place.
pub record Adds (w : Write ℕ) (a b : Held) (at r : ℕ) : Type 0 where
  pub same : Same a b
  pub room : (old : Tables) (m : Memory) → Holding old m a → r ≡ room_refusal (room_in (tables_of a)) (w m).1
  pub place : (r ≡ 0 → ⊥) → at_in b.st ≡ at
  pub stays : r ≡ 0 → Stays a.st b.st
  pub holding : r ≡ 0 → (old : Tables) (m : Memory) → Holding old m a → Holding old (w m).1 b

-- w was done at the token of the cursor, with all refusals that it may meet.
pub record Obeys (doc : Text) (w : Write ℕ) (work work' : Text) (t t' : Tables) (st st' : List ℕ) (r : ℕ) : Type 0 where
  pub refusal : (old : Tables) (m : Memory) → Represents old m work t st
      → r ≡ token_refusal (room_in t) (depth_in st) m.environment (token_of doc (kind_in st) (at_in st) (len_in st)) (w m).1
  pub wrote : r ≡ 0 → Wrote w work work' t t' st st'
  pub stays : Stays st st'
  pub words : length st' ≡ length st

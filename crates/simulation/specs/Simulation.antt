-- What the routines of the reader say of the machine: it goes on from what is open before to what is open after, or is refused.
use Rattle.std.specs.Prelude.{◌≡◌, List, [], ◌∷◌, ◌++◌, Bool, false, ◌&&◌, ◌||◌, ℕ, ◌+◌, ◌≤◌, ◌<◌, eqb, length, get_or, take, drop}
use denote.Ref.{MutBor, at_last}
use Rattle.text.specs.Text.{Text, cond}
use Rattle.limits.specs.Limits.{depth_limit}
use Rattle.token.specs.Kind.{Kind, kind_code, unreadable_kind, IRIREF, strings}
use Rattle.token.specs.Tokens.{Token}
use Rattle.escape.specs.Escape.{bad_escape}
use Rattle.grammar.specs.Productions.{Mode}
use Rattle.lexer.specs.Rest.{rest}
use Rattle.environment.specs.Environment.{Environment}
use Rattle.dataset.specs.Constructors.{nothing, awaiting}
use Rattle.table.specs.Tables.{or_zero}
use Rattle.table.specs.Layout.{word_limit}
use Rattle.machine.specs.Memory.{Memory, Write}
use Rattle.machine.specs.Frame.{Frame, Open, statement}
use Rattle.machine.specs.Refusals.{new_depth, escape_tests, iri_tests, depth_tests, room_tests}
use Rattle.machine.specs.Step.{Room, Test, first_refusal, Outcome, refused, run}
use Rattle.state.specs.Words.{list_word, kind_in, at_in, len_in, depth_in, node_in}
use Rattle.state.specs.Cursor.{token_of, Cursor, remaining}
use Rattle.state.specs.Represents.{Tables, lent_tables, room_in, Represents, Represented}
use Rattle.state.specs.declared.Held.{Held}

-- The lent slices behind their references, with this array.
abbrev pub held : MutBor (List ℕ) → MutBor (List ℕ) → MutBor (List ℕ) → MutBor (List ℕ) → List ℕ → Held
held work rows terms store st = record { work = work; rows = rows; terms = terms; store = store; st = st }

-- The tables behind the references.
abbrev pub tables_of : Held → Tables
tables_of h = lent_tables h.rows.now h.terms.now h.store.now

-- The token at the cursor.
abbrev pub here : Text → Held → Token
here doc h = token_of doc (kind_in h.st) (at_in h.st) (len_in h.st)

abbrev pub Holding : Tables → Memory → Held → Type 0
Holding old m h = Represents old m h.work.now (tables_of h) h.st

-- How the machine goes on from the cursor where this is open.
unfoldable pub goes : Mode → Text → Held → Open → Memory → Outcome
goes mode doc h o m = run mode (room_in (tables_of h)) (length doc) (remaining doc h.st) (record { open_now = o; depth = depth_in h.st; memory = m })

-- What a routine may be called with.
pub record Ready (doc : Text) (h : Held) : Type 0 where
  pub cursor : Cursor doc h.st
  pub holds : Represented h.work.now (tables_of h) h.st
  pub depth : depth_in h.st ≤ depth_limit

-- The slices are the ones that were lent, and as long.
pub record Same (a b : Held) : Type 0 where
  pub work : b.work ≡ at_last a.work b.work.now
  pub rows : b.rows ≡ at_last a.rows b.rows.now
  pub terms : b.terms ≡ at_last a.terms b.terms.now
  pub store : b.store ≡ at_last a.store b.store.now
  pub work_length : length b.work.now ≡ length a.work.now
  pub rows_length : length b.rows.now ≡ length a.rows.now
  pub terms_length : length b.terms.now ≡ length a.terms.now
  pub store_length : length b.store.now ≡ length a.store.now
  pub words : length b.st ≡ length a.st

-- The memory afterwards, and that the machine comes to it.
pub record Onward {I : Type 0} (mode : Mode) (doc : Text) (old : Tables) (F G : I → Open) (a b : Held) (m : Memory) : Type 0 where
  pub after : Memory
  pub holding : Holding old after b
  pub same : (i : I) → goes mode doc a (F i) m ≡ goes mode doc b (G i) after

-- From what is open before, F, the machine comes to G with the result 0; with any other it is refused with that number, at the cursor.
pub record Comes {I : Type 0} (doc : Text) (F G : I → Open) (a b : Held) (r : ℕ) : Type 0 where
  pub same : Same a b
  pub ready : r ≡ 0 → Ready doc b
  pub later : r ≡ 0 → at_in a.st ≤ at_in b.st
  pub on : r ≡ 0 → (mode : Mode) (old : Tables) (m : Memory) → Holding old m a → Onward mode doc old F G a b m
  pub stop : (r ≡ 0 → ⊥) → (mode : Mode) (old : Tables) (m : Memory) → Holding old m a → (i : I) → goes mode doc a (F i) m ≡ refused r (at_in b.st)

-- The same for frames, whatever is open below them.
abbrev pub on_top : List Frame → List Frame → Open
on_top fs k = statement (fs ++ k)

abbrev pub Reads : Text → List Frame → List Frame → Held → Held → ℕ → Type 0
Reads doc fs gs a b r = Comes doc (on_top fs) (on_top gs) a b r

-- The same in one mode, for all that is open: between statements the rules depend on the mode.
pub record TurnsTo (mode : Mode) (doc : Text) (old : Tables) (o p : Open) (a b : Held) (m : Memory) : Type 0 where
  pub after : Memory
  pub holding : Holding old after b
  pub same : goes mode doc a o m ≡ goes mode doc b p after

pub record Turns (mode : Mode) (doc : Text) (o p : Open) (a b : Held) (r : ℕ) : Type 0 where
  pub same : Same a b
  pub ready : r ≡ 0 → Ready doc b
  pub later : r ≡ 0 → at_in a.st ≤ at_in b.st
  pub on : r ≡ 0 → (old : Tables) (m : Memory) → Holding old m a → TurnsTo mode doc old o p a b m
  pub stop : (r ≡ 0 → ⊥) → (old : Tables) (m : Memory) → Holding old m a → goes mode doc a o m ≡ refused r (at_in b.st)

-- ---- One token

-- The tests of a token which a statement's rule takes; m is the memory that it makes.
abbrev pub token_tests : Room → ℕ → Environment → Token → Memory → List Test
token_tests room depth e t m = escape_tests t ++ iri_tests (awaiting nothing e) t ++ depth_tests depth t ++ room_tests room m

unfoldable pub token_refusal : Room → ℕ → Environment → Token → Memory → ℕ
token_refusal room depth e t m = or_zero (first_refusal (token_tests room depth e t m))

-- What a token leaves that is not refused.
pub record Done (doc : Text) (w : Write ℕ) (a b : Held) : Type 0 where
  pub cursor : Cursor doc b.st
  pub tokens : rest doc (at_in a.st + len_in a.st) ≡ remaining doc b.st
  pub later : at_in a.st < at_in b.st
  pub depth : depth_in b.st ≡ new_depth (depth_in a.st) (here doc a)
  pub spot : (k : ℕ) → list_word ≤ k → get_or b.st k 0 ≡ get_or a.st k 0
  pub holding : (old : Tables) (m : Memory) → Holding old m a → Holding old (w m).1 b

-- At the token of the cursor w was done, and the cursor is behind it; or it was refused.
pub record Does (doc : Text) (w : Write ℕ) (a b : Held) (r : ℕ) : Type 0 where
  pub same : Same a b
  pub refusal : (old : Tables) (m : Memory) → Holding old m a → r ≡ token_refusal (room_in (tables_of a)) (depth_in a.st) m.environment (here doc a) (w m).1
  pub place : (r ≡ 0 → ⊥) → at_in b.st ≡ at_in a.st
  pub done : r ≡ 0 → Done doc w a b

-- The same, and the result of w is in the array.
pub record Gives (doc : Text) (w : Write ℕ) (a b : Held) (r : ℕ) : Type 0 where
  pub does : Does doc w a b r
  pub node : r ≡ 0 → (old : Tables) (m : Memory) → Holding old m a → node_in b.st ≡ (w m).0
  pub small : r ≡ 0 → node_in b.st < word_limit

-- Is this the number of one of these kinds?
abbrev pub code_among : List Kind → ℕ → Bool
code_among [] n = false
code_among (j ∷ js) n = eqb n (kind_code j) || code_among js n

-- Is this the number of a kind whose tokens may hold numeric escapes?
abbrev pub escaped_kind : ℕ → Bool
escaped_kind k = code_among (IRIREF ∷ strings) k

-- The refusal at a place where no rule takes what stands there.
unfoldable pub refusal_here : Text → List ℕ → ℕ
refusal_here doc st =
    cond (eqb (kind_in st) unreadable_kind) 6
    (cond (escaped_kind (kind_in st) && bad_escape (take (len_in st) (drop (at_in st) doc))) 7 8)

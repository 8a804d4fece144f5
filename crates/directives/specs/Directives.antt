-- What the readers of a directive and of its parts say of the machine.
use Rattle.std.specs.Prelude.{◌≡◌, List, [], ◌∷◌, ℕ, ◌-◌, ◌≤◌, ◌<◌, length, take, drop}
use Rattle.std.specs.Borrow.{MutBor}
use Rattle.text.specs.Text.{Text, is, until}
use Rattle.limits.specs.Limits.{prefix_limit}
use Rattle.token.specs.Kind.{Kind, at_prefix, at_base, PREFIX, BASE}
use Rattle.grammar.specs.Productions.{Mode}
use Rattle.environment.specs.Code.{environment_in, Usable}
use Rattle.machine.specs.Frame.{Open, statement}
use Rattle.state.specs.Words.{at_in, depth_in}
use Rattle.state.specs.Cursor.{Cursor}
use Rattle.token_iri.specs.Tests.{Sound}
use Rattle.simulation.specs.Simulation.{held, Ready, Turns}
use Rattle.state.specs.declared.Held.{Held}

-- The kinds that begin a directive.
abbrev pub directive_kinds : List Kind
directive_kinds = at_prefix ∷ at_base ∷ PREFIX ∷ BASE ∷ []

-- What the parts may be called with: the cursor, and what is in force.
pub record Able (doc work : Text) (st : List ℕ) : Type 0 where
  pub cursor : Cursor doc st
  pub usable : Usable work st
  pub sound : Sound (environment_in work st)

-- A prefix that may be declared stands here in the document.
pub record Prefix (doc : Text) (start end : ℕ) : Type 0 where
  pub order : start ≤ end
  pub inside : end ≤ length doc
  pub short : end - start ≤ prefix_limit

-- The token of this place and length begins with a prefix of so many bytes.
pub record Prefixed (doc : Text) (at len n : ℕ) : Type 0 where
  pub is_prefix : until (is ":") (take len (drop at doc)) ≡ take n (drop at doc)
  pub inside : n ≤ len

-- What is open of a directive was read to its end. Rows and terms play no part.
pub record Finishes (doc : Text) (o : Open) (work work' : MutBor (List ℕ)) (st st' : List ℕ) (r : ℕ) : Type 0 where
  pub turns : (mode : Mode) (rows terms store : MutBor (List ℕ)) → Ready doc (held work rows terms store st) → Turns mode doc o (statement []) (held work rows terms store st) (held work' rows terms store st') r
  pub depth : r ≡ 0 → depth_in st' ≡ depth_in st

-- A directive was read.
pub record Directs (doc : Text) (a b : Held) (r : ℕ) : Type 0 where
  pub turns : (mode : Mode) → Turns mode doc (statement []) (statement []) a b r
  pub depth : r ≡ 0 → depth_in b.st ≡ depth_in a.st
  pub later : r ≡ 0 → at_in a.st < at_in b.st

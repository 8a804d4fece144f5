-- What is known between the write of a token's node and the cursor's move behind the token.
use Rattle.std.specs.Prelude.{◌≡◌, List, not, ℕ, eqb, length, get_or}
use Rattle.std.proofs.Math.Option.{some}
use Rattle.text.specs.Text.{Text, cond}
use Rattle.token.specs.Kind.{kind_code, INTEGER, DECIMAL, DOUBLE}
use Rattle.spelling.specs.declared.Form.TheVariants.{Plain}
use Rattle.token.specs.Tokens.{Token}
use Rattle.dataset.specs.Terms.{xsd_integer, xsd_decimal, xsd_double, xsd_boolean}
use Rattle.machine.specs.Memory.{Memory, Write}
use Rattle.machine.specs.Rules.{find_rule}
use Rattle.state.specs.Words.{x_word, y_word, opened_word, last_word, Stays, kind_in, at_in, len_in, depth_in, list_in}
use Rattle.state.specs.Cursor.{token_of}
use Rattle.state.specs.Represents.{Tables, room_in, Represents, Represented, Wrote}
use Rattle.state.specs.Writes.{placed, SpotFits}
use Rattle.state.specs.declared.Spot.{Spot}
use Rattle.state.specs.declared.Node.{Node}
use Rattle.simulation.specs.Simulation.{token_refusal}
use Rattle.nodes.specs.Nodes.{term_rules}

-- Where the array says that the next node belongs.
abbrev pub spot_in : List ℕ → Spot
spot_in st =
    record {
      list = not (eqb (list_in st) 0);
      x = get_or st x_word 0;
      y = get_or st y_word 0;
      opened = get_or st opened_word 0;
      last = get_or st last_word 0;
      at = at_in st;
    }

-- The token at the cursor.
abbrev pub token_in : Text → List ℕ → Token
token_in doc st = token_of doc (kind_in st) (at_in st) (len_in st)

-- w was done at the token, and the cursor stands there still; or the token was refused.
pub record PutsToken (token : Token) (w : Write ℕ) (work work' : Text) (t t' : Tables) (st st' : List ℕ) (r : ℕ) : Type 0 where
  pub refusal : (old : Tables) (m : Memory) → Represents old m work t st → r ≡ token_refusal (room_in t) (depth_in st) m.environment token (w m).1
  pub wrote : r ≡ 0 → Wrote w work work' t t' st st'
  pub stays : Stays st st'
  pub words : length st' ≡ length st

-- The same of the term's token at the cursor: w is its node at its place.
abbrev pub PutsNode : Text → Text → Text → Tables → Tables → List ℕ → List ℕ → ℕ → Type 0
PutsNode doc work work' t t' st st' r = (v : Write ℕ) → find_rule (token_in doc st).kind (term_rules (token_in doc st)) ≡ some v → PutsToken (token_in doc st) (placed (spot_in st) v) work work' t t' st st' r

-- A node without a front, and without escapes.
abbrev pub plain_node : ℕ → Node
plain_node k = record { kind = k; start = 0; end = 0; form = Plain; text = Plain }

-- The datatype of a literal that is no string, by its kind.
abbrev pub datatype_of : ℕ → Text
datatype_of k = cond (eqb k (kind_code INTEGER)) xsd_integer (cond (eqb k (kind_code DECIMAL)) xsd_decimal (cond (eqb k (kind_code DOUBLE)) xsd_double xsd_boolean))

-- What the writers of a term's token are called with.
pub record PutReady (work : Text) (t : Tables) (st : List ℕ) : Type 0 where
  pub holds : Represented work t st
  pub fits : SpotFits (spot_in st)

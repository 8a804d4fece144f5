-- What the readers of statements and graphs say of the machine.
use Rattle.std.specs.Prelude.{◌≡◌, List, [], ◌∷◌, Bool, false, eqb, ℕ, ◌<◌}
use Rattle.std.proofs.Math.Option.{none, some}
use Rattle.text.specs.Text.{Text, cond}
use Rattle.token.specs.Kind.{kind_code, end_kind, open_brace, GRAPH}
use Rattle.grammar.specs.Productions.{Mode}
use Rattle.dataset.specs.Constructors.{nothing}
use Rattle.machine.specs.Memory.{Memory, enter}
use Rattle.machine.specs.Frame.{triples_or_end, Open, statement}
use Rattle.machine.specs.Rules.{find_rule, rules}
use Rattle.machine.specs.Step.{awaited_by, accepted, refused, at_end}
use Rattle.state.specs.Words.{kind_in, at_in, list_in}
use Rattle.state.specs.Cursor.{TokenHere}
use Rattle.state.specs.Represents.{Tables}
use Rattle.simulation.specs.Simulation.{code_among, here, Holding, goes, Same, Turns}
use Rattle.state.specs.declared.Held.{Held}
use Rattle.directives.specs.Directives.{directive_kinds}

-- The triples in braces were read, with the closing one.
abbrev pub Block : Text → Held → Held → ℕ → Type 0
Block doc a b r = (mode : Mode) → Turns mode doc (statement (triples_or_end ∷ [])) (statement []) a b r

-- A graph in braces is awaited: n is its label, or 0.
pub record GraphAt (mode : Mode) (doc : Text) (h : Held) (o : Open) (n : ℕ) : Type 0 where
  pub waits : awaited_by o ≡ nothing
  pub brace : (tied : Bool) → find_rule open_brace (rules (here doc h) tied mode o) ≡ some (λ m. (statement (triples_or_end ∷ []), (enter n m).1))
  pub others : (kind_in h.st ≡ kind_code open_brace → ⊥) → (kind_in h.st ≡ end_kind → ⊥) → TokenHere doc h.st → (tied : Bool) → find_rule (here doc h).kind (rules (here doc h) tied mode o) ≡ none
  pub ended : (kind_in h.st ≡ kind_code open_brace → ⊥) → (n : ℕ) (m : Memory) → at_end o n m ≡ refused 8 n

pub record Graph (doc : Text) (a b : Held) (n r : ℕ) : Type 0 where
  pub turns : (mode : Mode) (o : Open) → GraphAt mode doc a o n → Turns mode doc o (statement []) a b r
  pub later : r ≡ 0 → at_in a.st < at_in b.st

-- A statement, a directive or a graph was read; all of them.
pub record Statement (mode : Mode) (doc : Text) (a b : Held) (r : ℕ) : Type 0 where
  pub turns : Turns mode doc (statement []) (statement []) a b r
  pub later : r ≡ 0 → at_in a.st < at_in b.st

-- A kind that begins triples between statements, or nothing.
pub record Plain (mode k : ℕ) : Type 0 where
  pub no_directive : code_among directive_kinds k ≡ false
  pub no_brace : mode ≡ 0 → k ≡ kind_code open_brace → ⊥
  pub no_graph : mode ≡ 0 → k ≡ kind_code GRAPH → ⊥
  pub some_token : k ≡ end_kind → ⊥

-- Does a graph come behind the subject?
unfoldable pub graph_label_test : List ℕ → ℕ → Bool
graph_label_test st mode = cond (eqb mode 0) (cond (eqb (list_in st) 0) (eqb (kind_in st) (kind_code open_brace)) false) false

pub record ReadsAll (mode : Mode) (doc : Text) (a b : Held) (r : ℕ) : Type 0 where
  pub same : Same a b
  pub on : r ≡ 0 → (old : Tables) (m : Memory) → Holding old m a → (m' : Memory) × (Holding old m' b × (goes mode doc a (statement []) m ≡ accepted m'))
  pub stop : (r ≡ 0 → ⊥) → (old : Tables) (m : Memory) → Holding old m a → goes mode doc a (statement []) m ≡ refused r (at_in b.st)

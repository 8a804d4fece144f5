-- Subjects and what comes behind them: what their readers say of the machine.
use Rattle.std.specs.Prelude.{◌≡◌, List, [], ◌∷◌, ◌++◌, Bool, true, false, ℕ, zero, suc, ◌≤◌, ◌<◌, get_or}
use Rattle.std.proofs.Math.Option.{none}
use Rattle.text.specs.Text.{Text}
use Rattle.token.specs.Kind.{Kind, last_kind, end_kind, kind_of_code, among, iris, BLANK_NODE_LABEL, open_bracket, open_paren}
use Rattle.token.specs.Tokens.{Token}
use Rattle.grammar.specs.Productions.{Mode}
use Rattle.dataset.specs.Constructors.{nothing}
use Rattle.machine.specs.Memory.{Memory}
use Rattle.machine.specs.Frame.{Ending, Place, top, subject_before, object_of, element_of, Frame, Open, statement}
use Rattle.machine.specs.Rules.{find_rule, after_node, after_properties, list_place, subject_rules, frame_rules, above, rules}
use Rattle.machine.specs.Step.{awaited_by, refused, at_end}
use Rattle.state.specs.Words.{x_word, kind_in, at_in, list_in}
use Rattle.state.specs.Cursor.{TokenHere}
use Rattle.simulation.specs.Simulation.{code_among, here, Turns}
use Rattle.state.specs.declared.Held.{Held}
use Rattle.nodes.specs.Nodes.{Verbs, Ends, verb_kinds}
use Rattle.nesting.specs.Nesting.{Listed}
use Rattle.table.specs.Layout.{word_limit}

-- The kinds that begin a subject or a graph's label; a term among them.
abbrev pub label_kinds : List Kind
label_kinds = iris ++ BLANK_NODE_LABEL ∷ []

abbrev pub subject_kinds : List Kind
subject_kinds = label_kinds ++ open_bracket ∷ open_paren ∷ []

-- What is open behind a subject: a term or an empty bracket, a list, a bracket with properties.
abbrev pub after_subject : ℕ → Place → ℕ → List Frame
after_subject zero place n = after_node place n
after_subject (suc zero) place n = after_node (list_place place) n
after_subject (suc (suc k)) place n = after_properties place n

-- A place where a subject may stand: outside braces, or as a subject.
abbrev pub Outer : Place → Type 0
Outer top = Unit {0}
Outer (subject_before e) = Unit {0}
Outer (object_of s p) = ⊥
Outer (element_of c) = ⊥

-- A subject is awaited, at this place.
pub record SubjectAt (mode : Mode) (doc : Text) (h : Held) (o : Open) (place : Place) : Type 0 where
  pub outer : Outer place
  pub waits : awaited_by o ≡ nothing
  pub rules_are : (k : Kind) (tied : Bool) → among subject_kinds k ≡ true → find_rule k (rules (here doc h) tied mode o) ≡ find_rule k (above (here doc h) tied [] (subject_rules (here doc h) tied place))
  pub others : (kind_in h.st ≡ end_kind → ⊥) → TokenHere doc h.st → (tied : Bool) → among subject_kinds (here doc h).kind ≡ false → find_rule (here doc h).kind (rules (here doc h) tied mode o) ≡ none
  pub ended : kind_in h.st ≡ end_kind → (n : ℕ) (m : Memory) → at_end o n m ≡ refused 8 n

-- A subject was read. Its number is in the array, and what it is.
pub record Subject (doc : Text) (a b : Held) (r : ℕ) : Type 0 where
  pub turns : (mode : Mode) (o : Open) (place : Place) → SubjectAt mode doc a o place → Turns mode doc o (statement (after_subject (list_in b.st) place (get_or b.st x_word 0))) a b r
  pub small : r ≡ 0 → get_or b.st x_word 0 < word_limit
  pub positive : r ≡ 0 → 0 < get_or b.st x_word 0
  pub shape : r ≡ 0 → list_in b.st ≤ 2
  pub later : r ≡ 0 → at_in a.st < at_in b.st

-- What may come behind it: its predicates; nothing, where it may stand alone.
pub record Predicates (doc : Text) (a b : Held) (r : ℕ) : Type 0 where
  pub reads : (f : Frame) (e : Ending) → Verbs f (get_or a.st x_word 0) e []
      → (code_among verb_kinds (kind_in a.st) ≡ false → list_in a.st ≡ 2 → Ends f e (kind_in a.st))
      → (code_among verb_kinds (kind_in a.st) ≡ false → (list_in a.st ≡ 2 → ⊥) → (kind_in a.st ≡ end_kind → ⊥) → kind_in a.st ≤ last_kind → (t : Token) (tied : Bool) → find_rule (kind_of_code (kind_in a.st)) (frame_rules t tied f) ≡ none)
      → Listed doc f e [] a b r

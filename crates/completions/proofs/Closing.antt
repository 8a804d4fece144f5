-- Tokens that close what is open, with a new name where something has to be named.
use mathlib.Core.Path.{◌≡◌, refl}
use mathlib.Core.List.{List, [], ◌∷◌, ◌++◌}
use mathlib.Core.Bool.{Bool, true, false}
use mathlib.Core.Option.{some}
use Prim.Native.Nat.{ℕ}
use lib.ListN.{replicate}
use Rattle.text.specs.Text.{Text}
use Rattle.token.specs.Kind.{Kind, dot, close_bracket, close_paren, open_brace, close_brace, carets, IRIREF, PNAME_NS}
use Rattle.token.specs.Tokens.{Token}
use Rattle.grammar.specs.Productions.{Mode}
use Rattle.dataset.specs.Constructors.{prefix}
use Rattle.machine.specs.Memory.{Memory, iri_term, typed_by, row, enter, declare_prefix, declare_base}
use Rattle.machine.specs.Frame.{Ending, full_stop, brace, bracket_end, Place, element_of, Cells, Frame, graph_label, closing_label, graph_body, label_or_subject, triples_or_end, verb, verb_or_end, object, after_object, after_semicolon, bracket, list, suffix, datatype, prefix_name, namespace_of, new_base, last_dot, directive, statement}
use Rattle.machine.specs.Rules.{rules, hold, new_cell, extended, end_list, after_node}
use Rattle.machine.proofs.Agreement.{final, at_finish, taken}

abbrev pub mark : Kind → Token
mark k = record { kind = k; start = 0; text = [] }

-- A name that is longer than others.
abbrev pub long_name : ℕ → Text
long_name v = 120 ∷ 58 ∷ replicate v 97

abbrev pub name : ℕ → Token
name v = record { kind = IRIREF; start = v; text = 60 ∷ (long_name v ++ 62 ∷ []) }

-- ---- Ends of statements

abbrev pub ender : Ending → Token
ender full_stop = mark dot
ender brace = mark close_brace
ender bracket_end = mark close_bracket

abbrev pub ended : Ending → Memory → Memory
ended full_stop m = m
ended brace m = (enter 0 m).1
ended bracket_end m = m

module _ (mode : Mode) (K : List Frame) (us : List Token) where
  abbrev Comes : Frame → List Token → Memory → Memory → Type 0
  Comes f ts m m' = final mode (ts ++ us) (statement (f ∷ K)) m ≡ final mode us (statement K) m'

  pub close_optional : (s : ℕ) (e : Ending) (m : Memory) → Comes (verb_or_end s e) (ender e ∷ []) m (ended e m)
  unfolding final taken rules
  close_optional s full_stop m = refl
  close_optional s brace m = refl
  close_optional s bracket_end m = refl

  pub close_object : (s p : ℕ) (e : Ending) (m : Memory) → Comes (after_object s p e) (ender e ∷ []) m (ended e m)
  unfolding final taken rules
  close_object s p full_stop m = refl
  close_object s p brace m = refl
  close_object s p bracket_end m = refl

  pub close_semicolon : (s : ℕ) (e : Ending) (m : Memory) → Comes (after_semicolon s e) (ender e ∷ []) m (ended e m)
  unfolding final taken rules
  close_semicolon s full_stop m = refl
  close_semicolon s brace m = refl
  close_semicolon s bracket_end m = refl

  abbrev braced : ℕ → Memory → Memory
  braced g m = (enter 0 (enter g m).1).1

  pub close_body : (g : ℕ) (m : Memory) → Comes (graph_body g) (mark open_brace ∷ mark close_brace ∷ []) m (braced g m)
  unfolding final taken rules
  close_body g m = refl

  pub close_label : (g : ℕ) (m : Memory) → Comes (label_or_subject g) (mark open_brace ∷ mark close_brace ∷ []) m (braced g m)
  unfolding final taken rules
  close_label g m = refl

  pub close_closing : (g : ℕ) (m : Memory) → Comes (closing_label g) (mark close_bracket ∷ mark open_brace ∷ mark close_brace ∷ []) m (braced g m)
  unfolding final taken rules
  close_closing g m = refl

  pub close_triples : (m : Memory) → Comes triples_or_end (mark close_brace ∷ []) m (enter 0 m).1
  unfolding final taken rules
  close_triples m = refl

  module _ (v : ℕ) where
    abbrev named : Memory → ℕ × Memory
    named m = iri_term (name v) m

    pub close_graph : (m : Memory) → Comes graph_label (name v ∷ mark open_brace ∷ mark close_brace ∷ []) m (braced (named m).0 (named m).1)
    unfolding final taken rules
    close_graph m = refl

    -- An object.
    abbrev held_at : ℕ → ℕ → Memory → Memory
    held_at s p m = (row s p (named m).0 v (named m).1).1

    pub close_node : (s p : ℕ) (e : Ending) (m : Memory) → Comes (object s p e) (name v ∷ ender e ∷ []) m (ended e (held_at s p m))
    unfolding final taken rules
    close_node s p full_stop m = refl
    close_node s p brace m = refl
    close_node s p bracket_end m = refl

    pub close_verb : (s : ℕ) (e : Ending) (m : Memory) → Comes (verb s e) (name v ∷ name v ∷ ender e ∷ []) m (ended e (held_at s (named m).0 (named m).1))
    unfolding final taken rules
    close_verb s full_stop m = refl
    close_verb s brace m = refl
    close_verb s bracket_end m = refl

    -- A datatype.
    abbrev typed_at : Place → ℕ → Text → Memory → Memory
    typed_at q at s m = let r = typed_by s (name v) m in (hold q r.0 at r.1).1

    pub close_type : (q : Place) (at : ℕ) (s : Text) (m : Memory) → Comes (datatype q at s) (name v ∷ []) m (typed_at q at s m)
    unfolding final taken rules
    close_type q at s m = refl

    -- A string's tie: ^^ and a datatype.
    pub close_suffix : (q : Place) (at : ℕ) (s : Text) (m : Memory) → Comes (suffix q at s) (mark carets ∷ name v ∷ []) m (typed_at q at s m)
    unfolding final taken rules
    close_suffix q at s m = refl

    -- A list: one element more, and its end.
    abbrev celled : Place → ℕ → Cells → Memory → ℕ × Memory
    celled q at cs m = new_cell q at cs v m

    abbrev filled : ℕ × Memory → Memory
    filled r = (hold (element_of r.0) (named r.1).0 v (named r.1).1).1

    abbrev listed : Place → ℕ → Cells → Memory → ℕ × Memory
    listed q at cs m = end_list q at (extended cs (celled q at cs m).0) 0 (filled (celled q at cs m))

    pub close_list : (q : Place) (at : ℕ) (cs : Cells) (m : Memory)
        → final mode (name v ∷ mark close_paren ∷ us) (statement (list q at cs ∷ K)) m ≡ final mode us (statement (after_node q (listed q at cs m).0 ++ K)) (listed q at cs m).1
    unfolding final taken rules
    close_list q at cs m = refl

  pub close_brackets : (q : Place) (n : ℕ) (m : Memory) → final mode (mark close_bracket ∷ us) (statement (bracket q n ∷ K)) m ≡ final mode us (statement (after_node q n ++ K)) m
  unfolding final taken rules
  close_brackets q n m = refl

-- ---- Directives

module _ (mode : Mode) (m : Memory) where
  pub last : Bool → List Token
  last true = mark dot ∷ []
  last false = []

  pub close_last : final mode (mark dot ∷ []) (directive last_dot) m ≡ some m
  unfolding final taken rules at_finish
  close_last = refl

  pub close_base : (b : Bool) → final mode (name 0 ∷ last b) (directive (new_base b)) m ≡ some (declare_base (name 0) m).1
  unfolding final taken rules at_finish last
  close_base true = refl
  close_base false = refl

  pub close_namespace : (p : Text) (b : Bool) → final mode (name 0 ∷ last b) (directive (namespace_of p b)) m ≡ some (declare_prefix p (name 0) m).1
  unfolding final taken rules at_finish last
  close_namespace p true = refl
  close_namespace p false = refl

  pub close_prefix : (b : Bool) → final mode (mark PNAME_NS ∷ name 0 ∷ last b) (directive (prefix_name b)) m ≡ some (declare_prefix (prefix (mark PNAME_NS)) (name 0) m).1
  unfolding final taken rules at_finish last
  close_prefix true = refl
  close_prefix false = refl

-- What each frame stands for in the grammar: the stacks of expressions that are still to be read.
use mathlib.Core.List.{List, [], ◌∷◌, ◌++◌, map}
use mathlib.Core.Bool.{Bool, true, false}
use mathlib.Core.Option.{Option, none, some}
use Prim.Native.Nat.{ℕ, zero, suc}
use lib.Dec.{eqb}
use Rattle.grammar.specs.Ebnf.{Expr, tok, nt, ◌⨾◌, ◌∣◌, star, opt}
use Rattle.grammar.proofs.Recogniser.{Stack, step}
use Rattle.token.proofs.KindCodes.{same}
use Rattle.token.specs.Kind.{Kind, dot, comma, semicolon, close_brace, close_bracket, close_paren, IRIREF, PNAME_NS, LANGTAG, carets}
use Rattle.grammar.specs.Productions.{Nonterminal, Mode, trig, turtle, production, directive as directive_nt, block, statement as statement_nt, labelOrSubject, wrappedGraph, predicateObjectList, triplesBlock, verb as verb_nt, objectList, object as object_nt, iri}
use Rattle.grammar.proofs.Nonterminals.{nonterminal_code}
use Rattle.grammar.proofs.Onto.{onto}
use Rattle.grammar.proofs.Modes.{levels}
use Rattle.text.specs.Text.{cond}
use Rattle.machine.specs.Memory.{Memory, Write}
use Rattle.machine.specs.Frame.{Ending, full_stop, brace, bracket_end, Place, top, subject_before, object_of, element_of, Frame, graph_label, closing_label, graph_body, label_or_subject, triples_or_end, verb, verb_or_end, object, after_object, after_semicolon, bracket, list, suffix, datatype, Directive, prefix_name, namespace_of, new_base, last_dot, Open, directive, statement}

abbrev pub E : Type 0
E = Expr Kind Nonterminal

abbrev pub S : Type 0
S = Stack Kind Nonterminal

-- ---- Frames as stacks

abbrev more_objects : E
more_objects = star (tok comma ⨾ nt object_nt)

abbrev more_verbs : E
more_verbs = star (tok semicolon ⨾ opt (nt verb_nt ⨾ nt objectList))

-- predicateObjectList, opened.
abbrev properties : S
properties = nt verb_nt ∷ nt object_nt ∷ more_objects ∷ more_verbs ∷ []

abbrev ending : Ending → S
ending full_stop = tok dot ∷ []
ending brace = opt (tok dot ⨾ opt (nt triplesBlock)) ∷ tok close_brace ∷ []
ending bracket_end = tok close_bracket ∷ []

-- What follows a node at its place, and a bracket with properties.
abbrev past_node : Place → S
past_node top = (nt wrappedGraph ∣ nt predicateObjectList ⨾ tok dot) ∷ []
past_node (subject_before e) = properties ++ ending e
past_node (object_of s p) = []
past_node (element_of c) = []

abbrev past_properties : Place → S
past_properties top = opt (nt predicateObjectList) ∷ tok dot ∷ []
past_properties (subject_before e) = opt (nt predicateObjectList) ∷ ending e
past_properties (object_of s p) = []
past_properties (element_of c) = []

-- Behind [ stand two: the bracket is empty, or it has properties.
abbrev pub stands : Frame → List S
stands graph_label = (nt labelOrSubject ∷ nt wrappedGraph ∷ []) ∷ []
stands (closing_label g) = (tok close_bracket ∷ nt wrappedGraph ∷ []) ∷ []
stands (graph_body g) = (nt wrappedGraph ∷ []) ∷ []
stands (label_or_subject n) = ((nt wrappedGraph ∣ nt predicateObjectList ⨾ tok dot) ∷ []) ∷ []
stands triples_or_end = (opt (nt triplesBlock) ∷ tok close_brace ∷ []) ∷ []
stands (verb s e) = (properties ++ ending e) ∷ []
stands (verb_or_end s e) = (opt (nt predicateObjectList) ∷ ending e) ∷ []
stands (object s p e) = (nt object_nt ∷ more_objects ∷ more_verbs ∷ ending e) ∷ []
stands (after_object s p e) = (more_objects ∷ more_verbs ∷ ending e) ∷ []
stands (after_semicolon s e) = (opt (nt verb_nt ⨾ nt objectList) ∷ more_verbs ∷ ending e) ∷ []
stands (bracket place n) = (tok close_bracket ∷ past_node place) ∷ (properties ++ tok close_bracket ∷ past_properties place) ∷ []
stands (list place at cs) = (star (nt object_nt) ∷ tok close_paren ∷ past_node place) ∷ []
stands (suffix place at s) = ((tok LANGTAG ∣ tok carets ⨾ nt iri) ∷ []) ∷ []
stands (datatype place at s) = (nt iri ∷ []) ∷ []

-- Each stack of A with each of B below it.
abbrev pub beneath : {A : Type 0} → List (List A) → List (List A) → List (List A)
beneath A [] = []
beneath A (R ∷ B) = onto R A ++ beneath A B

abbrev pub stands_list : List Frame → List S
stands_list [] = [] ∷ []
stands_list (f ∷ k) = beneath (stands f) (stands_list k)

-- What is read again and again at the bottom.
abbrev pub bottom : Mode → S
bottom trig = star (nt directive_nt ∣ nt block) ∷ []
bottom turtle = star (nt statement_nt) ∷ []

abbrev pub stands_frames : Mode → List Frame → List S
stands_frames mode [] = bottom mode ∷ []
stands_frames mode (f ∷ k) = beneath (stands f) (stands_frames mode k)

abbrev last_mark : Bool → S
last_mark true = tok dot ∷ []
last_mark false = []

abbrev in_directive : Directive → S
in_directive (prefix_name d) = tok PNAME_NS ∷ tok IRIREF ∷ last_mark d
in_directive (namespace_of p d) = tok IRIREF ∷ last_mark d
in_directive (new_base d) = tok IRIREF ∷ last_mark d
in_directive last_dot = tok dot ∷ []

abbrev pub stands_open : Mode → Open → List S
stands_open mode (directive d) = (in_directive d ++ bottom mode) ∷ []
stands_open mode (statement k) = stands_frames mode k

-- ---- The same stacks in one form: sequences and the nonterminals predicateObjectList and objectList taken apart

module _ (mode : Mode) where
  abbrev pub flatE : (Nonterminal → S → S) → E → S → S
  flatE h (tok k) R = tok k ∷ R
  flatE h (nt n) R = h n R
  flatE h (e ⨾ f) R = flatE h e (flatE h f R)
  flatE h (e ∣ f) R = (e ∣ f) ∷ R
  flatE h (star e) R = star e ∷ R
  flatE h (opt e) R = opt e ∷ R

  abbrev pub is_open : Nonterminal → Bool
  is_open n = cond (eqb (nonterminal_code n) (nonterminal_code predicateObjectList)) true (eqb (nonterminal_code n) (nonterminal_code objectList))

  abbrev pub flatN : ℕ → Nonterminal → S → S
  flatN zero n R = nt n ∷ R
  flatN (suc d) n R = cond (is_open n) (flatE (flatN d) (production mode n) R) (nt n ∷ R)

  abbrev pub flat_on : S → S → S
  flat_on [] R = R
  flat_on (e ∷ Q) R = flatE (flatN 2) e (flat_on Q R)

  abbrev pub flat : S → S
  flat Q = flat_on Q []

-- The tag or type of a string is there if the next token says so. (No other optional part of these stacks is an alternative.)
abbrev pub decide : Bool → S → S
decide tied [] = []
decide tied (tok k ∷ R) = tok k ∷ R
decide tied (nt n ∷ R) = nt n ∷ R
decide tied ((e ⨾ f) ∷ R) = (e ⨾ f) ∷ R
decide tied ((e ∣ f) ∷ R) = (e ∣ f) ∷ R
decide tied (star e ∷ R) = star e ∷ R
decide tied (opt (tok k) ∷ R) = opt (tok k) ∷ R
decide tied (opt (nt n) ∷ R) = opt (nt n) ∷ R
decide tied (opt (e ⨾ f) ∷ R) = opt (e ⨾ f) ∷ R
decide true (opt (e ∣ f) ∷ R) = (e ∣ f) ∷ R
decide false (opt (e ∣ f) ∷ R) = R
decide tied (opt (star e) ∷ R) = opt (star e) ∷ R
decide tied (opt (opt e) ∷ R) = opt (opt e) ∷ R

-- ---- The two moves

abbrev pub unless_none : {A : Type 0} → List A → Option (List A)
unless_none [] = none
unless_none (x ∷ xs) = some (x ∷ xs)

-- The grammar's, from some stacks at a token of kind k.
unfoldable pub grammar_move : Mode → Bool → List S → Kind → Option (List S)
grammar_move mode tied A k = unless_none (map (flat mode) (map (decide tied) (step same (production mode) levels A k)))

-- The machine's, by the rule that it found.
unfoldable pub frames_move : Option (Write (List Frame)) → Memory → Option (List S)
frames_move none m = none
frames_move (some w) m = some (stands_list (w m).0)

unfoldable pub open_move : Mode → Option (Write Open) → Memory → Option (List S)
open_move mode none m = none
open_move mode (some w) m = some (stands_open mode (w m).0)

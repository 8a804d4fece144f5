-- The rules of subjects.
use mathlib.Core.Path.{◌≡◌, refl, sym, ◌∙◌, subst}
use mathlib.Core.List.{List, [], ◌∷◌, ◌++◌}
use mathlib.Core.Bool.{Bool, true, false}
use mathlib.Core.Option.{none, some}
use Prim.Native.Nat.{ℕ, ◌+◌, ◌<◌}
use lib.Dec.{T}
use lib.ListN.{get_or}
use Rattle.text.specs.Text.{Text}
use Rattle.text.proofs.Booleans.{imp, imp_use, all, is_true}
use Rattle.token.specs.Kind.{Kind, kind_code, kinds, among, iris, INTEGER, DECIMAL, DOUBLE, kw_a, kw_true, kw_false, BLANK_NODE_LABEL, open_bracket, open_paren}
use Rattle.token.specs.Tokens.{Token}
use Rattle.token.proofs.KindCodes.{each_kind, all_kinds}
use Rattle.machine.specs.Memory.{Write, return, ◌>>=◌, term, typed, iri_term}
use Rattle.dataset.specs.Terms.{iri, rdf_type, xsd_integer, xsd_decimal, xsd_double, xsd_boolean}
use Rattle.machine.specs.Frame.{Place, top, subject_before, object_of, element_of, bracket, list, no_cell, Open, statement}
use Rattle.machine.specs.Rules.{Rule, ◌⇒◌, find_rule, after_node, after_properties, list_place, label_term, bracket_term, subject_rules, above, rules}
use Rattle.simulation.proofs.Tests.{kinds_of, among_any}
use Rattle.simulation.proofs.Frames.{found_above}
use Rattle.nodes.specs.Nodes.{term_rules, term_kinds}
use Rattle.nodes.proofs.Slots.{found_made, found_front}
use Rattle.grammar.specs.Productions.{Mode}
use Rattle.simulation.specs.Simulation.{held, here}
use Rattle.state.specs.declared.Held.{Held}
use Rattle.machine.specs.Refusals.{new_depth}
use Rattle.state.specs.Words.{kind_word, at_word, len_word, list_word, kind_in, depth_in}
use Rattle.nodes.proofs.Moving.{token_words}
use denote.Ref.{MutBor}
use native.Mathlib.Omega.{arith}
use Rattle.subjects.specs.Subjects.{label_kinds, subject_kinds, Outer, SubjectAt}

-- One list of kinds within another.
within : (p q : Kind → Bool) → T (all (λ j. imp (p j) (q j)) kinds) → (k : Kind) → p k ≡ true → q k ≡ true
within p q t k e = is_true (q k) (imp_use (p k) (q k) (all_kinds (λ j. imp (p j) (q j)) t k) (subst T (sym e) tt))

pub label_subject : (k : Kind) → among label_kinds k ≡ true → among subject_kinds k ≡ true
unfolding all
label_subject k e = within (among label_kinds) (among subject_kinds) tt k e

pub label_term_kind : (k : Kind) → among label_kinds k ≡ true → among (kw_a ∷ term_kinds) k ≡ true
unfolding all
label_term_kind k e = within (among label_kinds) (among (kw_a ∷ term_kinds)) tt k e

-- Behind an outer place there is one frame.
pub node_nil : (place : Place) → Outer place → (n : ℕ) → after_node place n ++ [] ≡ after_node place n
node_nil top o n = refl
node_nil (subject_before e) o n = refl
node_nil (object_of s p) o n = absurd o
node_nil (element_of c) o n = absurd o

pub properties_nil : (place : Place) → Outer place → (n : ℕ) → after_properties place n ++ [] ≡ after_properties place n
properties_nil top o n = refl
properties_nil (subject_before e) o n = refl
properties_nil (object_of s p) o n = absurd o
properties_nil (element_of c) o n = absurd o

pub list_outer : (place : Place) → Outer place → Outer (list_place place)
list_outer top o = tt
list_outer (subject_before e) o = tt
list_outer (object_of s p) o = absurd o
list_outer (element_of c) o = absurd o

-- The rule of a term as subject.
module _ (t : Token) (tied : Bool) (place : Place) (k : Kind) (h : among label_kinds k ≡ true) where
  abbrev two : List (Rule ℕ)
  two = (iris ⇒ iri_term t) ∷ (BLANK_NODE_LABEL ∷ [] ⇒ label_term t false) ∷ []

  two_kinds : among_any (kinds_of two) k ≡ true
  two_kinds = each_kind (among_any (kinds_of two)) (among label_kinds) refl k ∙ h

  pub term_above : (v : Write ℕ) → find_rule k (term_rules t) ≡ some v
      → find_rule k (above t tied [] (subject_rules t tied place)) ≡ some ((v >>= λ n. return (after_node place n)) >>= λ fs. return (statement (fs ++ [])))
  term_above v e =
      found_above t tied [] k (subject_rules t tied place) (v >>= λ n. return (after_node place n))
      (found_made (λ w. (w >>= λ n. return (after_node place n))) k two
      ((open_bracket ∷ [] ⇒ (bracket_term t tied >>= λ n. return (bracket place n ∷ []))) ∷ (open_paren ∷ [] ⇒ return (list (list_place place) t.start no_cell ∷ [])) ∷ []) v
      (found_front k two
      ((INTEGER ∷ [] ⇒ typed t.text xsd_integer) ∷ (DECIMAL ∷ [] ⇒ typed t.text xsd_decimal) ∷ (DOUBLE ∷ [] ⇒ typed t.text xsd_double)
      ∷ (kw_true ∷ kw_false ∷ [] ⇒ typed t.text xsd_boolean) ∷ (kw_a ∷ [] ⇒ term (iri rdf_type)) ∷ []) v two_kinds e))

-- Where the next node belongs does not matter to what is awaited.
pub subject_aimed : (mode : Mode) (doc : Text) (work rows terms store : MutBor (List ℕ)) (st st' : List ℕ) → ((k : ℕ) → k < list_word → get_or st' k 0 ≡ get_or st k 0) → (o : Open) (place : Place) → SubjectAt mode doc (held work rows terms store st) o place → SubjectAt mode doc (held work rows terms store st') o place
subject_aimed mode doc work rows terms store st st' same o place s =
    let e71 = same kind_word (omega arith) in
    let e : here doc (held work rows terms store st') ≡ here doc (held work rows terms store st) = rw (e71, same at_word (omega arith), same len_word (omega arith)) in
    record {
      outer = s.outer;
      waits = s.waits;
      rules_are = λ k tied h. subst (λ (t : Token). find_rule k (rules t tied mode o) ≡ find_rule k (above t tied [] (subject_rules t tied place))) (sym e) (s.rules_are k tied h);
      others = λ z t tied h.
          subst (λ (t : Token). find_rule t.kind (rules t tied mode o) ≡ none) (sym e)
          (s.others (λ y. z (e71 ∙ y)) (token_words doc st' st (λ k x y. sym (same k (omega arith))) t) tied (subst (λ (t : Token). among subject_kinds t.kind ≡ false) e h));
      ended = λ z n m. s.ended (sym e71 ∙ z) n m;
    }

-- A bracket opens one level more.
pub deeper : (doc : Text) (a : Held) → kind_in a.st ≡ kind_code open_bracket → new_depth (depth_in a.st) (here doc a) ≡ depth_in a.st + 1
unfolding new_depth
deeper doc a k = rw k

pub deeper_list : (doc : Text) (a : Held) → kind_in a.st ≡ kind_code open_paren → new_depth (depth_in a.st) (here doc a) ≡ depth_in a.st + 1
unfolding new_depth
deeper_list doc a k = rw k

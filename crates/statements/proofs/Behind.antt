-- Behind a subject: what is open there, and its predicates.
use mathlib.Core.Path.{◌≡◌, refl, ◌∙◌, subst}
use mathlib.Core.List.{List, [], ◌∷◌, ◌++◌}
use mathlib.Core.Bool.{Bool, false}
use mathlib.Core.Option.{none}
use Prim.Native.Nat.{ℕ, zero, suc, ◌≤◌, ◌<◌}
use native.Mathlib.Omega.{arith}
use borrow.Author.Tests.{ne_eqb}
use lib.ListN.{get_or}
use Rattle.text.specs.Text.{Text}
use Rattle.text.proofs.Compare.{by, contrary}
use Rattle.token.specs.Kind.{Kind, kind_code, last_kind, end_kind, kind_of_code, among, open_brace}
use Rattle.token.specs.Tokens.{Token}
use Rattle.token.proofs.KindCodes.{each_kind}
use Rattle.grammar.specs.Productions.{Mode}
use Rattle.machine.specs.Frame.{Ending, full_stop, Place, top, subject_before, object_of, element_of, Frame, label_or_subject, verb, verb_or_end, object, Open, statement}
use Rattle.machine.specs.Rules.{Rule, ◌⇒◌, find_rule, end_rules, verb_rules, frame_rules}
use Rattle.state.specs.Words.{x_word, kind_in, at_in, list_in}
use Rattle.simulation.specs.Simulation.{code_among, Ready, Turns, on_top}
use Rattle.state.specs.declared.Held.{Held}
use Rattle.simulation.proofs.Tests.{kinds_of, among_any, among_code}
use Rattle.simulation.proofs.Turning.{turns_comes, turns_then}
use Rattle.nodes.specs.Nodes.{Ends, verb_kinds}
use Rattle.nodes.proofs.Predicates.{verbs_verb, verbs_or_end, verbs_label, no_verb}
use Rattle.nesting.specs.Nesting.{Listed}
use Rattle.subjects.specs.Subjects.{Outer, after_subject, SubjectAt, Subject, Predicates}
use Rattle.table.specs.Layout.{word_limit}

-- The frame that is open behind a subject, and how its predicates end.
abbrev pub behind : ℕ → Place → ℕ → Frame
behind zero top n = label_or_subject n
behind (suc zero) top n = verb n full_stop
behind (suc (suc k)) top n = verb_or_end n full_stop
behind zero (subject_before e) n = verb n e
behind (suc zero) (subject_before e) n = verb n e
behind (suc (suc k)) (subject_before e) n = verb_or_end n e
behind l (object_of s p) n = label_or_subject n
behind l (element_of c) n = label_or_subject n

abbrev pub ending : Place → Ending
ending top = full_stop
ending (subject_before e) = e
ending (object_of s p) = full_stop
ending (element_of c) = full_stop

pub behind_is : (l : ℕ) (place : Place) (n : ℕ) → Outer place → after_subject l place n ≡ behind l place n ∷ []
behind_is zero top n o = refl
behind_is (suc zero) top n o = refl
behind_is (suc (suc k)) top n o = refl
behind_is zero (subject_before e) n o = refl
behind_is (suc zero) (subject_before e) n o = refl
behind_is (suc (suc k)) (subject_before e) n o = refl
behind_is l (object_of s p) n o = absurd o
behind_is l (element_of c) n o = absurd o

-- Rules in front of others, none of them for this kind.
front_none : {A : Type 0} (k : Kind) (rs qs : List (Rule A)) → among_any (kinds_of rs) k ≡ false → find_rule k (rs ++ qs) ≡ find_rule k qs
front_none k [] qs h = refl
front_none k ((ks ⇒ w) ∷ rs) qs h = by (among ks k) (λ p. contrary (rw p at h)) (λ p. rw p (front_none k rs qs (rw p at h)))

ends_or_end : (s : ℕ) (e : Ending) (k : ℕ) → code_among verb_kinds k ≡ false → Ends (verb_or_end s e) e k
ends_or_end s e k v z h t tied =
    front_none (kind_of_code k) (verb_rules t tied (λ p. object s p e ∷ [])) (end_rules t tied e)
    (each_kind (among_any (kinds_of (verb_rules t tied (λ p. object s p e ∷ [])))) (among verb_kinds) refl (kind_of_code k) ∙ (among_code verb_kinds k z h ∙ v))

none_label : (n k : ℕ) → (k ≡ kind_code open_brace → ⊥) → (k ≡ end_kind → ⊥) → k ≤ last_kind → code_among verb_kinds k ≡ false → (t : Token) (tied : Bool) → find_rule (kind_of_code k) (frame_rules t tied (label_or_subject n)) ≡ none
none_label n k y z h v t tied = rw (among_code (open_brace ∷ []) k z h, ne_eqb k (kind_code open_brace) y) (no_verb t tied (λ p. object n p full_stop ∷ []) k z h v)

-- No graph may come here.
abbrev pub NoGraph : Place → ℕ → ℕ → Type 0
NoGraph top zero k = k ≡ kind_code open_brace → ⊥
NoGraph top (suc l) k = Unit {0}
NoGraph (subject_before e) l k = Unit {0}
NoGraph (object_of s p) l k = Unit {0}
NoGraph (element_of c) l k = Unit {0}

pub no_graph : (l k : ℕ) → (l ≡ 0 → k ≡ kind_code open_brace → ⊥) → NoGraph top l k
no_graph zero k h = h refl
no_graph (suc l) k h = tt

module _ (doc : Text) (a b : Held) (r : ℕ) (P : Predicates doc a b r) where
  abbrev n : ℕ
  n = get_or a.st x_word 0

  abbrev k : ℕ
  k = kind_in a.st

  listed_verb : (e : Ending) → (list_in a.st ≡ 2 → ⊥) → Listed doc (verb n e) e [] a b r
  listed_verb e l = P.reads (verb n e) e (verbs_verb n e) (λ v x. absurd (l x)) (λ v x z h t tied. no_verb t tied (λ p. object n p e ∷ []) k z h v)

  listed_or_end : (e : Ending) → list_in a.st ≡ 2 → Listed doc (verb_or_end n e) e [] a b r
  listed_or_end e l = P.reads (verb_or_end n e) e (verbs_or_end n e) (λ v x. ends_or_end n e k v) (λ v x. absurd (x l))

  listed_label : list_in a.st ≡ 0 → (k ≡ kind_code open_brace → ⊥) → Listed doc (label_or_subject n) full_stop [] a b r
  listed_label l y = P.reads (label_or_subject n) full_stop (verbs_label n) (λ v x. absurd (omega arith)) (λ v x z h t tied. none_label n k y z h v t tied)

  pub behind_listed : (l : ℕ) (place : Place) → list_in a.st ≡ l → l ≤ 2 → Outer place → NoGraph place l k → Listed doc (behind l place n) (ending place) [] a b r
  behind_listed zero top e h o y = listed_label e y
  behind_listed (suc zero) top e h o y = listed_verb full_stop (λ x. omega arith)
  behind_listed (suc (suc j)) top e h o y = listed_or_end full_stop (omega arith)
  behind_listed zero (subject_before x) e h o y = listed_verb x (λ x. omega arith)
  behind_listed (suc zero) (subject_before x) e h o y = listed_verb x (λ x. omega arith)
  behind_listed (suc (suc j)) (subject_before x) e h o y = listed_or_end x (omega arith)
  behind_listed l (object_of s p) e h o y = absurd o
  behind_listed l (element_of c) e h o y = absurd o

-- The predicates of a subject were read, or it stands alone.
pub record Behind (mode : Mode) (doc : Text) (o : Open) (e : Ending) (a b : Held) (r : ℕ) : Type 0 where
  pub frame : Frame
  pub turns : Turns mode doc o (statement (frame ∷ [])) a b r
  pub ends : r ≡ 0 → Ends frame e (kind_in b.st)
  pub later : r ≡ 0 → at_in a.st < at_in b.st

module _ (mode : Mode) (doc : Text) (o : Open) (place : Place) (a b : Held) (at : SubjectAt mode doc a o place) (S : Subject doc a b 0) where
  subject_turns : Turns mode doc o (statement (behind (list_in b.st) place (get_or b.st x_word 0) ∷ [])) a b 0
  subject_turns = subst (λ (x : List Frame). Turns mode doc o (statement x) a b 0) (behind_is (list_in b.st) place (get_or b.st x_word 0) at.outer) (S.turns mode o place at)

  pub behind_subject : (d : Held) (r : ℕ) → Predicates doc b d r → NoGraph place (list_in b.st) (kind_in b.st) → Behind mode doc o (ending place) a d r
  behind_subject d r P y =
      let f = behind (list_in b.st) place (get_or b.st x_word 0) in
      let L = behind_listed doc b d r P (list_in b.st) place refl (S.shape refl) at.outer y in
      record {
        frame = L.open_frame;
        turns = turns_then mode doc o (statement (f ∷ [])) (statement (L.open_frame ∷ [])) a b d 0 r subject_turns refl (turns_comes mode doc (on_top (f ∷ [])) (on_top (L.open_frame ∷ [])) b d r L.reads []);
        ends = L.ends;
        later = λ z. omega (arith, S.later refl, L.reads.later z);
      }

  pub subject_ready : (Ready doc b × (get_or b.st x_word 0 < word_limit)) × (0 < get_or b.st x_word 0)
  subject_ready = (((S.turns mode o place at).ready refl, S.small refl), S.positive refl)

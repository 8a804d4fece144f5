-- The triples in braces.
use mathlib.Core.Path.{◌≡◌, refl, ◌∙◌, subst}
use mathlib.Core.List.{List, [], ◌∷◌, ◌++◌}
use mathlib.Core.Bool.{Bool, false}
use mathlib.Core.Option.{none, some}
use Prim.Native.Nat.{ℕ, ◌-◌, ◌≤◌, ◌<◌}
use native.Mathlib.Omega.{arith}
use borrow.Author.Tests.{ne_eqb}
use lib.Dec.{T}
use lib.ListN.{length, get_or}
use denote.Ref.{MutBor}
use Rattle.text.specs.Text.{Text}
use Rattle.text.proofs.Booleans.{all}
use Rattle.token.specs.Kind.{Kind, kind_code, last_kind, end_kind, kind_of_code, among, dot, close_brace}
use Rattle.token.specs.Tokens.{Token}
use Rattle.token.proofs.KindCodes.{each_kind}
use Rattle.grammar.specs.Productions.{Mode, trig}
use Rattle.machine.specs.Memory.{Write, return, ◌>>=◌, enter}
use Rattle.machine.specs.Frame.{Ending, brace, Place, subject_before, Frame, triples_or_end, Open, statement}
use Rattle.machine.specs.Rules.{find_rule, subject_rules, end_rules, frame_rules, rules}
use Rattle.state.specs.Words.{x_word, kind_in, at_in, depth_in, graph_in}
use Rattle.simulation.specs.Simulation.{held, here, Ready, Turns, refusal_here}
use Rattle.state.specs.declared.Held.{Held}
use Rattle.simulation.proofs.Tests.{kinds_of, among_any, among_code, no_rule}
use Rattle.simulation.proofs.Frames.{found_above, none_above}
use Rattle.simulation.proofs.Turning.{turns_here, turns_then, turns_stop, turns_none}
use Rattle.nodes.specs.Nodes.{Passed, Ends}
use Rattle.nesting.proofs.Aiming.{less_left}
use Rattle.subjects.specs.Subjects.{subject_kinds, SubjectAt, Subject, Predicates}
use Rattle.statements.specs.Statements.{Block}
use Rattle.statements.proofs.OfMarks.{apart, dot_mark, close_mark, mark_enters, mark_passes}
use Rattle.statements.proofs.Behind.{Behind, behind_subject, subject_ready}
use Rattle.table.specs.Layout.{word_limit}

abbrev pub inner : Open
inner = statement (triples_or_end ∷ [])

-- Some triples were read.
pub record BlockInv (doc : Text) (a b : Held) : Type 0 where
  pub ready : Ready doc b
  pub turns : (mode : Mode) → Turns mode doc inner inner a b 0

pub block_start : (doc : Text) (a : Held) → Ready doc a → BlockInv doc a a
block_start doc a r = record { ready = r; turns = λ mode. turns_here mode doc inner a r }

-- The kinds that a subject's rules are for.
pub no_subject : (t : Token) (tied : Bool) (place : Place) (k : Kind) → among subject_kinds k ≡ false → find_rule k (subject_rules t tied place) ≡ none
no_subject t tied place k e = no_rule (subject_rules t tied place) k (each_kind (among_any (kinds_of (subject_rules t tied place))) (among subject_kinds) refl k ∙ e)

-- A subject is awaited in braces.
pub subject_inner : (mode : Mode) (doc : Text) (a : Held) → (kind_in a.st ≡ kind_code close_brace → ⊥) → SubjectAt mode doc a inner (subject_before brace)
unfolding rules all
subject_inner mode doc a y =
    record {
      outer = tt;
      waits = refl;
      rules_are = λ k tied h. rw (apart (among subject_kinds) (among (close_brace ∷ [])) tt k h);
      others = λ z h tied e.
          rw (among_code (close_brace ∷ []) (kind_in a.st) z h.known, ne_eqb (kind_in a.st) (kind_code close_brace) y)
          (none_above (here doc a) tied [] (here doc a).kind (subject_rules (here doc a) tied (subject_before brace)) (no_subject (here doc a) tied (subject_before brace) (here doc a).kind e));
      ended = λ z n m. refl;
    }

-- What the frame behind predicates takes.
ends_found : (mode : Mode) (t : Token) (tied : Bool) (f : Frame) (e : Ending) (k : ℕ) → Ends f e k → (k ≡ end_kind → ⊥) → k ≤ last_kind → (w : Write (List Frame)) → find_rule (kind_of_code k) (end_rules t tied e) ≡ some w
    → find_rule (kind_of_code k) (rules t tied mode (statement (f ∷ []))) ≡ some (w >>= λ fs. return (statement (fs ++ [])))
unfolding rules
ends_found mode t tied f e k E z h w q = found_above t tied [] (kind_of_code k) (frame_rules t tied f) w (E z h t tied ∙ q)

pub ends_none : (mode : Mode) (t : Token) (tied : Bool) (f : Frame) (e : Ending) (k : ℕ) → Ends f e k → (k ≡ end_kind → ⊥) → k ≤ last_kind → find_rule (kind_of_code k) (end_rules t tied e) ≡ none
    → find_rule (kind_of_code k) (rules t tied mode (statement (f ∷ []))) ≡ none
unfolding rules
ends_none mode t tied f e k E z h q = none_above t tied [] (kind_of_code k) (frame_rules t tied f) (E z h t tied ∙ q)

-- The frame's ending takes this kind.
pub ends_at : (mode : Mode) (t : Token) (tied : Bool) (f : Frame) (e : Ending) (k j : ℕ) → k ≡ j → Ends f e k → (j ≡ end_kind → ⊥) → j ≤ last_kind → (w : Write (List Frame)) → find_rule (kind_of_code j) (end_rules t tied e) ≡ some w
    → find_rule (kind_of_code j) (rules t tied mode (statement (f ∷ []))) ≡ some (w >>= λ fs. return (statement (fs ++ [])))
ends_at mode t tied f e k j q E = ends_found mode t tied f e j (subst (λ (x : ℕ). Ends f e x) q E)

module _ (doc : Text) (a₀ : Held) (work rows terms store : MutBor (List ℕ)) (st : List ℕ) (I : BlockInv doc a₀ (held work rows terms store st)) where
  abbrev a : Held
  a = held work rows terms store st

  close_rule : (mode : Mode) (t : Token) (tied : Bool) → find_rule close_brace (rules t tied mode inner) ≡ some (λ m. (statement [], (enter 0 m).1))
  unfolding rules
  close_rule mode t tied = refl

  pub block_close : (st' : List ℕ) → kind_in st ≡ kind_code close_brace → Passed doc st st' (depth_in st) 0 → Block doc a₀ (held work rows terms store st') 0
  block_close st' k p mode =
      turns_then mode doc inner inner (statement []) a₀ a (held work rows terms store st') 0 0 (I.turns mode) refl
      (mark_enters doc work rows terms store st st' 27 close_mark I.ready k 0 (omega arith) p mode inner (statement []) refl (λ tied. close_rule mode (here doc a) tied))

  module _ (y : kind_in st ≡ kind_code close_brace → ⊥) where
    pub block_stop : (b : Held) (r : ℕ) → Subject doc a b r → (r ≡ 0 → ⊥) → Block doc a₀ b r
    block_stop b r S z mode =
        let T = S.turns mode inner (subject_before brace) (subject_inner mode doc a y) in
        turns_stop mode doc inner _ (statement []) a₀ b r (turns_then mode doc inner inner _ a₀ a b 0 r (I.turns mode) refl T) z

    pub block_subject : (b : Held) (r : ℕ) → Subject doc a b r → r ≡ 0 → (Ready doc b × (get_or b.st x_word 0 < word_limit)) × (0 < get_or b.st x_word 0)
    block_subject b r S z = subject_ready trig doc inner (subject_before brace) a b (subject_inner trig doc a y) (subst (λ (x : ℕ). Subject doc a b x) z S)

    module _ (b d : Held) (r s : ℕ) (S : Subject doc a b r) (z : r ≡ 0) (P : Predicates doc b d s) where
      pub block_behind : (mode : Mode) → Behind mode doc inner brace a₀ d s
      block_behind mode =
          let B = behind_subject mode doc inner (subject_before brace) a b (subject_inner mode doc a y) (subst (λ (x : ℕ). Subject doc a b x) z S) d s P tt in
          record { frame = B.frame; turns = turns_then mode doc inner inner (statement (B.frame ∷ [])) a₀ a d 0 s (I.turns mode) refl B.turns; ends = B.ends; later = λ w. omega (arith, (I.turns mode).later refl, B.later w) }

      pub block_behind_stop : (s ≡ 0 → ⊥) → Block doc a₀ d s
      block_behind_stop w mode = let B = block_behind mode in turns_stop mode doc inner (statement (B.frame ∷ [])) (statement []) a₀ d s B.turns w

      pub block_behind_ready : s ≡ 0 → Ready doc d
      block_behind_ready w = (block_behind trig).turns.ready w

      pub block_unexpected : s ≡ 0 → (kind_in d.st ≡ kind_code close_brace → ⊥) → (kind_in d.st ≡ kind_code dot → ⊥) → (q : ℕ) → q ≡ refusal_here doc d.st → Block doc a₀ d q
      block_unexpected w n27 n19 q e mode =
          let B = block_behind mode in
          turns_then mode doc inner (statement (B.frame ∷ [])) (statement []) a₀ d d s q B.turns w
          (turns_none mode doc (statement (B.frame ∷ [])) (statement []) d q (B.turns.ready w) e
          (λ x h tied. ends_none mode (here doc d) tied B.frame brace (kind_in d.st) (B.ends w) x h.known (none_there (here doc d) tied x h.known)) (λ n m. refl))
        where
          none_there : (t : Token) (tied : Bool) → (kind_in d.st ≡ end_kind → ⊥) → kind_in d.st ≤ last_kind → find_rule (kind_of_code (kind_in d.st)) (end_rules t tied brace) ≡ none
          none_there t tied x h = rw (among_code (dot ∷ []) (kind_in d.st) x h, among_code (close_brace ∷ []) (kind_in d.st) x h, ne_eqb (kind_in d.st) (kind_code close_brace) n27, ne_eqb (kind_in d.st) (kind_code dot) n19)

    -- The end of some triples.
    module _ (b : Held) (r s : ℕ) (S : Subject doc a b r) (z : r ≡ 0) (work2 rows2 terms2 store2 : MutBor (List ℕ)) (u u' : List ℕ) (P : Predicates doc b (held work2 rows2 terms2 store2 u) s) (w : s ≡ 0) where
      abbrev d : Held
      d = held work2 rows2 terms2 store2 u

      abbrev d' : Held
      d' = held work2 rows2 terms2 store2 u'

      pub block_end : kind_in u ≡ kind_code close_brace → Passed doc u u' (depth_in u) 0 → Block doc a₀ d' 0
      block_end k p mode =
          let B = block_behind b d r s S z P mode in
          turns_then mode doc inner (statement (B.frame ∷ [])) (statement []) a₀ d d' s 0 B.turns w
          (mark_enters doc work2 rows2 terms2 store2 u u' 27 close_mark (B.turns.ready w) k 0 (omega arith) p mode (statement (B.frame ∷ [])) (statement []) refl
          (λ tied. ends_at mode (here doc d) tied B.frame brace (kind_in u) 27 k (B.ends w) (λ x. omega arith) (omega arith) (λ m. ([], (enter 0 m).1)) refl))

      pub block_again : kind_in u ≡ kind_code dot → Passed doc u u' (depth_in u) (graph_in u) → BlockInv doc a₀ d'
      block_again k p = record { ready = (after_dot trig).ready refl; turns = after_dot }
        where
          after_dot : (mode : Mode) → Turns mode doc inner inner a₀ d' 0
          after_dot mode =
              let B = block_behind b d r s S z P mode in
              turns_then mode doc inner (statement (B.frame ∷ [])) inner a₀ d d' s 0 B.turns w
              (mark_passes doc work2 rows2 terms2 store2 u u' 19 dot_mark (B.turns.ready w) k p mode (statement (B.frame ∷ [])) inner refl
              (λ tied. ends_at mode (here doc d) tied B.frame brace (kind_in u) 19 k (B.ends w) (λ x. omega arith) (omega arith) (return (triples_or_end ∷ [])) refl))

      pub block_less : kind_in u ≡ kind_code dot → Passed doc u u' (depth_in u) (graph_in u) → length doc - at_in u' < length doc - at_in st
      block_less k p =
          let T = behind_subject trig doc inner (subject_before brace) a b (subject_inner trig doc a y) (subst (λ (x : ℕ). Subject doc a b x) z S) d s P tt in
          less_left doc a d' (block_again k p).ready (omega (arith, p.later, T.later w))

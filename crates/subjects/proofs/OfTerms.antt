-- A term as subject.
use mathlib.Core.Path.{◌≡◌, refl, sym, ap, ◌∙◌, subst}
use mathlib.Core.List.{List, [], ◌∷◌, ◌++◌}
use mathlib.Core.Bool.{Bool, true, false, ◌||◌}
use Prim.Native.Nat.{ℕ, ◌≤◌, ◌<◌}
use native.Mathlib.Omega.{arith}
use lib.Dec.{eqb}
use borrow.Author.Tests.{ne_eqb}
use lib.ListN.{length, get_or}
use denote.Ref.{MutBor}
use Rattle.text.specs.Text.{Text}
use Rattle.text.proofs.Compare.{contrary}
use Rattle.token.specs.Kind.{kind_code, end_kind, unreadable_kind, among, kw_a, IRIREF, PNAME_NS, PNAME_LN, BLANK_NODE_LABEL, open_bracket, open_paren}
use Rattle.grammar.specs.Productions.{Mode}
use Rattle.machine.specs.Memory.{Memory, return, ◌>>=◌}
use Rattle.machine.specs.Frame.{Place, Frame, Open, statement}
use Rattle.machine.specs.Rules.{after_node}
use Rattle.state.specs.Words.{kind_word, at_word, list_word, kind_in, at_in, node_in}
use Rattle.state.specs.Cursor.{TokenHere}
use Rattle.state.specs.Writes.{placed}
use Rattle.simulation.specs.Simulation.{code_among, held, here, Ready, Turns, refusal_here}
use Rattle.state.specs.declared.Held.{Held}
use Rattle.simulation.proofs.Tests.{among_code}
use Rattle.simulation.proofs.Steps.{tied_here, here_some}
use Rattle.simulation.proofs.Frames.{ready_does}
use Rattle.simulation.proofs.Turning.{turns_comes, turns_then, turns_stop, turns_does, turns_none_but}
use Rattle.nodes.specs.Nodes.{Aimed, Spotted, PutsTerm, term_kinds, spot_of}
use Rattle.nodes.proofs.Slots.{term_rule}
use Rattle.nodes.proofs.Predicates.{alone}
use Rattle.nesting.proofs.Aiming.{comes_aimed, ready_aimed, spotted}
use Rattle.subjects.specs.Subjects.{label_kinds, subject_kinds, SubjectAt, after_subject, Subject}
use Rattle.subjects.proofs.Rules.{label_subject, label_term_kind, node_nil, term_above, subject_aimed}
use Rattle.table.specs.Layout.{word_limit}

label_token : (k : ℕ) → code_among label_kinds k ≡ true → (k ≡ end_kind → ⊥) × (k ≡ unreadable_kind → ⊥)
label_token k v = ((λ e. contrary (sym (rw e at v))), (λ e. contrary (sym (rw e at v))))

-- Where the next node belongs changes nothing, in any mode.
pub turns_aimed : (mode : Mode) (doc : Text) (work rows terms store : MutBor (List ℕ)) (st st' : List ℕ) → ((k : ℕ) → k < list_word → get_or st' k 0 ≡ get_or st k 0) → length st' ≡ length st → (o : Open) → Ready doc (held work rows terms store st)
    → Turns mode doc o o (held work rows terms store st) (held work rows terms store st') 0
turns_aimed mode doc work rows terms store st st' same n o r =
    turns_comes mode doc (λ (x : Unit {0}). o) (λ (x : Unit {0}). o) (held work rows terms store st) (held work rows terms store st') 0 (comes_aimed doc work rows terms store st st' same n (λ (x : Unit {0}). o) r) tt

module _ (doc : Text) (work rows terms store : MutBor (List ℕ)) (st st' : List ℕ) (ready : Ready doc (held work rows terms store st)) (lk : code_among label_kinds (kind_in st) ≡ true) (aim : Aimed st st' 0 0 0 0 0) where
  abbrev a : Held
  a = held work rows terms store st

  abbrev a1 : Held
  a1 = held work rows terms store st'

  same_kind : kind_in st' ≡ kind_in st
  same_kind = aim.before kind_word (omega arith)

  ready_1 : Ready doc a1
  ready_1 = ready_aimed doc work rows terms store st st' aim.before aim.words ready

  some_kind : kind_in st' ≡ end_kind → ⊥
  some_kind h = (label_token (kind_in st) lk).0 (sym same_kind ∙ h)

  token_1 : TokenHere doc st'
  token_1 = ready_1.cursor.token some_kind (λ h. (label_token (kind_in st) lk).1 (sym same_kind ∙ h))

  label_1 : among label_kinds (here doc a1).kind ≡ true
  label_1 = among_code label_kinds (kind_in st') some_kind token_1.known ∙ rw same_kind lk

  pub term_asked : (Ready doc a1 × Spotted a1) × (code_among (kw_a ∷ term_kinds) (kind_in st') ≡ true)
  term_asked = (
    (ready_1, spotted work rows terms store st st' 0 0 0 0 0 aim (omega arith) (omega arith) (omega arith) (omega arith)),
    sym (among_code (kw_a ∷ term_kinds) (kind_in st') some_kind token_1.known) ∙ label_term_kind (here doc a1).kind label_1,
  )

  module _ (b : Held) (r : ℕ) (P : PutsTerm doc a1 b r) where
    to_term : (mode : Mode) (o : Open) (place : Place) → SubjectAt mode doc a o place → Turns mode doc o (statement (after_node place (node_in b.st))) a b r
    to_term mode o place s =
        let s1 = subject_aimed mode doc work rows terms store st st' aim.before o place s in
        let (v, q) = term_rule (here doc a1) (here doc a1).kind (label_term_kind (here doc a1).kind label_1) in
        let N = (P v q).gives in
        turns_then mode doc o o (statement (after_node place (node_in b.st))) a a1 b 0 r (turns_aimed mode doc work rows terms store st st' aim.before aim.words o ready) refl
        (turns_does mode doc (placed (spot_of a1) v) o (statement (after_node place (node_in b.st))) a1 b r ready_1 token_1 some_kind N.does s1.waits
        ((v >>= λ n. return (after_node place n)) >>= λ fs. return (statement (fs ++ [])))
        (s1.rules_are (here doc a1).kind (tied_here doc a1 token_1 some_kind) (label_subject (here doc a1).kind label_1) ∙ term_above (here doc a1) (tied_here doc a1 token_1 some_kind) place (here doc a1).kind label_1 v q)
        (λ old m x. (
          ap (λ (y : ℕ × Memory). y.1) (sym (alone doc a1 b r ready_1 token_1 some_kind aim.list_is aim.x_is v m)),
          λ y. ap statement (node_nil place s.outer (v m).0 ∙ ap (after_node place) (sym (N.node y old m x ∙ ap (λ (w : ℕ × Memory). w.0) (alone doc a1 b r ready_1 token_1 some_kind aim.list_is aim.x_is v m)))),
        )))

    pub term_stop : (r ≡ 0 → ⊥) → Subject doc a b r
    term_stop z =
        record {
          turns = λ mode o place s. turns_stop mode doc o (statement (after_node place (node_in b.st))) _ a b r (to_term mode o place s) z;
          small = λ y. absurd (z y);
          positive = λ y. absurd (z y);
          shape = λ y. absurd (z y);
          later = λ y. absurd (z y);
        }

    module _ (z : r ≡ 0) where
      numbers : (node_in b.st < word_limit) × ((0 < node_in b.st) × (at_in st < at_in b.st))
      numbers =
          let (v, q) = term_rule (here doc a1) (here doc a1).kind (label_term_kind (here doc a1).kind label_1) in
          ((P v q).gives.small z, ((P v q).positive z, omega (arith, ((P v q).gives.does.done z).later, aim.before at_word (omega arith))))

      pub term_ready : Ready doc b
      term_ready =
          let (v, q) = term_rule (here doc a1) (here doc a1).kind (label_term_kind (here doc a1).kind label_1) in
          ready_does doc (placed (spot_of a1) v) a1 b r ready_1 token_1 some_kind (P v q).gives.does z

-- The subject's number is put where the caller looks for it.
module _ (doc : Text) (a : Held) (work rows terms store : MutBor (List ℕ)) (u u' : List ℕ) (shape n : ℕ) (aim : Aimed u u' shape n 0 0 0) (ready : Ready doc (held work rows terms store u)) where
  pub settled : (frames : Place → List Frame) → ((place : Place) → frames place ≡ after_subject shape place n) → ((mode : Mode) (o : Open) (place : Place) → SubjectAt mode doc a o place → Turns mode doc o (statement (frames place)) a (held work rows terms store u) 0)
      → n < word_limit → 0 < n → shape ≤ 2 → at_in a.st < at_in u → Subject doc a (held work rows terms store u') 0
  settled frames same to h p l e =
      record {
        turns = λ mode o place s.
            let b = held work rows terms store u in
            let b' = held work rows terms store u' in
            subst (λ (x : List Frame). Turns mode doc o (statement x) a b' 0) (same place ∙ rw (aim.list_is, aim.x_is))
            (turns_then mode doc o (statement (frames place)) (statement (frames place)) a b b' 0 0 (to mode o place s) refl (turns_aimed mode doc work rows terms store u u' aim.before aim.words (statement (frames place)) ready));
        small = λ z. rw aim.x_is h;
        positive = λ z. rw aim.x_is p;
        shape = λ z. rw aim.list_is l;
        later = λ z. omega (arith, e, aim.before at_word (omega arith));
      }

-- A term as subject, done; or nothing that may be one.
module _ (doc : Text) (work₀ rows₀ terms₀ store₀ : MutBor (List ℕ)) (st st' : List ℕ) (ready : Ready doc (held work₀ rows₀ terms₀ store₀ st)) (lk : code_among label_kinds (kind_in st) ≡ true) (aim : Aimed st st' 0 0 0 0 0)
    (work rows terms store : MutBor (List ℕ)) (u : List ℕ) (r : ℕ) (P : PutsTerm doc (held work₀ rows₀ terms₀ store₀ st') (held work rows terms store u) r) (z : r ≡ 0) where
  pub term_done : (n : ℕ) → n ≡ node_in u → (u' : List ℕ) → Aimed u u' 0 n 0 0 0 → Subject doc (held work₀ rows₀ terms₀ store₀ st) (held work rows terms store u') 0
  term_done n en u' aim' =
      let w = numbers doc work₀ rows₀ terms₀ store₀ st st' ready lk aim (held work rows terms store u) r P z in
      settled doc (held work₀ rows₀ terms₀ store₀ st) work rows terms store u u' 0 n aim' (term_ready doc work₀ rows₀ terms₀ store₀ st st' ready lk aim (held work rows terms store u) r P z)
      (λ place. after_node place (node_in u)) (λ place. rw en)
      (λ mode o place s. subst (λ (x : ℕ). Turns mode doc o (statement (after_node place (node_in u))) (held work₀ rows₀ terms₀ store₀ st) (held work rows terms store u) x) z (to_term doc work₀ rows₀ terms₀ store₀ st st' ready lk aim (held work rows terms store u) r P mode o place s))
      (rw en w.0) (rw en w.1.0) (omega arith) w.1.1

pub subject_none : (doc : Text) (a : Held) (r : ℕ) → Ready doc a → code_among label_kinds (kind_in a.st) ≡ false → (kind_in a.st ≡ kind_code open_bracket → ⊥) → (kind_in a.st ≡ kind_code open_paren → ⊥) → r ≡ refusal_here doc a.st → Subject doc a a r
subject_none doc a r ready v x y e =
    record {
      turns = λ mode o place s. turns_none_but mode doc o _ a r ready e (λ z h tied. s.others z h tied (no_kind z h)) s.ended;
      small = λ z. absurd (here_some doc a.st (sym e ∙ z));
      positive = λ z. absurd (here_some doc a.st (sym e ∙ z));
      shape = λ z. absurd (here_some doc a.st (sym e ∙ z));
      later = λ z. absurd (here_some doc a.st (sym e ∙ z));
    }
  where
    four : (b1 b2 b3 b4 c : Bool) → (b1 || (b2 || (b3 || (b4 || false)))) ≡ false → c ≡ false → (b1 || (b2 || (b3 || (b4 || c)))) ≡ false
    four true b2 b3 b4 c e f = contrary e
    four false true b3 b4 c e f = contrary e
    four false false true b4 c e f = contrary e
    four false false false true c e f = contrary e
    four false false false false c e f = f

    no_kind : (kind_in a.st ≡ end_kind → ⊥) → TokenHere doc a.st → among subject_kinds (here doc a).kind ≡ false
    no_kind z h =
        among_code subject_kinds (kind_in a.st) z h.known
        ∙ four (eqb (kind_in a.st) (kind_code IRIREF)) (eqb (kind_in a.st) (kind_code PNAME_NS)) (eqb (kind_in a.st) (kind_code PNAME_LN)) (eqb (kind_in a.st) (kind_code BLANK_NODE_LABEL)) _ v (rw (ne_eqb (kind_in a.st) (kind_code open_bracket) x, ne_eqb (kind_in a.st) (kind_code open_paren) y))

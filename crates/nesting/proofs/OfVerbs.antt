-- A predicate is read, its node being no object.
use mathlib.Core.Path.{◌≡◌, refl, sym, ◌∙◌}
use mathlib.Core.List.{List, [], ◌∷◌}
use mathlib.Core.Bool.{true, false}
use Prim.Native.Nat.{ℕ, ◌≤◌, ◌<◌}
use native.Mathlib.Omega.{arith}
use lib.ListN.{get_or}
use denote.Ref.{MutBor}
use Rattle.text.specs.Text.{Text}
use Rattle.text.proofs.Compare.{contrary}
use Rattle.token.specs.Kind.{end_kind, unreadable_kind, among, strings, kw_a}
use Rattle.machine.specs.Frame.{Ending, full_stop, Frame, object, after_semicolon}
use Rattle.state.specs.Words.{kind_word, at_word, depth_word, level_word, kind_in, at_in, depth_in, node_in}
use Rattle.state.specs.Cursor.{TokenHere}
use Rattle.simulation.specs.Simulation.{code_among, held, here, Ready, Reads, on_top}
use Rattle.state.specs.declared.Held.{Held}
use Rattle.simulation.proofs.Compose.{comes_then}
use Rattle.simulation.proofs.Tests.{among_code}
use Rattle.nodes.specs.Nodes.{Aimed, Spotted, PutsTerm, Verbs, verb_kinds, term_kinds}
use Rattle.nodes.proofs.Predicates.{verb_reads, verb_is_term, term_depth, verbs_semicolon}
use Rattle.nodes.proofs.Slots.{term_rule}
use Rattle.nesting.proofs.Aiming.{comes_aimed, ready_aimed, spotted}
use Rattle.table.specs.Layout.{word_limit}

-- A predicate's kind is a token's.
verb_token : (k : ℕ) → code_among verb_kinds k ≡ true → (k ≡ end_kind → ⊥) × (k ≡ unreadable_kind → ⊥)
verb_token k v = ((λ e. contrary (sym (rw e at v))), (λ e. contrary (sym (rw e at v))))

-- What is known behind it: st held the array before it.
pub record VerbDone (doc : Text) (st : List ℕ) (b : Held) : Type 0 where
  pub ready : Ready doc b
  pub depth : depth_in b.st ≡ depth_in st
  pub later : at_in st < at_in b.st
  pub spot : (k : ℕ) → level_word ≤ k → get_or b.st k 0 ≡ get_or st k 0
  pub small : node_in b.st < word_limit
  pub some_node : 0 < node_in b.st

module _ (doc : Text) (work rows terms store : MutBor (List ℕ)) (st st' : List ℕ) (ready : Ready doc (held work rows terms store st)) (verb : code_among verb_kinds (kind_in st) ≡ true) (aim : Aimed st st' 0 0 0 0 0) where
  abbrev a : Held
  a = held work rows terms store st

  abbrev a1 : Held
  a1 = held work rows terms store st'

  same_kind : kind_in st' ≡ kind_in st
  same_kind = aim.before kind_word (omega arith)

  ready_1 : Ready doc a1
  ready_1 = ready_aimed doc work rows terms store st st' aim.before aim.words ready

  some_kind : kind_in st' ≡ end_kind → ⊥
  some_kind h = (verb_token (kind_in st) verb).0 (sym same_kind ∙ h)

  token_1 : TokenHere doc st'
  token_1 = ready_1.cursor.token some_kind (λ h. (verb_token (kind_in st) verb).1 (sym same_kind ∙ h))

  verb_1 : among verb_kinds (here doc a1).kind ≡ true
  verb_1 = among_code verb_kinds (kind_in st') some_kind token_1.known ∙ rw same_kind verb

  pub verb_call : (Ready doc a1 × Spotted a1) × (code_among strings (kind_in st') ≡ false → code_among (kw_a ∷ term_kinds) (kind_in st') ≡ true)
  verb_call = (
    (ready_1, spotted work rows terms store st st' 0 0 0 0 0 aim (omega arith) (omega arith) (omega arith) (omega arith)),
    λ _. sym (among_code (kw_a ∷ term_kinds) (kind_in st') some_kind token_1.known) ∙ verb_is_term (here doc a1).kind verb_1,
  )

  module _ (b : Held) (r : ℕ) (P : PutsTerm doc a1 b r) where
    pub verb_comes : (f : Frame) (s : ℕ) (e : Ending) (after : List Frame) → Verbs f s e after → Reads doc (f ∷ []) (object s (node_in b.st) e ∷ after) a b r
    verb_comes f s e after verbs =
        comes_then doc (on_top (f ∷ [])) (on_top (f ∷ [])) (on_top (object s (node_in b.st) e ∷ after)) a a1 b 0 r (comes_aimed doc work rows terms store st st' aim.before aim.words (on_top (f ∷ [])) ready) refl
        (verb_reads doc a1 b r ready_1 token_1 some_kind aim.list_is aim.x_is P verb_1 f s e after verbs)

    pub verb_done : r ≡ 0 → VerbDone doc st b
    verb_done z =
        let t = verb_is_term (here doc a1).kind verb_1 in
        let (v, q) = term_rule (here doc a1) (here doc a1).kind t in
        let N = P v q in
        let D = N.gives.does.done z in
        record {
          ready = (verb_comes (after_semicolon 1 full_stop) 1 full_stop [] (verbs_semicolon 1 full_stop)).ready z;
          depth = D.depth ∙ (term_depth (here doc a1) (depth_in st') t ∙ aim.before depth_word (omega arith));
          later = omega (arith, D.later, aim.before at_word (omega arith));
          spot = λ k h. D.spot k (omega arith) ∙ aim.behind k (omega arith);
          small = N.gives.small z;
          some_node = N.positive z;
        }

-- One token at a time: the refusals in number order, and the run over the tokens.
use Rattle.std.specs.Prelude.{List, [], ◌∷◌, ◌++◌, Bool, false, ℕ}
use Rattle.std.proofs.Math.Option.{Option, none, some}
use Rattle.text.specs.Text.{is_none}
use Rattle.token.specs.Kind.{carets, LANGTAG}
use Rattle.token.specs.Tokens.{Token, has_kind, Lexeme, token, unreadable}
use Rattle.grammar.specs.Productions.{Mode}
use Rattle.dataset.specs.Constructors.{InForce, Awaited, nothing, prefix_name as prefix_awaited, new_base as base_awaited, namespace_of as namespace_awaited, awaiting}
use Rattle.machine.specs.Memory.{Memory, Write}
pub use Rattle.machine.specs.Call.{Room, Test, ◌when◌, first_refusal}
use Rattle.machine.specs.Frame.{prefix_name, namespace_of, new_base, last_dot, Open, directive, statement}
use Rattle.machine.specs.Rules.{find_rule, rules}
use Rattle.machine.specs.Refusals.{new_depth, escape_tests, force_tests, room_tests}

-- What is open, how many [ and ( are open, and the memory.
pub record State : Type 0 where
  pub open_now : Open
  pub depth : ℕ
  pub memory : Memory

-- What is in force: what an open directive awaits, and the environment.
abbrev pub awaited_by : Open → Awaited
awaited_by (directive (prefix_name d)) = prefix_awaited
awaited_by (directive (namespace_of p d)) = namespace_awaited p
awaited_by (directive (new_base d)) = base_awaited
awaited_by (directive last_dot) = nothing
awaited_by (statement k) = nothing

abbrev pub in_force_now : State → InForce
in_force_now s = awaiting (awaited_by s.open_now) s.memory.environment

-- ---- A step

pub data Next : Type 0 where
  go : State → Next
  stop : ℕ → ℕ → Next

-- The state after the token, if a rule is there for it. `tied`: a tag or ^^ follows the token.
abbrev pub obeyed : Option (Write Open) → Token → State → State
obeyed none t s = s
obeyed (some w) t s = let r = w s.memory in record { open_now = r.0; depth = new_depth s.depth t; memory = r.1 }

-- "at each token 6 to 16 in number order, 14 to 16 counting everything that token writes"
abbrev pub tests : Room → State → Token → Option (Write Open) → State → List Test
tests room s t rule s' =
    escape_tests t ++ 8 when is_none rule ∷ [] ++ force_tests (in_force_now s) s.depth t ++ room_tests room s'.memory

abbrev pub answer : Option ℕ → ℕ → State → Next
answer none at s = go s
answer (some n) at s = stop n at

unfoldable pub step : Mode → Room → State → Token → Bool → Next
step mode room s t tied =
    let rule = find_rule t.kind (rules t tied mode s.open_now) in
    let s' = obeyed rule t s in
    answer (first_refusal (tests room s t rule s')) t.start s'

-- ---- A run

-- "not followed by a tag or ^^ (the end, or an unreadable place, also counts as not)"
abbrev pub tied_to : List Lexeme → Bool
tied_to [] = false
tied_to (token t ∷ ls) = has_kind (LANGTAG ∷ carets ∷ []) t
tied_to (unreadable p ∷ ls) = false

pub data Outcome : Type 0 where
  accepted : Memory → Outcome
  refused : ℕ → ℕ → Outcome

-- At the document's end: nothing may be open.
abbrev pub at_end : Open → ℕ → Memory → Outcome
at_end (directive d) n m = refused 8 n
at_end (statement []) n m = accepted m
at_end (statement (f ∷ k)) n m = refused 8 n

-- After a step: the refusal, or what becomes of the new state.
abbrev pub onward : (State → Outcome) → Next → Outcome
onward f (go s) = f s
onward f (stop c p) = refused c p

-- The outcome for the tokens that are left; n is the document's length.
unfoldable pub run : Mode → Room → ℕ → List Lexeme → State → Outcome
run mode room n [] s = at_end s.open_now n s.memory
run mode room n (unreadable p ∷ ls) s = refused 6 p
run mode room n (token t ∷ ls) s = onward (λ s'. run mode room n ls s') (step mode room s t (tied_to ls))

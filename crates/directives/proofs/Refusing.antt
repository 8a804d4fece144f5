-- The machine's tests at a directive's tokens: there is always room, and no bracket opens.
use mathlib.Core.Path.{◌≡◌, refl, sym, ap, ◌∙◌}
use mathlib.Core.List.{List, [], ◌∷◌, ◌++◌}
use mathlib.Core.Bool.{Bool, true, false}
use mathlib.Core.Option.{none, some}
use Prim.Native.Nat.{ℕ}
use lib.Dec.{ltb}
use lib.ListN.{length}
use Rattle.text.specs.Text.{Text, cond}
use Rattle.limits.specs.Limits.{prefix_limit}
use Rattle.token.specs.Kind.{kind_of_code, PNAME_NS}
use Rattle.token.specs.Tokens.{Token}
use Rattle.dataset.specs.Constructors.{prefix, nothing, prefix_name, new_base, namespace_of, awaiting}
use Rattle.table.specs.Tables.{or_zero}
use Rattle.machine.specs.Memory.{Write}
use Rattle.machine.specs.Frame.{Open}
use Rattle.machine.specs.Refusals.{no_character, undeclared, no_base, too_long, one_prefix_more, too_deep, escape_tests, force_tests, room_tests}
use Rattle.machine.specs.Step.{Room, State, Test, ◌when◌, first_refusal, awaited_by, in_force_now, tests}
use Rattle.machine.specs.Demand.{Fits}
use Rattle.machine.proofs.Firsts.{first_before, fits_passes}
use Rattle.token_iri.specs.Tests.{token_as, iri_refusal, namespace_refusal}
use Rattle.nodes.proofs.Passing.{Quiet}

module _ (room : Room) (s : State) (v : Write Open) (s' : State) (fits : Fits room s'.memory) where
  -- All tests but those of room.
  abbrev own : Token → List Test
  own t = escape_tests t ++ 8 when false ∷ [] ++ force_tests (in_force_now s) s.depth t

  own_tests : (t : Token) → or_zero (first_refusal (own t)) ≡ or_zero (first_refusal (tests room s t (some v) s'))
  own_tests t = ap or_zero (sym (first_before (own t) (room_tests room s'.memory) (fits_passes room s'.memory fits)))

  -- A keyword, or the dot.
  pub quiet_tests : (t : Token) (k : ℕ) → t.kind ≡ kind_of_code k → Quiet k → awaited_by s.open_now ≡ nothing → 0 ≡ or_zero (first_refusal (tests room s t (some v) s'))
  unfolding no_character undeclared no_base too_long one_prefix_more too_deep
  quiet_tests t k e q f =
      let z : 0 ≡ or_zero (first_refusal (own t)) = rw (e, f, q.escapes, q.reference, q.name, q.opening) in
      z ∙ own_tests t

  -- The prefix that is declared: 11, or none.
  pub name_tests : (t : Token) → t.kind ≡ PNAME_NS → awaited_by s.open_now ≡ prefix_name → cond (ltb prefix_limit (length (prefix t))) 11 0 ≡ or_zero (first_refusal (tests room s t (some v) s'))
  unfolding no_character undeclared no_base too_long one_prefix_more too_deep prefix
  name_tests t e f =
      let z : cond (ltb prefix_limit (length (prefix t))) 11 0 ≡ or_zero (first_refusal (own t)) = rw (e, f) (either (ltb prefix_limit (length (prefix t)))) in
      z ∙ own_tests t
    where
      either : (b : Bool) → ◌≡◌ {A = ℕ} (cond b 11 0) (or_zero (cond b (some 11) none))
      either true = refl
      either false = refl

  -- The IRIREF of a namespace, and of a base.
  pub namespace_tests : (p : Text) (at : ℕ) (x : Text) → awaited_by s.open_now ≡ namespace_of p → namespace_refusal (awaiting (namespace_of p) s.memory.environment) (token_as 1 at x) ≡ or_zero (first_refusal (tests room s (token_as 1 at x) (some v) s'))
  unfolding namespace_refusal too_deep
  namespace_tests p at x f =
      let z : namespace_refusal (awaiting (namespace_of p) s.memory.environment) (token_as 1 at x) ≡ or_zero (first_refusal (own (token_as 1 at x))) = rw f in
      z ∙ own_tests (token_as 1 at x)

  pub base_tests : (at : ℕ) (x : Text) → awaited_by s.open_now ≡ new_base → iri_refusal (awaiting new_base s.memory.environment) (token_as 1 at x) ≡ or_zero (first_refusal (tests room s (token_as 1 at x) (some v) s'))
  unfolding iri_refusal one_prefix_more too_deep
  base_tests at x f =
      let z : iri_refusal (awaiting new_base s.memory.environment) (token_as 1 at x) ≡ or_zero (first_refusal (own (token_as 1 at x))) = rw f in
      z ∙ own_tests (token_as 1 at x)

-- Statements one after another.
use mathlib.Core.Path.{◌≡◌, refl, sym, ◌∙◌, subst}
use mathlib.Core.List.{[]}
use mathlib.Core.Bool.{Bool, false}
use Prim.Native.Nat.{ℕ, ◌-◌, ◌<◌}
use borrow.Author.Tests.{eq-eqb}
use lib.ListN.{length}
use Rattle.text.specs.Text.{Text, cond}
use Rattle.token.specs.Kind.{kind_code, end_kind, GRAPH, open_brace}
use Rattle.grammar.specs.Productions.{Mode, trig, turtle}
use Rattle.machine.specs.Frame.{statement}
use Rattle.machine.specs.Read.{mode_of}
use Rattle.state.specs.Words.{kind_in, at_in}
use Rattle.simulation.specs.Simulation.{code_among, Ready, Turns}
use Rattle.state.specs.declared.Held.{Held}
use Rattle.simulation.proofs.Turning.{turns_here, turns_then}
use Rattle.simulation.proofs.Steps.{goes_ended}
use Rattle.nesting.proofs.Aiming.{less_left}
use Rattle.statements.specs.Statements.{Graph, Statement, Plain, ReadsAll}
use Rattle.directives.specs.Directives.{directive_kinds}
use Rattle.statements.proofs.OfGraphs.{document_at}

-- In mode 0.
pub one_trig : (mode : ℕ) (doc : Text) (a b : Held) (r : ℕ) → mode ≡ 0 → Statement trig doc a b r → Statement (mode_of mode) doc a b r
one_trig mode doc a b r e S = subst (λ (x : Bool). Statement (cond x trig turtle) doc a b r) (sym (eq-eqb mode 0 e)) S

pub one_graph : (mode : ℕ) (doc : Text) (a b : Held) (r : ℕ) → mode ≡ 0 → kind_in a.st ≡ kind_code open_brace → Graph doc a b 0 r → Statement (mode_of mode) doc a b r
one_graph mode doc a b r e k G = one_trig mode doc a b r e (record { turns = G.turns trig (statement []) (document_at doc a k); later = G.later })

pub plain_trig : (mode k : ℕ) (d : Bool) → d ≡ code_among directive_kinds k → d ≡ false → (k ≡ kind_code open_brace → ⊥) → (k ≡ kind_code GRAPH → ⊥) → (k ≡ end_kind → ⊥) → Plain mode k
plain_trig mode k d e f n26 n18 z = record { no_directive = sym e ∙ f; no_brace = λ m. n26; no_graph = λ m. n18; some_token = z }

pub plain_turtle : (mode k : ℕ) (d : Bool) → d ≡ code_among directive_kinds k → d ≡ false → (mode ≡ 0 → ⊥) → (k ≡ end_kind → ⊥) → Plain mode k
plain_turtle mode k d e f y z = record { no_directive = sym e ∙ f; no_brace = λ m. absurd (y m); no_graph = λ m. absurd (y m); some_token = z }

-- Some statements were read.
pub record SomeInv (mode : Mode) (doc : Text) (a b : Held) : Type 0 where
  pub ready : Ready doc b
  pub turns : Turns mode doc (statement []) (statement []) a b 0

pub some_start : (mode : Mode) (doc : Text) (a : Held) → Ready doc a → SomeInv mode doc a a
some_start mode doc a r = record { ready = r; turns = turns_here mode doc (statement []) a r }

module _ (mode : Mode) (doc : Text) (a b : Held) (I : SomeInv mode doc a b) where
  pub some_end : kind_in b.st ≡ end_kind → ReadsAll mode doc a b 0
  some_end k =
      record {
        same = I.turns.same;
        on = λ e old m h. let T = I.turns.on refl old m h in (T.after, (T.holding, T.same ∙ goes_ended doc b mode (statement []) T.after k));
        stop = λ z. absurd (z refl);
      }

  module _ (d : Held) (r : ℕ) (S : Statement mode doc b d r) where
    one_more : Turns mode doc (statement []) (statement []) a d r
    one_more = turns_then mode doc (statement []) (statement []) (statement []) a b d 0 r I.turns refl S.turns

    pub some_stop : (r ≡ 0 → ⊥) → ReadsAll mode doc a d r
    some_stop z = record { same = one_more.same; on = λ e. absurd (z e); stop = one_more.stop }

    pub some_again : r ≡ 0 → SomeInv mode doc a d
    some_again z = record { ready = S.turns.ready z; turns = subst (λ (x : ℕ). Turns mode doc (statement []) (statement []) a d x) z one_more }

    pub some_less : r ≡ 0 → length doc - at_in d.st < length doc - at_in b.st
    some_less z = less_left doc b d (S.turns.ready z) (S.later z)

-- A node of its own tokens alone: a term, or a string.
use mathlib.Core.Path.{◌≡◌, refl, sym, ◌∙◌}
use mathlib.Core.Bool.{Bool, true, false, ◌&&◌, ◌||◌}
use mathlib.Core.Option.{none}
use Prim.Native.Nat.{ℕ}
use native.Mathlib.Omega.{arith}
use Rattle.text.specs.Text.{Text}
use Rattle.text.proofs.Compare.{by, contrary}
use Rattle.token.specs.Kind.{Kind, end_kind, unreadable_kind, among, strings}
use Rattle.token.specs.Tokens.{Token}
use Rattle.token.proofs.KindCodes.{each_kind}
use Rattle.machine.specs.Rules.{find_rule}
use Rattle.state.specs.Words.{kind_in}
use Rattle.simulation.specs.Simulation.{code_among, here, Ready}
use Rattle.state.specs.declared.Held.{Held}
use Rattle.simulation.proofs.Tests.{kinds_of, among_any, no_rule, among_code}
use Rattle.nodes.specs.Nodes.{term_rules, Fills, Settled, PutsTerm}
use Rattle.nesting.specs.Nesting.{Leaf}

-- No term is a string by itself.
string_no_term : (t : Token) (k : Kind) → among strings k ≡ true → find_rule k (term_rules t) ≡ none
string_no_term t k h =
    no_rule (term_rules t) k
    (by (among_any (kinds_of (term_rules t)) k)
    (λ p. p ∙ (let e = each_kind (λ j. among_any (kinds_of (term_rules t)) j && among strings j) (λ j. false) refl k in contrary (rw (p, h) at e)))
    (λ p. p))

string_token : (k : ℕ) → code_among strings k ≡ true → (k ≡ end_kind → ⊥) × (k ≡ unreadable_kind → ⊥)
string_token k v = ((λ e. contrary (sym (rw e at v))), (λ e. contrary (sym (rw e at v))))

module _ (doc : Text) (a : Held) (ready : Ready doc a) where
  pub leaf_string : (b : Held) (r : ℕ) → code_among strings (kind_in a.st) ≡ true → Fills doc a b r × Settled a b r → Leaf doc a b r
  leaf_string b r v f =
      let (z, y) = string_token (kind_in a.st) v in
      let t = ready.cursor.token z y in
      let e = string_no_term (here doc a) (here doc a).kind (among_code strings (kind_in a.st) z t.known ∙ v) in
      record { puts = λ w q. (let x = sym e ∙ q in let o : ◌≡◌ {A = ℕ} 0 1 = cc in absurd (omega arith)); fills = λ _. f }

pub leaf_term : (doc : Text) (a b : Held) (r : ℕ) → code_among strings (kind_in a.st) ≡ false → PutsTerm doc a b r → Leaf doc a b r
leaf_term doc a b r v p = record { puts = p; fills = λ e. contrary (sym e ∙ v) }

-- Whether a kind is a term's, or else a string's.
pub either_first : (b x y : Bool) → b ≡ x → b ≡ true → true ≡ (x || y)
either_first b true y e f = refl
either_first b false y e f = contrary (sym f ∙ e)

pub either_second : (b c x y : Bool) → b ≡ x → b ≡ false → c ≡ y → c ≡ (x || y)
either_second b c true y e f g = contrary (sym e ∙ f)
either_second b c false y e f g = g

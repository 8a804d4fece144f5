-- What rules write only adds to rows and terms, and what is in force after a token is what the directives so far say.
use mathlib.Core.Path.{◌≡◌, refl, sym, ap, ◌∙◌, subst}
use mathlib.Core.List.{List, [], ◌∷◌, ◌++◌, append-nil, append_assoc}
use mathlib.Core.Bool.{Bool, true, false, ◌||◌}
use mathlib.Core.Option.{Option, none, some}
use Prim.Native.Nat.{ℕ, ◌+◌, ◌≤◌}
use native.Mathlib.Omega.{arith}
use lib.Dec.{T, eqb, leb→le}
use lib.ListN.{length, length-append}
use Rattle.text.specs.Text.{Text, cond}
use Rattle.text.proofs.Compare.{contrary}
use Rattle.token.specs.Kind.{Kind, kind_code, among, at_prefix, at_base, PREFIX, BASE, IRIREF, PNAME_NS, dot}
use Rattle.token.specs.Tokens.{Token}
use Rattle.token.proofs.KindCodes.{same, same_eq}
use Rattle.grammar.specs.Productions.{Mode}
use Rattle.dataset.specs.Terms.{Term, bracket as bracket_node, cell, iri, blank, literal}
use Rattle.environment.specs.Environment.{Environment}
use Rattle.dataset.specs.Constructors.{InForce, nothing, prefix_name as prefix_awaited, new_base as base_awaited, awaiting, after_token, directive_token, iri_of, prefix}
use Rattle.table.specs.Layout.{Row}
use Rattle.table.specs.Tables.{number}
use Rattle.table.proofs.Numbers.{not_none}
use Rattle.machine.specs.Memory.{Memory, Write, return, ◌>>◌, term, term_by, new_term, typed, typed_by, iri_term, row, enter, declare_prefix, declare_base}
use Rattle.machine.specs.Step.{awaited_by}
use Rattle.machine.proofs.Made.{Made, made_return, made_bind, made_then, made_most, made_term, made_iri, made_typed_by, made_row, made_enter, made_cell, made_bracket, directive_kinds, Statementlike, found_above, plain_frame, plain_statement, first_or_later, RuleIs, of_statement, of_directive, rule_is}
use Rattle.machine.specs.Frame.{object, prefix_name, namespace_of, new_base, last_dot, Open, directive, statement}
use Rattle.machine.specs.Rules.{find_rule, rules}

-- Rows and terms are only added.
pub record Extends (m m' : Memory) : Type 0 where
  pub new_rows : List Row
  pub rows : m'.rows ≡ m.rows ++ new_rows
  pub new_terms : List Term
  pub terms : m'.terms ≡ m.terms ++ new_terms

pub extends_same : (m m' : Memory) → m'.rows ≡ m.rows → m'.terms ≡ m.terms → Extends m m'
extends_same m m' p q = record { new_rows = []; rows = p ∙ sym (append-nil m.rows); new_terms = []; terms = q ∙ sym (append-nil m.terms) }

pub extends_both : {m m' m'' : Memory} → Extends m m' → Extends m' m'' → Extends m m''
extends_both {m} a b =
    record {
      new_rows = a.new_rows ++ b.new_rows;
      rows = b.rows ∙ ap (λ l. l ++ b.new_rows) a.rows ∙ append_assoc m.rows a.new_rows b.new_rows;
      new_terms = a.new_terms ++ b.new_terms;
      terms = b.terms ∙ ap (λ l. l ++ b.new_terms) a.terms ∙ append_assoc m.terms a.new_terms b.new_terms;
    }

-- The write adds, at most k rows, and leaves the environment as it is.
pub record Adds {A : Type 0} (k : ℕ) (w : Write A) : Type 0 where
  pub extends : (m : Memory) → Extends m (w m).1
  pub few : (m : Memory) → length (w m).1.rows ≤ k + length m.rows
  pub same : (m : Memory) → (w m).1.environment ≡ m.environment

pub adds_new_term : (t : Term) → Adds 0 (new_term t)
adds_new_term t =
    record {
      extends = λ m. record { new_rows = []; rows = sym (append-nil m.rows); new_terms = t ∷ []; terms = refl };
      few = λ m. omega arith;
      same = λ m. refl;
    }

pub adds_term : (t : Term) → Adds 0 (term t)
adds_term t =
    record { extends = λ m. extends m (number t m.terms); few = λ m. few m (number t m.terms); same = λ m. same_environment m (number t m.terms) }
  where
    few : (m : Memory) (o : Option ℕ) → length (term_by o t m).1.rows ≤ 0 + length m.rows
    few m none = omega arith
    few m (some n) = omega arith

    extends : (m : Memory) (o : Option ℕ) → Extends m (term_by o t m).1
    extends m none = (adds_new_term t).extends m
    extends m (some n) = extends_same m m refl refl

    same_environment : (m : Memory) (o : Option ℕ) → (term_by o t m).1.environment ≡ m.environment
    same_environment m none = refl
    same_environment m (some n) = refl

pub adds_row : (s p o at : ℕ) → Adds 1 (row s p o at)
adds_row s p o at =
    record {
      extends =
          λ m.
          record {
            new_rows = record { graph = m.graph; subject = s; predicate = p; object = o; position = at } ∷ [];
            rows = refl;
            new_terms = [];
            terms = sym (append-nil m.terms);
          };
      few = λ m. omega (arith, length-append m.rows (record { graph = m.graph; subject = s; predicate = p; object = o; position = at } ∷ []));
      same = λ m. refl;
    }

adds_enter : (g : ℕ) → Adds 0 (enter g)
adds_enter g = record { extends = λ m. extends_same m (enter g m).1 refl refl; few = λ m. omega arith; same = λ m. refl }

adds_iri_term : (t : Token) → Adds 0 (iri_term t)
adds_iri_term t = record { extends = λ m. (adds_term (iri (iri_of m.environment t))).extends m; few = λ m. (adds_term (iri (iri_of m.environment t))).few m; same = λ m. (adds_term (iri (iri_of m.environment t))).same m }

adds_typed : (s d : Text) → Adds 0 (typed s d)
adds_typed s d =
    let x = adds_term (iri d) in
    let y = adds_term (literal s d) in
    record {
      extends = λ m. extends_both (x.extends m) (y.extends (term (iri d) m).1);
      few = λ m. let p = x.few m in let q = y.few (term (iri d) m).1 in omega arith;
      same = λ m. y.same (term (iri d) m).1 ∙ x.same m;
    }

adds_typed_by : (s : Text) (t : Token) → Adds 0 (typed_by s t)
adds_typed_by s t = record { extends = λ m. (adds_typed s (iri_of m.environment t)).extends m; few = λ m. (adds_typed s (iri_of m.environment t)).few m; same = λ m. (adds_typed s (iri_of m.environment t)).same m }

-- So does every write that is made as rules are.
adds : {at : ℕ} {A : Type 0} {k : ℕ} {c b c' b' : Bool} {w : Write A} → Made at A k c b c' b' w → Adds k w
adds (made_return a) = record { extends = λ m. extends_same m m refl refl; few = λ m. omega arith; same = λ m. refl }
adds (made_bind {w = w} x y) =
    let a = adds x in
    record {
      extends = λ m. extends_both (a.extends m) ((adds (y (w m).0)).extends (w m).1);
      few = λ m. let p = a.few m in let q = (adds (y (w m).0)).few (w m).1 in omega arith;
      same = λ m. (adds (y (w m).0)).same (w m).1 ∙ a.same m;
    }
adds (made_then {w = w} x y) =
    let a = adds x in
    let b = adds y in
    record {
      extends = λ m. extends_both (a.extends m) (b.extends (w m).1);
      few = λ m. let p = a.few m in let q = b.few (w m).1 in omega arith;
      same = λ m. b.same (w m).1 ∙ a.same m;
    }
adds (made_most x) = let a = adds x in record { extends = a.extends; few = λ m. let p = a.few m in omega arith; same = a.same }
adds (made_term t h) = adds_term t
adds (made_iri t) = adds_iri_term t
adds (made_typed_by s t) = adds_typed_by s t
adds (made_row s p o q) = adds_row s p o q
adds (made_enter g) = adds_enter g
adds {at} made_cell = adds_new_term (blank (cell at))
adds {at} made_bracket = adds_new_term (blank (bracket_node at))

-- ---- What is in force after a token

no_directive : {A : Type 0} (a b c d : Bool) (x y z : A) → (a || (b || (c || (d || false)))) ≡ false → cond (a || (b || false)) x (cond (c || (d || false)) y z) ≡ z
no_directive true b c d x y z h = contrary h
no_directive false true c d x y z h = contrary h
no_directive false false true d x y z h = contrary h
no_directive false false false true x y z h = contrary h
no_directive false false false false x y z h = refl

-- Where the kind begins no directive and none is open, the environment stays.
after_plain : (t : Token) (e : Environment) → among directive_kinds t.kind ≡ false → after_token (awaiting nothing e) t ≡ awaiting nothing e
after_plain t e h =
    no_directive (eqb 5 (kind_code t.kind)) (eqb 16 (kind_code t.kind)) (eqb 6 (kind_code t.kind)) (eqb 17 (kind_code t.kind))
    (awaiting prefix_awaited e) (awaiting base_awaited e) (awaiting nothing e) h

-- What is in force after a token of a kind.
after_kind : (f : InForce) (t : Token) (k : Kind) → t.kind ≡ k
    → after_token f t
    ≡ cond (among (at_prefix ∷ PREFIX ∷ []) k) (awaiting prefix_awaited f.environment)
    (cond (among (at_base ∷ BASE ∷ []) k) (awaiting base_awaited f.environment) (directive_token f.awaited f.environment t))
after_kind f t k p =
    ap
    (λ j.
    cond (among (at_prefix ∷ PREFIX ∷ []) j) (awaiting prefix_awaited f.environment)
    (cond (among (at_base ∷ BASE ∷ []) j) (awaiting base_awaited f.environment) (directive_token f.awaited f.environment t)))
    p

only : (j k : Kind) → among (j ∷ []) k ≡ true → k ≡ j
unfolding same
only j k h = sym (same_eq j k (go (same j k) h))
  where
    go : (b : Bool) → (b || false) ≡ true → T b
    go true e = tt
    go false e = contrary (sym e)

module _ (t : Token) (tied : Bool) (mode : Mode) (m : Memory) where
  abbrev InForceAfter : Open → Write Open → Type 0
  InForceAfter o w = awaiting (awaited_by (w m).0) (w m).1.environment ≡ after_token (awaiting (awaited_by o) m.environment) t

  after_statement : (o : Open) (w : Write Open) → awaited_by o ≡ nothing → Statementlike t.start t.kind w → InForceAfter o w
  after_statement o w n x =
      let (fs, p) = x.is_statement m in
      (λ i. awaiting (awaited_by (p i)) ((adds x.few.made).same m i)) ∙ sym (after_plain t m.environment x.no_directive) ∙ (λ i. after_token (awaiting (sym n i) m.environment) t)

  -- A rule of one kind whose effect is known.
  by_kind : (o : Open) (k : Kind) (v w : Write Open) → among (k ∷ []) t.kind ≡ true → v ≡ w
      → awaiting (awaited_by (v m).0) (v m).1.environment
      ≡ cond (among (at_prefix ∷ PREFIX ∷ []) k) (awaiting prefix_awaited m.environment)
      (cond (among (at_base ∷ BASE ∷ []) k) (awaiting base_awaited m.environment) (directive_token (awaited_by o) m.environment t))
      → InForceAfter o w
  by_kind o k v w h e p = subst (InForceAfter o) e (p ∙ sym (after_kind (awaiting (awaited_by o) m.environment) t k (only k t.kind h)))

  pub in_force_rule : (o : Open) (w : Write Open) → find_rule t.kind (rules t tied mode o) ≡ some w → InForceAfter o w
  unfolding rules
  in_force_rule (statement (f ∷ K)) w e = after_statement (statement (f ∷ K)) w refl (found_above t tied t.kind K (plain_frame t tied f) w e)
  in_force_rule (statement []) w e =
      first_or_later (among (at_prefix ∷ []) t.kind) e (λ h q. by_kind (statement []) at_prefix (return (directive (prefix_name true))) w h q refl)
      (λ e₁.
      first_or_later (among (PREFIX ∷ []) t.kind) e₁ (λ h q. by_kind (statement []) PREFIX (return (directive (prefix_name false))) w h q refl)
      (λ e₂.
      first_or_later (among (at_base ∷ []) t.kind) e₂ (λ h q. by_kind (statement []) at_base (return (directive (new_base true))) w h q refl)
      (λ e₃.
      first_or_later (among (BASE ∷ []) t.kind) e₃ (λ h q. by_kind (statement []) BASE (return (directive (new_base false))) w h q refl)
      (λ e₄. after_statement (statement []) w refl (found_above t tied t.kind [] (plain_statement t tied mode) w e₄)))))
  in_force_rule (directive (prefix_name d)) w e =
      first_or_later (among (PNAME_NS ∷ []) t.kind) e
      (λ h q. by_kind (directive (prefix_name d)) PNAME_NS (return (directive (namespace_of (prefix t) d))) w h q refl) (λ x. not_none x)
  in_force_rule (directive (namespace_of p true)) w e =
      first_or_later (among (IRIREF ∷ []) t.kind) e
      (λ h q. by_kind (directive (namespace_of p true)) IRIREF (declare_prefix p t >> return (directive last_dot)) w h q refl) (λ x. not_none x)
  in_force_rule (directive (namespace_of p false)) w e =
      first_or_later (among (IRIREF ∷ []) t.kind) e
      (λ h q. by_kind (directive (namespace_of p false)) IRIREF (declare_prefix p t >> return (statement [])) w h q refl) (λ x. not_none x)
  in_force_rule (directive (new_base true)) w e =
      first_or_later (among (IRIREF ∷ []) t.kind) e
      (λ h q. by_kind (directive (new_base true)) IRIREF (declare_base t >> return (directive last_dot)) w h q refl) (λ x. not_none x)
  in_force_rule (directive (new_base false)) w e =
      first_or_later (among (IRIREF ∷ []) t.kind) e
      (λ h q. by_kind (directive (new_base false)) IRIREF (declare_base t >> return (statement [])) w h q refl) (λ x. not_none x)
  in_force_rule (directive last_dot) w e =
      first_or_later (among (dot ∷ []) t.kind) e (λ h q. by_kind (directive last_dot) dot (return (statement [])) w h q refl) (λ x. not_none x)

-- ---- Every rule only adds rows and terms, and two rows at the most

abbrev Grown : Memory → Memory → Type 0
Grown m m' = Extends m m' × (length m'.rows ≤ 2 + length m.rows)

grown : (at : ℕ) (k : Kind) (w : Write Open) → RuleIs at k w → (m : Memory) → Grown m (w m).1
grown at k w (of_statement x) m = ((adds x.few.made).extends m, (let h = leb→le x.few.most 2 x.few.bound in let q = (adds x.few.made).few m in omega arith))
grown at k w (of_directive f) m = (extends_same m (w m).1 (f m).0 (f m).1, (let h = ap length (f m).0 in omega arith))

module _ (t : Token) (tied : Bool) (mode : Mode) (m : Memory) (o : Open) (w : Write Open) (e : find_rule t.kind (rules t tied mode o) ≡ some w) where
  pub extends_rule : Extends m (w m).1
  extends_rule = (grown t.start t.kind w (rule_is t tied mode o w e) m).0

  pub two_rows : length (w m).1.rows ≤ 2 + length m.rows
  two_rows = (grown t.start t.kind w (rule_is t tied mode o w e) m).1

-- Each name stands under the latest directive before it: what a derivation's parts are constructed under is what the tokens before them put in force,
-- and no token of a part that is no directive changes it.
use mathlib.Core.Path.{◌≡◌, refl, sym, ap, ap₂, ◌∙◌, subst}
use mathlib.Core.List.{List, [], ◌∷◌, ◌++◌}
use mathlib.Core.Bool.{Bool, true, false, not, ◌&&◌, ◌||◌}
use lib.Dec.{T, eqb}
use Rattle.text.specs.Text.{Text, cond}
use Rattle.text.proofs.Booleans.{all, and_0, and_1}
use Rattle.text.proofs.Compare.{contrary}
use Rattle.token.specs.Kind.{Kind, kind_code, among, at_prefix, at_base, PREFIX, BASE, IRIREF, PNAME_NS, dot}
use Rattle.token.specs.Tokens.{Token}
use Rattle.grammar.specs.Ebnf.{Expr, tok, nt, ◌⨾◌, ◌∣◌, star, opt, Tree, leaves, leaf, node, both, left, right, done, more, absent, present}
use Rattle.grammar.specs.Meaning.{Parts, meaning}
use Rattle.grammar.specs.Productions.{Nonterminal, Mode, trig, turtle, production, root, kind_of, Derivation, trigDoc, block, turtleDoc, statement, directive, prefixID, base as base_nt, sparqlPrefix, sparqlBase}
use Rattle.grammar.proofs.Nonterminals.{nonterminals, nonterminal_code, each_nonterminal}
use Rattle.environment.specs.Environment.{Environment, declare, set_base, start_environment}
use Rattle.dataset.specs.Terms.{Quad}
use Rattle.dataset.specs.Constructors.{InForce, nothing, prefix_name, new_base, namespace_of, awaiting, directive_token, after_token, after_tokens, in_force, prefix, iri_of}
use Rattle.dataset.specs.Statements.{Value, action, trig_quads, turtle_quads, statements}
use Rattle.dataset.specs.Latest.{block_quads, statement_quads, quads_under_tokens}

-- The kinds that begin a directive.
abbrev pub directive_kinds : List Kind
directive_kinds = at_prefix ∷ PREFIX ∷ at_base ∷ BASE ∷ []

-- ---- What is in force after a token

no_directive : {A : Type 0} (a b c d : Bool) (x y z : A) → (a || (b || (c || (d || false)))) ≡ false → cond (a || (b || false)) x (cond (c || (d || false)) y z) ≡ z
no_directive true b c d x y z h = contrary h
no_directive false true c d x y z h = contrary h
no_directive false false true d x y z h = contrary h
no_directive false false false true x y z h = contrary h
no_directive false false false false x y z h = refl

-- Where the kind begins no directive and none is open, the environment stays.
pub after_plain : (t : Token) (e : Environment) → among directive_kinds t.kind ≡ false → after_token (awaiting nothing e) t ≡ awaiting nothing e
after_plain t e h =
    no_directive (eqb 5 (kind_code t.kind)) (eqb 16 (kind_code t.kind)) (eqb 6 (kind_code t.kind)) (eqb 17 (kind_code t.kind))
    (awaiting prefix_name e) (awaiting new_base e) (awaiting nothing e) h

-- What is in force after a token of a kind.
pub after_kind : (f : InForce) (t : Token) (k : Kind) → t.kind ≡ k
    → after_token f t
    ≡ cond (among (at_prefix ∷ PREFIX ∷ []) k) (awaiting prefix_name f.environment)
    (cond (among (at_base ∷ BASE ∷ []) k) (awaiting new_base f.environment) (directive_token f.awaited f.environment t))
after_kind f t k p =
    ap
    (λ j.
    cond (among (at_prefix ∷ PREFIX ∷ []) j) (awaiting prefix_name f.environment)
    (cond (among (at_base ∷ BASE ∷ []) j) (awaiting new_base f.environment) (directive_token f.awaited f.environment t)))
    p

pub after_both : (f : InForce) (xs ys : List Token) → after_tokens f (xs ++ ys) ≡ after_tokens (after_tokens f xs) ys
unfolding after_tokens
after_both f [] ys = refl
after_both f (x ∷ xs) ys = after_both (after_token f x) xs ys

-- ---- Tokens that begin no directive

abbrev Quiet : List Token → Type 0
Quiet [] = Unit {0}
Quiet (t ∷ ts) = (among directive_kinds t.kind ≡ false) × Quiet ts

quiet_both : (xs ys : List Token) → Quiet xs → Quiet ys → Quiet (xs ++ ys)
quiet_both [] ys p q = q
quiet_both (x ∷ xs) ys p q = (p.0, quiet_both xs ys p.1 q)

quiet_front : (xs ys : List Token) → Quiet (xs ++ ys) → Quiet xs
quiet_front [] ys p = tt
quiet_front (x ∷ xs) ys p = (p.0, quiet_front xs ys p.1)

quiet_stays : (e : Environment) (ts : List Token) → Quiet ts → after_tokens (awaiting nothing e) ts ≡ awaiting nothing e
unfolding after_tokens
quiet_stays e [] p = refl
quiet_stays e (t ∷ ts) p = ap (λ (f : InForce). after_tokens f ts) (after_plain t e p.0) ∙ quiet_stays e ts p.1

-- ---- The parts that are no directives

-- All nonterminals but those of documents, statements and directives.
unfoldable pub quiet_nonterminal : Nonterminal → Bool
unfolding nonterminal_code
quiet_nonterminal n = all (λ (m : Nonterminal). not (eqb (nonterminal_code m) (nonterminal_code n))) (trigDoc ∷ turtleDoc ∷ statement ∷ directive ∷ prefixID ∷ base_nt ∷ sparqlPrefix ∷ sparqlBase ∷ [])

abbrev pub quiet_expression : Expr Kind Nonterminal → Bool
quiet_expression (tok k) = not (among directive_kinds k)
quiet_expression (nt n) = quiet_nonterminal n
quiet_expression (e ⨾ f) = quiet_expression e && quiet_expression f
quiet_expression (e ∣ f) = quiet_expression e && quiet_expression f
quiet_expression (star e) = quiet_expression e
quiet_expression (opt e) = quiet_expression e

implied : (a b : Bool) → T (not a || b) → T a → T b
implied true b t u = t
implied false b t u = absurd u

is_false : (b : Bool) → T (not b) → b ≡ false
is_false true t = absurd t
is_false false t = refl

quiet_production : (mode : Mode) (n : Nonterminal) → T (quiet_nonterminal n) → T (quiet_expression (production mode n))
unfolding all nonterminals nonterminal_code quiet_nonterminal production
quiet_production trig n = implied (quiet_nonterminal n) _ (each_nonterminal (λ m. not (quiet_nonterminal m) || quiet_expression (production trig m)) tt n)
quiet_production turtle n = implied (quiet_nonterminal n) _ (each_nonterminal (λ m. not (quiet_nonterminal m) || quiet_expression (production turtle m)) tt n)

module _ (mode : Mode) where
  abbrev Part : Expr Kind Nonterminal → Type 0
  Part e = Tree kind_of (production mode) e

  abbrev tokens : {e : Expr Kind Nonterminal} → Part e → List Token
  tokens x = leaves kind_of (production mode) x

  quiet_leaves : {e : Expr Kind Nonterminal} (x : Part e) → T (quiet_expression e) → Quiet (tokens x)
  unfolding leaves
  quiet_leaves (leaf {k = k} t p) h = (ap (among directive_kinds) p ∙ is_false (among directive_kinds k) h, tt)
  quiet_leaves (node n x) h = quiet_leaves x (quiet_production mode n h)
  quiet_leaves (both {e = e} {f = f} x y) h = quiet_both (tokens x) (tokens y) (quiet_leaves x (and_0 (quiet_expression e) (quiet_expression f) h)) (quiet_leaves y (and_1 (quiet_expression e) (quiet_expression f) h))
  quiet_leaves (left {e = e} {f = f} x) h = quiet_leaves x (and_0 (quiet_expression e) (quiet_expression f) h)
  quiet_leaves (right {e = e} {f = f} y) h = quiet_leaves y (and_1 (quiet_expression e) (quiet_expression f) h)
  quiet_leaves done h = tt
  quiet_leaves (more x y) h = quiet_both (tokens x) (tokens y) (quiet_leaves x h) (quiet_leaves y h)
  quiet_leaves absent h = tt
  quiet_leaves (present x) h = quiet_leaves x h

  -- ---- A directive

  abbrev value : {e : Expr Kind Nonterminal} → Part e → Parts Token Value e
  value x = meaning Value (action mode) x

  -- The tokens of a part declare what its value does.
  abbrev Declares : (Environment → Environment) → List Token → Type 0
  Declares f ts = (e : Environment) → after_tokens (awaiting nothing e) ts ≡ awaiting nothing (f e)

  prefix_declared : (x : Part (production mode prefixID)) → Declares (action mode prefixID (value x)) (tokens x)
  unfolding production leaves meaning after_tokens
  prefix_declared (both (leaf t p) (both (leaf u q) (both (leaf i r) (leaf d s)))) e =
      ap (λ (f : InForce). after_tokens f (u ∷ i ∷ d ∷ [])) (after_kind (awaiting nothing e) t at_prefix p)
      ∙ ap (λ (f : InForce). after_tokens f (i ∷ d ∷ [])) (after_kind (awaiting prefix_name e) u PNAME_NS q)
      ∙ ap (λ (f : InForce). after_tokens f (d ∷ [])) (after_kind (awaiting (namespace_of (prefix u)) e) i IRIREF r)
      ∙ after_kind (awaiting nothing (declare (prefix u) (iri_of e i) e)) d dot s

  base_declared : (x : Part (production mode base_nt)) → Declares (action mode base_nt (value x)) (tokens x)
  unfolding production leaves meaning after_tokens
  base_declared (both (leaf t p) (both (leaf i r) (leaf d s))) e =
      ap (λ (f : InForce). after_tokens f (i ∷ d ∷ [])) (after_kind (awaiting nothing e) t at_base p)
      ∙ ap (λ (f : InForce). after_tokens f (d ∷ [])) (after_kind (awaiting new_base e) i IRIREF r)
      ∙ after_kind (awaiting nothing (set_base (iri_of e i) e)) d dot s

  sparql_prefix_declared : (x : Part (production mode sparqlPrefix)) → Declares (action mode sparqlPrefix (value x)) (tokens x)
  unfolding production leaves meaning after_tokens
  sparql_prefix_declared (both (leaf t p) (both (leaf u q) (leaf i r))) e =
      ap (λ (f : InForce). after_tokens f (u ∷ i ∷ [])) (after_kind (awaiting nothing e) t PREFIX p)
      ∙ ap (λ (f : InForce). after_tokens f (i ∷ [])) (after_kind (awaiting prefix_name e) u PNAME_NS q)
      ∙ after_kind (awaiting (namespace_of (prefix u)) e) i IRIREF r

  sparql_base_declared : (x : Part (production mode sparqlBase)) → Declares (action mode sparqlBase (value x)) (tokens x)
  unfolding production leaves meaning after_tokens
  sparql_base_declared (both (leaf t p) (leaf i r)) e =
      ap (λ (f : InForce). after_tokens f (i ∷ [])) (after_kind (awaiting nothing e) t BASE p)
      ∙ after_kind (awaiting new_base e) i IRIREF r

  directive_declared : (d : Part (nt directive)) → Declares (value d) (tokens d)
  unfolding production leaves meaning
  directive_declared (node n x) = one x
    where
      one : (x : Part (production mode directive)) → Declares (action mode directive (value x)) (tokens x)
      one (left (node m y)) = prefix_declared y
      one (right (left (node m y))) = base_declared y
      one (right (right (left (node m y)))) = sparql_prefix_declared y
      one (right (right (right (node m y)))) = sparql_base_declared y

-- ---- Documents

module _ (base : Text) where
  -- The tokens before leave no directive open, and e in force.
  abbrev Leaves : List Token → Environment → Type 0
  Leaves before e = in_force base before ≡ awaiting nothing e

  on : (before ts : List Token) (e e' : Environment) → Leaves before e → after_tokens (awaiting nothing e) ts ≡ awaiting nothing e' → Leaves (before ++ ts) e'
  unfolding in_force
  on before ts e e' h p = after_both (awaiting nothing (start_environment base)) before ts ∙ ap (λ (f : InForce). after_tokens f ts) h ∙ p

  same_blocks : (before : List Token) (e : Environment) (xs : Part trig (star (nt directive ∣ nt block))) → Leaves before e → trig_quads (value trig xs) e ≡ block_quads base before xs
  unfolding meaning trig_quads block_quads leaves nonterminal_code quiet_nonterminal all
  same_blocks before e done h = refl
  same_blocks before e (more (left d) xs) h = same_blocks (before ++ tokens trig d) (value trig d e) xs (on before (tokens trig d) e (value trig d e) h (directive_declared trig d e))
  same_blocks before e (more (right b) xs) h =
      ap₂ (λ (ps qs : List Quad). ps ++ qs) (ap (λ (f : InForce). value trig b f.environment) (sym h))
      (same_blocks (before ++ tokens trig b) e xs (on before (tokens trig b) e e h (quiet_stays e (tokens trig b) (quiet_leaves trig b tt))))

  statement_declared : (s : Part turtle (nt statement)) → Declares turtle (λ e. (value turtle s e).0) (tokens turtle s)
  unfolding leaves meaning production nonterminal_code quiet_nonterminal all
  statement_declared (node n x) = one x
    where
      one : (x : Part turtle (production turtle statement)) → Declares turtle (λ e. (action turtle statement (value turtle x) e).0) (tokens turtle x)
      one (left d) e = directive_declared turtle d e
      one (right (both ts d)) e = quiet_stays e (tokens turtle (both ts d)) (quiet_leaves turtle (both ts d) tt)

  same_statements : (before : List Token) (e : Environment) (xs : Part turtle (star (nt statement))) → Leaves before e → turtle_quads (value turtle xs) e ≡ statement_quads base before xs
  unfolding meaning turtle_quads statement_quads leaves nonterminal_code quiet_nonterminal all production
  same_statements before e done h = refl
  same_statements before e (more s xs) h =
      ap₂ (λ (ps qs : List Quad). ps ++ qs) (ap (λ (f : InForce). (value turtle s f.environment).1) (sym h))
      (same_statements (before ++ tokens turtle s) (value turtle s e).0 xs (on before (tokens turtle s) e (value turtle s e).0 h (statement_declared s e)))

  start : Leaves [] (start_environment base)
  unfolding in_force after_tokens
  start = refl

  -- The statements that a derivation constructs, each part under the directives before it in the tree, are those of its parts under what the
  -- tokens before put in force.
  pub latest : (mode : Mode) (x : Derivation mode) → statements mode x base ≡ quads_under_tokens base mode x
  unfolding root production statements quads_under_tokens meaning
  latest trig (node n xs) = same_blocks [] (start_environment base) xs start
  latest turtle (node n xs) = same_statements [] (start_environment base) xs start

  -- Within a part that is no directive nothing changes it: at each of its tokens the same is in force.
  pub unchanged : (mode : Mode) (e : Expr Kind Nonterminal) → T (quiet_expression e) → (x : Part mode e) (before us vs : List Token) → (in_force base before).awaited ≡ nothing
      → tokens mode x ≡ us ++ vs → in_force base (before ++ us) ≡ in_force base before
  unchanged mode e q x before us vs h p =
      let f = in_force base before in
      let same : f ≡ awaiting nothing f.environment = λ i. record { environment = f.environment; awaited = h i } in
      on before us f.environment f.environment same (quiet_stays f.environment us (quiet_front us vs (subst Quiet p (quiet_leaves mode x q)))) ∙ sym same

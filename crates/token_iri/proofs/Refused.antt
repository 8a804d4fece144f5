-- The refusals by the facts that the code finds.
use Prim.Native.Nat.{ℕ, suc, ◌≤◌}
use mathlib.Core.Path.{◌≡◌, refl, sym, ◌∙◌, subst}
use mathlib.Core.List.{List, [], ◌∷◌, ◌++◌}
use mathlib.Core.Bool.{true, false, not, ◌&&◌}
use mathlib.Core.Option.{none, some}
use native.Mathlib.Omega.{arith}
use lib.ListN.{length, take, drop}
use lib.Dec.{eqb, ltb, leb}
use borrow.Author.Tests.{eqb-true, eqb-false}
use Rattle.text.specs.Text.{Text, cond, is, is_none, same_text}
use Rattle.text.proofs.Compare.{by}
use Rattle.limits.specs.Limits.{iri_limit, prefixes_limit}
use Rattle.token.specs.Kind.{kind_code, IRIREF, names, strings, PNAME_NS, PNAME_LN}
use Rattle.token.specs.Tokens.{Token, has_kind}
use Rattle.escape.specs.Escape.{bad_escape, unescape, unreserve}
use Rattle.iri.specs.Resolve.{resolved}
use Rattle.iri.specs.Code.{before}
use Rattle.std.specs.Prelude.{Ok, Err}
use Rattle.iri.specs.declared.ResolveError.TheVariants.{Long, NoBase}
use Rattle.iri.proofs.Places.{until_take, from_drop}
use Rattle.environment.specs.Environment.{Binding, Environment, lookup}
use Rattle.environment.specs.Code.{is_declared}
use Rattle.dataset.specs.Constructors.{inner, reference, prefix, local, resolved_reference, joined_name, iri_of, InForce, Awaited, nothing, namespace_of, awaiting}
use Rattle.machine.specs.Refusals.{declared_name, no_character, undeclared, no_base, too_long, one_prefix_more, escape_tests, iri_tests, prefix_tests}
use Rattle.machine.proofs.Firsts.{number_past, number_stands}
use Rattle.token_iri.specs.Tests.{token_as, iri_refusal, namespace_refusal, outcome}
use Rattle.token_iri.proofs.Bases.{outcome_no_base, outcome_long, outcome_written}

-- ---- An IRIREF

pub iriref_iri : (e : Environment) (at : ℕ) (s : Text) → iri_of e (token_as 1 at s) ≡ resolved e.base (unescape (inner 1 s))
unfolding iri_of resolved_reference reference
iriref_iri e at s = refl

-- Where it is awaited as `a`, but for a declared prefix.
module _ (e : Environment) (at : ℕ) (s : Text) (a : Awaited) (n : declared_name a ≡ false) where
  pub iri_bad : bad_escape s ≡ true → 7 ≡ iri_refusal (awaiting a e) (token_as 1 at s)
  unfolding iri_refusal no_character
  iri_bad h = rw h

  module _ (h : bad_escape s ≡ false) where
    pub iri_no_base : Err NoBase ≡ outcome e.base (unescape (inner 1 s)) → 10 ≡ iri_refusal (awaiting a e) (token_as 1 at s)
    unfolding iri_refusal no_character undeclared no_base reference
    iri_no_base o = rw (h, outcome_no_base e.base (unescape (inner 1 s)) o)

    pub iri_long : Err Long ≡ outcome e.base (unescape (inner 1 s)) → 11 ≡ iri_refusal (awaiting a e) (token_as 1 at s)
    unfolding iri_refusal no_character undeclared no_base too_long reference
    iri_long o = let w = outcome_long e.base (unescape (inner 1 s)) o in rw (h, w.based, w.long)

    pub iri_written : (k : ℕ) → Ok k ≡ outcome e.base (unescape (inner 1 s)) → 0 ≡ iri_refusal (awaiting a e) (token_as 1 at s)
    unfolding iri_refusal no_character undeclared no_base too_long reference
    iri_written k o = let w = outcome_written e.base (unescape (inner 1 s)) k o in rw (h, w.based, w.short, n)

-- A namespace: the refusals of its IRI, then 12.
module _ (f : InForce) (t : Token) where
  pub namespace_stops : (c : ℕ) → suc c ≡ iri_refusal f t → suc c ≡ namespace_refusal f t
  unfolding iri_refusal namespace_refusal
  namespace_stops c e = e ∙ sym (number_stands (escape_tests t ++ iri_tests f t) (prefix_tests f) (λ z. omega (arith, e, z)))

  pub namespace_last : 0 ≡ iri_refusal f t → cond (one_prefix_more f) 12 0 ≡ namespace_refusal f t
  unfolding iri_refusal namespace_refusal
  namespace_last e = by (one_prefix_more f) (λ m. rw m) (λ m. rw m) ∙ sym (number_past (escape_tests t ++ iri_tests f t) (prefix_tests f) refl (sym e))

-- "a 33rd distinct prefix", as the code counts.
declared_none : (p : Text) (bs : List Binding) → is_none (lookup p bs) ≡ not (is_declared p bs)
unfolding lookup is_declared
declared_none p [] = refl
declared_none p (b ∷ bs) = by (same_text p b.prefix) (λ e. rw e) (λ e. rw e (declared_none p bs))

pub one_more : (e : Environment) (p : Text) → one_prefix_more (awaiting (namespace_of p) e) ≡ (not (is_declared p e.namespaces) && leb prefixes_limit (length e.namespaces))
unfolding one_prefix_more
one_more e p = rw (declared_none p e.namespaces)

-- ---- A prefixed name

two_or_three : (P : ℕ → Type 0) → P (kind_code PNAME_NS) → P (kind_code PNAME_LN) → (kind : ℕ) → kind_code PNAME_NS ≤ kind → kind ≤ kind_code PNAME_LN → P kind
two_or_three P two three kind l m =
    by (eqb kind (kind_code PNAME_NS)) (λ e. subst P (sym (eqb-true kind (kind_code PNAME_NS) e)) two) (λ e. subst P (third (eqb-false kind (kind_code PNAME_NS) e)) three)
  where
    third : (kind ≡ kind_code PNAME_NS → ⊥) → kind_code PNAME_LN ≡ kind
    third n = by (eqb kind (kind_code PNAME_LN)) (λ e. sym (eqb-true kind (kind_code PNAME_LN) e)) (λ e. absurd (omega (arith, n, eqb-false kind (kind_code PNAME_LN) e)))

module _ (e : Environment) (t : Token) (name : has_kind names t ≡ true) (other : has_kind (IRIREF ∷ []) t ≡ false) (escapes : has_kind (IRIREF ∷ strings) t ≡ false) where
  missing_refused : lookup (prefix t) e.namespaces ≡ none → 9 ≡ iri_refusal (awaiting nothing e) t
  unfolding iri_refusal no_character undeclared
  missing_refused m = rw (escapes, name, m)

  module _ (ns : Text) (found : lookup (prefix t) e.namespaces ≡ some ns) where
    name_joined : joined_name e t ≡ ns ++ local t
    unfolding joined_name
    name_joined = rw found

    name_is : iri_of e t ≡ ns ++ local t
    unfolding iri_of
    name_is = rw other name_joined

    name_refusal : cond (ltb iri_limit (length (ns ++ local t))) 11 0 ≡ iri_refusal (awaiting nothing e) t
    unfolding iri_refusal no_character undeclared no_base too_long
    name_refusal = rw (escapes, name, found, other, name_joined) (by (ltb iri_limit (length (ns ++ local t))) (λ h. rw h) (λ h. rw h))

module _ (e : Environment) (kind at : ℕ) (s : Text) (least : kind_code PNAME_NS ≤ kind) (most : kind ≤ kind_code PNAME_LN) (i : ℕ) (colon : i ≡ before (is ":") s) where
  is_name : has_kind names (token_as kind at s) ≡ true
  is_name = two_or_three (λ k. has_kind names (token_as k at s) ≡ true) refl refl kind least most

  no_reference : has_kind (IRIREF ∷ []) (token_as kind at s) ≡ false
  no_reference = two_or_three (λ k. has_kind (IRIREF ∷ []) (token_as k at s) ≡ false) refl refl kind least most

  no_escapes : has_kind (IRIREF ∷ strings) (token_as kind at s) ≡ false
  no_escapes = two_or_three (λ k. has_kind (IRIREF ∷ strings) (token_as k at s) ≡ false) refl refl kind least most

  prefix_is : prefix (token_as kind at s) ≡ take i s
  unfolding prefix
  prefix_is = until_take (is ":") s ∙ rw colon

  local_is : local (token_as kind at s) ≡ unreserve (drop 1 (drop i s))
  unfolding local
  local_is = rw (from_drop (is ":") s, colon)

  pub name_missing : lookup (take i s) e.namespaces ≡ none → 9 ≡ iri_refusal (awaiting nothing e) (token_as kind at s)
  name_missing m = missing_refused e (token_as kind at s) is_name no_reference no_escapes (rw prefix_is m)

  module _ (ns : Text) (m : lookup (take i s) e.namespaces ≡ some ns) where
    found : lookup (prefix (token_as kind at s)) e.namespaces ≡ some ns
    found = rw prefix_is m

    pub name_iri : iri_of e (token_as kind at s) ≡ ns ++ unreserve (drop 1 (drop i s))
    name_iri = name_is e (token_as kind at s) is_name no_reference no_escapes ns found ∙ rw local_is

    pub name_refused : cond (ltb iri_limit (length (ns ++ unreserve (drop 1 (drop i s))))) 11 0 ≡ iri_refusal (awaiting nothing e) (token_as kind at s)
    name_refused = rw (← local_is) (name_refusal e (token_as kind at s) is_name no_reference no_escapes ns found)

-- The IRIs that tokens stand for have a scheme, are short and UTF-8: so are namespaces and bases, which are resolved when declared.
use mathlib.Core.Path.{◌≡◌, refl, sym, ap, ◌∙◌}
use mathlib.Core.Logic.{◌⊎◌, ⊎_elim}
use mathlib.Core.Bool.{Bool, true, false, not, ◌||◌}
use mathlib.Core.List.{List, [], ◌∷◌, ◌++◌}
use Prim.Native.Nat.{ℕ}
use native.Mathlib.Omega.{arith}
use borrow.Author.Tests.{eqb-true}
use lib.Dec.{eqb}
use Rattle.text.specs.Text.{Text, ascii, is, empty, is_none, same_text, until, from}
use Rattle.text.proofs.Compare.{and_left, and_right, contrary}
use Rattle.utf8.proofs.Tests.{by}
use Rattle.token.specs.Kind.{kind_code, among, names, iris, strings, IRIREF, LANGTAG, BLANK_NODE_LABEL}
use Rattle.token.specs.Tokens.{Token, has_kind}
use Rattle.iri.specs.Iri.{letter, scheme_byte, first_is, has_scheme, scheme, after_scheme}
use Rattle.iri.specs.Dots.{remove_dot_segments}
use Rattle.iri.specs.Resolve.{parts, transform, recompose, resolve_by, resolve, resolved}
use Rattle.environment.specs.Environment.{Binding, Environment, lookup, bound}
use Rattle.dataset.specs.Constructors.{string_text, tag, node_label, reference, prefix, local, or_empty, resolved_reference, joined_name, iri_of, Awaited, nothing, awaiting}
use Rattle.table.specs.Usable.{is_tag, for_long_form}
use Rattle.machine.specs.Refusals.{no_character, undeclared, no_base, too_long}
use Rattle.machine.proofs.Sizes.{iri_short}
use Rattle.readback.proofs.Forms.{GoodIri}
use Rattle.readback.proofs.Texts.{Utf8, utf8_append, utf8_behind, utf8_unreserve, utf8_resolve, is_low}
use Rattle.readback.proofs.Rules.{Told}

-- ---- Schemes

first_more : (p : ℕ → Bool) (s t : Text) → first_is p s ≡ true → first_is p (s ++ t) ≡ true
first_more p [] t e = contrary (sym e)
first_more p (c ∷ s) t e = e

from_more : (p q : ℕ → Bool) (s t : Text) → first_is q (from p s) ≡ true → first_is q (from p (s ++ t)) ≡ true
unfolding from
from_more p q [] t e = contrary (sym e)
from_more p q (c ∷ s) t e = by (p c) (λ f. rw f (rw f at e)) (λ f. rw f (from_more p q s t (rw f at e)))

-- A text with a scheme has one whatever follows it.
pub scheme_more : (s t : Text) → has_scheme s ≡ true → has_scheme (s ++ t) ≡ true
unfolding has_scheme
scheme_more s t e =
    let a = and_left (first_is letter s) (first_is (is ":") (from (λ c. not (scheme_byte c)) s)) e in
    let b = and_right (first_is letter s) (first_is (is ":") (from (λ c. not (scheme_byte c)) s)) e in
    rw (first_more letter s t a, from_more (λ c. not (scheme_byte c)) (is ":") s t b)

-- The scheme itself, with its colon.
colon_behind : (s : Text) → first_is (is ":") (from (λ c. not (scheme_byte c)) s) ≡ true → first_is (is ":") (from (λ c. not (scheme_byte c)) (until (is ":") s ++ 58 ∷ [])) ≡ true
unfolding from until
colon_behind [] e = contrary (sym e)
colon_behind (c ∷ s) e =
    by (eqb c 58) (λ f. rw f refl)
    (λ f.
    by (scheme_byte c) (λ g. rw (f, g) (colon_behind s (rw g at e)))
    (λ g. let h : eqb c 58 ≡ true = rw g at e in contrary (sym h ∙ f)))

scheme_itself : (s : Text) → has_scheme s ≡ true → has_scheme (scheme s ++ ascii ":") ≡ true
unfolding has_scheme scheme until
scheme_itself [] e = contrary (sym e)
scheme_itself (c ∷ s) e =
    let a = and_left (letter c) (first_is (is ":") (from (λ c. not (scheme_byte c)) (c ∷ s))) e in
    let b = colon_behind (c ∷ s) (and_right (letter c) (first_is (is ":") (from (λ c. not (scheme_byte c)) (c ∷ s))) e) in
    by (eqb c 58) (λ f. let q = eqb-true c 58 f in contrary (sym a ∙ ap letter q))
    (λ f. let d : first_is (is ":") (from (λ c. not (scheme_byte c)) (c ∷ (until (is ":") s ++ 58 ∷ []))) ≡ true = rw f at b in rw (f, a, d))

resolve_scheme : (base r : Text) → has_scheme base ≡ true → has_scheme (resolve base r) ≡ true
unfolding resolve resolve_by recompose
resolve_scheme base r e =
    let t = transform remove_dot_segments (parts (after_scheme base)) (parts r) in
    let sch = scheme base ++ ascii ":" in
    scheme_more (sch ++ t.authority ++ t.path ++ t.query) t.fragment
    (scheme_more (sch ++ t.authority ++ t.path) t.query (scheme_more (sch ++ t.authority) t.path (scheme_more sch t.authority (scheme_itself base e))))

-- ---- What is in force

pub record Absolute (s : Text) : Type 0 where
  pub scheme : has_scheme s ≡ true
  pub utf8 : Utf8 s

abbrev pub AllAbsolute : List Binding → Type 0
AllAbsolute [] = Unit {0}
AllAbsolute (b ∷ bs) = Absolute b.namespace × AllAbsolute bs

pub record Declared (e : Environment) : Type 0 where
  pub base : (e.base ≡ []) ⊎ Absolute e.base
  pub namespaces : AllAbsolute e.namespaces

pub bound_absolute : (p ns : Text) → Absolute ns → (bs : List Binding) → AllAbsolute bs → AllAbsolute (bound p ns bs)
unfolding bound
bound_absolute p ns a [] h = (a, tt)
bound_absolute p ns a (b ∷ bs) h = by (same_text p b.prefix) (λ e. rw e (a, h.1)) (λ e. rw e (h.0, bound_absolute p ns a bs h.1))

lookup_absolute : (p : Text) (bs : List Binding) → AllAbsolute bs → is_none (lookup p bs) ≡ false → Absolute (or_empty (lookup p bs))
unfolding lookup
lookup_absolute p [] h e = contrary e
lookup_absolute p (b ∷ bs) h e = by (same_text p b.prefix) (λ f. rw f h.0) (λ f. rw f (lookup_absolute p bs h.1 (rw f at e)))

-- ---- The IRI of a token

-- What a token of a document is, whatever is in force.
pub record Lexed (t : Token) : Type 0 where
  pub text : Utf8 t.text
  pub reference : no_character t ≡ false → among (IRIREF ∷ []) t.kind ≡ true → Utf8 (reference t)
  pub string : no_character t ≡ false → among strings t.kind ≡ true → Utf8 (string_text t)
  pub label : among (BLANK_NODE_LABEL ∷ []) t.kind ≡ true → Utf8 (node_label t)
  pub tag : among (LANGTAG ∷ []) t.kind ≡ true → is_tag (tag t) ≡ true

abbrev pub AllLexed : List Token → Type 0
AllLexed [] = Unit {0}
AllLexed (t ∷ ts) = Lexed t × AllLexed ts

module _ (e : Environment) (t : Token) (d : Declared e) (l : Lexed t) (c : no_character t ≡ false) where
  -- 10 does not apply.
  module _ (a : Awaited) (n : no_base (awaiting a e) t ≡ false) (k : has_kind (IRIREF ∷ []) t ≡ true) where
    reference_absolute : Absolute (resolved_reference e t)
    unfolding no_base resolved_reference resolved
    reference_absolute =
        by (has_scheme (reference t)) (λ h. rw h (record { scheme = h; utf8 = l.reference c k }))
        (λ h.
        let f : empty e.base ≡ false = rw (k, h) at n in
        rw h
        (⊎_elim (λ z. contrary (ap empty (sym z) ∙ f)) (λ b. record { scheme = resolve_scheme e.base (reference t) b.scheme; utf8 = utf8_resolve e.base (reference t) b.utf8 (l.reference c k) })
        d.base))

    pub iriref_absolute : Absolute (iri_of e t)
    unfolding iri_of
    iriref_absolute = rw k reference_absolute

  -- 9 does not apply.
  name_absolute : undeclared (awaiting nothing e) t ≡ false → has_kind names t ≡ true → Absolute (joined_name e t)
  unfolding undeclared joined_name local
  name_absolute u k =
      let b = lookup_absolute (prefix t) e.namespaces d.namespaces (rw k at u) in
      let v = utf8_unreserve _ (utf8_behind (is ":") (is_low 58 (omega arith)) t.text l.text) in
      record { scheme = scheme_more (or_empty (lookup (prefix t) e.namespaces)) (local t) b.scheme; utf8 = utf8_append (or_empty (lookup (prefix t) e.namespaces)) (local t) b.utf8 v }

  -- Nor does 11.
  module _ (u : undeclared (awaiting nothing e) t ≡ false) (n : no_base (awaiting nothing e) t ≡ false) (s : too_long (awaiting nothing e) t ≡ false) where
    iri_good : among iris t.kind ≡ true → GoodIri for_long_form (iri_of e t)
    unfolding iri_of
    iri_good k =
        let a : Absolute (iri_of e t) =
        by (has_kind (IRIREF ∷ []) t) (λ f. rw f (reference_absolute nothing n f)) (λ f. rw f (name_absolute u (name_of (eqb (kind_code IRIREF) (kind_code t.kind)) f k))) in
        record { taken = a.scheme; short = iri_short e t s k; utf8 = a.utf8 }
      where
        name_of : {b : Bool} (a : Bool) → (a || false) ≡ false → (a || b) ≡ true → b ≡ true
        name_of true f k = contrary f
        name_of false f k = k

    pub told : Told e t
    told = record { text = l.text; iri = iri_good; string = l.string c; label = l.label; tag = l.tag }

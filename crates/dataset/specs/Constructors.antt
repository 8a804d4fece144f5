-- What tokens stand for (TriG, section 5.2, RDF Term Constructors).
use Rattle.std.specs.Prelude.{List, [], ◌∷◌, ◌++◌, ℕ, ◌+◌, ◌-◌, length, take, drop}
use Rattle.std.proofs.Math.Option.{Option, none, some}
use Rattle.text.specs.Text.{Text, cond, is, until, from}
use Rattle.token.specs.Kind.{IRIREF, long_strings, at_prefix, at_base, PREFIX, BASE}
use Rattle.token.specs.Tokens.{Token, has_kind, computing as token_computing}
use Rattle.escape.specs.Escape.{unescape, unreserve, computing as escape_computing}
use Rattle.iri.specs.Resolve.{resolved, computing as iri_computing}
use Rattle.environment.specs.Environment.{Environment, lookup, declare, set_base, start_environment, computing as scope_computing}

-- The text without n bytes at each end.
unfoldable pub inner : ℕ → Text → Text
inner n s = take (length s - (n + n)) (drop n s)

-- STRING_LITERAL_..: "The characters between the outermost quotes are taken, with numeric and string escape sequences unescaped"
unfoldable pub string_text : Token → Text
string_text t = unescape (inner (cond (has_kind long_strings t) 3 1) t.text)

-- IRIREF: "The characters between < and > are taken, with the numeric escape sequences unescaped"
unfoldable pub reference : Token → Text
reference t = unescape (inner 1 t.text)

-- LANGTAG: "The characters following the @"
unfoldable pub tag : Token → Text
tag t = drop 1 t.text

-- BLANK_NODE_LABEL: what follows _:
unfoldable pub node_label : Token → Text
node_label t = drop 2 t.text

-- PNAME_NS and PNAME_LN: the prefix without its colon, and the local part, "unescaping the reserved characters"
unfoldable pub prefix : Token → Text
prefix t = until (is ":") t.text

unfoldable pub local : Token → Text
local t = unreserve (drop 1 (from (is ":") t.text))

abbrev pub or_empty : Option Text → Text
or_empty none = []
or_empty (some s) = s

-- "Relative IRI resolution is performed per section 4.3", against the base in force.
unfoldable pub resolved_reference : Environment → Token → Text
resolved_reference e t = resolved e.base (reference t)

-- "concatenating this onto the namespace"; it is not resolved again.
unfoldable pub joined_name : Environment → Token → Text
joined_name e t = or_empty (lookup (prefix t) e.namespaces) ++ local t

-- The IRI that an IRIREF or a prefixed name stands for.
unfoldable pub iri_of : Environment → Token → Text
iri_of e t = cond (has_kind (IRIREF ∷ []) t) (resolved_reference e t) (joined_name e t)

-- ---- What is in force at a token: "each name under the latest directive before it"

-- What the tokens of a directive so far await: nothing, or no directive; its prefix; the namespace of a prefix; the new base.
pub data Awaited : Type 0 where
  nothing prefix_name new_base : Awaited
  namespace_of : Text → Awaited

pub record InForce : Type 0 where
  pub environment : Environment
  pub awaited : Awaited

abbrev pub awaiting : Awaited → Environment → InForce
awaiting a e = record { environment = e; awaited = a }

-- A directive's own token.
abbrev pub directive_token : Awaited → Environment → Token → InForce
directive_token nothing e t = awaiting nothing e
directive_token prefix_name e t = awaiting (namespace_of (prefix t)) e
directive_token new_base e t = awaiting nothing (set_base (iri_of e t) e)
directive_token (namespace_of p) e t = awaiting nothing (declare p (iri_of e t) e)

-- "Namespaces and new bases are resolved when declared."
abbrev pub after_token : InForce → Token → InForce
after_token f t =
    cond (has_kind (at_prefix ∷ PREFIX ∷ []) t) (awaiting prefix_name f.environment)
    (cond (has_kind (at_base ∷ BASE ∷ []) t) (awaiting new_base f.environment)
    (directive_token f.awaited f.environment t))

-- What is in force after these tokens, where `base` was lent.
unfoldable pub after_tokens : InForce → List Token → InForce
after_tokens f [] = f
after_tokens f (t ∷ ts) = after_tokens (after_token f t) ts

unfoldable pub in_force : Text → List Token → InForce
in_force base ts = after_tokens (awaiting nothing (start_environment base)) ts

-- All that computes here; an example that is checked by evaluation names it.
unfoldable pub computing : ℕ
unfolding token_computing escape_computing iri_computing scope_computing inner string_text reference tag node_label prefix local resolved_reference joined_name iri_of after_tokens in_force
computing = 0

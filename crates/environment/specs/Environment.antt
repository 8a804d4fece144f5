-- What directives set (TriG, section 5.1: the base IRI and the namespaces map).
use Rattle.std.specs.Prelude.{List, [], ◌∷◌, ℕ}
use Rattle.std.proofs.Math.Option.{Option, none, some}
use Rattle.text.specs.Text.{Text, cond, same_text, computing as text_computing}

-- A prefix and its namespace.
pub record Binding : Type 0 where
  pub prefix : Text
  pub namespace : Text

abbrev pub bind : Text → Text → Binding
bind p ns = record { prefix = p; namespace = ns }

-- The base IRI in force, empty where there is none, and a binding for each prefix.
pub record Environment : Type 0 where
  pub base : Text
  pub namespaces : List Binding

-- The namespace of a prefix, where it is declared.
unfoldable pub lookup : Text → List Binding → Option Text
lookup p [] = none
lookup p (b ∷ bs) = let r = lookup p bs in cond (same_text p b.prefix) (some b.namespace) r

-- A declaration takes the place of an earlier one of the same prefix.
unfoldable pub bound : Text → Text → List Binding → List Binding
bound p ns [] = bind p ns ∷ []
bound p ns (b ∷ bs) = let r = b ∷ bound p ns bs in cond (same_text p b.prefix) (bind p ns ∷ bs) r

abbrev pub declare : Text → Text → Environment → Environment
declare p ns e = record { base = e.base; namespaces = bound p ns e.namespaces }

abbrev pub set_base : Text → Environment → Environment
set_base b e = record { base = b; namespaces = e.namespaces }

-- "a base address (may be empty)". No prefix is declared before the first directive.
abbrev pub start_environment : Text → Environment
start_environment b = record { base = b; namespaces = [] }

-- All that computes here; an example that is checked by evaluation names it.
unfoldable pub computing : ℕ
unfolding text_computing lookup bound
computing = 0

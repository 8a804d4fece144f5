use mathlib.Core.Path.{◌≡◌, sym, ◌∙◌}
use mathlib.Core.Bool.{true, false}
use native.Mathlib.Omega.{arith}
use Rattle.text.specs.Text.{Text, same_text}
use Rattle.limits.specs.Limits.{iri_limit}
use Rattle.look_up.specs.Record.{text_of, rows_of, entry_of}
use Rattle.look_up.specs.Look.{absent, stops}
use Rattle.look_up.proofs.Records.{record_in}
use Rattle.look_up.proofs.stop.Goals as goal

module _ (address front t : Text) (e : t ≡ text_of front) where
  another : same_text t address ≡ false → absent ≡ stops address (entry_of front)
  another n = rw (← e, n)

  same : same_text t address ≡ true → rows_of front ≡ stops address (entry_of front)
  same n = rw (← e, n)

pub returns-then-not-same : goal.returns-then-not-same
returns-then-not-same c = another _ _ _ c.text_of.ensures (sym c.same.ensures ∙ c.if-not-same.true)

pub number_at-requires : goal.number_at-requires
number_at-requires c = omega (arith, record_in iri_limit _ c.requires)

pub number_at-requires-2 : goal.number_at-requires-2
number_at-requires-2 c = omega (arith, record_in iri_limit _ c.requires)

pub returns : goal.returns
returns c = rw (c.number_at.ensures, c.number_at-2.ensures) (same _ _ _ c.text_of.ensures (sym c.same.ensures ∙ c.if-not-same.false))

-- "The statements handed over are those that the RDF 1.1 TriG and Turtle Recommendations construct": read off the words and bytes that a call leaves.
use Rattle.std.specs.Prelude.{◌≡◌, map, ℕ}
use Rattle.text.specs.Text.{Text}
use Rattle.grammar.specs.Ebnf.{leaves}
use Rattle.grammar.specs.Productions.{production, kind_of, Derivation}
use Rattle.dataset.specs.Terms.{Blank}
use Rattle.dataset.specs.Statements.{statements}
use Rattle.table.specs.Layout.{Slices}
use Rattle.table.specs.Usable.{quads_held}
use Rattle.machine.specs.Read.{mode_of}
use Rattle.machine.specs.Demand.{document_tokens}
use Rattle.readback.specs.ReadBack.{with_blanks}

-- The slices hold the statements that the document's one derivation constructs, one a row and in its order, with each blank node under the number that its
-- term's words give it, and no two nodes under one.
pub record HandedOver (doc : Text) (mode : ℕ) (base : Text) (s : Slices) : Type 0 where
  pub derivation : Derivation (mode_of mode)
  pub tokens : leaves kind_of (production (mode_of mode)) derivation ≡ document_tokens doc
  pub only : (x : Derivation (mode_of mode)) → leaves kind_of (production (mode_of mode)) x ≡ document_tokens doc → x ≡ derivation
  pub rename : Blank → Blank
  pub apart : (b c : Blank) → rename b ≡ rename c → b ≡ c
  pub same : quads_held s ≡ map (with_blanks rename) (statements (mode_of mode) derivation base)

use native.Mathlib.Omega.{arith}
use lib.ListN.{drop, length-drop}
use Rattle.iri.specs.Code.{stop}
use Rattle.iri.specs.declared.Part.TheVariants.{Path}
use Rattle.iri.proofs.Places.{before_most}
use Rattle.iri.proofs.Parts.{authority_most, ends_are}
use Rattle.iri.proofs.part_ends.Goals as goal

pub find-p-requires : goal.find-p-requires
find-p-requires c = omega (arith, authority_most (drop c.args.start c.args.s.now), length-drop c.args.start c.args.s.now, c.authority_end-a.ensures)

pub find-q-requires : goal.find-q-requires
find-q-requires c = omega (arith, authority_most (drop c.args.start c.args.s.now), length-drop c.args.start c.args.s.now, c.authority_end-a.ensures, c.find-p.ensures, before_most (stop Path) (drop c.authority_end-a.result c.args.s.now), length-drop c.authority_end-a.result c.args.s.now)

pub returns : goal.returns
returns c = ends_are c.args.s.now c.args.start _ _ _ c.authority_end-a.ensures c.find-p.ensures c.find-q.ensures

-- The IRIs that lists supply.
use Rattle.text.specs.Text.{Text}
use Rattle.dataset.specs.Terms.{rdf_first, rdf_rest, rdf_nil}
use Rattle.state.specs.declared.Supplied.{Supplied}
use Rattle.state.specs.declared.Supplied.TheVariants.{First, Rest, Nil}

abbrev pub supplied : Supplied → Text
supplied First = rdf_first
supplied Rest = rdf_rest
supplied Nil = rdf_nil

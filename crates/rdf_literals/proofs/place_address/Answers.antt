use Rattle.token_iri.specs.Addresses.{parts_of}
use Rattle.rdf_literals.proofs.Fitting.{located_buffer, located_token, buffer_asks, token_asks, buffer_puts, token_puts}
use Rattle.rdf_literals.proofs.place_address.Goals as goal

pub slice_bounds-place-end : goal.slice_bounds-place-end
slice_bounds-place-end c = located_buffer _ _ _ _ _ c.requires.1.1 c.if-a.true

pub place-requires : goal.place-requires
place-requires c = buffer_asks _ _ _ _ _ _ _ _ c.if-a.true c.requires

pub returns-then-a : goal.returns-then-a
returns-then-a c = buffer_puts (parts_of c.args.a) c.args.token.now c.args.text.now c.args.buffer.now _ _ _ _ _ _ _ _ c.if-a.true c.place.ensures

pub slice_bounds-place-end-2 : goal.slice_bounds-place-end-2
slice_bounds-place-end-2 c = located_token _ _ _ _ _ c.requires.1.1 c.if-a.false

pub place-requires-2 : goal.place-requires-2
place-requires-2 c = token_asks _ _ _ _ _ _ _ _ c.if-a.false c.requires

pub returns : goal.returns
returns c = token_puts (parts_of c.args.a) c.args.token.now c.args.text.now c.args.buffer.now _ _ _ _ _ _ _ _ c.if-a.false c.place-2.ensures

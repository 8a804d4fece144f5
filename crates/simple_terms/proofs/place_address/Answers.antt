use mathlib.Core.Path.{refl}
use Rattle.std.proofs.Common.{Ok, Err}
use Rattle.token_iri.specs.Addresses.{answered}
use Rattle.limits.proofs.Errors.{handed_on, numbered}
use Rattle.simple_terms.proofs.Writing.{back_in_buffer, back_in_token, back_buffer, back_token, address_refused, address_fits, address_put}
use Rattle.simple_terms.proofs.place_address.Goals as goal

pub returns-in_err-a : goal.returns-in_err-a
returns-in_err-a c = let token = c.args.token.now in let work = c.args.work.now in let buffer = c.address_of.new.buffer in rw (handed_on _ _ c.from_residual.ensures) (address_refused _ token work buffer _ _ (answered (Err c.in_err-a.field-0.0)) c.in_err-a.ensures c.requires.1.1.0 (numbered _))

pub slice_bounds-place_node-end : goal.slice_bounds-place_node-end
slice_bounds-place_node-end c = let token = c.args.token.now in let work = c.args.work.now in let buffer = c.address_of.new.buffer in back_in_buffer _ token _ _ buffer (answered (Ok c.in_ok-a.a)) c.in_ok-a.ensures c.if-a.true

pub place_node-requires : goal.place_node-requires
place_node-requires c = let token = c.args.token.now in let work = c.args.work.now in let buffer = c.address_of.new.buffer in (c.requires.0, address_fits _ token work buffer _ _ (answered (Ok c.in_ok-a.a)) c.in_ok-a.ensures c.requires.1.1.0 refl token c.requires.1.1.1 _ (back_buffer (answered (Ok c.in_ok-a.a)) token buffer c.if-a.true) c.requires.0.holds)

pub returns-then-a : goal.returns-then-a
returns-then-a c = let token = c.args.token.now in let work = c.args.work.now in let buffer = c.address_of.new.buffer in address_put _ token work buffer _ _ (answered (Ok c.in_ok-a.a)) c.in_ok-a.ensures c.requires.1.1.0 refl token c.requires.1.1.1 _ (back_buffer (answered (Ok c.in_ok-a.a)) token buffer c.if-a.true) _ _ _ _ c.requires.1.0.0 c.requires.1.0.1 c.place_node.ensures

pub slice_bounds-place_node-end-2 : goal.slice_bounds-place_node-end-2
slice_bounds-place_node-end-2 c = let token = c.args.token.now in let work = c.args.work.now in let buffer = c.address_of.new.buffer in back_in_token _ token _ _ buffer (answered (Ok c.in_ok-a.a)) c.in_ok-a.ensures c.if-a.false

pub place_node-requires-2 : goal.place_node-requires-2
place_node-requires-2 c = let token = c.args.token.now in let work = c.args.work.now in let buffer = c.address_of.new.buffer in (c.requires.0, address_fits _ token work buffer _ _ (answered (Ok c.in_ok-a.a)) c.in_ok-a.ensures c.requires.1.1.0 refl token c.requires.1.1.1 _ (back_token (answered (Ok c.in_ok-a.a)) token buffer c.if-a.false) c.requires.0.holds)

pub returns : goal.returns
returns c = let token = c.args.token.now in let work = c.args.work.now in let buffer = c.address_of.new.buffer in address_put _ token work buffer _ _ (answered (Ok c.in_ok-a.a)) c.in_ok-a.ensures c.requires.1.1.0 refl token c.requires.1.1.1 _ (back_token (answered (Ok c.in_ok-a.a)) token buffer c.if-a.false) _ _ _ _ c.requires.1.0.0 c.requires.1.0.1 c.place_node-2.ensures

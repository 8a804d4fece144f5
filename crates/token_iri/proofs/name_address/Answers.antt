use Rattle.token_iri.specs.Addresses.{refused_address}
use lib.ListN.{length, take, drop}
use lib.Seq.{length-take-le}
use mathlib.Core.Path.{sym, refl}
use Prim.Native.Nat.{◌-◌}
use native.Mathlib.Omega.{arith}
use Rattle.token_iri.proofs.Answers.{found_inside, refused_unusable, refused_missing, refused_joined, joined_there, in_form, reserved_length}
use Rattle.token_iri.proofs.name_address.Goals as goal

pub returns-then-work-lt-WORK : goal.returns-then-work-lt-WORK
returns-then-work-lt-WORK c = λ buffer. refused_unusable c.args.kind c.args.token.now c.args.work.now c.args.st.now buffer (refused_address 9) c.if-work-lt-WORK.true refl

pub slice_bounds-look_up-end : goal.slice_bounds-look_up-end
slice_bounds-look_up-end c = sym (length-take-le c.colon-at.result c.args.token.now c.colon-at.ensures.1)

pub returns-in_default : goal.returns-in_default
returns-in_default c = λ buffer. refused_missing c.args.kind c.args.token.now c.args.work.now c.args.st.now buffer (omega arith) (omega arith) c.colon-at.result c.colon-at.ensures.0 c.look_up-found.result c.look_up-found.ensures c.in_default.is (refused_address 9) refl

pub overflow_sub-n : goal.overflow_sub-n
overflow_sub-n c = (found_inside (_) c.args.work.now c.args.st.now c.look_up-found.result c.in-Some.start c.in-Some.n (c.look_up-found.ensures (omega arith)) c.in-Some.is).1

pub returns-then-n-undone_length : goal.returns-then-n-undone_length
returns-then-n-undone_length c = λ buffer. refused_joined c.args.kind c.args.token.now c.args.work.now c.args.st.now buffer (omega arith) (omega arith) c.colon-at.result c.colon-at.ensures.0 c.look_up-found.result c.look_up-found.ensures c.in-Some.start c.in-Some.n c.in-Some.is (omega arith) c.local_start-from.result c.local_start-from.ensures c.undone_length.result (reserved_length c.simplest-form.result (take (length c.args.token.now - c.local_start-from.result) (drop c.local_start-from.result c.args.token.now)) _ c.undone_length.ensures c.simplest-form.ensures) c.if-n-undone_length.true (refused_address 11) refl

pub overflow_add-result : goal.overflow_add-result
overflow_add-result c = omega (arith, (found_inside (_) c.args.work.now c.args.st.now c.look_up-found.result c.in-Some.start c.in-Some.n (c.look_up-found.ensures (omega arith)) c.in-Some.is).0)

pub returns : goal.returns
returns c = λ buffer. in_form c.args.kind c.args.token.now c.args.work.now c.args.st.now buffer _ c.simplest-form.result c.simplest-form.ensures (joined_there c.args.kind c.args.token.now c.args.work.now c.args.st.now buffer (omega arith) (omega arith) c.colon-at.result c.colon-at.ensures.0 c.look_up-found.result c.look_up-found.ensures c.in-Some.start c.in-Some.n c.in-Some.is (omega arith) c.local_start-from.result c.local_start-from.ensures c.undone_length.result (reserved_length c.simplest-form.result (take (length c.args.token.now - c.local_start-from.result) (drop c.local_start-from.result c.args.token.now)) _ c.undone_length.ensures c.simplest-form.ensures) c.if-n-undone_length.false)

use Rattle.std.proofs.Common.{◌≡◌, None, ap, subst, rules}
use native.Mathlib.Omega.{arith}
use Rattle.text.specs.Text.{Text, same_text}
use Rattle.usable.specs.Lent.{slices_of}
use Rattle.subject_index.specs.Index.{subject}
use Rattle.subject_index.specs.Code.{named, Chooses}
use Rattle.subject_index.proofs.Checking.{all_left, is_end, other_record, record_fits, record_more}
use Rattle.subject_index.proofs.is_index.Goals as goal

pub loop-c-init : goal.loop-c-init
loop-c-init c =
    let s = slices_of c.args.tables.now in
    let f = subject s in
    (omega arith, (tt, ap (λ (x : Text). same_text x c.args.bytes.now) (all_left s f c.args.tables.now.row_count)))

pub text_of-text-requires : goal.text_of-text-requires
text_of-text-requires c =
    let s = slices_of c.args.tables.now in
    let f = subject s in
    let p = named s c.loop-c.before in
    let C = subst (Chooses s f p c.args.tables.now.row_count) c.in-Some.is c.next_subject.ensures in
    C.known

pub returns-then-not-has_record : goal.returns-then-not-has_record
returns-then-not-has_record c =
    let s = slices_of c.args.tables.now in
    let f = subject s in
    let p = named s c.loop-c.before in
    let C = subst (Chooses s f p c.args.tables.now.row_count) c.in-Some.is c.next_subject.ensures in
    other_record s f c.args.tables.now.row_count p c.in-Some.c C c.args.bytes.now c.loop-c.at c.loop-c.invariant.0 c.loop-c.invariant.1.1 _ c.text_of-text.ensures _ c.has_record.ensures c.if-not-has_record.true

-- What holds of the next round says where it begins, and so that nothing overflows on the way there.
pub loop-c-preserved : goal.loop-c-preserved
loop-c-preserved c =
    let s = slices_of c.args.tables.now in
    let f = subject s in
    let p = named s c.loop-c.before in
    let C = subst (Chooses s f p c.args.tables.now.row_count) c.in-Some.is c.next_subject.ensures in
    let l = record_fits s f c.args.tables.now.row_count p c.in-Some.c C c.args.bytes.now c.loop-c.at c.loop-c.invariant.0 c.loop-c.invariant.1.1 _ c.text_of-text.ensures _ c.has_record.ensures c.if-not-has_record.false in
    (omega (arith, l), (C.known, record_more s f c.args.tables.now.row_count p c.in-Some.c C c.args.bytes.now c.loop-c.at c.loop-c.invariant.0 c.loop-c.invariant.1.1 _ c.text_of-text.ensures _ c.has_record.ensures c.if-not-has_record.false))

pub overflow_add-at-in-Some : goal.overflow_add-at-in-Some
overflow_add-at-in-Some c = omega (arith, (loop-c-preserved c).0)

pub loop-c-smaller : goal.loop-c-smaller
loop-c-smaller c = omega (arith, (loop-c-preserved c).0)

pub returns : goal.returns
returns c =
    let s = slices_of c.args.tables.now in
    let f = subject s in
    let p = named s c.loop-c.before in
    let z : c.next_subject.result ≡ None = search rules in
    let C = subst (Chooses s f p c.args.tables.now.row_count) z c.next_subject.ensures in
    is_end s f c.args.tables.now.row_count p C c.args.bytes.now c.loop-c.at c.loop-c.invariant.0 c.loop-c.invariant.1.1

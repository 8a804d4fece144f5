use Rattle.std.proofs.Common.{◌≡◌, None, sym, ◌∙◌, refl, subst, rules}
use native.Mathlib.Omega.{arith}
use Rattle.usable.specs.Lent.{slices_of}
use Rattle.subject_index.specs.Index.{subject}
use Rattle.subject_index.specs.Code.{named, Chooses}
use Rattle.subject_index.proofs.Building.{put_length, length_start, over_start, length_end, over_end, length_more, over_more}
use Rattle.subject_index.proofs.put_index.Goals as goal

pub loop-c-init : goal.loop-c-init
loop-c-init c =
    let s = slices_of c.args.tables.now in
    let f = subject s in
    (refl, (tt, (length_start s f c.args.tables.now.row_count, over_start s f c.args.tables.now.row_count c.args.out.now)))

pub text_of-text-requires : goal.text_of-text-requires
text_of-text-requires c =
    let s = slices_of c.args.tables.now in
    let f = subject s in
    let p = named s c.loop-c.before in
    let C = subst (Chooses s f p c.args.tables.now.row_count) c.in-Some.is c.next_subject.ensures in
    C.known

pub put_record-requires : goal.put_record-requires
put_record-requires c =
    let s = slices_of c.args.tables.now in
    let f = subject s in
    let p = named s c.loop-c.before in
    let C = subst (Chooses s f p c.args.tables.now.row_count) c.in-Some.is c.next_subject.ensures in
    let l = length_more s f c.args.tables.now.row_count p c.in-Some.c C c.loop-c.at c.loop-c.invariant.1.1.0 _ c.text_of-text.ensures in
    omega (arith, l, c.loop-c.invariant.0, c.requires.0.1)

-- What holds of the next round says where it begins, and so that nothing overflows on the way there.
pub loop-c-preserved : goal.loop-c-preserved
loop-c-preserved c =
    let s = slices_of c.args.tables.now in
    let f = subject s in
    let p = named s c.loop-c.before in
    let C = subst (Chooses s f p c.args.tables.now.row_count) c.in-Some.is c.next_subject.ensures in
    let l = length_more s f c.args.tables.now.row_count p c.in-Some.c C c.loop-c.at c.loop-c.invariant.1.1.0 _ c.text_of-text.ensures in
    let m = put_length _ _ _ _ c.put_record.ensures in
    (m ∙ c.loop-c.invariant.0, (C.known, (l, over_more s f c.args.tables.now.row_count p c.in-Some.c C c.loop-c.at c.loop-c.invariant.1.1.0 _ c.text_of-text.ensures _ c.loop-c.out _ c.loop-c.invariant.1.1.1 c.put_record.ensures)))

pub overflow_add-at-in-Some : goal.overflow_add-at-in-Some
overflow_add-at-in-Some c = let i = loop-c-preserved c in omega (arith, i.0, i.1.1.0, c.requires)

pub loop-c-smaller : goal.loop-c-smaller
loop-c-smaller c = let i = loop-c-preserved c in omega (arith, i.0, i.1.1.0, c.loop-c.invariant.0, c.requires)

pub returns : goal.returns
returns c =
    let s = slices_of c.args.tables.now in
    let f = subject s in
    let p = named s c.loop-c.before in
    let z : c.next_subject.result ≡ None = search rules in
    let C = subst (Chooses s f p c.args.tables.now.row_count) z c.next_subject.ensures in
    (length_end s f c.args.tables.now.row_count p C c.loop-c.at c.loop-c.invariant.1.1.0, sym (over_end s f c.args.tables.now.row_count p C c.loop-c.at c.loop-c.invariant.1.1.0 _ c.loop-c.out c.loop-c.invariant.1.1.1))

use Rattle.std.proofs.Common.{◌≡◌, None, subst, rules}
use native.Mathlib.Omega.{arith}
use Rattle.usable.specs.Lent.{slices_of}
use Rattle.subject_index.specs.Index.{subject}
use Rattle.subject_index.specs.Code.{named, Chooses}
use Rattle.subject_index.proofs.Building.{length_start, fits_end, fits_head, fits_not, length_more}
use Rattle.subject_index.proofs.fits_index.Goals as goal

pub loop-c-init : goal.loop-c-init
loop-c-init c =
    let s = slices_of c.args.tables.now in
    let f = subject s in
    (omega arith, (tt, length_start s f c.args.tables.now.row_count))

pub returns-then-left-lt-SIZE : goal.returns-then-left-lt-SIZE
returns-then-left-lt-SIZE c =
    let s = slices_of c.args.tables.now in
    let f = subject s in
    let p = named s c.loop-c.before in
    let C = subst (Chooses s f p c.args.tables.now.row_count) c.in-Some.is c.next_subject.ensures in
    fits_head s f c.args.tables.now.row_count p c.in-Some.c C c.loop-c.used c.loop-c.invariant.1.1 c.args.room (omega arith)

pub text_of-size-requires : goal.text_of-size-requires
text_of-size-requires c =
    let s = slices_of c.args.tables.now in
    let f = subject s in
    let p = named s c.loop-c.before in
    let C = subst (Chooses s f p c.args.tables.now.row_count) c.in-Some.is c.next_subject.ensures in
    C.known

pub returns-then-left-size : goal.returns-then-left-size
returns-then-left-size c =
    let s = slices_of c.args.tables.now in
    let f = subject s in
    let p = named s c.loop-c.before in
    let C = subst (Chooses s f p c.args.tables.now.row_count) c.in-Some.is c.next_subject.ensures in
    fits_not s f c.args.tables.now.row_count p c.in-Some.c C c.loop-c.used c.loop-c.invariant.1.1 _ c.text_of-size.ensures c.args.room (omega arith)

pub loop-c-preserved : goal.loop-c-preserved
loop-c-preserved c =
    let s = slices_of c.args.tables.now in
    let f = subject s in
    let p = named s c.loop-c.before in
    let C = subst (Chooses s f p c.args.tables.now.row_count) c.in-Some.is c.next_subject.ensures in
    (omega arith, (C.known, length_more s f c.args.tables.now.row_count p c.in-Some.c C c.loop-c.used c.loop-c.invariant.1.1 _ c.text_of-size.ensures))

pub returns : goal.returns
returns c =
    let s = slices_of c.args.tables.now in
    let f = subject s in
    let p = named s c.loop-c.before in
    let z : c.next_subject.result ≡ None = search rules in
    let C = subst (Chooses s f p c.args.tables.now.row_count) z c.next_subject.ensures in
    fits_end s f c.args.tables.now.row_count p C c.loop-c.used c.loop-c.invariant.1.1 c.args.room c.loop-c.invariant.0

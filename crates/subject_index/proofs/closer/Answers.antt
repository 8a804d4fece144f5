use Rattle.std.proofs.Common.{◌≡◌, None, sym, ◌∙◌, subst, rules}
use Rattle.usable.specs.Lent.{slices_of}
use Rattle.subject_index.specs.Index.{subject}
use Rattle.subject_index.specs.Code.{named, Chooses}
use Rattle.subject_index.proofs.Choosing.{subject_none, subject_some, number_known, no_subject, not_above, first_one, is_nearer, not_nearer, again}
use Rattle.subject_index.proofs.closer.Goals as goal

pub returns-in_default : goal.returns-in_default
returns-in_default c =
    let s = slices_of c.args.tables.now in
    let z : c.subject_number.result ≡ None = search rules in
    no_subject s (subject s) (named s c.args.before) c.args.i c.args.best c.requires.1 (subject_none s c.args.i c.requires.0.0 (sym c.subject_number.ensures ∙ z))

pub is_above-requires : goal.is_above-requires
is_above-requires c =
    let s = slices_of c.args.tables.now in
    (c.requires.0.1, number_known s c.args.i c.requires.0.0 c.in-Some.number (sym c.subject_number.ensures ∙ c.in-Some.is))

pub returns-then-not-is_above : goal.returns-then-not-is_above
returns-then-not-is_above c =
    let s = slices_of c.args.tables.now in
    let e = subject_some s c.args.i c.requires.0.0 c.in-Some.number (sym c.subject_number.ensures ∙ c.in-Some.is) in
    not_above s (subject s) (named s c.args.before) c.args.i c.in-Some.number e c.args.best c.requires.1 (sym c.is_above.ensures ∙ c.if-not-is_above.true)

pub returns-in_default-best : goal.returns-in_default-best
returns-in_default-best c =
    let s = slices_of c.args.tables.now in
    let got = sym c.subject_number.ensures ∙ c.in-Some.is in
    let e = subject_some s c.args.i c.requires.0.0 c.in-Some.number got in
    let z : c.args.best ≡ None = search rules in
    first_one s (subject s) (named s c.args.before) c.args.i c.in-Some.number e (sym c.is_above.ensures ∙ c.if-not-is_above.false)
    (subst (Chooses s (subject s) (named s c.args.before) c.args.i) z c.requires.1) (number_known s c.args.i c.requires.0.0 c.in-Some.number got)

pub text_of-text-requires : goal.text_of-text-requires
text_of-text-requires c = number_known (slices_of c.args.tables.now) c.args.i c.requires.0.0 c.in-Some.number (sym c.subject_number.ensures ∙ c.in-Some.is)

pub text_of-known-requires : goal.text_of-known-requires
text_of-known-requires c =
    let s = slices_of c.args.tables.now in
    (subst (Chooses s (subject s) (named s c.args.before) c.args.i) c.in-Some-best.is c.requires.1).known

pub returns-then-smaller : goal.returns-then-smaller
returns-then-smaller c =
    let s = slices_of c.args.tables.now in
    let got = sym c.subject_number.ensures ∙ c.in-Some.is in
    let e = subject_some s c.args.i c.requires.0.0 c.in-Some.number got in
    is_nearer s (subject s) (named s c.args.before) c.args.i c.in-Some.number e (sym c.is_above.ensures ∙ c.if-not-is_above.false)
    c.in-Some-best.best (subst (Chooses s (subject s) (named s c.args.before) c.args.i) c.in-Some-best.is c.requires.1) (number_known s c.args.i c.requires.0.0 c.in-Some.number got)
    (rw (c.text_of-text.ensures, c.text_of-known.ensures) at (sym c.smaller.ensures ∙ c.if-smaller.true))

pub returns-then-not-same : goal.returns-then-not-same
returns-then-not-same c =
    let s = slices_of c.args.tables.now in
    let e = subject_some s c.args.i c.requires.0.0 c.in-Some.number (sym c.subject_number.ensures ∙ c.in-Some.is) in
    not_nearer s (subject s) (named s c.args.before) c.args.i c.in-Some.number e (sym c.is_above.ensures ∙ c.if-not-is_above.false)
    c.in-Some-best.best (subst (Chooses s (subject s) (named s c.args.before) c.args.i) c.in-Some-best.is c.requires.1)
    (rw (c.text_of-text.ensures, c.text_of-known.ensures) at (sym c.smaller.ensures ∙ c.if-smaller.false))
    (rw (c.text_of-text.ensures, c.text_of-known.ensures) at (sym c.same.ensures ∙ c.if-not-same.true))

pub returns : goal.returns
returns c =
    let s = slices_of c.args.tables.now in
    let e = subject_some s c.args.i c.requires.0.0 c.in-Some.number (sym c.subject_number.ensures ∙ c.in-Some.is) in
    again s (subject s) (named s c.args.before) c.args.i c.in-Some.number e (sym c.is_above.ensures ∙ c.if-not-is_above.false)
    c.in-Some-best.best (subst (Chooses s (subject s) (named s c.args.before) c.args.i) c.in-Some-best.is c.requires.1)
    (rw (c.text_of-text.ensures, c.text_of-known.ensures) at (sym c.smaller.ensures ∙ c.if-smaller.false))
    (rw (c.text_of-text.ensures, c.text_of-known.ensures) at (sym c.same.ensures ∙ c.if-not-same.false))

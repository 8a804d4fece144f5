use Rattle.std.proofs.Common.{ap, decimal}
use Rattle.documents.specs.declared.places.Place.{Place}
use Rattle.std.proofs.KnownBytes.{Appends-trans}
use Rattle.diagnose.specs.Phrase.{phrase}
use Rattle.diagnose.proofs.Written.{last_piece, appends_same}
use Rattle.diagnose.proofs.print_refusal.Goals as goal

pub returns : goal.returns
returns g c =
    let words = c.args.words.now in
    let p = c.place_of-p.ensures in
    let a = Appends-trans _ _ _ _ _ c.in_ok-write_all.ensures.bytes c.in_ok-say.ensures in
    let b = Appends-trans _ _ _ _ _ a (appends_same _ _ _ _ (ap (λ (q : Place). decimal q.line) p) c.in_ok-write.ensures.bytes) in
    let d = Appends-trans _ _ _ _ _ b c.in_ok-say-2.ensures in
    let e = Appends-trans _ _ _ _ _ d (appends_same _ _ _ _ (ap (λ (q : Place). decimal q.column) p) c.in_ok-write-2.ensures.bytes) in
    let f = Appends-trans _ _ _ _ _ e c.in_ok-say-3.ensures in
    let h = Appends-trans _ _ _ _ _ f (appends_same _ _ _ _ (ap decimal c.from-number.ensures) c.in_ok-write-3.ensures.bytes) in
    let i = Appends-trans _ _ _ _ _ h c.in_ok-say-4.ensures in
    let j = Appends-trans _ _ _ _ _ i c.in_ok-write-4.ensures.bytes in
    let k = Appends-trans _ _ _ _ _ j c.in_ok-say-5.ensures in
    let l = Appends-trans _ _ _ _ _ k (appends_same _ _ _ _ (ap (phrase words) c.meaning.ensures) c.in_ok-say-6.ensures) in
    last_piece _ _ _ _ _ _ l c.end_line.ensures

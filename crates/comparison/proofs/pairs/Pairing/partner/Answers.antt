use mathlib.Core.Path.{◌≡◌, refl, sym, ap, ◌∙◌}
use Prim.Native.Nat.{suc}
use native.Mathlib.Omega.{arith}
use lib.ListN.{length}
use Rattle.std.proofs.Common.{rules, Some, None}
use Rattle.chains.specs.Chains.{behind, heads, near, word_at}
use Rattle.chains.proofs.Chains.{place_low, place_on}
use Rattle.comparison.specs.Comparison.{pairs}
use Rattle.comparison.specs.Partners.{right_behind}
use Rattle.comparison.proofs.Partners.{found_low, partner_is, right_word}
use Rattle.comparison.proofs.pairs.Pairing.partner.Goals as goal

pub find-requires : goal.find-requires
find-requires c =
    let s = c.args.self.now in
    let p = s.words.now in
    let e = (rw s.counted at c.first.ensures) (word_at p 0 2) s.linked in
    let t = near (heads (length s.links.words.now) (pairs p)) (word_at p 0 2) c.args.m in
    rw (c.numbers.ensures.0, c.numbers.ensures.1.0, c.numbers.ensures.1.1.0, c.numbers.ensures.1.1.1, s.counted)
    (refl, (s.linked, (place_low t (pairs p) (behind c.first.result) e, place_on t (pairs p) (behind c.first.result) e)))

pub returns-in_err-found : goal.returns-in_err-found
returns-in_err-found c =
    let s = c.args.self.now in
    let p = s.words.now in
    let e = (rw s.counted at c.first.ensures) (word_at p 0 2) s.linked in
    let q = rw (c.numbers.ensures.0, c.numbers.ensures.1.0, c.numbers.ensures.1.1.0) at c.find.ensures in
    let z : c.from_residual.result ≡ None = search rules in
    let y : c.find.result ≡ None = search rules in
    (rw z (ap (λ o. right_behind p (behind o)) (sym y) ∙ partner_is p (heads (length s.links.words.now) (pairs p)) c.args.m c.first.result c.find.result e q), rw z (omega arith))

pub word-requires : goal.word-requires
word-requires c =
    let s = c.args.self.now in
    let p = s.words.now in
    let e = (rw s.counted at c.first.ensures) (word_at p 0 2) s.linked in
    let q = rw (c.numbers.ensures.0, c.numbers.ensures.1.0, c.numbers.ensures.1.1.0) at c.find.ensures in
    let y : c.find.result ≡ Some c.in_ok-found.found = search rules in
    omega (arith, ap behind y, c.numbers-2.ensures.1.1.1, found_low p (heads (length s.links.words.now) (pairs p)) c.args.m c.first.result c.find.result e q)

pub returns : goal.returns
returns c =
    let s = c.args.self.now in
    let p = s.words.now in
    let e = (rw s.counted at c.first.ensures) (word_at p 0 2) s.linked in
    let q = rw (c.numbers.ensures.0, c.numbers.ensures.1.0, c.numbers.ensures.1.1.0) at c.find.ensures in
    let y : c.find.result ≡ Some c.in_ok-found.found = search rules in
    let w = right_word p c.in_ok-found.found c.word.result (rw (c.numbers-2.ensures.0, c.numbers-2.ensures.1.0, c.numbers-2.ensures.1.1.0) at c.word.ensures.0) in
    (ap suc w ∙ (ap (λ o. right_behind p (behind o)) (sym y) ∙ partner_is p (heads (length s.links.words.now) (pairs p)) c.args.m c.first.result c.find.result e q), omega (arith, c.word.ensures.1))

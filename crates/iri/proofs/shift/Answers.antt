use Prim.Native.Nat.{ℕ, ◌-◌, ◌+◌}
use mathlib.Core.Path.{◌≡◌, sym, ◌∙◌}
use native.Mathlib.Omega.{arith}
use lib.ListN.{length, get_or}
use Rattle.iri.specs.Code.{window}
use Rattle.iri.proofs.Places.{window_length, moved_none, moved_next, moved_more}
use Rattle.iri.proofs.Turns.{segment_more, segment_stop, segment_end}
use Rattle.iri.proofs.shift.Goals as goal
use Rattle.iri.proofs.shift.Goals.{then-c-eq47+else-n-gt0, else-c-eq47}

pub loop-n-init : goal.loop-n-init
loop-n-init c = (moved_none c.args.b.now c.args.at c.args.w (omega arith), (omega arith, λ h. absurd (omega arith)))

pub returns-then-n-gt0 : goal.returns-then-n-gt0
returns-then-n-gt0 c = let x = c.args.b.now in
    let at : ℕ = c.args.at in
    let end : ℕ = c.args.end in
    let n : ℕ = c.loop-n.n in
    let long : length (window x at end) ≡ end - at = window_length x at end (omega arith) in
    let next : get_or c.loop-n.b (at + n) 0 ≡ get_or (window x at end) n 0 = moved_next x c.loop-n.b at end c.args.w n c.loop-n.invariant.0 (omega arith) in
    (segment_stop (window x at end) n (omega arith) (omega arith) c.loop-n.invariant.1.1 (sym next ∙ c.if-c-eq47.true), c.loop-n.invariant.0)

pub loop-n-preserved : goal.loop-n-preserved
loop-n-preserved c = let x = c.args.b.now in
    let at : ℕ = c.args.at in
    let end : ℕ = c.args.end in
    let n : ℕ = c.loop-n.n in
    let long : length (window x at end) ≡ end - at = window_length x at end (omega arith) in
    let next : get_or c.loop-n.b (at + n) 0 ≡ get_or (window x at end) n 0 = moved_next x c.loop-n.b at end c.args.w n c.loop-n.invariant.0 (omega arith) in (
      moved_more x c.loop-n.b at c.args.w n c.loop-n.invariant.0 (omega arith) (omega arith),
      (
        omega arith,
        λ h. segment_more (window x at end) n (omega arith) c.loop-n.invariant.1.1 (λ e. elim c.if-c-eq47.branch [ then-c-eq47+else-n-gt0 w ↦ omega (arith, w.if-n-gt0.false) | else-c-eq47 w ↦ absurd (w.if-c-eq47.false (next ∙ e)) ]),
      ),
    )

pub returns : goal.returns
returns c = let x = c.args.b.now in
    let at : ℕ = c.args.at in
    let end : ℕ = c.args.end in
    let n : ℕ = c.loop-n.n in
    let long : length (window x at end) ≡ end - at = window_length x at end (omega arith) in
    (sym (segment_end (window x at end) n (omega arith) (omega arith) c.loop-n.invariant.1.1), c.loop-n.invariant.0)

-- Room that is counted in 32 bits is as good as all the room, for every document within the limit.
use mathlib.Core.Path.{◌≡◌, sym, ◌∙◌}
use Prim.Native.Nat.{ℕ, ◌≤◌}
use native.Mathlib.Omega.{arith}
use borrow.Author.Tests.{leb-true, leb-false, le-ltb}
use lib.Dec.{leb, ltb}
use lib.ListN.{length}
use Rattle.text.specs.Text.{Text}
use Rattle.text.proofs.Compare.{by}
use Rattle.limits.specs.Limits.{document_limit}
use Rattle.token.specs.Tokens.{lexemes}
use Rattle.grammar.specs.Productions.{Mode}
use Rattle.table.specs.Layout.{row_room, term_room}
use Rattle.machine.specs.Step.{run}
use Rattle.machine.specs.Read.{Lent, lends, room_of, start_state}
use Rattle.machine.specs.Demand.{room_for}
use Rattle.machine.proofs.Sizes.{Alike, room_past}
use Rattle.state.specs.Represents.{Tables, most_counted, counted, room_in}

pub counted_room : (n : ℕ) → (counted n ≤ n) × (counted n ≤ most_counted)
counted_room n = by (leb n most_counted) (λ e. rw e (omega arith, leb-true n most_counted e)) (λ e. rw e (omega (arith, leb-false n most_counted e), omega arith))

-- What can be counted fits all the room if it fits what is counted.
same_test : (n k : ℕ) → k ≤ most_counted → ltb (counted n) k ≡ ltb n k
same_test n k h = by (leb n most_counted) (λ e. rw e) (λ e. rw e (le-ltb most_counted k h ∙ sym (le-ltb n k (omega (arith, leb-false n most_counted e)))))

abbrev lent_with : ℕ → Tables → Lent
lent_with work t = lends work (length t.rows) (length t.terms) (length t.store)

counted_alike : (size work : ℕ) (t : Tables) → size ≤ document_limit → Alike (room_for size) (room_in t) (room_of (lent_with work t))
counted_alike size work t h =
    record {
      rows = λ k l. same_test (row_room (length t.rows)) k (omega arith);
      terms = λ k l. same_test (term_room (length t.terms)) k (omega arith);
      store = λ k l. same_test (length t.store) k (omega arith);
    }

pub counted_run : (mode : Mode) (doc base : Text) (work : ℕ) (t : Tables) → length doc ≤ document_limit
    → run mode (room_in t) (length doc) (lexemes doc) (start_state base) ≡ run mode (room_of (lent_with work t)) (length doc) (lexemes doc) (start_state base)
counted_run mode doc base work t h = room_past mode doc base (counted_alike (length doc) work t h)

-- One row more, and the word of the node.
use mathlib.Core.Path.{◌≡◌, refl, sym, ap, ◌∙◌}
use mathlib.Core.List.{List, [], ◌∷◌}
use Prim.Native.Nat.{ℕ, ◌+◌, ◌*◌, ◌≤◌, ◌<◌}
use native.Mathlib.Omega.{arith}
use lib.ListN.{length, get_or, set, length-set}
use lib.Seq.{get_or-set_same, get_or-set_other}
use Rattle.environment.specs.Code.{words_size}
use Rattle.text.specs.Text.{Text}
use Rattle.text.proofs.Over.{over_at_length}
use Rattle.table.specs.Layout.{row_size, word_limit}
use Rattle.terms.specs.Keeps.{RowAdded}
use Rattle.terms.proofs.Growth.{five_small}
use Rattle.machine.specs.Memory.{Write}
use Rattle.state.specs.Words.{rows_word, node_word, Stays, node_in, graph_in}
use Rattle.state.specs.Represents.{Tables, Wrote}
use Rattle.writes.specs.Ready.{Writes}
use Rattle.writes.specs.Steps.{RowReady, RowWrites}
use Rattle.writes.proofs.Held.{row_room, held_row, held_word}

module _ (s p o at : ℕ) (rows st : List ℕ) (r : RowReady s p o at rows st) where
  pub room_for_row : (row_size * get_or st rows_word 0 + row_size ≤ length rows) × (get_or st rows_word 0 < 4294967294)
  room_for_row = row_room r.ready.old r.ready.memory r.work rows r.terms r.store st s p o at r.ready.represents r.ready.fits

  pub row_small : (i : ℕ) → get_or (graph_in st ∷ s ∷ p ∷ o ∷ at ∷ []) i 0 < word_limit
  row_small =
      five_small (graph_in st) s p o at (omega (arith, r.ready.represents.graph, r.ready.represents.graph_small)) r.subject r.predicate r.object r.position

  pub row_writes : (rows' st' : List ℕ) → RowAdded rows rows' (get_or st rows_word 0) (graph_in st ∷ s ∷ p ∷ o ∷ at ∷ [])
      → st' ≡ set st rows_word (get_or st rows_word 0 + 1) → RowWrites s p o at rows rows' st st'
  row_writes rows' st' A e work terms store = rw e (record {
    represents = λ old m R. held_row old m work rows rows' terms store st s p o at R room_for_row.0 room_for_row.1 A;
    result = λ old m R. refl;
    kept = record {
      front = refl;
      room = rw (ap length A.words ∙ over_at_length (row_size * get_or st rows_word 0) (graph_in st ∷ s ∷ p ∷ o ∷ at ∷ []) rows);
      stays = λ k h. get_or-set_other st rows_word k (get_or st rows_word 0 + 1) 0 (λ q. omega arith);
      words = length-set st rows_word (get_or st rows_word 0 + 1);
    };
  })

-- The result goes into the node's word.
pub wrote : (w : Write ℕ) (n : ℕ) (work work' : Text) (t t' : Tables) (st st' st'' : List ℕ) → Writes w n work work' t t' st st' → n < word_limit → length st ≡ words_size → st'' ≡ set st' node_word n
    → Wrote w work work' t t' st st'' × (Stays st st'' × (length st'' ≡ length st))
wrote w n work work' t t' st st' st'' W small long e =
    let here : node_in st'' ≡ n = rw e (get_or-set_same st' node_word n 0 (omega (arith, W.kept.words))) in (
      record {
        represents = λ old m R. rw e (held_word old (w m).1 work' t' st' node_word n (omega arith) (omega arith) (W.represents old m R));
        node = λ old m R. here ∙ sym (W.result old m R);
        small = omega (arith, here);
      },
      ((λ k h. rw e (get_or-set_other st' node_word k n 0 (λ q. omega arith) ∙ W.kept.stays k h)), rw e (length-set st' node_word n ∙ W.kept.words)),
    )

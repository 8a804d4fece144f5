-- A document that is cut where the first bad sequence behind a place begins: what stands before it is UTF-8.
use mathlib.Core.Path.{◌≡◌, refl, ap, sym, ◌∙◌}
use mathlib.Core.List.{List, [], ◌∷◌, ◌++◌, append_assoc}
use mathlib.Core.Option.{none, some}
use Prim.Native.Nat.{ℕ, zero, suc, pred, ◌+◌, ◌≤◌}
use native.Mathlib.Omega.{arith}
use lib.Dec.{eqb, eqb-suc-zero}
use lib.ListN.{length, take, drop, length-append, length-drop, take-append-drop}
use lib.Seq.{take_at, drop_at, drop-drop, drop-append-le, length-take-le}
use Rattle.text.specs.Text.{Text, cond}
use Rattle.utf8.specs.Utf8.{sequence_size, code_point, bad_from, first_bad, decode, encode, encodes, width}
use Rattle.utf8.proofs.Encoding.{length_encode, size_reads}
use Rattle.utf8.proofs.Decoding.{valid_encoded, encoded_valid}
use Rattle.token.specs.Regular.{size}
use Rattle.token.proofs.Sizes.{length_encodes}
use Rattle.automaton.specs.Run.{Front}

pub text_size : (s : Text) → first_bad s ≡ none → length s ≡ size width (decode s)
text_size s v = ap length (valid_encoded s v).bytes ∙ length_encodes (decode s)

-- ---- The code points before a bad sequence

-- From the place `at` on, code points up to p, and there no sequence.
record Broken (s : Text) (at p : ℕ) : Type 0 where
  cs : List ℕ
  z : Text
  front : Front s cs z
  sized : at + size width cs ≡ p

broken_from : (s : Text) (at k p : ℕ) → bad_from at k s ≡ some p → Broken (drop k s) (at + k) p
unfolding bad_from encodes
broken_from [] at zero p e = let z : ◌≡◌ {A = ℕ} 0 1 = cc in absurd (omega arith)
broken_from [] at (suc k) p e = let z : ◌≡◌ {A = ℕ} 0 1 = cc in absurd (omega arith)
broken_from (b ∷ s) at (suc k) p e =
    let r = broken_from s (suc at) k p e in
    let o = r.sized in
    record { cs = r.cs; z = r.z; front = r.front; sized = omega arith }
broken_from (b ∷ s) at zero p e = go (sequence_size (b ∷ s)) refl (λ k. broken_from s (suc at) k p) e
  where
    go : (n : ℕ) → sequence_size (b ∷ s) ≡ n → ((k : ℕ) → bad_from (suc at) k s ≡ some p → Broken (drop k s) (suc at + k) p)
        → cond (eqb n 0) (some at) (bad_from (suc at) (pred n) s) ≡ some p → Broken (b ∷ s) (at + 0) p
    go zero f ih e = let o : at ≡ p = cc in record { cs = []; z = b ∷ s; front = record { scalars = tt; bytes = refl; bad = f }; sized = omega arith }
    go (suc k) f ih e =
        let c = code_point (take (suc k) (b ∷ s)) in
        let r = size_reads (b ∷ s) k f in
        let g = ih k (rw (eqb-suc-zero k) at e) in
        let d : drop k s ≡ r.rest = ap (drop (suc k)) r.whole ∙ drop_at (encode c) r.rest (suc k) (length_encode c ∙ sym r.size) in
        let o = g.sized in
        let w = r.size in
        record {
          cs = c ∷ g.cs;
          z = g.z;
          front = record {
            scalars = (r.scalar, g.front.scalars);
            bytes = r.whole ∙ ap (λ (x : Text). encode c ++ x) (sym d ∙ g.front.bytes) ∙ sym (append_assoc (encode c) (encodes g.cs) g.z);
            bad = g.front.bad;
          };
          sized = omega arith;
        }

-- ---- The document up to it

abbrev pub cut : Text → ℕ → ℕ → Text
cut doc place p = take (place + p) doc

-- What stands from there on.
abbrev pub bad : Text → ℕ → ℕ → Text
bad doc place p = drop (place + p) doc

module _ (doc : Text) (place p : ℕ) (i : place ≤ length doc) (v : first_bad (drop place doc) ≡ some p) where
  broken : Broken (drop place doc) 0 p
  unfolding first_bad
  broken = broken_from (drop place doc) 0 0 p v

  before : length (encodes broken.cs) ≡ p
  before = let o = broken.sized in let l = length_encodes broken.cs in omega arith

  pub cut_length : (place + p ≤ length doc) × (length (cut doc place p) ≡ place + p)
  cut_length =
      let l = sym (length-drop place doc) ∙ ap length broken.front.bytes ∙ length-append (encodes broken.cs) broken.z in
      let o = before in
      let h : place + p ≤ length doc = omega arith in
      (h, length-take-le (place + p) doc h)

  cut_drop : (at : ℕ) → at ≤ place + p → drop at doc ≡ drop at (cut doc place p) ++ bad doc place p
  cut_drop at h =
      let l = cut_length.1 in
      ap (drop at) (sym (take-append-drop (place + p) doc)) ∙ drop-append-le at (cut doc place p) (bad doc place p) (omega arith)

  bad_is : bad doc place p ≡ broken.z
  bad_is = sym (drop-drop p place doc) ∙ ap (drop p) broken.front.bytes ∙ drop_at (encodes broken.cs) broken.z p before

  -- It is UTF-8 from the place on ..
  pub cut_valid : first_bad (drop place (cut doc place p)) ≡ none
  cut_valid =
      (encoded_valid (drop place (cut doc place p)) broken.cs
      (record {
        scalars = broken.front.scalars;
        bytes =
            let l = cut_length.1 in
            let m = length-drop place (cut doc place p) in
            sym (take_at (drop place (cut doc place p)) (bad doc place p) p (omega arith)) ∙ ap (take p) (sym (cut_drop place (omega arith)) ∙ broken.front.bytes)
            ∙ take_at (encodes broken.cs) broken.z p before;
      })
      ).0

  -- .. and what is left of it at a place is the front of what is left of the document.
  pub cut_front : (at : ℕ) → at ≤ place + p → first_bad (drop at (cut doc place p)) ≡ none → Front (drop at doc) (decode (drop at (cut doc place p))) (bad doc place p)
  cut_front at h w = record {
    scalars = (valid_encoded (drop at (cut doc place p)) w).scalars;
    bytes = cut_drop at h ∙ ap (λ (x : Text). x ++ bad doc place p) (valid_encoded (drop at (cut doc place p)) w).bytes;
    bad = ap sequence_size bad_is ∙ broken.front.bad;
  }

  pub cut_size : (at : ℕ) → at ≤ place + p → first_bad (drop at (cut doc place p)) ≡ none → at + size width (decode (drop at (cut doc place p))) ≡ place + p
  cut_size at h w =
      let l = cut_length.1 in
      let m = length-drop at (cut doc place p) in
      let n = text_size (drop at (cut doc place p)) w in
      omega arith

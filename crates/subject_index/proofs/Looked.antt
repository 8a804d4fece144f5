-- The look-up in an index gives what a walk over all rows gives.
use mathlib.Core.Path.{◌≡◌, refl, sym, ap, ◌∙◌}
use mathlib.Core.List.{List, [], ◌∷◌}
use mathlib.Core.Bool.{Bool, true, false}
use mathlib.Core.Option.{Option, none, some}
use Prim.Native.Nat.{ℕ, zero, suc, ◌≤◌, ◌<◌}
use native.Mathlib.Omega.{arith}
use lib.ListN.{length}
use Rattle.std.specs.Prelude.{Result, Ok}
use Rattle.limits.specs.declared.Refusal.{Refusal}
use Rattle.text.specs.Text.{Text, cond, same_text}
use Rattle.text.specs.Order.{smaller}
use Rattle.text.proofs.Compare.{by, same_eq, same_refl}
use Rattle.text.proofs.Order.{smaller_trans, smaller_differs, smaller_unlike, one_of_three}
use Rattle.limits.specs.Limits.{iri_limit}
use Rattle.table.specs.Layout.{Slices}
use Rattle.look_up.specs.declared.Rows.{Rows}
use Rattle.look_up.specs.Record.{rows, Entry, entries_from, entries}
use Rattle.look_up.specs.Look.{absent, search, look}
use Rattle.look_up.proofs.Records.{Holds, read_again}
use Rattle.subject_index.specs.Index.{insert_any, is_subject, counted, sorted, walk, records, index_of, subject, index, check}
use Rattle.subject_index.proofs.Rising.{Rising, rising_sorted}
use Rattle.subject_index.proofs.Expected.{has, or_else, has_any, uncut_of, subject_short, yes_only}

-- What is smaller than the first of rising texts is not among them.
has_not : (a t : Text) (ts : List Text) → smaller a t ≡ true → Rising (some t) ts → has a ts ≡ false
unfolding has
has_not a t [] h r = refl
has_not a t (u ∷ us) h (k, r) = let l = smaller_trans a t u h k in rw (smaller_differs a u l) (has_not a u us l r)

module _ (subject : ℕ → Option Text) (n : ℕ) where
  -- ---- The index, read

  abbrev its_entry : Text → Entry
  its_entry t = record { text = t; rows = walk subject t n }

  unfoldable told : List Text → List (Option Entry)
  told [] = []
  told (t ∷ ts) = some (its_entry t) ∷ told ts

  read_records : (limit : ℕ) (ts : List Text) → ((t : Text) → has t ts ≡ true → Holds limit t (walk subject t n)) → entries limit (records subject ts n) ≡ told ts
  unfolding records told has entries_from
  read_records limit [] h = refl
  read_records limit (t ∷ ts) h =
      read_again limit t (walk subject t n) (h t (rw (same_refl t))) (records subject ts n)
      ∙ ap (λ (es : List (Option Entry)). some (its_entry t) ∷ es) (read_records limit ts (λ u e. h u (or_else (same_text t u) (has u ts) (λ q. e))))

  module _ (address : Text) where
    -- ---- The look-up in rising texts finds the address just where it is among them

    search_told : (b : Option Text) (ts : List Text) → Rising b ts → search address b (told ts) ≡ cond (has address ts) (Ok (walk subject address n)) (Ok absent)
    unfolding told has search
    search_told b [] r = refl
    search_told b (t ∷ ts) (k, r) =
        by (smaller t address) (λ e. rw (k, e, smaller_unlike t address e) (search_told (some t) ts r))
        (λ e. by (same_text t address) (λ f. rw (k, e, f, same_eq t address f)) (λ f. rw (k, e, f, has_not address t ts (one_of_three t address e f) r)))

    -- A walk finds nothing where it is not.
    walk_listed : (m : ℕ) → cond (has address (sorted subject m)) (walk subject address m) (rows 0 0) ≡ walk subject address m
    unfolding sorted walk has counted
    walk_listed zero = refl
    walk_listed (suc m) = go (subject m) (walk_listed m)
      where
        go : (o : Option Text) → cond (has address (sorted subject m)) (walk subject address m) (rows 0 0) ≡ walk subject address m
            → cond (has address (insert_any o (sorted subject m))) (counted m (is_subject address o) (walk subject address m)) (rows 0 0) ≡ counted m (is_subject address o) (walk subject address m)
        go none r = r
        go (some t) r = let e = has_any subject address (some t) (sorted subject m) in by (same_text t address) (λ f. rw (e, f)) (λ f. rw (e, f) r)

    found_cond : (b : Bool) (r : Rows) → ◌≡◌ {A = Result Rows Refusal} (cond b (Ok r) (Ok absent)) (Ok (cond b r (rows 0 0)))
    found_cond true r = refl
    found_cond false r = refl

    pub look_walks : n < 4294967296 → (limit : ℕ) → limit < 65536 → ((i : ℕ) → i < n → (t : Text) → subject i ≡ some t → length t ≤ limit)
        → look limit address (index_of subject n) ≡ Ok (walk subject address n)
    unfolding look index_of
    look_walks few limit small short =
        ap (search address none) (read_records limit (sorted subject n) (uncut_of subject n few limit small short))
        ∙ (search_told none (sorted subject n) (rising_sorted subject n)
        ∙ (found_cond (has address (sorted subject n)) (walk subject address n) ∙ ap (λ (r : Rows). Ok r) (walk_listed n)))

-- "For bytes that C-16's check accepts, the answer equals that of a walk over all rows, absent subjects included": under every limit from the tables' own on.
pub look_tables : (s : Slices) → s.row_count < 4294967296 → (bytes : Text) → check s bytes ≡ Ok true → (limit : ℕ) → iri_limit ≤ limit → limit < 65536 → (address : Text)
    → look limit address bytes ≡ Ok (walk (subject s) address s.row_count)
unfolding index
look_tables s few bytes said limit h small address =
    let (u, e) = yes_only s bytes said in
    ap (look limit address) e
    ∙ look_walks (subject s) s.row_count address few limit small (λ i l t q. let z = subject_short s u i l t q in omega arith)

-- "Old index files give the same answers" (C-20): of subjects within an old limit, under a longer one.
pub old_index : (subject : ℕ → Option Text) (n : ℕ) → n < 4294967296 → (old new : ℕ) → old ≤ new → new < 65536 → ((i : ℕ) → i < n → (t : Text) → subject i ≡ some t → length t ≤ old)
    → (address : Text) → look new address (index_of subject n) ≡ look old address (index_of subject n)
old_index subject n few old new h small short address =
    look_walks subject n address few new small (λ i l t q. let z = short i l t q in omega arith) ∙ sym (look_walks subject n address few old (omega arith) short)

-- What an index of terms says of a search, and what one term more makes of it.
use mathlib.Core.Path.{◌≡◌, refl, sym, ap, subst, ◌∙◌}
use mathlib.Core.Bool.{Bool, true, false}
use mathlib.Core.List.{List, [], ◌∷◌, ◌++◌}
use mathlib.Core.Option.{none, some}
use Prim.Native.Nat.{ℕ, zero, suc, ◌+◌, ◌-◌, ◌*◌, ◌/◌, ◌%◌, ◌<◌, ◌≤◌}
use native.Mathlib.Nat.{mod-lt}
use native.Mathlib.Decide.{dec_le}
use native.Mathlib.Omega.{arith}
use lib.Dec.{T, ltb}
use borrow.Author.Tests.{ltb-true, ltb-false}
use lib.ListN.{length, get_or, take, drop, length-append, get_or-append}
use lib.Seq.{get_or-append_seam, take_at, drop_at, length-take-le}
use Rattle.text.specs.Text.{Text}
use Rattle.text.specs.Words.{four_at}
use Rattle.text.proofs.Compare.{by, contrary}
use Rattle.dataset.specs.Terms.{Blank, Term, iri, blank, literal, tagged}
use Rattle.table.specs.Layout.{entry_at}
use Rattle.table.specs.Tables.{same_term, number_from, number, or_zero, label_of, text_of, tag_of, words_from, terms_words, store_bytes, store_size}
use Rattle.table.proofs.Numbers.{same_term_eq}
use Rattle.table.proofs.Finding.{number_step, number_start, number_more}
use Rattle.text.proofs.Over.{rest_all}
use Rattle.spelling.proofs.Forms.{given_back}
use Rattle.text.proofs.Zeros.{zeros, zero_at}
use Rattle.terms.specs.declared.Counts.{Counts}
use Rattle.terms.specs.declared.Sort.{Sort}
use Rattle.terms.specs.Keeps.{blank_count, findable, Typed, Keeps, Means, Added, BlankAdded}
use Rattle.terms.specs.Code.{matches, first}
use Rattle.terms.proofs.Tests.{untyped}
use Rattle.terms.proofs.Kept.{bytes_room, readable, test_same, found_first}
use Rattle.term_tree.specs.Slots.{slot_at, put_slot}
use Rattle.term_tree.specs.Keys.{key_at, turn_of, turn_at, type_in}
use Rattle.terms.specs.Sorts.{type_of}
use Rattle.term_tree.specs.Tree.{Leads, buckets, least, bucket_in, turn_in, Trees, Indexed, Linked, Followed, Follows, Vacant, InSlots, Links}
use Rattle.std.specs.Prelude.{Option, Some, None, unwrap_or, ok_or, IfSome, Result, Ok, Err, MatchResult}
use Rattle.std.specs.Result.{result_ok}
use Rattle.term_tree.specs.Holds.{found, Holds, Searchable}
use Rattle.term_tree.proofs.Slots.{put_length, slot_same, slot_other}
use Rattle.term_tree.proofs.Trees.{leads_turns, same_trees, skipped, grown, least_left, least_low, least_high}

-- Where the first n terms are others, the search goes on behind them.
skip : (t : Term) (ts : List Term) (n : ℕ) → n ≤ length ts → ((i : ℕ) → i < n → same_term t (get_or ts i (iri [])) ≡ false) → number t ts ≡ number_from (suc n) t (drop n ts)
skip t ts zero h f = number_start t ts
skip t ts (suc n) h f = skip t ts n (omega arith) (λ i l. f i (omega arith)) ∙ (number_step t ts n (omega arith) ∙ rw (f n (omega arith)))

-- What a search is for is what the term is known by.
pub means_text : (ts : List Term) (sort : Sort) (x g : Text) (t : Term) → Means ts sort x g t → (text_of t ≡ x) × ((tag_of t ≡ g) × (type_in ts t ≡ type_of sort))
unfolding Means
means_text ts sort x g (iri s) M = (M.1.0, (sym M.1.1, untyped sort (λ k. omega (arith, M.0))))
means_text ts sort x g (blank b) M = (M.1.0, (sym M.1.1, untyped sort (λ k. omega (arith, M.0))))
means_text ts sort x g (literal s d) M = (M.1.0, (sym M.1.1.0, M.1.1.1))
means_text ts sort x g (tagged s h) M = (M.1.0, (M.1.1, untyped sort (λ k. omega (arith, M.0))))

-- The hash that serves a level.
module _ (x g : Text) (n key level : ℕ) where
  pub turned : (t : ℕ) → key ≡ key_at (level / 16) x g n → t ≡ turn_of key level → t ≡ turn_at x g n level
  unfolding turn_at
  turned t e q = q ∙ ap (λ (k : ℕ). turn_of k level) e

  pub served_before : key ≡ key_at (level / 16) x g n → key ≡ key_at ((level + 1 - 1) / 16) x g n
  served_before e = e ∙ ap (λ (l : ℕ). key_at (l / 16) x g n) (let z : level ≡ level + 1 - 1 = omega arith in z)

  pub served_same : key ≡ key_at ((level - 1) / 16) x g n → 0 < level → (level % 16 ≡ 0 → ⊥) → key ≡ key_at (level / 16) x g n
  served_same e h ne = e ∙ ap (λ (k : ℕ). key_at k x g n) (let z : (level - 1) / 16 ≡ level / 16 = omega (arith, away) in z)
    where
      away : 0 < level % 16
      away = elim (dec_le 1 (level % 16)) [ yes p ↦ p | no p ↦ absurd (ne (omega (arith, p))) ]

same_is : (t u : Term) → same_term t u ≡ true → t ≡ u
same_is t u e = same_term_eq t u (subst T (sym e) tt)

module _ {ts : List Term} {terms : List ℕ} {store : Text} {c : Counts} (K : Keeps ts terms store c) (sort : Sort) (x g : Text) (t : Term) (M : Means ts sort x g t) (f : findable t ≡ true) where
  abbrev test : ℕ → Bool
  test i = matches store (entry_at terms (suc i)) sort x g

  -- A term that passes is the term, in the bucket of its text.
  passes : (i : ℕ) → i < c.terms → test i ≡ true → t ≡ get_or ts i (iri [])
  passes i h e = same_is t (get_or ts i (iri [])) (sym (test_same K sort x g t M f i h) ∙ e)

  known : (text_of t ≡ x) × ((tag_of t ≡ g) × (type_in ts t ≡ type_of sort))
  known = means_text ts sort x g t M

  in_tree : (m : ℕ) (i : ℕ) → i < c.terms → test i ≡ true
      → (bucket_in m ts (get_or ts i (iri [])) ≡ key_at 0 x g (type_of sort) % m) × ((d : ℕ) → turn_in ts (get_or ts i (iri [])) d ≡ turn_at x g (type_of sort) d)
  in_tree m i h p = (
    ap (bucket_in m ts) (sym (passes i h p)) ∙ rw (f, known.0, known.1.0, known.1.1),
    λ d. ap (λ (u : Term). turn_in ts u d) (sym (passes i h p)) ∙ rw (known.0, known.1.0, known.1.1),
  )

  pub found_number : (k : ℕ) → 0 < k → k ≤ c.terms → test (k - 1) ≡ true → k ≡ or_zero (number t ts)
  found_number k q h e =
      let same : t ≡ get_or ts (k - 1) (iri []) = passes (k - 1) (omega arith) e in
      let own : number (get_or ts (k - 1) (iri [])) ts ≡ some (suc (k - 1)) = K.own (k - 1) (omega (arith, K.count)) (sym (ap findable same) ∙ f) in
      let mine : number t ts ≡ some (suc (k - 1)) = ap (λ (u : Term). number u ts) same ∙ own in
      sym (ap or_zero mine ∙ omega arith)

  pub rest_number : (n r : ℕ) → n ≤ c.terms → ((i : ℕ) → i < n → test i ≡ false) → r ≡ first test n (c.terms - n) → r ≡ or_zero (number t ts)
  rest_number n r h miss e =
      e
      ∙ (found_first K sort x g t M f n (c.terms - n) (omega arith)
      ∙ sym (ap or_zero (skip t ts n (omega (arith, K.count)) (λ i l. sym (test_same K sort x g t M f i (omega arith)) ∙ miss i l))))

  -- What following the tree of its bucket says.
  pub followed : (y : Text) (k : ℕ) → Indexed ts y → Follows y (key_at 0 x g (type_of sort) % buckets y) (turn_at x g (type_of sort)) (least c.terms (buckets y)) test k
      → Followed test (least c.terms (buckets y)) k
  unfolding Indexed
  followed y k I F =
      F (λ i. bucket_in (buckets y) ts (get_or ts i (iri []))) (λ i. turn_in ts (get_or ts i (iri []))) (rw K.count I)
      (λ i h p. in_tree (buckets y) i (omega (arith, least_left c.terms (buckets y))) p)

-- A search that goes on behind the tree, with the slot that was vacant there.
pub found_behind : (P Q : ℕ → Type 0) (o : Option ℕ) (s : ℕ) (r : Result ℕ ℕ) → r ≡ ok_or o s → P (unwrap_or o 0) → IfSome o (λ n. 0 < n) → Q s → P (found r) × MatchResult r (λ n. 0 < n) Q
found_behind P Q None s r e p h q = rw e (p, q)
found_behind P Q (Some n) s r e p h q = rw e (p, h)

-- The slot is dropped.
pub found_alone : (P Q : ℕ → Type 0) (r : Result ℕ ℕ) (o : Option ℕ) → o ≡ result_ok r → P (found r) → MatchResult r (λ n. 0 < n) Q → P (unwrap_or o 0) × IfSome o (λ n. 0 < n)
found_alone P Q (Ok n) o e p h = rw e (p, h)
found_alone P Q (Err s) o e p h = rw e (p, tt)

-- ---- An index of terms

pub indexed_linked : (ts : List Term) (x : Text) → Indexed ts x → Linked x (length ts)
unfolding Indexed
indexed_linked ts x I = record { within = I.within; deeper = I.deeper }

-- An index of no terms is a slice of zeros.
zero_slot : (n i : ℕ) → slot_at (zeros n) i ≡ 0
unfolding slot_at four_at
zero_slot n i = rw (zero_at n (4 * i), zero_at n (4 * i + 1), zero_at n (4 * i + 2), zero_at n (4 * i + 3))

pub indexed_none : (n : ℕ) → Indexed [] (zeros n)
unfolding Indexed
indexed_none n =
    let m = buckets (zeros n) in
    let none : least 0 m ≡ 0 = least_low 0 m (omega arith) in
    rw none
    (record {
      reached = λ i l h. absurd (omega arith);
      within = λ s h. omega (arith, zero_slot n s);
      deeper = λ c t l h q. absurd (omega (arith, zero_slot n (m + (2 * c + t))));
    })

-- One term more.
module _ (ts : List Term) (t : Term) (typed : (i : ℕ) → i < length ts → Typed ts (get_or ts i (iri []))) (m : ℕ) where
  abbrev ts' : List Term
  ts' = ts ++ t ∷ []

  longer : length ts' ≡ length ts + 1
  longer = length-append ts (t ∷ [])

  -- The datatype of a term keeps its number.
  same_type : (u : Term) → Typed ts u → type_in ts' u ≡ type_in ts u
  unfolding Typed
  same_type (iri s) y = refl
  same_type (blank b) y = refl
  same_type (literal s d) (n, e) = ap or_zero (number_more (iri d) ts (t ∷ []) n e ∙ sym e)
  same_type (tagged s g) y = refl

  old_term : (i : ℕ) → i < length ts → get_or ts' i (iri []) ≡ get_or ts i (iri [])
  old_term i h = get_or-append ts (t ∷ []) (iri []) i h

  old_bucket : (i : ℕ) → i < length ts → bucket_in m ts' (get_or ts' i (iri [])) ≡ bucket_in m ts (get_or ts i (iri []))
  old_bucket i h = rw (old_term i h, same_type (get_or ts i (iri [])) (typed i h))

  old_turn : (i : ℕ) → i < length ts → (d : ℕ) → turn_in ts (get_or ts i (iri [])) d ≡ turn_in ts' (get_or ts' i (iri [])) d
  old_turn i h d = sym (rw (old_term i h, same_type (get_or ts i (iri [])) (typed i h)))

  new_term : get_or ts' (length ts) (iri []) ≡ t
  new_term = get_or-append_seam ts t [] (iri [])

  abbrev buckets' : ℕ → ℕ
  buckets' i = bucket_in m ts' (get_or ts' i (iri []))

  abbrev turns' : ℕ → ℕ → ℕ
  turns' i = turn_in ts' (get_or ts' i (iri []))

  -- The index had no room for it.
  full : (x : Text) → m ≤ length ts → Trees m ts x → Trees m ts' x
  full x h I =
      let before : least (length ts) m ≡ m = least_high (length ts) m h in
      let behind : least (length ts') m ≡ m = least_high (length ts') m (omega (arith, longer)) in
      rw behind (same_trees (rw before at I) buckets' turns' (λ i l. old_bucket i (omega arith)) (λ i l. old_turn i (omega arith)))

  -- It has no bucket.
  away : (x : Text) → length ts < m → findable t ≡ false → Trees m ts x → Trees m ts' x
  away x h f I =
      let before : least (length ts) m ≡ length ts = least_low (length ts) m (omega arith) in
      let behind : least (length ts') m ≡ length ts + 1 = least_low (length ts') m (omega (arith, longer)) ∙ longer in
      let none : buckets' (length ts) ≡ m = rw (new_term, f) in
      rw behind (skipped (rw before at I) buckets' turns' old_bucket old_turn (omega (arith, none)))

  -- It is put into its slot.
  module _ (x : Text) (h : length ts < m) (small : length ts < 4294967295) (f : findable t ≡ true) (y : Typed ts t) (I : Trees m ts x) (s : ℕ)
      (fits : 4 * s + 4 ≤ length x) (empty : slot_at x s ≡ 0) (n : ℕ)
      (way : Leads m (slot_at x) (turn_at (text_of t) (tag_of t) (type_in ts t)) n (key_at 0 (text_of t) (tag_of t) (type_in ts t) % m) 0 s) where
    in_m : buckets' (length ts) < m
    in_m = rw (new_term, f) (mod-lt (key_at 0 (text_of t) (tag_of t) (type_in ts' t)) (omega arith))

    turn_small : (u : Text) (g : Text) (k d : ℕ) → turn_at u g k d < 2
    unfolding turn_at
    turn_small u g k d = mod-lt _ (omega arith)

    in_tree' : Trees m ts' (put_slot x s (length ts + 1))
    in_tree' =
        let before : least (length ts) m ≡ length ts = least_low (length ts) m (omega arith) in
        let behind : least (length ts') m ≡ length ts + 1 = least_low (length ts') m (omega (arith, longer)) ∙ longer in
        rw behind
        (grown (rw before at I) buckets' turns' old_bucket old_turn h (slot_at (put_slot x s (length ts + 1))) s empty (slot_same x s (length ts + 1) fits (omega arith))
        (λ k ne. slot_other x s (length ts + 1) k ne) in_m (λ d. turn_small _ _ _ d) n
        (leads_turns m (slot_at x) (turn_at (text_of t) (tag_of t) (type_in ts t)) (turns' (length ts)) (λ d. sym (rw (new_term, same_type t y))) n (buckets' (length ts)) 0 s
        (rw (new_term, f, same_type t y) way)))

-- A [ or a list cell leaves the index as it is.
pub indexed_blank : (ts : List Term) (t : Term) (x : Text) → ((i : ℕ) → i < length ts → Typed ts (get_or ts i (iri []))) → findable t ≡ false → Indexed ts x → Indexed (ts ++ t ∷ []) x
unfolding Indexed
indexed_blank ts t x y f I =
    by (ltb (length ts) (buckets x)) (λ e. away ts t y (buckets x) x (ltb-true (length ts) (buckets x) e) f I)
    (λ e. full ts t y (buckets x) x (ltb-false (length ts) (buckets x) e) I)

pub links_full : (x : Text) (count s : ℕ) → buckets x ≤ count → Links x x count s
unfolding Indexed
links_full x count s l ts t I y e z f v = full ts t y (buckets x) x (omega arith) I

pub links_new : (x x' : Text) (count s : ℕ) → count < buckets x → count < 4294967295 → InSlots x s → x' ≡ put_slot x s (count + 1) → Links x x' count s
unfolding Indexed
links_new x x' count s l small inside w ts t I y e z f v =
    let m = buckets x in
    let same : buckets x' ≡ m = ap (λ (n : ℕ). n / 12) (ap length w ∙ put_length x s (count + 1)) in
    let (n, (way, empty)) = v (omega arith) in
    let fits : s < 3 * m = inside (omega arith) in
    rw (same, w, ← e) (in_tree' ts t y m x (omega arith) (omega arith) f z I s (omega arith) empty n way)

-- ---- The whole memory

pub searchable : (ts : List Term) (terms : List ℕ) (store index : Text) (c : Counts) → Holds ts terms store index c → Searchable terms store index c
searchable ts terms store index c H = record { readable = readable H.keeps; linked = rw H.keeps.count (indexed_linked ts index H.indexed) }

-- No terms yet, in any slices, with an index of zeros.
pub holds_none : (terms : List ℕ) (store : Text) (n : ℕ) (c : Counts) → c.terms ≡ 0 → c.used ≡ 0 → c.blanks ≡ 0 → Holds [] terms store (zeros n) c
unfolding terms_words words_from store_bytes store_size blank_count
holds_none terms store n c a b d = record {
  keeps = record {
    words = rw a;
    bytes = rw b;
    count = a;
    used = b;
    blanks = d;
    typed = λ i h. absurd (omega arith);
    own = λ i h f. absurd (omega arith);
  };
  indexed = indexed_none n;
}

-- A [ or a list cell more.
pub holds_blank : (ts : List Term) (b : Blank) (terms terms' : List ℕ) (store index : Text) (c c' : Counts) → Holds ts terms store index c → BlankAdded terms terms' c c'
    → label_of b ≡ [] → findable (blank b) ≡ false → Holds (ts ++ blank b ∷ []) terms' store index c'
unfolding Means Typed
holds_blank ts b terms terms' store index c c' H A e f = record {
  keeps = (A store (bytes_room H.keeps)).keeps ts (blank b) H.keeps (refl, (e, refl)) tt (λ g. contrary (sym g ∙ f));
  indexed = indexed_blank ts (blank b) index H.keeps.typed f H.indexed;
}

-- A term more that a token may name again: it was added, and put into its slot.
pub holds_added : (ts : List Term) (t : Term) (terms terms' : List ℕ) (store store' index index' : Text) (c c' : Counts) (sort : Sort) (x g : Text) (s : ℕ) → Holds ts terms store index c
    → Added terms terms' store store' c c' sort x g → Links index index' c.terms s → Vacant index x g (type_of sort) s → Means ts sort x g t → Typed ts t → findable t ≡ true → number t ts ≡ none
    → Holds (ts ++ t ∷ []) terms' store' index' c'
holds_added ts t terms terms' store store' index index' c c' sort x g s H A L v M y f n =
    let known = means_text ts sort x g t M in
    record {
      keeps = A.keeps ts t H.keeps M y (λ _. n);
      indexed = L ts t H.indexed H.keeps.typed (sym H.keeps.count) y f (rw (known.0, known.1.0, known.1.1) v);
    }

-- ---- The index at the end of the work slice, from n on

pub end_part : (n m : ℕ) (work : Text) → n ≡ m → take (length work - n) (drop n work) ≡ drop m work
end_part n m work e = rest_all work n ∙ ap (λ (k : ℕ). drop k work) e

pub entered : (n m : ℕ) (work w : Text) (count s : ℕ) → n ≡ m → m ≤ length work → Links (take (length work - n) (drop n work)) w count s
    → (take m (take n work ++ (w ++ drop (length work - n) (drop n work))) ≡ take m work) × Links (drop m work) (drop m (take n work ++ (w ++ drop (length work - n) (drop n work)))) count s
entered n m work w count s e h L =
    let front : length (take n work) ≡ m = length-take-le n work (omega arith) ∙ e in
    let back : take n work ++ (w ++ drop (length work - n) (drop n work)) ≡ take n work ++ w = given_back work w n in (
      rw back (take_at (take n work) w m front ∙ ap (λ (k : ℕ). take k work) e),
      rw (back, drop_at (take n work) w m front) (rw (end_part n m work e) at L),
    )

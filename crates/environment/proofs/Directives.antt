-- What the directives leave in the work slice and in the array.
use Prim.Native.Nat.{ℕ, suc, ◌+◌, ◌*◌, ◌-◌, ◌≤◌, ◌<◌, min}
use mathlib.Core.Path.{◌≡◌, refl, ap, sym, ◌∙◌}
use mathlib.Core.List.{List, [], ◌++◌}
use mathlib.Core.Bool.{Bool, true, false, not, ◌&&◌}
use native.Mathlib.Omega.{arith}
use lib.ListN.{length, get_or, take, drop, set, length-set}
use lib.Seq.{get_or-set_same, get_or-set_other, take_all}
use lib.Dec.{leb}
use borrow.Author.Tests.{lt-ltb, le-ltb, le-leb, lt-leb}
use Rattle.text.specs.Text.{Text, cond}
use Rattle.text.specs.Slice.{over, over_at}
use Rattle.text.proofs.Over.{over_at_length, over_at_back, over_part}
use Rattle.environment.specs.Environment.{Binding, bind, bound}
use Rattle.environment.specs.Code.{words_size, is_declared, declare_answer, after_declare, binding, count, listed, place, base_cell, environment_in, Usable, WroteBinding, Beside, Declares, SetsBase, cell_size, base_place, count_word, base_word, own_word}
use Rattle.std.specs.Prelude.{Ok, Err}
use Rattle.environment.specs.declared.DeclareError.TheVariants.{TooLong, TooMany}
use Rattle.environment.specs.declared.BaseTooLong.{BaseTooLong}
use Rattle.environment.proofs.Bindings.{not_declared, declared_at, listed_length, listed_same, declare_again, declare_new}
use Rattle.environment.proofs.Cells.{cell_read, most_small, cell_new, kept_before, front_cell, binding_new, binding_other, base_stays, count_stays, written_usable, written_beside}
use Rattle.limits.specs.Limits.{iri_limit, prefix_limit, prefixes_limit, work_size}

-- The whole slice, lent as a part of itself.
pub whole : (x : Text) → take (length x - 0) (drop 0 x) ≡ x
whole x = take_all (length x - 0) x (omega arith)

-- Two texts, each written over the front of a part.
pub two_parts : (x p ns y z : Text) (a b k m : ℕ) → k ≡ length x - a → y ≡ over p (take k (drop a x)) → m ≡ length (take a x ++ (y ++ drop k (drop a x))) - b
    → z ≡ over ns (take m (drop b (take a x ++ (y ++ drop k (drop a x)))))
    → take b (take a x ++ (y ++ drop k (drop a x))) ++ (z ++ drop m (drop b (take a x ++ (y ++ drop k (drop a x))))) ≡ over_at b ns (over_at a p x)
two_parts x p ns y z a b k m ek ey em ez = over_part b ns (take a x ++ (y ++ drop k (drop a x))) z m em ez ∙ ap (over_at b ns) (over_part a p x y k ek ey)

-- Bindings and base do not see the count.
by_lengths : (work : Text) (lens lens' : List ℕ) → ((k : ℕ) → (k ≡ count_word → ⊥) → get_or lens' k 0 ≡ get_or lens k 0) → (j : ℕ) → j < prefixes_limit → binding work lens' j ≡ binding work lens j
unfolding binding
by_lengths work lens lens' same j h = rw (same j (λ e. omega arith), same (prefixes_limit + j) (λ e. omega arith))

base_by : (work : Text) (lens lens' : List ℕ) → ((k : ℕ) → (k ≡ count_word → ⊥) → get_or lens' k 0 ≡ get_or lens k 0) → base_cell work lens' ≡ base_cell work lens
unfolding base_cell
base_by work lens lens' same = rw (same base_word (λ e. omega arith))

beside_same : (work : Text) (lens : List ℕ) → Beside work work lens lens
beside_same work lens = record { own = λ k h. refl; behind = refl; long = refl }

module _ (work : Text) (lens : List ℕ) (p ns : Text) (u : Usable work lens) where
  pub prefix_too_long : prefix_limit < length p → Declares work work lens lens p ns (Err TooLong)
  unfolding declare_answer after_declare
  prefix_too_long h = record { answer = rw (lt-ltb prefix_limit (length p) h); after = refl; usable = u; beside = beside_same work lens }

  module _ (hp : length p ≤ prefix_limit) where
    pub namespace_too_long : iri_limit < length ns → Declares work work lens lens p ns (Err TooLong)
    unfolding declare_answer after_declare
    namespace_too_long h = record { answer = rw (le-ltb prefix_limit (length p) hp, lt-ltb iri_limit (length ns) h); after = refl; usable = u; beside = beside_same work lens }

    module _ (hn : length ns ≤ iri_limit) (n i : ℕ) (en : n ≡ count lens) (ei : i ≡ place p (listed (binding work lens) 0 n)) (hi : i ≤ n) where
      abbrev f : ℕ → Binding
      f = binding work lens

      namespaces_are : (environment_in work lens).namespaces ≡ listed f 0 n
      unfolding environment_in
      namespaces_are = rw en

      answer_by : (known : Bool) → is_declared p (listed f 0 n) ≡ known → declare_answer (environment_in work lens) p ns ≡ cond (not known && leb prefixes_limit n) (Err TooMany) (Ok tt)
      unfolding declare_answer
      answer_by known e = rw (le-ltb prefix_limit (length p) hp, le-ltb iri_limit (length ns) hn, namespaces_are, e, listed_length p f 0 n)

      pub too_many : prefixes_limit ≤ i → n ≤ prefixes_limit → Declares work work lens lens p ns (Err TooMany)
      unfolding after_declare
      too_many h h32 = record {
        answer = sym (answer_by false (not_declared p f 0 n (omega arith)) ∙ rw (le-leb prefixes_limit n (omega arith)));
        after = refl;
        usable = u;
        beside = beside_same work lens;
      }

      -- The binding is written at the prefix's place.
      module _ (work' : Text) (lens' : List ℕ) (w : WroteBinding work work' lens lens' i p ns) (small : i < prefixes_limit) where
        pub declared_again : i < n → n ≤ prefixes_limit → Declares work work' lens lens' p ns (Ok tt)
        unfolding after_declare environment_in
        declared_again h h32 =
            let z : 0 + i ≡ i = omega arith in
            let c : count lens' ≡ n = rw (count_stays work work' lens lens' i p ns w u small hp hn) (sym en) in
            let new : binding work' lens' (0 + i) ≡ bind p ns = rw z (binding_new work work' lens lens' i p ns w u small hp hn) in
            let bs : listed (binding work' lens') 0 n ≡ bound p ns (listed f 0 n) =
            declare_again p f ns (binding work' lens') 0 n i ei h (λ j l m q. binding_other work work' lens lens' i p ns w u small hp hn j (omega arith) (λ e. q (omega arith))) new in
            record {
              answer = sym (answer_by true (declared_at p f 0 n (omega arith)));
              after = rw (c, bs, base_stays work work' lens lens' i p ns w u small hp hn, ← en);
              usable = written_usable work work' lens lens' i p ns w u small hp hn;
              beside = written_beside work work' lens lens' i p ns w u small hp hn;
            }

        pub declared_first : (lens'' : List ℕ) → n ≤ i → lens'' ≡ set lens' count_word (n + 1) → Declares work work' lens lens'' p ns (Ok tt)
        unfolding after_declare environment_in
        declared_first lens'' h e'' =
            let words : length lens' ≡ words_size = (written_usable work work' lens lens' i p ns w u small hp hn).words in
            let words'' : length lens'' ≡ words_size = ap length e'' ∙ (length-set lens' count_word (n + 1) ∙ words) in
            let total : get_or lens'' count_word 0 ≡ n + 1 = ap (λ (l : List ℕ). get_or l count_word 0) e'' ∙ get_or-set_same lens' count_word (n + 1) 0 (omega arith) in
            let c : count lens'' ≡ suc n = rw total (most_small (n + 1) prefixes_limit (omega arith) ∙ omega arith) in
            let same : (k : ℕ) → (k ≡ count_word → ⊥) → get_or lens'' k 0 ≡ get_or lens' k 0 = λ k q. ap (λ (l : List ℕ). get_or l k 0) e'' ∙ get_or-set_other lens' count_word k (n + 1) 0 q in
            let z : 0 + n ≡ i = omega arith in
            let new : binding work' lens'' (0 + n) ≡ bind p ns = rw z (by_lengths work' lens' lens'' same i small ∙ binding_new work work' lens lens' i p ns w u small hp hn) in
            let bs : listed (binding work' lens'') 0 (suc n) ≡ bound p ns (listed f 0 n) =
            declare_new p f ns (binding work' lens'') 0 n (omega arith)
            (λ j l m. by_lengths work' lens' lens'' same j (omega arith) ∙ binding_other work work' lens lens' i p ns w u small hp hn j (omega arith) (λ e. omega arith)) new in
            let b : base_cell work' lens'' ≡ base_cell work lens = base_by work' lens' lens'' same ∙ base_stays work work' lens lens' i p ns w u small hp hn in
            record {
              answer = sym (answer_by false (not_declared p f 0 n (omega arith)) ∙ rw (lt-leb prefixes_limit n (omega arith)));
              after = rw (c, bs, b, ← en);
              usable = record { room = (written_usable work work' lens lens' i p ns w u small hp hn).room; words = words'' };
              beside =
                  let o = written_beside work work' lens lens' i p ns w u small hp hn in
                  record { own = λ k h. same k (λ e. omega arith) ∙ o.own k h; behind = o.behind; long = o.long };
            }

-- Setting the base leaves the bindings.
unmoved : (work work' : Text) (lens lens' : List ℕ) (iri : Text) → work' ≡ over_at base_place iri work → ((k : ℕ) → (k ≡ base_word → ⊥) → get_or lens' k 0 ≡ get_or lens k 0) → (j : ℕ) → j < prefixes_limit → binding work' lens' j ≡ binding work lens j
unfolding binding
unmoved work work' lens lens' iri ew same j h =
    rw (
      ew,
      same j (λ e. omega arith),
      same (prefixes_limit + j) (λ e. omega arith),
      kept_before work iri base_place (j * cell_size) prefix_limit (get_or lens j 0) (omega arith),
      kept_before work iri base_place (j * cell_size + prefix_limit) iri_limit (get_or lens (prefixes_limit + j) 0) (omega arith),
    )

new_base : (work work' : Text) (lens' : List ℕ) (iri : Text) → work' ≡ over_at base_place iri work → get_or lens' base_word 0 ≡ length iri → length iri ≤ iri_limit → work_size ≤ length work → base_cell work' lens' ≡ iri
unfolding base_cell
new_base work work' lens' iri ew el h room = rw ew (cell_new work iri base_place iri_limit (get_or lens' base_word 0) el h (omega arith))

module _ (work : Text) (lens : List ℕ) (iri : Text) (u : Usable work lens) where
  pub base_too_long : iri_limit < length iri → (r : BaseTooLong) → SetsBase work work lens lens iri (Err r)
  base_too_long h r = record { answer = sym (lt-leb (length iri) iri_limit h); after = refl; usable = u; beside = beside_same work lens }

  pub base_set : (work' : Text) (lens' : List ℕ) → length iri ≤ iri_limit → work' ≡ over_at base_place iri work → lens' ≡ set lens base_word (length iri) → SetsBase work work' lens lens' iri (Ok tt)
  unfolding environment_in
  base_set work' lens' h ew el =
      let long : get_or lens' base_word 0 ≡ length iri = ap (λ (l : List ℕ). get_or l base_word 0) el ∙ get_or-set_same lens base_word (length iri) 0 (omega (arith, u.words)) in
      let same : (k : ℕ) → (k ≡ base_word → ⊥) → get_or lens' k 0 ≡ get_or lens k 0 = λ k q. ap (λ (l : List ℕ). get_or l k 0) el ∙ get_or-set_other lens base_word k (length iri) 0 q in
      let c : count lens' ≡ count lens = rw (same count_word (λ e. omega arith)) in
      let bs : listed (binding work' lens') 0 (count lens) ≡ listed (binding work lens) 0 (count lens) =
      listed_same iri (binding work lens) iri (binding work' lens') 0 (count lens) (λ j l m. unmoved work work' lens lens' iri ew same j (omega arith)) in
      record {
        answer = sym (le-leb (length iri) iri_limit h);
        after = rw (c, bs, new_base work work' lens' iri ew long h u.room);
        usable = record {
          room = omega (arith, ap length ew, over_at_length base_place iri work, u.room);
          words = ap length el ∙ (length-set lens base_word (length iri) ∙ u.words);
        };
        beside =
            record {
              own = λ k q. same k (λ e. omega arith);
              behind = ap (drop work_size) ew ∙ over_at_back base_place iri work work_size (omega arith);
              long = ap length ew ∙ over_at_length base_place iri work;
            };
      }

-- The base is read from its cell.
pub base_read : (work : Text) (lens : List ℕ) (r : ℕ) → r ≡ min (get_or lens base_word 0) iri_limit → take (base_place + r - base_place) (drop base_place work) ≡ (environment_in work lens).base
unfolding environment_in base_cell
base_read work lens r e = cell_read work base_place iri_limit (get_or lens base_word 0) r e

bound_words : (work : Text) (lens lens' : List ℕ) (j : ℕ) → get_or lens' j 0 ≡ get_or lens j 0 → get_or lens' (prefixes_limit + j) 0 ≡ get_or lens (prefixes_limit + j) 0 → binding work lens' j ≡ binding work lens j
unfolding binding
bound_words work lens lens' j e f = rw (e, f)

front_binding : (work work' : Text) (lens : List ℕ) (j : ℕ) → take work_size work' ≡ take work_size work → j < prefixes_limit → binding work' lens j ≡ binding work lens j
unfolding binding
front_binding work work' lens j e h = rw (front_cell work work' (j * cell_size) prefix_limit (get_or lens j 0) e (omega arith), front_cell work work' (j * cell_size + prefix_limit) iri_limit (get_or lens (prefixes_limit + j) 0) e (omega arith))

-- The environment depends on the words before the caller's own, and on the front of the work slice.
pub in_force_words : (work : Text) (lens lens' : List ℕ) → ((k : ℕ) → k < own_word → get_or lens' k 0 ≡ get_or lens k 0) → environment_in work lens' ≡ environment_in work lens
unfolding environment_in base_cell
in_force_words work lens lens' same =
    let c : count lens' ≡ count lens = rw (same count_word (omega arith)) in
    let bs : listed (binding work lens') 0 (count lens) ≡ listed (binding work lens) 0 (count lens) =
    listed_same [] (binding work lens) [] (binding work lens') 0 (count lens) (λ j l m. by_words work lens lens' same j (omega arith)) in
    rw (c, bs, same base_word (omega arith))
  where
    by_words : (work : Text) (lens lens' : List ℕ) → ((k : ℕ) → k < own_word → get_or lens' k 0 ≡ get_or lens k 0) → (j : ℕ) → j < prefixes_limit → binding work lens' j ≡ binding work lens j
    by_words work lens lens' same j h = bound_words work lens lens' j (same j (omega arith)) (same (prefixes_limit + j) (omega arith))

pub in_force_front : (work work' : Text) (lens : List ℕ) → take work_size work' ≡ take work_size work → environment_in work' lens ≡ environment_in work lens
unfolding environment_in base_cell
in_force_front work work' lens e =
    let bs : listed (binding work' lens) 0 (count lens) ≡ listed (binding work lens) 0 (count lens) =
    listed_same [] (binding work lens) [] (binding work' lens) 0 (count lens) (λ j l m. front_binding work work' lens j e (omega arith)) in
    rw (bs, front_cell work work' base_place iri_limit (get_or lens base_word 0) e (omega arith))

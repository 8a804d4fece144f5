-- Laws of writing an IRI into a buffer by its plan.
use Prim.Native.Nat.{ℕ, zero, suc, ◌+◌, ◌-◌, ◌≤◌, ◌<◌}
use mathlib.Core.Path.{◌≡◌, refl, ap, sym, subst, ◌∙◌}
use mathlib.Core.List.{[], ◌∷◌, ◌++◌, append-nil, append_assoc}
use mathlib.Core.Bool.{Bool, true, false}
use native.Mathlib.Numerals.{add-one}
use native.Mathlib.Omega.{arith}
use lib.ListN.{length, get_or, take, drop, replicate, set, length-drop, length-append, length-replicate, drop_of_length-le}
use lib.Seq.{take_all, drop-drop, length-take-le, take-append-add, drop-append-add, take-take, take_at, drop_at, get_or-drop, get_or-take, set_split}
use borrow.Author.Tests.{lt-ltb, le-ltb}
use Rattle.text.specs.Text.{Text}
use Rattle.text.specs.Slice.{over, over_at}
use Rattle.text.proofs.Over.{over_length, over_append, over_front, over_back, over_at_front, over_at_length, over_at_next, over_at_later, over_at_none}
use Rattle.iri.specs.Iri.{has_scheme}
use Rattle.iri.specs.Dots.{remove_dot_segments}
use Rattle.iri.specs.Resolve.{resolve, resolve_with_dots, resolved}
use Rattle.iri.specs.Code.{before, stop, plan_of, Planned, Removed, Holds, relative_answer, answer, reference, Resolved, ResolvedAt}
use Rattle.iri.specs.declared.Part.TheVariants.{Colon}
use Rattle.iri.specs.declared.Plan.{Plan}
use Rattle.std.specs.Prelude.{Result, Ok, Err}
use Rattle.iri.specs.declared.ResolveError.{ResolveError}
use Rattle.iri.specs.declared.ResolveError.TheVariants.{Long, NoBase}
use Rattle.iri.proofs.Buffer.{window_as}
use Rattle.iri.proofs.Plans.{planned}

-- Bytes move to the left one by one: a byte that is read has not been written over.
module _ (x y : Text) (start n to i : ℕ) (back : to ≤ start) (fits : start + n ≤ length x) (more : i < n) (e : y ≡ over_at to (take i (take n (drop start x))) x) where
  moved_length : length (take n (drop start x)) ≡ n
  moved_length = length-take-le n (drop start x) (omega (arith, length-drop start x))

  moving : get_or y (start + i) 0 ≡ get_or (take n (drop start x)) i 0
  moving =
      ap (λ (l : Text). get_or l (start + i) 0) e
      ∙ (over_at_later to (take i (take n (drop start x))) x (start + i) (omega (arith, length-take-le i (take n (drop start x)) (omega (arith, moved_length))))
      ∙ sym (get_or-take n (drop start x) i 0 more ∙ get_or-drop start x i 0))

  pub moves_on : set y (to + i) (get_or y (start + i) 0) ≡ over_at to (take (i + 1) (take n (drop start x))) x
  moves_on = over_at_next to (take n (drop start x)) x y i _ (omega (arith, moved_length)) moving e

pub one_slash : (x : Text) (at n : ℕ) → n ≡ 1 → at < length x → set x at 47 ≡ over_at at (replicate n 47) x
unfolding over_at over
one_slash x at n e h = rw e (set_split x at 47 h ∙ ap (λ (l : Text). take at x ++ l) (sym (first (drop at x) (omega (arith, length-drop at x)) ∙ ap (λ (l : Text). 47 ∷ l) (rest x at))))
  where
    first : (s : Text) → 0 < length s → over (47 ∷ []) s ≡ 47 ∷ drop 1 s
    first [] h = absurd (omega arith)
    first (b ∷ s) h = refl

    rest : (x : Text) (at : ℕ) → drop 1 (drop at x) ≡ drop (suc at) x
    rest x at = drop-drop 1 at x ∙ rw add-one

pub no_slash : (x : Text) (at n : ℕ) → n ≤ 1 → (n ≡ 1 → ⊥) → x ≡ over_at at (replicate n 47) x
no_slash x at zero h e = sym (over_at_none at x)
no_slash x at (suc zero) h e = absurd (e refl)
no_slash x at (suc (suc n)) h e = absurd (omega arith)

after_text : (s t o : Text) (n : ℕ) → length s ≡ n → over_at n t (over s o) ≡ over (s ++ t) o
after_text s t o n l = subst (λ (k : ℕ). over_at k t (over s o) ≡ over (s ++ t) o) l (sym (over_append s t o))

-- The base's part, the slash and the reference's path, one after the other.
pub front_put : (base o x y z : Text) (keep slash path start : ℕ) → keep ≤ length base → keep + slash ≤ start → x ≡ over (take keep base) o → y ≡ over_at keep (replicate slash 47) x
    → z ≡ over_at (keep + slash) (take path (drop start y)) y → z ≡ over (take keep base ++ (replicate slash 47 ++ take path (drop start o))) o
front_put base o x y z keep slash path start hk hs ex ey ez =
    let A : Text = take keep base in
    let S : Text = replicate slash 47 in
    let la : length A ≡ keep = length-take-le keep base hk in
    let ls : length (A ++ S) ≡ keep + slash = length-append A S ∙ omega (arith, length-replicate {A = ℕ} slash 47) in
    let fy : y ≡ over (A ++ S) o = ey ∙ rw ex (after_text A S o keep la) in
    let dy : drop start y ≡ drop start o = ap (drop start) fy ∙ over_back (A ++ S) o start (omega arith) in
    ez ∙ rw (dy, fy) (after_text (A ++ S) (take path (drop start o)) o (keep + slash) ls) ∙ ap (λ (l : Text). over l o) (append_assoc A S (take path (drop start o)))

-- How long an IRI is before its dot segments go, and where its plan cuts.
pub record Facts (base ref : Text) (p : Plan) : Type 0 where
  pub kept : p.keep ≤ length base
  pub one : p.slash ≤ 1
  pub inside : p.path ≤ length ref
  pub start : p.from ≤ p.keep + p.slash + p.path
  pub sum : length (resolve_with_dots base ref) ≡ p.keep + p.slash + length ref
  pub width : length (take p.keep base ++ (replicate p.slash 47 ++ take p.path ref)) ≡ p.keep + p.slash + p.path

module _ (base ref : Text) (colon : before (stop Colon) base < length base) (p : Plan) (ep : p ≡ plan_of base ref) where
  plan_is : Planned base ref p
  plan_is = subst (Planned base ref) (sym ep) (planned base ref colon)

  pub plan_facts : Facts base ref p
  plan_facts =
      let pl = plan_is in
      let fr : Text = take p.keep base in
      let sl : Text = replicate p.slash 47 in
      let pa : Text = take p.path ref in
      let wide : length (fr ++ (sl ++ pa)) ≡ p.keep + p.slash + p.path =
      omega (arith, length-append fr (sl ++ pa), length-append sl pa, length-take-le p.keep base pl.kept, length-replicate {A = ℕ} p.slash 47, length-take-le p.path ref pl.inside) in
      let made : length (pl.front ++ pl.path) ≡ p.keep + p.slash + p.path = ap length pl.made ∙ wide in
      let all : length (resolve_with_dots base ref) ≡ length (pl.front ++ pl.path) + length pl.rest =
      ap length (pl.dotted ∙ sym (append_assoc pl.front pl.path pl.rest)) ∙ length-append (pl.front ++ pl.path) pl.rest in
      record {
        kept = pl.kept;
        one = pl.one;
        inside = pl.inside;
        start = omega (arith, pl.start, length-append pl.front pl.path);
        sum = omega (arith, ap length pl.rest_is, length-drop p.path ref, pl.inside);
        width = wide;
      }

drop_more : (a b : Text) (n m : ℕ) → n ≤ m → drop n a ≡ drop n b → drop m a ≡ drop m b
drop_more a b n m h e =
    let k : m ≡ n + (m - n) = omega arith in
    rw k (sym (drop-drop (m - n) n a) ∙ ap (drop (m - n)) e ∙ drop-drop (m - n) n b)

take_part : (x y : Text) (from m : ℕ) → length (take from x) ≡ from → take (from + m) (take from x ++ y) ≡ take from x ++ take m y
take_part x y from m fl = subst (λ (n : ℕ). take (n + m) (take from x ++ y) ≡ take from x ++ take m y) fl (take-append-add (take from x) y m)

drop_part : (x y : Text) (from e : ℕ) → length (take from x) ≡ from → from ≤ e → drop (e - from) y ≡ drop (e - from) (drop from x) → drop e (take from x ++ y) ≡ drop e x
drop_part x y from e fl h d =
    let k : from + (e - from) ≡ e = omega arith in
    subst (λ (n : ℕ). drop n (take from x ++ y) ≡ drop n x) k
    (subst (λ (n : ℕ). drop (n + (e - from)) (take from x ++ y) ≡ drop (e - from) y) fl (drop-append-add (take from x) y (e - from)) ∙ d ∙ drop-drop (e - from) from x)

-- The path at the end of what was written loses its dot segments.
pub record Shortened (x z front path : Text) (from e m : ℕ) : Type 0 where
  pub text : take (from + m) z ≡ front ++ remove_dot_segments path
  pub size : length z ≡ length x
  pub back : drop e z ≡ drop e x
  pub short : m ≤ e - from

pub dots_put : (x y z front path : Text) (from e m k : ℕ) → take e x ≡ front ++ path → length front ≡ from → from ≤ e → e ≤ length x
    → k ≡ length x - from → Removed (take k (drop from x)) y (e - from) m → z ≡ take from x ++ (y ++ drop k (drop from x)) → Shortened x z front path from e m
dots_put x y z front path from e m k both ef hf he ek d ez =
    let whole : take k (drop from x) ≡ drop from x = take_all k (drop from x) (omega (arith, length-drop from x)) in
    let gone : drop k (drop from x) ≡ [] = drop_of_length-le (drop from x) {i = k} (omega (arith, length-drop from x)) in
    let dz : z ≡ take from x ++ y = ez ∙ rw (gone, append-nil) in
    let fl : length (take from x) ≡ from = length-take-le from x (omega arith) in
    let xs : take from x ≡ front = sym (take-take from e x hf) ∙ ap (take from) both ∙ take_at front path from ef in
    let xp : take (e - from) (drop from x) ≡ path = sym (window_as x from e) ∙ ap (drop from) both ∙ drop_at front path from ef in
    let dy : Removed (drop from x) y (e - from) m = subst (λ (l : Text). Removed l y (e - from) m) whole d in
    let sy : length y ≡ length x - from = dy.size ∙ length-drop from x in
    record {
      text = ap (take (from + m)) dz ∙ take_part x y from m fl ∙ ap (λ (l : Text). l ++ take m y) xs ∙ ap (λ (l : Text). front ++ l) (dy.front ∙ ap remove_dot_segments xp);
      size = ap length dz ∙ (length-append (take from x) y ∙ omega arith);
      back = ap (drop e) dz ∙ drop_part x y from e fl hf dy.back;
      short = dy.short;
    }

-- The whole IRI: what stands at each stage in the buffer.
module _ (base o : Text) (start : ℕ) (colon : before (stop Colon) base < length base) (fits : start ≤ length o) (p : Plan) (ep : p ≡ plan_of base (drop start o)) (room : p.keep + p.slash ≤ start) where
  abbrev ref : Text
  ref = drop start o

  abbrev end : ℕ
  end = p.keep + p.slash + p.path

  facts : Facts base ref p
  facts = plan_facts base ref colon p ep

  -- The front is written.
  module _ (x : Text) (ex : x ≡ over (take p.keep base ++ (replicate p.slash 47 ++ take p.path ref)) o) where
    pub front_size : length x ≡ length o
    front_size = ap length ex ∙ over_length _ o

    pub end_fits : end ≤ length x
    end_fits = omega (arith, front_size, facts.inside, length-drop start o)

    front_text : take end x ≡ (plan_is base ref colon p ep).front ++ (plan_is base ref colon p ep).path
    front_text =
        let F : Text = take p.keep base ++ (replicate p.slash 47 ++ take p.path ref) in
        let l : length F ≡ end = facts.width in
        ap (take end) ex ∙ (subst (λ (n : ℕ). take n (over F o) ≡ F) l (over_front F o (omega (arith, end_fits, front_size))) ∙ sym (plan_is base ref colon p ep).made)

    front_back : (n : ℕ) → end ≤ n → drop n x ≡ drop n o
    front_back n h = ap (drop n) ex ∙ over_back _ o n (omega (arith, facts.width))

    -- Its path has lost its dot segments.
    module _ (y z : Text) (m k : ℕ) (ek : k ≡ length x - p.from) (d : Removed (take k (drop p.from x)) y (end - p.from) m) (ez : z ≡ take p.from x ++ (y ++ drop k (drop p.from x))) where
      shortened : Shortened x z (plan_is base ref colon p ep).front (plan_is base ref colon p ep).path p.from end m
      shortened = dots_put x y z _ _ p.from end m k front_text (plan_is base ref colon p ep).start facts.start end_fits ek d ez

      pub path_size : length z ≡ length o
      path_size = shortened.size ∙ front_size

      pub path_short : p.from + m ≤ end
      path_short = omega (arith, shortened.short, facts.start)

      rest_back : drop (start + p.path) z ≡ drop p.path ref
      rest_back =
          drop_more z x end (start + p.path) (omega arith) shortened.back
          ∙ (front_back (start + p.path) (omega arith) ∙ sym (drop-drop p.path start o))

      -- The rest has moved behind it.
      pub whole_put : (w : Text) (n r : ℕ) → n ≡ length z - start - p.path → r ≡ p.from + m + n → w ≡ over_at (p.from + m) (take n (drop (start + p.path) z)) z → Holds base ref o w r
      whole_put w n r en er ew =
          let pl = plan_is base ref colon p ep in
          let rest : Text = drop p.path ref in
          let lr : length rest ≡ n = length-drop p.path ref ∙ omega (arith, length-drop start o, path_size) in
          let all : take n (drop (start + p.path) z) ≡ rest = ap (take n) rest_back ∙ take_all n rest (omega arith) in
          let fw : w ≡ over_at (p.from + m) rest z = ew ∙ rw all in
          let front : take r w ≡ resolve base ref =
          rw (er, fw, ← lr) (over_at_front (p.from + m) rest z (omega (arith, path_short, path_size, end_fits, front_size, length-drop start o, facts.inside)))
          ∙ ap (λ (l : Text). l ++ rest) shortened.text
          ∙ append_assoc pl.front (remove_dot_segments pl.path) rest
          ∙ rw (← pl.rest_is) (sym pl.plain) in
          let size : length w ≡ length o = ap length fw ∙ over_at_length (p.from + m) rest z ∙ path_size in
          record {
            long = sym (length-take-le r w (omega (arith, path_short, path_size, end_fits, front_size, length-drop start o, facts.inside))) ∙ ap length front;
            size = size;
            front = front;
          }

pub part_length : (x : Text) (from k : ℕ) → k ≡ length x - from → length (take k (drop from x)) ≡ length x - from
part_length x from k e = length-take-le k (drop from x) (omega (arith, length-drop from x)) ∙ e

-- The answers of resolving at a place.
module _ (base x : Text) (start : ℕ) (colon : before (stop Colon) base < length base) (fits : start ≤ length x) (p : Plan) (ep : p ≡ plan_of base (drop start x)) where
  sum_is : length (resolve_with_dots base (drop start x)) ≡ p.keep + p.slash + (length x - start)
  sum_is = (plan_facts base (drop start x) colon p ep).sum ∙ ap (λ (n : ℕ). p.keep + p.slash + n) (length-drop start x)

  pub long_at : start < p.keep + p.slash → ResolvedAt base x x start (Err Long)
  unfolding relative_answer
  long_at h = record {
    is = rw (lt-ltb (length x) (length (resolve_with_dots base (drop start x))) (omega (arith, sum_is)));
    size = refl;
    front = λ k e. absurd (let z : ◌≡◌ {A = ℕ} 0 1 = cc in omega arith);
  }

  pub written_at : (y : Text) (r : ℕ) → p.keep + p.slash ≤ start → Holds base (drop start x) x y r → ResolvedAt base x y start (Ok r)
  unfolding relative_answer
  written_at y r h d = record {
    is = rw (le-ltb (length x) (length (resolve_with_dots base (drop start x))) (omega (arith, sum_is)), d.long);
    size = d.size;
    front = λ k e. let q : r ≡ k = cc in subst (λ (n : ℕ). take n y ≡ resolve base (drop start x)) q d.front;
  }

pub tail_all : (s : Text) (n : ℕ) → take (length s - n) (drop n s) ≡ drop n s
tail_all s n = take_all (length s - n) (drop n s) (omega (arith, length-drop n s))

-- The plan was made of the end of the buffer.
pub plan_of_tail : (base x : Text) (start : ℕ) (p : Plan) → p ≡ plan_of base (take (length x - start) (drop start x)) → p ≡ plan_of base (drop start x)
plan_of_tail base x start p e = e ∙ rw (tail_all x start)

-- The answers of resolving the end of a buffer.
module _ (base x : Text) (n : ℕ) where
  pub too_long : length x < n → Resolved base x x n (Err Long)
  too_long h = record { is = rw (lt-ltb (length x) n h); size = refl; front = λ k e. absurd (let z : ◌≡◌ {A = ℕ} 0 1 = cc in omega arith) }

  module _ (fits : n ≤ length x) where
    pub as_written : has_scheme (drop (length x - n) x) ≡ true → (y : Text) → y ≡ over_at 0 (take n (drop (length x - n) x)) x → Resolved base x y n (Ok n)
    unfolding answer reference resolved
    as_written h y e =
        let ref : Text = drop (length x - n) x in
        let lr : length ref ≡ n = length-drop (length x - n) x ∙ omega arith in
        let all : take n ref ≡ ref = take_all n ref (omega arith) in
        let fy : y ≡ over_at 0 ref x = e ∙ rw all in
        let zero_plus : 0 + length ref ≡ n = omega arith in
        let front : take n y ≡ ref = ap (take n) fy ∙ subst (λ (m : ℕ). take m (over_at 0 ref x) ≡ ref) zero_plus (over_at_front 0 ref x (omega arith)) in
        record {
          is = rw (le-ltb (length x) n fits, h, lr);
          size = ap length fy ∙ over_at_length 0 ref x;
          front = λ k q. let m : n ≡ k = cc in rw h (subst (λ (i : ℕ). take i y ≡ ref) m front);
        }

    module _ (rel : has_scheme (drop (length x - n) x) ≡ false) where
      pub against_base : has_scheme base ≡ true → (y : Text) (a : Result ℕ ResolveError) → ResolvedAt base x y (length x - n) a → Resolved base x y n a
      unfolding answer reference resolved
      against_base h y a d = record { is = d.is ∙ rw (le-ltb (length x) n fits, rel, h); size = d.size; front = λ k e. rw rel (d.front k e) }

      pub no_base : has_scheme base ≡ false → Resolved base x x n (Err NoBase)
      unfolding answer reference
      no_base h = record { is = rw (le-ltb (length x) n fits, rel, h); size = refl; front = λ k e. absurd (let z : ◌≡◌ {A = ℕ} 0 1 = cc in omega arith) }

pub scheme_of_tail : (x : Text) (start : ℕ) (r : Bool) → r ≡ has_scheme (take (length x - start) (drop start x)) → r ≡ has_scheme (drop start x)
scheme_of_tail x start r e = e ∙ rw (tail_all x start)

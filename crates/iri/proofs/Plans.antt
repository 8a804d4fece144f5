-- An IRI before its dot segments go is a front of the base, at most a slash, and the reference.
use Prim.Native.Nat.{ℕ, zero, suc, ◌+◌, ◌-◌, ◌≤◌, ◌<◌}
use mathlib.Core.Path.{◌≡◌, refl, ap, sym, ◌∙◌}
use mathlib.Core.List.{[], ◌∷◌, ◌++◌, append_assoc}
use mathlib.Core.Bool.{Bool, true, false, ◌&&◌}
use native.Mathlib.Omega.{arith}
use lib.ListN.{length, get_or, take, drop, replicate, length-take, length-drop, length-append, take-append-drop}
use lib.Seq.{drop-drop, take-add, take-take, length-take-le}
use lib.Dec.{eqb, ltb}
use borrow.Author.Tests.{eq-eqb, ne_eqb, eqb-true, eqb-false, ltb-true, ltb-false}
use Rattle.text.specs.Text.{Text, ascii, cond, empty, begins}
use Rattle.text.proofs.Compare.{by, contrary, and_false}
use Rattle.iri.specs.Iri.{scheme}
use Rattle.iri.specs.Dots.{remove_dot_segments, turns}
use Rattle.iri.specs.Resolve.{Parts, defined, up_to_last_slash, merge, transform, recompose, resolve_by, resolve, resolve_with_dots}
use Rattle.iri.specs.Code.{before, stop, slash_end, scheme_end, authority_length, path_end, query_end, ends_of, plan_by, plan_of, Planned}
use Rattle.iri.specs.declared.Part.TheVariants.{Colon}
use Rattle.iri.specs.declared.Ends.{Ends}
use Rattle.iri.specs.declared.Plan.{Plan}
use Rattle.iri.proofs.Places.{slash_end_most, up_to_last_is}
use Rattle.iri.proofs.Schemes.{scheme_fits, scheme_front, scheme_rest}
use Rattle.iri.proofs.Turns.{eqb_sym, and_true}
use Rattle.iri.proofs.Parts.{split, parts_split, authority_most, path_most, path_least, query_most, query_least}

-- The parts of a text, put together again
pub to_path : (s : Text) → (split s).authority ++ (split s).path ≡ take (path_end s) s
unfolding split
to_path s =
    let k : authority_length s + (path_end s - authority_length s) ≡ path_end s = omega (arith, path_least s) in
    sym (take-add (authority_length s) (path_end s - authority_length s) s) ∙ ap (λ (n : ℕ). take n s) k

pub to_query : (s : Text) → take (path_end s) s ++ (split s).query ≡ take (query_end s) s
unfolding split
to_query s =
    let k : path_end s + (query_end s - path_end s) ≡ query_end s = omega (arith, query_least s) in
    sym (take-add (path_end s) (query_end s - path_end s) s) ∙ ap (λ (n : ℕ). take n s) k

pub from_path : (s : Text) → (split s).query ++ (split s).fragment ≡ drop (path_end s) s
unfolding split
from_path s =
    let k : path_end s + (query_end s - path_end s) ≡ query_end s = omega (arith, query_least s) in
    let e : drop (query_end s) s ≡ drop (query_end s - path_end s) (drop (path_end s) s) = sym (drop-drop (query_end s - path_end s) (path_end s) s ∙ ap (λ (n : ℕ). drop n s) k) in
    rw e (take-append-drop (query_end s - path_end s) (drop (path_end s) s))

-- A part is there when its end is past its start
empty_take : (n : ℕ) (s : Text) → n ≤ length s → empty (take n s) ≡ eqb n 0
empty_take zero s h = refl
empty_take (suc n) [] h = absurd (omega arith)
empty_take (suc n) (b ∷ s) h = sym (ne_eqb (suc n) 0 (λ e. omega arith))

empty_authority : (s : Text) → empty (split s).authority ≡ eqb (authority_length s) 0
unfolding split
empty_authority s = empty_take (authority_length s) s (authority_most s)

empty_path : (s : Text) → empty (split s).path ≡ eqb (path_end s - authority_length s) 0
unfolding split
empty_path s = empty_take (path_end s - authority_length s) (drop (authority_length s) s) (omega (arith, path_most s, length-drop (authority_length s) s))

empty_query : (s : Text) → empty (split s).query ≡ eqb (query_end s - path_end s) 0
unfolding split
empty_query s = empty_take (query_end s - path_end s) (drop (path_end s) s) (omega (arith, query_most s, length-drop (path_end s) s))

empty_nil : (s : Text) → empty s ≡ true → s ≡ []
empty_nil [] e = refl
empty_nil (b ∷ s) e = contrary (sym e)

regroup : (a b c d e f : Text) → a ++ b ++ c ++ d ++ e ++ f ≡ a ++ (b ++ (c ++ (d ++ (e ++ f))))
regroup a b c d e f = simp append_assoc

dots_empty : remove_dot_segments [] ≡ []
unfolding remove_dot_segments turns
dots_empty = refl

module _ (base ref : Text) (colon : before (stop Colon) base < length base) where
  abbrev front_scheme : Text
  front_scheme = take (scheme_end base) base

  abbrev B : Parts
  B = split (drop (scheme_end base) base)

  abbrev R : Parts
  R = split ref

  -- The recomposed parts, behind the front of the base that is its scheme
  abbrev joined : Parts → Text
  joined t = front_scheme ++ (t.authority ++ (t.path ++ (t.query ++ t.fragment)))

  resolve_split : (f : Text → Text) → resolve_by f base ref ≡ joined (transform f B R)
  unfolding resolve_by recompose
  resolve_split f =
      let t : Parts = transform f B R in
      rw (scheme_rest base colon, parts_split (drop (scheme_end base) base), parts_split ref)
      (regroup (scheme base) (ascii ":") t.authority t.path t.query t.fragment ∙ scheme_front base colon (t.authority ++ (t.path ++ (t.query ++ t.fragment))))

  -- The three shapes of 5.2.2
  with_authority : (f : Text → Text) → empty R.authority ≡ false → resolve_by f base ref ≡ (front_scheme ++ R.authority) ++ (f R.path ++ drop (path_end ref) ref)
  unfolding transform
  with_authority f e = resolve_split f ∙ rw (e, from_path ref) (sym (append_assoc front_scheme R.authority _))

  no_path : (f : Text → Text) → empty R.authority ≡ true → empty R.path ≡ true
      → resolve_by f base ref ≡ front_scheme ++ (B.authority ++ (B.path ++ (cond (defined R.query) R.query B.query ++ R.fragment)))
  unfolding transform
  no_path f e g = resolve_split f ∙ rw (e, g)

  with_path : (f : Text → Text) → empty R.authority ≡ true → empty R.path ≡ false
      → resolve_by f base ref ≡ (front_scheme ++ B.authority) ++ (f (cond (begins (ascii "/") R.path) R.path (merge B R.path)) ++ drop (path_end ref) ref)
  unfolding transform
  with_path f e g =
      resolve_split f
      ∙ rw (e, g, ← from_path ref)
      (by (begins (ascii "/") R.path) (λ h. rw h (sym (append_assoc front_scheme B.authority _))) (λ h. rw h (sym (append_assoc front_scheme B.authority _))))

pub slash_fits : (base : Text) (a p m : ℕ) → m ≡ slash_end (take (p - a) (drop a base)) (length (take (p - a) (drop a base))) → m ≤ p - a
slash_fits base a p m e = omega (arith, slash_end_most (take (p - a) (drop a base)) (length (take (p - a) (drop a base))), length-take (p - a) (drop a base))

pub ends_fit : (s : Text) (from : ℕ) (e : Ends) → from ≤ length s → e ≡ ends_of s from → (e.authority ≤ length s) × (e.path ≤ length s)
unfolding ends_of
ends_fit s from e h q =
    let l : length (drop from s) ≡ length s - from = length-drop from s in
    let a : e.authority ≡ from + authority_length (drop from s) = ap (λ (x : Ends). x.authority) q in
    let p : e.path ≡ from + path_end (drop from s) = ap (λ (x : Ends). x.path) q in
    (omega (arith, authority_most (drop from s)), omega (arith, path_most (drop from s)))

pub plan_as : (base ref : Text) (n : ℕ) (b r : Ends) (p : Plan) → n ≡ 0 + before (stop Colon) (drop 0 base) → b ≡ ends_of base (n + 1) → r ≡ ends_of ref 0 → p ≡ plan_by base ref (n + 1) b r → p ≡ plan_of base ref
unfolding plan_of scheme_end
plan_as base ref n b r p en eb er ep = let k : n ≡ before (stop Colon) base = omega arith in ep ∙ rw (eb, er, k)

-- The base's front: its scheme, and a front of what follows
module _ (base : Text) where
  abbrev after : Text
  after = drop (scheme_end base) base

  to_authority : take (scheme_end base) base ++ (split (drop (scheme_end base) base)).authority ≡ take (scheme_end base + authority_length after) base
  unfolding split
  to_authority = sym (take-add (scheme_end base) (authority_length after) base)

  to_base_path : take (scheme_end base) base ++ ((split (drop (scheme_end base) base)).authority ++ (split (drop (scheme_end base) base)).path) ≡ take (scheme_end base + path_end after) base
  to_base_path = ap (λ (l : Text). take (scheme_end base) base ++ l) (to_path after) ∙ sym (take-add (scheme_end base) (path_end after) base)

  to_base_query : take (scheme_end base) base ++ ((split (drop (scheme_end base) base)).authority ++ ((split (drop (scheme_end base) base)).path ++ (split (drop (scheme_end base) base)).query)) ≡ take (scheme_end base + query_end after) base
  to_base_query = ap (λ (l : Text). take (scheme_end base) base ++ l) (sym (append_assoc (split after).authority (split after).path (split after).query) ∙ ap (λ (l : Text). l ++ (split after).query) (to_path after) ∙ to_query after) ∙ sym (take-add (scheme_end base) (query_end after) base)

length_authority : (s : Text) → length (split s).authority ≡ authority_length s
unfolding split
length_authority s = length-take-le (authority_length s) s (authority_most s)

fragment_whole : (s : Text) → query_end s ≡ 0 → (split s).fragment ≡ s
unfolding split
fragment_whole s q = ap (λ (i : ℕ). drop i s) q

one_by : (n : ℕ) (s : Text) → 0 < n → n ≤ length s → begins (ascii "/") (take n s) ≡ (eqb 47 (get_or s 0 0) && true)
unfolding begins
one_by zero s h g = absurd (omega arith)
one_by (suc n) [] h g = absurd (omega arith)
one_by (suc n) (b ∷ s) h g = refl

-- Each way to put the parts together
module _ (base ref : Text) (colon : before (stop Colon) base < length base) where
  abbrev K : ℕ
  K = scheme_end base

  abbrev S : Text
  S = drop K base

  K_fits : K ≤ length base
  K_fits = scheme_fits base colon

  S_length : length S ≡ length base - K
  S_length = length-drop K base

  -- The reference's path, where there is no authority
  path_alone : authority_length ref ≡ 0 → (split ref).path ≡ take (path_end ref) ref
  path_alone a = ap (λ (l : Text). l ++ (split ref).path) (sym (empty_nil (split ref).authority (empty_authority ref ∙ eq-eqb _ 0 a))) ∙ to_path ref

  plan_authority : (fr pa : ℕ) → 0 < authority_length ref → fr ≡ K + authority_length ref → pa ≡ path_end ref → Planned base ref (record { keep = K; slash = 0; from = fr; path = pa })
  unfolding resolve_with_dots resolve
  plan_authority fr pa h e f =
      let n : empty (split ref).authority ≡ false = empty_authority ref ∙ ne_eqb (authority_length ref) 0 (λ z. omega arith) in
      record {
        front = take K base ++ (split ref).authority;
        path = (split ref).path;
        rest = drop (path_end ref) ref;
        dotted = with_authority base ref colon (λ p. p) n;
        plain = with_authority base ref colon remove_dot_segments n;
        made = append_assoc (take K base) (split ref).authority (split ref).path ∙ ap (λ (l : Text). take K base ++ l) (to_path ref ∙ rw f);
        rest_is = rw f;
        start = length-append (take K base) (split ref).authority ∙ omega (arith, length-take-le K base K_fits, length_authority ref);
        kept = K_fits;
        one = omega arith;
        inside = omega (arith, path_most ref);
      }

  -- No path: the base's, with no change
  plan_same : (ke : ℕ) (q : Text) → authority_length ref ≡ 0 → path_end ref ≡ 0 → ke ≤ length base
      → take K base ++ ((split S).authority ++ ((split S).path ++ (cond (defined (split ref).query) (split ref).query (split S).query ++ (split ref).fragment))) ≡ take ke base ++ ref
      → Planned base ref (record { keep = ke; slash = 0; from = ke; path = 0 })
  unfolding resolve_with_dots resolve
  plan_same ke q a p h e =
      let n : empty (split ref).authority ≡ true = empty_authority ref ∙ eq-eqb (authority_length ref) 0 a in
      let m : empty (split ref).path ≡ true = empty_path ref ∙ eq-eqb (path_end ref - authority_length ref) 0 (omega arith) in
      record {
        front = take ke base;
        path = [];
        rest = ref;
        dotted = no_path base ref colon (λ p. p) n m ∙ e;
        plain = no_path base ref colon remove_dot_segments n m ∙ e ∙ rw dots_empty;
        made = refl;
        rest_is = refl;
        start = length-take-le ke base h;
        kept = h;
        one = omega arith;
        inside = omega arith;
      }

  plan_same_query : (ke : ℕ) → authority_length ref ≡ 0 → path_end ref ≡ 0 → query_end ref ≡ 0 → ke ≡ K + query_end S → Planned base ref (record { keep = ke; slash = 0; from = ke; path = 0 })
  plan_same_query ke a p q e = plan_same ke [] a p (omega (arith, query_most S, S_length, K_fits)) (
      let n : empty (split ref).query ≡ true = empty_query ref ∙ eq-eqb (query_end ref - path_end ref) 0 (omega arith) in
      let f : (split ref).fragment ≡ ref = fragment_whole ref q in
      rw (n, f, e, ← to_base_query base) (simp append_assoc))

  plan_new_query : (ke : ℕ) → authority_length ref ≡ 0 → path_end ref ≡ 0 → (query_end ref ≡ 0 → ⊥) → ke ≡ K + path_end S → Planned base ref (record { keep = ke; slash = 0; from = ke; path = 0 })
  plan_new_query ke a p q e = plan_same ke [] a p (omega (arith, path_most S, S_length, K_fits)) (
      let n : empty (split ref).query ≡ false = empty_query ref ∙ ne_eqb (query_end ref - path_end ref) 0 (λ z. q (omega arith)) in
      let f : (split ref).query ++ (split ref).fragment ≡ ref = from_path ref ∙ ap (λ (i : ℕ). drop i ref) p in
      rw (n, f, e, ← to_base_path base) (simp append_assoc))

  -- A path, with or without the base's
  module _ (a : authority_length ref ≡ 0) (p : 0 < path_end ref) where
    no_authority : empty (split ref).authority ≡ true
    no_authority = empty_authority ref ∙ eq-eqb (authority_length ref) 0 a

    some_path : empty (split ref).path ≡ false
    some_path = empty_path ref ∙ ne_eqb (path_end ref - authority_length ref) 0 (λ z. omega arith)

    slash_first : begins (ascii "/") (split ref).path ≡ eqb (get_or ref 0 0) 47
    slash_first = ap (begins (ascii "/")) (path_alone a) ∙ one_by (path_end ref) ref p (path_most ref) ∙ (and_true (eqb 47 (get_or ref 0 0)) ∙ eqb_sym 47 (get_or ref 0 0))

    plan_path : (ke sl fr pa : ℕ) → fr ≡ K + authority_length S → pa ≡ path_end ref → ke ≤ length base → sl ≤ 1 → (path : Text)
        → cond (begins (ascii "/") (split ref).path) (split ref).path (merge (split S) (split ref).path) ≡ path
        → take fr base ++ path ≡ take ke base ++ (replicate sl 47 ++ take (path_end ref) ref)
        → Planned base ref (record { keep = ke; slash = sl; from = fr; path = pa })
    unfolding resolve_with_dots resolve
    plan_path ke sl fr pa ef ep hk hs path is made =
        let fit : fr ≤ length base = omega (arith, authority_most S, S_length, K_fits) in
        let f : take K base ++ (split S).authority ≡ take fr base = to_authority base ∙ ap (λ (i : ℕ). take i base) (sym ef) in
        record {
          front = take fr base;
          path = path;
          rest = drop (path_end ref) ref;
          dotted = with_path base ref colon (λ p. p) no_authority some_path ∙ rw (f, is);
          plain = with_path base ref colon remove_dot_segments no_authority some_path ∙ rw (f, is);
          made = made ∙ rw ep;
          rest_is = rw ep;
          start = length-take-le fr base fit;
          kept = hk;
          one = hs;
          inside = omega (arith, path_most ref);
        }

    plan_slash : (ke fr pa : ℕ) → fr ≡ K + authority_length S → ke ≡ fr → pa ≡ path_end ref → get_or ref 0 0 ≡ 47 → Planned base ref (record { keep = ke; slash = 0; from = fr; path = pa })
    plan_slash ke fr pa ef ek ep g =
        plan_path ke 0 fr pa ef ep (omega (arith, authority_most S, S_length, K_fits)) (omega arith) (split ref).path
        (rw (slash_first, eq-eqb (get_or ref 0 0) 47 g)) (rw (ek, path_alone a))

    base_path_none : empty (split S).path ≡ eqb (path_end S - authority_length S) 0
    base_path_none = empty_path S

    base_authority_none : empty (split S).authority ≡ eqb (authority_length S) 0
    base_authority_none = empty_authority S

    -- The base's path, as the code cuts it
    base_path : (ba bp : ℕ) → ba ≡ K + authority_length S → bp ≡ K + path_end S → take (bp - ba) (drop ba base) ≡ (split S).path
    unfolding split
    base_path ba bp ea eb =
        let d : bp - ba ≡ path_end S - authority_length S = omega (arith, path_least S) in
        rw (d, ea) (ap (take (path_end S - authority_length S)) (sym (drop-drop (authority_length S) K base)))

    plan_merge : (ke fr bp pa : ℕ) → (get_or ref 0 0 ≡ 47 → ⊥) → fr ≡ K + authority_length S → bp ≡ K + path_end S → pa ≡ path_end ref → fr < bp
        → ke ≡ fr + slash_end (take (bp - fr) (drop fr base)) (length (take (bp - fr) (drop fr base)))
        → Planned base ref (record { keep = ke; slash = 0; from = fr; path = pa })
    unfolding merge
    plan_merge ke fr bp pa g ef eb ep h ek =
        let l : Text = take (bp - fr) (drop fr base) in
        let m : ℕ = slash_end l (length l) in
        let cut : l ≡ (split S).path = base_path fr bp ef eb in
        let most : m ≤ bp - fr = slash_fits base fr bp m refl in
        let full : empty (split S).path ≡ false = base_path_none ∙ ne_eqb (path_end S - authority_length S) 0 (λ z. omega arith) in
        let fit : bp ≤ length base = omega (arith, path_most S, S_length, K_fits) in
        plan_path ke 0 fr pa ef ep (omega arith) (omega arith) (take m l ++ (split ref).path)
        (rw (slash_first, ne_eqb (get_or ref 0 0) 47 g, full, and_false, up_to_last_is, ← cut))
        (rw (ek, take-add fr m base, path_alone a, take-take m (bp - fr) (drop fr base) most) (sym (append_assoc (take fr base) (take m (drop fr base)) (take (path_end ref) ref))))

    plan_merge_slash : (ke fr bp pa : ℕ) → (get_or ref 0 0 ≡ 47 → ⊥) → fr ≡ K + authority_length S → bp ≡ K + path_end S → pa ≡ path_end ref → bp ≤ fr → K < fr → ke ≡ fr
        → Planned base ref (record { keep = ke; slash = 1; from = fr; path = pa })
    unfolding merge
    plan_merge_slash ke fr bp pa g ef eb ep h k ek =
        let bare : empty (split S).path ≡ true = base_path_none ∙ eq-eqb (path_end S - authority_length S) 0 (omega arith) in
        let there : empty (split S).authority ≡ false = base_authority_none ∙ ne_eqb (authority_length S) 0 (λ z. omega arith) in
        plan_path ke 1 fr pa ef ep (omega (arith, authority_most S, S_length, K_fits)) (omega arith) (47 ∷ (split ref).path)
        (rw (slash_first, ne_eqb (get_or ref 0 0) 47 g, bare, there)) (rw (ek, path_alone a))

    plan_merge_none : (ke fr bp pa : ℕ) → (get_or ref 0 0 ≡ 47 → ⊥) → fr ≡ K + authority_length S → bp ≡ K + path_end S → pa ≡ path_end ref → bp ≤ fr → fr ≤ K → ke ≡ fr
        → Planned base ref (record { keep = ke; slash = 0; from = fr; path = pa })
    unfolding merge up_to_last_slash
    plan_merge_none ke fr bp pa g ef eb ep h k ek =
        let bare : empty (split S).path ≡ true = base_path_none ∙ eq-eqb (path_end S - authority_length S) 0 (omega arith) in
        let nil : (split S).path ≡ [] = empty_nil (split S).path bare in
        let gone : empty (split S).authority ≡ true = base_authority_none ∙ eq-eqb (authority_length S) 0 (omega (arith, path_least S)) in
        plan_path ke 0 fr pa ef ep (omega (arith, authority_most S, S_length, K_fits)) (omega arith) (split ref).path
        (rw (slash_first, ne_eqb (get_or ref 0 0) 47 g, gone, nil)) (rw (ek, path_alone a))

positive : (s : Text) → (path_end s ≡ 0 → ⊥) → 0 < path_end s
positive s h = by (ltb 0 (path_end s)) (ltb-true 0 (path_end s)) (λ e. absurd (h (omega (arith, ltb-false 0 (path_end s) e))))

cond_both : {A : Type 0} (Q : A → Type 0) (t : Bool) (a b : A) → (t ≡ true → Q a) → (t ≡ false → Q b) → Q (cond t a b)
cond_both Q true a b f g = f refl
cond_both Q false a b f g = g refl

pub planned : (base ref : Text) → before (stop Colon) base < length base → Planned base ref (plan_of base ref)
unfolding plan_of plan_by ends_of
planned base ref colon =
    let k : ℕ = scheme_end base in
    let s : Text = drop k base in
    cond_both (Planned base ref) (ltb 0 (0 + authority_length ref)) _ _ (λ t. plan_authority base ref colon _ _ (omega (arith, ltb-true 0 (0 + authority_length ref) t)) (omega arith) (omega arith))
    (λ t. let a : authority_length ref ≡ 0 = omega (arith, ltb-false 0 (0 + authority_length ref) t) in
    cond_both (Planned base ref) (eqb (0 + path_end ref) 0) _ _
    (λ p. let p0 : path_end ref ≡ 0 = omega (arith, eqb-true (0 + path_end ref) 0 p) in
    cond_both (Planned base ref) (eqb (0 + query_end ref) 0) _ _
    (λ q. plan_same_query base ref colon _ a p0 (omega (arith, eqb-true (0 + query_end ref) 0 q)) refl)
    (λ q. plan_new_query base ref colon _ a p0 (λ z. eqb-false (0 + query_end ref) 0 q (omega arith)) refl))
    (λ p. let p0 : 0 < path_end ref = positive ref (λ z. eqb-false (0 + path_end ref) 0 p (omega arith)) in
    cond_both (Planned base ref) (eqb (get_or ref 0 0) 47) _ _
    (λ g. plan_slash base ref colon a p0 _ _ _ refl refl (omega arith) (eqb-true (get_or ref 0 0) 47 g))
    (λ g. cond_both (Planned base ref) (ltb (k + authority_length s) (k + path_end s)) _ _
    (λ m. plan_merge base ref colon a p0 _ _ (k + path_end s) _ (eqb-false (get_or ref 0 0) 47 g) refl refl (omega arith) (ltb-true (k + authority_length s) (k + path_end s) m) refl)
    (λ m. cond_both (Planned base ref) (ltb k (k + authority_length s)) _ _
    (λ n. plan_merge_slash base ref colon a p0 _ _ (k + path_end s) _ (eqb-false (get_or ref 0 0) 47 g) refl refl (omega arith) (ltb-false (k + authority_length s) (k + path_end s) m) (ltb-true k (k + authority_length s) n) refl)
    (λ n. plan_merge_none base ref colon a p0 _ _ (k + path_end s) _ (eqb-false (get_or ref 0 0) 47 g) refl refl (omega arith) (ltb-false (k + authority_length s) (k + path_end s) m) (ltb-false k (k + authority_length s) n) refl)))))

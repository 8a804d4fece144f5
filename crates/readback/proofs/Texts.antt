-- What keeps a text UTF-8: joining, cutting at ASCII bytes, undoing escapes, and resolving a reference, which cuts at ASCII bytes alone.
use mathlib.Core.Path.{◌≡◌, refl, sym, ap, ap₂, ◌∙◌}
use mathlib.Core.Logic.{◌⊎◌, inl, inr, ⊎_elim}
use mathlib.Core.Bool.{Bool, true, false, ◌&&◌, ◌||◌}
use mathlib.Core.List.{List, [], ◌∷◌, ◌++◌, append-nil}
use mathlib.Core.Option.{none}
use Prim.Native.Nat.{ℕ, zero, suc, ◌≤◌, ◌<◌}
use native.Mathlib.Omega.{arith}
use borrow.Author.Tests.{eqb-true}
use lib.Dec.{T, eqb, ltb, ltb→lt}
use lib.ListN.{length, drop}
use Rattle.text.specs.Text.{Text, ascii, cond, is, one_of, member, empty, begins, same_text, until, from, some_byte}
use Rattle.text.proofs.Compare.{and_left, and_right, contrary}
use Rattle.utf8.specs.Utf8.{encode, encodes, decode, first_bad}
use Rattle.utf8.specs.Scalar.{Scalar, Scalars, Highs}
use Rattle.utf8.proofs.Tests.{by, split, and_true, or_true, or_false}
use Rattle.utf8.proofs.Encoding.{highs_encode}
use Rattle.utf8.proofs.Decoding.{valid_encodes, valid_encoded, encodes_append}
use Rattle.escape.specs.Escape.{unreserve}
use Rattle.iri.specs.Iri.{scheme, after_scheme}
use Rattle.iri.specs.Dots.{Buffers, buffers, without_last_segment, first_segment, after_first_segment, turn, turns, remove_dot_segments}
use Rattle.iri.specs.Resolve.{Parts, authority_of, after_authority, parts, defined, up_to_last_slash, merge, transform, recompose, resolve_by, resolve}
use Rattle.readback.proofs.Undone.{lows, ascii_encode, scalars_append}

abbrev pub Utf8 : Text → Type 0
Utf8 s = first_bad s ≡ none

pub utf8_none : Utf8 []
unfolding encodes
utf8_none = valid_encodes [] tt

pub utf8_append : (s t : Text) → Utf8 s → Utf8 t → Utf8 (s ++ t)
utf8_append s t u v =
    let a = valid_encoded s u in
    let b = valid_encoded t v in
    ap first_bad (ap₂ (λ (x y : Text). x ++ y) a.bytes b.bytes ∙ sym (encodes_append (decode s) (decode t)))
    ∙ valid_encodes (decode s ++ decode t) (scalars_append (decode s) (decode t) a.scalars b.scalars)

pub utf8_encode : (c : ℕ) → Scalar c → Utf8 (encode c)
unfolding encodes
utf8_encode c h = ap first_bad (sym (append-nil (encode c))) ∙ valid_encodes (c ∷ []) (h, tt)

pub utf8_low : (c : ℕ) → c < 128 → Utf8 (c ∷ [])
utf8_low c h = ap first_bad (sym (ascii_encode c h)) ∙ utf8_encode c (omega arith, inl (omega arith))

pub utf8_cons : (c : ℕ) (s : Text) → c < 128 → Utf8 s → Utf8 (c ∷ s)
utf8_cons c s h u = utf8_append (c ∷ []) s (utf8_low c h) u

-- ---- Cutting at an ASCII byte

-- Bytes from 128 on do not hold it.
highs_front : (x : Text) → Highs x → (u s t : Text) (c : ℕ) → c < 128 → x ++ u ≡ s ++ c ∷ t → (v : Text) × (s ≡ x ++ v) × (u ≡ v ++ c ∷ t)
highs_front [] h u s t c l e = (s, refl, e)
highs_front (b ∷ x) h u [] t c l e = let q : b ≡ c = cc in let k = h.0 in absurd (omega arith)
highs_front (b ∷ x) h u (a ∷ s) t c l e =
    let p : a ≡ b = cc in
    let q : x ++ u ≡ s ++ c ∷ t = cc in
    let (v, i, j) = highs_front x h.1 u s t c l q in
    (v, ap₂ (λ (y : ℕ) (z : Text). y ∷ z) p i, j)

cut : (ds : List ℕ) → Scalars ds → (s t : Text) (c : ℕ) → c < 128 → encodes ds ≡ s ++ c ∷ t → Utf8 s × Utf8 t
unfolding encodes
cut [] h [] t c l e = let z : ◌≡◌ {A = ℕ} 0 1 = cc in absurd (omega arith)
cut [] h (a ∷ s) t c l e = let z : ◌≡◌ {A = ℕ} 0 1 = cc in absurd (omega arith)
cut (d ∷ ds) h s t c l e =
    ⊎_elim (λ k. low k s (ap (λ (x : Text). x ++ encodes ds) (sym (ascii_encode d k)) ∙ e) (λ v f. cut ds h.1 v t c l f))
    (λ k.
    let (v, i, j) = highs_front (encode d) (highs_encode d k) (encodes ds) s t c l e in
    let (u, w) = cut ds h.1 v t c l j in
    (ap first_bad i ∙ utf8_append (encode d) v (utf8_encode d h.0) u, w))
    (split d 128)
  where
    low : d < 128 → (s : Text) → d ∷ encodes ds ≡ s ++ c ∷ t → ((v : Text) → encodes ds ≡ v ++ c ∷ t → Utf8 v × Utf8 t) → Utf8 s × Utf8 t
    low k [] f ih = let q : t ≡ encodes ds = cc in (utf8_none, ap first_bad q ∙ valid_encodes ds h.1)
    low k (a ∷ s) f ih =
        let q : encodes ds ≡ s ++ c ∷ t = cc in
        let p : a ≡ d = cc in
        let (u, v) = ih s q in
        (utf8_cons a s (omega arith) u, v)

-- What stands before the byte, and behind it.
pub utf8_cut : (s t : Text) (c : ℕ) → c < 128 → Utf8 (s ++ c ∷ t) → Utf8 s × Utf8 t
utf8_cut s t c l u = let g = valid_encoded (s ++ c ∷ t) u in cut (decode (s ++ c ∷ t)) g.scalars s t c l (sym g.bytes)

pub utf8_tail : (c : ℕ) (t : Text) → c < 128 → Utf8 (c ∷ t) → Utf8 t
utf8_tail c t l u = (utf8_cut [] t c l u).1

-- Tests that ASCII alone passes.
abbrev pub Low : (ℕ → Bool) → Type 0
Low p = (c : ℕ) → p c ≡ true → c < 128

pub is_low : (k : ℕ) → k < 128 → Low (λ c. eqb c k)
is_low k l c e = let q = eqb-true c k e in omega arith

pub member_low : (cs : List ℕ) → T (lows cs) → Low (λ c. member c cs)
member_low [] t c e = contrary (sym e)
member_low (d ∷ cs) t c e =
    let v = and_true (ltb d 128) (lows cs) t in
    ⊎_elim (λ q. is_low d (ltb→lt d 128 v.0) c q) (λ q. member_low cs v.1 c q) (or_true (eqb c d) (member c cs) e)

-- Where the first byte that passes the test stands.
module _ (p : ℕ → Bool) (low : Low p) where
  parted : (s : Text) → ((from p s ≡ []) × (until p s ≡ s)) ⊎ ((c : ℕ) × (t : Text) × (c < 128) × (from p s ≡ c ∷ t) × (s ≡ until p s ++ c ∷ t))
  unfolding from until
  parted [] = inl (refl, refl)
  parted (c ∷ s) =
      by (p c) (λ e. inr (c, s, low c e, rw e, rw e))
      (λ e.
      ⊎_elim (λ (a, b). inl (rw e a, rw e (ap (λ (x : Text). c ∷ x) b)))
      (λ (d, t, l, a, b). inr (d, t, l, rw e a, rw e (ap (λ (x : Text). c ∷ x) b))) (parted s))

  module _ (s : Text) (u : Utf8 s) where
    pub utf8_until : Utf8 (until p s)
    utf8_until =
        ⊎_elim (λ (a, b). ap first_bad b ∙ u) (λ (c, t, l, a, b). (utf8_cut (until p s) t c l (ap first_bad (sym b) ∙ u)).0) (parted s)

    pub utf8_from : Utf8 (from p s)
    utf8_from =
        ⊎_elim (λ (a, b). ap first_bad a ∙ utf8_none)
        (λ (c, t, l, a, b). ap first_bad a ∙ utf8_cons c t l (utf8_cut (until p s) t c l (ap first_bad (sym b) ∙ u)).1) (parted s)

    -- Behind that byte.
    pub utf8_behind : Utf8 (drop 1 (from p s))
    utf8_behind =
        ⊎_elim (λ (a, b). ap (λ (x : Text). first_bad (drop 1 x)) a ∙ utf8_none)
        (λ (c, t, l, a, b). ap (λ (x : Text). first_bad (drop 1 x)) a ∙ (utf8_cut (until p s) t c l (ap first_bad (sym b) ∙ u)).1) (parted s)

  -- A byte and what stands before the next that passes the test.
  pub utf8_first : (c : ℕ) (s : Text) → Utf8 (c ∷ s) → Utf8 (c ∷ until p s) × Utf8 (from p s)
  utf8_first c s u =
      ⊎_elim (λ (a, b). (ap (λ (x : Text). first_bad (c ∷ x)) b ∙ u, ap first_bad a ∙ utf8_none))
      (λ (d, t, l, a, b).
      let v = utf8_cut (c ∷ until p s) t d l (ap (λ (x : Text). first_bad (c ∷ x)) (sym b) ∙ u) in
      (v.0, ap first_bad a ∙ utf8_cons d t l v.1)) (parted s)

-- A front of ASCII goes.
pub utf8_drop : (n : ℕ) (x i : Text) → n ≤ length x → T (lows x) → begins x i ≡ true → Utf8 i → Utf8 (drop n i)
unfolding begins
utf8_drop zero x i l t e u = u
utf8_drop (suc n) [] i l t e u = absurd (omega arith)
utf8_drop (suc n) (a ∷ x) [] l t e u = utf8_none
utf8_drop (suc n) (a ∷ x) (b ∷ i) l t e u =
    let v = and_true (ltb a 128) (lows x) t in
    let k = ltb→lt a 128 v.0 in
    let q = eqb-true a b (and_left (eqb a b) (begins x i) e) in
    utf8_drop n x i (omega arith) v.1 (and_right (eqb a b) (begins x i) e) (utf8_tail b i (omega arith) u)

-- ---- Reserved escapes: a backslash is ASCII

unreserve_highs : (x : Text) → Highs x → (t : Text) → unreserve (x ++ t) ≡ x ++ unreserve t
unfolding unreserve
unreserve_highs [] h t = refl
unreserve_highs (b ∷ x) h t =
    by (eqb b 92) (λ e. let q = eqb-true b 92 e in let k = h.0 in absurd (omega arith)) (λ e. rw e (ap (λ (s : Text). b ∷ s) (unreserve_highs x h.1 t)))

unreserve_points : (cs : List ℕ) → Scalars cs → Utf8 (unreserve (encodes cs))
unfolding encodes unreserve
unreserve_points [] h = utf8_none
unreserve_points (c ∷ cs) h =
    ⊎_elim
    (λ k.
    ap (λ (x : Text). first_bad (unreserve (x ++ encodes cs))) (ascii_encode c k)
    ∙ by (eqb c 92) (λ e. rw e (unreserve_points cs h.1)) (λ e. rw e (utf8_cons c (unreserve (encodes cs)) k (unreserve_points cs h.1))))
    (λ k.
    ap first_bad (unreserve_highs (encode c) (highs_encode c k) (encodes cs))
    ∙ utf8_append (encode c) (unreserve (encodes cs)) (utf8_encode c h.0) (unreserve_points cs h.1))
    (split c 128)

pub utf8_unreserve : (s : Text) → Utf8 s → Utf8 (unreserve s)
utf8_unreserve s u = let g = valid_encoded s u in ap (λ (x : Text). first_bad (unreserve x)) g.bytes ∙ unreserve_points (decode s) g.scalars

-- ---- Resolution

-- Where there is a slash, the text before the last one, and up to it.
last_slash : (s : Text) → some_byte (is "/") s ≡ true → (t : Text) × (s ≡ without_last_segment s ++ 47 ∷ t) × (up_to_last_slash s ≡ without_last_segment s ++ 47 ∷ [])
unfolding some_byte without_last_segment up_to_last_slash
last_slash [] e = contrary (sym e)
last_slash (c ∷ s) e =
    by (some_byte (is "/") s)
    (λ f. let (t, a, b) = last_slash s f in (t, rw f (ap (λ (x : Text). c ∷ x) a), rw (f, either (eqb c 47)) (ap (λ (x : Text). c ∷ x) b)))
    (λ f.
    let g : eqb c 47 ≡ true = slash (eqb c 47) (rw f at e) in
    let q = eqb-true c 47 g in
    (s, rw (f, q), rw (f, g) (ap₂ (λ (x : ℕ) (y : Text). x ∷ y) q (no_slash s f))))
  where
    slash : (b : Bool) → (b || false) ≡ true → b ≡ true
    slash true e = refl
    slash false e = contrary (sym e)

    either : (b : Bool) → (b || true) ≡ true
    either true = refl
    either false = refl

    no_slash : (s : Text) → some_byte (is "/") s ≡ false → up_to_last_slash s ≡ []
    no_slash [] f = refl
    no_slash (d ∷ s) f = rw f

utf8_without : (s : Text) → Utf8 s → Utf8 (without_last_segment s)
unfolding without_last_segment some_byte
utf8_without [] u = u
utf8_without (c ∷ s) u =
    by (some_byte (is "/") (c ∷ s)) (λ e. let (t, a, b) = last_slash (c ∷ s) e in (utf8_cut (without_last_segment (c ∷ s)) t 47 (omega arith) (ap first_bad (sym a) ∙ u)).0)
    (λ e. rw (rest e) utf8_none)
  where
    rest : some_byte (is "/") (c ∷ s) ≡ false → some_byte (is "/") s ≡ false
    rest e = (or_false (eqb c 47) (some_byte (is "/") s) e).1

utf8_up_to : (s : Text) → Utf8 s → Utf8 (up_to_last_slash s)
unfolding up_to_last_slash
utf8_up_to [] u = u
utf8_up_to (c ∷ s) u =
    by (some_byte (is "/") (c ∷ s))
    (λ e.
    let (t, a, b) = last_slash (c ∷ s) e in
    ap first_bad b ∙ utf8_append (without_last_segment (c ∷ s)) (47 ∷ []) (utf8_without (c ∷ s) u) (utf8_low 47 (omega arith)))
    (λ e. rw e utf8_none)

record Whole (b : Buffers) : Type 0 where
  out : Utf8 b.out
  input : Utf8 b.input

whole_cond : (b : Bool) (x y : Buffers) → (b ≡ true → Whole x) → Whole y → Whole (cond b x y)
whole_cond true x y f h = f refl
whole_cond false x y f h = h

whole_turn : (o i : Text) → Utf8 o → Utf8 i → Whole (turn (buffers o i))
unfolding turn first_segment after_first_segment
whole_turn o i u v =
    let slash = utf8_low 47 (omega arith) in
    whole_cond (begins (ascii "../") i) (buffers o (drop 3 i)) _ (λ e. record { out = u; input = utf8_drop 3 (ascii "../") i (omega arith) tt e v })
    (whole_cond (begins (ascii "./") i) (buffers o (drop 2 i)) _ (λ e. record { out = u; input = utf8_drop 2 (ascii "./") i (omega arith) tt e v })
    (whole_cond (begins (ascii "/./") i) (buffers o (drop 2 i)) _ (λ e. record { out = u; input = utf8_drop 2 (ascii "/./") i (omega arith) tt e v })
    (whole_cond (same_text i (ascii "/.")) (buffers o (ascii "/")) _ (λ e. record { out = u; input = slash })
    (whole_cond (begins (ascii "/../") i) (buffers (without_last_segment o) (drop 3 i)) _
    (λ e. record { out = utf8_without o u; input = utf8_drop 3 (ascii "/../") i (omega arith) tt e v })
    (whole_cond (same_text i (ascii "/..")) (buffers (without_last_segment o) (ascii "/")) _ (λ e. record { out = utf8_without o u; input = slash })
    (whole_cond (same_text i (ascii ".") || same_text i (ascii "..")) (buffers o []) _ (λ e. record { out = u; input = utf8_none }) (segment i v)))))))
  where
    segment : (i : Text) → Utf8 i → Whole (buffers (o ++ first_segment i) (after_first_segment i))
    segment [] v = record { out = utf8_append o [] u utf8_none; input = utf8_none }
    segment (c ∷ s) v =
        let (a, b) = utf8_first (is "/") (is_low 47 (omega arith)) c s v in
        record { out = utf8_append o (c ∷ until (is "/") s) u a; input = b }

whole_turns : (n : ℕ) (b : Buffers) → Whole b → Whole (turns n b)
unfolding turns
whole_turns zero b w = w
whole_turns (suc n) b w = whole_turns n (turn b) (whole_turn b.out b.input w.out w.input)

utf8_dots : (p : Text) → Utf8 p → Utf8 (remove_dot_segments p)
unfolding remove_dot_segments
utf8_dots p u = (whole_turns (length p) (buffers [] p) (record { out = utf8_none; input = u })).out

record WholeParts (p : Parts) : Type 0 where
  authority : Utf8 p.authority
  path : Utf8 p.path
  query : Utf8 p.query
  fragment : Utf8 p.fragment

utf8_cond : (b : Bool) (x y : Text) → (b ≡ true → Utf8 x) → Utf8 y → Utf8 (cond b x y)
utf8_cond true x y f h = f refl
utf8_cond false x y f h = h

whole_parts : (s : Text) → Utf8 s → WholeParts (parts s)
unfolding parts authority_of after_authority
whole_parts s u =
    let slashes : begins (ascii "//") s ≡ true → Utf8 (drop 2 s) = λ e. utf8_drop 2 (ascii "//") s (omega arith) tt e u in
    let ends : Low (one_of "/?#") = member_low (ascii "/?#") tt in
    let path_ends : Low (one_of "?#") = member_low (ascii "?#") tt in
    let hash : Low (is "#") = is_low 35 (omega arith) in
    let behind = utf8_cond (begins (ascii "//") s) (from (one_of "/?#") (drop 2 s)) s (λ e. utf8_from (one_of "/?#") ends (drop 2 s) (slashes e)) u in
    let after = utf8_from (one_of "?#") path_ends (after_authority s) behind in
    record {
      authority =
          utf8_cond (begins (ascii "//") s) (ascii "//" ++ until (one_of "/?#") (drop 2 s)) []
          (λ e.
          let v = utf8_until (one_of "/?#") ends (drop 2 s) (slashes e) in
          utf8_cons 47 (47 ∷ until (one_of "/?#") (drop 2 s)) (omega arith) (utf8_cons 47 (until (one_of "/?#") (drop 2 s)) (omega arith) v)) utf8_none;
      path = utf8_until (one_of "?#") path_ends (after_authority s) behind;
      query = utf8_until (is "#") hash (from (one_of "?#") (after_authority s)) after;
      fragment = utf8_from (is "#") hash (from (one_of "?#") (after_authority s)) after;
    }

utf8_merge : (b : Parts) (p : Text) → Utf8 b.path → Utf8 p → Utf8 (merge b p)
unfolding merge
utf8_merge b p u v =
    utf8_cond (defined b.authority && empty b.path) (ascii "/" ++ p) (up_to_last_slash b.path ++ p) (λ e. utf8_cons 47 p (omega arith) v)
    (utf8_append (up_to_last_slash b.path) p (utf8_up_to b.path u) v)

whole_transform : (b r : Parts) → WholeParts b → WholeParts r → WholeParts (transform remove_dot_segments b r)
unfolding transform
whole_transform b r x y =
    by (defined r.authority) (λ e. rw e (record { authority = y.authority; path = utf8_dots r.path y.path; query = y.query; fragment = y.fragment }))
    (λ e.
    by (empty r.path)
    (λ f. rw (e, f) (record { authority = x.authority; path = x.path; query = utf8_cond (defined r.query) r.query b.query (λ g. y.query) x.query; fragment = y.fragment }))
    (λ f.
    by (begins (ascii "/") r.path)
    (λ g. rw (e, f, g) (record { authority = x.authority; path = utf8_dots r.path y.path; query = y.query; fragment = y.fragment }))
    (λ g.
    rw (e, f, g) (record { authority = x.authority; path = utf8_dots (merge b r.path) (utf8_merge b r.path x.path y.path); query = y.query; fragment = y.fragment }))))

-- A reference resolved.
pub utf8_resolve : (base r : Text) → Utf8 base → Utf8 r → Utf8 (resolve base r)
unfolding resolve resolve_by recompose scheme after_scheme
utf8_resolve base r u v =
    let colon : Low (is ":") = is_low 58 (omega arith) in
    let t = transform remove_dot_segments (parts (after_scheme base)) (parts r) in
    let w = whole_transform (parts (after_scheme base)) (parts r) (whole_parts (after_scheme base) (utf8_behind (is ":") colon base u)) (whole_parts r v) in
    let sch = scheme base ++ ascii ":" in
    let a = utf8_append (scheme base) (ascii ":") (utf8_until (is ":") colon base u) (utf8_low 58 (omega arith)) in
    let b = utf8_append sch t.authority a w.authority in
    let c = utf8_append (sch ++ t.authority) t.path b w.path in
    utf8_append (sch ++ t.authority ++ t.path ++ t.query) t.fragment (utf8_append (sch ++ t.authority ++ t.path) t.query c w.query) w.fragment

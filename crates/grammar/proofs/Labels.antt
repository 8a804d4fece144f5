-- Trees of tokens and trees of kinds: the tokens of a text label the tree of its kinds, in one way.
use mathlib.Core.Path.{◌≡◌, refl, sym, ap, ap₂, ◌∙◌, subst}
use mathlib.Core.Logic.{◌↔◌}
use mathlib.Core.List.{List, [], ◌∷◌, ◌++◌, map, append-nil, append_assoc, nil≢cons, head-eq_of_cons-eq, tail-eq_of_cons-eq}
use mathlib.Core.Bool.{Bool, true, false}
use mathlib.Core.HLevel.{is_prop→PathP}
use lib.Dec.{T}
use Rattle.grammar.specs.Ebnf.{Expr, nt, ◌⨾◌, ◌∣◌, star, opt, Tree, leaf, node, both, left, right, done, more, absent, present, leaves}
use Rattle.grammar.proofs.KindTrees
use Rattle.grammar.proofs.Trees.{yield, leaves_yield}

module _ {A K N : Type 0} (kind : A → K) (G : N → Expr K N) where
  -- The tokens of a tree in front of r.
  spell : {e : Expr K N} → Tree kind G e → List A → List A
  spell (leaf t p) r = t ∷ r
  spell (node n x) r = spell x r
  spell (both x y) r = spell x (spell y r)
  spell (left x) r = spell x r
  spell (right x) r = spell x r
  spell done r = r
  spell (more x y) r = spell x (spell y r)
  spell absent r = r
  spell (present x) r = spell x r

  spell_leaves : {e : Expr K N} (x : Tree kind G e) (r : List A) → spell x r ≡ leaves kind G x ++ r
  unfolding spell leaves
  spell_leaves (leaf t p) r = refl
  spell_leaves (node n x) r = spell_leaves x r
  spell_leaves (both x y) r = spell_leaves x (spell y r) ∙ ap (λ l. leaves kind G x ++ l) (spell_leaves y r) ∙ sym (append_assoc (leaves kind G x) (leaves kind G y) r)
  spell_leaves (left x) r = spell_leaves x r
  spell_leaves (right x) r = spell_leaves x r
  spell_leaves done r = refl
  spell_leaves (more x y) r = spell_leaves x (spell y r) ∙ ap (λ l. leaves kind G x ++ l) (spell_leaves y r) ∙ sym (append_assoc (leaves kind G x) (leaves kind G y) r)
  spell_leaves absent r = refl
  spell_leaves (present x) r = spell_leaves x r

  -- The tree of kinds.
  erase : {e : Expr K N} → Tree kind G e → KindTrees.Tree G e
  erase (leaf {k} t p) = KindTrees.leaf k
  erase (node n x) = KindTrees.node n (erase x)
  erase (both x y) = KindTrees.both (erase x) (erase y)
  erase (left x) = KindTrees.left (erase x)
  erase (right x) = KindTrees.right (erase x)
  erase done = KindTrees.done
  erase (more x y) = KindTrees.more (erase x) (erase y)
  erase absent = KindTrees.absent
  erase (present x) = KindTrees.present (erase x)

  erase_yield : {e : Expr K N} (x : Tree kind G e) (r : List A) → map kind (spell x r) ≡ yield G (erase x) (map kind r)
  unfolding spell erase yield
  erase_yield (leaf t p) r = ap (λ k. k ∷ map kind r) p
  erase_yield (node n x) r = erase_yield x r
  erase_yield (both x y) r = erase_yield x (spell y r) ∙ ap (yield G (erase x)) (erase_yield y r)
  erase_yield (left x) r = erase_yield x r
  erase_yield (right x) r = erase_yield x r
  erase_yield done r = refl
  erase_yield (more x y) r = erase_yield x (spell y r) ∙ ap (yield G (erase x)) (erase_yield y r)
  erase_yield absent r = refl
  erase_yield (present x) r = erase_yield x r

  -- A tree of kinds, with the tokens of a text on it.
  abbrev Labelled : {e : Expr K N} → KindTrees.Tree G e → List K → List A → Type 0
  Labelled {e} x r ts = (y : Tree kind G e) × (s : List A) × (map kind s ≡ r) × (spell y s ≡ ts)

  label : {e : Expr K N} (x : KindTrees.Tree G e) (r : List K) (ts : List A) → map kind ts ≡ yield G x r → Labelled x r ts
  unfolding spell yield
  label (KindTrees.leaf k) r [] p = absurd (nil≢cons p)
  label (KindTrees.leaf k) r (t ∷ ts) p = (leaf t (head-eq_of_cons-eq p), ts, tail-eq_of_cons-eq p, refl)
  label (KindTrees.node n x) r ts p = let (y, s, q, o) = label x r ts p in (node n y, s, q, o)
  label (KindTrees.both x z) r ts p =
      let (y, s, q, o) = label x (yield G z r) ts p in
      let (w, u, v, i) = label z r s q in
      (both y w, u, v, ap (spell y) i ∙ o)
  label (KindTrees.left x) r ts p = let (y, s, q, o) = label x r ts p in (left y, s, q, o)
  label (KindTrees.right x) r ts p = let (y, s, q, o) = label x r ts p in (right y, s, q, o)
  label KindTrees.done r ts p = (done, ts, p, refl)
  label (KindTrees.more x z) r ts p =
      let (y, s, q, o) = label x (yield G z r) ts p in
      let (w, u, v, i) = label z r s q in
      (more y w, u, v, ap (spell y) i ∙ o)
  label KindTrees.absent r ts p = (absent, ts, p, refl)
  label (KindTrees.present x) r ts p = let (y, s, q, o) = label x r ts p in (present y, s, q, o)

  -- The parts of a tree of kinds, by its shape.
  node_of : {n : N} → KindTrees.Tree G (nt n) → KindTrees.Tree G (G n)
  node_of (KindTrees.node _ x) = x

  fst_of : {e f : Expr K N} → KindTrees.Tree G (e ⨾ f) → KindTrees.Tree G e
  fst_of (KindTrees.both x y) = x

  snd_of : {e f : Expr K N} → KindTrees.Tree G (e ⨾ f) → KindTrees.Tree G f
  snd_of (KindTrees.both x y) = y

  is_left : {e f : Expr K N} → KindTrees.Tree G (e ∣ f) → Bool
  is_left (KindTrees.left x) = true
  is_left (KindTrees.right y) = false

  left_or : {e f : Expr K N} → KindTrees.Tree G e → KindTrees.Tree G (e ∣ f) → KindTrees.Tree G e
  left_or d (KindTrees.left x) = x
  left_or d (KindTrees.right y) = d

  right_or : {e f : Expr K N} → KindTrees.Tree G f → KindTrees.Tree G (e ∣ f) → KindTrees.Tree G f
  right_or d (KindTrees.left x) = d
  right_or d (KindTrees.right y) = y

  is_done : {e : Expr K N} → KindTrees.Tree G (star e) → Bool
  is_done KindTrees.done = true
  is_done (KindTrees.more x y) = false

  more_or : {e : Expr K N} → KindTrees.Tree G e → KindTrees.Tree G (star e) → KindTrees.Tree G e
  more_or d KindTrees.done = d
  more_or d (KindTrees.more x y) = x

  rest_of : {e : Expr K N} → KindTrees.Tree G (star e) → KindTrees.Tree G (star e)
  rest_of KindTrees.done = KindTrees.done
  rest_of (KindTrees.more x y) = y

  is_absent : {e : Expr K N} → KindTrees.Tree G (opt e) → Bool
  is_absent KindTrees.absent = true
  is_absent (KindTrees.present x) = false

  present_or : {e : Expr K N} → KindTrees.Tree G e → KindTrees.Tree G (opt e) → KindTrees.Tree G e
  present_or d KindTrees.absent = d
  present_or d (KindTrees.present x) = x

  module _ (K_set : IsSet K) where
    -- Two trees of tokens with the same tree of kinds and the same tokens are equal.
    same_labels : {e : Expr K N} (x y : Tree kind G e) (r s : List A) → erase x ≡ erase y → spell x r ≡ spell y s → (x ≡ y) × (r ≡ s)
    unfolding spell erase node_of fst_of snd_of is_left left_or right_or is_done more_or rest_of is_absent present_or
    same_labels (leaf {k} t p) (leaf u q) r s c d =
        let e : t ≡ u = head-eq_of_cons-eq d in
        (λ i. leaf (e i) (is_prop→PathP (λ j. kind (e j) ≡ k) (λ j. K_set (kind (e j)) k) p q i), tail-eq_of_cons-eq d)
    same_labels (node n x) (node _ y) r s c d = let (q, o) = same_labels x y r s (ap node_of c) d in (ap (node n) q, o)
    same_labels (both x z) (both y w) r s c d =
        let (q, o) = same_labels x y (spell z r) (spell w s) (ap fst_of c) d in
        let (v, i) = same_labels z w r s (ap snd_of c) o in
        (ap₂ both q v, i)
    same_labels (left x) (left y) r s c d = let (q, o) = same_labels x y r s (ap (left_or (erase x)) c) d in (ap left q, o)
    same_labels (left x) (right y) r s c d = absurd (subst (λ t. T (is_left t)) c tt)
    same_labels (right x) (left y) r s c d = absurd (subst (λ t. T (is_left t)) (sym c) tt)
    same_labels (right x) (right y) r s c d = let (q, o) = same_labels x y r s (ap (right_or (erase x)) c) d in (ap right q, o)
    same_labels done done r s c d = (refl, d)
    same_labels done (more y w) r s c d = absurd (subst (λ t. T (is_done t)) c tt)
    same_labels (more x z) done r s c d = absurd (subst (λ t. T (is_done t)) (sym c) tt)
    same_labels (more x z) (more y w) r s c d =
        let (q, o) = same_labels x y (spell z r) (spell w s) (ap (more_or (erase x)) c) d in
        let (v, i) = same_labels z w r s (ap rest_of c) o in
        (ap₂ more q v, i)
    same_labels absent absent r s c d = (refl, d)
    same_labels absent (present y) r s c d = absurd (subst (λ t. T (is_absent t)) c tt)
    same_labels (present x) absent r s c d = absurd (subst (λ t. T (is_absent t)) (sym c) tt)
    same_labels (present x) (present y) r s c d = let (q, o) = same_labels x y r s (ap (present_or (erase x)) c) d in (ap present q, o)

    spell_none : {e : Expr K N} (x : Tree kind G e) → spell x [] ≡ leaves kind G x
    spell_none x = spell_leaves x [] ∙ append-nil (leaves kind G x)

    erase_leaves : {e : Expr K N} (x : Tree kind G e) → KindTrees.leaves G (erase x) ≡ map kind (leaves kind G x)
    erase_leaves x = leaves_yield G (erase x) ∙ sym (erase_yield x []) ∙ ap (map kind) (spell_none x)

    -- The tokens have a tree exactly if their kinds have one,
    pub labelled : (n : N) (ts : List A) → ((x : Tree kind G (nt n)) × (leaves kind G x ≡ ts)) ↔ KindTrees.Derives G n (map kind ts)
    labelled n ts = (
      λ (x, p). (erase x, erase_leaves x ∙ ap (map kind) p),
      λ (x, p). back x (label x [] ts (sym p ∙ leaves_yield G x)),
    )
      where
        back : (z : KindTrees.Tree G (nt n)) → Labelled z [] ts → (x : Tree kind G (nt n)) × (leaves kind G x ≡ ts)
        back z (y, [], q, o) = (y, sym (spell_none y) ∙ o)
        back z (y, t ∷ s, q, o) = absurd (nil≢cons (sym q))

    -- and no two trees where the kinds have no two.
    pub labelled_once :
        (n : N) → ((x y : KindTrees.Tree G (nt n)) → KindTrees.leaves G x ≡ KindTrees.leaves G y → x ≡ y)
        → (x y : Tree kind G (nt n)) → leaves kind G x ≡ leaves kind G y → x ≡ y
    labelled_once n u x y p =
        (same_labels x y [] [] (u (erase x) (erase y) (erase_leaves x ∙ ap (map kind) p ∙ sym (erase_leaves y))) (spell_none x ∙ p ∙ sym (spell_none y))).0

-- The machine's grammar decisions are those of the grammar.
use mathlib.Core.Path.{◌≡◌, refl, sym, ap, ap₂, ◌∙◌}
use mathlib.Core.List.{List, [], ◌∷◌, ◌++◌, map}
use mathlib.Core.Bool.{Bool, true, false, ◌&&◌, ◌||◌, not}
use mathlib.Core.Option.{Option, none, some}
use Prim.Native.Nat.{ℕ}
use native.Mathlib.Omega.{arith}
use lib.Dec.{T}
use Rattle.grammar.proofs.Recogniser.{is_some, at_end, later, at_token, nullE, null, nullS, step, someNull, verdict}
use Rattle.token.proofs.KindCodes.{same}
use Rattle.token.specs.Kind.{Kind, among}
use Rattle.grammar.specs.Productions.{Mode, trig, turtle, production}
use Rattle.text.proofs.Booleans.{all, and_0, and_1}
use Rattle.grammar.proofs.Onto.{onto}
use Rattle.grammar.proofs.Grammar.{kinds_of}
use Rattle.grammar.proofs.Modes.{levels}
use Rattle.text.specs.Text.{cond}
use Rattle.token.specs.Tokens.{Token}
use Rattle.machine.specs.Memory.{Memory, Write, return, ◌>>=◌}
use Rattle.machine.specs.Frame.{Frame, Directive, prefix_name, namespace_of, new_base, last_dot, Open, directive, statement}
use Rattle.machine.specs.Rules.{Rule, ◌⇒◌, find_rule, frame_rules, above, rules}
use Rattle.machine.proofs.Stands.{S, stands, beneath, stands_list, stands_frames, stands_open, flat, decide, unless_none, grammar_move, frames_move, open_move}
use Rattle.machine.proofs.FrameTests.{frame_agrees, directive_agrees, document_agrees}
use Rattle.machine.proofs.Beneath.{beneath_assoc, beneath_one, beneath_none, beneath_unit, beneath_some, solid, step_beneath}
use Rattle.machine.proofs.Flat.{flat_verdict}
use Rattle.machine.proofs.Decide.{tied_kinds, tame_all, decide_verdict}
use Rattle.machine.proofs.ShapeTests.{frame_tame, frame_solid, frame_some, directive_tame, document_tame}

-- ---- The machine's verdict on tokens, as if nothing else were refused

unfoldable pub follow : Option (Write Open) → Memory → (Open → Memory → Option ℕ) → Option ℕ
follow none m f = some 0
follow (some w) m f = later (f (w m).0 (w m).1)

unfoldable pub finished : Open → Bool
finished (directive d) = false
finished (statement []) = true
finished (statement (f ∷ k)) = false

unfoldable pub machine_verdict : Mode → Open → Memory → List Token → Option ℕ
machine_verdict mode o m [] = at_end (finished o)
machine_verdict mode o m (t ∷ ts) =
    follow (find_rule t.kind (rules t (tied_kinds (kinds_of ts)) mode o)) m (λ o' m'. machine_verdict mode o' m' ts)

follow_same : (r : Option (Write Open)) (m : Memory) (f g : Open → Memory → Option ℕ) → ((o : Open) (n : Memory) → f o n ≡ g o n) → follow r m f ≡ follow r m g
unfolding follow
follow_same none m f g p = refl
follow_same (some w) m f g p = ap later (p (w m).0 (w m).1)

-- ---- Rules below other frames

lift : List Frame → Option (Write (List Frame)) → Option (Write Open)
lift K none = none
lift K (some w) = some (w >>= λ fs. return (statement (fs ++ K)))

above_find : (t : Token) (tied : Bool) (k : Kind) (K : List Frame) (rs : List (Rule (List Frame))) → find_rule k (above t tied K rs) ≡ lift K (find_rule k rs)
unfolding lift
above_find t tied k K [] = refl
above_find t tied k K ((ks ⇒ w) ∷ rs) = go (among ks k) (above_find t tied k K rs)
  where
    go : (b : Bool) → find_rule k (above t tied K rs) ≡ lift K (find_rule k rs)
        → cond b (some (w >>= λ fs. return (statement (fs ++ K)))) (find_rule k (above t tied K rs)) ≡ lift K (cond b (some w) (find_rule k rs))
    go true p = refl
    go false p = p

-- ---- Inversion of unless_none

none_left : (f g : S → S) (M : List S) → unless_none (map f (map g M)) ≡ none → M ≡ []
none_left f g [] p = refl
none_left f g (R ∷ M) p = let z : ◌≡◌ {A = ℕ} 0 1 = cc in absurd (omega arith)

some_left : (f g : S → S) (M Y : List S) → unless_none (map f (map g M)) ≡ some Y → (map f (map g M) ≡ Y) × T (is_some M)
unfolding is_some
some_left f g [] Y p = let z : ◌≡◌ {A = ℕ} 0 1 = cc in absurd (omega arith)
some_left f g (R ∷ M) Y p = (cc, tt)

at_some : (L : List S) (v : Option ℕ) → T (is_some L) → at_token (is_some L) v ≡ later v
unfolding is_some at_token
at_some [] v t = absurd t
at_some (R ∷ L) v t = refl

link_document : (mode : Mode) → true ≡ someNull same (production mode) levels (stands_open mode (statement []))
unfolding someNull nullS null nullE
link_document trig = refl
link_document turtle = refl

module _ (mode : Mode) where
  abbrev vd : List S → List Kind → Option ℕ
  vd L ks = verdict same (production mode) levels L ks

  abbrev move : List S → Kind → List S
  move L k = step same (production mode) levels L k

  stands_append : (fs K : List Frame) → stands_frames mode (fs ++ K) ≡ beneath (stands_list fs) (stands_frames mode K)
  stands_append [] K = sym (beneath_one (stands_frames mode K))
  stands_append (f ∷ fs) K = ap (beneath (stands f)) (stands_append fs K) ∙ sym (beneath_assoc (stands f) (stands_list fs) (stands_frames mode K))

  frames_some : (K : List Frame) → T (is_some (stands_frames mode K))
  unfolding is_some
  frames_some [] = tt
  frames_some (f ∷ K) = beneath_some (stands f) (stands_frames mode K) (frame_some f) (frames_some K)

  -- What is left in front of B, decided and flat.
  left_verdict : (M B : List S) (ks : List Kind) → T (tame_all mode M) → vd (beneath M B) ks ≡ vd (beneath (map (flat mode) (map (decide (tied_kinds ks)) M)) B) ks
  left_verdict M B ks t = decide_verdict mode M B ks t ∙ flat_verdict mode (map (decide (tied_kinds ks)) M) B ks

  -- With nothing beneath.
  bare_verdict : (M : List S) (ks : List Kind) → T (tame_all mode M) → vd M ks ≡ vd (map (flat mode) (map (decide (tied_kinds ks)) M)) ks
  bare_verdict M ks t =
      ap (λ L. vd L ks) (sym (beneath_unit M)) ∙ left_verdict M ([] ∷ []) ks t
      ∙ ap (λ L. vd L ks) (beneath_unit (map (flat mode) (map (decide (tied_kinds ks)) M)))

  closed : (L : List S) (k : Kind) (ks : List Kind) (r : Option (Write Open)) (m : Memory) → T (tame_all mode (move L k))
      → grammar_move mode (tied_kinds ks) L k ≡ open_move mode r m → vd L (k ∷ ks) ≡ follow r m (λ o n. vd (stands_open mode o) ks)
  unfolding verdict follow grammar_move open_move is_some at_token
  closed L k ks none m t p = ap (λ M. at_token (is_some M) (vd M ks)) (none_left (flat mode) (decide (tied_kinds ks)) (move L k) p)
  closed L k ks (some w) m t p =
      let (q, s) = some_left (flat mode) (decide (tied_kinds ks)) (move L k) (stands_open mode (w m).0) p in
      at_some (move L k) (vd (move L k) ks) s ∙ ap later (bare_verdict (move L k) ks t ∙ ap (λ M. vd M ks) q)

  framed : (A : List S) (K : List Frame) (k : Kind) (ks : List Kind) (r : Option (Write (List Frame))) (m : Memory) → T (solid same (production mode) levels A)
      → T (tame_all mode (move A k)) → grammar_move mode (tied_kinds ks) A k ≡ frames_move r m
      → vd (beneath A (stands_frames mode K)) (k ∷ ks) ≡ follow (lift K r) m (λ o n. vd (stands_open mode o) ks)
  unfolding verdict follow grammar_move frames_move is_some at_token lift
  framed A K k ks none m s t p =
      ap (λ M. at_token (is_some M) (vd M ks))
      (step_beneath same (production mode) levels A (stands_frames mode K) k s
      ∙ ap (λ M. beneath M (stands_frames mode K)) (none_left (flat mode) (decide (tied_kinds ks)) (move A k) p)
      ∙ beneath_none (stands_frames mode K))
  framed A K k ks (some w) m s t p =
      let (q, u) = some_left (flat mode) (decide (tied_kinds ks)) (move A k) (stands_list (w m).0) p in
      ap (λ M. at_token (is_some M) (vd M ks)) (step_beneath same (production mode) levels A (stands_frames mode K) k s)
      ∙ at_some (beneath (move A k) (stands_frames mode K)) (vd (beneath (move A k) (stands_frames mode K)) ks) (beneath_some (move A k) (stands_frames mode K) u (frames_some K))
      ∙ ap later
      (left_verdict (move A k) (stands_frames mode K) ks t ∙ ap (λ M. vd (beneath M (stands_frames mode K)) ks) q
      ∙ ap (λ M. vd M ks) (sym (stands_append (w m).0 K)))

  -- At each token the machine moves as the grammar does.
  moves : (o : Open) (t : Token) (ks : List Kind) (m : Memory)
      → vd (stands_open mode o) (t.kind ∷ ks) ≡ follow (find_rule t.kind (rules t (tied_kinds ks) mode o)) m (λ o' n. vd (stands_open mode o') ks)
  unfolding rules
  moves (directive d) t ks m =
      closed (stands_open mode (directive d)) t.kind ks (find_rule t.kind (rules t (tied_kinds ks) mode (directive d))) m
      (directive_tame mode d t.kind) (directive_agrees t m mode (tied_kinds ks) d t.kind)
  moves (statement []) t ks m =
      closed (stands_open mode (statement [])) t.kind ks (find_rule t.kind (rules t (tied_kinds ks) mode (statement []))) m
      (document_tame mode t.kind) (document_agrees t m mode (tied_kinds ks) t.kind)
  moves (statement (f ∷ K)) t ks m =
      framed (stands f) K t.kind ks (find_rule t.kind (frame_rules t (tied_kinds ks) f)) m (frame_solid mode f) (frame_tame mode f t.kind)
      (frame_agrees t m mode (tied_kinds ks) f t.kind)
      ∙ ap (λ r. follow r m (λ o' n. vd (stands_open mode o') ks)) (sym (above_find t (tied_kinds ks) t.kind K (frame_rules t (tied_kinds ks) f)))

  -- ---- The end

  null_append : (R Q : S) → T (not (nullS same (production mode) levels R)) → nullS same (production mode) levels (R ++ Q) ≡ false
  unfolding nullS
  null_append [] Q t = absurd t
  null_append (e ∷ R) Q t = go (null same (production mode) levels e) (nullS same (production mode) levels R) t (λ s. null_append R Q s)
    where
      go : (a b : Bool) → T (not (a && b)) → (T (not b) → nullS same (production mode) levels (R ++ Q) ≡ false) → (a && nullS same (production mode) levels (R ++ Q)) ≡ false
      go true b t p = p t
      go false b t p = refl

  null_over : (Q : S) (L C : List S) → T (solid same (production mode) levels L) → someNull same (production mode) levels C ≡ false → someNull same (production mode) levels (onto Q L ++ C) ≡ false
  unfolding someNull solid all
  null_over Q [] C t p = p
  null_over Q (R ∷ L) C t p =
      ap₂ ◌||◌ (null_append R Q (and_0 (not (nullS same (production mode) levels R)) (solid same (production mode) levels L) t))
      (null_over Q L C (and_1 (not (nullS same (production mode) levels R)) (solid same (production mode) levels L) t) p)

  none_null : (A B : List S) → T (solid same (production mode) levels A) → someNull same (production mode) levels (beneath A B) ≡ false
  unfolding someNull
  none_null A [] t = refl
  none_null A (Q ∷ B) t = null_over Q A (beneath A B) t (none_null A B t)

  link_directive : (d : Directive) → false ≡ someNull same (production mode) levels (stands_open mode (directive d))
  unfolding someNull nullS null nullE
  link_directive (prefix_name true) = refl
  link_directive (prefix_name false) = refl
  link_directive (namespace_of x true) = refl
  link_directive (namespace_of x false) = refl
  link_directive (new_base true) = refl
  link_directive (new_base false) = refl
  link_directive last_dot = refl

  link_end : (o : Open) → finished o ≡ someNull same (production mode) levels (stands_open mode o)
  unfolding finished
  link_end (directive d) = link_directive d
  link_end (statement []) = link_document mode
  link_end (statement (f ∷ K)) = sym (none_null (stands f) (stands_frames mode K) (frame_solid mode f))

  -- The theorem.
  pub link : (ts : List Token) (o : Open) (m : Memory) → machine_verdict mode o m ts ≡ vd (stands_open mode o) (kinds_of ts)
  unfolding machine_verdict verdict
  link [] o m = ap at_end (link_end o)
  link (t ∷ ts) o m =
      follow_same (find_rule t.kind (rules t (tied_kinds (kinds_of ts)) mode o)) m (λ o' n. machine_verdict mode o' n ts) (λ o' n. vd (stands_open mode o') (kinds_of ts)) (link ts)
      ∙ sym (moves o t (kinds_of ts) m)

-- Only the rule of a string asks whether a tag or ^^ follows; and behind a string something is open.
use mathlib.Core.Path.{◌≡◌, refl, sym, ap, ◌∙◌}
use mathlib.Core.Logic.{◌⊎◌, inl, inr, ⊎_elim}
use mathlib.Core.List.{List, [], ◌∷◌, ◌++◌}
use mathlib.Core.Bool.{Bool, true, false, not, ◌&&◌}
use mathlib.Core.Option.{Option, some}
use Prim.Native.Nat.{ℕ}
use native.Mathlib.Omega.{arith}
use lib.Dec.{T}
use Rattle.text.proofs.Booleans.{all}
use Rattle.text.proofs.Compare.{by, contrary}
use Rattle.token.specs.Kind.{Kind, kinds, among, iris, strings, close_paren, kw_true, kw_false, BLANK_NODE_LABEL, INTEGER, DECIMAL, DOUBLE}
use Rattle.token.specs.Tokens.{Token}
use Rattle.token.proofs.KindCodes.{all_kinds}
use Rattle.grammar.specs.Productions.{Mode, trig, turtle}
use Rattle.machine.specs.Memory.{Memory, Write, return, ◌>>=◌}
use Rattle.machine.specs.Frame.{object_of, element_of, Frame, graph_label, closing_label, graph_body, label_or_subject, triples_or_end, verb, verb_or_end, object, after_object, after_semicolon, bracket, list, suffix, datatype, Open, directive, statement}
use Rattle.machine.specs.Rules.{find_rule, Opening, string, object_rules, above, rules, new_cell, extended}
use Rattle.machine.proofs.Made.{some_same}

-- ---- Kinds

is_no : (a b : Bool) → T (not (a && b)) → a ≡ true → b ≡ false
is_no true true t e = absurd t
is_no true false t e = refl
is_no false b t e = contrary (sym e)

-- Strings are of none of these kinds.
no_string : (js : List Kind) → T (all (λ k. not (among strings k && among js k)) kinds) → (k : Kind) → among strings k ≡ true → among js k ≡ false
no_string js t k e = is_no (among strings k) (among js k) (all_kinds (λ j. not (among strings j && among js j)) t k) e

-- ---- Rules

-- The rule for a token; `tied`: a tag or ^^ follows it.
abbrev pub rule_for : Token → Mode → Open → Bool → Option (Write Open)
rule_for t mode o tied = find_rule t.kind (rules t tied mode o)

-- The rule of a string where an object or an element is awaited, above the frames K.
abbrev pub string_rule : Token → Write Opening → List Frame → Bool → Write Open
string_rule t begin K tied = string t tied begin tied >>= λ fs. return (statement (fs ++ K))

-- Something is open.
abbrev pub Opened : List Frame → Type 0
Opened fs = (f : Frame) × (gs : List Frame) × (fs ≡ f ∷ gs)

-- The token is a string where an object or an element is awaited, behind which something is open.
pub record Asks (t : Token) (mode : Mode) (o : Open) : Type 0 where
  pub begin : Write Opening
  pub below : List Frame
  pub rule : (tied : Bool) → rule_for t mode o tied ≡ some (string_rule t begin below tied)
  pub open_after : (m : Memory) → Opened (begin m).0.after

not_over : {A : Type 0} (f : Frame) (fs : List Frame) → statement (f ∷ fs) ≡ statement [] → A
not_over f fs e = let z : ◌≡◌ {A = ℕ} 0 1 = cc in absurd (omega arith)

module _ (t : Token) (mode : Mode) where
  abbrev AsksOrNot : Open → Type 0
  AsksOrNot o = (rule_for t mode o true ≡ rule_for t mode o false) ⊎ Asks t mode o

  abbrev objects : Write Opening → List Frame → Bool → Option (Write Open)
  objects begin K tied = find_rule t.kind (above t tied K (object_rules t tied begin))

  objects_same : (begin : Write Opening) (K : List Frame) → among strings t.kind ≡ false → objects begin K true ≡ objects begin K false
  objects_same begin K h = rw h

  objects_ask : (begin : Write Opening) (K : List Frame) → among strings t.kind ≡ true → (tied : Bool) → objects begin K tied ≡ some (string_rule t begin K tied)
  unfolding all
  objects_ask begin K h tied =
      rw (no_string iris tt t.kind h, no_string (BLANK_NODE_LABEL ∷ []) tt t.kind h, no_string (INTEGER ∷ []) tt t.kind h, no_string (DECIMAL ∷ []) tt t.kind h, no_string (DOUBLE ∷ []) tt t.kind h, no_string (kw_true ∷ kw_false ∷ []) tt t.kind h, h)

  -- Where the rules are those of objects.
  of_objects : (o : Open) (begin : Write Opening) (K : List Frame) → ((m : Memory) → Opened (begin m).0.after)
      → ((tied : Bool) → rule_for t mode o tied ≡ objects begin K tied) → AsksOrNot o
  of_objects o begin K x same =
      by (among strings t.kind) (λ h. inr (record { begin = begin; below = K; rule = λ tied. same tied ∙ objects_ask begin K h tied; open_after = x }))
      (λ h. inl (same true ∙ objects_same begin K h ∙ sym (same false)))

  frame_asks : (f : Frame) (K : List Frame) → AsksOrNot (statement (f ∷ K))
  unfolding rules
  frame_asks graph_label K = inl refl
  frame_asks (closing_label g) K = inl refl
  frame_asks (graph_body g) K = inl refl
  frame_asks (label_or_subject n) K = inl refl
  frame_asks triples_or_end K = inl refl
  frame_asks (verb s e) K = inl refl
  frame_asks (verb_or_end s e) K = inl refl
  frame_asks (object s p e) K =
      of_objects (statement (object s p e ∷ K)) (return (record { place = object_of s p; after = after_object s p e ∷ [] })) K (λ m. (after_object s p e, [], refl)) (λ tied. refl)
  frame_asks (after_object s p e) K = inl refl
  frame_asks (after_semicolon s e) K = inl refl
  frame_asks (bracket q n) K = inl refl
  frame_asks (list q at cs) K =
      let begin : Write Opening = new_cell q at cs t.start >>= (λ c. return (record { place = element_of c; after = list q at (extended cs c) ∷ [] })) in
      by (among (close_paren ∷ []) t.kind) (λ h. inl (rw h))
      (λ h. of_objects (statement (list q at cs ∷ K)) begin K (λ m. (list q at (extended cs (new_cell q at cs t.start m).0), [], refl)) (λ tied. rw h))
  frame_asks (suffix q at s) K = inl refl
  frame_asks (datatype q at s) K = inl refl

  document_asks : (o : Mode) → find_rule t.kind (rules t true o (statement [])) ≡ find_rule t.kind (rules t false o (statement []))
  unfolding rules
  document_asks trig = refl
  document_asks turtle = refl

  pub asks_or_not : (o : Open) → AsksOrNot o
  unfolding rules
  asks_or_not (directive d) = inl refl
  asks_or_not (statement []) = inl (document_asks mode)
  asks_or_not (statement (f ∷ K)) = frame_asks f K

  -- A rule behind which nothing is open does not ask.
  pub same_rule : (o : Open) (w : Write Open) (m : Memory) → (w m).0 ≡ statement [] → rule_for t mode o false ≡ some w → (tied : Bool) → rule_for t mode o tied ≡ some w
  same_rule o w m over e false = e
  same_rule o w m over e true =
      ⊎_elim (λ p. p ∙ e)
      (λ a.
      let q : w ≡ string_rule t a.begin a.below false = some_same (sym e ∙ a.rule false) in
      let (f, fs, p) = a.open_after m in
      not_over f (fs ++ a.below) (ap (λ (l : List Frame). statement (l ++ a.below)) (sym p) ∙ ap (λ (v : Write Open). (v m).0) (sym q) ∙ over))
      (asks_or_not o)

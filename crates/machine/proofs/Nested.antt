-- The machine and the construction, further: properties, brackets and lists.
use mathlib.Core.Path.{◌≡◌, refl, sym, ap, ◌∙◌}
use mathlib.Core.List.{List, [], ◌∷◌, ◌++◌, append_assoc}
use mathlib.Core.Bool.{false}
use mathlib.Core.Option.{Option, none, some}
use Prim.Native.Nat.{ℕ}
use Rattle.token.specs.Kind.{Kind, dot, semicolon, close_brace, open_bracket, close_bracket, open_paren, close_paren, kw_a, IRIREF, PNAME_NS, PNAME_LN}
use Rattle.grammar.specs.Productions.{Mode}
use Rattle.token.specs.Tokens.{Token}
use Rattle.machine.specs.Memory.{Memory, Write, Done, term, iri_term}
use Rattle.dataset.specs.Terms.{iri, rdf_type}
use Rattle.machine.specs.Frame.{Ending, full_stop, brace, bracket_end, Place, top, subject_before, object_of, element_of, Cells, no_cell, Frame, label_or_subject, verb, verb_or_end, object, after_object, after_semicolon, bracket, list, statement}
use Rattle.machine.specs.Rules.{rules, after_node, extended}
use Rattle.machine.specs.Construction.{Node, simple, cell_of, bracket_node, collection_node, elements, more_properties, properties, bracket_term}
use Rattle.machine.proofs.Decide.{ties, tied_kinds}
use Rattle.grammar.proofs.Grammar.{kinds_of}
use Rattle.machine.proofs.Agreement.{final, taken, in_object, in_list, begin_of, Writes, first, Iris, reference, name, namespace}

-- What ends predicates and objects.
pub data Closes : Ending → Kind → Type 0 where
  dot_ends : Closes full_stop dot
  dot_in_braces : Closes brace dot
  brace_ends : Closes brace close_brace
  bracket_ends : Closes bracket_end close_bracket

closes_untied : {e : Ending} {k : Kind} → Closes e k → ties k ≡ false
closes_untied dot_ends = refl
closes_untied dot_in_braces = refl
closes_untied brace_ends = refl
closes_untied bracket_ends = refl

-- A frame where a predicate of s may stand, and its objects end as e says; X is opened below them.
pub data VerbFrame : Frame → ℕ → Ending → List Frame → Type 0 where
  at_verb : {s : ℕ} {e : Ending} → VerbFrame (verb s e) s e []
  at_verb_or_end : {s : ℕ} {e : Ending} → VerbFrame (verb_or_end s e) s e []
  at_semicolon : {s : ℕ} {e : Ending} → VerbFrame (after_semicolon s e) s e []
  at_label : {s : ℕ} → VerbFrame (label_or_subject s) s full_stop []
  at_object_bracket : {s a b : ℕ} → VerbFrame (bracket (object_of a b) s) s bracket_end []
  at_element_bracket : {s a : ℕ} → VerbFrame (bracket (element_of a) s) s bracket_end []
  at_subject_bracket : {s : ℕ} {d : Ending} → VerbFrame (bracket (subject_before d) s) s bracket_end (verb_or_end s d ∷ [])
  at_top_bracket : {s : ℕ} → VerbFrame (bracket top s) s bracket_end (verb_or_end s full_stop ∷ [])

-- Behind an object, or behind a semicolon.
pub data Behind : Frame → ℕ → Ending → Type 0 where
  an_object : {s p : ℕ} {e : Ending} → Behind (after_object s p e) s e
  a_semicolon : {s : ℕ} {e : Ending} → Behind (after_semicolon s e) s e

module _ (mode : Mode) where
  -- A predicate's token, and its number.
  pub data Verb : Token → Write ℕ → Type 0 where
    named : {k : Kind} (v : Token) → Iris mode k → v.kind ≡ k → Verb v (iri_term v)
    typing : (v : Token) → v.kind ≡ kw_a → Verb v (term (iri rdf_type))

  verb_in : {F : Frame} {s : ℕ} {e : Ending} {X : List Frame} {v : Token} {w : Write ℕ} → VerbFrame F s e X → Verb v w → (K : List Frame) (m : Memory) (us : List Token)
      → final mode (v ∷ us) (statement (F ∷ K)) m ≡ final mode us (statement (object s (w m).0 e ∷ (X ++ K))) (w m).1
  unfolding taken rules
  verb_in (at_verb {s = s} {e = e}) (named v reference p) K m us = first mode v IRIREF us (tied_kinds (kinds_of us)) (statement ((verb s e) ∷ K)) m p refl
  verb_in (at_verb {s = s} {e = e}) (named v name p) K m us = first mode v PNAME_LN us (tied_kinds (kinds_of us)) (statement ((verb s e) ∷ K)) m p refl
  verb_in (at_verb {s = s} {e = e}) (named v namespace p) K m us = first mode v PNAME_NS us (tied_kinds (kinds_of us)) (statement ((verb s e) ∷ K)) m p refl
  verb_in (at_verb {s = s} {e = e}) (typing v p) K m us = first mode v kw_a us (tied_kinds (kinds_of us)) (statement ((verb s e) ∷ K)) m p refl
  verb_in (at_verb_or_end {s = s} {e = e}) (named v reference p) K m us = first mode v IRIREF us (tied_kinds (kinds_of us)) (statement ((verb_or_end s e) ∷ K)) m p refl
  verb_in (at_verb_or_end {s = s} {e = e}) (named v name p) K m us = first mode v PNAME_LN us (tied_kinds (kinds_of us)) (statement ((verb_or_end s e) ∷ K)) m p refl
  verb_in (at_verb_or_end {s = s} {e = e}) (named v namespace p) K m us = first mode v PNAME_NS us (tied_kinds (kinds_of us)) (statement ((verb_or_end s e) ∷ K)) m p refl
  verb_in (at_verb_or_end {s = s} {e = e}) (typing v p) K m us = first mode v kw_a us (tied_kinds (kinds_of us)) (statement ((verb_or_end s e) ∷ K)) m p refl
  verb_in (at_semicolon {s = s} {e = e}) (named v reference p) K m us = first mode v IRIREF us (tied_kinds (kinds_of us)) (statement ((after_semicolon s e) ∷ K)) m p refl
  verb_in (at_semicolon {s = s} {e = e}) (named v name p) K m us = first mode v PNAME_LN us (tied_kinds (kinds_of us)) (statement ((after_semicolon s e) ∷ K)) m p refl
  verb_in (at_semicolon {s = s} {e = e}) (named v namespace p) K m us = first mode v PNAME_NS us (tied_kinds (kinds_of us)) (statement ((after_semicolon s e) ∷ K)) m p refl
  verb_in (at_semicolon {s = s} {e = e}) (typing v p) K m us = first mode v kw_a us (tied_kinds (kinds_of us)) (statement ((after_semicolon s e) ∷ K)) m p refl
  verb_in (at_label {s = s}) (named v reference p) K m us = first mode v IRIREF us (tied_kinds (kinds_of us)) (statement ((label_or_subject s) ∷ K)) m p refl
  verb_in (at_label {s = s}) (named v name p) K m us = first mode v PNAME_LN us (tied_kinds (kinds_of us)) (statement ((label_or_subject s) ∷ K)) m p refl
  verb_in (at_label {s = s}) (named v namespace p) K m us = first mode v PNAME_NS us (tied_kinds (kinds_of us)) (statement ((label_or_subject s) ∷ K)) m p refl
  verb_in (at_label {s = s}) (typing v p) K m us = first mode v kw_a us (tied_kinds (kinds_of us)) (statement ((label_or_subject s) ∷ K)) m p refl
  verb_in (at_object_bracket {s = s} {a = a} {b = b}) (named v reference p) K m us = first mode v IRIREF us (tied_kinds (kinds_of us)) (statement ((bracket (object_of a b) s) ∷ K)) m p refl
  verb_in (at_object_bracket {s = s} {a = a} {b = b}) (named v name p) K m us = first mode v PNAME_LN us (tied_kinds (kinds_of us)) (statement ((bracket (object_of a b) s) ∷ K)) m p refl
  verb_in (at_object_bracket {s = s} {a = a} {b = b}) (named v namespace p) K m us = first mode v PNAME_NS us (tied_kinds (kinds_of us)) (statement ((bracket (object_of a b) s) ∷ K)) m p refl
  verb_in (at_object_bracket {s = s} {a = a} {b = b}) (typing v p) K m us = first mode v kw_a us (tied_kinds (kinds_of us)) (statement ((bracket (object_of a b) s) ∷ K)) m p refl
  verb_in (at_element_bracket {s = s} {a = a}) (named v reference p) K m us = first mode v IRIREF us (tied_kinds (kinds_of us)) (statement ((bracket (element_of a) s) ∷ K)) m p refl
  verb_in (at_element_bracket {s = s} {a = a}) (named v name p) K m us = first mode v PNAME_LN us (tied_kinds (kinds_of us)) (statement ((bracket (element_of a) s) ∷ K)) m p refl
  verb_in (at_element_bracket {s = s} {a = a}) (named v namespace p) K m us = first mode v PNAME_NS us (tied_kinds (kinds_of us)) (statement ((bracket (element_of a) s) ∷ K)) m p refl
  verb_in (at_element_bracket {s = s} {a = a}) (typing v p) K m us = first mode v kw_a us (tied_kinds (kinds_of us)) (statement ((bracket (element_of a) s) ∷ K)) m p refl
  verb_in (at_subject_bracket {s = s} {d = d}) (named v reference p) K m us = first mode v IRIREF us (tied_kinds (kinds_of us)) (statement ((bracket (subject_before d) s) ∷ K)) m p refl
  verb_in (at_subject_bracket {s = s} {d = d}) (named v name p) K m us = first mode v PNAME_LN us (tied_kinds (kinds_of us)) (statement ((bracket (subject_before d) s) ∷ K)) m p refl
  verb_in (at_subject_bracket {s = s} {d = d}) (named v namespace p) K m us = first mode v PNAME_NS us (tied_kinds (kinds_of us)) (statement ((bracket (subject_before d) s) ∷ K)) m p refl
  verb_in (at_subject_bracket {s = s} {d = d}) (typing v p) K m us = first mode v kw_a us (tied_kinds (kinds_of us)) (statement ((bracket (subject_before d) s) ∷ K)) m p refl
  verb_in (at_top_bracket {s = s}) (named v reference p) K m us = first mode v IRIREF us (tied_kinds (kinds_of us)) (statement ((bracket top s) ∷ K)) m p refl
  verb_in (at_top_bracket {s = s}) (named v name p) K m us = first mode v PNAME_LN us (tied_kinds (kinds_of us)) (statement ((bracket top s) ∷ K)) m p refl
  verb_in (at_top_bracket {s = s}) (named v namespace p) K m us = first mode v PNAME_NS us (tied_kinds (kinds_of us)) (statement ((bracket top s) ∷ K)) m p refl
  verb_in (at_top_bracket {s = s}) (typing v p) K m us = first mode v kw_a us (tied_kinds (kinds_of us)) (statement ((bracket top s) ∷ K)) m p refl

  -- The tokens of an objectList.
  abbrev pub WritesObjects : List Token → (ℕ → ℕ → Write Done) → Type 0
  WritesObjects ts os =
      (s p : ℕ) (e : Ending) (K : List Frame) (m : Memory) (us : List Token) → tied_kinds (kinds_of us) ≡ false
      → final mode (ts ++ us) (statement (object s p e ∷ K)) m ≡ final mode us (statement (after_object s p e ∷ K)) (os s p m).1

  -- What follows semicolons.
  pub data Semicolons : List Token → List (Token × Option (Write ℕ × (ℕ → ℕ → Write Done))) → Type 0 where
    no_more : Semicolons [] []
    bare : (c : Token) (us : List Token) (ps : List (Token × Option (Write ℕ × (ℕ → ℕ → Write Done)))) → c.kind ≡ semicolon → Semicolons us ps → Semicolons (c ∷ us) ((c, none) ∷ ps)
    full : (c v : Token) (ts us : List Token) (w : Write ℕ) (os : ℕ → ℕ → Write Done) (ps : List (Token × Option (Write ℕ × (ℕ → ℕ → Write Done)))) → c.kind ≡ semicolon → Verb v w → WritesObjects ts os → Semicolons us ps → Semicolons (c ∷ v ∷ (ts ++ us)) ((c, some (w, os)) ∷ ps)

  semicolons_untied : {ts : List Token} {ps : List (Token × Option (Write ℕ × (ℕ → ℕ → Write Done)))} → Semicolons ts ps → (us : List Token) → tied_kinds (kinds_of us) ≡ false → tied_kinds (kinds_of (ts ++ us)) ≡ false
  semicolons_untied no_more us h = h
  semicolons_untied (bare c vs ps p r) us h = ap ties p
  semicolons_untied (full c v ts vs w os ps p x y r) us h = ap ties p

  close_same : {F : Frame} {s : ℕ} {e : Ending} {k : Kind} → Behind F s e → Closes e k → (u : Token) → u.kind ≡ k → (K : List Frame) (m : Memory) (us : List Token)
      → final mode (u ∷ us) (statement (F ∷ K)) m ≡ final mode (u ∷ us) (statement (verb_or_end s e ∷ K)) m
  unfolding taken rules
  close_same (an_object {s = s} {p = p}) dot_ends u q K m us =
      first mode u dot us (tied_kinds (kinds_of us)) (statement ((after_object s p full_stop) ∷ K)) m q refl
      ∙ sym (first mode u dot us (tied_kinds (kinds_of us)) (statement (verb_or_end s full_stop ∷ K)) m q refl)
  close_same (an_object {s = s} {p = p}) dot_in_braces u q K m us =
      first mode u dot us (tied_kinds (kinds_of us)) (statement ((after_object s p brace) ∷ K)) m q refl
      ∙ sym (first mode u dot us (tied_kinds (kinds_of us)) (statement (verb_or_end s brace ∷ K)) m q refl)
  close_same (an_object {s = s} {p = p}) brace_ends u q K m us =
      first mode u close_brace us (tied_kinds (kinds_of us)) (statement ((after_object s p brace) ∷ K)) m q refl
      ∙ sym (first mode u close_brace us (tied_kinds (kinds_of us)) (statement (verb_or_end s brace ∷ K)) m q refl)
  close_same (an_object {s = s} {p = p}) bracket_ends u q K m us =
      first mode u close_bracket us (tied_kinds (kinds_of us)) (statement ((after_object s p bracket_end) ∷ K)) m q refl
      ∙ sym (first mode u close_bracket us (tied_kinds (kinds_of us)) (statement (verb_or_end s bracket_end ∷ K)) m q refl)
  close_same (a_semicolon {s = s}) dot_ends u q K m us =
      first mode u dot us (tied_kinds (kinds_of us)) (statement ((after_semicolon s full_stop) ∷ K)) m q refl
      ∙ sym (first mode u dot us (tied_kinds (kinds_of us)) (statement (verb_or_end s full_stop ∷ K)) m q refl)
  close_same (a_semicolon {s = s}) dot_in_braces u q K m us =
      first mode u dot us (tied_kinds (kinds_of us)) (statement ((after_semicolon s brace) ∷ K)) m q refl
      ∙ sym (first mode u dot us (tied_kinds (kinds_of us)) (statement (verb_or_end s brace ∷ K)) m q refl)
  close_same (a_semicolon {s = s}) brace_ends u q K m us =
      first mode u close_brace us (tied_kinds (kinds_of us)) (statement ((after_semicolon s brace) ∷ K)) m q refl
      ∙ sym (first mode u close_brace us (tied_kinds (kinds_of us)) (statement (verb_or_end s brace ∷ K)) m q refl)
  close_same (a_semicolon {s = s}) bracket_ends u q K m us =
      first mode u close_bracket us (tied_kinds (kinds_of us)) (statement ((after_semicolon s bracket_end) ∷ K)) m q refl
      ∙ sym (first mode u close_bracket us (tied_kinds (kinds_of us)) (statement (verb_or_end s bracket_end ∷ K)) m q refl)

  semicolon_read : {F : Frame} {s : ℕ} {e : Ending} → Behind F s e → (c : Token) → c.kind ≡ semicolon → (K : List Frame) (m : Memory) (us : List Token)
      → final mode (c ∷ us) (statement (F ∷ K)) m ≡ final mode us (statement (after_semicolon s e ∷ K)) m
  unfolding taken rules
  semicolon_read (an_object {s = s} {p = p} {e = e}) c q K m us = first mode c semicolon us (tied_kinds (kinds_of us)) (statement (after_object s p e ∷ K)) m q refl
  semicolon_read (a_semicolon {s = s} {e = e}) c q K m us = first mode c semicolon us (tied_kinds (kinds_of us)) (statement (after_semicolon s e ∷ K)) m q refl

  semicolons_write : {ts : List Token} {ps : List (Token × Option (Write ℕ × (ℕ → ℕ → Write Done)))} {F : Frame} {s : ℕ} {e : Ending} {k : Kind}
      → Semicolons ts ps → Behind F s e → Closes e k → (u : Token) → u.kind ≡ k → (K : List Frame) (m : Memory) (us : List Token)
      → final mode (ts ++ (u ∷ us)) (statement (F ∷ K)) m ≡ final mode (u ∷ us) (statement (verb_or_end s e ∷ K)) (more_properties s ps m).1
  semicolons_write no_more b z u q K m us = close_same b z u q K m us
  semicolons_write (bare c vs ps p r) b z u q K m us = semicolon_read b c p K m (vs ++ (u ∷ us)) ∙ semicolons_write r a_semicolon z u q K m us
  semicolons_write {F = F} {s = s} {e = e} (full c v ts vs w os ps p x y r) b z u q K m us =
      ap (λ l. final mode (c ∷ v ∷ l) (statement (F ∷ K)) m) (append_assoc ts vs (u ∷ us))
      ∙ semicolon_read b c p K m (v ∷ (ts ++ (vs ++ (u ∷ us))))
      ∙ verb_in at_semicolon x K m (ts ++ (vs ++ (u ∷ us)))
      ∙ y s (w m).0 e K (w m).1 (vs ++ (u ∷ us)) (semicolons_untied r (u ∷ us) (ap ties q ∙ closes_untied z))
      ∙ semicolons_write r an_object z u q K (os s (w m).0 (w m).1).1 us

  -- The tokens of a predicateObjectList, in front of a token that ends it.
  abbrev pub WritesProperties : List Token → (ℕ → Write Done) → Type 0
  WritesProperties ts f =
      (F : Frame) (s : ℕ) (e : Ending) (X : List Frame) (k : Kind) → VerbFrame F s e X → Closes e k → (u : Token) → u.kind ≡ k → (K : List Frame) (m : Memory) (us : List Token)
      → final mode (ts ++ (u ∷ us)) (statement (F ∷ K)) m ≡ final mode (u ∷ us) (statement (verb_or_end s e ∷ (X ++ K))) (f s m).1

  pub properties_write : {v : Token} {w : Write ℕ} {vs : List Token} {ps : List (Token × Option (Write ℕ × (ℕ → ℕ → Write Done)))} (ts : List Token) (os : ℕ → ℕ → Write Done)
      → Verb v w → WritesObjects ts os → Semicolons vs ps → WritesProperties (v ∷ (ts ++ vs)) (properties (w, (os, ps)))
  properties_write {v} {w} {vs} {ps} ts os x y r F s e X k a z u q K m us =
      ap (λ l. final mode (v ∷ l) (statement (F ∷ K)) m) (append_assoc ts vs (u ∷ us))
      ∙ verb_in a x K m (ts ++ (vs ++ (u ∷ us)))
      ∙ y s (w m).0 e (X ++ K) (w m).1 (vs ++ (u ∷ us)) (semicolons_untied r (u ∷ us) (ap ties q ∙ closes_untied z))
      ∙ semicolons_write r an_object z u q (X ++ K) (os s (w m).0 (w m).1).1 us

  -- ---- Brackets

  pub end_bracket : (s : ℕ) (u : Token) → u.kind ≡ close_bracket → (K : List Frame) (m : Memory) (us : List Token) → final mode (u ∷ us) (statement (verb_or_end s bracket_end ∷ K)) m ≡ final mode us (statement K) m
  unfolding taken rules
  end_bracket s u q K m us = first mode u close_bracket us (tied_kinds (kinds_of us)) (statement (verb_or_end s bracket_end ∷ K)) m q refl

  pub bracket_writes : (t u : Token) (ts : List Token) (f : ℕ → Write Done) → t.kind ≡ open_bracket → u.kind ≡ close_bracket → WritesProperties ts f → Writes mode (t ∷ (ts ++ u ∷ [])) (bracket_node (t, (f, u)))
  unfolding taken rules
  bracket_writes t u ts f p q g (in_object s r e) K m us h =
      let x = simple t (bracket_term t) (begin_of (in_object s r e)) m in
      ap (λ l. final mode (t ∷ l) (statement (object s r e ∷ K)) m) (append_assoc ts (u ∷ []) us)
      ∙ first mode t open_bracket (ts ++ (u ∷ us)) (tied_kinds (kinds_of (ts ++ (u ∷ us)))) (statement (object s r e ∷ K)) m p refl
      ∙ g (bracket (object_of s r) x.0.node) x.0.node bracket_end [] close_bracket at_object_bracket bracket_ends u q (after_object s r e ∷ K) x.1 us
      ∙ end_bracket x.0.node u q (after_object s r e ∷ K) (f x.0.node x.1).1 us
  bracket_writes t u ts f p q g (in_list place opened cs) K m us h =
      let x = simple t (bracket_term t) (begin_of (in_list place opened cs)) m in
      let c = cell_of x.0.place in
      let K' = list place opened (extended cs c) ∷ K in
      ap (λ l. final mode (t ∷ l) (statement (list place opened cs ∷ K)) m) (append_assoc ts (u ∷ []) us)
      ∙ first mode t open_bracket (ts ++ (u ∷ us)) (tied_kinds (kinds_of (ts ++ (u ∷ us)))) (statement (list place opened cs ∷ K)) m p refl
      ∙ g (bracket (element_of c) x.0.node) x.0.node bracket_end [] close_bracket at_element_bracket bracket_ends u q K' x.1 us
      ∙ end_bracket x.0.node u q K' (f x.0.node x.1).1 us

  -- ---- Lists

  -- Elements, each with the tokens that write it; none begins with a tag or ^^.
  pub data Elements : List Token → List Node → Type 0 where
    no_element : Elements [] []
    next : (ts us : List Token) (x : Node) (xs : List Node) → ((vs : List Token) → tied_kinds (kinds_of (ts ++ vs)) ≡ false) → Writes mode ts x → Elements us xs → Elements (ts ++ us) (x ∷ xs)

  elements_untied : {ts : List Token} {xs : List Node} → Elements ts xs → (us : List Token) → tied_kinds (kinds_of us) ≡ false → tied_kinds (kinds_of (ts ++ us)) ≡ false
  elements_untied no_element us h = h
  elements_untied (next ts vs x xs a w r) us h = ap (λ l. tied_kinds (kinds_of l)) (append_assoc ts vs us) ∙ a (vs ++ us)

  pub elements_write : {ts : List Token} {xs : List Node} → Elements ts xs → (place : Place) (opened : ℕ) (cs : Cells) (K : List Frame) (m : Memory) (u : Token) (us : List Token) → u.kind ≡ close_paren
      → final mode (ts ++ (u ∷ us)) (statement (list place opened cs ∷ K)) m
      ≡ final mode us (statement (after_node place (elements place opened cs xs u m).0 ++ K)) (elements place opened cs xs u m).1
  unfolding taken rules
  elements_write no_element place opened cs K m u us q = first mode u close_paren us (tied_kinds (kinds_of us)) (statement (list place opened cs ∷ K)) m q refl
  elements_write (next ts vs x xs a w r) place opened cs K m u us q =
      let y = x (begin_of (in_list place opened cs)) m in
      ap (λ l. final mode l (statement (list place opened cs ∷ K)) m) (append_assoc ts vs (u ∷ us))
      ∙ w (in_list place opened cs) K m (vs ++ (u ∷ us)) (elements_untied r (u ∷ us) (ap ties q))
      ∙ elements_write r place opened (extended cs (cell_of y.0.place)) K y.1 u us q

  pub collection_writes : {ts : List Token} {xs : List Node} (t u : Token) → t.kind ≡ open_paren → u.kind ≡ close_paren → Elements ts xs → Writes mode (t ∷ (ts ++ u ∷ [])) (collection_node (t, (xs, u)))
  unfolding taken rules
  collection_writes {ts} {xs} t u p q r (in_object s o e) K m us h =
      ap (λ l. final mode (t ∷ l) (statement (object s o e ∷ K)) m) (append_assoc ts (u ∷ []) us)
      ∙ first mode t open_paren (ts ++ (u ∷ us)) (tied_kinds (kinds_of (ts ++ (u ∷ us)))) (statement (object s o e ∷ K)) m p refl
      ∙ elements_write r (object_of s o) t.start no_cell (after_object s o e ∷ K) m u us q
  collection_writes {ts} {xs} t u p q r (in_list place opened cs) K m us h =
      let y = begin_of (in_list place opened cs) t.start m in
      ap (λ l. final mode (t ∷ l) (statement (list place opened cs ∷ K)) m) (append_assoc ts (u ∷ []) us)
      ∙ first mode t open_paren (ts ++ (u ∷ us)) (tied_kinds (kinds_of (ts ++ (u ∷ us)))) (statement (list place opened cs ∷ K)) m p refl
      ∙ elements_write r y.0 t.start no_cell (list place opened (extended cs (cell_of y.0)) ∷ K) y.1 u us q

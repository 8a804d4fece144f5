-- After every token: no row has an object that is not there, and a string awaits its tag or type exactly if a tag or ^^ follows it.
use mathlib.Core.Path.{◌≡◌, refl, sym, ap, ◌∙◌, subst}
use mathlib.Core.List.{List, [], ◌∷◌, ◌++◌}
use mathlib.Core.Bool.{Bool, true, false, not, ◌&&◌}
use mathlib.Core.Option.{Option, none, some}
use Prim.Native.Nat.{ℕ, suc, ◌≤◌}
use native.Mathlib.Omega.{arith}
use lib.Dec.{T}
use lib.ListN.{length, drop, length-append}
use Rattle.text.specs.Text.{Text}
use Rattle.text.proofs.Booleans.{all, and_0, and_1, and_in}
use Rattle.text.proofs.Compare.{contrary, and_right}
use Rattle.token.specs.Kind.{Kind, kinds, among, strings, at_prefix, at_base, PREFIX, BASE, IRIREF, PNAME_NS, dot}
use Rattle.token.specs.Tokens.{Token, has_kind, Lexeme}
use Rattle.token.proofs.KindCodes.{all_kinds}
use Rattle.grammar.specs.Productions.{Mode, trig, turtle}
use Rattle.dataset.specs.Terms.{Term, label, bracket as bracket_node, cell, iri, blank, literal, tagged, rdf_type, rdf_first, rdf_rest, rdf_nil, xsd_string, xsd_integer, xsd_decimal, xsd_double, xsd_boolean}
use Rattle.dataset.specs.Constructors.{string_text, tag, node_label, iri_of}
use Rattle.table.specs.Layout.{Row}
use Rattle.table.specs.Tables.{number}
use Rattle.table.proofs.Numbers.{not_none}
use Rattle.table.proofs.Finding.{number_within}
use Rattle.machine.specs.Memory.{Memory, Write, return, ◌>>=◌, term, term_by, new_term, typed, typed_by, iri_term, row}
use Rattle.machine.specs.Frame.{Ending, full_stop, brace, bracket_end, Place, top, subject_before, object_of, element_of, Cells, no_cell, cells, Frame, graph_label, closing_label, graph_body, label_or_subject, triples_or_end, verb, verb_or_end, object, after_object, after_semicolon, bracket, list, suffix, datatype, Directive, prefix_name, namespace_of, new_base, last_dot, Open, directive, statement}
use Rattle.machine.specs.Rules.{Rule, ◌⇒◌, find_rule, hold, new_cell, extended, end_list, after_node, after_properties, Opening, end_rules, verb_rules, subject_rules, simple, string, object_rules, frame_rules, directive_rules, above, statement_rules, rules}
use Rattle.machine.specs.Step.{State, obeyed, tied_to}
use Rattle.machine.specs.Read.{start_state}
use Rattle.machine.proofs.Demands.{after_rules}
use Rattle.machine.proofs.Made.{first_or_later}
use Rattle.machine.proofs.Extends.{Extends, adds_term}
use Rattle.completions.specs.Written.{ObjectsThere}
use Rattle.completions.proofs.After.{after_induction}
use Rattle.completions.proofs.Complete.{is_suffix, awaits}
use Rattle.completions.proofs.Effects.{ext_hold}

-- ---- Objects

abbrev pub ObjectsIn : Memory → Type 0
ObjectsIn m = ObjectsThere (length m.terms) m.rows

objects_more : (n k : ℕ) (rs : List Row) → n ≤ k → ObjectsThere n rs → ObjectsThere k rs
objects_more n k [] h o = tt
objects_more n k (r ∷ rs) h o = (let l = o.0 in omega arith, objects_more n k rs h o.1)

objects_last : (n : ℕ) (rs : List Row) (r : Row) → ObjectsThere n rs → r.object ≤ n → ObjectsThere n (rs ++ r ∷ [])
objects_last n [] r o h = (h, tt)
objects_last n (x ∷ rs) r o h = (o.0, objects_last n rs r o.1 h)

-- A number of a term that is there.
abbrev Gives : Write ℕ → Type 0
Gives w = (m : Memory) → ObjectsIn m → ObjectsIn (w m).1 × ((w m).0 ≤ length (w m).1.terms)

gives_new : (t : Term) → Gives (new_term t)
gives_new t m o =
    let l = length-append m.terms (t ∷ []) in
    (objects_more (length m.terms) (length (m.terms ++ t ∷ [])) m.rows (omega arith) o, omega arith)

gives_term : (t : Term) → Gives (term t)
gives_term t m o = go (number t m.terms) refl
  where
    go : (x : Option ℕ) → number t m.terms ≡ x → ObjectsIn (term_by x t m).1 × ((term_by x t m).0 ≤ length (term_by x t m).1.terms)
    go none e = gives_new t m o
    go (some n) e = (o, number_within t m.terms n e)

gives_typed : (s d : Text) → Gives (typed s d)
gives_typed s d m o = gives_term (literal s d) (term (iri d) m).1 (gives_term (iri d) m o).0

gives_iri : (t : Token) → Gives (iri_term t)
gives_iri t m o = gives_term (iri (iri_of m.environment t)) m o

gives_typed_by : (s : Text) (t : Token) → Gives (typed_by s t)
gives_typed_by s t m o = gives_typed s (iri_of m.environment t) m o

ext_length : {m M : Memory} → Extends m M → length m.terms ≤ length M.terms
ext_length {m} x = omega (arith, ap length x.terms, length-append m.terms x.new_terms)

keeps_row : (s p n at : ℕ) (m : Memory) → ObjectsIn m → n ≤ length m.terms → ObjectsIn (row s p n at m).1
keeps_row s p n at m o h = objects_last (length m.terms) m.rows (record { graph = m.graph; subject = s; predicate = p; object = n; position = at }) o h

keeps_hold : (q : Place) (n at : ℕ) (m : Memory) → ObjectsIn m → n ≤ length m.terms → ObjectsIn (hold q n at m).1
keeps_hold top n at m o h = o
keeps_hold (subject_before e) n at m o h = o
keeps_hold (object_of s p) n at m o h = keeps_row s p n at m o h
keeps_hold (element_of c) n at m o h =
    let r = term (iri rdf_first) m in
    keeps_row c r.0 n at r.1 (gives_term (iri rdf_first) m o).0 (omega (arith, h, ext_length ((adds_term (iri rdf_first)).extends m)))

gives_cell : (q : Place) (opened : ℕ) (cs : Cells) (at : ℕ) → Gives (new_cell q opened cs at)
gives_cell q opened no_cell at m o =
    let m₁ = (new_term (blank (cell at)) m).1 in
    let n = suc (length m.terms) in
    let (a, b) = gives_new (blank (cell at)) m o in
    (keeps_hold q n opened m₁ a b, omega (arith, b, ext_length (ext_hold q n opened m₁)))
gives_cell q opened (cells h l) at m o =
    let m₁ = (new_term (blank (cell at)) m).1 in
    let n = suc (length m.terms) in
    let (a, b) = gives_new (blank (cell at)) m o in
    let r = term (iri rdf_rest) m₁ in
    let c : n ≤ length r.1.terms = omega (arith, b, ext_length ((adds_term (iri rdf_rest)).extends m₁)) in
    (keeps_row l r.0 n at r.1 (gives_term (iri rdf_rest) m₁ a).0 c, c)

keeps_end : (q : Place) (opened : ℕ) (cs : Cells) (at : ℕ) (m : Memory) → ObjectsIn m → ObjectsIn (end_list q opened cs at m).1
keeps_end q opened no_cell at m o = let (a, b) = gives_term (iri rdf_nil) m o in keeps_hold q (term (iri rdf_nil) m).0 opened (term (iri rdf_nil) m).1 a b
keeps_end q opened (cells h l) at m o =
    let r = term (iri rdf_rest) m in
    let n = term (iri rdf_nil) r.1 in
    let (a, b) = gives_term (iri rdf_nil) r.1 (gives_term (iri rdf_rest) m o).0 in
    keeps_row l r.0 n.0 at n.1 a b

-- ---- What is open

-- None of the frames awaits a tag or type.
abbrev rid : List Frame → Bool
rid [] = true
rid (f ∷ fs) = let r = rid fs in not (is_suffix f) && r

-- The first awaits one exactly if b, and no other does.
abbrev Calm : Bool → List Frame → Type 0
Calm false fs = T (rid fs)
Calm true [] = ⊥
Calm true (f ∷ fs) = (is_suffix f ≡ true) × T (rid fs)

rid_append : (fs K : List Frame) → T (rid fs) → T (rid K) → T (rid (fs ++ K))
rid_append [] K t u = u
rid_append (f ∷ fs) K t u = and_in (not (is_suffix f)) (rid (fs ++ K)) (and_0 (not (is_suffix f)) (rid fs) t) (rid_append fs K (and_1 (not (is_suffix f)) (rid fs) t) u)

calm_append : (b : Bool) (fs K : List Frame) → Calm b fs → T (rid K) → Calm b (fs ++ K)
calm_append false fs K t u = rid_append fs K t u
calm_append true [] K t u = absurd t
calm_append true (f ∷ fs) K t u = (t.0, rid_append fs K t.1 u)

rid_node : (q : Place) (n : ℕ) → T (rid (after_node q n))
rid_node top n = tt
rid_node (subject_before e) n = tt
rid_node (object_of s p) n = tt
rid_node (element_of c) n = tt

rid_properties : (q : Place) (n : ℕ) → T (rid (after_properties q n))
rid_properties top n = tt
rid_properties (subject_before e) n = tt
rid_properties (object_of s p) n = tt
rid_properties (element_of c) n = tt

-- ---- Rules

-- Are strings of none of these kinds?
abbrev apart : List Kind → Bool
apart ks = all (λ k. not (among ks k && among strings k)) kinds

is_no : (a b : Bool) → T (not (a && b)) → a ≡ true → b ≡ false
is_no true true t e = absurd t
is_no true false t e = refl
is_no false b t e = contrary (sym e)

no_string : (ks : List Kind) → T (apart ks) → (k : Kind) → among ks k ≡ true → among strings k ≡ false
no_string ks t k e = is_no (among ks k) (among strings k) (all_kinds (λ j. not (among ks j && among strings j)) t k) e

abbrev Fine : Bool → Write (List Frame) → Type 0
Fine b w = (m : Memory) → ObjectsIn m → ObjectsIn (w m).1 × Calm b (w m).0

data Good (tied : Bool) : List (Rule (List Frame)) → Type 0 where
  no_rule : Good tied []
  rule : {ks : List Kind} {w : Write (List Frame)} {rs : List (Rule (List Frame))} → T (apart ks) → Fine false w → Good tied rs → Good tied ((ks ⇒ w) ∷ rs)
  of_strings : {ks : List Kind} {w : Write (List Frame)} {rs : List (Rule (List Frame))} → ks ≡ strings → Fine tied w → Good tied rs → Good tied ((ks ⇒ w) ∷ rs)

good_append : {tied : Bool} {rs us : List (Rule (List Frame))} → Good tied rs → Good tied us → Good tied (rs ++ us)
good_append no_rule q = q
good_append (rule t a c) q = rule t a (good_append c q)
good_append (of_strings p a c) q = of_strings p a (good_append c q)

module _ (t : Token) (tied : Bool) where
  good_end : (e : Ending) → Good tied (end_rules t tied e)
  unfolding all
  good_end full_stop = rule tt (λ m o. (o, tt)) no_rule
  good_end brace = rule tt (λ m o. (o, tt)) (rule tt (λ m o. (o, tt)) no_rule)
  good_end bracket_end = rule tt (λ m o. (o, tt)) no_rule

  good_verb : (after : ℕ → List Frame) → ((p : ℕ) → T (rid (after p))) → Good tied (verb_rules t tied after)
  unfolding all
  good_verb after f =
      rule tt (λ m o. ((gives_iri t m o).0, f (iri_term t m).0)) (rule tt (λ m o. ((gives_term (iri rdf_type) m o).0, f (term (iri rdf_type) m).0)) no_rule)

  good_subject : (q : Place) → Good tied (subject_rules t tied q)
  unfolding all
  good_subject q =
      rule tt (λ m o. ((gives_iri t m o).0, rid_node q (iri_term t m).0))
      (rule tt (λ m o. ((gives_term (blank (label (node_label t))) m o).0, rid_node q (term (blank (label (node_label t))) m).0))
      (rule tt (λ m o. ((gives_new (blank (bracket_node t.start)) m o).0, tt)) (rule tt (λ m o. (o, tt)) no_rule)))

  module _ (begin : Write Opening) (keeps : (m : Memory) → ObjectsIn m → ObjectsIn (begin m).1) (after : (m : Memory) → T (rid (begin m).0.after)) where
    fine_simple : (node : Write ℕ) → Gives node → Fine false (simple t tied begin node)
    fine_simple node g m o =
        let r = begin m in
        let (x, y) = g r.1 (keeps m o) in
        (keeps_hold r.0.place (node r.1).0 t.start (node r.1).1 x y, after m)

    fine_string : (b : Bool) → Fine b (string t tied begin b)
    fine_string true m o = (keeps m o, (refl, after m))
    fine_string false m o = fine_simple (typed (string_text t) xsd_string) (gives_typed (string_text t) xsd_string) m o

    good_object : Good tied (object_rules t tied begin)
    unfolding all
    good_object =
        rule tt (fine_simple (iri_term t) (gives_iri t))
        (rule tt (fine_simple (term (blank (label (node_label t)))) (gives_term (blank (label (node_label t)))))
        (rule tt (fine_simple (typed t.text xsd_integer) (gives_typed t.text xsd_integer))
        (rule tt (fine_simple (typed t.text xsd_decimal) (gives_typed t.text xsd_decimal))
        (rule tt (fine_simple (typed t.text xsd_double) (gives_typed t.text xsd_double))
        (rule tt (fine_simple (typed t.text xsd_boolean) (gives_typed t.text xsd_boolean))
        (of_strings refl (fine_string tied)
        (rule tt
        (λ m o.
        let r = begin m in
        let (x, y) = gives_new (blank (bracket_node t.start)) r.1 (keeps m o) in
        (keeps_hold r.0.place (suc (length r.1.terms)) t.start (new_term (blank (bracket_node t.start)) r.1).1 x y, after m))
        (rule tt (λ m o. (keeps m o, after m)) no_rule))))))))

  good_frame : (f : Frame) → Good tied (frame_rules t tied f)
  unfolding all
  good_frame graph_label =
      rule tt (λ m o. ((gives_iri t m o).0, tt))
      (rule tt (λ m o. ((gives_term (blank (label (node_label t))) m o).0, tt)) (rule tt (λ m o. ((gives_new (blank (bracket_node t.start)) m o).0, tt)) no_rule))
  good_frame (closing_label g) = rule tt (λ m o. (o, tt)) no_rule
  good_frame (graph_body g) = rule tt (λ m o. (o, tt)) no_rule
  good_frame (label_or_subject n) = rule tt (λ m o. (o, tt)) (good_verb (λ p. object n p full_stop ∷ []) (λ p. tt))
  good_frame triples_or_end = rule tt (λ m o. (o, tt)) (good_subject (subject_before brace))
  good_frame (verb s e) = good_verb (λ p. object s p e ∷ []) (λ p. tt)
  good_frame (verb_or_end s e) = good_append (good_verb (λ p. object s p e ∷ []) (λ p. tt)) (good_end e)
  good_frame (object s p e) = good_object (return (record { place = object_of s p; after = after_object s p e ∷ [] })) (λ m o. o) (λ m. tt)
  good_frame (after_object s p e) = rule tt (λ m o. (o, tt)) (rule tt (λ m o. (o, tt)) (good_end e))
  good_frame (after_semicolon s e) = rule tt (λ m o. (o, tt)) (good_append (good_verb (λ p. object s p e ∷ []) (λ p. tt)) (good_end e))
  good_frame (bracket q n) = rule tt (λ m o. (o, rid_node q n)) (good_verb (λ p. object n p bracket_end ∷ after_properties q n) (λ p. rid_properties q n))
  good_frame (list q opened cs) =
      rule tt (λ m o. (keeps_end q opened cs t.start m o, rid_node q (end_list q opened cs t.start m).0))
      (good_object (new_cell q opened cs t.start >>= λ c. return (record { place = element_of c; after = list q opened (extended cs c) ∷ [] }))
      (λ m o. (gives_cell q opened cs t.start m o).0) (λ m. tt))
  good_frame (suffix q at s) =
      rule tt
      (λ m o.
      let r = term (tagged s (tag t)) m in let (x, y) = gives_term (tagged s (tag t)) m o in (keeps_hold q r.0 at r.1 x y, tt))
      (rule tt (λ m o. (o, tt)) no_rule)
  good_frame (datatype q at s) = rule tt (λ m o. let r = typed_by s t m in let (x, y) = gives_typed_by s t m o in (keeps_hold q r.0 at r.1 x y, tt)) no_rule

  good_statement : (mode : Mode) → Good tied (statement_rules t tied mode)
  unfolding all
  good_statement trig = rule tt (λ m o. (o, tt)) (rule tt (λ m o. (o, tt)) (good_subject top))
  good_statement turtle = good_subject (subject_before full_stop)

-- ---- Tokens

abbrev CalmOpen : Bool → Open → Type 0
CalmOpen false (directive d) = Unit {0}
CalmOpen true (directive d) = ⊥
CalmOpen b (statement fs) = Calm b fs

-- None below the first awaits a tag or type.
abbrev below : Open → Bool
below (directive d) = true
below (statement []) = true
below (statement (f ∷ fs)) = rid fs

calm_below : (b : Bool) (o : Open) → CalmOpen b o → T (below o) × (awaits o ≡ b)
calm_below false (directive d) c = (tt, refl)
calm_below true (directive d) c = absurd c
calm_below false (statement []) c = (tt, refl)
calm_below true (statement []) c = absurd c
calm_below false (statement (f ∷ fs)) c = (and_1 (not (is_suffix f)) (rid fs) c, go (is_suffix f) (and_0 (not (is_suffix f)) (rid fs) c))
  where
    go : (x : Bool) → T (not x) → x ≡ false
    go true u = absurd u
    go false u = refl
calm_below true (statement (f ∷ fs)) c = (c.1, c.0)

pub record Sane (s : State) : Type 0 where
  pub objects : ObjectsIn s.memory
  pub rest : T (below s.open_now)

module _ (t : Token) (tied : Bool) where
  abbrev Kept : Bool → Write Open → Type 0
  Kept b w = (m : Memory) → ObjectsIn m → ObjectsIn (w m).1 × CalmOpen b (w m).0

  -- A rule for other kinds than those of strings, and one for these.
  kept_other : (ks : List Kind) → T (apart ks) → (w v : Write Open) → Kept false v → among ks t.kind ≡ true → v ≡ w → Kept (has_kind strings t && tied) w
  kept_other ks u w v a h q = subst (λ (b : Bool). Kept (b && tied) w) (sym (no_string ks u t.kind h)) (subst (Kept false) q a)

  kept_string : (ks : List Kind) → ks ≡ strings → (w v : Write Open) → Kept tied v → among ks t.kind ≡ true → v ≡ w → Kept (has_kind strings t && tied) w
  kept_string ks p w v a h q = subst (λ (b : Bool). Kept (b && tied) w) (sym h ∙ ap (λ (l : List Kind). among l t.kind) p) (subst (Kept tied) q a)

  good_found : (K : List Frame) → T (rid K) → {rs : List (Rule (List Frame))} → Good tied rs → (w : Write Open) → find_rule t.kind (above t tied K rs) ≡ some w → Kept (has_kind strings t && tied) w
  good_found K u no_rule w e = not_none e
  good_found K u (rule {ks = ks} {w = v} x a c) w e =
      first_or_later (among ks t.kind) e (kept_other ks x w _ (λ m o. let (x, y) = a m o in (x, calm_append false (v m).0 K y u))) (λ d. good_found K u c w d)
  good_found K u (of_strings {ks = ks} {w = v} p a c) w e =
      first_or_later (among ks t.kind) e (kept_string ks p w _ (λ m o. let (x, y) = a m o in (x, calm_append tied (v m).0 K y u))) (λ d. good_found K u c w d)

  kept_rule : (mode : Mode) (o : Open) (w : Write Open) → find_rule t.kind (rules t tied mode o) ≡ some w → T (below o) → Kept (has_kind strings t && tied) w
  unfolding rules all
  kept_rule mode (statement (f ∷ K)) w e c = good_found K c (good_frame t tied f) w e
  kept_rule mode (statement []) w e c =
      first_or_later (among (at_prefix ∷ []) t.kind) e (kept_other (at_prefix ∷ []) tt w _ (λ m o. (o, tt)))
      (λ e₁.
      first_or_later (among (PREFIX ∷ []) t.kind) e₁ (kept_other (PREFIX ∷ []) tt w _ (λ m o. (o, tt)))
      (λ e₂.
      first_or_later (among (at_base ∷ []) t.kind) e₂ (kept_other (at_base ∷ []) tt w _ (λ m o. (o, tt)))
      (λ e₃.
      first_or_later (among (BASE ∷ []) t.kind) e₃ (kept_other (BASE ∷ []) tt w _ (λ m o. (o, tt)))
      (λ e₄. good_found [] tt (good_statement t tied mode) w e₄))))
  kept_rule mode (directive d) w e c = go d e
    where
      go : (d : Directive) → find_rule t.kind (directive_rules t tied d) ≡ some w → Kept (has_kind strings t && tied) w
      go (prefix_name x) e = first_or_later (among (PNAME_NS ∷ []) t.kind) e (kept_other (PNAME_NS ∷ []) tt w _ (λ m o. (o, tt))) (λ x. not_none x)
      go (namespace_of p true) e = first_or_later (among (IRIREF ∷ []) t.kind) e (kept_other (IRIREF ∷ []) tt w _ (λ m o. (o, tt))) (λ x. not_none x)
      go (namespace_of p false) e = first_or_later (among (IRIREF ∷ []) t.kind) e (kept_other (IRIREF ∷ []) tt w _ (λ m o. (o, tt))) (λ x. not_none x)
      go (new_base true) e = first_or_later (among (IRIREF ∷ []) t.kind) e (kept_other (IRIREF ∷ []) tt w _ (λ m o. (o, tt))) (λ x. not_none x)
      go (new_base false) e = first_or_later (among (IRIREF ∷ []) t.kind) e (kept_other (IRIREF ∷ []) tt w _ (λ m o. (o, tt))) (λ x. not_none x)
      go last_dot e = first_or_later (among (dot ∷ []) t.kind) e (kept_other (dot ∷ []) tt w _ (λ m o. (o, tt))) (λ x. not_none x)

  -- A string awaits its tag or type exactly if it is tied to one.
  pub sane_rule : (mode : Mode) (s : State) (w : Write Open) → find_rule t.kind (rules t tied mode s.open_now) ≡ some w → Sane s
      → Sane (obeyed (some w) t s) × (awaits (obeyed (some w) t s).open_now ≡ (has_kind strings t && tied))
  sane_rule mode s w e x =
      let (o, c) = kept_rule mode s.open_now w e x.rest s.memory x.objects in
      let (r, q) = calm_below (has_kind strings t && tied) (w s.memory).0 c in
      (record { objects = o; rest = r }, q)

-- Before the first token, and after i tokens.
pub start_sane : (base : Text) → Sane (start_state base)
start_sane base = record { objects = tt; rest = tt }

pub after_sane : (mode : Mode) (i : ℕ) (ls : List Lexeme) (s s' : State) → after_rules mode i ls s ≡ some s' → Sane s → (awaits s.open_now ≡ true → tied_to ls ≡ true)
    → Sane s' × (awaits s'.open_now ≡ true → tied_to (drop i ls) ≡ true)
after_sane mode =
    after_induction mode
    (λ i ls s s'. Sane s → (awaits s.open_now ≡ true → tied_to ls ≡ true) → Sane s' × (awaits s'.open_now ≡ true → tied_to (drop i ls) ≡ true))
    (λ ls s x c. (x, c))
    (λ i ls t s s' w q k x c.
    let (y, a) = sane_rule t (tied_to ls) mode s w q x in
    k y (λ z. and_right (has_kind strings t) (tied_to ls) (sym a ∙ z)))

-- How the writes of rules are made: of terms that are looked for, rows, and at most one new list cell and one new bracket, in this order.
use mathlib.Core.Path.{◌≡◌, refl, sym, ap, ◌∙◌, subst}
use mathlib.Core.List.{List, [], ◌∷◌, ◌++◌}
use mathlib.Core.Bool.{Bool, true, false, not, ◌||◌}
use mathlib.Core.Option.{Option, some}
use Prim.Native.Nat.{ℕ, ◌+◌}
use native.Mathlib.Nat.{add-zero}
use lib.Dec.{T, leb}
use Rattle.text.specs.Text.{Text, cond}
use Rattle.text.proofs.Booleans.{all, and_0, and_1}
use Rattle.text.proofs.Compare.{contrary}
use Rattle.token.specs.Kind.{Kind, among, at_prefix, at_base, PREFIX, BASE, IRIREF, PNAME_NS, dot}
use Rattle.token.specs.Tokens.{Token}
use Rattle.token.proofs.KindCodes.{same, same_eq}
use Rattle.grammar.specs.Productions.{Mode, trig, turtle}
use Rattle.dataset.specs.Terms.{Term, label, bracket as bracket_node, cell, numbered, iri, blank, literal, tagged, rdf_type, rdf_first, rdf_rest, rdf_nil, xsd_string, xsd_integer, xsd_decimal, xsd_double, xsd_boolean}
use Rattle.dataset.specs.Constructors.{string_text, tag, node_label, prefix}
use Rattle.table.proofs.Numbers.{not_none}
use Rattle.machine.specs.Memory.{Memory, Write, return, ◌>>=◌, ◌>>◌, Done, done, term, new_term, typed, typed_by, iri_term, row, enter, declare_prefix, declare_base}
use Rattle.machine.specs.Frame.{Ending, full_stop, brace, bracket_end, Place, top, subject_before, object_of, element_of, Cells, no_cell, cells, Frame, graph_label, closing_label, graph_body, label_or_subject, triples_or_end, verb, verb_or_end, object, after_object, after_semicolon, bracket, list, suffix, datatype, Directive, prefix_name, namespace_of, new_base, last_dot, Open, directive, statement}
use Rattle.machine.specs.Rules.{Rule, ◌⇒◌, find_rule, hold, new_cell, extended, end_list, after_node, after_properties, list_place, Opening, end_rules, verb_rules, subject_rules, simple, string, object_rules, frame_rules, directive_rules, above, statement_rules, rules}

-- A term that is looked for by its text: each [ and each list cell is new instead.
abbrev pub named : Term → Bool
named (iri s) = true
named (blank (label s)) = true
named (blank (bracket_node p)) = false
named (blank (cell p)) = false
named (blank (numbered p)) = false
named (literal s d) = true
named (tagged s g) = true

-- The write, at a token that begins at `at`, makes at most k rows. The first two Booleans: may it make a cell, a bracket; the last two: may what follows.
pub data Made (at : ℕ) : (A : Type 0) → ℕ → Bool → Bool → Bool → Bool → Write A → Type 1 where
  made_return : {A : Type 0} {c b : Bool} (a : A) → Made at A 0 c b c b (return a)
  made_bind : {A B : Type 0} {j k : ℕ} {c b c' b' c'' b'' : Bool} {w : Write A} {f : A → Write B}
      → Made at A j c b c' b' w → ((a : A) → Made at B k c' b' c'' b'' (f a)) → Made at B (j + k) c b c'' b'' (w >>= f)
  made_then : {A B : Type 0} {j k : ℕ} {c b c' b' c'' b'' : Bool} {w : Write A} {v : Write B}
      → Made at A j c b c' b' w → Made at B k c' b' c'' b'' v → Made at B (j + k) c b c'' b'' (w >> v)
  made_most : {A : Type 0} {c b c' b' : Bool} {w : Write A} → Made at A 0 c b c' b' w → Made at A 1 c b c' b' w
  made_term : {c b : Bool} (t : Term) → T (named t) → Made at ℕ 0 c b c b (term t)
  made_iri : {c b : Bool} (t : Token) → Made at ℕ 0 c b c b (iri_term t)
  made_typed_by : {c b : Bool} (s : Text) (t : Token) → Made at ℕ 0 c b c b (typed_by s t)
  made_row : {c b : Bool} (s p o q : ℕ) → Made at Done 1 c b c b (row s p o q)
  made_enter : {c b : Bool} (g : ℕ) → Made at Done 0 c b c b (enter g)
  made_cell : {b : Bool} → Made at ℕ 0 true b false b (new_term (blank (cell at)))
  made_bracket : {c : Bool} → Made at ℕ 0 c true c false (new_term (blank (bracket_node at)))

-- ---- The parts of rules

made_typed : {at : ℕ} {c b : Bool} (s d : Text) → Made at _ 0 c b c b (typed s d)
made_typed s d = made_then (made_term (iri d) tt) (made_term (literal s d) tt)

made_hold : {at : ℕ} {c b : Bool} (q : Place) (n x : ℕ) → Made at _ 1 c b c b (hold q n x)
made_hold top n x = made_most (made_return done)
made_hold (subject_before e) n x = made_most (made_return done)
made_hold (object_of s p) n x = made_row s p n x
made_hold (element_of k) n x = made_bind (made_term (iri rdf_first) tt) (λ f. made_row k f n x)

made_new_cell : {b : Bool} (q : Place) (opened : ℕ) (cs : Cells) (at : ℕ) → Made at _ 1 true b false b (new_cell q opened cs at)
made_new_cell q opened no_cell at = made_bind made_cell (λ k. made_then (made_hold q k opened) (made_return k))
made_new_cell q opened (cells h l) at =
    made_bind made_cell (λ k. made_bind (made_term (iri rdf_rest) tt) (λ r. made_then (made_row l r k at) (made_return k)))

made_end_list : {at : ℕ} {c b : Bool} (q : Place) (opened : ℕ) (cs : Cells) (x : ℕ) → Made at _ 1 c b c b (end_list q opened cs x)
made_end_list q opened no_cell x = made_bind (made_term (iri rdf_nil) tt) (λ n. made_then (made_hold q n opened) (made_return n))
made_end_list q opened (cells h l) x =
    made_bind (made_term (iri rdf_rest) tt) (λ r. made_bind (made_term (iri rdf_nil) tt) (λ n. made_then (made_row l r n x) (made_return h)))

-- ---- Every rule of a statement

-- The kinds that begin a directive.
abbrev pub directive_kinds : List Kind
directive_kinds = at_prefix ∷ PREFIX ∷ at_base ∷ BASE ∷ []

-- "A document of n bytes makes at most 2n rows": no token makes more than two.
pub record Few (at : ℕ) {A : Type 0} (w : Write A) : Type 1 where
  pub most : ℕ
  pub bound : T (leb most 2)
  pub cell_left : Bool
  pub bracket_left : Bool
  pub made : Made at A most true true cell_left bracket_left w

few : {at : ℕ} {A : Type 0} {w : Write A} {k : ℕ} {c b : Bool} → Made at A k true true c b w → T (leb k 2) → Few at w
few {k} {c} {b} a h = record { most = k; bound = h; cell_left = c; bracket_left = b; made = a }

-- No rule of the list begins a directive, and each is made so.
pub data Plain (at : ℕ) {A : Type 0} : List (Rule A) → Type 1 where
  no_rule : Plain at []
  rule : {ks : List Kind} {w : Write A} {rs : List (Rule A)} → T (all (λ k. not (among directive_kinds k)) ks) → Few at w → Plain at rs → Plain at ((ks ⇒ w) ∷ rs)

plain_append : {at : ℕ} {A : Type 0} {rs us : List (Rule A)} → Plain at rs → Plain at us → Plain at (rs ++ us)
plain_append no_rule q = q
plain_append (rule a b c) q = rule a b (plain_append c q)

module _ (t : Token) (tied : Bool) where
  abbrev PlainHere : List (Rule (List Frame)) → Type 1
  PlainHere rs = Plain t.start rs

  plain_end : (e : Ending) → PlainHere (end_rules t tied e)
  unfolding all
  plain_end full_stop = rule tt (few (made_return []) tt) no_rule
  plain_end brace = rule tt (few (made_return (triples_or_end ∷ [])) tt) (rule tt (few (made_then (made_enter 0) (made_return [])) tt) no_rule)
  plain_end bracket_end = rule tt (few (made_return []) tt) no_rule

  plain_verb : (after : ℕ → List Frame) → PlainHere (verb_rules t tied after)
  unfolding all
  plain_verb after =
      rule tt (few (made_bind (made_iri t) (λ p. made_return (after p))) tt)
      (rule tt (few (made_bind (made_term (iri rdf_type) tt) (λ p. made_return (after p))) tt) no_rule)

  plain_subject : (q : Place) → PlainHere (subject_rules t tied q)
  unfolding all
  plain_subject q =
      rule tt (few (made_bind (made_iri t) (λ n. made_return (after_node q n))) tt)
      (rule tt (few (made_bind (made_term (blank (label (node_label t))) tt) (λ n. made_return (after_node q n))) tt)
      (rule tt (few (made_bind made_bracket (λ n. made_return (bracket q n ∷ []))) tt)
      (rule tt (few (made_return (list (list_place q) t.start no_cell ∷ [])) tt) no_rule)))

  made_simple : {c : Bool} {begin : Write Opening} {node : Write ℕ} → Made t.start _ 1 true true c true begin → Made t.start _ 0 c true c true node
      → Made t.start _ 2 true true c true (simple t tied begin node)
  made_simple a b = made_bind a (λ o. made_bind b (λ n. made_then (made_hold o.place n t.start) (made_return o.after)))

  few_string : {c : Bool} {begin : Write Opening} (b : Bool) → Made t.start _ 1 true true c true begin → Few t.start (string t tied begin b)
  few_string true a = few (made_bind a (λ o. made_return (suffix o.place t.start (string_text t) ∷ o.after))) tt
  few_string false a = few (made_simple a (made_typed (string_text t) xsd_string)) tt

  plain_object : {c : Bool} {begin : Write Opening} → Made t.start _ 1 true true c true begin → PlainHere (object_rules t tied begin)
  unfolding all
  plain_object a =
      rule tt (few (made_simple a (made_iri t)) tt)
      (rule tt (few (made_simple a (made_term (blank (label (node_label t))) tt)) tt)
      (rule tt (few (made_simple a (made_typed t.text xsd_integer)) tt)
      (rule tt (few (made_simple a (made_typed t.text xsd_decimal)) tt)
      (rule tt (few (made_simple a (made_typed t.text xsd_double)) tt)
      (rule tt (few (made_simple a (made_typed t.text xsd_boolean)) tt)
      (rule tt (few_string tied a)
      (rule tt (few (made_bind a (λ o. made_bind made_bracket (λ n. made_then (made_hold o.place n t.start) (made_return (bracket o.place n ∷ o.after))))) tt)
      (rule tt (few (made_bind a (λ o. made_return (list o.place t.start no_cell ∷ o.after))) tt) no_rule))))))))

  pub plain_frame : (f : Frame) → PlainHere (frame_rules t tied f)
  unfolding all
  plain_frame graph_label =
      rule tt (few (made_bind (made_iri t) (λ g. made_return (graph_body g ∷ []))) tt)
      (rule tt (few (made_bind (made_term (blank (label (node_label t))) tt) (λ g. made_return (graph_body g ∷ []))) tt)
      (rule tt (few (made_bind made_bracket (λ g. made_return (closing_label g ∷ []))) tt) no_rule))
  plain_frame (closing_label g) = rule tt (few (made_return (graph_body g ∷ [])) tt) no_rule
  plain_frame (graph_body g) = rule tt (few (made_then (made_enter g) (made_return (triples_or_end ∷ []))) tt) no_rule
  plain_frame (label_or_subject n) = rule tt (few (made_then (made_enter n) (made_return (triples_or_end ∷ []))) tt) (plain_verb (λ p. object n p full_stop ∷ []))
  plain_frame triples_or_end = rule tt (few (made_then (made_enter 0) (made_return [])) tt) (plain_subject (subject_before brace))
  plain_frame (verb s e) = plain_verb (λ p. object s p e ∷ [])
  plain_frame (verb_or_end s e) = plain_append (plain_verb (λ p. object s p e ∷ [])) (plain_end e)
  plain_frame (object s p e) = plain_object (made_most (made_return (record { place = object_of s p; after = after_object s p e ∷ [] })))
  plain_frame (after_object s p e) = rule tt (few (made_return (object s p e ∷ [])) tt) (rule tt (few (made_return (after_semicolon s e ∷ [])) tt) (plain_end e))
  plain_frame (after_semicolon s e) = rule tt (few (made_return (after_semicolon s e ∷ [])) tt) (plain_append (plain_verb (λ p. object s p e ∷ [])) (plain_end e))
  plain_frame (bracket q n) = rule tt (few (made_return (after_node q n)) tt) (plain_verb (λ p. object n p bracket_end ∷ after_properties q n))
  plain_frame (list q opened cs) =
      rule tt (few (made_bind (made_end_list q opened cs t.start) (λ n. made_return (after_node q n))) tt)
      (plain_object (made_bind (made_new_cell q opened cs t.start) (λ c. made_return (record { place = element_of c; after = list q opened (extended cs c) ∷ [] }))))
  plain_frame (suffix q at s) =
      rule tt (few (made_bind (made_term (tagged s (tag t)) tt) (λ n. made_then (made_hold q n at) (made_return []))) tt)
      (rule tt (few (made_return (datatype q at s ∷ [])) tt) no_rule)
  plain_frame (datatype q at s) = rule tt (few (made_bind (made_typed_by s t) (λ n. made_then (made_hold q n at) (made_return []))) tt) no_rule

  pub plain_statement : (mode : Mode) → PlainHere (statement_rules t tied mode)
  unfolding all
  plain_statement trig =
      rule tt (few (made_then (made_enter 0) (made_return (triples_or_end ∷ []))) tt) (rule tt (few (made_return (graph_label ∷ [])) tt) (plain_subject top))
  plain_statement turtle = plain_subject (subject_before full_stop)

-- ---- The rule that is found for a kind

-- The kind begins no directive, the rule only adds, and what is open after it is a statement's.
pub record Statementlike (at : ℕ) (k : Kind) (w : Write Open) : Type 1 where
  pub no_directive : among directive_kinds k ≡ false
  pub few : Few at w
  pub is_statement : (m : Memory) → (fs : List Frame) × ((w m).0 ≡ statement fs)

is_false : (b : Bool) → T (not b) → b ≡ false
is_false true x = absurd x
is_false false x = refl

not_among : (ks : List Kind) (k : Kind) → T (all (λ j. not (among directive_kinds j)) ks) → among ks k ≡ true → among directive_kinds k ≡ false
unfolding all same
not_among [] k h e = contrary (sym e)
not_among (j ∷ ks) k h e = go (same j k) refl e (λ q. not_among ks k (and_1 (not (among directive_kinds j)) (all (λ i. not (among directive_kinds i)) ks) h) q)
  where
    go : (b : Bool) → same j k ≡ b → (b || among ks k) ≡ true → (among ks k ≡ true → among directive_kinds k ≡ false) → among directive_kinds k ≡ false
    go true p q f =
        ap (among directive_kinds) (sym (same_eq j k (subst T (sym p) tt)))
        ∙ is_false (among directive_kinds j) (and_0 (not (among directive_kinds j)) (all (λ i. not (among directive_kinds i)) ks) h)
    go false p q f = f q

pub some_same : {A : Type 0} {a b : A} → some a ≡ some b → a ≡ b
some_same e = cc

few_lift : {at : ℕ} (K : List Frame) {v : Write (List Frame)} → Few at v → Few at (v >>= λ fs. return (statement (fs ++ K)))
few_lift K b =
    record {
      most = b.most + 0;
      bound = subst (λ n. T (leb n 2)) (sym (add-zero b.most)) b.bound;
      cell_left = b.cell_left;
      bracket_left = b.bracket_left;
      made = made_bind b.made (λ fs. made_return (statement (fs ++ K)));
    }

module _ (t : Token) (tied : Bool) (k : Kind) (K : List Frame) where
  pub found_above : {at : ℕ} {rs : List (Rule (List Frame))} → Plain at rs → (w : Write Open) → find_rule k (above t tied K rs) ≡ some w → Statementlike at k w
  found_above no_rule w e = not_none e
  found_above {at} (rule {ks = ks} {w = v} {rs = rs} a b c) w e = go (among ks k) refl e (λ d. found_above c w d)
    where
      go : (x : Bool) → among ks k ≡ x → cond x (some (v >>= λ fs. return (statement (fs ++ K)))) (find_rule k (above t tied K rs)) ≡ some w
          → (find_rule k (above t tied K rs) ≡ some w → Statementlike at k w) → Statementlike at k w
      go true p d f =
          subst (Statementlike at k) (some_same d)
          (record { no_directive = not_among ks k a p; few = few_lift K b; is_statement = λ m. ((v m).0 ++ K, refl) })
      go false p d f = f d

-- The first rule of a list, or a later one.
pub first_or_later {ℓ} : {A : Type 0} {G : Type ℓ} {v w : A} (b : Bool) {r : Option A} → cond b (some v) r ≡ some w → (b ≡ true → v ≡ w → G) → (r ≡ some w → G) → G
first_or_later true e f g = f refl (some_same e)
first_or_later false e f g = g e

-- What a rule is, whatever is open: a statement's, or a directive's, which leaves rows and terms.
pub data RuleIs (at : ℕ) (k : Kind) (w : Write Open) : Type 1 where
  of_statement : Statementlike at k w → RuleIs at k w
  of_directive : ((m : Memory) → ((w m).1.rows ≡ m.rows) × ((w m).1.terms ≡ m.terms)) → RuleIs at k w

pub rule_is : (t : Token) (tied : Bool) (mode : Mode) (o : Open) (w : Write Open) → find_rule t.kind (rules t tied mode o) ≡ some w → RuleIs t.start t.kind w
unfolding rules
rule_is t tied mode (statement (f ∷ K)) w e = of_statement (found_above t tied t.kind K (plain_frame t tied f) w e)
rule_is t tied mode (statement []) w e =
    let leaves : (v : Write Open) → ((m : Memory) → ((v m).1.rows ≡ m.rows) × ((v m).1.terms ≡ m.terms)) → v ≡ w → RuleIs t.start t.kind w = λ v f x. subst (RuleIs t.start t.kind) x (of_directive f) in
    first_or_later (among (at_prefix ∷ []) t.kind) e (λ h q. leaves (return (directive (prefix_name true))) (λ m. (refl, refl)) q)
    (λ e₁.
    first_or_later (among (PREFIX ∷ []) t.kind) e₁ (λ h q. leaves (return (directive (prefix_name false))) (λ m. (refl, refl)) q)
    (λ e₂.
    first_or_later (among (at_base ∷ []) t.kind) e₂ (λ h q. leaves (return (directive (new_base true))) (λ m. (refl, refl)) q)
    (λ e₃.
    first_or_later (among (BASE ∷ []) t.kind) e₃ (λ h q. leaves (return (directive (new_base false))) (λ m. (refl, refl)) q)
    (λ e₄. of_statement (found_above t tied t.kind [] (plain_statement t tied mode) w e₄)))))
rule_is t tied mode (directive d) w e = go d e
  where
    leaves : (v : Write Open) → ((m : Memory) → ((v m).1.rows ≡ m.rows) × ((v m).1.terms ≡ m.terms)) → v ≡ w → RuleIs t.start t.kind w
    leaves v f x = subst (RuleIs t.start t.kind) x (of_directive f)

    go : (d : Directive) → find_rule t.kind (directive_rules t tied d) ≡ some w → RuleIs t.start t.kind w
    go (prefix_name b) e = first_or_later (among (PNAME_NS ∷ []) t.kind) e (λ h q. leaves (return (directive (namespace_of (prefix t) b))) (λ m. (refl, refl)) q) (λ x. not_none x)
    go (namespace_of p b) e = first_or_later (among (IRIREF ∷ []) t.kind) e (λ h q. leaves (declare_prefix p t >> return (cond b (directive last_dot) (statement []))) (λ m. (refl, refl)) q) (λ x. not_none x)
    go (new_base b) e = first_or_later (among (IRIREF ∷ []) t.kind) e (λ h q. leaves (declare_base t >> return (cond b (directive last_dot) (statement []))) (λ m. (refl, refl)) q) (λ x. not_none x)
    go last_dot e = first_or_later (among (dot ∷ []) t.kind) e (λ h q. leaves (return (statement [])) (λ m. (refl, refl)) q) (λ x. not_none x)

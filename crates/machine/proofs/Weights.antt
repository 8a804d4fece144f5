-- What a token writes, by weight: two terms at the most, and the bytes of one IRI and of texts that stand in the document. The nine IRIs that the
-- language itself writes are weighed once for the whole document: as terms, or as owed.
use mathlib.Core.Path.{◌≡◌, refl, ap, ◌∙◌, subst}
use mathlib.Core.Logic.{⊎_elim}
use mathlib.Core.List.{List, [], ◌∷◌, ◌++◌}
use mathlib.Core.Bool.{Bool, true, false, ◌||◌}
use mathlib.Core.Option.{Option, none, some}
use Prim.Native.Nat.{ℕ, zero, suc, ◌+◌, ◌-◌, ◌≤◌}
use native.Mathlib.Omega.{arith}
use lib.Dec.{T}
use lib.ListN.{length, take, drop, length-append, length-drop}
use Rattle.text.specs.Text.{Text, cond, is_none, same_text}
use Rattle.text.proofs.Booleans.{is_true, or_cases}
use Rattle.text.proofs.Compare.{same_eq}
use Rattle.limits.specs.Limits.{iri_limit}
use Rattle.token.specs.Kind.{Kind, among, iris, long_strings, at_prefix, at_base, PREFIX, BASE, IRIREF, PNAME_NS, dot}
use Rattle.token.specs.Tokens.{Token, has_kind}
use Rattle.escape.proofs.Walk.{unescape_short}
use Rattle.grammar.specs.Productions.{Mode, trig, turtle}
use Rattle.environment.specs.Environment.{Environment}
use Rattle.dataset.specs.Terms.{Term, label, bracket as bracket_node, cell, iri, blank, literal, tagged, rdf_type, rdf_first, rdf_rest, rdf_nil, xsd_string, xsd_integer, xsd_decimal, xsd_double, xsd_boolean}
use Rattle.dataset.specs.Constructors.{nothing, inner, string_text, tag, node_label, iri_of}
use Rattle.table.specs.Tables.{number_from, number, text_of, tag_of, store_size}
use Rattle.table.proofs.Numbers.{not_none}
use Rattle.table.proofs.Finding.{number_more, number_last}
use Rattle.machine.specs.Memory.{Memory, Write, return, ◌>>=◌, ◌>>◌, done, term, term_by, new_term, typed, typed_by, iri_term, row, enter}
use Rattle.machine.specs.Frame.{Ending, full_stop, brace, bracket_end, Place, top, subject_before, object_of, element_of, Cells, no_cell, cells, Frame, graph_label, closing_label, graph_body, label_or_subject, triples_or_end, verb, verb_or_end, object, after_object, after_semicolon, bracket, list, suffix, datatype, Directive, prefix_name, namespace_of, new_base, last_dot, Open, directive, statement}
use Rattle.machine.specs.Rules.{Rule, ◌⇒◌, find_rule, hold, new_cell, extended, end_list, after_node, after_properties, list_place, Opening, end_rules, verb_rules, subject_rules, simple, string, object_rules, frame_rules, directive_rules, above, statement_rules, rules}
use Rattle.machine.specs.Step.{awaited_by}
use Rattle.machine.proofs.Made.{first_or_later}
use Rattle.machine.proofs.Extends.{adds_term}

-- ---- Weights

-- A weight counts terms, or their bytes in the store.
abbrev pub one : Term → ℕ
one t = 1

abbrev pub size : Term → ℕ
size t = length (text_of t) + length (tag_of t)

total : (Term → ℕ) → List Term → ℕ
total v [] = 0
total v (t ∷ ts) = v t + total v ts

total_last : (v : Term → ℕ) (ts : List Term) (t : Term) → total v (ts ++ t ∷ []) ≡ total v ts + v t
unfolding total
total_last v [] t = omega arith
total_last v (u ∷ ts) t = let h = total_last v ts t in omega arith

-- The IRIs that the language itself writes.
abbrev supplied : List Text
supplied = rdf_type ∷ rdf_first ∷ rdf_rest ∷ rdf_nil ∷ xsd_string ∷ xsd_integer ∷ xsd_decimal ∷ xsd_double ∷ xsd_boolean ∷ []

listed : Text → List Text → Bool
listed x [] = false
listed x (y ∷ ys) = same_text x y || listed x ys

-- The weight of those that are no terms yet.
owed_one : (Term → ℕ) → Text → List Term → ℕ
owed_one v x ts = cond (is_none (number (iri x) ts)) (v (iri x)) 0

owed : (Term → ℕ) → List Text → List Term → ℕ
owed v [] ts = 0
owed v (x ∷ xs) ts = owed_one v x ts + owed v xs ts

pub weight : (Term → ℕ) → List Term → ℕ
weight v ts = total v ts + owed v supplied ts

-- A term more owes nothing new,
at_most : (b : Bool) (n : ℕ) → cond b n 0 ≤ n
at_most true n = omega arith
at_most false n = omega arith

one_more : (v : Term → ℕ) (x : Text) (ts : List Term) (u : Term) → owed_one v x (ts ++ u ∷ []) ≤ owed_one v x ts
unfolding owed_one
one_more v x ts u = go (number (iri x) ts) refl
  where
    go : (o : Option ℕ) → number (iri x) ts ≡ o → cond (is_none (number (iri x) (ts ++ u ∷ []))) (v (iri x)) 0 ≤ cond (is_none o) (v (iri x)) 0
    go none e = at_most (is_none (number (iri x) (ts ++ u ∷ []))) (v (iri x))
    go (some n) e = rw (number_more (iri x) ts (u ∷ []) n e) (omega arith)

owed_more : (v : Term → ℕ) (xs : List Text) (ts : List Term) (u : Term) → owed v xs (ts ++ u ∷ []) ≤ owed v xs ts
unfolding owed
owed_more v [] ts u = omega arith
owed_more v (x ∷ xs) ts u = let h = owed_more v xs ts u in let g = one_more v x ts u in omega arith

-- and what was owed is paid when it is written.
one_new : (v : Term → ℕ) (x : Text) (ts : List Term) → number (iri x) ts ≡ none → owed_one v x (ts ++ iri x ∷ []) + v (iri x) ≤ owed_one v x ts
unfolding owed_one
one_new v x ts e = rw (e, number_last (iri x) ts e) (omega arith)

owed_new : (v : Term → ℕ) (xs : List Text) (ts : List Term) (x : Text) → T (listed x xs) → number (iri x) ts ≡ none → owed v xs (ts ++ iri x ∷ []) + v (iri x) ≤ owed v xs ts
unfolding owed listed
owed_new v [] ts x h e = absurd h
owed_new v (y ∷ ys) ts x h e =
    ⊎_elim (λ p. let q = subst (λ z. owed_one v z (ts ++ iri x ∷ []) + v (iri x) ≤ owed_one v z ts) (same_eq x y (is_true (same_text x y) p)) (one_new v x ts e) in let g = owed_more v ys ts (iri x) in omega arith)
    (λ p. let g = owed_new v ys ts x p e in let q = one_more v y ts (iri x) in omega arith) (or_cases (same_text x y) (listed x ys) h)

weight_last : (v : Term → ℕ) (u : Term) (ts : List Term) → weight v (ts ++ u ∷ []) ≤ v u + weight v ts
unfolding weight
weight_last v u ts = let h = owed_more v supplied ts u in omega (arith, total_last v ts u)

weight_term : (v : Term → ℕ) (u : Term) (m : Memory) → weight v (term u m).1.terms ≤ v u + weight v m.terms
weight_term v u m = go (number u m.terms)
  where
    go : (o : Option ℕ) → weight v (term_by o u m).1.terms ≤ v u + weight v m.terms
    go none = weight_last v u m.terms
    go (some n) = omega arith

weight_supplied : (v : Term → ℕ) (x : Text) → T (listed x supplied) → (m : Memory) → weight v (term (iri x) m).1.terms ≤ weight v m.terms
unfolding weight
weight_supplied v x h m = go (number (iri x) m.terms) refl
  where
    go : (o : Option ℕ) → number (iri x) m.terms ≡ o → total v (term_by o (iri x) m).1.terms + owed v supplied (term_by o (iri x) m).1.terms ≤ total v m.terms + owed v supplied m.terms
    go none e = omega (arith, owed_new v supplied m.terms x h e, total_last v m.terms (iri x))
    go (some n) e = omega arith

-- ---- Writes

-- The write leaves the environment e as it is, and adds so much to a weight.
pub record Grows (e : Environment) {A : Type 0} (cost : (Term → ℕ) → ℕ) (w : Write A) : Type 0 where
  pub same : (m : Memory) → (w m).1.environment ≡ m.environment
  pub most : (v : Term → ℕ) (m : Memory) → m.environment ≡ e → weight v (w m).1.terms ≤ cost v + weight v m.terms

module _ {e : Environment} where
  grows_return : {A : Type 0} (a : A) → Grows e (λ v. 0) (return a)
  grows_return a = record { same = λ m. refl; most = λ v m h. omega arith }

  grows_bind : {A B : Type 0} {c d : (Term → ℕ) → ℕ} {w : Write A} {f : A → Write B} → Grows e c w → ((a : A) → Grows e d (f a)) → Grows e (λ v. c v + d v) (w >>= f)
  grows_bind {w = w} x y =
      record {
        same = λ m. (y (w m).0).same (w m).1 ∙ x.same m;
        most = λ v m h. let p = x.most v m h in let q = (y (w m).0).most v (w m).1 (x.same m ∙ h) in omega arith;
      }

  grows_then : {A B : Type 0} {c d : (Term → ℕ) → ℕ} {w : Write A} {u : Write B} → Grows e c w → Grows e d u → Grows e (λ v. c v + d v) (w >> u)
  grows_then {w = w} x y =
      record {
        same = λ m. y.same (w m).1 ∙ x.same m;
        most = λ v m h. let p = x.most v m h in let q = y.most v (w m).1 (x.same m ∙ h) in omega arith;
      }

  grows_as : {A : Type 0} {c : (Term → ℕ) → ℕ} {w : Write A} (d : (Term → ℕ) → ℕ) → Grows e c w → ((v : Term → ℕ) → c v ≤ d v) → Grows e d w
  grows_as d x f = record { same = x.same; most = λ v m h. let p = x.most v m h in let q = f v in omega arith }

  grows_term : (u : Term) → Grows e (λ v. v u) (term u)
  grows_term u = record { same = (adds_term u).same; most = λ v m h. weight_term v u m }

  grows_new : (u : Term) → Grows e (λ v. v u) (new_term u)
  grows_new u = record { same = λ m. refl; most = λ v m h. weight_last v u m.terms }

  grows_supplied : (x : Text) → T (listed x supplied) → Grows e (λ v. 0) (term (iri x))
  grows_supplied x h = record { same = (adds_term (iri x)).same; most = λ v m _. let p = weight_supplied v x h m in omega arith }

  grows_row : (s p o at : ℕ) → Grows e (λ v. 0) (row s p o at)
  grows_row s p o at = record { same = λ m. refl; most = λ v m h. omega arith }

  grows_enter : (g : ℕ) → Grows e (λ v. 0) (enter g)
  grows_enter g = record { same = λ m. refl; most = λ v m h. omega arith }

  grows_typed : (s d : Text) → T (listed d supplied) → Grows e (λ v. v (literal s d)) (typed s d)
  grows_typed s d h = grows_as (λ v. v (literal s d)) (grows_then (grows_supplied d h) (grows_term (literal s d))) (λ v. omega arith)

  grows_iri : (t : Token) → Grows e (λ v. v (iri (iri_of e t))) (iri_term t)
  grows_iri t =
      record {
        same = λ m. (adds_term (iri (iri_of m.environment t))).same m;
        most = λ v m h. subst (λ x. weight v (iri_term t m).1.terms ≤ v (iri (iri_of x t)) + weight v m.terms) h (weight_term v (iri (iri_of m.environment t)) m);
      }

  grows_typed_by : (s : Text) (t : Token) → Grows e (λ v. v (iri (iri_of e t)) + v (literal s (iri_of e t))) (typed_by s t)
  grows_typed_by s t =
      let each : (d : Text) → Grows e (λ v. v (iri d) + v (literal s d)) (typed s d) = λ d. grows_then (grows_term (iri d)) (grows_term (literal s d)) in
      record {
        same = λ m. (each (iri_of m.environment t)).same m;
        most = λ v m h. subst (λ x. weight v (typed_by s t m).1.terms ≤ v (iri (iri_of x t)) + v (literal s (iri_of x t)) + weight v m.terms) h ((each (iri_of m.environment t)).most v m h);
      }

  grows_hold : (q : Place) (n x : ℕ) → Grows e (λ v. 0) (hold q n x)
  unfolding listed same_text
  grows_hold top n x = grows_return done
  grows_hold (subject_before y) n x = grows_return done
  grows_hold (object_of s p) n x = grows_row s p n x
  grows_hold (element_of k) n x = grows_bind (grows_supplied rdf_first tt) (λ f. grows_row k f n x)

  grows_new_cell : (q : Place) (opened : ℕ) (cs : Cells) (at : ℕ) → Grows e (λ v. v (blank (cell at))) (new_cell q opened cs at)
  unfolding listed same_text
  grows_new_cell q opened no_cell at =
      grows_as (λ v. v (blank (cell at))) (grows_bind (grows_new (blank (cell at))) (λ k. grows_then (grows_hold q k opened) (grows_return k))) (λ v. omega arith)
  grows_new_cell q opened (cells h l) at =
      grows_as (λ v. v (blank (cell at)))
      (grows_bind (grows_new (blank (cell at))) (λ k. grows_bind (grows_supplied rdf_rest tt) (λ r. grows_then (grows_row l r k at) (grows_return k)))) (λ v. omega arith)

  grows_end_list : (q : Place) (opened : ℕ) (cs : Cells) (at : ℕ) → Grows e (λ v. 0) (end_list q opened cs at)
  unfolding listed same_text
  grows_end_list q opened no_cell at = grows_bind (grows_supplied rdf_nil tt) (λ n. grows_then (grows_hold q n opened) (grows_return n))
  grows_end_list q opened (cells h l) at =
      grows_bind (grows_supplied rdf_rest tt) (λ r. grows_bind (grows_supplied rdf_nil tt) (λ n. grows_then (grows_row l r n at) (grows_return h)))

-- ---- Texts of a token

pub take_short : (n : ℕ) (s : Text) → (length (take n s) ≤ n) × (length (take n s) ≤ length s)
take_short zero s = (omega arith, omega arith)
take_short (suc n) [] = (omega arith, omega arith)
take_short (suc n) (b ∷ s) = let (p, q) = take_short n s in (omega arith, omega arith)

module _ (t : Token) where
  string_short : length (string_text t) ≤ length t.text
  unfolding string_text inner
  string_short =
      let k : ℕ = cond (has_kind long_strings t) 3 1 in
      omega (arith, unescape_short (inner k t.text), (take_short (length t.text - (k + k)) (drop k t.text)).1, length-drop k t.text)

  tag_short : length (tag t) ≤ length t.text
  unfolding tag
  tag_short = omega (arith, length-drop 1 t.text)

  label_short : length (node_label t) ≤ length t.text
  unfolding node_label
  label_short = omega (arith, length-drop 2 t.text)

-- ---- Text that waits for its tag or datatype

abbrev pub waiting_in : Frame → ℕ
waiting_in graph_label = 0
waiting_in (closing_label g) = 0
waiting_in (graph_body g) = 0
waiting_in (label_or_subject n) = 0
waiting_in triples_or_end = 0
waiting_in (verb s e) = 0
waiting_in (verb_or_end s e) = 0
waiting_in (object s p e) = 0
waiting_in (after_object s p e) = 0
waiting_in (after_semicolon s e) = 0
waiting_in (bracket q n) = 0
waiting_in (list q at cs) = 0
waiting_in (suffix q at s) = length s
waiting_in (datatype q at s) = length s

abbrev pub waiting : List Frame → ℕ
waiting [] = 0
waiting (f ∷ fs) = waiting_in f + waiting fs

abbrev pub waiting_open : Open → ℕ
waiting_open (directive d) = 0
waiting_open (statement fs) = waiting fs

waiting_append : (fs gs : List Frame) → waiting (fs ++ gs) ≡ waiting fs + waiting gs
waiting_append [] gs = omega arith
waiting_append (f ∷ fs) gs = let h = waiting_append fs gs in omega arith

none_after_node : (q : Place) (n : ℕ) → waiting (after_node q n) ≡ 0
none_after_node top n = refl
none_after_node (subject_before e) n = refl
none_after_node (object_of s p) n = refl
none_after_node (element_of k) n = refl

none_after_properties : (q : Place) (n : ℕ) → waiting (after_properties q n) ≡ 0
none_after_properties top n = refl
none_after_properties (subject_before e) n = refl
none_after_properties (object_of s p) n = refl
none_after_properties (element_of k) n = refl

-- ---- Every rule of a statement

-- The rule adds two terms at the most, and the bytes of an IRI, of the token and of the text that waited in the frame, so far as they do not wait again.
record Modest (t : Token) (e : Environment) (q : ℕ) (w : Write (List Frame)) : Type 0 where
  cost : (Term → ℕ) → ℕ
  grows : Grows e cost w
  few : cost one ≤ 2
  bytes : (m : Memory) → cost size + waiting (w m).0 ≤ iri_limit + (length t.text + q)

data Modests (t : Token) (e : Environment) (q : ℕ) : List (Rule (List Frame)) → Type 0 where
  no_rule : Modests t e q []
  rule : {ks : List Kind} {w : Write (List Frame)} {rs : List (Rule (List Frame))} → (among ks t.kind ≡ true → Modest t e q w) → Modests t e q rs → Modests t e q ((ks ⇒ w) ∷ rs)

modests_append : {t : Token} {e : Environment} {q : ℕ} {rs us : List (Rule (List Frame))} → Modests t e q rs → Modests t e q us → Modests t e q (rs ++ us)
modests_append no_rule y = y
modests_append (rule f x) y = rule f (modests_append x y)

-- An object or element begins: a new cell, or nothing.
record Begins (e : Environment) (begin : Write Opening) : Type 0 where
  cost : (Term → ℕ) → ℕ
  grows : Grows e cost begin
  few : cost one ≤ 1
  bytes : cost size ≡ 0
  after : (m : Memory) → waiting (begin m).0.after ≡ 0

module _ (t : Token) (tied : Bool) (e : Environment) (short : among iris t.kind ≡ true → length (iri_of e t) ≤ iri_limit) where
  modest : {q : ℕ} {c : (Term → ℕ) → ℕ} {w : Write (List Frame)} → Grows e c w → c one ≤ 2 → ((m : Memory) → c size + waiting (w m).0 ≤ iri_limit + (length t.text + q)) → Modest t e q w
  modest {c = c} g f b = record { cost = c; grows = g; few = f; bytes = b }

  always : {q : ℕ} {ks : List Kind} {w : Write (List Frame)} {rs : List (Rule (List Frame))} → Modest t e q w → Modests t e q rs → Modests t e q ((ks ⇒ w) ∷ rs)
  always x r = rule (λ k. x) r

  for_iris : {q : ℕ} {w : Write (List Frame)} {rs : List (Rule (List Frame))} → (length (iri_of e t) ≤ iri_limit → Modest t e q w) → Modests t e q rs → Modests t e q ((iris ⇒ w) ∷ rs)
  for_iris f r = rule (λ k. f (short k)) r

  -- What writes no term, and waits for nothing.
  opens : {q : ℕ} (fs : List Frame) → waiting fs ≡ 0 → Modest t e q (return fs)
  opens fs z = modest (grows_return fs) (omega arith) (λ m. omega arith)

  enters : {q : ℕ} (g : ℕ) (fs : List Frame) → waiting fs ≡ 0 → Modest t e q (enter g >> return fs)
  enters g fs z = modest (grows_then (grows_enter g) (grows_return fs)) (omega arith) (λ m. omega arith)

  -- What writes one term.
  modest_iri : {q : ℕ} (after : ℕ → List Frame) → ((p : ℕ) → waiting (after p) ≡ 0) → length (iri_of e t) ≤ iri_limit → Modest t e q (iri_term t >>= λ p. return (after p))
  modest_iri after z h = modest (grows_bind (grows_iri t) (λ p. grows_return (after p))) (omega arith) (λ m. omega (arith, z (iri_term t m).0))

  modest_label : {q : ℕ} (after : ℕ → List Frame) → ((p : ℕ) → waiting (after p) ≡ 0) → Modest t e q (term (blank (label (node_label t))) >>= λ p. return (after p))
  modest_label after z =
      modest (grows_bind (grows_term (blank (label (node_label t)))) (λ p. grows_return (after p))) (omega arith) (λ m. omega (arith, label_short t, z (term (blank (label (node_label t))) m).0))

  modest_bracket : {q : ℕ} (after : ℕ → List Frame) → ((p : ℕ) → waiting (after p) ≡ 0) → Modest t e q (new_term (blank (bracket_node t.start)) >>= λ p. return (after p))
  modest_bracket after z =
      modest (grows_bind (grows_new (blank (bracket_node t.start))) (λ p. grows_return (after p))) (omega arith) (λ m. omega (arith, z (new_term (blank (bracket_node t.start)) m).0))

  modest_end : (x : Ending) → Modests t e 0 (end_rules t tied x)
  modest_end full_stop = always (opens [] refl) no_rule
  modest_end brace = always (opens (triples_or_end ∷ []) refl) (always (enters 0 [] refl) no_rule)
  modest_end bracket_end = always (opens [] refl) no_rule

  modest_verb : (after : ℕ → List Frame) → ((p : ℕ) → waiting (after p) ≡ 0) → Modests t e 0 (verb_rules t tied after)
  unfolding listed same_text
  modest_verb after z =
      for_iris (modest_iri after z)
      (always (modest (grows_bind (grows_supplied rdf_type tt) (λ p. grows_return (after p))) (omega arith) (λ m. omega (arith, z (term (iri rdf_type) m).0))) no_rule)

  modest_subject : (q : Place) → Modests t e 0 (subject_rules t tied q)
  modest_subject q =
      for_iris (modest_iri (after_node q) (none_after_node q))
      (always (modest_label (after_node q) (none_after_node q))
      (always (modest_bracket (λ n. bracket q n ∷ []) (λ n. refl))
      (always (opens (list (list_place q) t.start no_cell ∷ []) refl) no_rule)))

  module _ {begin : Write Opening} (b : Begins e begin) where
    -- A node that costs one term, with the bytes that it may have.
    modest_simple : {c : (Term → ℕ) → ℕ} {node : Write ℕ} → Grows e c node → c one ≤ 1 → c size ≤ iri_limit + length t.text → Modest t e 0 (simple t tied begin node)
    modest_simple g f s =
        modest (grows_bind b.grows (λ o. grows_bind g (λ n. grows_then (grows_hold o.place n t.start) (grows_return o.after))))
        (omega (arith, b.few)) (λ m. omega (arith, b.bytes, b.after m))

    modest_typed : (s d : Text) → T (listed d supplied) → length s ≤ length t.text → Modest t e 0 (simple t tied begin (typed s d))
    modest_typed s d h l = modest_simple (grows_typed s d h) (omega arith) (omega arith)

    modest_string : (x : Bool) → Modest t e 0 (string t tied begin x)
    unfolding listed same_text
    modest_string true =
        modest (grows_bind b.grows (λ o. grows_return (suffix o.place t.start (string_text t) ∷ o.after))) (omega (arith, b.few)) (λ m. omega (arith, b.bytes, b.after m, string_short t))
    modest_string false = modest_typed (string_text t) xsd_string tt (string_short t)

    modest_object : Modests t e 0 (object_rules t tied begin)
    unfolding listed same_text
    modest_object =
        for_iris (λ h. modest_simple (grows_iri t) (omega arith) (omega arith))
        (always (modest_simple (grows_term (blank (label (node_label t)))) (omega arith) (omega (arith, label_short t)))
        (always (modest_typed t.text xsd_integer tt (omega arith))
        (always (modest_typed t.text xsd_decimal tt (omega arith))
        (always (modest_typed t.text xsd_double tt (omega arith))
        (always (modest_typed t.text xsd_boolean tt (omega arith))
        (always (modest_string tied)
        (always (modest (grows_bind b.grows (λ o. grows_bind (grows_new (blank (bracket_node t.start))) (λ n. grows_then (grows_hold o.place n t.start) (grows_return (bracket o.place n ∷ o.after)))))
        (omega (arith, b.few)) (λ m. omega (arith, b.bytes, b.after m)))
        (always (modest (grows_bind b.grows (λ o. grows_return (list o.place t.start no_cell ∷ o.after))) (omega (arith, b.few)) (λ m. omega (arith, b.bytes, b.after m))) no_rule))))))))

  modest_frame : (f : Frame) → Modests t e (waiting_in f) (frame_rules t tied f)
  modest_frame graph_label =
      for_iris (modest_iri (λ g. graph_body g ∷ []) (λ g. refl))
      (always (modest_label (λ g. graph_body g ∷ []) (λ g. refl))
      (always (modest_bracket (λ g. closing_label g ∷ []) (λ g. refl)) no_rule))
  modest_frame (closing_label g) = always (opens (graph_body g ∷ []) refl) no_rule
  modest_frame (graph_body g) = always (enters g (triples_or_end ∷ []) refl) no_rule
  modest_frame (label_or_subject n) = always (enters n (triples_or_end ∷ []) refl) (modest_verb (λ p. object n p full_stop ∷ []) (λ p. refl))
  modest_frame triples_or_end = always (enters 0 [] refl) (modest_subject (subject_before brace))
  modest_frame (verb s x) = modest_verb (λ p. object s p x ∷ []) (λ p. refl)
  modest_frame (verb_or_end s x) = modests_append (modest_verb (λ p. object s p x ∷ []) (λ p. refl)) (modest_end x)
  modest_frame (object s p x) =
      modest_object
      (record { cost = λ v. 0; grows = grows_return (record { place = object_of s p; after = after_object s p x ∷ [] }); few = omega arith; bytes = refl; after = λ m. refl })
  modest_frame (after_object s p x) = always (opens (object s p x ∷ []) refl) (always (opens (after_semicolon s x ∷ []) refl) (modest_end x))
  modest_frame (after_semicolon s x) = always (opens (after_semicolon s x ∷ []) refl) (modests_append (modest_verb (λ p. object s p x ∷ []) (λ p. refl)) (modest_end x))
  modest_frame (bracket q n) =
      always (opens (after_node q n) (none_after_node q n))
      (modest_verb (λ p. object n p bracket_end ∷ after_properties q n) (λ p. omega (arith, none_after_properties q n)))
  modest_frame (list q opened cs) =
      always (modest (grows_bind (grows_end_list q opened cs t.start) (λ n. grows_return (after_node q n))) (omega arith) (λ m. omega (arith, none_after_node q (end_list q opened cs t.start m).0)))
      (modest_object
      (record {
        cost = λ v. v (blank (cell t.start)) + 0;
        grows = grows_bind (grows_new_cell q opened cs t.start) (λ c. grows_return (record { place = element_of c; after = list q opened (extended cs c) ∷ [] }));
        few = omega arith;
        bytes = refl;
        after = λ m. refl;
      }))
  modest_frame (suffix q at s) =
      always (modest (grows_bind (grows_term (tagged s (tag t))) (λ n. grows_then (grows_hold q n at) (grows_return []))) (omega arith) (λ m. omega (arith, tag_short t)))
      (always (modest (grows_return (datatype q at s ∷ [])) (omega arith) (λ m. omega arith)) no_rule)
  modest_frame (datatype q at s) =
      for_iris (λ h. modest (grows_bind (grows_typed_by s t) (λ n. grows_then (grows_hold q n at) (grows_return []))) (omega arith) (λ m. omega arith)) no_rule

  modest_statement : (mode : Mode) → Modests t e 0 (statement_rules t tied mode)
  modest_statement trig = always (enters 0 (triples_or_end ∷ []) refl) (always (opens (graph_label ∷ []) refl) (modest_subject top))
  modest_statement turtle = modest_subject (subject_before full_stop)

-- ---- Every rule

-- The write adds so much where q bytes waited.
pub record Light (t : Token) (q : ℕ) (m : Memory) (w : Write Open) : Type 0 where
  pub terms : weight one (w m).1.terms ≤ 2 + weight one m.terms
  pub bytes : weight size (w m).1.terms + waiting_open (w m).0 ≤ iri_limit + (length t.text + q) + weight size m.terms

module _ (t : Token) (tied : Bool) (m : Memory) where
  light_above : {q : ℕ} {v : Write (List Frame)} (K : List Frame) → Modest t m.environment q v → Light t (q + waiting K) m (v >>= λ fs. return (statement (fs ++ K)))
  light_above {v = v} K x =
      record {
        terms = omega (arith, x.grows.most one m refl, x.few);
        bytes = omega (arith, x.grows.most size m refl, x.bytes m, waiting_append (v m).0 K);
      }

  light_found : {q : ℕ} {rs : List (Rule (List Frame))} (K : List Frame) → Modests t m.environment q rs → (w : Write Open) → find_rule t.kind (above t tied K rs) ≡ some w → Light t (q + waiting K) m w
  light_found K no_rule w x = not_none x
  light_found {q} K (rule {ks = ks} f r) w x =
      first_or_later (among ks t.kind) x (λ p y. subst (λ u. Light t (q + waiting K) m u) y (light_above K (f p))) (λ z. light_found K r w z)

  -- A rule that writes no term and after which nothing waits.
  light_still : {q : ℕ} {v w : Write Open} → (v m).1.terms ≡ m.terms → waiting_open (v m).0 ≡ 0 → v ≡ w → Light t q m w
  light_still {q} {v} x y z =
      subst (λ u. Light t q m u) z (record { terms = (let h = ap (weight one) x in omega arith); bytes = (let h = ap (weight size) x in omega arith) })

  light_directive : (d : Directive) (w : Write Open) → find_rule t.kind (directive_rules t tied d) ≡ some w → Light t 0 m w
  light_directive (prefix_name b) w x = first_or_later (among (PNAME_NS ∷ []) t.kind) x (λ k y. light_still refl refl y) (λ z. not_none z)
  light_directive (namespace_of p true) w x = first_or_later (among (IRIREF ∷ []) t.kind) x (λ k y. light_still refl refl y) (λ z. not_none z)
  light_directive (namespace_of p false) w x = first_or_later (among (IRIREF ∷ []) t.kind) x (λ k y. light_still refl refl y) (λ z. not_none z)
  light_directive (new_base true) w x = first_or_later (among (IRIREF ∷ []) t.kind) x (λ k y. light_still refl refl y) (λ z. not_none z)
  light_directive (new_base false) w x = first_or_later (among (IRIREF ∷ []) t.kind) x (λ k y. light_still refl refl y) (λ z. not_none z)
  light_directive last_dot w x = first_or_later (among (dot ∷ []) t.kind) x (λ k y. light_still refl refl y) (λ z. not_none z)

  -- Where a statement's IRI is not too long, every rule is light.
  pub light_rule : (mode : Mode) (o : Open) (w : Write Open) → find_rule t.kind (rules t tied mode o) ≡ some w
      → (awaited_by o ≡ nothing → among iris t.kind ≡ true → length (iri_of m.environment t) ≤ iri_limit) → Light t (waiting_open o) m w
  unfolding rules
  light_rule mode (directive d) w x short = light_directive d w x
  light_rule mode (statement (f ∷ K)) w x short = light_found K (modest_frame t tied m.environment (short refl) f) w x
  light_rule mode (statement []) w x short =
      first_or_later (among (at_prefix ∷ []) t.kind) x (λ k y. light_still refl refl y)
      (λ x₁.
      first_or_later (among (PREFIX ∷ []) t.kind) x₁ (λ k y. light_still refl refl y)
      (λ x₂.
      first_or_later (among (at_base ∷ []) t.kind) x₂ (λ k y. light_still refl refl y)
      (λ x₃.
      first_or_later (among (BASE ∷ []) t.kind) x₃ (λ k y. light_still refl refl y)
      (λ x₄. light_found [] (modest_statement t tied m.environment (short refl) mode) w x₄))))

-- ---- Weights and counts

count_total : (ts : List Term) → length ts ≡ total one ts
unfolding total
count_total [] = refl
count_total (t ∷ ts) = let h = count_total ts in omega arith

size_total : (ts : List Term) → store_size ts ≡ total size ts
unfolding total store_size
size_total [] = refl
size_total (t ∷ ts) = let h = size_total ts in omega (arith, length-append (text_of t) (tag_of t))

pub count_weight : (ts : List Term) → length ts ≤ weight one ts
unfolding weight
count_weight ts = omega (arith, count_total ts)

pub size_weight : (ts : List Term) → store_size ts ≤ weight size ts
unfolding weight
size_weight ts = omega (arith, size_total ts)

-- Before anything is written the nine IRIs are owed.
pub first_count : weight one [] ≡ 9
unfolding weight total owed owed_one number number_from
first_count = refl

pub first_size : weight size [] ≡ 386
unfolding weight total owed owed_one number number_from
first_size = refl

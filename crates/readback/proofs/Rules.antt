-- Every rule keeps the tables such as the writer takes: one law over all of them.
use mathlib.Core.Path.{◌≡◌, refl, subst}
use mathlib.Core.Logic.{inl, inr}
use mathlib.Core.Bool.{Bool, true, false, ◌&&◌}
use mathlib.Core.List.{List, [], ◌∷◌, ◌++◌}
use mathlib.Core.Option.{none, some}
use Prim.Native.Nat.{ℕ}
use lib.Dec.{T, leb, leb→le}
use lib.ListN.{length}
use Rattle.text.specs.Text.{Text, is_none}
use Rattle.text.proofs.Booleans.{and_0, and_1, is_true}
use Rattle.limits.specs.Limits.{iri_limit}
use Rattle.utf8.specs.Utf8.{first_bad}
use Rattle.token.specs.Kind.{Kind, among, iris, strings, LANGTAG, BLANK_NODE_LABEL}
use Rattle.token.specs.Tokens.{Token}
use Rattle.iri.specs.Iri.{has_scheme}
use Rattle.grammar.specs.Productions.{Mode, trig, turtle}
use Rattle.environment.specs.Environment.{Environment}
use Rattle.dataset.specs.Terms.{label, bracket as bracket_node, cell, Term, iri, blank, tagged, rdf_type, rdf_first, rdf_rest, rdf_nil, xsd_string, xsd_integer, xsd_decimal, xsd_double, xsd_boolean}
use Rattle.dataset.specs.Constructors.{string_text, tag, node_label, iri_of}
use Rattle.table.specs.Usable.{is_tag, for_long_form}
use Rattle.table.specs.LongForm.{computing}
use Rattle.table.proofs.Numbers.{not_none}
use Rattle.machine.specs.Memory.{Write, return, ◌>>=◌, ◌>>◌, done, term, new_term, enter}
use Rattle.machine.specs.Frame.{Ending, full_stop, brace, bracket_end, Place, top, subject_before, object_of, element_of, Cells, no_cell, cells, Frame, graph_label, closing_label, graph_body, label_or_subject, triples_or_end, verb, verb_or_end, object, after_object, after_semicolon, bracket, list, suffix, datatype, Open, directive, statement}
use Rattle.machine.specs.Rules.{Rule, ◌⇒◌, find_rule, hold, new_cell, extended, end_list, after_node, after_properties, list_place, Opening, end_rules, verb_rules, subject_rules, simple, string, object_rules, frame_rules, above, statement_rules}
use Rattle.machine.proofs.Made.{first_or_later}
use Rattle.readback.proofs.Forms.{GoodIri}
use Rattle.readback.proofs.Tables.{none_bad}
use Rattle.readback.proofs.Kept.{More, more_both, Has, any, is_iri, is_resource, has_more, has_any, has_resource, has_found, GraphFine, Safe, Nothing, safe_return, safe_bind, safe_then, safe_as, safe_new, safe_term, safe_row, safe_enter, safe_iri, safe_typed, safe_iri_term, safe_typed_by}

-- ---- The parts of rules

-- The names that the language supplies are such IRIs: one computed test.
abbrev supplied : Text → Bool
supplied s = has_scheme s && leb (length s) iri_limit && is_none (first_bad s)

supplied_good : (s : Text) → T (supplied s) → GoodIri for_long_form s
supplied_good s h =
    let a = and_0 (has_scheme s && leb (length s) iri_limit) (is_none (first_bad s)) h in
    record {
      taken = is_true (has_scheme s) (and_0 (has_scheme s) (leb (length s) iri_limit) a);
      short = leb→le (length s) iri_limit (and_1 (has_scheme s) (leb (length s) iri_limit) a);
      utf8 = none_bad (first_bad s) (is_true (is_none (first_bad s)) (and_1 (has_scheme s && leb (length s) iri_limit) (is_none (first_bad s)) h));
    }

type_good : GoodIri for_long_form rdf_type
unfolding computing
type_good = supplied_good rdf_type tt

first_good : GoodIri for_long_form rdf_first
unfolding computing
first_good = supplied_good rdf_first tt

rest_good : GoodIri for_long_form rdf_rest
unfolding computing
rest_good = supplied_good rdf_rest tt

nil_good : GoodIri for_long_form rdf_nil
unfolding computing
nil_good = supplied_good rdf_nil tt

string_good : GoodIri for_long_form xsd_string
unfolding computing
string_good = supplied_good xsd_string tt

integer_good : GoodIri for_long_form xsd_integer
unfolding computing
integer_good = supplied_good xsd_integer tt

decimal_good : GoodIri for_long_form xsd_decimal
unfolding computing
decimal_good = supplied_good xsd_decimal tt

double_good : GoodIri for_long_form xsd_double
unfolding computing
double_good = supplied_good xsd_double tt

boolean_good : GoodIri for_long_form xsd_boolean
unfolding computing
boolean_good = supplied_good xsd_boolean tt

-- What places and lists name.
abbrev pub PlaceFine : List Term → Place → Type 0
PlaceFine ts top = Unit {0}
PlaceFine ts (subject_before e) = Unit {0}
PlaceFine ts (object_of s p) = Has is_resource ts s × Has is_iri ts p
PlaceFine ts (element_of c) = Has is_resource ts c

place_more : {ts us : List Term} (q : Place) → More ts us → PlaceFine ts q → PlaceFine us q
place_more top o h = tt
place_more (subject_before e) o h = tt
place_more (object_of s p) o h = (has_more o h.0, has_more o h.1)
place_more (element_of c) o h = has_more o h

abbrev pub CellsFine : List Term → Cells → Type 0
CellsFine ts no_cell = Unit {0}
CellsFine ts (cells h l) = Has is_resource ts h × Has is_resource ts l

cells_more : {ts us : List Term} (c : Cells) → More ts us → CellsFine ts c → CellsFine us c
cells_more no_cell o h = tt
cells_more (cells a b) o h = (has_more o h.0, has_more o h.1)

cells_extended : {ts : List Term} {n : ℕ} (c : Cells) → CellsFine ts c → Has is_resource ts n → CellsFine ts (extended c n)
cells_extended no_cell h r = (r, r)
cells_extended (cells a b) h r = (h.0, r)

module _ {e : Environment} where
  -- A new blank node without a label.
  safe_bracket : {ts : List Term} (at : ℕ) → Safe for_long_form e ts (Has is_resource) (new_term (blank (bracket_node at)))
  unfolding computing
  safe_bracket at = safe_as (safe_new (blank (bracket_node at)) (λ us o. refl)) (λ us n o k. record { it = blank (bracket_node at); known = k; passes = tt })

  safe_cell : {ts : List Term} (at : ℕ) → Safe for_long_form e ts (Has is_resource) (new_term (blank (cell at)))
  unfolding computing
  safe_cell at = safe_as (safe_new (blank (cell at)) (λ us o. refl)) (λ us n o k. record { it = blank (cell at); known = k; passes = tt })

  safe_label : {ts : List Term} (s : Text) → first_bad s ≡ none → Safe for_long_form e ts (Has is_resource) (term (blank (label s)))
  safe_label s u = safe_as (safe_term (blank (label s)) (λ us o. u)) (λ us n o q. has_found (blank (label s)) tt q)

  safe_hold : {ts : List Term} (q : Place) (n at : ℕ) → PlaceFine ts q → Has any ts n → Safe for_long_form e ts Nothing (hold q n at)
  safe_hold top n at h k = safe_return done (λ us o. tt)
  safe_hold (subject_before x) n at h k = safe_return done (λ us o. tt)
  safe_hold (object_of s p) n at h k = safe_row s p n at h.0 h.1 k
  safe_hold (element_of c) n at h k = safe_bind (safe_iri rdf_first first_good) (λ us f o g. safe_row c f n at (has_more o h) g (has_more o k))

  safe_new_cell : {ts : List Term} (q : Place) (opened : ℕ) (cs : Cells) (at : ℕ) → PlaceFine ts q → CellsFine ts cs → Safe for_long_form e ts (Has is_resource) (new_cell q opened cs at)
  safe_new_cell q opened no_cell at h k =
      safe_bind (safe_cell at) (λ us c o r. safe_then (safe_hold q c opened (place_more q o h) (has_any r)) (λ vs p. safe_return c (λ ws x. has_more (more_both p x) r)))
  safe_new_cell q opened (cells a b) at h k =
      safe_bind (safe_cell at)
      (λ us c o r.
      safe_bind (safe_iri rdf_rest rest_good)
      (λ vs n p g.
      safe_then (safe_row b n c at (has_more (more_both o p) k.1) g (has_any (has_more p r))) (λ ws x. safe_return c (λ xs y. has_more (more_both p (more_both x y)) r))))

  safe_end_list : {ts : List Term} (q : Place) (opened : ℕ) (cs : Cells) (at : ℕ) → PlaceFine ts q → CellsFine ts cs → Safe for_long_form e ts (Has is_resource) (end_list q opened cs at)
  safe_end_list q opened no_cell at h k =
      safe_bind (safe_iri rdf_nil nil_good)
      (λ us n o g. safe_then (safe_hold q n opened (place_more q o h) (has_any g)) (λ vs p. safe_return n (λ ws x. has_more (more_both p x) (has_resource g))))
  safe_end_list q opened (cells a b) at h k =
      safe_bind (safe_iri rdf_rest rest_good)
      (λ us r o g.
      safe_bind (safe_iri rdf_nil nil_good)
      (λ vs n p f.
      safe_then (safe_row b r n at (has_more (more_both o p) k.1) (has_more p g) (has_any f))
      (λ ws x. safe_return a (λ xs y. has_more (more_both o (more_both p (more_both x y))) k.0))))

-- ---- Frames

abbrev pub FrameFine : List Term → Frame → Type 0
FrameFine ts graph_label = Unit {0}
FrameFine ts (closing_label g) = Has is_resource ts g
FrameFine ts (graph_body g) = Has is_resource ts g
FrameFine ts (label_or_subject n) = Has is_resource ts n
FrameFine ts triples_or_end = Unit {0}
FrameFine ts (verb s x) = Has is_resource ts s
FrameFine ts (verb_or_end s x) = Has is_resource ts s
FrameFine ts (object s p x) = Has is_resource ts s × Has is_iri ts p
FrameFine ts (after_object s p x) = Has is_resource ts s × Has is_iri ts p
FrameFine ts (after_semicolon s x) = Has is_resource ts s
FrameFine ts (bracket q n) = PlaceFine ts q × Has is_resource ts n
FrameFine ts (list q at cs) = PlaceFine ts q × CellsFine ts cs
FrameFine ts (suffix q at s) = PlaceFine ts q × (first_bad s ≡ none)
FrameFine ts (datatype q at s) = PlaceFine ts q × (first_bad s ≡ none)

frame_more : {ts us : List Term} (f : Frame) → More ts us → FrameFine ts f → FrameFine us f
frame_more graph_label o h = tt
frame_more (closing_label g) o h = has_more o h
frame_more (graph_body g) o h = has_more o h
frame_more (label_or_subject n) o h = has_more o h
frame_more triples_or_end o h = tt
frame_more (verb s x) o h = has_more o h
frame_more (verb_or_end s x) o h = has_more o h
frame_more (object s p x) o h = (has_more o h.0, has_more o h.1)
frame_more (after_object s p x) o h = (has_more o h.0, has_more o h.1)
frame_more (after_semicolon s x) o h = has_more o h
frame_more (bracket q n) o h = (place_more q o h.0, has_more o h.1)
frame_more (list q at cs) o h = (place_more q o h.0, cells_more cs o h.1)
frame_more (suffix q at s) o h = (place_more q o h.0, h.1)
frame_more (datatype q at s) o h = (place_more q o h.0, h.1)

abbrev pub FramesFine : List Term → List Frame → Type 0
FramesFine ts [] = Unit {0}
FramesFine ts (f ∷ fs) = FrameFine ts f × FramesFine ts fs

frames_more : {ts us : List Term} (fs : List Frame) → More ts us → FramesFine ts fs → FramesFine us fs
frames_more [] o h = tt
frames_more (f ∷ fs) o h = (frame_more f o h.0, frames_more fs o h.1)

frames_append : (ts : List Term) (fs gs : List Frame) → FramesFine ts fs → FramesFine ts gs → FramesFine ts (fs ++ gs)
frames_append ts [] gs h k = k
frames_append ts (f ∷ fs) gs h k = (h.0, frames_append ts fs gs h.1 k)

node_after : {ts : List Term} {n : ℕ} (q : Place) → Has is_resource ts n → FramesFine ts (after_node q n)
node_after top h = (h, tt)
node_after (subject_before x) h = (h, tt)
node_after (object_of s p) h = tt
node_after (element_of c) h = tt

properties_after : {ts : List Term} {n : ℕ} (q : Place) → Has is_resource ts n → FramesFine ts (after_properties q n)
properties_after top h = (h, tt)
properties_after (subject_before x) h = (h, tt)
properties_after (object_of s p) h = tt
properties_after (element_of c) h = tt

list_after : (ts : List Term) (q : Place) → PlaceFine ts q → PlaceFine ts (list_place q)
list_after ts top h = tt
list_after ts (subject_before x) h = tt
list_after ts (object_of s p) h = h
list_after ts (element_of c) h = h

abbrev OpeningFine : List Term → Opening → Type 0
OpeningFine ts o = PlaceFine ts o.place × FramesFine ts o.after

-- ---- Every rule of a statement

-- What a token says, where e is in force.
pub record Told (e : Environment) (t : Token) : Type 0 where
  pub text : first_bad t.text ≡ none
  pub iri : among iris t.kind ≡ true → GoodIri for_long_form (iri_of e t)
  pub string : among strings t.kind ≡ true → first_bad (string_text t) ≡ none
  pub label : among (BLANK_NODE_LABEL ∷ []) t.kind ≡ true → first_bad (node_label t) ≡ none
  pub tag : among (LANGTAG ∷ []) t.kind ≡ true → is_tag (tag t) ≡ true

pub data Safes (t : Token) (e : Environment) (ts : List Term) : List (Rule (List Frame)) → Type 0 where
  no_rule : Safes t e ts []
  rule : {ks : List Kind} {w : Write (List Frame)} {rs : List (Rule (List Frame))} → (among ks t.kind ≡ true → Safe for_long_form e ts FramesFine w) → Safes t e ts rs → Safes t e ts ((ks ⇒ w) ∷ rs)

safes_append : {t : Token} {e : Environment} {ts : List Term} {rs us : List (Rule (List Frame))} → Safes t e ts rs → Safes t e ts us → Safes t e ts (rs ++ us)
safes_append no_rule y = y
safes_append (rule f x) y = rule f (safes_append x y)

module _ (t : Token) (tied : Bool) (e : Environment) (ts : List Term) (told : Told e t) where
  -- What writes nothing.
  opens : {ks : List Kind} {rs : List (Rule (List Frame))} (fs : List Frame) → FramesFine ts fs → Safes t e ts rs → Safes t e ts ((ks ⇒ return fs) ∷ rs)
  opens fs h r = rule (λ k. safe_return fs (λ us o. frames_more fs o h)) r

  enters : {ks : List Kind} {rs : List (Rule (List Frame))} (g : ℕ) (fs : List Frame) → GraphFine ts g → FramesFine ts fs → Safes t e ts rs → Safes t e ts ((ks ⇒ enter g >> return fs) ∷ rs)
  enters g fs h f r = rule (λ k. safe_then (safe_enter g h) (λ us o. safe_return fs (λ vs p. frames_more fs (more_both o p) f))) r

  -- What writes one term.
  one : {p : Term → Bool} {w : Write ℕ} (after : ℕ → List Frame) → Safe for_long_form e ts (Has p) w → ((us : List Term) (n : ℕ) → More ts us → Has p us n → FramesFine us (after n))
      → Safe for_long_form e ts FramesFine (w >>= λ n. return (after n))
  one after x f = safe_bind x (λ us n o h. safe_return (after n) (λ vs p. f vs n (more_both o p) (has_more p h)))

  safe_end : (x : Ending) → Safes t e ts (end_rules t tied x)
  safe_end full_stop = opens [] tt no_rule
  safe_end brace = opens (triples_or_end ∷ []) (tt, tt) (enters 0 [] (inl refl) tt no_rule)
  safe_end bracket_end = opens [] tt no_rule

  safe_verb : (after : ℕ → List Frame) → ((us : List Term) (n : ℕ) → More ts us → Has is_iri us n → FramesFine us (after n)) → Safes t e ts (verb_rules t tied after)
  safe_verb after f = rule (λ k. one after (safe_iri_term t (told.iri k)) f) (rule (λ k. one after (safe_iri rdf_type type_good) f) no_rule)

  -- A predicate of the subject s.
  verbs : (s : ℕ) (x : Ending) → Has is_resource ts s → Safes t e ts (verb_rules t tied (λ p. object s p x ∷ []))
  verbs s x h = safe_verb (λ p. object s p x ∷ []) (λ us n o k. ((has_more o h, k), tt))

  safe_subject : (q : Place) → PlaceFine ts q → Safes t e ts (subject_rules t tied q)
  safe_subject q h =
      rule (λ k. one (after_node q) (safe_iri_term t (told.iri k)) (λ us n o r. node_after q (has_resource r)))
      (rule (λ k. one (after_node q) (safe_label (node_label t) (told.label k)) (λ us n o r. node_after q r))
      (rule (λ k. one (λ n. bracket q n ∷ []) (safe_bracket t.start) (λ us n o r. ((place_more q o h, r), tt)))
      (opens (list (list_place q) t.start no_cell ∷ []) ((list_after ts q h, tt), tt) no_rule)))

  module _ {begin : Write Opening} (b : Safe for_long_form e ts OpeningFine begin) where
    safe_simple : {node : Write ℕ} → ((us : List Term) → Safe for_long_form e us (Has any) node) → Safe for_long_form e ts FramesFine (simple t tied begin node)
    safe_simple x =
        safe_bind b
        (λ us o p h.
        safe_bind (x us)
        (λ vs n q k.
        safe_then (safe_hold o.place n t.start (place_more o.place q h.0) k)
        (λ ws r. safe_return o.after (λ xs s. frames_more o.after (more_both q (more_both r s)) h.1))))

    any_of : {p : Term → Bool} {ts : List Term} {w : Write ℕ} → Safe for_long_form e ts (Has p) w → Safe for_long_form e ts (Has any) w
    any_of x = safe_as x (λ us n o h. has_any h)

    safe_string : (x : Bool) → first_bad (string_text t) ≡ none → Safe for_long_form e ts FramesFine (string t tied begin x)
    safe_string true u =
        safe_bind b
        (λ us o p h.
        safe_return (suffix o.place t.start (string_text t) ∷ o.after) (λ vs q. ((place_more o.place q h.0, u), frames_more o.after q h.1)))
    safe_string false u = safe_simple (λ us. safe_typed (string_text t) xsd_string u string_good)

    safe_object : Safes t e ts (object_rules t tied begin)
    safe_object =
        rule (λ k. safe_simple (λ us. any_of (safe_iri_term t (told.iri k))))
        (rule (λ k. safe_simple (λ us. any_of (safe_label (node_label t) (told.label k))))
        (rule (λ k. safe_simple (λ us. safe_typed t.text xsd_integer told.text integer_good))
        (rule (λ k. safe_simple (λ us. safe_typed t.text xsd_decimal told.text decimal_good))
        (rule (λ k. safe_simple (λ us. safe_typed t.text xsd_double told.text double_good))
        (rule (λ k. safe_simple (λ us. safe_typed t.text xsd_boolean told.text boolean_good))
        (rule (λ k. safe_string tied (told.string k))
        (rule (λ k.
        safe_bind b
        (λ us o p h.
        safe_bind (safe_bracket t.start)
        (λ vs n q r.
        safe_then (safe_hold o.place n t.start (place_more o.place q h.0) (has_any r))
        (λ ws x.
        safe_return (bracket o.place n ∷ o.after)
        (λ xs y. ((place_more o.place (more_both q (more_both x y)) h.0, has_more (more_both x y) r), frames_more o.after (more_both q (more_both x y)) h.1))))))
        (rule (λ k.
        safe_bind b (λ us o p h. safe_return (list o.place t.start no_cell ∷ o.after) (λ vs q. ((place_more o.place q h.0, tt), frames_more o.after q h.1)))) no_rule))))))))

  pub safe_frame : (f : Frame) → FrameFine ts f → Safes t e ts (frame_rules t tied f)
  safe_frame graph_label h =
      rule (λ k. one (λ g. graph_body g ∷ []) (safe_iri_term t (told.iri k)) (λ us n o r. (has_resource r, tt)))
      (rule (λ k. one (λ g. graph_body g ∷ []) (safe_label (node_label t) (told.label k)) (λ us n o r. (r, tt)))
      (rule (λ k. one (λ g. closing_label g ∷ []) (safe_bracket t.start) (λ us n o r. (r, tt))) no_rule))
  safe_frame (closing_label g) h = opens (graph_body g ∷ []) (h, tt) no_rule
  safe_frame (graph_body g) h = enters g (triples_or_end ∷ []) (inr h) (tt, tt) no_rule
  safe_frame (label_or_subject n) h = enters n (triples_or_end ∷ []) (inr h) (tt, tt) (verbs n full_stop h)
  safe_frame triples_or_end h = enters 0 [] (inl refl) tt (safe_subject (subject_before brace) tt)
  safe_frame (verb s x) h = verbs s x h
  safe_frame (verb_or_end s x) h = safes_append (verbs s x h) (safe_end x)
  safe_frame (object s p x) h = safe_object (safe_return (record { place = object_of s p; after = after_object s p x ∷ [] }) (λ us o. (place_more (object_of s p) o h, (place_more (object_of s p) o h, tt))))
  safe_frame (after_object s p x) h = opens (object s p x ∷ []) (h, tt) (opens (after_semicolon s x ∷ []) (h.0, tt) (safe_end x))
  safe_frame (after_semicolon s x) h = opens (after_semicolon s x ∷ []) (h, tt) (safes_append (verbs s x h) (safe_end x))
  safe_frame (bracket q n) h =
      opens (after_node q n) (node_after q h.1)
      (safe_verb (λ p. object n p bracket_end ∷ after_properties q n) (λ us p o k. ((has_more o h.1, k), properties_after q (has_more o h.1))))
  safe_frame (list q opened cs) h =
      rule (λ k. one (after_node q) (safe_end_list q opened cs t.start h.0 h.1) (λ us n o r. node_after q r))
      (safe_object
      (safe_bind (safe_new_cell q opened cs t.start h.0 h.1)
      (λ us c o r.
      safe_return (record { place = element_of c; after = list q opened (extended cs c) ∷ [] })
      (λ vs p. (has_more p r, ((place_more q (more_both o p) h.0, cells_extended cs (cells_more cs (more_both o p) h.1) (has_more p r)), tt))))))
  safe_frame (suffix q at s) h =
      rule (λ k.
      safe_bind (safe_as (safe_term (tagged s (tag t)) (λ us o. (h.1, told.tag k))) (λ us n o r. has_found {p = any} (tagged s (tag t)) tt r))
      (λ us n o r. safe_then (safe_hold q n at (place_more q o h.0) r) (λ vs p. safe_return [] (λ ws x. tt))))
      (opens (datatype q at s ∷ []) (h, tt) no_rule)
  safe_frame (datatype q at s) h =
      rule (λ k. safe_bind (safe_typed_by s t h.1 (told.iri k)) (λ us n o r. safe_then (safe_hold q n at (place_more q o h.0) r) (λ vs p. safe_return [] (λ ws x. tt)))) no_rule

  pub safe_statement : (mode : Mode) → Safes t e ts (statement_rules t tied mode)
  safe_statement trig = enters 0 (triples_or_end ∷ []) (inl refl) (tt, tt) (opens (graph_label ∷ []) (tt, tt) (safe_subject top tt))
  safe_statement turtle = safe_subject (subject_before full_stop) tt

-- ---- The rule that is found for a kind

abbrev pub OpenFine : List Term → Open → Type 0
OpenFine ts (directive d) = Unit {0}
OpenFine ts (statement fs) = FramesFine ts fs

pub found_safe : (t : Token) (tied : Bool) {e : Environment} {ts : List Term} {rs : List (Rule (List Frame))} (K : List Frame) → FramesFine ts K → Safes t e ts rs → (w : Write Open)
    → find_rule t.kind (above t tied K rs) ≡ some w → Safe for_long_form e ts OpenFine w
found_safe t tied K h no_rule w x = not_none x
found_safe t tied {e} {ts} K h (rule {ks = ks} f r) w x =
    first_or_later (among ks t.kind) x
    (λ p y.
    subst (λ u. Safe for_long_form e ts OpenFine u) y
    (safe_bind (f p) (λ us fs o k. safe_return (statement (fs ++ K)) (λ vs q. frames_append vs fs K (frames_more fs q k) (frames_more K (more_both o q) h)))))
    (λ z. found_safe t tied K h r w z)

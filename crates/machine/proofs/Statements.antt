-- Statements, graphs, directives and documents: the machine writes what the construction says.
use mathlib.Core.Path.{◌≡◌, refl, sym, ap, ◌∙◌}
use mathlib.Core.List.{List, [], ◌∷◌, ◌++◌, append_assoc}
use mathlib.Core.Logic.{inr}
use mathlib.Core.Bool.{true, false}
use mathlib.Core.Option.{Option, none, some}
use Prim.Native.Nat.{ℕ}
use Rattle.token.specs.Kind.{Kind, at_prefix, at_base, PREFIX, BASE, GRAPH, dot, open_brace, close_brace, close_bracket, IRIREF, PNAME_NS}
use Rattle.grammar.specs.Productions.{Mode, trig, turtle}
use Rattle.token.specs.Tokens.{Token}
use Rattle.machine.specs.Memory.{Memory, Write, Done, enter, ◌>>=◌, ◌>>◌}
use Rattle.dataset.specs.Constructors.{prefix}
use Rattle.machine.specs.Frame.{Ending, full_stop, brace, bracket_end, top, subject_before, Frame, graph_body, label_or_subject, triples_or_end, verb, verb_or_end, Open, directive, statement, prefix_name, namespace_of, new_base, last_dot}
use Rattle.machine.specs.Rules.{rules}
use Rattle.machine.specs.Construction.{Node, alone, triples_of, or_nothing, graph_of, prefix_of, base_of}
use Rattle.machine.proofs.Decide.{ties, tied_kinds}
use Rattle.grammar.proofs.Grammar.{kinds_of}
use Rattle.machine.proofs.Agreement.{final, taken, first}
use Rattle.machine.proofs.Nested.{Closes, dot_ends, dot_in_braces, brace_ends, bracket_ends, at_verb, at_verb_or_end, at_label, WritesProperties}
use Rattle.machine.proofs.Subjects.{SubjectAt, in_braces, outside_trig, outside_turtle, HeadBy, BracketBy, ListBy, LabelBy}

-- Where a graph's braces are awaited: the graph's label, and what is open below.
pub data GraphAt : Mode → Open → ℕ → List Frame → Type 0 where
  body : {mode : Mode} {g : ℕ} {K : List Frame} → GraphAt mode (statement (graph_body g ∷ K)) g K
  behind_label : {mode : Mode} {g : ℕ} {K : List Frame} → GraphAt mode (statement (label_or_subject g ∷ K)) g K
  default : GraphAt trig (statement []) 0 []

open_read : (mode : Mode) (o : Open) (g : ℕ) (K : List Frame) → GraphAt mode o g K → (t : Token) → t.kind ≡ open_brace → (m : Memory) (us : List Token) → final mode (t ∷ us) o m ≡ final mode us (statement (triples_or_end ∷ K)) (enter g m).1
unfolding taken rules
open_read mode o g K body t p m us = first mode t open_brace us (tied_kinds (kinds_of us)) (statement (graph_body g ∷ K)) m p refl
open_read mode o g K behind_label t p m us = first mode t open_brace us (tied_kinds (kinds_of us)) (statement (label_or_subject g ∷ K)) m p refl
open_read mode o g K default t p m us = first trig t open_brace us (tied_kinds (kinds_of us)) (statement []) m p refl

module _ (mode : Mode) where
  abbrev pub SubjectBy : List Token → Node → Type 0
  SubjectBy ts x =
      (o : Open) (e : Ending) (K : List Frame) → SubjectAt mode o (subject_before e) K → (m : Memory) (us : List Token)
      → final mode (ts ++ us) o m ≡ final mode us (statement (verb (alone x m).0 e ∷ K)) (alone x m).1

  abbrev pub TriplesBy : List Token → Write Done → Type 0
  TriplesBy ts w =
      (o : Open) (e : Ending) (K : List Frame) → SubjectAt mode o (subject_before e) K → (k : Kind) → Closes e k → (u : Token) → u.kind ≡ k → (m : Memory) (us : List Token)
      → final mode (ts ++ (u ∷ us)) o m ≡ final mode (u ∷ us) (statement (verb_or_end 0 e ∷ K)) (w m).1

  abbrev pub BlockBy : List Token → Write Done → Type 0
  BlockBy ts w =
      (K : List Frame) (u : Token) → u.kind ≡ close_brace → (m : Memory) (us : List Token)
      → final mode (ts ++ (u ∷ us)) (statement (triples_or_end ∷ K)) m ≡ final mode (u ∷ us) (statement (triples_or_end ∷ K)) (w m).1

  abbrev pub GraphBy : List Token → (ℕ → Write Done) → Type 0
  GraphBy ts f =
      (o : Open) (g : ℕ) (K : List Frame) → GraphAt mode o g K → (m : Memory) (us : List Token)
      → final mode (ts ++ us) o m ≡ final mode us (statement K) (f g m).1

  abbrev pub StatementBy : List Token → Write Done → Type 0
  StatementBy ts w = (m : Memory) (us : List Token) → final mode (ts ++ us) (statement []) m ≡ final mode us (statement []) (w m).1

  abbrev pub DocumentBy : List Token → Write Done → Type 0
  DocumentBy ts w = (m : Memory) → final mode ts (statement []) m ≡ some (w m).1

  -- ---- Ends

  close_any : {e : Ending} {k : Kind} → Closes e k → (s : ℕ) (u : Token) → u.kind ≡ k → (K : List Frame) (m : Memory) (us : List Token)
      → final mode (u ∷ us) (statement (verb_or_end s e ∷ K)) m ≡ final mode (u ∷ us) (statement (verb_or_end 0 e ∷ K)) m
  unfolding taken rules
  close_any dot_ends s u q K m us = first mode u dot us (tied_kinds (kinds_of us)) (statement (verb_or_end s full_stop ∷ K)) m q refl ∙ sym (first mode u dot us (tied_kinds (kinds_of us)) (statement (verb_or_end 0 full_stop ∷ K)) m q refl)
  close_any dot_in_braces s u q K m us = first mode u dot us (tied_kinds (kinds_of us)) (statement (verb_or_end s brace ∷ K)) m q refl ∙ sym (first mode u dot us (tied_kinds (kinds_of us)) (statement (verb_or_end 0 brace ∷ K)) m q refl)
  close_any brace_ends s u q K m us = first mode u close_brace us (tied_kinds (kinds_of us)) (statement (verb_or_end s brace ∷ K)) m q refl ∙ sym (first mode u close_brace us (tied_kinds (kinds_of us)) (statement (verb_or_end 0 brace ∷ K)) m q refl)
  close_any bracket_ends s u q K m us = first mode u close_bracket us (tied_kinds (kinds_of us)) (statement (verb_or_end s bracket_end ∷ K)) m q refl ∙ sym (first mode u close_bracket us (tied_kinds (kinds_of us)) (statement (verb_or_end 0 bracket_end ∷ K)) m q refl)

  dot_read : (s : ℕ) (u : Token) → u.kind ≡ dot → (K : List Frame) (m : Memory) (us : List Token) → final mode (u ∷ us) (statement (verb_or_end s full_stop ∷ K)) m ≡ final mode us (statement K) m
  unfolding taken rules
  dot_read s u q K m us = first mode u dot us (tied_kinds (kinds_of us)) (statement (verb_or_end s full_stop ∷ K)) m q refl

  dot_in : (s : ℕ) (u : Token) → u.kind ≡ dot → (K : List Frame) (m : Memory) (us : List Token) → final mode (u ∷ us) (statement (verb_or_end s brace ∷ K)) m ≡ final mode us (statement (triples_or_end ∷ K)) m
  unfolding taken rules
  dot_in s u q K m us = first mode u dot us (tied_kinds (kinds_of us)) (statement (verb_or_end s brace ∷ K)) m q refl

  brace_same : (s : ℕ) (u : Token) → u.kind ≡ close_brace → (K : List Frame) (m : Memory) (us : List Token) → final mode (u ∷ us) (statement (verb_or_end s brace ∷ K)) m ≡ final mode (u ∷ us) (statement (triples_or_end ∷ K)) m
  unfolding taken rules
  brace_same s u q K m us =
      first mode u close_brace us (tied_kinds (kinds_of us)) (statement (verb_or_end s brace ∷ K)) m q refl
      ∙ sym (first mode u close_brace us (tied_kinds (kinds_of us)) (statement (triples_or_end ∷ K)) m q refl)

  brace_read : (u : Token) → u.kind ≡ close_brace → (K : List Frame) (m : Memory) (us : List Token) → final mode (u ∷ us) (statement (triples_or_end ∷ K)) m ≡ final mode us (statement K) (enter 0 m).1
  unfolding taken rules
  brace_read u q K m us = first mode u close_brace us (tied_kinds (kinds_of us)) (statement (triples_or_end ∷ K)) m q refl

  -- ---- Triples

  pub triples_plain : (ts vs : List Token) (x : Node) (f : ℕ → Write Done) → SubjectBy ts x → WritesProperties mode vs f → TriplesBy (ts ++ vs) (alone x >>= f)
  triples_plain ts vs x f h g o e K a k z u q m us =
      let s = (alone x m).0 in
      ap (λ l. final mode l o m) (append_assoc ts vs (u ∷ us))
      ∙ h o e K a m (vs ++ (u ∷ us))
      ∙ g (verb s e) s e [] k at_verb z u q K (alone x m).1 us
      ∙ close_any z s u q K (f s (alone x m).1).1 us

  pub triples_bracket : (ts : List Token) (x : Node) → BracketBy mode ts x → TriplesBy ts (triples_of (inr (x, none)))
  triples_bracket ts x h o e K a k z u q m us = h o (subject_before e) K a m (u ∷ us) ∙ close_any z (alone x m).0 u q K (alone x m).1 us

  pub triples_more : (ts vs : List Token) (x : Node) (f : ℕ → Write Done) → BracketBy mode ts x → WritesProperties mode vs f → TriplesBy (ts ++ vs) (alone x >>= f)
  triples_more ts vs x f h g o e K a k z u q m us =
      let s = (alone x m).0 in
      ap (λ l. final mode l o m) (append_assoc ts vs (u ∷ us))
      ∙ h o (subject_before e) K a m (vs ++ (u ∷ us))
      ∙ g (verb_or_end s e) s e [] k at_verb_or_end z u q K (alone x m).1 us
      ∙ close_any z s u q K (f s (alone x m).1).1 us

  -- ---- Graphs

  pub block_one : (ts : List Token) (w : Write Done) → TriplesBy ts w → BlockBy ts w
  block_one ts w h K u q m us =
      h (statement (triples_or_end ∷ K)) brace K in_braces close_brace brace_ends u q m us ∙ brace_same 0 u q K (w m).1 us

  pub block_dot : (ts : List Token) (d : Token) (w : Write Done) → d.kind ≡ dot → TriplesBy ts w → BlockBy (ts ++ d ∷ []) w
  block_dot ts d w p h K u q m us =
      ap (λ l. final mode l (statement (triples_or_end ∷ K)) m) (append_assoc ts (d ∷ []) (u ∷ us))
      ∙ h (statement (triples_or_end ∷ K)) brace K in_braces dot dot_in_braces d p m (u ∷ us) ∙ dot_in 0 d p K (w m).1 (u ∷ us)

  pub block_more : (ts vs : List Token) (d : Token) (w v : Write Done) → d.kind ≡ dot → TriplesBy ts w → BlockBy vs v → BlockBy (ts ++ (d ∷ vs)) (w >> v)
  block_more ts vs d w v p h g K u q m us =
      ap (λ l. final mode l (statement (triples_or_end ∷ K)) m) (append_assoc ts (d ∷ vs) (u ∷ us))
      ∙ h (statement (triples_or_end ∷ K)) brace K in_braces dot dot_in_braces d p m (vs ++ (u ∷ us)) ∙ dot_in 0 d p K (w m).1 (vs ++ (u ∷ us))
      ∙ g K u q (w m).1 us

  -- The triples in the braces, or none.
  pub graph_writes : (ts : List Token) (t u : Token) (w : Option (Write Done)) → t.kind ≡ open_brace → u.kind ≡ close_brace → BlockBy ts (or_nothing w) → GraphBy (t ∷ (ts ++ u ∷ [])) (graph_of (t, (w, u)))
  graph_writes ts t u w p q h o g K a m us =
      ap (λ l. final mode (t ∷ l) o m) (append_assoc ts (u ∷ []) us)
      ∙ open_read mode o g K a t p m (ts ++ (u ∷ us)) ∙ h K u q (enter g m).1 us ∙ brace_read u q K (or_nothing w (enter g m).1).1 us

  pub block_none : BlockBy [] (or_nothing none)
  block_none K u q m us = refl

  -- ---- Directives

  pub prefix_writes : (t p i d : Token) → t.kind ≡ at_prefix → p.kind ≡ PNAME_NS → i.kind ≡ IRIREF → d.kind ≡ dot → StatementBy (t ∷ p ∷ i ∷ d ∷ []) (prefix_of p i)
  unfolding taken rules
  prefix_writes t p i d a b c e m us =
      first mode t at_prefix (p ∷ i ∷ d ∷ us) (ties p.kind) (statement []) m a refl
      ∙ first mode p PNAME_NS (i ∷ d ∷ us) (ties i.kind) (directive (prefix_name true)) m b refl
      ∙ first mode i IRIREF (d ∷ us) (ties d.kind) (directive (namespace_of (prefix p) true)) m c refl
      ∙ first mode d dot us (tied_kinds (kinds_of us)) (directive last_dot) (prefix_of p i m).1 e refl

  pub sparql_prefix_writes : (t p i : Token) → t.kind ≡ PREFIX → p.kind ≡ PNAME_NS → i.kind ≡ IRIREF → StatementBy (t ∷ p ∷ i ∷ []) (prefix_of p i)
  unfolding taken rules
  sparql_prefix_writes t p i a b c m us =
      first mode t PREFIX (p ∷ i ∷ us) (ties p.kind) (statement []) m a refl
      ∙ first mode p PNAME_NS (i ∷ us) (ties i.kind) (directive (prefix_name false)) m b refl
      ∙ first mode i IRIREF us (tied_kinds (kinds_of us)) (directive (namespace_of (prefix p) false)) m c refl

  pub base_writes : (t i d : Token) → t.kind ≡ at_base → i.kind ≡ IRIREF → d.kind ≡ dot → StatementBy (t ∷ i ∷ d ∷ []) (base_of i)
  unfolding taken rules
  base_writes t i d a c e m us =
      first mode t at_base (i ∷ d ∷ us) (ties i.kind) (statement []) m a refl
      ∙ first mode i IRIREF (d ∷ us) (ties d.kind) (directive (new_base true)) m c refl
      ∙ first mode d dot us (tied_kinds (kinds_of us)) (directive last_dot) (base_of i m).1 e refl

  pub sparql_base_writes : (t i : Token) → t.kind ≡ BASE → i.kind ≡ IRIREF → StatementBy (t ∷ i ∷ []) (base_of i)
  unfolding taken rules
  sparql_base_writes t i a c m us =
      first mode t BASE (i ∷ us) (ties i.kind) (statement []) m a refl
      ∙ first mode i IRIREF us (tied_kinds (kinds_of us)) (directive (new_base false)) m c refl

-- ---- Statements of TriG outside braces, and of Turtle

pub label_graph : (ts vs : List Token) (x : Node) (f : ℕ → Write Done) → HeadBy trig ts x → GraphBy trig vs f → StatementBy trig (ts ++ vs) (alone x >>= f)
label_graph ts vs x f h g m us =
    ap (λ l. final trig l (statement []) m) (append_assoc ts vs us)
    ∙ h (statement []) top [] outside_trig m (vs ++ us)
    ∙ g (statement (label_or_subject (alone x m).0 ∷ [])) (alone x m).0 [] behind_label (alone x m).1 us

pub label_triples : (ts vs : List Token) (d : Token) (x : Node) (f : ℕ → Write Done) → HeadBy trig ts x → WritesProperties trig vs f → d.kind ≡ dot → StatementBy trig (ts ++ (vs ++ d ∷ [])) (alone x >>= f)
label_triples ts vs d x f h g p m us =
    let s = (alone x m).0 in
    ap (λ l. final trig l (statement []) m) (append_assoc ts (vs ++ d ∷ []) us ∙ ap (λ l. ts ++ l) (append_assoc vs (d ∷ []) us))
    ∙ h (statement []) top [] outside_trig m (vs ++ (d ∷ us))
    ∙ g (label_or_subject s) s full_stop [] dot at_label dot_ends d p [] (alone x m).1 us
    ∙ dot_read trig s d p [] (f s (alone x m).1).1 us

pub list_triples : (ts vs : List Token) (d : Token) (x : Node) (f : ℕ → Write Done) → ListBy trig ts x → WritesProperties trig vs f → d.kind ≡ dot → StatementBy trig (ts ++ (vs ++ d ∷ [])) (alone x >>= f)
list_triples ts vs d x f h g p m us =
    let s = (alone x m).0 in
    ap (λ l. final trig l (statement []) m) (append_assoc ts (vs ++ d ∷ []) us ∙ ap (λ l. ts ++ l) (append_assoc vs (d ∷ []) us))
    ∙ h (statement []) top [] outside_trig m (vs ++ (d ∷ us))
    ∙ g (verb s full_stop) s full_stop [] dot at_verb dot_ends d p [] (alone x m).1 us
    ∙ dot_read trig s d p [] (f s (alone x m).1).1 us

pub bracket_alone : (ts : List Token) (d : Token) (x : Node) → BracketBy trig ts x → d.kind ≡ dot → StatementBy trig (ts ++ d ∷ []) (triples_of (inr (x, none)))
bracket_alone ts d x h p m us =
    ap (λ l. final trig l (statement []) m) (append_assoc ts (d ∷ []) us)
    ∙ h (statement []) top [] outside_trig m (d ∷ us) ∙ dot_read trig (alone x m).0 d p [] (alone x m).1 us

pub bracket_triples : (ts vs : List Token) (d : Token) (x : Node) (f : ℕ → Write Done) → BracketBy trig ts x → WritesProperties trig vs f → d.kind ≡ dot → StatementBy trig (ts ++ (vs ++ d ∷ [])) (alone x >>= f)
bracket_triples ts vs d x f h g p m us =
    let s = (alone x m).0 in
    ap (λ l. final trig l (statement []) m) (append_assoc ts (vs ++ d ∷ []) us ∙ ap (λ l. ts ++ l) (append_assoc vs (d ∷ []) us))
    ∙ h (statement []) top [] outside_trig m (vs ++ (d ∷ us))
    ∙ g (verb_or_end s full_stop) s full_stop [] dot at_verb_or_end dot_ends d p [] (alone x m).1 us
    ∙ dot_read trig s d p [] (f s (alone x m).1).1 us

pub named_graph : (ts vs : List Token) (t : Token) (x : Node) (f : ℕ → Write Done) → t.kind ≡ GRAPH → LabelBy trig ts x → GraphBy trig vs f → StatementBy trig (t ∷ (ts ++ vs)) (alone x >>= f)
unfolding taken rules
named_graph ts vs t x f p h g m us =
    ap (λ l. final trig (t ∷ l) (statement []) m) (append_assoc ts vs us)
    ∙ first trig t GRAPH (ts ++ (vs ++ us)) (tied_kinds (kinds_of (ts ++ (vs ++ us)))) (statement []) m p refl
    ∙ h [] m (vs ++ us)
    ∙ g (statement (graph_body (alone x m).0 ∷ [])) (alone x m).0 [] body (alone x m).1 us

pub turtle_triples : (ts : List Token) (d : Token) (w : Write Done) → TriplesBy turtle ts w → d.kind ≡ dot → StatementBy turtle (ts ++ d ∷ []) w
turtle_triples ts d w h p m us =
    ap (λ l. final turtle l (statement []) m) (append_assoc ts (d ∷ []) us)
    ∙ h (statement []) full_stop [] outside_turtle dot dot_ends d p m us ∙ dot_read turtle 0 d p [] (w m).1 us

-- The machine and the construction: the statement for whole documents, and its proof for nodes of one token, for literals and for predicates.
use mathlib.Core.Path.{◌≡◌, refl, ap, ◌∙◌}
use mathlib.Core.List.{List, [], ◌∷◌, ◌++◌, append_assoc}
use mathlib.Core.Bool.{Bool, true, false}
use mathlib.Core.Option.{Option, none, some}
use mathlib.Core.Logic.{inl, inr}
use Prim.Native.Nat.{ℕ}
use Rattle.grammar.specs.Ebnf.{nt, Tree, leaves}
use Rattle.token.specs.Kind.{Kind, comma, kw_true, kw_false, carets, IRIREF, PNAME_NS, PNAME_LN, BLANK_NODE_LABEL, LANGTAG, INTEGER, DECIMAL, DOUBLE, STRING_LITERAL_QUOTE, STRING_LITERAL_SINGLE_QUOTE, STRING_LITERAL_LONG_SINGLE_QUOTE, STRING_LITERAL_LONG_QUOTE}
use Rattle.grammar.specs.Productions.{Mode, trig, turtle, production, trigDoc, turtleDoc, kind_of}
use Rattle.text.specs.Text.{Text}
use Rattle.token.specs.Tokens.{Token}
use Rattle.machine.specs.Memory.{Memory, Write, return, ◌>>=◌, term, iri_term, typed_by}
use Rattle.dataset.specs.Terms.{label, xsd_integer, xsd_decimal, xsd_double, xsd_boolean, blank}
use Rattle.dataset.specs.Constructors.{node_label, string_text}
use Rattle.machine.specs.Frame.{Ending, Place, object_of, element_of, Cells, Frame, verb, object, after_object, list, suffix, datatype, Open, directive, statement}
use Rattle.machine.specs.Rules.{find_rule, rules, hold, new_cell, extended}
use Rattle.machine.specs.Construction.{Node, simple, iri_node, typed_node, cell_of, rdf_literal, object_triple, objects, object_list, Meaning, action}
use Rattle.grammar.specs.Meaning.{meaning}
use Rattle.machine.proofs.Decide.{ties, tied_kinds}
use Rattle.grammar.proofs.Grammar.{kinds_of}

-- The memory after all tokens, as far as the grammar goes; none where it fails.
unfoldable pub taken : Option (Write Open) → Memory → (Open → Memory → Option Memory) → Option Memory
taken none m f = none
taken (some w) m f = f (w m).0 (w m).1

unfoldable pub at_finish : Open → Memory → Option Memory
at_finish (directive d) m = none
at_finish (statement []) m = some m
at_finish (statement (f ∷ k)) m = none

unfoldable pub final : Mode → List Token → Open → Memory → Option Memory
final mode [] o m = at_finish o m
final mode (t ∷ ts) o m = taken (find_rule t.kind (rules t (tied_kinds (kinds_of ts)) mode o)) m (λ o' m'. final mode ts o' m')

-- To be proved: the memory after the tokens of a document's tree is the tree's meaning.
abbrev pub Agreement_trig : Type 0
Agreement_trig =
    (x : Tree kind_of (production trig) (nt trigDoc)) (m : Memory)
    → final trig (leaves kind_of (production trig) x) (statement []) m ≡ some (meaning Meaning (action trig) x m).1

abbrev pub Agreement_turtle : Type 0
Agreement_turtle =
    (x : Tree kind_of (production turtle) (nt turtleDoc)) (m : Memory)
    → final turtle (leaves kind_of (production turtle) x) (statement []) m ≡ some (meaning Meaning (action turtle) x m).1

-- A node is awaited as an object, or as an element of a list: the frame, how its place is made, and what is open after it.
pub data Context : Type 0 where
  in_object : ℕ → ℕ → Ending → Context
  in_list : Place → ℕ → Cells → Context

abbrev pub frame_of : Context → Frame
frame_of (in_object s p e) = object s p e
frame_of (in_list place opened cs) = list place opened cs

abbrev pub begin_of : Context → ℕ → Write Place
begin_of (in_object s p e) at = return (object_of s p)
begin_of (in_list place opened cs) at = new_cell place opened cs at >>= λ cell. return (element_of cell)

abbrev pub after_of : Context → Place → List Frame
after_of (in_object s p e) q = after_object s p e ∷ []
after_of (in_list place opened cs) q = list place opened (extended cs (cell_of q)) ∷ []

module _ (mode : Mode) where
  -- The tokens ts, where a node is awaited, write what the node x says, and the machine goes on behind them.
  abbrev pub Writes : List Token → Node → Type 0
  Writes ts x =
      (c : Context) (K : List Frame) (m : Memory) (us : List Token) → tied_kinds (kinds_of us) ≡ false
      → final mode (ts ++ us) (statement (frame_of c ∷ K)) m
      ≡ final mode us (statement (after_of c (x (begin_of c) m).0.place ++ K)) (x (begin_of c) m).1

  pub first : (t : Token) (k : Kind) (us : List Token) (b : Bool) (o : Open) (m : Memory) → t.kind ≡ k → tied_kinds (kinds_of us) ≡ b
      → final mode (t ∷ us) o m ≡ taken (find_rule k (rules t b mode o)) m (λ o' m'. final mode us o' m')
  unfolding final
  first t k us b o m p q =
      ap (λ j. taken (find_rule j (rules t (tied_kinds (kinds_of us)) mode o)) m (λ o' m'. final mode us o' m')) p
      ∙ ap (λ d. taken (find_rule k (rules t d mode o)) m (λ o' m'. final mode us o' m')) q

  -- ---- Nodes of one token

  pub reference_writes : (t : Token) → t.kind ≡ IRIREF → Writes (t ∷ []) (iri_node t)
  unfolding taken rules
  reference_writes t p (in_object s q e) K m us h = first t IRIREF us false (statement (object s q e ∷ K)) m p h
  reference_writes t p (in_list place opened cs) K m us h = first t IRIREF us false (statement (list place opened cs ∷ K)) m p h

  pub name_writes : (t : Token) → t.kind ≡ PNAME_LN → Writes (t ∷ []) (iri_node t)
  unfolding taken rules
  name_writes t p (in_object s q e) K m us h = first t PNAME_LN us false (statement (object s q e ∷ K)) m p h
  name_writes t p (in_list place opened cs) K m us h = first t PNAME_LN us false (statement (list place opened cs ∷ K)) m p h

  pub namespace_writes : (t : Token) → t.kind ≡ PNAME_NS → Writes (t ∷ []) (iri_node t)
  unfolding taken rules
  namespace_writes t p (in_object s q e) K m us h = first t PNAME_NS us false (statement (object s q e ∷ K)) m p h
  namespace_writes t p (in_list place opened cs) K m us h = first t PNAME_NS us false (statement (list place opened cs ∷ K)) m p h

  pub label_writes : (t : Token) → t.kind ≡ BLANK_NODE_LABEL → Writes (t ∷ []) (simple t (term (blank (label (node_label t)))))
  unfolding taken rules
  label_writes t p (in_object s q e) K m us h = first t BLANK_NODE_LABEL us false (statement (object s q e ∷ K)) m p h
  label_writes t p (in_list place opened cs) K m us h = first t BLANK_NODE_LABEL us false (statement (list place opened cs ∷ K)) m p h

  pub integer_writes : (t : Token) → t.kind ≡ INTEGER → Writes (t ∷ []) (typed_node xsd_integer t)
  unfolding taken rules
  integer_writes t p (in_object s q e) K m us h = first t INTEGER us false (statement (object s q e ∷ K)) m p h
  integer_writes t p (in_list place opened cs) K m us h = first t INTEGER us false (statement (list place opened cs ∷ K)) m p h

  pub decimal_writes : (t : Token) → t.kind ≡ DECIMAL → Writes (t ∷ []) (typed_node xsd_decimal t)
  unfolding taken rules
  decimal_writes t p (in_object s q e) K m us h = first t DECIMAL us false (statement (object s q e ∷ K)) m p h
  decimal_writes t p (in_list place opened cs) K m us h = first t DECIMAL us false (statement (list place opened cs ∷ K)) m p h

  pub double_writes : (t : Token) → t.kind ≡ DOUBLE → Writes (t ∷ []) (typed_node xsd_double t)
  unfolding taken rules
  double_writes t p (in_object s q e) K m us h = first t DOUBLE us false (statement (object s q e ∷ K)) m p h
  double_writes t p (in_list place opened cs) K m us h = first t DOUBLE us false (statement (list place opened cs ∷ K)) m p h

  pub true_writes : (t : Token) → t.kind ≡ kw_true → Writes (t ∷ []) (typed_node xsd_boolean t)
  unfolding taken rules
  true_writes t p (in_object s q e) K m us h = first t kw_true us false (statement (object s q e ∷ K)) m p h
  true_writes t p (in_list place opened cs) K m us h = first t kw_true us false (statement (list place opened cs ∷ K)) m p h

  pub false_writes : (t : Token) → t.kind ≡ kw_false → Writes (t ∷ []) (typed_node xsd_boolean t)
  unfolding taken rules
  false_writes t p (in_object s q e) K m us h = first t kw_false us false (statement (object s q e ∷ K)) m p h
  false_writes t p (in_list place opened cs) K m us h = first t kw_false us false (statement (list place opened cs ∷ K)) m p h

  -- ---- Strings: alone, with a tag, with a type

  pub quote_writes : (t : Token) → t.kind ≡ STRING_LITERAL_QUOTE → Writes (t ∷ []) (rdf_literal (t, none))
  unfolding taken rules
  quote_writes t p (in_object s q e) K m us h = first t STRING_LITERAL_QUOTE us false (statement (object s q e ∷ K)) m p h
  quote_writes t p (in_list place opened cs) K m us h = first t STRING_LITERAL_QUOTE us false (statement (list place opened cs ∷ K)) m p h

  pub single_writes : (t : Token) → t.kind ≡ STRING_LITERAL_SINGLE_QUOTE → Writes (t ∷ []) (rdf_literal (t, none))
  unfolding taken rules
  single_writes t p (in_object s q e) K m us h = first t STRING_LITERAL_SINGLE_QUOTE us false (statement (object s q e ∷ K)) m p h
  single_writes t p (in_list place opened cs) K m us h = first t STRING_LITERAL_SINGLE_QUOTE us false (statement (list place opened cs ∷ K)) m p h

  pub long_single_writes : (t : Token) → t.kind ≡ STRING_LITERAL_LONG_SINGLE_QUOTE → Writes (t ∷ []) (rdf_literal (t, none))
  unfolding taken rules
  long_single_writes t p (in_object s q e) K m us h = first t STRING_LITERAL_LONG_SINGLE_QUOTE us false (statement (object s q e ∷ K)) m p h
  long_single_writes t p (in_list place opened cs) K m us h = first t STRING_LITERAL_LONG_SINGLE_QUOTE us false (statement (list place opened cs ∷ K)) m p h

  pub long_writes : (t : Token) → t.kind ≡ STRING_LITERAL_LONG_QUOTE → Writes (t ∷ []) (rdf_literal (t, none))
  unfolding taken rules
  long_writes t p (in_object s q e) K m us h = first t STRING_LITERAL_LONG_QUOTE us false (statement (object s q e ∷ K)) m p h
  long_writes t p (in_list place opened cs) K m us h = first t STRING_LITERAL_LONG_QUOTE us false (statement (list place opened cs ∷ K)) m p h

  -- A string kind, for which the machine moves in the same way.
  pub data Stringy : Kind → Type 0 where
    quote : Stringy STRING_LITERAL_QUOTE
    single : Stringy STRING_LITERAL_SINGLE_QUOTE
    long_single : Stringy STRING_LITERAL_LONG_SINGLE_QUOTE
    long : Stringy STRING_LITERAL_LONG_QUOTE

  -- A string that is tied writes its cell, if it is an element, and waits.
  waits : {k : Kind} → Stringy k → (t : Token) → t.kind ≡ k → (c : Context) (K : List Frame) (m : Memory) (us : List Token) → tied_kinds (kinds_of us) ≡ true
      → final mode (t ∷ us) (statement (frame_of c ∷ K)) m
      ≡ final mode us (statement (suffix (begin_of c t.start m).0 t.start (string_text t) ∷ (after_of c (begin_of c t.start m).0 ++ K))) (begin_of c t.start m).1
  unfolding taken rules
  waits quote t p (in_object s q e) K m us h = first t STRING_LITERAL_QUOTE us true (statement (object s q e ∷ K)) m p h
  waits quote t p (in_list place opened cs) K m us h = first t STRING_LITERAL_QUOTE us true (statement (list place opened cs ∷ K)) m p h
  waits single t p (in_object s q e) K m us h = first t STRING_LITERAL_SINGLE_QUOTE us true (statement (object s q e ∷ K)) m p h
  waits single t p (in_list place opened cs) K m us h = first t STRING_LITERAL_SINGLE_QUOTE us true (statement (list place opened cs ∷ K)) m p h
  waits long_single t p (in_object s q e) K m us h = first t STRING_LITERAL_LONG_SINGLE_QUOTE us true (statement (object s q e ∷ K)) m p h
  waits long_single t p (in_list place opened cs) K m us h = first t STRING_LITERAL_LONG_SINGLE_QUOTE us true (statement (list place opened cs ∷ K)) m p h
  waits long t p (in_object s q e) K m us h = first t STRING_LITERAL_LONG_QUOTE us true (statement (object s q e ∷ K)) m p h
  waits long t p (in_list place opened cs) K m us h = first t STRING_LITERAL_LONG_QUOTE us true (statement (list place opened cs ∷ K)) m p h

  pub tagged_writes : {k : Kind} → Stringy k → (t g : Token) → t.kind ≡ k → g.kind ≡ LANGTAG → Writes (t ∷ g ∷ []) (rdf_literal (t, some (inl g)))
  unfolding taken rules
  tagged_writes x t g p q c K m us h =
      waits x t p c K m (g ∷ us) (ap ties q)
      ∙ first g LANGTAG us false (statement (suffix (begin_of c t.start m).0 t.start (string_text t) ∷ (after_of c (begin_of c t.start m).0 ++ K))) (begin_of c t.start m).1 q h

  -- A kind of IRI.
  pub data Iris : Kind → Type 0 where
    reference : Iris IRIREF
    name : Iris PNAME_LN
    namespace : Iris PNAME_NS

  type_read : {k : Kind} → Iris k → (d : Token) → d.kind ≡ k → (place : Place) (at : ℕ) (s : Text) (K : List Frame) (m : Memory) (us : List Token) → tied_kinds (kinds_of us) ≡ false
      → final mode (d ∷ us) (statement (datatype place at s ∷ K)) m
      ≡ final mode us (statement K) ((typed_by s d >>= λ n. hold place n at) m).1
  unfolding taken rules
  type_read reference d p place at s K m us h = first d IRIREF us false (statement (datatype place at s ∷ K)) m p h
  type_read name d p place at s K m us h = first d PNAME_LN us false (statement (datatype place at s ∷ K)) m p h
  type_read namespace d p place at s K m us h = first d PNAME_NS us false (statement (datatype place at s ∷ K)) m p h

  pub typed_writes : {k j : Kind} → Stringy k → Iris j → (t c d : Token) → t.kind ≡ k → c.kind ≡ carets → d.kind ≡ j → Writes (t ∷ c ∷ d ∷ []) (rdf_literal (t, some (inr (c, d))))
  unfolding taken rules
  typed_writes x y t u d p q r c K m us h =
      let place = (begin_of c t.start m).0 in
      let m' = (begin_of c t.start m).1 in
      let K' = after_of c place ++ K in
      waits x t p c K m (u ∷ d ∷ us) (ap ties q)
      ∙ first u carets (d ∷ us) (ties d.kind) (statement (suffix place t.start (string_text t) ∷ K')) m' q refl
      ∙ type_read y d r place t.start (string_text t) K' m' us h

  -- ---- Predicates

  verb_reads : {k : Kind} → Iris k → (t : Token) → t.kind ≡ k → (s : ℕ) (e : Ending) (K : List Frame) (m : Memory) (us : List Token) → tied_kinds (kinds_of us) ≡ false
      → final mode (t ∷ us) (statement (verb s e ∷ K)) m ≡ final mode us (statement (object s (iri_term t m).0 e ∷ K)) (iri_term t m).1
  unfolding taken rules
  verb_reads reference t p s e K m us h = first t IRIREF us false (statement (verb s e ∷ K)) m p h
  verb_reads name t p s e K m us h = first t PNAME_LN us false (statement (verb s e ∷ K)) m p h
  verb_reads namespace t p s e K m us h = first t PNAME_NS us false (statement (verb s e ∷ K)) m p h

  -- ---- Object lists

  -- Objects behind commas, each with the tokens that write it.
  pub data Commas : List Token → List (Token × Node) → Type 0 where
    last : Commas [] []
    also : (c : Token) (ts us : List Token) (x : Node) (xs : List (Token × Node)) → c.kind ≡ comma → Writes ts x → Commas us xs → Commas (c ∷ (ts ++ us)) ((c, x) ∷ xs)

  commas_untied : {ts : List Token} {xs : List (Token × Node)} → Commas ts xs → (us : List Token) → tied_kinds (kinds_of us) ≡ false → tied_kinds (kinds_of (ts ++ us)) ≡ false
  commas_untied last us h = h
  commas_untied (also c ts vs x xs p w r) us h = ap ties p

  pub commas_write : {ts : List Token} {xs : List (Token × Node)} → Commas ts xs → (s p : ℕ) (e : Ending) (K : List Frame) (m : Memory) (us : List Token) → tied_kinds (kinds_of us) ≡ false
      → final mode (ts ++ us) (statement (after_object s p e ∷ K)) m ≡ final mode us (statement (after_object s p e ∷ K)) (objects s p xs m).1
  unfolding taken rules
  commas_write last s p e K m us h = refl
  commas_write (also c ts vs x xs q w r) s p e K m us h =
      ap (λ l. final mode (c ∷ l) (statement (after_object s p e ∷ K)) m) (append_assoc ts vs us)
      ∙ first c comma (ts ++ (vs ++ us)) (tied_kinds (kinds_of (ts ++ (vs ++ us)))) (statement (after_object s p e ∷ K)) m q refl
      ∙ w (in_object s p e) K m (vs ++ us) (commas_untied r us h)
      ∙ commas_write r s p e K (object_triple s p x m).1 us h

  -- The production objectList, for any object.
  pub object_list_writes : {vs : List Token} {xs : List (Token × Node)} (ts : List Token) (x : Node) → Writes ts x → Commas vs xs
      → (s p : ℕ) (e : Ending) (K : List Frame) (m : Memory) (us : List Token) → tied_kinds (kinds_of us) ≡ false
      → final mode ((ts ++ vs) ++ us) (statement (object s p e ∷ K)) m ≡ final mode us (statement (after_object s p e ∷ K)) (object_list (x, xs) s p m).1
  object_list_writes {vs} {xs} ts x w r s p e K m us h =
      ap (λ l. final mode l (statement (object s p e ∷ K)) m) (append_assoc ts vs us)
      ∙ w (in_object s p e) K m (vs ++ us) (commas_untied r us h)
      ∙ commas_write r s p e K (object_triple s p x m).1 us h

-- Whatever is open can be closed; by a tag or ^^ first exactly if a string awaits it.
use mathlib.Core.Path.{◌≡◌, refl, ◌∙◌}
use mathlib.Core.List.{List, [], ◌∷◌, ◌++◌}
use mathlib.Core.Bool.{Bool, true, false}
use mathlib.Core.Option.{some}
use Prim.Native.Nat.{ℕ}
use Rattle.token.specs.Kind.{dot, close_bracket, close_paren, open_brace, close_brace, carets, PNAME_NS}
use Rattle.token.specs.Tokens.{Token}
use Rattle.grammar.specs.Productions.{Mode}
use Rattle.dataset.specs.Constructors.{prefix}
use Rattle.machine.specs.Memory.{Memory, iri_term, row, enter, declare_prefix, declare_base, typed_by}
use Rattle.machine.specs.Frame.{Ending, full_stop, brace, bracket_end, Place, top, subject_before, object_of, element_of, Frame, graph_label, closing_label, graph_body, label_or_subject, triples_or_end, verb, verb_or_end, object, after_object, after_semicolon, bracket, list, suffix, datatype, Directive, prefix_name, namespace_of, new_base, last_dot, Open, directive, statement}
use Rattle.machine.specs.Rules.{hold, after_node}
use Rattle.machine.proofs.Agreement.{final, at_finish}
use Rattle.completions.specs.Written.{tag_first}
use Rattle.completions.proofs.Closing.{mark, name, ender, ended, close_optional, close_object, close_semicolon, close_body, close_label, close_closing, close_triples, close_graph, close_node, close_verb, close_type, close_suffix, close_list, close_brackets, last, close_last, close_base, close_namespace, close_prefix}
use Rattle.completions.proofs.Effects.{Wrote, wrote_none, wrote_then, wrote_named, wrote_ended, wrote_object, wrote_type, wrote_list, listed}

abbrev pub is_suffix : Frame → Bool
is_suffix graph_label = false
is_suffix (closing_label g) = false
is_suffix (graph_body g) = false
is_suffix (label_or_subject n) = false
is_suffix triples_or_end = false
is_suffix (verb s e) = false
is_suffix (verb_or_end s e) = false
is_suffix (object s p e) = false
is_suffix (after_object s p e) = false
is_suffix (after_semicolon s e) = false
is_suffix (bracket q n) = false
is_suffix (list q at cs) = false
is_suffix (suffix q at s) = true
is_suffix (datatype q at s) = false

-- Does a string await its tag or type?
abbrev pub awaits : Open → Bool
awaits (directive d) = false
awaits (statement []) = false
awaits (statement (f ∷ fs)) = is_suffix f

end_untied : (e : Ending) (us : List Token) → tag_first (ender e ∷ us) ≡ false
end_untied full_stop us = refl
end_untied brace us = refl
end_untied bracket_end us = refl

module _ (mode : Mode) (v : ℕ) where
  -- Tokens that close the frame f, and what is in memory then.
  record Closed (f : Frame) : Type 0 where
    tokens : List Token
    tie : (us : List Token) → tag_first (tokens ++ us) ≡ is_suffix f
    after : Memory → Memory
    comes : (K : List Frame) (us : List Token) (m : Memory) → final mode (tokens ++ us) (statement (f ∷ K)) m ≡ final mode us (statement K) (after m)
    wrote : (L : ℕ) (m : Memory) → Wrote v L m (after m)

  abbrev named : Memory → ℕ × Memory
  named m = iri_term (name v) m

  abbrev braced : ℕ → Memory → Memory
  braced g m = (enter 0 (enter g m).1).1

  abbrev stated : ℕ → Ending → Memory → Memory
  stated s e m = ended e (row s (named m).0 (named (named m).1).0 v (named (named m).1).1).1

  wrote_stated : (s : ℕ) (e : Ending) (L : ℕ) (m : Memory) → Wrote v L m (stated s e m)
  wrote_stated s e L m =
      let m₁ = (named m).1 in
      let m₂ = (row s (named m).0 (named m₁).0 v (named m₁).1).1 in
      wrote_then v L m m₁ (ended e m₂) (wrote_named v L m) (wrote_then v L m₁ m₂ (ended e m₂) (wrote_object v L s (named m).0 m₁) (wrote_ended v L e m₂))

  -- What is open behind a node.
  record NodeClosed (q : Place) : Type 0 where
    tokens : List Token
    after : ℕ → Memory → Memory
    comes : (n : ℕ) (K : List Frame) (us : List Token) (m : Memory) → final mode (tokens ++ us) (statement (after_node q n ++ K)) m ≡ final mode us (statement K) (after n m)
    wrote : (n L : ℕ) (m : Memory) → Wrote v L m (after n m)

  node_closed : (q : Place) → NodeClosed q
  node_closed top =
      record {
        tokens = mark open_brace ∷ mark close_brace ∷ [];
        after = λ n m. braced n m;
        comes = λ n K us m. close_label mode K us n m;
        wrote = λ n L m. wrote_none v L m (braced n m) refl refl;
      }
  node_closed (subject_before e) =
      record {
        tokens = name v ∷ name v ∷ ender e ∷ [];
        after = λ n m. stated n e m;
        comes = λ n K us m. close_verb mode K us v n e m;
        wrote = λ n L m. wrote_stated n e L m;
      }
  node_closed (object_of s p) = record { tokens = []; after = λ n m. m; comes = λ n K us m. refl; wrote = λ n L m. wrote_none v L m m refl refl }
  node_closed (element_of c) = record { tokens = []; after = λ n m. m; comes = λ n K us m. refl; wrote = λ n L m. wrote_none v L m m refl refl }

  closed : (f : Frame) → Closed f
  closed graph_label =
      record {
        tokens = name v ∷ mark open_brace ∷ mark close_brace ∷ [];
        tie = λ us. refl;
        after = λ m. braced (named m).0 (named m).1;
        comes = λ K us m. close_graph mode K us v m;
        wrote = λ L m. wrote_then v L m (named m).1 (braced (named m).0 (named m).1) (wrote_named v L m) (wrote_none v L (named m).1 (braced (named m).0 (named m).1) refl refl);
      }
  closed (closing_label g) =
      record {
        tokens = mark close_bracket ∷ mark open_brace ∷ mark close_brace ∷ [];
        tie = λ us. refl;
        after = λ m. braced g m;
        comes = λ K us m. close_closing mode K us g m;
        wrote = λ L m. wrote_none v L m (braced g m) refl refl;
      }
  closed (graph_body g) =
      record { tokens = mark open_brace ∷ mark close_brace ∷ []; tie = λ us. refl; after = λ m. braced g m; comes = λ K us m. close_body mode K us g m; wrote = λ L m. wrote_none v L m (braced g m) refl refl }
  closed (label_or_subject g) =
      record { tokens = mark open_brace ∷ mark close_brace ∷ []; tie = λ us. refl; after = λ m. braced g m; comes = λ K us m. close_label mode K us g m; wrote = λ L m. wrote_none v L m (braced g m) refl refl }
  closed triples_or_end =
      record { tokens = mark close_brace ∷ []; tie = λ us. refl; after = λ m. (enter 0 m).1; comes = λ K us m. close_triples mode K us m; wrote = λ L m. wrote_none v L m (enter 0 m).1 refl refl }
  closed (verb s e) =
      record { tokens = name v ∷ name v ∷ ender e ∷ []; tie = λ us. refl; after = λ m. stated s e m; comes = λ K us m. close_verb mode K us v s e m; wrote = λ L m. wrote_stated s e L m }
  closed (verb_or_end s e) =
      record { tokens = ender e ∷ []; tie = λ us. end_untied e us; after = λ m. ended e m; comes = λ K us m. close_optional mode K us s e m; wrote = λ L m. wrote_ended v L e m }
  closed (object s p e) =
      record {
        tokens = name v ∷ ender e ∷ [];
        tie = λ us. refl;
        after = λ m. ended e (row s p (named m).0 v (named m).1).1;
        comes = λ K us m. close_node mode K us v s p e m;
        wrote = λ L m. let m₁ = (row s p (named m).0 v (named m).1).1 in wrote_then v L m m₁ (ended e m₁) (wrote_object v L s p m) (wrote_ended v L e m₁);
      }
  closed (after_object s p e) =
      record { tokens = ender e ∷ []; tie = λ us. end_untied e us; after = λ m. ended e m; comes = λ K us m. close_object mode K us s p e m; wrote = λ L m. wrote_ended v L e m }
  closed (after_semicolon s e) =
      record { tokens = ender e ∷ []; tie = λ us. end_untied e us; after = λ m. ended e m; comes = λ K us m. close_semicolon mode K us s e m; wrote = λ L m. wrote_ended v L e m }
  closed (bracket q n) =
      let c = node_closed q in
      record {
        tokens = mark close_bracket ∷ c.tokens;
        tie = λ us. refl;
        after = λ m. c.after n m;
        comes = λ K us m. close_brackets mode K (c.tokens ++ us) q n m ∙ c.comes n K us m;
        wrote = λ L m. c.wrote n L m;
      }
  closed (list q at cs) =
      let c = node_closed q in
      record {
        tokens = name v ∷ mark close_paren ∷ c.tokens;
        tie = λ us. refl;
        after = λ m. c.after (listed v 0 q at cs m).0 (listed v 0 q at cs m).1;
        comes = λ K us m. close_list mode K (c.tokens ++ us) v q at cs m ∙ c.comes (listed v 0 q at cs m).0 K us (listed v 0 q at cs m).1;
        wrote =
            λ L m.
            let r = listed v L q at cs m in wrote_then v L m r.1 (c.after r.0 r.1) (wrote_list v L q at cs m) (c.wrote r.0 L r.1);
      }
  closed (suffix q at s) =
      record {
        tokens = mark carets ∷ name v ∷ [];
        tie = λ us. refl;
        after = λ m. (hold q (typed_by s (name v) m).0 at (typed_by s (name v) m).1).1;
        comes = λ K us m. close_suffix mode K us v q at s m;
        wrote = λ L m. wrote_type v L q at s m;
      }
  closed (datatype q at s) =
      record {
        tokens = name v ∷ [];
        tie = λ us. refl;
        after = λ m. (hold q (typed_by s (name v) m).0 at (typed_by s (name v) m).1).1;
        comes = λ K us m. close_type mode K us v q at s m;
        wrote = λ L m. wrote_type v L q at s m;
      }

  -- Tokens that lead to the document's end.
  pub record Ends (o : Open) (m : Memory) : Type 0 where
    pub rest : List Token
    pub tie : tag_first rest ≡ awaits o
    pub outcome : Memory
    pub runs : final mode rest o m ≡ some outcome
    pub wrote : (L : ℕ) → Wrote v L m outcome

  ends_statement : (fs : List Frame) (m : Memory) → Ends (statement fs) m
  unfolding final at_finish
  ends_statement [] m = record { rest = []; tie = refl; outcome = m; runs = refl; wrote = λ L. wrote_none v L m m refl refl }
  ends_statement (f ∷ K) m =
      let c = closed f in
      let e = ends_statement K (c.after m) in
      record {
        rest = c.tokens ++ e.rest;
        tie = c.tie e.rest;
        outcome = e.outcome;
        runs = c.comes K e.rest m ∙ e.runs;
        wrote = λ L. wrote_then v L m (c.after m) e.outcome (c.wrote L m) (e.wrote L);
      }

  ends_directive : (d : Directive) (m : Memory) → Ends (directive d) m
  ends_directive last_dot m = record { rest = mark dot ∷ []; tie = refl; outcome = m; runs = close_last mode m; wrote = λ L. wrote_none v L m m refl refl }
  ends_directive (new_base b) m =
      let M = (declare_base (name 0) m).1 in record { rest = name 0 ∷ last mode m b; tie = refl; outcome = M; runs = close_base mode m b; wrote = λ L. wrote_none v L m M refl refl }
  ends_directive (namespace_of p b) m =
      let M = (declare_prefix p (name 0) m).1 in record { rest = name 0 ∷ last mode m b; tie = refl; outcome = M; runs = close_namespace mode m p b; wrote = λ L. wrote_none v L m M refl refl }
  ends_directive (prefix_name b) m =
      let M = (declare_prefix (prefix (mark PNAME_NS)) (name 0) m).1 in
      record { rest = mark PNAME_NS ∷ name 0 ∷ last mode m b; tie = refl; outcome = M; runs = close_prefix mode m b; wrote = λ L. wrote_none v L m M refl refl }

  pub ends : (o : Open) (m : Memory) → Ends o m
  ends (directive d) m = ends_directive d m
  ends (statement fs) m = ends_statement fs m

-- The machine's move agrees with the grammar's at every frame and kind: computed tests.
use mathlib.Core.Path.{◌≡◌, refl}
use mathlib.Core.List.{[], map}
use mathlib.Core.Bool.{Bool, true, false}
use Rattle.grammar.proofs.Recogniser.{gate, nullE, nullN, null, nullS, afterE, afterN, after, step}
use Rattle.token.proofs.KindCodes.{same, each_kind}
use Rattle.token.specs.Kind.{Kind, kinds}
use Rattle.grammar.specs.Productions.{Mode, trig, turtle, production}
use Rattle.grammar.proofs.Nonterminals.{nonterminal_code}
use Rattle.token.specs.Tokens.{Token}
use Rattle.machine.specs.Memory.{Memory}
use Rattle.machine.specs.Frame.{full_stop, brace, bracket_end, top, subject_before, object_of, element_of, no_cell, cells, Frame, graph_label, closing_label, graph_body, label_or_subject, triples_or_end, verb, verb_or_end, object, after_object, after_semicolon, bracket, list, suffix, datatype, Directive, prefix_name, namespace_of, new_base, last_dot, directive, statement}
use Rattle.machine.specs.Rules.{find_rule, frame_rules, rules}
use Rattle.machine.proofs.Stands.{stands, stands_open, grammar_move, frames_move, open_move}

module _ (t : Token) (m : Memory) where
  test : (mode : Mode) (tied : Bool) (f : Frame)
      → map (grammar_move mode tied (stands f)) kinds ≡ map (λ k. frames_move (find_rule k (frame_rules t tied f)) m) kinds
  unfolding grammar_move frames_move step same production nonterminal_code gate nullE nullN null nullS afterE afterN after
  test mode tied graph_label = refl
  test mode tied (closing_label g) = refl
  test mode tied (graph_body g) = refl
  test mode tied (label_or_subject n) = refl
  test trig tied triples_or_end = refl
  test turtle tied triples_or_end = refl
  test mode tied (verb s full_stop) = refl
  test mode tied (verb_or_end s full_stop) = refl
  test trig true (object s p full_stop) = refl
  test trig false (object s p full_stop) = refl
  test turtle true (object s p full_stop) = refl
  test turtle false (object s p full_stop) = refl
  test mode tied (after_object s p full_stop) = refl
  test mode tied (after_semicolon s full_stop) = refl
  test mode tied (verb s brace) = refl
  test mode tied (verb_or_end s brace) = refl
  test trig true (object s p brace) = refl
  test trig false (object s p brace) = refl
  test turtle true (object s p brace) = refl
  test turtle false (object s p brace) = refl
  test mode tied (after_object s p brace) = refl
  test mode tied (after_semicolon s brace) = refl
  test mode tied (verb s bracket_end) = refl
  test mode tied (verb_or_end s bracket_end) = refl
  test trig true (object s p bracket_end) = refl
  test trig false (object s p bracket_end) = refl
  test turtle true (object s p bracket_end) = refl
  test turtle false (object s p bracket_end) = refl
  test mode tied (after_object s p bracket_end) = refl
  test mode tied (after_semicolon s bracket_end) = refl
  test mode tied (bracket top n) = refl
  test trig true (list top at no_cell) = refl
  test trig false (list top at no_cell) = refl
  test turtle true (list top at no_cell) = refl
  test turtle false (list top at no_cell) = refl
  test trig true (list top at (cells h l)) = refl
  test trig false (list top at (cells h l)) = refl
  test turtle true (list top at (cells h l)) = refl
  test turtle false (list top at (cells h l)) = refl
  test mode tied (bracket (subject_before full_stop) n) = refl
  test trig true (list (subject_before full_stop) at no_cell) = refl
  test trig false (list (subject_before full_stop) at no_cell) = refl
  test turtle true (list (subject_before full_stop) at no_cell) = refl
  test turtle false (list (subject_before full_stop) at no_cell) = refl
  test trig true (list (subject_before full_stop) at (cells h l)) = refl
  test trig false (list (subject_before full_stop) at (cells h l)) = refl
  test turtle true (list (subject_before full_stop) at (cells h l)) = refl
  test turtle false (list (subject_before full_stop) at (cells h l)) = refl
  test mode tied (bracket (subject_before brace) n) = refl
  test trig true (list (subject_before brace) at no_cell) = refl
  test trig false (list (subject_before brace) at no_cell) = refl
  test turtle true (list (subject_before brace) at no_cell) = refl
  test turtle false (list (subject_before brace) at no_cell) = refl
  test trig true (list (subject_before brace) at (cells h l)) = refl
  test trig false (list (subject_before brace) at (cells h l)) = refl
  test turtle true (list (subject_before brace) at (cells h l)) = refl
  test turtle false (list (subject_before brace) at (cells h l)) = refl
  test mode tied (bracket (subject_before bracket_end) n) = refl
  test trig true (list (subject_before bracket_end) at no_cell) = refl
  test trig false (list (subject_before bracket_end) at no_cell) = refl
  test turtle true (list (subject_before bracket_end) at no_cell) = refl
  test turtle false (list (subject_before bracket_end) at no_cell) = refl
  test trig true (list (subject_before bracket_end) at (cells h l)) = refl
  test trig false (list (subject_before bracket_end) at (cells h l)) = refl
  test turtle true (list (subject_before bracket_end) at (cells h l)) = refl
  test turtle false (list (subject_before bracket_end) at (cells h l)) = refl
  test mode tied (bracket (object_of a b) n) = refl
  test trig true (list (object_of a b) at no_cell) = refl
  test trig false (list (object_of a b) at no_cell) = refl
  test turtle true (list (object_of a b) at no_cell) = refl
  test turtle false (list (object_of a b) at no_cell) = refl
  test trig true (list (object_of a b) at (cells h l)) = refl
  test trig false (list (object_of a b) at (cells h l)) = refl
  test turtle true (list (object_of a b) at (cells h l)) = refl
  test turtle false (list (object_of a b) at (cells h l)) = refl
  test mode tied (bracket (element_of a) n) = refl
  test trig true (list (element_of a) at no_cell) = refl
  test trig false (list (element_of a) at no_cell) = refl
  test turtle true (list (element_of a) at no_cell) = refl
  test turtle false (list (element_of a) at no_cell) = refl
  test trig true (list (element_of a) at (cells h l)) = refl
  test trig false (list (element_of a) at (cells h l)) = refl
  test turtle true (list (element_of a) at (cells h l)) = refl
  test turtle false (list (element_of a) at (cells h l)) = refl
  test mode tied (suffix place at x) = refl
  test mode tied (datatype place at x) = refl

  -- At every frame and kind.
  pub frame_agrees : (mode : Mode) (tied : Bool) (f : Frame) (k : Kind) → grammar_move mode tied (stands f) k ≡ frames_move (find_rule k (frame_rules t tied f)) m
  frame_agrees mode tied f k = each_kind (grammar_move mode tied (stands f)) (λ j. frames_move (find_rule j (frame_rules t tied f)) m) (test mode tied f) k

  test_directive : (mode : Mode) (tied : Bool) (d : Directive)
      → map (grammar_move mode tied (stands_open mode (directive d))) kinds ≡ map (λ k. open_move mode (find_rule k (rules t tied mode (directive d))) m) kinds
  unfolding rules grammar_move open_move step same production nonterminal_code gate nullE nullN null nullS afterE afterN after
  test_directive trig tied (prefix_name true) = refl
  test_directive trig tied (prefix_name false) = refl
  test_directive trig tied (namespace_of x true) = refl
  test_directive trig tied (namespace_of x false) = refl
  test_directive trig tied (new_base true) = refl
  test_directive trig tied (new_base false) = refl
  test_directive trig tied last_dot = refl
  test_directive turtle tied (prefix_name true) = refl
  test_directive turtle tied (prefix_name false) = refl
  test_directive turtle tied (namespace_of x true) = refl
  test_directive turtle tied (namespace_of x false) = refl
  test_directive turtle tied (new_base true) = refl
  test_directive turtle tied (new_base false) = refl
  test_directive turtle tied last_dot = refl

  test_document : (mode : Mode) (tied : Bool)
      → map (grammar_move mode tied (stands_open mode (statement []))) kinds ≡ map (λ k. open_move mode (find_rule k (rules t tied mode (statement []))) m) kinds
  unfolding rules grammar_move open_move step same production nonterminal_code gate nullE nullN null nullS afterE afterN after
  test_document trig tied = refl
  test_document turtle tied = refl

  pub directive_agrees : (mode : Mode) (tied : Bool) (d : Directive) (k : Kind)
      → grammar_move mode tied (stands_open mode (directive d)) k ≡ open_move mode (find_rule k (rules t tied mode (directive d))) m
  directive_agrees mode tied d k =
      each_kind (grammar_move mode tied (stands_open mode (directive d))) (λ j. open_move mode (find_rule j (rules t tied mode (directive d))) m) (test_directive mode tied d) k

  pub document_agrees : (mode : Mode) (tied : Bool) (k : Kind)
      → grammar_move mode tied (stands_open mode (statement [])) k ≡ open_move mode (find_rule k (rules t tied mode (statement []))) m
  document_agrees mode tied k =
      each_kind (grammar_move mode tied (stands_open mode (statement []))) (λ j. open_move mode (find_rule j (rules t tied mode (statement []))) m) (test_document mode tied) k

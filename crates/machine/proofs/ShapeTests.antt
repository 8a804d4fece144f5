-- More computed tests on the frames: none may be empty, and the optional part of a string is decided by the next token.
use mathlib.Core.List.{[]}
use mathlib.Core.Bool.{Bool, true, false, ◌&&◌}
use lib.Dec.{T}
use Rattle.grammar.proofs.Recogniser.{is_some, gate, nullE, nullN, null, nullS, afterE, afterN, after, step}
use Rattle.token.proofs.KindCodes.{same, all_kinds}
use Rattle.token.specs.Kind.{Kind, kinds}
use Rattle.grammar.specs.Productions.{Mode, trig, turtle, production}
use Rattle.grammar.proofs.Modes.{levels}
use Rattle.text.proofs.Booleans.{all, and_0, and_1}
use Rattle.machine.specs.Frame.{full_stop, brace, bracket_end, top, subject_before, object_of, element_of, Frame, graph_label, closing_label, graph_body, label_or_subject, triples_or_end, verb, verb_or_end, object, after_object, after_semicolon, bracket, list, suffix, datatype, Directive, prefix_name, namespace_of, new_base, last_dot, directive, statement}
use Rattle.machine.proofs.Stands.{stands, stands_open}
use Rattle.machine.proofs.Beneath.{solid}
use Rattle.machine.proofs.Decide.{tame, tame_all, is_nil}

-- After any token the frame's stacks are tame.
abbrev all_tame : Mode → Frame → Bool
all_tame mode f = all (λ k. tame_all mode (step same (production mode) levels (stands f) k)) kinds

-- One test of each frame.
frame_test : (mode : Mode) (f : Frame) → T (all_tame mode f && (solid same (production mode) levels (stands f) && is_some (stands f)))
unfolding tame_all tame is_nil solid all is_some step same production gate nullE nullN null nullS afterE afterN after
frame_test mode graph_label = tt
frame_test mode (closing_label g) = tt
frame_test mode (graph_body g) = tt
frame_test mode (label_or_subject n) = tt
frame_test trig triples_or_end = tt
frame_test turtle triples_or_end = tt
frame_test mode (verb s full_stop) = tt
frame_test mode (verb_or_end s full_stop) = tt
frame_test trig (object s p full_stop) = tt
frame_test turtle (object s p full_stop) = tt
frame_test mode (after_object s p full_stop) = tt
frame_test mode (after_semicolon s full_stop) = tt
frame_test mode (verb s brace) = tt
frame_test mode (verb_or_end s brace) = tt
frame_test trig (object s p brace) = tt
frame_test turtle (object s p brace) = tt
frame_test mode (after_object s p brace) = tt
frame_test mode (after_semicolon s brace) = tt
frame_test mode (verb s bracket_end) = tt
frame_test mode (verb_or_end s bracket_end) = tt
frame_test trig (object s p bracket_end) = tt
frame_test turtle (object s p bracket_end) = tt
frame_test mode (after_object s p bracket_end) = tt
frame_test mode (after_semicolon s bracket_end) = tt
frame_test mode (bracket top n) = tt
frame_test mode (bracket (subject_before full_stop) n) = tt
frame_test mode (bracket (subject_before brace) n) = tt
frame_test mode (bracket (subject_before bracket_end) n) = tt
frame_test mode (bracket (object_of a b) n) = tt
frame_test mode (bracket (element_of a) n) = tt
frame_test trig (list top at cs) = tt
frame_test turtle (list top at cs) = tt
frame_test trig (list (subject_before full_stop) at cs) = tt
frame_test turtle (list (subject_before full_stop) at cs) = tt
frame_test trig (list (subject_before brace) at cs) = tt
frame_test turtle (list (subject_before brace) at cs) = tt
frame_test trig (list (subject_before bracket_end) at cs) = tt
frame_test turtle (list (subject_before bracket_end) at cs) = tt
frame_test trig (list (object_of a b) at cs) = tt
frame_test turtle (list (object_of a b) at cs) = tt
frame_test trig (list (element_of a) at cs) = tt
frame_test turtle (list (element_of a) at cs) = tt
frame_test mode (suffix place at x) = tt
frame_test mode (datatype place at x) = tt

pub frame_tame : (mode : Mode) (f : Frame) (k : Kind) → T (tame_all mode (step same (production mode) levels (stands f) k))
frame_tame mode f k = all_kinds (λ j. tame_all mode (step same (production mode) levels (stands f) j)) (and_0 (all_tame mode f) _ (frame_test mode f)) k

pub frame_solid : (mode : Mode) (f : Frame) → T (solid same (production mode) levels (stands f))
frame_solid mode f = and_0 (solid same (production mode) levels (stands f)) (is_some (stands f)) (and_1 (all_tame mode f) _ (frame_test mode f))

pub frame_some : (f : Frame) → T (is_some (stands f))
frame_some f = and_1 (solid same (production trig) levels (stands f)) (is_some (stands f)) (and_1 (all_tame trig f) _ (frame_test trig f))

tame_directive_test : (mode : Mode) (d : Directive) → T (all (λ k. tame_all mode (step same (production mode) levels (stands_open mode (directive d)) k)) kinds)
unfolding tame_all tame is_nil solid all is_some step same production gate nullE nullN null nullS afterE afterN after
tame_directive_test trig (prefix_name true) = tt
tame_directive_test trig (prefix_name false) = tt
tame_directive_test trig (namespace_of x true) = tt
tame_directive_test trig (namespace_of x false) = tt
tame_directive_test trig (new_base true) = tt
tame_directive_test trig (new_base false) = tt
tame_directive_test trig last_dot = tt
tame_directive_test turtle (prefix_name true) = tt
tame_directive_test turtle (prefix_name false) = tt
tame_directive_test turtle (namespace_of x true) = tt
tame_directive_test turtle (namespace_of x false) = tt
tame_directive_test turtle (new_base true) = tt
tame_directive_test turtle (new_base false) = tt
tame_directive_test turtle last_dot = tt

pub directive_tame : (mode : Mode) (d : Directive) (k : Kind) → T (tame_all mode (step same (production mode) levels (stands_open mode (directive d)) k))
directive_tame mode d k = all_kinds (λ j. tame_all mode (step same (production mode) levels (stands_open mode (directive d)) j)) (tame_directive_test mode d) k

tame_document_test : (mode : Mode) → T (all (λ k. tame_all mode (step same (production mode) levels (stands_open mode (statement [])) k)) kinds)
unfolding tame_all tame is_nil solid all is_some step same production gate nullE nullN null nullS afterE afterN after
tame_document_test trig = tt
tame_document_test turtle = tt

pub document_tame : (mode : Mode) (k : Kind) → T (tame_all mode (step same (production mode) levels (stands_open mode (statement [])) k))
document_tame mode k = all_kinds (λ j. tame_all mode (step same (production mode) levels (stands_open mode (statement [])) j)) (tame_document_test mode) k

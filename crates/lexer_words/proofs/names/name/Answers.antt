-- `name` meets its contract.
use native.Mathlib.Omega.{arith}
use mathlib.Core.Path.{refl, sym, subst}
use mathlib.Core.List.{[], ◌∷◌}
use Rattle.text.specs.Text.{Text}
use Rattle.automaton.specs.States.{in_prefix}
use Rattle.automaton.specs.Run.{At}
use Rattle.characters.proofs.Sets.{ranged_rest}
use Rattle.lexer_words.specs.Ahead.{word_of}
use Rattle.lexer_words.specs.declared.names.Stem.{Stem}
use Rattle.lexer_words.proofs.Fronting.{key_letter, name_a, name_true, name_false, name_prefix, name_base, name_graph, name_none, name_more, no_colon_mark}
use Rattle.lexer_words.proofs.Clearing.{next_nothing}
use Rattle.lexer_words.proofs.names.name.Goals.{in-97, in-116, in-102, in-112, in-98, in-103, in_default+in_ok-char_at-in_default}
use Rattle.lexer_words.proofs.names.name.Goals as goal

pub keyword-stem-requires : goal.keyword-stem-requires
keyword-stem-requires c = (refl, name_true c.args.s.now c.requires.0 c.in-116.is)

pub keyword-stem-requires-in-102 : goal.keyword-stem-requires-in-102
keyword-stem-requires-in-102 c = (refl, name_false c.args.s.now c.requires.0 c.in-102.is)

pub keyword-stem-requires-in-112 : goal.keyword-stem-requires-in-112
keyword-stem-requires-in-112 c = (refl, name_prefix c.args.s.now c.requires.0 c.in-112.is)

pub keyword-stem-requires-in-98 : goal.keyword-stem-requires-in-98
keyword-stem-requires-in-98 c = (refl, name_base c.args.s.now c.requires.0 c.in-98.is)

pub keyword-stem-requires-in-103 : goal.keyword-stem-requires-in-103
keyword-stem-requires-in-103 c = (refl, name_graph c.args.s.now c.requires.0 c.in-103.is)

pub returns-in_err-char_at-in_default : goal.returns-in_err-char_at-in_default
returns-in_err-char_at-in_default c = rw c.from_residual.ensures (next_nothing c.args.s.now c.args.clear (name_none c.args.s.now c.requires.0 c.requires.1 _ c.char_at.ensures c.in_err-char_at-in_default.was))

-- The stem is that of the arm.
abbrev Begun : Text → Stem → Type 0
Begun s x = At s in_prefix x.len (word_of x.kind x.len)

pub word_or_name-requires : goal.word_or_name-requires
word_or_name-requires c = (elim c.match-s.branch [ in-97 w ↦ subst (Begun c.args.s.now) (sym w.stem-is) (name_a c.args.s.now c.requires.0 w.in-97.is) | in-116 w ↦ subst (Begun c.args.s.now) (sym w.stem-is) w.keyword-stem.ensures | in-102 w ↦ subst (Begun c.args.s.now) (sym w.stem-is) w.keyword-stem-in-102.ensures | in-112 w ↦ subst (Begun c.args.s.now) (sym w.stem-is) w.keyword-stem-in-112.ensures | in-98 w ↦ subst (Begun c.args.s.now) (sym w.stem-is) w.keyword-stem-in-98.ensures | in-103 w ↦ subst (Begun c.args.s.now) (sym w.stem-is) w.keyword-stem-in-103.ensures | in_default+in_ok-char_at-in_default w ↦ subst (Begun c.args.s.now) (sym w.stem-is) (name_more c.args.s.now c.requires.0 c.requires.1 _ w.char_at.ensures (sym (ranged_rest key_letter _ ((71 ∷ 103 ∷ []) ∷ (66 ∷ 98 ∷ []) ∷ (80 ∷ 112 ∷ []) ∷ (102 ∷ []) ∷ (116 ∷ []) ∷ (97 ∷ []) ∷ []) 0 256 tt _ w.in_default.in_default-own.rest (omega arith) (c.type_inv.s 0).fits)) _ w.in_ok-char_at-in_default.was) ], no_colon_mark c.args.s.now c.requires.0 c.requires.1)

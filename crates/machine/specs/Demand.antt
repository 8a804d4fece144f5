-- When a document is accepted: in words about the mode, the document and what is lent, and nothing else.
use Rattle.std.specs.Prelude.{◌≡◌, List, [], ◌∷◌, ◌++◌, Bool, false, ℕ, ◌+◌, ◌*◌, ◌≤◌, T, length}
use Rattle.std.proofs.Math.Option.{none}
use Rattle.text.specs.Text.{Text}
use Rattle.utf8.specs.Utf8.{first_bad}
use Rattle.token.specs.Tokens.{Token, lexemes, tokens_of, readable}
use Rattle.grammar.specs.Productions.{Grammatical}
use Rattle.dataset.specs.Constructors.{in_force}
use Rattle.table.specs.Tables.{store_size}
use Rattle.machine.specs.Memory.{Memory}
use Rattle.machine.specs.Refusals.{no_character, undeclared, no_base, too_long, one_prefix_more, too_deep, new_depth}
use Rattle.machine.specs.Call.{Lent, Room, room_up_to, room_of, mode_of, first_refusal, first_checks}
use Rattle.machine.specs.Construction.{tables}

-- The tokens of a document, up to the first place where none can be read.
abbrev pub document_tokens : Text → List Token
document_tokens doc = tokens_of (lexemes doc)

-- How many [ and ( are open after these tokens.
unfoldable pub depth_from : ℕ → List Token → ℕ
depth_from d [] = d
depth_from d (t ∷ ts) = depth_from (new_depth d t) ts

abbrev pub depth_after : List Token → ℕ
depth_after ts = depth_from 0 ts

-- The refusal applies to none of the tokens ts, where `before` stand before them.
abbrev pub Nowhere : (List Token → Token → Bool) → List Token → List Token → Type 0
Nowhere refuses before [] = Unit {0}
Nowhere refuses before (t ∷ ts) = (refuses before t ≡ false) × Nowhere refuses (before ++ t ∷ []) ts

-- What the tokens ts have to meet by themselves, where `base` was lent and `before` stand before them.
pub record Fair (base : Text) (before ts : List Token) : Type 0 where
  -- "Real characters: 7 applies nowhere."
  pub characters : Nowhere (λ xs t. no_character t) before ts
  -- "Each prefixed name outside a directive has its prefix in an earlier directive."
  pub declared : Nowhere (λ xs t. undeclared (in_force base xs) t) before ts
  -- "Each reference, a directive's too, has a scheme, or a base that is not empty was lent, or one was set by an earlier directive."
  pub based : Nowhere (λ xs t. no_base (in_force base xs) t) before ts
  -- "Limits: those of 1, 11, 12 and 13."
  pub lengths : Nowhere (λ xs t. too_long (in_force base xs) t) before ts
  pub prefixes : Nowhere (λ xs t. one_prefix_more (in_force base xs)) before ts
  pub depth : Nowhere (λ xs t. too_deep (depth_after xs) t) before ts

-- "A document of n bytes makes at most 2n rows": with them 2n + 9 terms, and 1,025n + 386 bytes of the store.
abbrev pub room_for : ℕ → Room
room_for n = room_up_to (2 * n) (2 * n + 9) (1025 * n + 386)

-- Each lent table holds what is written there.
pub record Fits (room : Room) (m : Memory) : Type 0 where
  pub rows : length m.rows ≤ room.rows
  pub terms : length m.terms ≤ room.terms
  pub store : store_size m.terms ≤ room.store

-- The conditions of acceptance.
pub record Meets (doc : Text) (mode : ℕ) (base : Text) (lent : Lent) : Type 0 where
  -- "Usable: 2 to 4 don't apply", and the limit of 1
  pub usable : first_refusal (first_checks doc mode base lent) ≡ none
  pub utf8 : first_bad doc ≡ none
  -- the whole document cuts into tokens
  pub cuts : T (readable (lexemes doc))
  -- "A derivation is a tree of the mode's published productions, the whole document's at the root; its leaves are all the tokens in order"
  pub derivation : Grammatical (mode_of mode) (document_tokens doc)
  pub fair : Fair base [] (document_tokens doc)
  -- "Room: each lent table holds all that these rules write there for a document that meets the rest."
  pub room : Fits (room_of lent) (tables (mode_of mode) derivation.0 base)

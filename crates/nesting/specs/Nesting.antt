-- What the readers that call each other say of the machine.
use Rattle.std.specs.Prelude.{◌≡◌, true, List, [], ◌∷◌, ◌⊎◌, ℕ, suc, ◌+◌, ◌*◌, ◌-◌, ◌≤◌, ◌<◌, eqb, length, get_or}
use Rattle.std.specs.Borrow.{MutBor}
use Rattle.text.specs.Text.{Text, cond}
use Rattle.limits.specs.Refusal.{number}
use Rattle.limits.specs.declared.Refusal.{Refusal}
use Rattle.token.specs.Kind.{kind_code, strings, comma, semicolon, close_paren}
use Rattle.machine.specs.Frame.{Ending, bracket_end, Place, Cells, no_cell, cells, Frame, bracket, list, object, after_object, after_semicolon}
use Rattle.machine.specs.Rules.{after_node, after_properties}
use Rattle.state.specs.Words.{terms_word, list_word, x_word, y_word, opened_word, last_word, level_word, level_size, kind_in, at_in, depth_in, node_in, list_in}
use Rattle.simulation.specs.Simulation.{code_among, held, Ready, Reads}
use Rattle.state.specs.declared.Held.{Held}
use Rattle.nesting.specs.declared.End.{End}
use Rattle.nesting.specs.declared.End.TheVariants.{Read, Refused}
use Rattle.nodes.specs.Nodes.{PutsTerm, Slot, Fills, Verbs, Ends, Steady, Settled, Belongs, InList}
use Rattle.table.specs.Layout.{word_limit}

-- What a reader that others call has come to: 0 where it has read to its end, and else the number of why not.
abbrev pub told : End → Refusal → ℕ
told Read why = 0
told Refused why = number why

-- Semicolons were passed.
pub record Skips (doc : Text) (st st' : List ℕ) : Type 0 where
  pub reads : (work rows terms store : MutBor (List ℕ)) → Ready doc (held work rows terms store st) → (s p : ℕ) (e : Ending) → Reads doc (after_object s p e ∷ []) (after_semicolon s e ∷ []) (held work rows terms store st) (held work rows terms store st') 0
  pub ended : kind_in st' ≡ kind_code semicolon → ⊥
  pub depth : depth_in st' ≡ depth_in st
  pub later : at_in st < at_in st'
  pub spot : (k : ℕ) → list_word ≤ k → get_or st' k 0 ≡ get_or st k 0
  pub words : length st' ≡ length st

-- A node of its own tokens alone was read: a term is at its place, and a string literal fills what awaited it.
pub record Leaf (doc : Text) (a b : Held) (r : ℕ) : Type 0 where
  pub puts : PutsTerm doc a b r
  pub fills : code_among strings (kind_in a.st) ≡ true → Fills doc a b r × Settled a b r

-- Some frame awaits a node.
abbrev pub Awaited : Text → Held → Type 0
Awaited doc h = (f : Frame) × ((g : Frame) × Slot doc h f g)

-- The objects of a subject and a predicate.
pub record Objects (doc : Text) (a b : Held) (s p r : ℕ) : Type 0 where
  pub reads : (e : Ending) → Reads doc (object s p e ∷ []) (after_object s p e ∷ []) a b r
  pub ended : r ≡ 0 → kind_in b.st ≡ kind_code comma → ⊥
  pub steady : Steady a b r

-- Predicates and objects: the frame that is open behind them takes nothing but their end.
pub record Listed (doc : Text) (f : Frame) (e : Ending) (after : List Frame) (a b : Held) (r : ℕ) : Type 0 where
  pub open_frame : Frame
  pub reads : Reads doc (f ∷ []) (open_frame ∷ after) a b r
  pub ends : r ≡ 0 → Ends open_frame e (kind_in b.st)

pub record Properties (doc : Text) (a b : Held) (s r : ℕ) : Type 0 where
  pub reads : (f : Frame) (e : Ending) (after : List Frame) → Verbs f s e after → Listed doc f e after a b r
  pub steady : Steady a b r

-- The elements of a list were read to its end. Its node is rdf:nil, or its first cell.
abbrev pub list_node : Held → Held → ℕ
list_node a b = cond (eqb (kind_in a.st) (kind_code close_paren)) (node_in b.st) (suc (get_or a.st terms_word 0))

pub record Lists (doc : Text) (a b : Held) (r : ℕ) : Type 0 where
  pub reads : (place : Place) → Belongs place (get_or a.st x_word 0) (get_or a.st y_word 0) → Reads doc (list place (get_or a.st opened_word 0) no_cell ∷ []) (after_node place (list_node a b)) a b r
  pub depth : r ≡ 0 → depth_in b.st + 1 ≡ depth_in a.st
  pub small : r ≡ 0 → list_node a b < word_limit
  pub some_node : r ≡ 0 → 0 < list_node a b

-- The place of a list that was opened is put where its first element looks for it.
pub record Entered (st st' : List ℕ) (at cell : ℕ) : Type 0 where
  pub list_is : list_in st' ≡ 1
  pub x_is : get_or st' x_word 0 ≡ cond (eqb (list_in st) 0) (get_or st x_word 0) cell
  pub y_is : get_or st' y_word 0 ≡ cond (eqb (list_in st) 0) (get_or st y_word 0) 0
  pub opened_is : get_or st' opened_word 0 ≡ at
  pub last_is : get_or st' last_word 0 ≡ 0
  pub before : (k : ℕ) → k < list_word → get_or st' k 0 ≡ get_or st k 0
  pub behind : (k : ℕ) → last_word < k → get_or st' k 0 ≡ get_or st k 0
  pub words : length st' ≡ length st

-- ---- Levels

-- Two words of each depth: what is resumed there once a node is complete.
abbrev pub level_x : List ℕ → ℕ → ℕ
level_x st d = get_or st (level_word + level_size * d) 0

abbrev pub level_y : List ℕ → ℕ → ℕ
level_y st d = get_or st (level_word + level_size * d + 1) 0

-- They were put at the depth that is reached.
pub record Marked (st st' : List ℕ) (x y : ℕ) : Type 0 where
  pub x_is : level_x st' (depth_in st) ≡ x
  pub y_is : level_y st' (depth_in st) ≡ y
  pub below : (k : ℕ) → k < level_word + level_size * depth_in st → get_or st' k 0 ≡ get_or st k 0
  pub words : length st' ≡ length st

-- A list, no subject, whose last cell this is: where it stands does not matter to what follows.
pub record ListOf (last : ℕ) (f : Frame) : Type 0 where
  pub place : Place
  pub opened : ℕ
  pub head : ℕ
  pub is_list : f ≡ list place opened (cells head last)
  pub no_node : (n : ℕ) → after_node place n ≡ []

-- The words x and y of a level save the frame f: behind an object of the subject x and the predicate y; or a list, x being 0.
pub record Saves (x y : ℕ) (f : Frame) : Type 0 where
  pub x_small : x < word_limit
  pub y_small : y < word_limit
  pub some_y : 0 < y
  pub frame : ((0 < x) × (f ≡ after_object x y bracket_end)) ⊎ ((x ≡ 0) × ListOf y f)

-- From the depth d down the levels save these frames, and end with a level of zeros: there the caller goes on.
abbrev pub Levels : List ℕ → ℕ → List Frame → Type 0
Levels st d [] = (level_x st d ≡ 0) × (level_y st d ≡ 0)
Levels st d (f ∷ fs) = (0 < d) × (Saves (level_x st d) (level_y st d) f × Levels st (d - 1) fs)

abbrev pub SomeLevels : List ℕ → ℕ → Type 0
SomeLevels st d = (fs : List Frame) × Levels st d fs

-- A bracket is open, with levels below it.
abbrev pub Deep : List ℕ → Type 0
Deep st = (0 < depth_in st) × SomeLevels st (depth_in st - 1)

-- ---- What the readers of a bracket's contents say

-- These frames were read to their ends, each of them a level.
pub record Finishes (doc : Text) (fs : List Frame) (a b : Held) (r : ℕ) : Type 0 where
  pub reads : Reads doc fs [] a b r
  pub depth : r ≡ 0 → depth_in b.st + length fs ≡ depth_in a.st

-- What the levels save was read.
abbrev pub Resumes : Text → Held → Held → ℕ → Type 0
Resumes doc a b r = (fs : List Frame) → Levels a.st (depth_in a.st) fs → Finishes doc fs a b r

-- The frame f was read, and what the levels below it save.
abbrev pub Ascends : Text → Frame → Held → Held → ℕ → Type 0
Ascends doc f a b r = (fs : List Frame) → Levels a.st (depth_in a.st - 1) fs → Finishes doc (f ∷ fs) a b r

-- A node was read where one was awaited, and what the levels save behind it.
pub record Values (doc : Text) (a b : Held) (r : ℕ) : Type 0 where
  pub goes_on : (f g : Frame) → Slot doc a f g → (fs : List Frame) → Levels a.st (depth_in a.st) (g ∷ fs) → Finishes doc (f ∷ fs) a b r
  pub alone : Levels a.st (depth_in a.st) [] → (f g : Frame) → Slot doc a f g → Reads doc (f ∷ []) (g ∷ []) a b r × Steady a b r

-- The contents of a bracket that is an object or element.
abbrev pub Contents : Text → Held → Held → ℕ → Type 0
Contents doc a b r = (place : Place) → ((n : ℕ) → after_node place n ≡ []) → ((n : ℕ) → after_properties place n ≡ []) → Ascends doc (bracket place (node_in a.st)) a b r

-- A predicate of the subject that the level holds, and what follows it.
abbrev pub Predicates : Text → Held → Held → ℕ → Type 0
Predicates doc a b r = (f : Frame) → Verbs f (level_x a.st (depth_in a.st)) bracket_end [] → Ascends doc f a b r

-- What follows an object of the subject and the predicate that the level holds.
abbrev pub Follows : Text → Held → Held → ℕ → Type 0
Follows doc a b r = Ascends doc (after_object (level_x a.st (depth_in a.st)) (level_y a.st (depth_in a.st)) bracket_end) a b r

-- The end of a bracket.
abbrev pub Closing : Text → Held → Held → ℕ → Type 0
Closing doc a b r = (f : Frame) → Ends f bracket_end (kind_in a.st) → Ascends doc f a b r

-- The next element of a list, or its end.
abbrev pub Elements : Text → Held → Held → ℕ → Type 0
Elements doc a b r = (place : Place) → ((n : ℕ) → after_node place n ≡ []) → (opened : ℕ) (cs : Cells) → InList a place opened cs → Ascends doc (list place opened cs) a b r

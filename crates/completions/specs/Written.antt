-- What the tokens so far write, in words about the mode, the tokens and the lent base: the largest tables with which the tables of every completion begin.
use Rattle.std.specs.Prelude.{◌≡◌, Bool, false, List, [], ◌∷◌, ◌++◌, ℕ, ◌≤◌, length}
use Rattle.text.specs.Text.{Text}
use Rattle.token.specs.Kind.{carets, LANGTAG}
use Rattle.token.specs.Tokens.{Token, has_kind}
use Rattle.grammar.specs.Ebnf.{leaves}
use Rattle.grammar.specs.Productions.{Mode, Derivation, kind_of, production}
use Rattle.dataset.specs.Terms.{Term}
use Rattle.table.specs.Layout.{Row}
use Rattle.machine.specs.Memory.{Memory}
use Rattle.machine.specs.Call.{Room}
use Rattle.machine.specs.Construction.{tables}
use Rattle.machine.specs.Demand.{Fits}

abbrev pub Beginning : {A : Type 0} → List A → List A → Type 0
Beginning {A} xs ys = (zs : List A) × (ys ≡ xs ++ zs)

-- Is the first of these tokens a tag or ^^?
abbrev pub tag_first : List Token → Bool
tag_first [] = false
tag_first (t ∷ ts) = has_kind (LANGTAG ∷ carets ∷ []) t

-- "some tokens, or none, put after them give a list with a derivation". "A string not followed by a tag or ^^ is complete at its own token":
-- tied: the last of them is a string, and a tag or ^^ follows it.
pub record Completion (tied : Bool) (mode : Mode) (ts : List Token) : Type 0 where
  pub rest : List Token
  pub complete : tag_first rest ≡ tied
  pub derivation : Derivation mode
  pub tokens : leaves kind_of (production mode) derivation ≡ ts ++ rest

-- No row has an object that is not there.
abbrev pub ObjectsThere : ℕ → List Row → Type 0
ObjectsThere n [] = Unit {0}
ObjectsThere n (r ∷ rs) = (r.object ≤ n) × ObjectsThere n rs

-- Rows and terms with which the tables of every completion begin.
pub record Common (tied : Bool) (mode : Mode) (base : Text) (ts : List Token) (rows : List Row) (terms : List Term) : Type 0 where
  pub rows_begin : (c : Completion tied mode ts) → Beginning rows (tables mode c.derivation base).rows
  pub terms_begin : (c : Completion tied mode ts) → Beginning terms (tables mode c.derivation base).terms
  pub there : ObjectsThere (length terms) rows

-- The largest such.
pub record Written (tied : Bool) (mode : Mode) (base : Text) (ts : List Token) (rows : List Row) (terms : List Term) : Type 0 where
  pub common : Common tied mode base ts rows terms
  pub largest : (rows' : List Row) (terms' : List Term) → Common tied mode base ts rows' terms' → Beginning rows' rows × Beginning terms' terms

-- What the tokens write fits, where no tag and no ^^ follows.
pub record WrittenFits (mode : Mode) (room : Room) (base : Text) (ts : List Token) : Type 0 where
  pub memory : Memory
  pub written : Written false mode base ts memory.rows memory.terms
  pub fits : Fits room memory

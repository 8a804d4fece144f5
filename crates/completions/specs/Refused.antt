-- Which refusal from 6 on stands where: in words about the mode, the document and what is lent, and never of what the reader did.
use Rattle.std.specs.Prelude.{◌≡◌, ◌⊎◌, List, [], ◌∷◌, Bool, not, ◌&&◌, ℕ, suc, ◌<◌, T, length, take, drop}
use Rattle.std.proofs.Math.Option.{none}
use Rattle.text.specs.Text.{Text}
use Rattle.utf8.specs.Utf8.{first_bad}
use Rattle.token.specs.Kind.{strings}
use Rattle.token.specs.Tokens.{Token, has_kind, lexemes, readable}
use Rattle.grammar.specs.Productions.{Mode, GrammarFailsAt}
use Rattle.dataset.specs.Terms.{Term}
use Rattle.dataset.specs.Constructors.{in_force}
use Rattle.table.specs.Layout.{Row}
use Rattle.table.specs.Tables.{store_size}
use Rattle.machine.specs.Refusals.{no_character, undeclared, no_base, too_long, one_prefix_more, too_deep}
use Rattle.machine.specs.Call.{Lent, room_of, mode_of, first_refusal, first_checks}
use Rattle.machine.specs.Demand.{document_tokens, depth_after}
use Rattle.completions.specs.Written.{tag_first, Written}

-- ---- Refusals in order

infix 80 ◌if◌
-- A refusal's number, and when it applies.
pub data Condition : Type 1 where
  ◌if◌ : ℕ → Type 0 → Condition

-- n is the number of the first that applies.
abbrev pub First : List Condition → ℕ → Type 0
First [] n = ⊥
First ((k if A) ∷ cs) n = (A × (n ≡ k)) ⊎ (¬ A × First cs n)

-- ---- At a token

-- P holds of token i.
pub record At (ts : List Token) (i : ℕ) (P : Token → Type 0) : Type 0 where
  pub token : Token
  pub there : take 1 (drop i ts) ≡ token ∷ []
  pub holds : P token

-- What the tokens ts write has a larger size than there is room for.
pub record Exceeds (tied : Bool) (mode : Mode) (base : Text) (ts : List Token) (room : ℕ) (size : List Row → List Term → ℕ) : Type 0 where
  pub rows : List Row
  pub terms : List Term
  pub written : Written tied mode base ts rows terms
  pub larger : room < size rows terms

-- "rows, terms, store too small for what this token writes". "A string not followed by a tag or ^^ .. is complete at its own token".
abbrev pub TooSmall : Mode → Text → List Token → ℕ → ℕ → (List Row → List Term → ℕ) → Type 0
TooSmall mode base ts i room size = At ts i (λ t. Exceeds (has_kind strings t && tag_first (drop (suc i) ts)) mode base (take (suc i) ts) room size)

-- "at each token 6 to 16 in number order, 14 to 16 counting everything that token writes"
-- At token i; or at the document's end, or the place where no token can be read, which is where i is the number of tokens.
unfoldable pub refusals : Text → ℕ → Text → Lent → ℕ → List Condition
refusals doc mode base lent i =
    let ts = document_tokens doc in
    let force = in_force base (take i ts) in
    let room = room_of lent in
    6 if ((i ≡ length ts) × T (not (readable (lexemes doc))))
    ∷ 7 if At ts i (λ t. T (no_character t))
    ∷ 8 if GrammarFailsAt (mode_of mode) ts i
    ∷ 9 if At ts i (λ t. T (undeclared force t))
    ∷ 10 if At ts i (λ t. T (no_base force t))
    ∷ 11 if At ts i (λ t. T (too_long force t))
    ∷ 12 if At ts i (λ t. T (one_prefix_more force))
    ∷ 13 if At ts i (λ t. T (too_deep (depth_after (take i ts)) t))
    ∷ 14 if TooSmall (mode_of mode) base ts i room.rows (λ rows terms. length rows)
    ∷ 15 if TooSmall (mode_of mode) base ts i room.terms (λ rows terms. length terms)
    ∷ 16 if TooSmall (mode_of mode) base ts i room.store (λ rows terms. store_size terms)
    ∷ []

-- "Checks 1 to 4 come in that order .. Then 5 over the whole document. Then token by token": the refusal n stands at token i.
pub record Refused (doc : Text) (mode : ℕ) (base : Text) (lent : Lent) (i n : ℕ) : Type 0 where
  pub usable : first_refusal (first_checks doc mode base lent) ≡ none
  pub utf8 : first_bad doc ≡ none
  -- none stands at an earlier place
  pub earlier : (j k : ℕ) → j < i → ¬ (First (refusals doc mode base lent j) k)
  pub here : First (refusals doc mode base lent i) n

-- Semicolons.
use mathlib.Core.Path.{◌≡◌, refl, sym, ◌∙◌, subst}
use mathlib.Core.Logic.{◌⊎◌, inl, inr, ⊎_elim}
use mathlib.Core.List.{List, [], ◌∷◌}
use Prim.Native.Nat.{ℕ, ◌-◌, ◌≤◌, ◌<◌}
use native.Mathlib.Omega.{arith}
use lib.ListN.{length, get_or}
use denote.Ref.{MutBor}
use Rattle.token.specs.Kind.{kind_code, end_kind, unreadable_kind, semicolon}
use Rattle.environment.specs.Code.{words_size}
use Rattle.text.specs.Text.{Text}
use Rattle.machine.specs.Memory.{return}
use Rattle.machine.specs.Frame.{Ending, after_object, after_semicolon}
use Rattle.machine.specs.Refusals.{new_depth}
use Rattle.state.specs.Words.{list_word, kind_in, at_in, depth_in, graph_in}
use Rattle.state.specs.Cursor.{Cursor, TokenHere}
use Rattle.simulation.specs.Simulation.{held, here, Ready, Reads, on_top}
use Rattle.simulation.proofs.Compose.{comes_then}
use Rattle.simulation.proofs.Frames.{reads_does}
use Rattle.nodes.specs.Nodes.{Passed}
use Rattle.nodes.proofs.Passing.{Quiet, passed_same}
use Rattle.nesting.specs.Nesting.{Skips}

-- Semicolons were passed, and more may come.
pub record Skipping (doc : Text) (st st' : List ℕ) : Type 0 where
  pub reads : (work rows terms store : MutBor (List ℕ)) → Ready doc (held work rows terms store st) → (s p : ℕ) (e : Ending) → Reads doc (after_object s p e ∷ []) (after_semicolon s e ∷ []) (held work rows terms store st) (held work rows terms store st') 0
  pub cursor : Cursor doc st'
  pub depth : depth_in st' ≡ depth_in st
  pub later : at_in st < at_in st'
  pub spot : (k : ℕ) → list_word ≤ k → get_or st' k 0 ≡ get_or st k 0
  pub words : length st' ≡ length st

quiet : Quiet (kind_code semicolon)
quiet = record { escapes = refl; reference = refl; name = refl; opening = refl }

-- A token with this number is there.
pub token_there : (doc : Text) (st : List ℕ) (k : ℕ) → Cursor doc st → kind_in st ≡ k → (k ≡ end_kind → ⊥) → (k ≡ unreadable_kind → ⊥) → TokenHere doc st
token_there doc st k c e z y = c.token (λ h. z (sym e ∙ h)) (λ h. y (sym e ∙ h))

module _ (doc : Text) (st st' : List ℕ) (e : kind_in st ≡ kind_code semicolon) (c : Cursor doc st) (p : Passed doc st st' (depth_in st) (graph_in st)) where
  depth_21 : (work rows terms store : MutBor (List ℕ)) → depth_in st ≡ new_depth (depth_in st) (here doc (held work rows terms store st))
  unfolding new_depth
  depth_21 work rows terms store = rw e

  module _ (work rows terms store : MutBor (List ℕ)) (ready : Ready doc (held work rows terms store st)) where
    after_first : (s q : ℕ) (x : Ending) → Reads doc (after_object s q x ∷ []) (after_semicolon s x ∷ []) (held work rows terms store st) (held work rows terms store st') 0
    after_first s q x =
        reads_does doc (after_object s q x) (after_semicolon s x ∷ []) (held work rows terms store st) (held work rows terms store st') 0 ready (λ m. (0, m)) (token_there doc st (kind_code semicolon) c e (λ h. omega arith) (λ h. omega arith)) (λ h. omega arith)
        (passed_same doc work rows terms store st st' 21 (depth_in st) 0 e quiet p (depth_21 work rows terms store))
        (λ tied. (return (after_semicolon s x ∷ []), (rw e, λ old m h. (refl, λ y. refl))))

    after_more : (s : ℕ) (x : Ending) → Reads doc (after_semicolon s x ∷ []) (after_semicolon s x ∷ []) (held work rows terms store st) (held work rows terms store st') 0
    after_more s x =
        reads_does doc (after_semicolon s x) (after_semicolon s x ∷ []) (held work rows terms store st) (held work rows terms store st') 0 ready (λ m. (0, m)) (token_there doc st (kind_code semicolon) c e (λ h. omega arith) (λ h. omega arith)) (λ h. omega arith)
        (passed_same doc work rows terms store st st' 21 (depth_in st) 0 e quiet p (depth_21 work rows terms store))
        (λ tied. (return (after_semicolon s x ∷ []), (rw e, λ old m h. (refl, λ y. refl))))

  pub skip_first : Skipping doc st st'
  skip_first = record { reads = λ work rows terms store ready s q x. after_first work rows terms store ready s q x; cursor = p.cursor; depth = p.depth_is; later = p.later; spot = p.spot; words = p.words }

  pub skip_more : (st₀ : List ℕ) → Skipping doc st₀ st → Skipping doc st₀ st'
  skip_more st₀ k =
      record {
        reads = λ work rows terms store ready s q x.
            let a = held work rows terms store st₀ in
            let b = held work rows terms store st in
            let d = held work rows terms store st' in
            let R = k.reads work rows terms store ready s q x in
            comes_then doc (on_top (after_object s q x ∷ [])) (on_top (after_semicolon s x ∷ [])) (on_top (after_semicolon s x ∷ [])) a b d 0 0 R refl (after_more work rows terms store (R.ready refl) s x);
        cursor = p.cursor;
        depth = p.depth_is ∙ k.depth;
        later = omega (arith, k.later, p.later);
        spot = λ i h. p.spot i h ∙ k.spot i h;
        words = p.words ∙ k.words;
      }

-- Before the next semicolon: it is the first, or others were passed.
pub record SkipInv (doc : Text) (st₀ st : List ℕ) : Type 0 where
  pub cursor : Cursor doc st
  pub kind : kind_in st ≡ kind_code semicolon
  pub words : length st ≡ length st₀
  pub way : (st ≡ st₀) ⊎ Skipping doc st₀ st

pub skip_start : (doc : Text) (st : List ℕ) → Cursor doc st → kind_in st ≡ kind_code semicolon → SkipInv doc st st
skip_start doc st c e = record { cursor = c; kind = e; words = refl; way = inl refl }

module _ (doc : Text) (st₀ st st' : List ℕ) (I : SkipInv doc st₀ st) (p : Passed doc st st' (depth_in st) (graph_in st)) where
  skipped : Skipping doc st₀ st'
  skipped = ⊎_elim (λ e. subst (λ (l : List ℕ). Skipping doc l st') e (skip_first doc st st' I.kind I.cursor p)) (λ k. skip_more doc st st' I.kind I.cursor p st₀ k) I.way

  pub skip_again : kind_in st' ≡ kind_code semicolon → SkipInv doc st₀ st'
  skip_again e = record { cursor = p.cursor; kind = e; words = p.words ∙ I.words; way = inr skipped }

  pub skips : (kind_in st' ≡ kind_code semicolon → ⊥) → Skips doc st₀ st'
  skips z = let k = skipped in record { reads = k.reads; ended = z; depth = k.depth; later = k.later; spot = k.spot; words = k.words }

  pub skip_less : length doc - at_in st' < length doc - at_in st
  skip_less = omega (arith, p.later, p.cursor.inside)

pub skip_ready : (doc : Text) (st₀ st : List ℕ) → SkipInv doc st₀ st → length st₀ ≡ words_size → (Cursor doc st × TokenHere doc st) × (length st ≡ words_size)
skip_ready doc st₀ st I n = ((I.cursor, token_there doc st (kind_code semicolon) I.cursor I.kind (λ h. omega arith) (λ h. omega arith)), I.words ∙ n)

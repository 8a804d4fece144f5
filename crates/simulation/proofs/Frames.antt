-- The same for frames: what the rules of a frame say, whatever is open below it.
use mathlib.Core.Path.{◌≡◌, refl, sym, ap}
use mathlib.Core.List.{List, [], ◌∷◌, ◌++◌}
use mathlib.Core.Bool.{Bool}
use mathlib.Core.Option.{none, some}
use Prim.Native.Nat.{ℕ}
use Rattle.text.specs.Text.{Text}
use Rattle.text.proofs.Compare.{by}
use Rattle.table.proofs.Numbers.{not_none}
use Rattle.machine.proofs.Made.{some_same}
use Rattle.token.specs.Kind.{Kind, end_kind, among}
use Rattle.token.specs.Tokens.{Token}
use Rattle.machine.specs.Memory.{Memory, Write, return, ◌>>=◌}
use Rattle.machine.specs.Frame.{Frame, statement}
use Rattle.machine.specs.Rules.{Rule, ◌⇒◌, find_rule, above, frame_rules, rules}
use Rattle.state.specs.Words.{kind_in}
use Rattle.state.specs.Cursor.{TokenHere}
use Rattle.state.specs.Represents.{Tables}
use Rattle.simulation.specs.Simulation.{here, Holding, Ready, Reads, Does, refusal_here}
use Rattle.state.specs.declared.Held.{Held}
use Rattle.simulation.proofs.Steps.{does_ready, does_comes, refused_comes, tied_here}

module _ (t : Token) (tied : Bool) (K : List Frame) (k : Kind) where
  pub found_above : (rs : List (Rule (List Frame))) (w : Write (List Frame)) → find_rule k rs ≡ some w → find_rule k (above t tied K rs) ≡ some (w >>= λ fs. return (statement (fs ++ K)))
  found_above [] w e = not_none e
  found_above ((ks ⇒ v) ∷ rs) w e =
      by (among ks k)
      (λ h. rw h (ap (λ (x : Write (List Frame)). some (x >>= λ fs. return (statement (fs ++ K)))) (some_same (rw h at e))))
      (λ h. rw h (found_above rs w (rw h at e)))

  pub none_above : (rs : List (Rule (List Frame))) → find_rule k rs ≡ none → find_rule k (above t tied K rs) ≡ none
  none_above [] e = refl
  none_above ((ks ⇒ v) ∷ rs) e = by (among ks k) (λ h. not_none (sym (rw h at e))) (λ h. rw h (none_above rs (rw h at e)))

-- What a rule of the frame f does at the token of the cursor.
abbrev pub FrameDoes : Text → Write ℕ → Frame → List Frame → Held → ℕ → Type 0
FrameDoes doc w f gs a r =
    (tied : Bool) → (v : Write (List Frame)) × ((find_rule (here doc a).kind (frame_rules (here doc a) tied f) ≡ some v) × ((old : Tables) (m : Memory) → Holding old m a → ((v m).1 ≡ (w m).1) × (r ≡ 0 → (v m).0 ≡ gs)))

module _ (doc : Text) (f : Frame) (gs : List Frame) (a b : Held) (r : ℕ) (ready : Ready doc a) where
  pub reads_does : (w : Write ℕ) → TokenHere doc a.st → (kind_in a.st ≡ end_kind → ⊥) → Does doc w a b r → FrameDoes doc w f gs a r → Reads doc (f ∷ []) gs a b r
  unfolding rules
  reads_does w h z D rule =
      does_comes doc w (λ k. statement (f ∷ k)) (λ k. statement (gs ++ k)) a b r ready h z D (λ k. refl)
      (λ mode k.
      let (v, (e, q)) = rule (tied_here doc a h z) in (
        (v >>= λ fs. return (statement (fs ++ k))),
        (
          found_above (here doc a) (tied_here doc a h z) k (here doc a).kind (frame_rules (here doc a) (tied_here doc a h z) f) v e,
          λ old m x. ((q old m x).0, λ y. ap (λ (p : List Frame). statement (p ++ k)) ((q old m x).1 y)),
        ),
      ))

pub ready_does : (doc : Text) (w : Write ℕ) (a b : Held) (r : ℕ) → Ready doc a → TokenHere doc a.st → (kind_in a.st ≡ end_kind → ⊥) → Does doc w a b r → r ≡ 0 → Ready doc b
ready_does doc w a b r ready h z D e = does_ready doc w statement statement a b r ready h z D (λ k. refl) e

module _ (doc : Text) (f : Frame) (fs gs : List Frame) (a : Held) (r : ℕ) (ready : Ready doc a) where
  pub reads_none : ((kind_in a.st ≡ end_kind → ⊥) → TokenHere doc a.st → (tied : Bool) → find_rule (here doc a).kind (frame_rules (here doc a) tied f) ≡ none) → r ≡ refusal_here doc a.st → Reads doc (f ∷ fs) gs a a r
  unfolding rules
  reads_none nothing_there e =
      refused_comes doc (λ k. statement (f ∷ (fs ++ k))) (λ k. statement (gs ++ k)) a ready r e
      (record {
        token = λ z h mode k tied. none_above (here doc a) tied (fs ++ k) (here doc a).kind (frame_rules (here doc a) tied f) (nothing_there z h tied);
        ended = λ k n m. refl;
      })

-- A string, its tag and its datatype, as the machine reads them.
use mathlib.Core.Path.{◌≡◌, refl, ap, ◌∙◌}
use mathlib.Core.List.{List, [], ◌∷◌, ◌++◌}
use mathlib.Core.Bool.{Bool, true, false}
use mathlib.Core.Option.{some}
use Prim.Native.Nat.{ℕ, suc, ◌+◌}
use native.Mathlib.Omega.{arith}
use borrow.Author.Tests.{ne_eqb, eqb-true, eqb-false}
use lib.Dec.{eqb}
use lib.ListN.{get_or}
use Rattle.text.specs.Text.{Text}
use Rattle.text.proofs.Compare.{by}
use Rattle.token.specs.Kind.{kind_code, end_kind, unreadable_kind, kind_of_code, among, strings, iris, LANGTAG, carets}
use Rattle.token.specs.Tokens.{Token}
use Rattle.escape.specs.Escape.{bad_escape}
use Rattle.dataset.specs.Terms.{tagged, xsd_string}
use Rattle.dataset.specs.Constructors.{string_text, tag}
use Rattle.machine.specs.Memory.{Memory, Write, return, ◌>>=◌, ◌>>◌, term, typed, typed_by}
use Rattle.machine.specs.Frame.{Place, Frame, statement, suffix, datatype, element_of}
use Rattle.machine.specs.Rules.{find_rule, hold, Opening, simple, string, object_rules, frame_rules, rules}
use Rattle.machine.specs.Refusals.{no_character, undeclared, no_base, too_long, too_deep, new_depth}
use Rattle.machine.specs.Step.{Room, tied_to}
use Rattle.environment.specs.Environment.{Environment}
use Rattle.state.specs.Words.{terms_word, x_word, y_word, kind_in, at_in, len_in, list_in}
use Rattle.state.specs.Cursor.{token_of, remaining, Cursor, TokenHere}
use Rattle.state.specs.Represents.{Tables, room_refusal}
use Rattle.state.specs.Writes.{place_of, begin, placed, opened_at}
use Rattle.cursor.proofs.Seeking.{ahead_token, ahead_none, ahead_end}
use Rattle.simulation.specs.Simulation.{code_among, here, Holding, Ready, Reads, Does, token_refusal, refusal_here}
use Rattle.state.specs.declared.Held.{Held}
use Rattle.simulation.proofs.Tests.{among_code}
use Rattle.simulation.proofs.Steps.{does_comes, tied_here}
use Rattle.simulation.proofs.Frames.{found_above, reads_does, reads_none}
use Rattle.nodes.specs.Nodes.{Slot, slot_place, spot_of, object_kinds}
use Rattle.nodes.proofs.Slots.{slot_plain, slot_list}
use Rattle.rdf_literals.specs.Literals.{ties, quotes_of, text_of, own_x, own_y, own_spot}
use Rattle.rdf_literals.proofs.Quotes.{each_string}

-- ---- The token of a string

-- Its refusals are 7, and those of room.
module _ (room : Room) (depth : ℕ) (e : Environment) (at : ℕ) (s : Text) (m : Memory) where
  pub string_refusal : (k : ℕ) → code_among strings k ≡ true → bad_escape s ≡ false → token_refusal room depth e (record { kind = kind_of_code k; start = at; text = s }) m ≡ room_refusal room m
  unfolding token_refusal room_refusal no_character undeclared no_base too_long too_deep
  string_refusal k h g = each_string (λ (j : ℕ). token_refusal room depth e (record { kind = kind_of_code j; start = at; text = s }) m ≡ room_refusal room m) (rw g) (rw g) (rw g) (rw g) k h

  pub string_seven : (k : ℕ) → code_among strings k ≡ true → bad_escape s ≡ true → token_refusal room depth e (record { kind = kind_of_code k; start = at; text = s }) m ≡ 7
  unfolding token_refusal no_character
  string_seven k h g = each_string (λ (j : ℕ). token_refusal room depth e (record { kind = kind_of_code j; start = at; text = s }) m ≡ 7) (rw g) (rw g) (rw g) (rw g) k h

pub string_depth : (at d : ℕ) (s : Text) (k : ℕ) → code_among strings k ≡ true → new_depth d (record { kind = kind_of_code k; start = at; text = s }) ≡ d
unfolding new_depth
string_depth at d s k h = each_string (λ (j : ℕ). new_depth d (record { kind = kind_of_code j; start = at; text = s }) ≡ d) refl refl refl refl k h

string_found : (t : Token) (tied : Bool) (begins : Write Opening) (k : ℕ) → code_among strings k ≡ true → find_rule (kind_of_code k) (object_rules t tied begins) ≡ some (string t tied begins tied)
string_found t tied begins k h = each_string (λ (j : ℕ). find_rule (kind_of_code j) (object_rules t tied begins) ≡ some (string t tied begins tied)) refl refl refl refl k h

string_object : (k : ℕ) → code_among strings k ≡ true → among object_kinds (kind_of_code k) ≡ true
string_object k h = each_string (λ (j : ℕ). among object_kinds (kind_of_code j) ≡ true) refl refl refl refl k h

text_same : (doc : Text) (at len k : ℕ) → code_among strings k ≡ true → string_text (token_of doc k at len) ≡ text_of doc at len (quotes_of k)
unfolding string_text
text_same doc at len k h = each_string (λ (j : ℕ). string_text (token_of doc j at len) ≡ text_of doc at len (quotes_of j)) refl refl refl refl k h

-- Does what the cursor holds tie the token before it?
pub tied_left : (doc : Text) (st : List ℕ) → Cursor doc st → tied_to (remaining doc st) ≡ code_among ties (kind_in st)
tied_left doc st c =
    by (eqb (kind_in st) end_kind) (λ p. let e = eqb-true (kind_in st) end_kind p in rw (e, ahead_end doc (at_in st) (len_in st)))
    (λ p. by (eqb (kind_in st) unreadable_kind) (λ q. let e = eqb-true (kind_in st) unreadable_kind q in rw (e, ahead_none doc (at_in st) (len_in st)))
    (λ q. let z = eqb-false (kind_in st) end_kind p in
    let t = c.token z (eqb-false (kind_in st) unreadable_kind q) in
    rw (ahead_token doc (kind_in st) (at_in st) (len_in st) z t.known) (among_code ties (kind_in st) z t.known)))

-- As reads_does, where the rule is known for what follows the token.
module _ (doc : Text) (f : Frame) (gs : List Frame) (a b : Held) (r : ℕ) (ready : Ready doc a) (h : TokenHere doc a.st) (z : kind_in a.st ≡ end_kind → ⊥) where
  reads_tied : (w : Write ℕ) → Does doc w a b r → (v : Write (List Frame)) → find_rule (here doc a).kind (frame_rules (here doc a) (tied_here doc a h z) f) ≡ some v
      → ((old : Tables) (m : Memory) → Holding old m a → ((v m).1 ≡ (w m).1) × (r ≡ 0 → (v m).0 ≡ gs)) → Reads doc (f ∷ []) gs a b r
  unfolding rules
  reads_tied w D v e q =
      does_comes doc w (λ k. statement (f ∷ k)) (λ k. statement (gs ++ k)) a b r ready h z D (λ k. refl)
      (λ mode k. (
        (v >>= λ fs. return (statement (fs ++ k))),
        (
          found_above (here doc a) (tied_here doc a h z) k (here doc a).kind (frame_rules (here doc a) (tied_here doc a h z) f) v e,
          λ old m x. ((q old m x).0, λ y. ap (λ (p : List Frame). statement (p ++ k)) ((q old m x).1 y)),
        ),
      ))

module _ (doc : Text) (a b : Held) (r : ℕ) (ready : Ready doc a) (h : TokenHere doc a.st) (z : kind_in a.st ≡ end_kind → ⊥) (k : code_among strings (kind_in a.st) ≡ true) where
  abbrev own_text : Text
  own_text = text_of doc (at_in a.st) (len_in a.st) (quotes_of (kind_in a.st))

  text_here : string_text (here doc a) ≡ own_text
  text_here = text_same doc (at_in a.st) (len_in a.st) (kind_in a.st) k

  slot_found : (f g : Frame) (s : Slot doc a f g) (tied : Bool) → find_rule (here doc a).kind (frame_rules (here doc a) tied f) ≡ some (string (here doc a) tied s.opening tied)
  slot_found f g s tied = s.rules (here doc a).kind tied (string_object (kind_in a.st) k) ∙ string_found (here doc a) tied s.opening (kind_in a.st) k

  -- Complete at its own token.
  pub plain_reads : tied_here doc a h z ≡ false → Does doc (placed (spot_of a) (typed own_text xsd_string)) a b r → (f g : Frame) → Slot doc a f g → Reads doc (f ∷ []) (g ∷ []) a b r
  unfolding placed
  plain_reads e D f g s =
      reads_tied doc f (g ∷ []) a b r ready h z (placed (spot_of a) (typed own_text xsd_string)) D (simple (here doc a) (tied_here doc a h z) s.opening (typed (string_text (here doc a)) xsd_string))
      (slot_found f g s (tied_here doc a h z) ∙ ap (λ (x : Bool). some (string (here doc a) (tied_here doc a h z) s.opening x)) e)
      (λ old m x. (rw (s.opens old m x, s.begins old m x, text_here), λ y. rw (s.opens old m x)))

  -- Not complete: its place is known.
  pub tied_reads : tied_here doc a h z ≡ true → Does doc (opened_at (spot_of a)) a b r → (f g : Frame) → Slot doc a f g → Reads doc (f ∷ []) (suffix (slot_place a) (at_in a.st) own_text ∷ g ∷ []) a b r
  unfolding opened_at
  tied_reads e D f g s =
      reads_tied doc f (suffix (slot_place a) (at_in a.st) own_text ∷ g ∷ []) a b r ready h z (opened_at (spot_of a)) D (string (here doc a) (tied_here doc a h z) s.opening true)
      (slot_found f g s (tied_here doc a h z) ∙ ap (λ (x : Bool). some (string (here doc a) (tied_here doc a h z) s.opening x)) e)
      (λ old m x. (rw (s.opens old m x), λ y. rw (s.opens old m x, text_here)))

  -- An escape that names no character.
  pub seven_reads : ((w : Write ℕ) → Does doc w a b 7) → (f g : Frame) → Slot doc a f g → Reads doc (f ∷ []) (g ∷ []) a b 7
  seven_reads D f g s =
      reads_tied doc f (g ∷ []) a b 7 ready h z (λ m. (0, (string (here doc a) (tied_here doc a h z) s.opening (tied_here doc a h z) m).1)) (D (λ m. (0, (string (here doc a) (tied_here doc a h z) s.opening (tied_here doc a h z) m).1)))
      (string (here doc a) (tied_here doc a h z) s.opening (tied_here doc a h z)) (slot_found f g s (tied_here doc a h z)) (λ old m x. (refl, λ y. absurd (omega arith)))

-- The place that the string got.
pub own_place : (a : Held) → slot_place a ≡ place_of (own_x a.st) (own_y a.st)
own_place a =
    by (eqb (list_in a.st) 0) (λ e. rw e (slot_plain a (get_or a.st x_word 0) (get_or a.st y_word 0) refl refl (eqb-true (list_in a.st) 0 e)))
    (λ e. rw e (slot_list a (eqb-false (list_in a.st) 0 e) ∙ next (get_or a.st terms_word 0)))
  where
    next : (n : ℕ) → element_of (suc n) ≡ place_of (n + 1) 0
    next n = let e : n + 1 ≡ suc n = omega arith in rw e

module _ (st : List ℕ) where
  pub own_x_node : list_in st ≡ 0 → get_or st x_word 0 ≡ own_x st
  own_x_node e = rw e

  pub own_x_cell : (list_in st ≡ 0 → ⊥) → get_or st terms_word 0 + 1 ≡ own_x st
  own_x_cell z = rw (ne_eqb (list_in st) 0 z)

  pub own_y_node : list_in st ≡ 0 → get_or st y_word 0 ≡ own_y st
  own_y_node e = rw e

  pub own_y_cell : (list_in st ≡ 0 → ⊥) → 0 ≡ own_y st
  own_y_cell z = rw (ne_eqb (list_in st) 0 z)

-- ---- What follows it

module _ (doc : Text) (a b : Held) (r : ℕ) (ready : Ready doc a) (x y at : ℕ) (s : Text) where
  pub tag_reads : kind_in a.st ≡ kind_code LANGTAG → TokenHere doc a.st → Does doc (placed (own_spot x y at) (term (tagged s (tag (here doc a))))) a b r → Reads doc (suffix (place_of x y) at s ∷ []) [] a b r
  unfolding placed begin
  tag_reads k h D =
      reads_does doc (suffix (place_of x y) at s) [] a b r ready (placed (own_spot x y at) (term (tagged s (tag (here doc a))))) h (λ e. omega arith) D
      (λ tied. ((term (tagged s (tag (here doc a))) >>= λ n. (hold (place_of x y) n at >> return [])), (rw k, λ old m q. (refl, λ e. refl))))

  pub carets_reads : kind_in a.st ≡ kind_code carets → TokenHere doc a.st → Does doc (λ m. (0, m)) a b r → Reads doc (suffix (place_of x y) at s ∷ []) (datatype (place_of x y) at s ∷ []) a b r
  carets_reads k h D =
      reads_does doc (suffix (place_of x y) at s) (datatype (place_of x y) at s ∷ []) a b r ready (λ m. (0, m)) h (λ e. omega arith) D
      (λ tied. (return (datatype (place_of x y) at s ∷ []), (rw k, λ old m q. (refl, λ e. refl))))

  pub datatype_reads : code_among iris (kind_in a.st) ≡ true → (kind_in a.st ≡ end_kind → ⊥) → TokenHere doc a.st → Does doc (placed (own_spot x y at) (typed_by s (here doc a))) a b r → Reads doc (datatype (place_of x y) at s ∷ []) [] a b r
  unfolding placed begin
  datatype_reads k z h D =
      reads_does doc (datatype (place_of x y) at s) [] a b r ready (placed (own_spot x y at) (typed_by s (here doc a))) h z D
      (λ tied. ((typed_by s (here doc a) >>= λ n. (hold (place_of x y) n at >> return [])), (rw (among_code iris (kind_in a.st) z h.known, k), λ old m q. (refl, λ e. refl))))

pub datatype_none : (doc : Text) (a : Held) (r : ℕ) (ready : Ready doc a) (p : Place) (at : ℕ) (s : Text) → code_among iris (kind_in a.st) ≡ false → r ≡ refusal_here doc a.st → Reads doc (datatype p at s ∷ []) [] a a r
datatype_none doc a r ready p at s k e =
    reads_none doc (datatype p at s) [] [] a r ready (λ z h tied. rw (among_code iris (kind_in a.st) z h.known, k)) e

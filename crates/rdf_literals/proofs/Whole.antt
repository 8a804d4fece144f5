-- A string with what follows it: how the steps of the routines compose.
use mathlib.Core.Path.{◌≡◌, refl, sym, ap, ◌∙◌, subst}
use mathlib.Core.List.{List, [], ◌∷◌}
use mathlib.Core.Bool.{Bool, true, false, not}
use Prim.Native.Nat.{ℕ, ◌+◌, ◌<◌}
use native.Mathlib.Omega.{arith}
use borrow.Author.Tests.{eqb-true}
use lib.Dec.{eqb}
use lib.ListN.{length, get_or, take, drop}
use denote.Ref.{MutBor}
use Rattle.environment.specs.Code.{words_size}
use Rattle.text.specs.Text.{Text}
use Rattle.text.proofs.Compare.{by, contrary}
use Rattle.token.specs.Kind.{kind_code, end_kind, unreadable_kind, kind_of_code, strings, iris, LANGTAG, carets}
use Rattle.escape.specs.Escape.{bad_escape}
use Rattle.dataset.specs.Terms.{tagged, xsd_string}
use Rattle.dataset.specs.Constructors.{tag}
use Rattle.machine.specs.Memory.{Memory, Write, term, typed, typed_by}
use Rattle.machine.specs.Frame.{Place, Frame, suffix, datatype}
use Rattle.machine.specs.Refusals.{new_depth}
use Rattle.state.specs.Words.{terms_word, kind_word, list_word, last_word, opened_word, x_word, y_word, kind_in, at_in, len_in, depth_in, graph_in, list_in}
use Rattle.state.specs.Cursor.{Cursor, TokenHere}
use Rattle.state.specs.Represents.{Tables, room_in, Represented}
use Rattle.state.specs.Writes.{place_of, placed, opened_at, SpotFits}
use Rattle.state.specs.declared.Spot.{Spot}
use Rattle.simulation.specs.Simulation.{code_among, held, tables_of, here, Holding, Ready, Reads, on_top, Does, refusal_here}
use Rattle.state.specs.declared.Held.{Held}
use Rattle.simulation.proofs.Compose.{same_all, comes_then, comes_stop, comes_within}
use Rattle.simulation.proofs.Numbers.{next_held}
use Rattle.simulation.proofs.Steps.{tied_here, here_some}
use Rattle.simulation.proofs.Frames.{ready_does}
use Rattle.nodes.specs.Nodes.{Slot, slot_place, spot_of, Spotted, Fills, Settled, Passed}
use Rattle.nodes.proofs.Moving.{cursor_words, token_words}
use Rattle.nodes.proofs.Passing.{represents_words, Quiet, passed_same}
use Rattle.rdf_literals.specs.Literals.{ties, quotes_of, text_of, Quoted, spot_at, own_x, own_y, own_spot, Adds, Obeys}
use Rattle.rdf_literals.proofs.Quotes.{each_string, string_quoted}
use Rattle.rdf_literals.proofs.Strings.{string_refusal, string_seven, string_depth, tied_left, plain_reads, tied_reads, seven_reads, own_place, tag_reads, carets_reads, datatype_reads, datatype_none}
use Rattle.rdf_literals.proofs.Adding.{adds_does}
use Rattle.rdf_literals.proofs.Fitting.{each_iri}
use Rattle.machine.specs.Step.{tied_to}
use Rattle.table.specs.Layout.{word_limit}

-- ---- At a tag, ^^ or a datatype

each_tie : (P : ℕ → Type 0) → P 7 → P 28 → (k : ℕ) → code_among ties k ≡ true → P k
each_tie P a b k e = by (eqb k (kind_code LANGTAG)) (λ p. subst P (sym (eqb-true k (kind_code LANGTAG) p)) a) (λ p. by (eqb k (kind_code carets)) (λ q. subst P (sym (eqb-true k (kind_code carets) q)) b) (λ q. contrary (sym (rw (p, q) at e))))

-- A kind that is a token's.
abbrev SomeToken : ℕ → Type 0
SomeToken k = (k ≡ end_kind → ⊥) × (k ≡ unreadable_kind → ⊥)

tie_token : (k : ℕ) → code_among ties k ≡ true → SomeToken k
tie_token k e = each_tie SomeToken ((λ x. omega arith), (λ x. omega arith)) ((λ x. omega arith), (λ x. omega arith)) k e

iri_token : (k : ℕ) → code_among iris k ≡ true → SomeToken k
iri_token k e = each_iri SomeToken ((λ x. omega arith), (λ x. omega arith)) ((λ x. omega arith), (λ x. omega arith)) ((λ x. omega arith), (λ x. omega arith)) k e

string_token : (k : ℕ) → code_among strings k ≡ true → SomeToken k
string_token k e = each_string SomeToken ((λ x. omega arith), (λ x. omega arith)) ((λ x. omega arith), (λ x. omega arith)) ((λ x. omega arith), (λ x. omega arith)) ((λ x. omega arith), (λ x. omega arith)) k e

token_at_cursor : (doc : Text) (st : List ℕ) → Cursor doc st → SomeToken (kind_in st) → TokenHere doc st
token_at_cursor doc st c (z, y) = c.token z y

ready_words : (doc : Text) (a : Held) → Ready doc a → length a.st ≡ words_size
ready_words doc a r = let (old, (m, h)) = r.holds in h.usable.words

tag_depth : (at d : ℕ) (s : Text) (k : ℕ) → k ≡ kind_code LANGTAG → new_depth d (record { kind = kind_of_code k; start = at; text = s }) ≡ d
unfolding new_depth
tag_depth at d s k e = rw e

carets_depth : (at d : ℕ) (s : Text) (k : ℕ) → k ≡ kind_code carets → d ≡ new_depth d (record { kind = kind_of_code k; start = at; text = s })
unfolding new_depth
carets_depth at d s k e = rw e

iri_depth : (at d : ℕ) (s : Text) (k : ℕ) → code_among iris k ≡ true → new_depth d (record { kind = kind_of_code k; start = at; text = s }) ≡ d
unfolding new_depth
iri_depth at d s k e = each_iri (λ (j : ℕ). new_depth d (record { kind = kind_of_code j; start = at; text = s }) ≡ d) refl refl refl k e

quiet_carets : Quiet (kind_code carets)
quiet_carets = record { escapes = refl; reference = refl; name = refl; opening = refl }

module _ (doc : Text) (a : Held) where
  pub tag_call : (x y at len n : ℕ) → (Ready doc a × (SpotFits (own_spot x y at) × Quoted doc at len n)) × (kind_in a.st ≡ kind_code LANGTAG)
      → (Represented a.work.now (tables_of a) a.st × (SpotFits (own_spot x y at) × Quoted doc at len n)) × ((Cursor doc a.st × TokenHere doc a.st) × (kind_in a.st ≡ kind_code LANGTAG))
  tag_call x y at len n ((r, s), k) = ((r.holds, s), ((r.cursor, r.cursor.token (λ e. omega arith) (λ e. omega arith)), k))

  pub typed_call : (x y at len n : ℕ) → (Ready doc a × (SpotFits (own_spot x y at) × Quoted doc at len n)) × (code_among iris (kind_in a.st) ≡ true)
      → (Represented a.work.now (tables_of a) a.st × (SpotFits (own_spot x y at) × Quoted doc at len n)) × ((Cursor doc a.st × TokenHere doc a.st) × (code_among iris (kind_in a.st) ≡ true))
  typed_call x y at len n ((r, s), k) = ((r.holds, s), ((r.cursor, token_at_cursor doc a.st r.cursor (iri_token (kind_in a.st) k)), k))

  -- The cursor may go on once w is done.
  obeys_pass : (w : Write ℕ) (work' : Text) (t' : Tables) (st' : List ℕ) (r : ℕ) → Ready doc a → TokenHere doc a.st → Obeys doc w a.work.now work' (tables_of a) t' a.st st' r
      → (Cursor doc st' × TokenHere doc st') × (length st' ≡ words_size)
  obeys_pass w work' t' st' r ready h o = ((cursor_words doc a.st st' (λ k x y. o.stays k x) ready.cursor, token_words doc a.st st' (λ k x y. o.stays k x) h), o.words ∙ ready_words doc a ready)

  pub tag_pass : (w : Write ℕ) (work' : Text) (t' : Tables) (st' : List ℕ) (r : ℕ) → Ready doc a → kind_in a.st ≡ kind_code LANGTAG → Obeys doc w a.work.now work' (tables_of a) t' a.st st' r → (Cursor doc st' × TokenHere doc st') × (length st' ≡ words_size)
  tag_pass w work' t' st' r ready k o = obeys_pass w work' t' st' r ready (ready.cursor.token (λ e. omega arith) (λ e. omega arith)) o

  pub typed_pass : (w : Write ℕ) (work' : Text) (t' : Tables) (st' : List ℕ) (r : ℕ) → Ready doc a → code_among iris (kind_in a.st) ≡ true → Obeys doc w a.work.now work' (tables_of a) t' a.st st' r → (Cursor doc st' × TokenHere doc st') × (length st' ≡ words_size)
  typed_pass w work' t' st' r ready k o = obeys_pass w work' t' st' r ready (token_at_cursor doc a.st ready.cursor (iri_token (kind_in a.st) k)) o

  pub tag_deep : kind_in a.st ≡ kind_code LANGTAG → new_depth (depth_in a.st) (here doc a) ≡ depth_in a.st
  tag_deep k = tag_depth (at_in a.st) (depth_in a.st) (here doc a).text (kind_in a.st) k

  pub typed_deep : code_among iris (kind_in a.st) ≡ true → new_depth (depth_in a.st) (here doc a) ≡ depth_in a.st
  typed_deep k = iri_depth (at_in a.st) (depth_in a.st) (here doc a).text (kind_in a.st) k

  settled_does : (w : Write ℕ) (b : Held) (r : ℕ) → Does doc w a b r → new_depth (depth_in a.st) (here doc a) ≡ depth_in a.st → Settled a b r
  settled_does w b r D e = record { steady = record { depth = λ z. (D.done z).depth ∙ e; later = λ z. (D.done z).later }; spot = λ z. (D.done z).spot }

  module _ (ready : Ready doc a) (x y at len n : ℕ) where
    pub datatype_found : (b : Held) (r : ℕ) → code_among iris (kind_in a.st) ≡ true → Does doc (placed (own_spot x y at) (typed_by (text_of doc at len n) (here doc a))) a b r
        → Reads doc (datatype (place_of x y) at (text_of doc at len n) ∷ []) [] a b r × Settled a b r
    datatype_found b r k D = (
      datatype_reads doc a b r ready x y at (text_of doc at len n) k (iri_token (kind_in a.st) k).0 (token_at_cursor doc a.st ready.cursor (iri_token (kind_in a.st) k)) D,
      settled_does (placed (own_spot x y at) (typed_by (text_of doc at len n) (here doc a))) b r D (typed_deep k),
    )

    pub datatype_missing : (r : ℕ) → code_among iris (kind_in a.st) ≡ false → r ≡ refusal_here doc a.st → Reads doc (datatype (place_of x y) at (text_of doc at len n) ∷ []) [] a a r × Settled a a r
    datatype_missing r k e = (
      datatype_none doc a r ready (place_of x y) at (text_of doc at len n) k e,
      record { steady = record { depth = λ z. refl; later = λ z. absurd (here_some doc a.st (sym e ∙ z)) }; spot = λ z k h. refl },
    )

    pub suffix_tag : (b : Held) (r : ℕ) → kind_in a.st ≡ kind_code LANGTAG → Does doc (placed (own_spot x y at) (term (tagged (text_of doc at len n) (tag (here doc a))))) a b r
        → Reads doc (suffix (place_of x y) at (text_of doc at len n) ∷ []) [] a b r × Settled a b r
    suffix_tag b r k D = (
      tag_reads doc a b r ready x y at (text_of doc at len n) k (ready.cursor.token (λ e. omega arith) (λ e. omega arith)) D,
      settled_does (placed (own_spot x y at) (term (tagged (text_of doc at len n) (tag (here doc a))))) b r D (tag_deep k),
    )

  pub carets_call : Ready doc a → code_among ties (kind_in a.st) ≡ true → (Cursor doc a.st × TokenHere doc a.st) × (length a.st ≡ words_size)
  carets_call ready k = ((ready.cursor, token_at_cursor doc a.st ready.cursor (tie_token (kind_in a.st) k)), ready_words doc a ready)

-- ^^ is behind.
module _ (doc : Text) (work rows terms store : MutBor (List ℕ)) (st st1 : List ℕ) (ready : Ready doc (held work rows terms store st)) (k : code_among ties (kind_in st) ≡ true) (z : kind_in st ≡ kind_code LANGTAG → ⊥)
    (p : Passed doc st st1 (depth_in st) (graph_in st)) where
  abbrev a : Held
  a = held work rows terms store st

  abbrev a1 : Held
  a1 = held work rows terms store st1

  is_carets : kind_in st ≡ kind_code carets
  is_carets = each_tie (λ (j : ℕ). (j ≡ kind_code LANGTAG → ⊥) → j ≡ kind_code carets) (λ x. absurd (x refl)) (λ x. refl) (kind_in st) k z

  carets_does : Does doc (λ m. (0, m)) a a1 0
  carets_does = passed_same doc work rows terms store st st1 28 (depth_in st) 0 is_carets quiet_carets p (carets_depth (at_in st) (depth_in st) (here doc a).text (kind_in st) is_carets)

  carets_token : TokenHere doc st
  carets_token = token_at_cursor doc st ready.cursor (tie_token (kind_in st) k)

  pub datatype_call : (x y at len n : ℕ) → SpotFits (own_spot x y at) × Quoted doc at len n → Ready doc a1 × (SpotFits (own_spot x y at) × Quoted doc at len n)
  datatype_call x y at len n s = (ready_does doc (λ m. (0, m)) a a1 0 ready carets_token (tie_token (kind_in st) k).0 carets_does refl, s)

  pub suffix_datatype : (x y at len n : ℕ) (b : Held) (r : ℕ) → Reads doc (datatype (place_of x y) at (text_of doc at len n) ∷ []) [] a1 b r × Settled a1 b r
      → Reads doc (suffix (place_of x y) at (text_of doc at len n) ∷ []) [] a b r × Settled a b r
  suffix_datatype x y at len n b r (R, s) = (
    comes_then doc (on_top (suffix (place_of x y) at (text_of doc at len n) ∷ [])) (on_top (datatype (place_of x y) at (text_of doc at len n) ∷ [])) (on_top []) a a1 b 0 r
        (carets_reads doc a a1 0 ready x y at (text_of doc at len n) is_carets carets_token carets_does) refl R,
    record { steady = record { depth = λ e. s.steady.depth e ∙ p.depth_is; later = λ e. omega (arith, s.steady.later e, p.later) }; spot = λ e k h. s.spot e k h ∙ p.spot k h },
  )

-- ---- At the string

module _ (doc : Text) (a : Held) (ready : Ready doc a) (k : code_among strings (kind_in a.st) ≡ true) where
  string_here : TokenHere doc a.st
  string_here = token_at_cursor doc a.st ready.cursor (string_token (kind_in a.st) k)

  pub string_pass : (Cursor doc a.st × TokenHere doc a.st) × (length a.st ≡ words_size)
  string_pass = ((ready.cursor, string_here), ready_words doc a ready)

  pub string_bad : bad_escape (take (len_in a.st) (drop (at_in a.st) doc)) ≡ true → Fills doc a a 7 × Settled a a 7
  string_bad e = (
    seven_reads doc a a 7 ready string_here (string_token (kind_in a.st) k).0 k
        (λ w. record {
          same = same_all a;
          refusal = λ old m h. sym (string_seven (room_in (tables_of a)) (depth_in a.st) m.environment (at_in a.st) (take (len_in a.st) (drop (at_in a.st) doc)) (w m).1 (kind_in a.st) k e);
          place = λ z. refl;
          done = λ z. absurd (omega arith);
        }),
    record { steady = record { depth = λ z. refl; later = λ z. absurd (omega arith) }; spot = λ z k h. refl },
  )

module _ (doc : Text) (work rows terms store : MutBor (List ℕ)) (st st1 : List ℕ) (ready : Ready doc (held work rows terms store st)) (k : code_among strings (kind_in st) ≡ true)
    (good : bad_escape (take (len_in st) (drop (at_in st) doc)) ≡ false) (p : Passed doc st st1 (depth_in st) (graph_in st)) where
  abbrev s : Held
  s = held work rows terms store st

  abbrev s1 : Held
  s1 = held work rows terms store st1

  abbrev at : ℕ
  at = at_in st

  abbrev len : ℕ
  len = len_in st

  abbrev n : ℕ
  n = quotes_of (kind_in st)

  kept : Quoted doc at len n
  kept = string_quoted doc st ready.cursor (string_here doc s ready k) k good

  moved : (old : Tables) (m : Memory) → Holding old m s → Holding old m s1
  moved old m h = represents_words old m work.now (tables_of s) st st1 p.before p.graph_is p.words h

  held_on : Represented work.now (tables_of s) st1
  held_on = let (old, (m, h)) = ready.holds in (old, (m, moved old m h))

  spot_fits : Spotted s → SpotFits (spot_at st1 at)
  spot_fits f = record { x = rw (p.spot x_word (omega arith)) f.x; y = rw (p.spot y_word (omega arith)) f.y; opened = rw (p.spot opened_word (omega arith)) f.opened; last = rw (p.spot last_word (omega arith)) f.last; at = omega (arith, ready.cursor.inside, ready.cursor.size) }

  spot_same : spot_at st1 at ≡ spot_of s
  spot_same = rw (p.spot list_word (omega arith), p.spot x_word (omega arith), p.spot y_word (omega arith), p.spot opened_word (omega arith), p.spot last_word (omega arith))

  tied_now : tied_here doc s (string_here doc s ready k) (string_token (kind_in st) k).0 ≡ code_among ties (kind_in st1)
  tied_now = ap tied_to p.tokens ∙ tied_left doc st1 p.cursor

  done_there : (w : Write ℕ) (b : Held) (r : ℕ) → Adds w s1 b at r → Does doc w s b r
  done_there w b r A =
      adds_does doc work rows terms store st st1 b w r p A
      (λ m. string_refusal (room_in (tables_of s)) (depth_in st) m.environment at (take len (drop at doc)) (w m).1 (kind_in st) k good)
      (string_depth at (depth_in st) (take len (drop at doc)) (kind_in st) k)

  settled_there : (w : Write ℕ) (b : Held) (r : ℕ) → Adds w s1 b at r → Settled s b r
  settled_there w b r A = settled_does doc s w b r (done_there w b r A) (string_depth at (depth_in st) (take len (drop at doc)) (kind_in st) k)

  pub plain_call : (q : ℕ) → q ≡ n → Spotted s → Represented work.now (tables_of s) st1 × (SpotFits (spot_at st1 at) × Quoted doc at len q)
  plain_call q e f = (held_on, (spot_fits f, rw e kept))

  plain_fills : (b : Held) (r : ℕ) → code_among ties (kind_in st1) ≡ false → Adds (placed (spot_at st1 at) (typed (text_of doc at len n) xsd_string)) s1 b at r → Fills doc s b r × Settled s b r
  plain_fills b r t A = (
    plain_reads doc s b r ready (string_here doc s ready k) (string_token (kind_in st) k).0 k (tied_now ∙ t)
        (done_there (placed (spot_of s) (typed (text_of doc at len n) xsd_string)) b r (subst (λ (o : Spot). Adds (placed o (typed (text_of doc at len n) xsd_string)) s1 b at r) spot_same A)),
    settled_there (placed (spot_at st1 at) (typed (text_of doc at len n) xsd_string)) b r A,
  )

  pub string_plain : (q : ℕ) → q ≡ n → (b : Held) (r : ℕ) → code_among ties (kind_in st1) ≡ false → Adds (placed (spot_at st1 at) (typed (text_of doc at len q) xsd_string)) s1 b at r → Fills doc s b r × Settled s b r
  string_plain q e b r t A = plain_fills b r t (subst (λ (j : ℕ). Adds (placed (spot_at st1 at) (typed (text_of doc at len j) xsd_string)) s1 b at r) e A)

  pub own_call : (length st1 ≡ words_size) × (get_or st1 terms_word 0 + 1 < word_limit)
  own_call = let (old, (m, h)) = ready.holds in (p.words ∙ ready_words doc s ready, next_held old m s1 (moved old m h))

  pub place_call : Spotted s → Represented work.now (tables_of s) st1 × SpotFits (spot_at st1 at)
  place_call f = (held_on, spot_fits f)

  module _ (t : code_among ties (kind_in st1) ≡ true) (b : Held) (r : ℕ) (A : Adds (opened_at (spot_at st1 at)) s1 b at r) where
    opened_does : Does doc (opened_at (spot_of s)) s b r
    opened_does = done_there (opened_at (spot_of s)) b r (subst (λ (o : Spot). Adds (opened_at o) s1 b at r) spot_same A)

    to_suffix : (f g : Frame) → Slot doc s f g → Reads doc (f ∷ []) (suffix (slot_place s) at (text_of doc at len n) ∷ g ∷ []) s b r
    to_suffix f g o = tied_reads doc s b r ready (string_here doc s ready k) (string_token (kind_in st) k).0 k (tied_now ∙ t) opened_does f g o

    pub string_stop : (r ≡ 0 → ⊥) → Fills doc s b r × Settled s b r
    string_stop z = (
      (λ f g o. comes_stop doc (on_top (f ∷ [])) (on_top (suffix (slot_place s) at (text_of doc at len n) ∷ g ∷ [])) (on_top (g ∷ [])) s b r (to_suffix f g o) z),
      record { steady = record { depth = λ y. absurd (z y); later = λ y. absurd (z y) }; spot = λ y. absurd (z y) },
    )

    module _ (z : r ≡ 0) (x y : ℕ) (ex : x ≡ own_x st1) (ey : y ≡ own_y st1) where
      pub suffix_call : (q : ℕ) → q ≡ n → Spotted s → (Ready doc b × (SpotFits (own_spot x y at) × Quoted doc at len q)) × (code_among ties (kind_in b.st) ≡ true)
      suffix_call q e f = (
        (
          ready_does doc (opened_at (spot_of s)) s b r ready (string_here doc s ready k) (string_token (kind_in st) k).0 opened_does z,
          (record { x = rw ex x_small; y = rw ey y_small; opened = omega arith; last = omega arith; at = omega (arith, ready.cursor.inside, ready.cursor.size) }, rw e kept),
        ),
        rw (A.stays z kind_word (omega arith)) t,
      )
        where
          x_small : own_x st1 < word_limit
          x_small = by (eqb (list_in st1) 0) (λ e. rw e (spot_fits f).x) (λ e. rw e own_call.1)

          y_small : own_y st1 < word_limit
          y_small = by (eqb (list_in st1) 0) (λ e. rw e (spot_fits f).y) (λ e. rw e (omega arith))

      same_place : slot_place s ≡ place_of x y
      same_place = own_place s ∙ rw (ex, ey, p.spot list_word (omega arith), p.spot x_word (omega arith), p.spot y_word (omega arith), p.before terms_word (omega arith))

      suffix_fills : (d : Held) (q : ℕ) → Reads doc (suffix (place_of x y) at (text_of doc at len n) ∷ []) [] b d q × Settled b d q → Fills doc s d q × Settled s d q
      suffix_fills d q (R, y') = (
        (λ f g o.
            comes_then doc (on_top (f ∷ [])) (on_top (suffix (slot_place s) at (text_of doc at len n) ∷ g ∷ [])) (on_top (g ∷ [])) s b d r q (to_suffix f g o) z
            (comes_within doc (λ u. g ∷ u) (on_top (suffix (slot_place s) at (text_of doc at len n) ∷ [])) (on_top []) b d q
            (subst (λ (v : Place). Reads doc (suffix v at (text_of doc at len n) ∷ []) [] b d q) (sym same_place) R))),
        (let o = settled_there (opened_at (spot_at st1 at)) b r A in record { steady = record { depth = λ e. y'.steady.depth e ∙ o.steady.depth z; later = λ e. omega (arith, y'.steady.later e, o.steady.later z) }; spot = λ e k h. y'.spot e k h ∙ o.spot z k h }),
      )

      pub string_suffix : (i : ℕ) → i ≡ n → (d : Held) (q : ℕ) → Reads doc (suffix (place_of x y) at (text_of doc at len i) ∷ []) [] b d q × Settled b d q → Fills doc s d q × Settled s d q
      string_suffix i e d q (R, y') = suffix_fills d q (subst (λ (j : ℕ). Reads doc (suffix (place_of x y) at (text_of doc at len j) ∷ []) [] b d q) e R, y')

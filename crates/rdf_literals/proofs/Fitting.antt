-- The nodes of string literals: they may be placed, and what is placed is what the machine writes.
use mathlib.Core.Path.{◌≡◌, refl, sym, ap, ◌∙◌, subst}
use mathlib.Core.List.{List, [], ◌∷◌, ◌++◌}
use mathlib.Core.Bool.{Bool, true, false}
use Prim.Native.Nat.{ℕ, zero, suc, ◌+◌, ◌-◌, ◌≤◌, ◌<◌}
use native.Mathlib.Omega.{arith}
use borrow.Author.Tests.{eqb-true}
use lib.Dec.{eqb}
use lib.ListN.{length, get_or, take, drop, length-drop}
use lib.Seq.{get_or-take, drop-drop, take_all}
use Rattle.text.specs.Text.{Text}
use Rattle.text.proofs.Compare.{by, contrary}
use Rattle.limits.specs.Limits.{document_limit, iri_limit}
use Rattle.token.specs.Kind.{kind_code, iris, IRIREF, PNAME_NS, PNAME_LN, LANGTAG}
use Rattle.token.specs.Tokens.{Token}
use Rattle.escape.specs.Escape.{unescape, bad_escape}
use Rattle.escape.proofs.Walk.{unescape_short}
use Rattle.spelling.specs.Form.{undo, bad, joined}
use Rattle.spelling.specs.declared.Form.TheVariants.{Plain, Escaped}
use Rattle.environment.specs.Environment.{Environment}
use Rattle.dataset.specs.Terms.{tagged, xsd_string}
use Rattle.dataset.specs.Constructors.{inner, tag, iri_of, nothing, awaiting}
use Rattle.table.specs.Tables.{or_zero}
use Rattle.machine.specs.Memory.{Memory, Write, term, typed, typed_by}
use Rattle.machine.specs.Refusals.{no_character, undeclared, no_base, too_long, too_deep, escape_tests, iri_tests, depth_tests, room_tests}
use Rattle.machine.specs.Call.{Room, Test}
use Rattle.machine.proofs.Firsts.{first_past, number_past, number_stands}
use Rattle.state.specs.Words.{kind_in, at_in, len_in, depth_in}
use Rattle.state.specs.Cursor.{token_of, TokenHere}
use Rattle.state.specs.Represents.{Tables, room_in, Represents, Represented, room_refusal, Puts}
use Rattle.state.specs.Writes.{node_write, begin, placed, opened_at, SpotFits, NodeFits}
use Rattle.state.specs.declared.Spot.{Spot}
use Rattle.state.specs.declared.Node.{Node}
use Rattle.token_iri.specs.Tests.{token_as, Sound, iri_refusal}
use Rattle.token_iri.specs.Addresses.{Answered, front_of, back_of, Addresses, StandsFor}
use Rattle.token_iri.proofs.Begins.{iriref_begins}
use Rattle.simulation.specs.Simulation.{code_among, token_refusal}
use Rattle.rdf_literals.specs.Literals.{between, text_of, Quoted, spot_at, own_spot, Located, Obeys}
use Rattle.token.specs.Terminals.{token_at}
use Rattle.utf8.specs.Utf8.{decode}
use Rattle.token.specs.Regular.{hit}

short_take : (n : ℕ) (s : Text) → length (take n s) ≤ length s
short_take zero s = omega arith
short_take (suc n) [] = omega arith
short_take (suc n) (c ∷ s) = omega (arith, short_take n s)

inner_short : (n : ℕ) (s : Text) → length (inner n s) ≤ length s
unfolding inner
inner_short n s = omega (arith, short_take (length s - (n + n)) (drop n s), length-drop n s)

pub between_size : (doc : Text) (at len n : ℕ) → Quoted doc at len n → length (between doc at len n) ≤ document_limit
between_size doc at len n q = omega (arith, inner_short n (take len (drop at doc)), short_take len (drop at doc), length-drop at doc, q.size)

-- ---- Nodes

-- A literal, with this IRI or with this tag.
abbrev literal_node : ℕ → Node
literal_node k = record { kind = k; start = 0; end = 0; form = Plain; text = Escaped }

pub literal_fits : (k : ℕ) → 2 < k → k ≤ 5 → (doc : Text) (at len n : ℕ) → Quoted doc at len n → (work back text tag : Text) → text ≡ between doc at len n → length back ≤ iri_limit → length tag ≤ document_limit
    → NodeFits (literal_node k) work back text tag
unfolding joined undo bad
literal_fits k low high doc at len n q work back text tag e h t =
    let size : length text ≤ document_limit = rw e (between_size doc at len n q) in
    record {
      low = omega arith;
      high = high;
      order = omega arith;
      front = omega arith;
      back_right = refl;
      text_right = rw e q.right;
      label_text = λ x. absurd (omega arith);
      short = h;
      text_short = omega (arith, unescape_short text, size);
      tag_short = t;
      text_slice = size;
    }

pub address_fits : (a : Answered) (token text buffer work back tag : Text) → Located a token text buffer work → back ≡ back_of a token buffer → length tag ≤ document_limit
    → NodeFits (record { kind = 3; start = a.start; end = a.end; form = a.form; text = Escaped }) work back text tag
unfolding undo bad
address_fits a token text buffer work back tag l e t =
    record {
      low = omega arith;
      high = omega arith;
      order = l.order;
      front = l.front;
      back_right = rw e l.right;
      text_right = l.text_right;
      label_text = λ x. absurd (omega arith);
      short = rw e l.short;
      text_short = omega (arith, unescape_short text, l.text_size);
      tag_short = t;
      text_slice = l.text_size;
    }

-- ---- What they write

module _ (s : Spot) (work work' : Text) (t t' : Tables) (st st' : List ℕ) (r : ℕ) where
  -- The same write, as far as the memory is held.
  puts_as : (v w : Write ℕ) → ((old : Tables) (m : Memory) → Represents old m work t st → v m ≡ w m) → Puts v work work' t t' st st' r → Puts w work work' t t' st st' r
  puts_as v w same p =
      record {
        room = λ old m h. p.room old m h ∙ ap (λ (x : ℕ × Memory). room_refusal (room_in t) x.1) (same old m h);
        wrote = λ z.
            let q = p.wrote z in
            record {
              represents = λ old m h. subst (λ (x : ℕ × Memory). Represents old x.1 work' t' st') (same old m h) (q.represents old m h);
              node = λ old m h. q.node old m h ∙ ap (λ (x : ℕ × Memory). x.0) (same old m h);
              small = q.small;
            };
        stays = p.stays;
        words = p.words;
      }

  pub puts_plain : (doc : Text) (at len n : ℕ) (back text tag : Text) → text ≡ between doc at len n → Puts (placed s (node_write (literal_node 3) work back text tag s.at)) work work' t t' st st' r
      → Puts (placed s (typed (text_of doc at len n) back)) work work' t t' st st' r
  unfolding node_write joined undo
  puts_plain doc at len n back text tag e p = subst (λ (x : Text). Puts (placed s (typed (unescape x) back)) work work' t t' st st' r) e p

  pub puts_address : (a : Answered) (token text buffer back tag : Text) → back ≡ back_of a token buffer → Puts (placed s (node_write (record { kind = 3; start = a.start; end = a.end; form = a.form; text = Escaped }) work back text tag s.at)) work work' t t' st st' r
      → Puts (placed s (typed (unescape text) (joined (front_of a work) a.form (back_of a token buffer)))) work work' t t' st st' r
  unfolding node_write undo
  puts_address a token text buffer back tag e p = subst (λ (x : Text). Puts (placed s (typed (unescape text) (joined (front_of a work) a.form x))) work work' t t' st st' r) e p

  pub puts_tag : (doc : Text) (at len n : ℕ) (back text tag' : Text) (o : Token) → text ≡ between doc at len n → tag' ≡ drop 1 o.text → Puts (placed s (node_write (literal_node 4) work back text tag' s.at)) work work' t t' st st' r
      → Puts (placed s (term (tagged (text_of doc at len n) (tag o)))) work work' t t' st st' r
  unfolding node_write undo tag
  puts_tag doc at len n back text tag' o e g p =
      subst (λ (x : Text). Puts (placed s (term (tagged (unescape x) (drop 1 o.text)))) work work' t t' st st' r) e
      (subst (λ (x : Text). Puts (placed s (term (tagged (unescape text) x))) work work' t t' st st' r) g p)

-- ---- A datatype that was found

module _ (a : Answered) (token text buffer work : Text) where
  pub located_buffer : Located a token text buffer work → a.buffered ≡ true → a.to ≤ length buffer
  located_buffer l b = rw b at l.back_inside

  pub located_token : Located a token text buffer work → a.buffered ≡ false → a.to ≤ length token
  located_token l b = rw b at l.back_inside

  module _ (t : Tables) (st : List ℕ) (spot : Spot) where
    abbrev datatype_node : Node
    datatype_node = record { kind = 3; start = a.start; end = a.end; form = a.form; text = Escaped }

    pub buffer_asks : a.buffered ≡ true → Represented work t st × (SpotFits spot × Located a token text buffer work) → Represented work t st × (SpotFits spot × NodeFits datatype_node work (take (a.to - a.from) (drop a.from buffer)) text (take 0 (drop 0 token)))
    buffer_asks b (h, (s, l)) = (h, (s, address_fits a token text buffer work (take (a.to - a.from) (drop a.from buffer)) (take 0 (drop 0 token)) l (rw b) (omega arith)))

    pub token_asks : a.buffered ≡ false → Represented work t st × (SpotFits spot × Located a token text buffer work) → Represented work t st × (SpotFits spot × NodeFits datatype_node work (take (a.to - a.from) (drop a.from token)) text (take 0 (drop 0 token)))
    token_asks b (h, (s, l)) = (h, (s, address_fits a token text buffer work (take (a.to - a.from) (drop a.from token)) (take 0 (drop 0 token)) l (rw b) (omega arith)))

    module _ (work' : Text) (t' : Tables) (st' : List ℕ) (r : ℕ) where
      pub buffer_puts : a.buffered ≡ true → Puts (placed spot (node_write datatype_node work (take (a.to - a.from) (drop a.from buffer)) text (take 0 (drop 0 token)) spot.at)) work work' t t' st st' r
          → Puts (placed spot (typed (unescape text) (joined (front_of a work) a.form (back_of a token buffer)))) work work' t t' st st' r
      buffer_puts b p = puts_address spot work work' t t' st st' r a token text buffer (take (a.to - a.from) (drop a.from buffer)) (take 0 (drop 0 token)) (rw b) p

      pub token_puts : a.buffered ≡ false → Puts (placed spot (node_write datatype_node work (take (a.to - a.from) (drop a.from token)) text (take 0 (drop 0 token)) spot.at)) work work' t t' st st' r
          → Puts (placed spot (typed (unescape text) (joined (front_of a work) a.form (back_of a token buffer)))) work work' t t' st st' r
      token_puts b p = puts_address spot work work' t t' st st' r a token text buffer (take (a.to - a.from) (drop a.from token)) (take 0 (drop 0 token)) (rw b) p

-- ---- A string alone

pub bad_here : (doc : Text) (at len end : ℕ) (y : Bool) → end ≡ at + len → y ≡ bad_escape (take (end - at) (drop at doc)) → y ≡ bad_escape (take len (drop at doc))
bad_here doc at len end y e b = let n : end - at ≡ len = omega arith in b ∙ rw n

inside_is : (doc : Text) (at len n end : ℕ) (text : Text) → end ≡ at + len → text ≡ inner n (take (end - at) (drop at doc)) → text ≡ between doc at len n
inside_is doc at len n end text e f = let z : end - at ≡ len = omega arith in f ∙ rw z

module _ (doc work : Text) (t : Tables) (st : List ℕ) (at len n end : ℕ) (spot : Spot) (text : Text) (e : end ≡ at + len) (f : text ≡ inner n (take (end - at) (drop at doc))) (g : spot ≡ spot_at st at) where
  pub plain_asks : Represented work t st × (SpotFits (spot_at st at) × Quoted doc at len n) → Represented work t st × (SpotFits spot × NodeFits (literal_node 3) work xsd_string text (take 0 (drop 0 doc)))
  plain_asks (h, (s, q)) = (h, (rw g s, literal_fits 3 (omega arith) (omega arith) doc at len n q work xsd_string text (take 0 (drop 0 doc)) (inside_is doc at len n end text e f) (omega arith) (omega arith)))

  pub plain_puts : (work' : Text) (t' : Tables) (st' : List ℕ) (r : ℕ) → Puts (placed spot (node_write (literal_node 3) work xsd_string text (take 0 (drop 0 doc)) spot.at)) work work' t t' st st' r
      → Puts (placed (spot_at st at) (typed (text_of doc at len n) xsd_string)) work work' t t' st st' r
  plain_puts work' t' st' r p =
      subst (λ (s : Spot). Puts (placed s (typed (text_of doc at len n) xsd_string)) work work' t t' st st' r) g
      (puts_plain spot work work' t t' st st' r doc at len n xsd_string text (take 0 (drop 0 doc)) (inside_is doc at len n end text e f) p)

pub open_asks : (work : Text) (t : Tables) (st : List ℕ) (at : ℕ) (spot : Spot) → spot ≡ spot_at st at → Represented work t st × SpotFits (spot_at st at) → Represented work t st × SpotFits spot
open_asks work t st at spot g (h, s) = (h, rw g s)

pub open_puts : (work work' : Text) (t t' : Tables) (st st' : List ℕ) (at r : ℕ) (spot : Spot) → spot ≡ spot_at st at → Puts (opened_at spot) work work' t t' st st' r → Puts (opened_at (spot_at st at)) work work' t t' st st' r
open_puts work work' t t' st st' at r spot g p = subst (λ (s : Spot). Puts (opened_at s) work work' t t' st st' r) g p

-- ---- At a tag

tag_refusal : (room : Room) (d : ℕ) (e : Environment) (i : ℕ) (x : Text) (m : Memory) (k : ℕ) → k ≡ kind_code LANGTAG → token_refusal room d e (token_as k i x) m ≡ room_refusal room m
unfolding token_refusal room_refusal no_character undeclared no_base too_long too_deep
tag_refusal room d e i x m k h = rw h

take_none : (n : ℕ) → take {A = ℕ} n [] ≡ []
take_none zero = refl
take_none (suc n) = refl

pub tag_bytes : (doc : Text) (at len : ℕ) → take (at + len - (at + 1)) (drop (at + 1) doc) ≡ drop 1 (take len (drop at doc))
tag_bytes doc at len = let e : at + len - (at + 1) ≡ len - 1 = omega arith in rw (e, ← drop-drop 1 at doc) (behind_one len (drop at doc))
  where
    behind_one : (len : ℕ) (s : Text) → take (len - 1) (drop 1 s) ≡ drop 1 (take len s)
    behind_one zero s = refl
    behind_one (suc n) [] = take_none (suc n - 1)
    behind_one (suc n) (c ∷ s) = let e : suc n - 1 ≡ n = omega arith in rw e

pub tag_size : (doc : Text) (at len n : ℕ) (i j : ℕ) → Quoted doc at len n → length (take i (drop j doc)) ≤ document_limit
tag_size doc at len n i j q = omega (arith, short_take i (drop j doc), length-drop j doc, q.size)

module _ (doc : Text) (x y at len n : ℕ) (work work' : Text) (t t' : Tables) (st st' : List ℕ) (r : ℕ) where
  abbrev here : Token
  here = token_of doc (kind_in st) (at_in st) (len_in st)

  pub obeys_tag : (back text tag' : Text) → kind_in st ≡ kind_code LANGTAG → text ≡ between doc at len n → tag' ≡ drop 1 (take (len_in st) (drop (at_in st) doc))
      → Puts (placed (own_spot x y at) (node_write (literal_node 4) work back text tag' at)) work work' t t' st st' r
      → Obeys doc (placed (own_spot x y at) (term (tagged (text_of doc at len n) (tag here)))) work work' t t' st st' r
  obeys_tag back text tag' k e g p =
      let q = puts_tag (own_spot x y at) work work' t t' st st' r doc at len n back text tag' here e g p in
      record {
        refusal = λ old m h. q.room old m h ∙ sym (tag_refusal (room_in t) (depth_in st) m.environment (at_in st) (take (len_in st) (drop (at_in st) doc)) (placed (own_spot x y at) (term (tagged (text_of doc at len n) (tag here))) m).1 (kind_in st) k);
        wrote = q.wrote;
        stays = q.stays;
        words = q.words;
      }

module _ (doc work : Text) (t : Tables) (st : List ℕ) (at len n end from to x y : ℕ) (text : Text) (e : end ≡ at + len) (f : text ≡ inner n (take (end - at) (drop at doc))) (g : from ≡ at_in st + 1) (h : to ≡ at_in st + len_in st) where
  pub tag_asks : Represented work t st × (SpotFits (own_spot x y at) × Quoted doc at len n) → Represented work t st × (SpotFits (own_spot x y at) × NodeFits (literal_node 4) work (take 0 (drop 0 doc)) text (take (to - from) (drop from doc)))
  tag_asks (i, (s, q)) = (i, (s, literal_fits 4 (omega arith) (omega arith) doc at len n q work (take 0 (drop 0 doc)) text (take (to - from) (drop from doc)) (inside_is doc at len n end text e f) (omega arith) (tag_size doc at len n (to - from) from q)))

  pub tag_puts : (work' : Text) (t' : Tables) (st' : List ℕ) (r : ℕ) → kind_in st ≡ kind_code LANGTAG → Puts (placed (own_spot x y at) (node_write (literal_node 4) work (take 0 (drop 0 doc)) text (take (to - from) (drop from doc)) at)) work work' t t' st st' r
      → Obeys doc (placed (own_spot x y at) (term (tagged (text_of doc at len n) (tag (token_of doc (kind_in st) (at_in st) (len_in st)))))) work work' t t' st st' r
  tag_puts work' t' st' r k p =
      obeys_tag doc x y at len n work work' t t' st st' r (take 0 (drop 0 doc)) text (take (to - from) (drop from doc)) k (inside_is doc at len n end text e f)
      (rw (g, h) (tag_bytes doc (at_in st) (len_in st))) p

-- ---- At an IRI

typed_same : (s : Spot) → s.list ≡ false → (v u j : Text) (o : Token) (m : Memory) → u ≡ v → j ≡ iri_of m.environment o → placed s (typed u j) m ≡ placed s (typed_by v o) m
unfolding placed begin
typed_same s l v u j o m e f = rw (l, e, f)

pub each_iri : (P : ℕ → Type 0) → P 1 → P 2 → P 3 → (k : ℕ) → code_among iris k ≡ true → P k
each_iri P a b c k e =
    by (eqb k (kind_code IRIREF)) (λ p. subst P (sym (eqb-true k (kind_code IRIREF) p)) a)
    (λ p. by (eqb k (kind_code PNAME_NS)) (λ q. subst P (sym (eqb-true k (kind_code PNAME_NS) q)) b)
    (λ q. by (eqb k (kind_code PNAME_LN)) (λ r. subst P (sym (eqb-true k (kind_code PNAME_LN) r)) c)
    (λ r. contrary (sym (rw (p, q, r) at e)))))

module _ (room : Room) (d : ℕ) (e : Environment) (i : ℕ) (x : Text) (m : Memory) (k : ℕ) (h : code_among iris k ≡ true) where
  shallow : too_deep d (token_as k i x) ≡ false
  unfolding too_deep
  shallow = each_iri (λ (j : ℕ). too_deep d (token_as j i x) ≡ false) refl refl refl k h

  abbrev first_tests : List Test
  first_tests = escape_tests (token_as k i x) ++ iri_tests (awaiting nothing e) (token_as k i x)

  abbrev later_tests : List Test
  later_tests = depth_tests d (token_as k i x) ++ room_tests room m

  iri_stop : (iri_refusal (awaiting nothing e) (token_as k i x) ≡ 0 → ⊥) → token_refusal room d e (token_as k i x) m ≡ iri_refusal (awaiting nothing e) (token_as k i x)
  unfolding token_refusal iri_refusal
  iri_stop z = number_stands first_tests later_tests z

  iri_room : iri_refusal (awaiting nothing e) (token_as k i x) ≡ 0 → token_refusal room d e (token_as k i x) m ≡ room_refusal room m
  unfolding token_refusal iri_refusal room_refusal
  iri_room z = number_past first_tests later_tests refl z ∙ ap or_zero (first_past (depth_tests d (token_as k i x)) (room_tests room m) (shallow, tt))

whole : (x : Text) → take (length x - 0) (drop 0 x) ≡ x
whole x = take_all (length x - 0) x (omega arith)

pub iri_range : (k : ℕ) → code_among iris k ≡ true → (kind_code IRIREF ≤ k) × (k ≤ kind_code PNAME_LN)
iri_range k h = each_iri (λ (j : ℕ). (1 ≤ j) × (j ≤ 3)) (omega arith, omega arith) (omega arith, omega arith) (omega arith, omega arith) k h

module _ (doc work : Text) (t : Tables) (st : List ℕ) (buffer : Text) (a : Answered) (here_token : TokenHere doc st) (k : code_among iris (kind_in st) ≡ true)
    (A : Addresses (kind_in st) (take (len_in st) (drop (at_in st) doc)) work st buffer a) where
  abbrev token_text : Text
  token_text = take (len_in st) (drop (at_in st) doc)

  abbrev token_here : Token
  token_here = token_as (kind_in st) (at_in st) token_text

  first_byte : kind_in st ≡ kind_code IRIREF → get_or token_text 0 0 ≡ 60
  first_byte e =
      get_or-take (len_in st) (drop (at_in st) doc) 0 0 here_token.some_byte
      ∙ iriref_begins (drop (at_in st) doc) here_token.here_valid (len_in st) (subst (λ (j : ℕ). token_at (decode (drop (at_in st) doc)) ≡ hit j (len_in st)) e here_token.matched)

  stands_for : (old : Tables) (m : Memory) → Represents old m work t st → StandsFor m.environment token_here a (front_of a work) (back_of a token_text buffer)
  stands_for old m h =
      subst (λ (e : Environment). StandsFor e token_here a (front_of a work) (back_of a token_text buffer)) h.environment
      (A.stands h.usable (subst (λ (e : Environment). Sound e) (sym h.environment) h.base) first_byte (at_in st))

  typed_refused : (s : Spot) (v : Text) → (a.refused ≡ 0 → ⊥) → Obeys doc (placed s (typed_by v token_here)) work work t t st st a.refused
  typed_refused s v z =
      record {
        refusal = λ old m h.
            let f = (stands_for old m h).refusal in
            f ∙ sym (iri_stop (room_in t) (depth_in st) m.environment (at_in st) token_text (placed s (typed_by v token_here) m).1 (kind_in st) k (λ e. z (f ∙ e)));
        wrote = λ e. absurd (z e);
        stays = λ i h. refl;
        words = refl;
      }

  module _ (z : a.refused ≡ 0) where
    typed_located : Represented work t st → (at len n : ℕ) (text : Text) → Quoted doc at len n → text ≡ between doc at len n → Located a token_text text buffer work
    typed_located (old, (m, h)) at len n text q e =
        let f = stands_for old m h in
        record {
          order = A.order;
          front = A.inside;
          back_order = A.back_order;
          back_inside = A.back_inside;
          right = f.right z;
          short = rw (← f.iri z) (f.short z);
          text_right = rw e q.right;
          text_size = rw e (between_size doc at len n q);
        }

    typed_obeys : (x y at len n : ℕ) (work' : Text) (t' : Tables) (st' : List ℕ) (r : ℕ) (text : Text) → text ≡ between doc at len n
        → Puts (placed (own_spot x y at) (typed (unescape text) (joined (front_of a work) a.form (back_of a token_text buffer)))) work work' t t' st st' r
        → Obeys doc (placed (own_spot x y at) (typed_by (text_of doc at len n) token_here)) work work' t t' st st' r
    typed_obeys x y at len n work' t' st' r text e p =
        let q = puts_as (own_spot x y at) work work' t t' st st' r (placed (own_spot x y at) (typed (unescape text) (joined (front_of a work) a.form (back_of a token_text buffer)))) (placed (own_spot x y at) (typed_by (text_of doc at len n) token_here)) same p in
        record {
          refusal = λ old m h.
              q.room old m h
              ∙ sym (iri_room (room_in t) (depth_in st) m.environment (at_in st) token_text (placed (own_spot x y at) (typed_by (text_of doc at len n) token_here) m).1 (kind_in st) k (sym (stands_for old m h).refusal ∙ z));
          wrote = q.wrote;
          stays = q.stays;
          words = q.words;
        }
      where
        same : (old : Tables) (m : Memory) → Represents old m work t st → placed (own_spot x y at) (typed (unescape text) (joined (front_of a work) a.form (back_of a token_text buffer))) m ≡ placed (own_spot x y at) (typed_by (text_of doc at len n) token_here) m
        same old m h = typed_same (own_spot x y at) refl (text_of doc at len n) (unescape text) (joined (front_of a work) a.form (back_of a token_text buffer)) token_here m (ap unescape e) (sym ((stands_for old m h).iri z))

-- The same for the slices as they are lent.
module _ (doc work : Text) (t : Tables) (st : List ℕ) (buffer : Text) (a : Answered) (here_token : TokenHere doc st) (k : code_among iris (kind_in st) ≡ true)
    (A : Addresses (kind_in st) (take (at_in st + len_in st - at_in st) (drop (at_in st) doc)) (take (length work - 0) (drop 0 work)) st buffer a) where
  abbrev lent_token : Text
  lent_token = take (at_in st + len_in st - at_in st) (drop (at_in st) doc)

  lent_is : lent_token ≡ take (len_in st) (drop (at_in st) doc)
  lent_is = let e : at_in st + len_in st - at_in st ≡ len_in st = omega arith in rw e

  address_there : Addresses (kind_in st) (take (len_in st) (drop (at_in st) doc)) work st buffer a
  address_there = subst (λ (x : Text). Addresses (kind_in st) (take (len_in st) (drop (at_in st) doc)) x st buffer a) (whole work)
      (subst (λ (x : Text). Addresses (kind_in st) x (take (length work - 0) (drop 0 work)) st buffer a) lent_is A)

  pub written_refused : (s : Spot) (v : Text) → (a.refused ≡ 0 → ⊥) → Obeys doc (placed s (typed_by v (token_of doc (kind_in st) (at_in st) (len_in st)))) work work t t st st a.refused
  written_refused s v z = typed_refused doc work t st buffer a here_token k address_there s v z

  module _ (z : a.refused ≡ 0) (x y at len n end : ℕ) (text : Text) (e : end ≡ at + len) (f : text ≡ inner n (take (end - at) (drop at doc))) where
    pub written_asks : Represented work t st → SpotFits (own_spot x y at) → Quoted doc at len n → Represented work t st × (SpotFits (own_spot x y at) × Located a lent_token text (take (length buffer - 0) (drop 0 buffer)) work)
    written_asks h s q = (
      h,
      (
        s,
        subst (λ (u : Text). Located a lent_token text u work) (sym (whole buffer))
            (subst (λ (u : Text). Located a u text buffer work) (sym lent_is) (typed_located doc work t st buffer a here_token k address_there z h at len n text q (inside_is doc at len n end text e f))),
      ),
    )

    pub written_puts : (work' : Text) (t' : Tables) (st' : List ℕ) (r : ℕ)
        → Puts (placed (own_spot x y at) (typed (unescape text) (joined (front_of a work) a.form (back_of a lent_token (take (length buffer - 0) (drop 0 buffer)))))) work work' t t' st st' r
        → Obeys doc (placed (own_spot x y at) (typed_by (text_of doc at len n) (token_of doc (kind_in st) (at_in st) (len_in st)))) work work' t t' st st' r
    written_puts work' t' st' r p =
        typed_obeys doc work t st buffer a here_token k address_there z x y at len n work' t' st' r text (inside_is doc at len n end text e f)
        (subst (λ (u : Text). Puts (placed (own_spot x y at) (typed (unescape text) (joined (front_of a work) a.form (back_of a u buffer)))) work work' t t' st st' r) lent_is
        (subst (λ (u : Text). Puts (placed (own_spot x y at) (typed (unescape text) (joined (front_of a work) a.form (back_of a lent_token u)))) work work' t t' st st' r) (whole buffer) p))

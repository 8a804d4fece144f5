-- The nodes that the tokens of terms write, as the code gives them.
use mathlib.Core.Path.{◌≡◌, refl, sym, ap, ◌∙◌, subst}
use mathlib.Core.List.{List, [], ◌∷◌, ◌++◌}
use mathlib.Core.Bool.{true, false}
use Prim.Native.Nat.{ℕ, ◌-◌, ◌≤◌, ◌<◌}
use native.Mathlib.Omega.{arith}
use lib.Dec.{eqb}
use borrow.Author.Tests.{ne_eqb}
use lib.ListN.{length, get_or, take, drop, length-drop}
use lib.Seq.{take_all}
use Rattle.text.specs.Text.{Text}
use Rattle.text.proofs.Compare.{by}
use Rattle.limits.specs.Limits.{document_limit, iri_limit}
use Rattle.token.specs.Kind.{kind_code, IRIREF, INTEGER, DECIMAL, DOUBLE, PNAME_LN}
use Rattle.token.specs.Tokens.{Token}
use Rattle.spelling.specs.Form.{undo, bad, joined}
use Rattle.spelling.specs.declared.Form.TheVariants.{Plain}
use Rattle.environment.specs.Environment.{Environment}
use Rattle.dataset.specs.Terms.{iri, blank, label, bracket, xsd_integer, xsd_decimal, xsd_double, xsd_boolean}
use Rattle.machine.specs.Memory.{Memory, Write, term, new_term, typed, iri_term}
use Rattle.token_iri.specs.Tests.{token_as, Sound}
use Rattle.token_iri.specs.Addresses.{Answered, front_of, back_of, StandsFor, Addresses}
use Rattle.state.specs.Words.{at_in, depth_in}
use Rattle.state.specs.Represents.{Tables, room_in, Represents, Represented, Puts}
use Rattle.state.specs.Writes.{node_write, placed, SpotFits, NodeFits}
use Rattle.state.specs.declared.Spot.{Spot}
use Rattle.state.specs.declared.Node.{Node}
use Rattle.simple_terms.specs.Leaves.{spot_in, plain_node, datatype_of, PutsToken}
use Rattle.simple_terms.proofs.Numbering.{placed_alike}
use Rattle.simple_terms.proofs.Refusing.{refusal_iri, flat, puts_token, refused_token}
use Rattle.simple_terms.proofs.Terms.{iri_flat}

-- A slice, lent as a part of itself.
pub whole : (x : List ℕ) → take (length x - 0) (drop 0 x) ≡ x
whole x = take_all (length x - 0) x (omega arith)

-- ---- Equal writes

module _ (w v : Write ℕ) (work work' : Text) (t t' : Tables) (st st' : List ℕ) (r : ℕ) (same : (old : Tables) (m : Memory) → Represents old m work t st → w m ≡ v m) where
  pub puts_same : Puts w work work' t t' st st' r → Puts v work work' t t' st st' r
  puts_same p = record {
    room = λ old m h. rw (← same old m h) (p.room old m h);
    wrote = λ e. record {
      represents = λ old m h. rw (← same old m h) ((p.wrote e).represents old m h);
      node = λ old m h. rw (← same old m h) ((p.wrote e).node old m h);
      small = (p.wrote e).small;
    };
    stays = p.stays;
    words = p.words;
  }

-- ---- A node in the words' place

module _ (st : List ℕ) (s : Spot) (e : s ≡ spot_in st) where
  pub spot_fits : SpotFits (spot_in st) → SpotFits s
  spot_fits f = subst SpotFits (sym e) f

  pub aimed_put : (W : Spot → Write ℕ) (work work' : Text) (t t' : Tables) (st' : List ℕ) (r : ℕ) → Puts (W s) work work' t t' st st' r → Puts (W (spot_in st)) work work' t t' st st' r
  aimed_put W work work' t t' st' r p = subst (λ (x : Spot). Puts (W x) work work' t t' st st' r) e p

  pub spot_put : (n : Node) (back text tag work work' : Text) (t t' : Tables) (st' : List ℕ) (r : ℕ) → Puts (placed s (node_write n work back text tag s.at)) work work' t t' st st' r
      → Puts (placed (spot_in st) (node_write n work back text tag (at_in st))) work work' t t' st st' r
  spot_put n back text tag work work' t t' st' r p = aimed_put (λ (x : Spot). placed x (node_write n work back text tag x.at)) work work' t t' st' r p

-- ---- Nodes without a front

pub plain_fits : (k : ℕ) (work back text : Text) → 0 < k → k ≤ 5 → length back ≤ iri_limit → length text ≤ document_limit → (k ≡ 2 → 0 < length text) → NodeFits (plain_node k) work back text text
unfolding undo bad joined
plain_fits k work back text low high b t l = record {
  low = low;
  high = high;
  order = omega arith;
  front = omega arith;
  back_right = refl;
  text_right = refl;
  label_text = l;
  short = b;
  text_short = t;
  tag_short = t;
  text_slice = t;
}

module _ (s : Spot) (work work' back text : Text) (t t' : Tables) (st st' : List ℕ) (at r : ℕ) where
  pub put_new : Puts (placed s (node_write (plain_node 5) work back text text at)) work work' t t' st st' r → Puts (placed s (new_term (blank (bracket at)))) work work' t t' st st' r
  unfolding node_write
  put_new p = p

  pub put_iri : Puts (placed s (node_write (plain_node 1) work back text text at)) work work' t t' st st' r → Puts (placed s (term (iri back))) work work' t t' st st' r
  unfolding node_write joined undo
  put_iri p = p

  pub put_label : Puts (placed s (node_write (plain_node 2) work back text text at)) work work' t t' st st' r → Puts (placed s (term (blank (label text)))) work work' t t' st st' r
  unfolding node_write
  put_label p = p

  pub put_typed : Puts (placed s (node_write (plain_node 3) work back text text at)) work work' t t' st st' r → Puts (placed s (typed text back)) work work' t t' st st' r
  unfolding node_write joined undo
  put_typed p = p

-- The label is the token without its first two bytes.
behind : (k : ℕ) (s : List ℕ) → take (length s - k) (drop k s) ≡ drop k s
behind k s = take_all (length s - k) (drop k s) (let d = length-drop k s in omega (arith, d))

pub label_fits : (work back token : Text) → length back ≤ iri_limit → length token ≤ document_limit → 2 < length token → NodeFits (plain_node 2) work back (take (length token - 2) (drop 2 token)) (take (length token - 2) (drop 2 token))
label_fits work back token b t l =
    let n = ap length (behind 2 token) ∙ length-drop 2 token in
    plain_fits 2 work back (take (length token - 2) (drop 2 token)) (omega arith) (omega arith) b (omega (arith, n, t)) (λ e. omega (arith, n, l))

pub put_behind : (s : Spot) (work work' back : Text) (t t' : Tables) (st st' : List ℕ) (at r : ℕ) (token : Text)
    → Puts (placed s (node_write (plain_node 2) work back (take (length token - 2) (drop 2 token)) (take (length token - 2) (drop 2 token)) at)) work work' t t' st st' r → Puts (placed s (term (blank (label (drop 2 token))))) work work' t t' st st' r
put_behind s work work' back t t' st st' at r token p =
    subst (λ (x : Text). Puts (placed s (term (blank (label x)))) work work' t t' st st' r) (behind 2 token) (put_label s work work' back (take (length token - 2) (drop 2 token)) t t' st st' at r p)

-- The datatypes by the kind, as bytes: what stands behind them is left out.
abbrev Named : ℕ → Text → Type 0
Named k r = take (length (datatype_of k)) r ≡ datatype_of k

module _ (k : ℕ) where
  pub named_8 : k ≡ kind_code INTEGER → Named k xsd_integer
  named_8 e = subst (λ (n : ℕ). Named n xsd_integer) (sym e) refl

  pub named_9 : k ≡ kind_code DECIMAL → Named k xsd_decimal
  named_9 e = subst (λ (n : ℕ). Named n xsd_decimal) (sym e) refl

  pub named_10 : k ≡ kind_code DOUBLE → Named k (xsd_double ++ 0 ∷ [])
  named_10 e = subst (λ (n : ℕ). Named n (xsd_double ++ 0 ∷ [])) (sym e) refl

  pub named_other : (k ≡ kind_code INTEGER → ⊥) → (k ≡ kind_code DECIMAL → ⊥) → (k ≡ kind_code DOUBLE → ⊥) → Named k xsd_boolean
  named_other a b c = rw (ne_eqb k (kind_code INTEGER) a, ne_eqb k (kind_code DECIMAL) b, ne_eqb k (kind_code DOUBLE) c) refl

  pub sized_10 : k ≡ kind_code DOUBLE → (39 ≡ length (datatype_of k)) × (39 ≤ 40)
  sized_10 e = (subst (λ (n : ℕ). 39 ≡ length (datatype_of n)) (sym e) refl, omega arith)

  pub sized_other : (k ≡ kind_code DOUBLE → ⊥) → (40 ≡ length (datatype_of k)) × (40 ≤ 40)
  sized_other c = (by (eqb k (kind_code INTEGER)) (λ e. rw e refl) (λ e. by (eqb k (kind_code DECIMAL)) (λ f. rw (e, f) refl) (λ f. rw (e, f, ne_eqb k (kind_code DOUBLE) c) refl)), omega arith)

  pub name_part : (r : Text) (n : ℕ) → Named k r → n ≡ length (datatype_of k) → take n r ≡ datatype_of k
  name_part r n p e = ap (λ (m : ℕ). take m r) e ∙ p

pub typed_as : (s : Spot) (text work work' : Text) (t t' : Tables) (st st' : List ℕ) (r : ℕ) (d e : Text) → d ≡ e → Puts (placed s (typed text d)) work work' t t' st st' r
    → Puts (placed s (typed text e)) work work' t t' st st' r
typed_as s text work work' t t' st st' r d e q p = subst (λ (x : Text). Puts (placed s (typed text x)) work work' t t' st st' r) q p

-- ---- IRIs

abbrev pub node_of : Answered → Node
node_of a = record { kind = 1; start = a.start; end = a.end; form = a.form; text = Plain }

module _ (kind : ℕ) (token work : Text) (st : List ℕ) (buffer : Text) (a : Answered) (ad : Addresses kind token work st buffer a) where
  pub back_in_buffer : a.buffered ≡ true → a.to ≤ length buffer
  back_in_buffer e = rw e at ad.back_inside

  pub back_in_token : a.buffered ≡ false → a.to ≤ length token
  back_in_token e = rw e at ad.back_inside

module _ (a : Answered) (token buffer : Text) where
  pub back_buffer : a.buffered ≡ true → take (a.to - a.from) (drop a.from buffer) ≡ back_of a token buffer
  back_buffer e = rw e

  pub back_token : a.buffered ≡ false → take (a.to - a.from) (drop a.from token) ≡ back_of a token buffer
  back_token e = rw e

module _ (kind : ℕ) (token work buffer : Text) (t : Tables) (st : List ℕ) (a : Answered) (ad : Addresses kind token (take (length work - 0) (drop 0 work)) st buffer a) (begun : kind ≡ kind_code IRIREF → get_or token 0 0 ≡ 60) where
  abbrev name : Token
  name = token_as kind (at_in st) token

  there : Addresses kind token work st buffer a
  there = subst (λ (x : Text). Addresses kind token x st buffer a) (whole work) ad

  stands : (old : Tables) (m : Memory) → Represents old m work t st → StandsFor m.environment name a (front_of a work) (back_of a token buffer)
  stands old m h =
      let e = h.environment in
      subst (λ (x : Environment). StandsFor x name a (front_of a work) (back_of a token buffer)) e (there.stands h.usable (subst Sound (sym e) h.base) begun (at_in st))

  pub address_refused : (a.refused ≡ 0 → ⊥) → PutsToken name (placed (spot_in st) (iri_term name)) work work t t st st a.refused
  address_refused z =
      refused_token name (placed (spot_in st) (iri_term name)) work t st a.refused z
      (λ old m h. let s = stands old m h in
      s.refusal ∙ sym (refusal_iri (room_in t) (depth_in st) m.environment name (placed (spot_in st) (iri_term name) m).1 (λ x. z (s.refusal ∙ x))))

  module _ (z : a.refused ≡ 0) (text : Text) (short : length text ≤ document_limit) (back : Text) (eb : back ≡ back_of a token buffer) where
    pub address_fits : Represented work t st → NodeFits (node_of a) work back text text
    unfolding bad undo
    address_fits (old, (m, h)) =
        let s = stands old m h in
        record {
          low = omega arith;
          high = omega arith;
          order = there.order;
          front = there.inside;
          back_right = rw eb (s.right z);
          text_right = refl;
          label_text = λ e. absurd (omega arith);
          short = rw (eb, ← s.iri z) (s.short z);
          text_short = short;
          tag_short = short;
          text_slice = short;
        }

    alike : (old : Tables) (m : Memory) → Represents old m work t st → (n : Memory) → n.environment ≡ m.environment → node_write (node_of a) work back text text (at_in st) n ≡ iri_term name n
    unfolding node_write
    alike old m h n e = rw (e, eb, (stands old m h).iri z)

    pub address_put : (work' : Text) (t' : Tables) (st' : List ℕ) (r : ℕ) → kind_code IRIREF ≤ kind → kind ≤ kind_code PNAME_LN
        → Puts (placed (spot_in st) (node_write (node_of a) work back text text (at_in st))) work work' t t' st st' r
        → PutsToken name (placed (spot_in st) (iri_term name)) work work' t t' st st' r
    address_put work' t' st' r low high p =
        puts_token name (placed (spot_in st) (iri_term name)) work work' t t' st st' r (λ old m h. sym (stands old m h).refusal ∙ z) (flat (depth_in st) name kind refl (iri_flat kind low high))
        (puts_same (placed (spot_in st) (node_write (node_of a) work back text text (at_in st))) (placed (spot_in st) (iri_term name)) work work' t t' st st' r
        (λ old m h. placed_alike (spot_in st) (node_write (node_of a) work back text text (at_in st)) (iri_term name) m (alike old m h)) p)

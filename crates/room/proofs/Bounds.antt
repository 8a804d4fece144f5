-- How much a token asks for at most.
use mathlib.Core.Path.{◌≡◌, refl, ap}
use mathlib.Core.List.{List, []}
use mathlib.Core.Bool.{Bool, true, false}
use Prim.Native.Nat.{ℕ, ◌+◌, ◌≤◌}
use native.Mathlib.Omega.{arith}
use lib.Dec.{eqb}
use lib.ListN.{length, length-append}
use Rattle.text.specs.Text.{Text, cond}
use Rattle.text.proofs.Compare.{by}
use Rattle.escape.proofs.Walk.{unescape_short, unreserve_short}
use Rattle.spelling.specs.Form.{undo}
use Rattle.spelling.specs.declared.Form.{Form}
use Rattle.spelling.specs.declared.Form.TheVariants.{Plain, Escaped, Reserved}
use Rattle.dataset.specs.Terms.{Term, iri, blank, literal, tagged, label, rdf_first, rdf_rest, rdf_nil}
use Rattle.table.specs.Tables.{number, or_zero, term_bytes}
use Rattle.state.specs.declared.Spot.{Spot}
use Rattle.state.specs.declared.Node.{Node}
use Rattle.state.specs.Writes.{cells_of, node_iri}
use Rattle.room.specs.declared.Tally.{Tally}
use Rattle.room.specs.Asks.{supplied, cell_iri, end_iri, last_iri, spot_place, before_iri, behind_iri}
use Rattle.room.specs.Counting.{tally, more, count_term, count_supply, is_supplied, count_iri, count_node, asks_first, count_behind, count_before, count_place, count_close, Small}
use Rattle.limits.specs.Limits.{iri_limit}

-- At most k terms and b bytes more.
pub record Within (c d : Tally) (k b : ℕ) : Type 0 where
  pub terms : d.terms ≤ c.terms + k
  pub bytes : d.bytes ≤ c.bytes + b

within_none : (c : Tally) (k b : ℕ) → Within c c k b
within_none c k b = record { terms = omega arith; bytes = omega arith }

within_then : (c d e : Tally) (k b l a : ℕ) → Within c d k b → Within d e l a → Within c e (k + l) (b + a)
within_then c d e k b l a W X = record { terms = omega (arith, W.terms, X.terms); bytes = omega (arith, W.bytes, X.bytes) }

within_wide : (c d : Tally) (k b l a : ℕ) → k ≤ l → b ≤ a → Within c d k b → Within c d l a
within_wide c d k b l a h g W = record { terms = omega (arith, W.terms); bytes = omega (arith, W.bytes) }

within_cond : (b : Bool) (c x y : Tally) (k a : ℕ) → Within c x k a → Within c y k a → Within c (cond b x y) k a
within_cond true c x y k a X Y = X
within_cond false c x y k a X Y = Y

pub small_within : (c d r : Tally) (a k b e : ℕ) → Small c a → Within c d k b → r ≡ d → a + k ≤ e → a + b ≤ e → Small r e
small_within c d r a k b e S W q h g = record {
  terms = omega (arith, S.terms, W.terms, ap (λ (x : Tally). x.terms) q);
  bytes = omega (arith, S.bytes, W.bytes, ap (λ (x : Tally). x.bytes) q);
}

pub more_within : (c : Tally) (n size : ℕ) → Within c (more c n size) 1 size
unfolding more
more_within c n size = within_cond (eqb n 0) c (tally (c.terms + 1) (c.bytes + size)) c 1 size (record { terms = omega arith; bytes = omega arith }) (within_none c 1 size)

term_within : (ts : List Term) (t : Term) (c : Tally) (a : ℕ) → length (term_bytes t) ≤ a → Within c (count_term ts t c) 1 a
unfolding count_term
term_within ts t c a h = within_wide c _ 1 (length (term_bytes t)) 1 a (omega arith) h (more_within c (or_zero (number t ts)) (length (term_bytes t)))

pub supplied_small : (p : ℕ) → length (supplied p) ≤ 48
unfolding supplied
supplied_small p =
    by (eqb p 1) (λ e. rw e (let n : length rdf_first ≡ 48 = refl in omega arith))
    (λ e. by (eqb p 2) (λ f. rw (e, f) (let n : length rdf_rest ≡ 47 = refl in omega arith)) (λ f. rw (e, f) (let n : length rdf_nil ≡ 46 = refl in omega arith)))

pub iri_bytes : (x : Text) → length (term_bytes (iri x)) ≡ length x
iri_bytes x = rw length-append (omega arith)

pub supply_within : (ts : List Term) (p : ℕ) (c : Tally) → Within c (count_supply ts p c) 1 48
unfolding count_supply
supply_within ts p c =
    within_cond (eqb p 0) c c (count_term ts (iri (supplied p)) c) 1 48 (within_none c 1 48) (term_within ts (iri (supplied p)) c 48 (omega (arith, iri_bytes (supplied p), supplied_small p)))

pub iri_within : (ts : List Term) (p : ℕ) (x : Text) (c : Tally) (a : ℕ) → length x ≤ a → Within c (count_iri ts p x c) 1 a
unfolding count_iri
iri_within ts p x c a h =
    within_cond (is_supplied p x) c c (count_term ts (iri x) c) 1 a (within_none c 1 a) (term_within ts (iri x) c a (omega (arith, iri_bytes x)))

pub undo_short : (f : Form) (s : Text) → length (undo f s) ≤ length s
unfolding undo
undo_short Plain s = omega arith
undo_short Escaped s = unescape_short s
undo_short Reserved s = unreserve_short s

module _ (ts : List Term) (p : ℕ) (n : Node) (work back text tag : Text) (c : Tally) (short : length (node_iri n work back) ≤ iri_limit) where
  abbrev node_most : ℕ
  node_most = iri_limit + (length text + length tag)

  abbrev name : Text
  name = node_iri n work back

  abbrev value : Text
  value = undo n.text text

  pub node_within : Within c (count_node ts p n work back text tag c) 2 (iri_limit + (length text + length tag))
  unfolding count_node
  node_within =
      within_cond (eqb n.kind 1) c _ _ 2 node_most (within_wide c _ 1 iri_limit 2 node_most (omega arith) (omega arith) (iri_within ts p name c iri_limit short))
      (within_cond (eqb n.kind 2) c _ _ 2 node_most (within_wide c _ 1 (length text) 2 node_most (omega arith) (omega arith) (term_within ts (blank (label text)) c (length text) (omega (arith, length-append text []))))
      (within_cond (eqb n.kind 3) c _ _ 2 node_most (within_wide c _ 2 (iri_limit + length text) 2 node_most (omega arith) (omega arith)
      (within_then c (count_iri ts p name c) _ 1 iri_limit 1 (length text) (iri_within ts p name c iri_limit short)
      (term_within ts (literal value name) (count_iri ts p name c) (length text) (omega (arith, length-append value [], undo_short n.text text)))))
      (within_cond (eqb n.kind 4) c _ _ 2 node_most (within_wide c _ 1 (length text + length tag) 2 node_most (omega arith) (omega arith)
      (term_within ts (tagged value tag) c (length text + length tag) (omega (arith, length-append value tag, undo_short n.text text))))
      (within_wide c _ 1 0 2 node_most (omega arith) (omega arith) (more_within c 0 0)))))

pub before_within : (ts : List Term) (s : Spot) (c : Tally) → Within c (count_before ts s c) 2 48
unfolding count_before
before_within ts s c =
    within_cond s.list c _ c 2 48
    (within_then c (more c 0 0) _ 1 0 1 48 (more_within c 0 0) (supply_within ts (cell_iri (spot_place s) (cells_of s.last)) (more c 0 0)))
    (within_none c 2 48)

behind_within : (ts : List Term) (p q : ℕ) (n : Node) (work back : Text) (c : Tally) → Within c (count_behind ts p q n work back c) 1 48
unfolding count_behind
behind_within ts p q n work back c =
    within_cond (eqb q 0) c c _ 1 48 (within_none c 1 48)
    (within_cond (eqb p 1) c c _ 1 48 (within_none c 1 48) (within_cond (asks_first n work back) c c _ 1 48 (within_none c 1 48) (supply_within ts 1 c)))

pub place_within : (ts : List Term) (s : Spot) (n : Node) (work back text tag : Text) (c : Tally) → length (node_iri n work back) ≤ iri_limit
    → Within c (count_place ts s n work back text tag c) 5 (1120 + (length text + length tag))
unfolding count_place
place_within ts s n work back text tag c short =
    let b = count_before ts s c in
    let d = count_node ts (before_iri s) n work back text tag b in
    within_wide c _ (2 + (2 + 1)) (48 + ((iri_limit + (length text + length tag)) + 48)) 5 (1120 + (length text + length tag)) (omega arith) (omega arith)
    (within_then c b _ 2 48 (2 + 1) ((iri_limit + (length text + length tag)) + 48) (before_within ts s c)
    (within_then b d _ 2 (iri_limit + (length text + length tag)) 1 48 (node_within ts (before_iri s) n work back text tag b short) (behind_within ts (before_iri s) (behind_iri s) n work back d)))

pub close_within : (ts : List Term) (s : Spot) (c : Tally) → Within c (count_close ts s c) 2 96
unfolding count_close
close_within ts s c =
    let d = count_supply ts (end_iri (cells_of s.last)) c in
    within_then c d _ 1 48 1 48 (supply_within ts (end_iri (cells_of s.last)) c) (supply_within ts (last_iri (spot_place s) (cells_of s.last)) d)

-- The tokens of terms: their kinds, their rules, and the parts of the document that they are.
use mathlib.Core.Path.{◌≡◌, refl, sym, ap, ◌∙◌, subst}
use mathlib.Core.List.{List, [], ◌∷◌}
use mathlib.Core.Bool.{Bool, true, false}
use mathlib.Core.Option.{some}
use Prim.Native.Nat.{ℕ, ◌+◌, ◌-◌, ◌≤◌, ◌<◌}
use native.Mathlib.Omega.{arith}
use borrow.Author.Tests.{eqb-true, eqb-false, ne_eqb}
use lib.Dec.{eqb}
use lib.ListN.{length, get_or, take, drop, length-drop}
use lib.Seq.{get_or-take, length-take-le}
use Rattle.text.specs.Text.{Text}
use Rattle.text.proofs.Compare.{by, contrary}
use Rattle.limits.specs.Limits.{document_limit}
use Rattle.token.specs.Kind.{Kind, kind_code, end_kind, unreadable_kind, kind_of_code, among, open_bracket, open_paren, kw_a, IRIREF, PNAME_NS, PNAME_LN, BLANK_NODE_LABEL, INTEGER, DECIMAL, DOUBLE, kw_true, kw_false}
use Rattle.token.specs.Tokens.{Token}
use Rattle.dataset.specs.Terms.{iri, blank, label, rdf_type}
use Rattle.dataset.specs.Constructors.{node_label}
use Rattle.table.proofs.Numbers.{not_none}
use Rattle.machine.specs.Memory.{Memory, Write, term, typed, iri_term}
use Rattle.machine.specs.Rules.{Rule, ◌⇒◌, find_rule, label_term}
use Rattle.machine.proofs.Made.{some_same}
use Rattle.token_iri.specs.Tests.{token_as}
use Rattle.token_iri.proofs.Begins.{iriref_begins}
use Rattle.state.specs.Words.{kind_in, at_in, len_in, depth_in}
use Rattle.state.specs.Cursor.{Cursor, TokenHere}
use Rattle.state.specs.Represents.{Tables, Puts}
use Rattle.state.specs.Writes.{placed}
use Rattle.simulation.specs.Simulation.{code_among}
use Rattle.nodes.specs.Nodes.{term_rules, term_kinds}
use Rattle.simple_terms.specs.Leaves.{spot_in, token_in, datatype_of, PutsToken, PutsNode}
use Rattle.simple_terms.proofs.Numbering.{term_positive}
use Rattle.simple_terms.proofs.Refusing.{Plain, flat, puts_plain}
use Rattle.simple_terms.proofs.Labels.{label_long}

-- ---- Kinds

abbrev pub is_term : ℕ → Bool
is_term k = code_among (kw_a ∷ term_kinds) k

pub term_some : (k : ℕ) → is_term k ≡ true → k ≡ end_kind → ⊥
term_some k h e = contrary (sym (rw e at h))

pub term_low : (k : ℕ) → is_term k ≡ true → kind_code IRIREF ≤ k
term_low k h = let z = term_some k h in omega (arith, z)

pub term_readable : (k : ℕ) → is_term k ≡ true → k ≡ unreadable_kind → ⊥
term_readable k h e = contrary (sym (rw e at h))

-- The kinds of IRIs.
module _ (P : ℕ → Type 0) (k : ℕ) (low : kind_code IRIREF ≤ k) (high : k ≤ kind_code PNAME_LN) where
  pub each_iri : P 1 → P 2 → P 3 → P k
  each_iri a b c =
      by (eqb k (kind_code IRIREF)) (λ x. subst P (sym (eqb-true k (kind_code IRIREF) x)) a)
      (λ x. by (eqb k (kind_code PNAME_NS)) (λ y. subst P (sym (eqb-true k (kind_code PNAME_NS) y)) b) (λ y. subst P (let u = eqb-false k (kind_code IRIREF) x in let v = eqb-false k (kind_code PNAME_NS) y in let e : kind_code PNAME_LN ≡ k = omega (arith, u, v) in e) c))

-- The kinds of literals that are no strings: what is left of a term's.
module _ (P : ℕ → Type 0) (k : ℕ) (h : is_term k ≡ true) (high : kind_code PNAME_LN < k) (n4 : k ≡ kind_code BLANK_NODE_LABEL → ⊥) (n13 : k ≡ kind_code kw_a → ⊥) where
  pub each_literal : P 8 → P 9 → P 10 → P 14 → P 15 → P k
  each_literal a b c d e =
      by (eqb k (kind_code INTEGER)) (λ x. subst P (sym (eqb-true k (kind_code INTEGER) x)) a)
      (λ x8. by (eqb k (kind_code DECIMAL)) (λ x. subst P (sym (eqb-true k (kind_code DECIMAL) x)) b)
      (λ x9. by (eqb k (kind_code DOUBLE)) (λ x. subst P (sym (eqb-true k (kind_code DOUBLE) x)) c)
      (λ x10. by (eqb k (kind_code kw_true)) (λ x. subst P (sym (eqb-true k (kind_code kw_true) x)) d)
      (λ x14. by (eqb k (kind_code kw_false)) (λ x. subst P (sym (eqb-true k (kind_code kw_false) x)) e)
      (λ x15. contrary (sym (rw (ne_eqb k (kind_code IRIREF) (λ z. omega arith), ne_eqb k (kind_code PNAME_NS) (λ z. omega arith), ne_eqb k (kind_code PNAME_LN) (λ z. omega arith), ne_eqb k (kind_code BLANK_NODE_LABEL) n4, ne_eqb k (kind_code kw_a) n13, x8, x9, x10, x14, x15) at h)))))))

pub iri_flat : (k : ℕ) → kind_code IRIREF ≤ k → k ≤ kind_code PNAME_LN → among (open_bracket ∷ open_paren ∷ []) (kind_of_code k) ≡ false
iri_flat k low high = each_iri (λ j. among (open_bracket ∷ open_paren ∷ []) (kind_of_code j) ≡ false) k low high refl refl refl

-- ---- Rules

-- Each rule's term has a number.
abbrev AllPositive : List (Rule ℕ) → Type 0
AllPositive [] = Unit
AllPositive ((ks ⇒ w) ∷ rs) = ((m : Memory) → 0 < (w m).0) × AllPositive rs

found_positive : (k : Kind) (rs : List (Rule ℕ)) (v : Write ℕ) → AllPositive rs → find_rule k rs ≡ some v → (m : Memory) → 0 < (v m).0
found_positive k [] v p e = not_none e
found_positive k ((ks ⇒ w) ∷ rs) v p e = by (among ks k) (λ x. subst (λ (u : Write ℕ). (m : Memory) → 0 < (u m).0) (some_same (rw x at e)) p.0) (λ x. found_positive k rs v p.1 (rw x at e))

pub rule_positive : (t : Token) (k : Kind) (v : Write ℕ) → find_rule k (term_rules t) ≡ some v → (m : Memory) → 0 < (v m).0
rule_positive t k v e =
    found_positive k (term_rules t) v (
      λ m. term_positive _ m,
      (
        λ m. term_positive _ m,
        (
          λ m. term_positive _ _,
          (
            λ m. term_positive _ _,
            (
              λ m. term_positive _ _,
              (
                λ m. term_positive _ _,
                (
                  λ m. term_positive _ m,
                  tt,
                ),
              ),
            ),
          ),
        ),
      ),
    ) e

-- The rule for a kind is the one that is found.
module _ (t : Token) (k : ℕ) (e : t.kind ≡ kind_of_code k) (w v : Write ℕ) where
  rule_is : find_rule (kind_of_code k) (term_rules t) ≡ some w → find_rule t.kind (term_rules t) ≡ some v → w ≡ v
  rule_is f g = some_same (sym f ∙ (ap (λ (j : Kind). find_rule j (term_rules t)) (sym e) ∙ g))

-- ---- What is written is what the rule says

module _ (doc work work' : Text) (t t' : Tables) (st st' : List ℕ) (r : ℕ) where
  plain_node_put : (k : ℕ) → kind_in st ≡ k → Plain k → among (open_bracket ∷ open_paren ∷ []) (kind_of_code k) ≡ false
      → (w : Write ℕ) → find_rule (kind_of_code k) (term_rules (token_in doc st)) ≡ some w → Puts (placed (spot_in st) w) work work' t t' st st' r → PutsNode doc work work' t t' st st' r
  plain_node_put k e q o w f p v g =
      subst (λ (x : Write ℕ). PutsToken (token_in doc st) (placed (spot_in st) x) work work' t t' st st' r) (rule_is (token_in doc st) k (ap kind_of_code e) w v f g)
      (puts_plain (token_in doc st) (placed (spot_in st) w) work work' t t' st st' r k (ap kind_of_code e) q (flat (depth_in st) (token_in doc st) k (ap kind_of_code e) o) p)

  pub type_put : kind_in st ≡ kind_code kw_a → Puts (placed (spot_in st) (term (iri rdf_type))) work work' t t' st st' r → PutsNode doc work work' t t' st st' r
  type_put e p = plain_node_put 13 e (record { escapes = refl; reference = refl; name = refl }) refl (term (iri rdf_type)) refl p

  module _ (s : Text) (es : s ≡ take (len_in st) (drop (at_in st) doc)) where
    pub label_put : kind_in st ≡ kind_code BLANK_NODE_LABEL → Puts (placed (spot_in st) (term (blank (label (drop 2 s))))) work work' t t' st st' r → PutsNode doc work work' t t' st st' r
    unfolding node_label
    label_put e p =
        plain_node_put 4 e (record { escapes = refl; reference = refl; name = refl }) refl (label_term (token_in doc st) false) refl
        (subst (λ (x : Text). Puts (placed (spot_in st) (term (blank (label (drop 2 x))))) work work' t t' st st' r) es p)

    pub literal_put : (k : ℕ) → kind_in st ≡ k → is_term k ≡ true → kind_code PNAME_LN < k → (k ≡ kind_code BLANK_NODE_LABEL → ⊥) → (k ≡ kind_code kw_a → ⊥) → Puts (placed (spot_in st) (typed s (datatype_of k))) work work' t t' st st' r → PutsNode doc work work' t t' st st' r
    literal_put k e h high n4 n13 p =
        each_literal (λ (j : ℕ). kind_in st ≡ j → Puts (placed (spot_in st) (typed (token_in doc st).text (datatype_of j))) work work' t t' st st' r → PutsNode doc work work' t t' st st' r) k h high n4 n13
        (λ x y. plain_node_put 8 x (record { escapes = refl; reference = refl; name = refl }) refl (typed (token_in doc st).text (datatype_of 8)) refl y)
        (λ x y. plain_node_put 9 x (record { escapes = refl; reference = refl; name = refl }) refl (typed (token_in doc st).text (datatype_of 9)) refl y)
        (λ x y. plain_node_put 10 x (record { escapes = refl; reference = refl; name = refl }) refl (typed (token_in doc st).text (datatype_of 10)) refl y)
        (λ x y. plain_node_put 14 x (record { escapes = refl; reference = refl; name = refl }) refl (typed (token_in doc st).text (datatype_of 14)) refl y)
        (λ x y. plain_node_put 15 x (record { escapes = refl; reference = refl; name = refl }) refl (typed (token_in doc st).text (datatype_of 15)) refl y)
        e (subst (λ (x : Text). Puts (placed (spot_in st) (typed x (datatype_of k))) work work' t t' st st' r) es p)

    pub iri_put : (k : ℕ) → kind_in st ≡ k → kind_code IRIREF ≤ k → k ≤ kind_code PNAME_LN → PutsToken (token_as k (at_in st) s) (placed (spot_in st) (iri_term (token_as k (at_in st) s))) work work' t t' st st' r → PutsNode doc work work' t t' st st' r
    iri_put k e low high p v g =
        subst (λ (x : Write ℕ). PutsToken (token_in doc st) (placed (spot_in st) x) work work' t t' st st' r)
        (rule_is (token_in doc st) k (ap kind_of_code e) (iri_term (token_in doc st)) v (each_iri (λ (j : ℕ). find_rule (kind_of_code j) (term_rules (token_in doc st)) ≡ some (iri_term (token_in doc st))) k low high refl refl refl) g)
        (subst (λ (x : Text). PutsToken (token_as (kind_in st) (at_in st) x) (placed (spot_in st) (iri_term (token_as (kind_in st) (at_in st) x))) work work' t t' st st' r) es
        (subst (λ (j : ℕ). PutsToken (token_as j (at_in st) s) (placed (spot_in st) (iri_term (token_as j (at_in st) s))) work work' t t' st st' r) (sym e) p))

-- ---- The token as a part of the document

module _ (doc : Text) (st : List ℕ) (c : Cursor doc st) where
  abbrev part : Text
  part = take (at_in st + len_in st - at_in st) (drop (at_in st) doc)

  pub part_is : part ≡ take (len_in st) (drop (at_in st) doc)
  part_is = ap (λ (n : ℕ). take n (drop (at_in st) doc)) (let e : at_in st + len_in st - at_in st ≡ len_in st = omega arith in e)

  part_length : length part ≡ len_in st
  part_length = ap length part_is ∙ length_part
    where
      length_part : length (take (len_in st) (drop (at_in st) doc)) ≡ len_in st
      length_part = let i = c.inside in let d = length-drop (at_in st) doc in length-take-le (len_in st) (drop (at_in st) doc) (omega (arith, i, d))

  pub part_short : length part ≤ document_limit
  part_short = let i = c.inside in let n = c.size in let e = part_length in omega (arith, i, n, e)

  module _ (h : TokenHere doc st) where
    pub part_begins : kind_in st ≡ kind_code IRIREF → get_or part 0 0 ≡ 60
    part_begins e =
        ap (λ (s : Text). get_or s 0 0) part_is
        ∙ (get_or-take (len_in st) (drop (at_in st) doc) 0 0 h.some_byte ∙ iriref_begins (drop (at_in st) doc) h.here_valid (len_in st) (rw e at h.matched))

    pub part_label : kind_in st ≡ kind_code BLANK_NODE_LABEL → 2 < length part
    part_label e = let l = label_long _ (len_in st) (rw e at h.matched) in let n = part_length in omega (arith, l, n)

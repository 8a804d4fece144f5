-- No term has two numbers: the number of a blank node is the node. A bracket or a cell is named by its token's place, and places rise.
use mathlib.Core.Path.{◌≡◌, refl, sym, ap, ◌∙◌, subst}
use mathlib.Core.Logic.{◌⊎◌, inl, inr, ⊎_elim}
use mathlib.Core.List.{List, [], ◌∷◌, ◌++◌}
use mathlib.Core.Bool.{Bool, true, false, ◌||◌}
use mathlib.Core.Option.{Option, none, some}
use Prim.Native.Nat.{ℕ, zero, suc, ◌+◌, ◌-◌, ◌≤◌, ◌<◌}
use native.Mathlib.Omega.{arith}
use lib.Dec.{T, ltb}
use lib.ListN.{length, take, drop}
use Rattle.text.specs.Text.{Text, cond, is}
use Rattle.utf8.specs.Utf8.{decode, width}
use Rattle.token.specs.Kind.{kind_of_code}
use Rattle.token.specs.Regular.{Match, nothing, hit}
use Rattle.token.specs.Terminals.{token_at}
use Rattle.token.specs.Tokens.{Token, Lexeme, token, unreadable, Cutting, between, comment, inside, white_space, in_comment, passed, trig_cuts, lexemes_from, lexemes, tokens_of}
use Rattle.token.proofs.Cutting.{cut_comment}
use Rattle.grammar.specs.Productions.{Mode}
use Rattle.grammar.proofs.Grammar.{kinds_of}
use Rattle.dataset.specs.Terms.{Blank, label, bracket, cell, numbered, Term, iri, blank, literal, tagged}
use Rattle.dataset.specs.Constructors.{iri_of}
use Rattle.table.specs.Tables.{number, term_at}
use Rattle.table.proofs.Numbers.{Known, found_known, not_none}
use Rattle.table.proofs.Finding.{number_more, number_last}
use Rattle.machine.specs.Memory.{Memory, start_memory, Write, term, term_by}
use Rattle.machine.specs.Frame.{Open, statement}
use Rattle.machine.specs.Rules.{find_rule, rules}
use Rattle.machine.specs.Read.{Lent, mode_of}
use Rattle.machine.specs.Construction.{tables}
use Rattle.machine.specs.Demand.{document_tokens, Meets}
use Rattle.machine.proofs.Decide.{tied_kinds}
use Rattle.machine.proofs.Agreement.{final, taken}
use Rattle.machine.proofs.Accepted.{agreement}
use Rattle.machine.proofs.Made.{named, Made, made_return, made_bind, made_then, made_most, made_term, made_iri, made_typed_by, made_row, made_enter, made_cell, made_bracket, RuleIs, of_statement, of_directive, rule_is, some_same}
use Rattle.machine.proofs.Demands.{finish_same}

-- Each term's own number is found for it; cells stand before x, brackets before y.
pub record Low (x y : ℕ) (ts : List Term) : Type 0 where
  pub own : (n : ℕ) (t : Term) → Known ts n t → number t ts ≡ some n
  pub cells : (n p : ℕ) → Known ts n (blank (cell p)) → p < x
  pub brackets : (n p : ℕ) → Known ts n (blank (bracket p)) → p < y

low_none : (x y : ℕ) → Low x y []
unfolding term_at
low_none x y = record { own = λ n t h. not_none h; cells = λ n p h. not_none h; brackets = λ n p h. not_none h }

low_less : {x y x' y' : ℕ} {ts : List Term} → x ≤ x' → y ≤ y' → Low x y ts → Low x' y' ts
low_less p q l =
    record {
      own = l.own;
      cells = λ n k h. let r = l.cells n k h in omega arith;
      brackets = λ n k h. let r = l.brackets n k h in omega arith;
    }

-- A term of a longer list is one of the list, or the last.
known_cases : (ts : List Term) (t : Term) (n : ℕ) (u : Term) → Known (ts ++ t ∷ []) n u → Known ts n u ⊎ ((n ≡ suc (length ts)) × (u ≡ t))
unfolding term_at
known_cases [] t zero u h = not_none h
known_cases [] t (suc zero) u h = inr (refl, sym (some_same h))
known_cases [] t (suc (suc n)) u h = not_none h
known_cases (v ∷ ts) t zero u h = not_none h
known_cases (v ∷ ts) t (suc zero) u h = inl h
known_cases (v ∷ ts) t (suc (suc n)) u h = ⊎_elim inl (λ (p, q). inr (ap suc p, q)) (known_cases ts t (suc n) u h)

-- One term more that was not there.
low_last : {x y x' y' : ℕ} {ts : List Term} (t : Term) → number t ts ≡ none → Low x y ts → x ≤ x' → y ≤ y'
    → ((p : ℕ) → blank (cell p) ≡ t → p < x') → ((p : ℕ) → blank (bracket p) ≡ t → p < y') → Low x' y' (ts ++ t ∷ [])
low_last {ts = ts} t e l p q c b =
    record {
      own =
          λ n u h.
          ⊎_elim (λ k. number_more u ts (t ∷ []) n (l.own n u k))
          (λ (i, j). subst (λ v. number v (ts ++ t ∷ []) ≡ some n) (sym j) (number_last t ts e ∙ ap some (sym i))) (known_cases ts t n u h);
      cells = λ n k h. ⊎_elim (λ i. let r = l.cells n k i in omega arith) (λ (i, j). c k j) (known_cases ts t n (blank (cell k)) h);
      brackets = λ n k h. ⊎_elim (λ i. let r = l.brackets n k i in omega arith) (λ (i, j). b k j) (known_cases ts t n (blank (bracket k)) h);
    }

is_named : (t : Term) (b : Blank) → blank b ≡ t → T (named t) → T (named (blank b))
is_named t b e h = subst (λ u. T (named u)) (sym e) h

low_term : {x y : ℕ} (t : Term) → T (named t) → (m : Memory) → Low x y m.terms → Low x y (term t m).1.terms
low_term {x} {y} t h m l = go (number t m.terms) refl
  where
    go : (o : Option ℕ) → number t m.terms ≡ o → Low x y (term_by o t m).1.terms
    go (some n) e = l
    go none e = low_last t e l (omega arith) (omega arith) (λ p q. absurd (is_named t (cell p) q h)) (λ p q. absurd (is_named t (bracket p) q h))

place_of : Term → ℕ
place_of (iri s) = 0
place_of (blank (label s)) = 0
place_of (blank (bracket p)) = p
place_of (blank (cell p)) = p
place_of (blank (numbered p)) = p
place_of (literal s d) = 0
place_of (tagged s g) = 0

is_cell : Term → Bool
is_cell (iri s) = false
is_cell (blank (label s)) = false
is_cell (blank (bracket p)) = false
is_cell (blank (cell p)) = true
is_cell (blank (numbered p)) = false
is_cell (literal s d) = false
is_cell (tagged s g) = false

-- A place that no cell, or no bracket, has.
absent : (t : Term) (ts : List Term) → ((n : ℕ) → Known ts n t → ⊥) → number t ts ≡ none
absent t ts f = go (number t ts) refl
  where
    go : (o : Option ℕ) → number t ts ≡ o → number t ts ≡ none
    go none e = e
    go (some n) e = absurd (f n (found_known t ts n e))

low_cell : {at y : ℕ} (m : Memory) → Low at y m.terms → Low (suc at) y (m.terms ++ blank (cell at) ∷ [])
unfolding place_of is_cell
low_cell {at} m l =
    low_last (blank (cell at)) (absent (blank (cell at)) m.terms (λ n h. let r = l.cells n at h in omega arith)) l (omega arith) (omega arith)
    (λ p q. let e : p ≡ at = ap place_of q in omega arith) (λ p q. absurd (subst (λ t. T (is_cell t)) (sym q) tt))

low_bracket : {x at : ℕ} (m : Memory) → Low x at m.terms → Low x (suc at) (m.terms ++ blank (bracket at) ∷ [])
unfolding place_of is_cell
low_bracket {at = at} m l =
    low_last (blank (bracket at)) (absent (blank (bracket at)) m.terms (λ n h. let r = l.brackets n at h in omega arith)) l (omega arith) (omega arith)
    (λ p q. absurd (subst (λ t. T (is_cell t)) q tt)) (λ p q. let e : p ≡ at = ap place_of q in omega arith)

-- Where a cell, or a bracket, may still be made at a place, all others stand before it.
abbrev bound : Bool → ℕ → ℕ
bound true at = at
bound false at = suc at

neat : {at : ℕ} {A : Type 0} {k : ℕ} {c b c' b' : Bool} {w : Write A} → Made at A k c b c' b' w → (m : Memory) → Low (bound c at) (bound b at) m.terms
    → Low (bound c' at) (bound b' at) (w m).1.terms
neat (made_return a) m l = l
neat (made_bind {w = w} x y) m l = neat (y (w m).0) (w m).1 (neat x m l)
neat (made_then {w = w} x y) m l = neat y (w m).1 (neat x m l)
neat (made_most x) m l = neat x m l
neat (made_term t h) m l = low_term t h m l
neat (made_iri t) m l = low_term (iri (iri_of m.environment t)) tt m l
neat (made_typed_by s t) m l =
    let d = iri_of m.environment t in
    low_term (literal s d) tt (term (iri d) m).1 (low_term (iri d) tt m l)
neat (made_row s p o q) m l = l
neat (made_enter g) m l = l
neat made_cell m l = low_cell m l
neat made_bracket m l = low_bracket m l

-- A rule at a token that stands behind all places so far.
neat_rule : (t : Token) (tied : Bool) (mode : Mode) (o : Open) (w : Write Open) → find_rule t.kind (rules t tied mode o) ≡ some w
    → (m : Memory) → Low t.start t.start m.terms → Low (suc t.start) (suc t.start) (w m).1.terms
neat_rule t tied mode o w e m l = go (rule_is t tied mode o w e)
  where
    less : (b : Bool) → bound b t.start ≤ suc t.start
    less true = omega arith
    less false = omega arith

    go : RuleIs t.start t.kind w → Low (suc t.start) (suc t.start) (w m).1.terms
    go (of_statement x) = low_less (less x.few.cell_left) (less x.few.bracket_left) (neat x.few.made m l)
    go (of_directive f) = subst (Low (suc t.start) (suc t.start)) (sym (f m).1) (low_less (omega arith) (omega arith) l)

-- ---- Places rise

abbrev Rising : ℕ → List Token → Type 0
Rising a [] = Unit {0}
Rising a (t ∷ ts) = (a ≤ t.start) × Rising (suc t.start) ts

rising_less : (a b : ℕ) (ts : List Token) → a ≤ b → Rising b ts → Rising a ts
rising_less a b [] p r = tt
rising_less a b (t ∷ ts) p (q, r) = (omega arith, r)

wide : (c : ℕ) → 1 ≤ width c
wide c = go (ltb c 0x80) (ltb c 0x800) (ltb c 0x10000)
  where
    go : (x y z : Bool) → 1 ≤ cond x 1 (cond y 2 (cond z 3 4))
    go true y z = omega arith
    go false true z = omega arith
    go false false true = omega arith
    go false false false = omega arith

rising_from : (doc : Text) (state : Cutting) (at : ℕ) (cs : List ℕ) → Rising at (tokens_of (lexemes_from trig_cuts doc state at cs))
unfolding lexemes_from tokens_of
rising_from doc state at [] = tt
rising_from doc (inside k) at (c ∷ cs) = rising_less at (at + width c) (tokens_of (lexemes_from trig_cuts doc (passed (k - width c)) (at + width c) cs)) (omega arith) (rising_from doc (passed (k - width c)) (at + width c) cs)
rising_from doc comment at (c ∷ cs) =
    subst (λ (ls : List Lexeme). Rising at (tokens_of ls)) (sym (cut_comment doc at c cs))
    (rising_less at (at + width c) (tokens_of (lexemes_from trig_cuts doc (in_comment c) (at + width c) cs)) (omega arith) (rising_from doc (in_comment c) (at + width c) cs))
rising_from doc between at (c ∷ cs) =
    here (white_space c || is "#" c) (token_at (c ∷ cs)) (rising_from doc (cond (is "#" c) comment between) (at + width c) cs) (λ n. rising_from doc (passed (n - width c)) (at + width c) cs)
  where
    here : (b : Bool) (o : Match) → Rising (at + width c) (tokens_of (lexemes_from trig_cuts doc (cond (is "#" c) comment between) (at + width c) cs))
        → ((n : ℕ) → Rising (at + width c) (tokens_of (lexemes_from trig_cuts doc (passed (n - width c)) (at + width c) cs)))
        → Rising at
        (tokens_of
        (elim b [
          | true ↦ lexemes_from trig_cuts doc (cond (is "#" c) comment between) (at + width c) cs
          | false ↦
              elim o [
                | nothing ↦ unreadable at ∷ []
                | hit k n ↦
                    token (record { kind = kind_of_code k; start = at; text = take n (drop at doc) })
                    ∷ lexemes_from trig_cuts doc (passed (n - width c)) (at + width c) cs
              ]
        ]))
    here true o h f = rising_less at (at + width c) (tokens_of (lexemes_from trig_cuts doc (cond (is "#" c) comment between) (at + width c) cs)) (omega arith) h
    here false nothing h f = tt
    here false (hit k n) h f = (omega arith, rising_less (suc at) (at + width c) (tokens_of (lexemes_from trig_cuts doc (passed (n - width c)) (at + width c) cs)) (omega (arith, wide c)) (f n))

-- ---- The theorem

final_low : (mode : Mode) (ts : List Token) (a : ℕ) (o : Open) (m M : Memory) → Rising a ts → Low a a m.terms → final mode ts o m ≡ some M → (z : ℕ) × Low z z M.terms
unfolding final taken
final_low mode [] a o m M r l e = (a, subst (λ x. Low a a x.terms) (finish_same o m M e).1 l)
final_low mode (t ∷ ts) a o m M (q, r) l e =
    go (find_rule t.kind (rules t (tied_kinds (kinds_of ts)) mode o)) refl e (λ o' m' l' d. final_low mode ts (suc t.start) o' m' M r l' d)
  where
    go : (x : Option (Write Open)) → find_rule t.kind (rules t (tied_kinds (kinds_of ts)) mode o) ≡ x → taken x m (λ o' m'. final mode ts o' m') ≡ some M
        → ((o' : Open) (m' : Memory) → Low (suc t.start) (suc t.start) m'.terms → final mode ts o' m' ≡ some M → (z : ℕ) × Low z z M.terms) → (z : ℕ) × Low z z M.terms
    go none p d f = not_none d
    go (some w) p d f = f (w m).0 (w m).1 (neat_rule t (tied_kinds (kinds_of ts)) mode o w p m (low_less q q l)) d

-- In an accepted document's tables each term has one number: what is found for it is its own.
pub one_number : (doc : Text) (mode : ℕ) (base : Text) (lent : Lent) (x : Meets doc mode base lent) (n : ℕ) (t : Term)
    → Known (tables (mode_of mode) x.derivation.0 base).terms n t → number t (tables (mode_of mode) x.derivation.0 base).terms ≡ some n
unfolding lexemes
one_number doc mode base lent x =
    let (d, p) = x.derivation in
    let e : final (mode_of mode) (document_tokens doc) (statement []) (start_memory base) ≡ some (tables (mode_of mode) d base) =
    ap (λ l. final (mode_of mode) l (statement []) (start_memory base)) (sym p) ∙ agreement (mode_of mode) d base in
    (final_low (mode_of mode) (document_tokens doc) 0 (statement []) (start_memory base) (tables (mode_of mode) d base) (rising_from doc between 0 (decode doc)) (low_none 0 0) e).1.own

-- What the machine has written after some tokens are the largest tables with which the tables of every completion begin.
use mathlib.Core.Path.{◌≡◌, refl, sym, ap, ◌∙◌, subst}
use mathlib.Core.Logic.{◌⊎◌, inl, inr, ⊎_elim}
use mathlib.Core.List.{List, [], ◌∷◌, ◌++◌}
use mathlib.Core.Bool.{Bool}
use mathlib.Core.Option.{some}
use Prim.Native.Nat.{ℕ, suc, ◌≤◌, ◌<◌}
use native.Mathlib.Omega.{arith}
use lib.ListN.{length, take, drop, length-append}
use Rattle.text.specs.Text.{Text}
use Rattle.text.proofs.Compare.{contrary}
use Rattle.token.specs.Tokens.{Token, Lexeme, tokens_of}
use Rattle.grammar.specs.Productions.{Mode}
use Rattle.dataset.specs.Terms.{Term, iri, blank, cell}
use Rattle.table.specs.Layout.{Row}
use Rattle.table.proofs.Numbers.{not_none}
use Rattle.machine.specs.Memory.{Memory}
use Rattle.machine.specs.Step.{State, tied_to}
use Rattle.machine.specs.Read.{start_state}
use Rattle.machine.specs.Construction.{tables}
use Rattle.machine.proofs.Demands.{after_rules}
use Rattle.machine.proofs.Extends.{Extends}
use Rattle.completions.specs.Written.{Beginning, Completion, ObjectsThere, Common, Written}
use Rattle.completions.proofs.After.{same_tie, begins_tables, completes}
use Rattle.completions.proofs.Closing.{long_name}
use Rattle.completions.proofs.Names.{hefts, fresh, replicate_length}
use Rattle.completions.proofs.Effects.{First, Far}
use Rattle.completions.proofs.Complete.{awaits, Ends, ends}
use Rattle.completions.proofs.Sane.{start_sane, after_sane}

-- ---- Beginnings

-- Of two beginnings of a list one begins the other; the first is no longer, or goes on where the second ends.
compare : {A : Type 0} (xs ys us vs : List A) → xs ++ us ≡ ys ++ vs → Beginning xs ys ⊎ ((z : A) × (zs : List A) × (xs ≡ ys ++ z ∷ zs))
compare [] ys us vs e = inl (ys, refl)
compare (x ∷ xs) [] us vs e = inr (x, xs, refl)
compare (x ∷ xs) (y ∷ ys) us vs e =
    let p : y ≡ x = cc in
    let q : xs ++ us ≡ ys ++ vs = cc in
    ⊎_elim
    (λ (zs, f). inl (zs, cons_same y x ys xs zs p f))
    (λ (z, zs, f). inr (z, zs, cons_same x y xs ys (z ∷ zs) (sym p) f))
    (compare xs ys us vs q)
  where
    cons_same : {A : Type 0} (a b : A) (ks bs cs : List A) → a ≡ b → ks ≡ bs ++ cs → a ∷ ks ≡ (b ∷ bs) ++ cs
    cons_same a b ks bs cs p q = cc

-- What stands behind the same beginning is the same.
next_same : {A : Type 0} (xs : List A) (a b : A) (us vs ws : List A) → (xs ++ a ∷ us) ++ vs ≡ xs ++ b ∷ ws → a ≡ b
next_same [] a b us vs ws e = cc
next_same (x ∷ xs) a b us vs ws e = let q : (xs ++ a ∷ us) ++ vs ≡ xs ++ b ∷ ws = cc in next_same xs a b us vs ws q

nothing_next : {A X : Type 0} (xs : List A) (a : A) (us vs : List A) → (xs ++ a ∷ us) ++ vs ≡ xs → X
nothing_next [] a us vs e = let z : ◌≡◌ {A = ℕ} 0 1 = cc in absurd (omega arith)
nothing_next (x ∷ xs) a us vs e = let q : (xs ++ a ∷ us) ++ vs ≡ xs = cc in nothing_next xs a us vs q

-- ---- Names

names_differ : {X : Type 0} (v w : ℕ) (t : Term) → v < w → First v 0 t → First w 0 t → X
names_differ v w t l (inl e) (inl f) =
    let q : long_name v ≡ long_name w = (let d : iri (long_name v) ≡ iri (long_name w) = sym e ∙ f in cc) in
    let n = ap length q in
    let a = replicate_length v in
    let b = replicate_length w in
    absurd (omega arith)
names_differ v w t l (inl e) (inr f) = let d : iri (long_name v) ≡ blank (cell w) = sym e ∙ f in let z : ◌≡◌ {A = ℕ} 0 1 = cc in absurd (omega arith)
names_differ v w t l (inr e) (inl f) = let d : blank (cell v) ≡ iri (long_name w) = sym e ∙ f in let z : ◌≡◌ {A = ℕ} 0 1 = cc in absurd (omega arith)
names_differ v w t l (inr e) (inr f) = let d : v ≡ w = (let c : blank (cell v) ≡ blank (cell w) = sym e ∙ f in cc) in absurd (omega arith)

-- A row of a list has its object there.
object_there : (n : ℕ) (xs : List Row) (r : Row) (us : List Row) → ObjectsThere n (xs ++ r ∷ us) → r.object ≤ n
object_there n [] r us o = o.0
object_there n (x ∷ xs) r us o = object_there n xs r us o.1

-- ---- The state after i tokens, behind which a tag or ^^ follows exactly if a string awaits it

module _ (mode : Mode) (base : Text) (i : ℕ) (ls : List Lexeme) (s : State) (e : after_rules mode i ls (start_state base) ≡ some s) (h : tied_to (drop i ls) ≡ awaits s.open_now) where
  abbrev tied : Bool
  tied = awaits s.open_now

  abbrev tokens : List Token
  tokens = take i (tokens_of ls)

  abbrev m : Memory
  m = s.memory

  begins : (c : Completion tied mode tokens) → Extends m (tables mode c.derivation base)
  begins c = begins_tables mode base i ls c.rest s e (sym (same_tie c.rest) ∙ c.complete ∙ sym h) c.derivation c.tokens

  pub common : Common tied mode base tokens m.rows m.terms
  common =
      record {
        rows_begin = λ c. ((begins c).new_rows, (begins c).rows);
        terms_begin = λ c. ((begins c).new_terms, (begins c).terms);
        there = (after_sane mode i ls (start_state base) s e (start_sane base) (λ z. contrary (sym z))).0.objects;
      }

  ending : (v : ℕ) → Ends mode v s.open_now m
  ending v = ends mode v s.open_now m

  completion : (v : ℕ) → (c : Completion tied mode tokens) × (tables mode c.derivation base ≡ (ending v).outcome)
  completion v = completes mode tied base i ls (ending v).rest s (ending v).outcome e h (ending v).tie (ending v).runs

  module _ (rows' : List Row) (terms' : List Term) (C : Common tied mode base tokens rows' terms') where
    outcome_terms : (v : ℕ) → Beginning terms' (ending v).outcome.terms
    outcome_terms v = let (c, q) = completion v in let (us, p) = C.terms_begin c in (us, ap (λ (x : Memory). x.terms) (sym q) ∙ p)

    outcome_rows : (v : ℕ) → Beginning rows' (ending v).outcome.rows
    outcome_rows v = let (c, q) = completion v in let (us, p) = C.rows_begin c in (us, ap (λ (x : Memory). x.rows) (sym q) ∙ p)

    first_of : (v : ℕ) → hefts m.terms ≤ v → (z : Term) (zs : List Term) → terms' ≡ m.terms ++ z ∷ zs → First v 0 z
    first_of v l z zs f =
        let (us, p) = outcome_terms v in
        let q : (m.terms ++ z ∷ zs) ++ us ≡ (ending v).outcome.terms = ap (λ (x : List Term). x ++ us) (sym f) ∙ sym p in
        ⊎_elim (λ a. nothing_next m.terms z zs us (q ∙ a))
        (λ (t, vs, k, a). subst (First v 0) (sym (next_same m.terms z t zs us vs (q ∙ a))) k)
        (((ending v).wrote 0).terms (fresh v m.terms l))

    terms_most : Beginning terms' m.terms
    terms_most =
        let v = hefts m.terms in
        let (us, p) = outcome_terms v in
        let x = ((ending v).wrote 0).ext in
        ⊎_elim (λ a. a)
        (λ (z, zs, f). names_differ v (suc v) z (omega arith) (first_of v (omega arith) z zs f) (first_of (suc v) (omega arith) z zs f))
        (compare terms' m.terms us x.new_terms (sym p ∙ x.terms))

    far : Far (hefts m.terms) (length m.terms) m
    far =
        let f = fresh (hefts m.terms) m.terms (omega arith) in
        record { enough = omega arith; far_iri = λ n a. not_none (sym f.no_iri ∙ a); far_literal = λ t n a. not_none (sym (f.no_literal t) ∙ a) }

    rows_most : Beginning rows' m.rows
    rows_most =
        let v = hefts m.terms in
        let L = length m.terms in
        let (us, p) = outcome_rows v in
        let x = ((ending v).wrote L).ext in
        let (ts, g) = terms_most in
        let n : length terms' ≤ L = omega (arith, ap length g, length-append terms' ts) in
        ⊎_elim (λ a. a)
        (λ (z, zs, f).
        let q : (m.rows ++ z ∷ zs) ++ us ≡ (ending v).outcome.rows = ap (λ (y : List Row). y ++ us) (sym f) ∙ sym p in
        ⊎_elim (λ a. nothing_next m.rows z zs us (q ∙ a))
        (λ (r, vs, k, a).
        let d : z ≡ r = next_same m.rows z r zs us vs (q ∙ a) in
        let b : z.object ≤ length terms' = object_there (length terms') m.rows z zs (subst (ObjectsThere (length terms')) f C.there) in
        let c : r.object ≤ length terms' = subst (λ (y : Row). y.object ≤ length terms') d b in
        absurd (omega arith))
        (((ending v).wrote L).rows far))
        (compare rows' m.rows us x.new_rows (sym p ∙ x.rows))

  -- The largest tables with which all completions' tables begin.
  pub written : Written tied mode base tokens m.rows m.terms
  written = record { common = common; largest = λ rows' terms' C. (rows_most rows' terms' C, terms_most rows' terms' C) }

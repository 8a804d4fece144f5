-- Rows and terms that a writer takes, and writes that keep them so.
use mathlib.Core.Path.{◌≡◌, refl, sym, ap, ◌∙◌, subst}
use mathlib.Core.Logic.{◌⊎◌, inl, inr}
use mathlib.Core.Bool.{Bool, true, false}
use mathlib.Core.List.{List, [], ◌∷◌, ◌++◌, append-nil, append_assoc}
use mathlib.Core.Option.{Option, none, some}
use Prim.Native.Nat.{ℕ, suc, ◌+◌, ◌<◌}
use native.Mathlib.Omega.{arith}
use lib.Dec.{T}
use lib.ListN.{length}
use Rattle.text.specs.Text.{Text}
use Rattle.utf8.specs.Utf8.{first_bad}
use Rattle.token.specs.Tokens.{Token}
use Rattle.environment.specs.Environment.{Environment}
use Rattle.dataset.specs.Terms.{Term, iri, blank, literal, tagged}
use Rattle.dataset.specs.Constructors.{iri_of}
use Rattle.table.specs.Layout.{Row}
use Rattle.table.specs.Tables.{number, label_of}
use Rattle.table.specs.Usable.{Takes}
use Rattle.table.proofs.Numbers.{Known, known_more, known_last, found_known}
use Rattle.table.proofs.Finding.{number_more, number_last, number_within}
use Rattle.machine.specs.Memory.{Memory, Write, return, ◌>>=◌, ◌>>◌, term, term_by, new_term, typed, typed_by, iri_term, row, enter}
use Rattle.machine.specs.Frame.{object}
use Rattle.readback.proofs.Forms.{GoodIri}

-- ---- Terms that are added

pub record More (ts us : List Term) : Type 0 where
  pub new : List Term
  pub whole : us ≡ ts ++ new

pub more_same : (ts : List Term) → More ts ts
more_same ts = record { new = []; whole = sym (append-nil ts) }

pub more_last : (ts : List Term) (t : Term) → More ts (ts ++ t ∷ [])
more_last ts t = record { new = t ∷ []; whole = refl }

pub more_both : {ts us vs : List Term} → More ts us → More us vs → More ts vs
more_both {ts} a b = record { new = a.new ++ b.new; whole = b.whole ∙ ap (λ (l : List Term). l ++ b.new) a.whole ∙ append_assoc ts a.new b.new }

number_stays : {ts us : List Term} → More ts us → (t : Term) (n : ℕ) → number t ts ≡ some n → number t us ≡ some n
number_stays {ts} o t n e = ap (number t) o.whole ∙ number_more t ts o.new n e

-- ---- What a number is of

-- The number is of a term that passes the test.
pub record Has (p : Term → Bool) (ts : List Term) (n : ℕ) : Type 0 where
  pub it : Term
  pub known : Known ts n it
  pub passes : T (p it)

abbrev pub any : Term → Bool
any t = true

abbrev pub is_iri : Term → Bool
is_iri (iri s) = true
is_iri (blank b) = false
is_iri (literal s d) = false
is_iri (tagged s g) = false

abbrev pub is_resource : Term → Bool
is_resource (iri s) = true
is_resource (blank b) = true
is_resource (literal s d) = false
is_resource (tagged s g) = false

pub has_more : {p : Term → Bool} {ts us : List Term} {n : ℕ} → More ts us → Has p ts n → Has p us n
has_more {ts = ts} {us = us} {n = n} o h =
    record { it = h.it; known = subst (λ (l : List Term). Known l n h.it) (sym o.whole) (known_more ts o.new n h.it h.known); passes = h.passes }

pub has_any : {p : Term → Bool} {ts : List Term} {n : ℕ} → Has p ts n → Has any ts n
has_any h = record { it = h.it; known = h.known; passes = tt }

iri_resource : (t : Term) → T (is_iri t) → T (is_resource t)
iri_resource (iri s) h = tt
iri_resource (blank b) h = absurd h
iri_resource (literal s d) h = absurd h
iri_resource (tagged s g) h = absurd h

pub has_resource : {ts : List Term} {n : ℕ} → Has is_iri ts n → Has is_resource ts n
has_resource h = record { it = h.it; known = h.known; passes = iri_resource h.it h.passes }

pub has_found : {p : Term → Bool} {ts : List Term} {n : ℕ} (t : Term) → T (p t) → number t ts ≡ some n → Has p ts n
has_found {ts = ts} {n = n} t h e = record { it = t; known = found_known t ts n e; passes = h }

-- ---- Terms and rows that a writer takes

-- "a datatype is numbered before its literal"
pub record Earlier (ts : List Term) (n : ℕ) (d : Text) : Type 0 where
  pub place : ℕ
  pub found : number (iri d) ts ≡ some place
  pub before : place < n

-- The term n of ts.
abbrev pub Fine : Takes → List Term → ℕ → Term → Type 0
Fine v ts n (iri s) = GoodIri v s
Fine v ts n (blank b) = first_bad (label_of b) ≡ none
Fine v ts n (literal s d) = (first_bad s ≡ none) × Earlier ts n d
Fine v ts n (tagged s g) = (first_bad s ≡ none) × (v.tag g ≡ true)

fine_more : (v : Takes) {ts us : List Term} (n : ℕ) (t : Term) → More ts us → Fine v ts n t → Fine v us n t
fine_more v n (iri s) o h = h
fine_more v n (blank b) o h = h
fine_more v n (literal s d) o h = (h.0, record { place = h.1.place; found = number_stays o (iri d) h.1.place h.1.found; before = h.1.before })
fine_more v n (tagged s g) o h = h

-- The terms us, the first of which has the number n.
abbrev pub AllFine : Takes → List Term → ℕ → List Term → Type 0
AllFine v ts n [] = Unit {0}
AllFine v ts n (u ∷ us) = Fine v ts n u × AllFine v ts (suc n) us

all_fine_more : (v : Takes) {ts ts' : List Term} → More ts ts' → (n : ℕ) (us : List Term) → AllFine v ts n us → AllFine v ts' n us
all_fine_more v o n [] h = tt
all_fine_more v o n (u ∷ us) (f, h) = (fine_more v n u o f, all_fine_more v o (suc n) us h)

all_fine_last : (v : Takes) (ts : List Term) (n : ℕ) (us : List Term) (u : Term) → AllFine v ts n us → Fine v ts (n + length us) u → AllFine v ts n (us ++ u ∷ [])
all_fine_last v ts n [] u h f = (subst (λ (k : ℕ). Fine v ts k u) (omega arith) f, tt)
all_fine_last v ts n (t ∷ us) u (g, h) f = (g, all_fine_last v ts (suc n) us u h (subst (λ (k : ℕ). Fine v ts k u) (omega arith) f))

-- 0 or a resource
abbrev pub GraphFine : List Term → ℕ → Type 0
GraphFine ts g = (g ≡ 0) ⊎ Has is_resource ts g

pub graph_more : {ts us : List Term} {g : ℕ} → More ts us → GraphFine ts g → GraphFine us g
graph_more o (inl e) = inl e
graph_more o (inr h) = inr (has_more o h)

pub record RowFine (ts : List Term) (r : Row) : Type 0 where
  pub graph : GraphFine ts r.graph
  pub subject : Has is_resource ts r.subject
  pub predicate : Has is_iri ts r.predicate
  pub object : Has any ts r.object

abbrev pub RowsFine : List Term → List Row → Type 0
RowsFine ts [] = Unit {0}
RowsFine ts (r ∷ rs) = RowFine ts r × RowsFine ts rs

rows_more : {ts us : List Term} → More ts us → (rs : List Row) → RowsFine ts rs → RowsFine us rs
rows_more o [] h = tt
rows_more o (r ∷ rs) (f, h) =
    (record { graph = graph_more o f.graph; subject = has_more o f.subject; predicate = has_more o f.predicate; object = has_more o f.object }, rows_more o rs h)

rows_last : (ts : List Term) (rs : List Row) (r : Row) → RowsFine ts rs → RowFine ts r → RowsFine ts (rs ++ r ∷ [])
rows_last ts [] r h f = (f, tt)
rows_last ts (x ∷ rs) r (g, h) f = (g, rows_last ts rs r h f)

-- The memory, where e is in force.
pub record Kept (v : Takes) (e : Environment) (m : Memory) : Type 0 where
  pub terms : AllFine v m.terms 1 m.terms
  pub rows : RowsFine m.terms m.rows
  pub graph : GraphFine m.terms m.graph
  pub same : m.environment ≡ e

-- ---- Writes

-- What a write leaves, where the terms were ts.
pub record Result {A : Type 0} (v : Takes) (e : Environment) (Q : List Term → A → Type 0) (ts : List Term) (r : A × Memory) : Type 0 where
  pub more : More ts r.1.terms
  pub kept : Kept v e r.1
  pub post : Q r.1.terms r.0

-- Where the terms are ts or more, the write keeps the memory fine, and Q holds of its result.
pub record Safe {A : Type 0} (v : Takes) (e : Environment) (ts : List Term) (Q : List Term → A → Type 0) (w : Write A) : Type 0 where
  pub run : (m : Memory) → More ts m.terms → Kept v e m → Result v e Q m.terms (w m)

abbrev pub Nothing : {A : Type 0} → List Term → A → Type 0
Nothing ts a = Unit {0}

module _ {v : Takes} {e : Environment} where
  pub safe_return : {A : Type 0} {ts : List Term} {Q : List Term → A → Type 0} (a : A) → ((us : List Term) → More ts us → Q us a) → Safe v e ts Q (return a)
  safe_return a q = record { run = λ m o k. record { more = more_same m.terms; kept = k; post = q m.terms o } }

  pub safe_bind : {A B : Type 0} {ts : List Term} {Q : List Term → A → Type 0} {R : List Term → B → Type 0} {w : Write A} {f : A → Write B}
      → Safe v e ts Q w → ((us : List Term) (a : A) → More ts us → Q us a → Safe v e us R (f a)) → Safe v e ts R (w >>= f)
  safe_bind {w = w} x y =
      record {
        run =
            λ m o k.
            let r = x.run m o k in
            let s = (y (w m).1.terms (w m).0 (more_both o r.more) r.post).run (w m).1 (more_same (w m).1.terms) r.kept in
            record { more = more_both r.more s.more; kept = s.kept; post = s.post };
      }

  pub safe_then : {A B : Type 0} {ts : List Term} {Q : List Term → A → Type 0} {R : List Term → B → Type 0} {w : Write A} {x : Write B}
      → Safe v e ts Q w → ((us : List Term) → More ts us → Safe v e us R x) → Safe v e ts R (w >> x)
  safe_then {w = w} x y =
      record {
        run =
            λ m o k.
            let r = x.run m o k in
            let s = (y (w m).1.terms (more_both o r.more)).run (w m).1 (more_same (w m).1.terms) r.kept in
            record { more = more_both r.more s.more; kept = s.kept; post = s.post };
      }

  pub safe_as : {A : Type 0} {ts : List Term} {Q R : List Term → A → Type 0} {w : Write A} → Safe v e ts Q w → ((us : List Term) (a : A) → More ts us → Q us a → R us a) → Safe v e ts R w
  safe_as {w = w} x f =
      record {
        run = λ m o k. let r = x.run m o k in record { more = r.more; kept = r.kept; post = f (w m).1.terms (w m).0 (more_both o r.more) r.post };
      }

  -- One term more.
  kept_last : (m : Memory) (t : Term) → Fine v (m.terms ++ t ∷ []) (suc (length m.terms)) t → Kept v e m → Kept v e (new_term t m).1
  kept_last m t f k =
      let o = more_last m.terms t in
      record {
        terms = all_fine_last v (m.terms ++ t ∷ []) 1 m.terms t (all_fine_more v o 1 m.terms k.terms) (subst (λ (n : ℕ). Fine v (m.terms ++ t ∷ []) n t) (omega arith) f);
        rows = rows_more o m.rows k.rows;
        graph = graph_more o k.graph;
        same = k.same;
      }

  pub safe_new : {ts : List Term} (t : Term) → ((us : List Term) → More ts us → Fine v (us ++ t ∷ []) (suc (length us)) t) → Safe v e ts (λ us n. Known us n t) (new_term t)
  safe_new t f = record { run = λ m o k. record { more = more_last m.terms t; kept = kept_last m t (f m.terms o) k; post = known_last m.terms t } }

  pub safe_term : {ts : List Term} (t : Term) → ((us : List Term) → More ts us → Fine v (us ++ t ∷ []) (suc (length us)) t) → Safe v e ts (λ us n. number t us ≡ some n) (term t)
  safe_term {ts} t f = record { run = λ m o k. go m o k (number t m.terms) refl }
    where
      go : (m : Memory) → More ts m.terms → Kept v e m → (x : Option ℕ) → number t m.terms ≡ x → Result v e (λ us n. number t us ≡ some n) m.terms (term_by x t m)
      go m o k (some n) p = record { more = more_same m.terms; kept = k; post = p }
      go m o k none p = record { more = more_last m.terms t; kept = kept_last m t (f m.terms o) k; post = number_last t m.terms p }

  pub safe_row : {ts : List Term} (s p o at : ℕ) → Has is_resource ts s → Has is_iri ts p → Has any ts o → Safe v e ts Nothing (row s p o at)
  safe_row s p o at hs hp ho =
      record {
        run =
            λ m x k.
            record {
              more = more_same m.terms;
              kept =
                  record {
                    terms = k.terms;
                    rows =
                        rows_last m.terms m.rows (record { graph = m.graph; subject = s; predicate = p; object = o; position = at }) k.rows
                        (record { graph = k.graph; subject = has_more x hs; predicate = has_more x hp; object = has_more x ho });
                    graph = k.graph;
                    same = k.same;
                  };
              post = tt;
            };
      }

  pub safe_enter : {ts : List Term} (g : ℕ) → GraphFine ts g → Safe v e ts Nothing (enter g)
  safe_enter g h =
      record {
        run = λ m o k. record { more = more_same m.terms; kept = record { terms = k.terms; rows = k.rows; graph = graph_more o h; same = k.same }; post = tt };
      }

  -- An IRI.
  pub safe_iri : {ts : List Term} (s : Text) → GoodIri v s → Safe v e ts (Has is_iri) (term (iri s))
  safe_iri s g = safe_as (safe_term (iri s) (λ us o. g)) (λ us n o q. has_found (iri s) tt q)

  -- A literal: its datatype is numbered before it.
  pub safe_typed : {ts : List Term} (s d : Text) → first_bad s ≡ none → GoodIri v d → Safe v e ts (Has any) (typed s d)
  safe_typed s d u g =
      safe_bind (safe_term (iri d) (λ us o. g))
      (λ us n o q.
      safe_as
      (safe_term (literal s d)
      (λ vs p. (
        u,
        record {
          place = n;
          found = number_more (iri d) vs (literal s d ∷ []) n (number_stays p (iri d) n q);
          before = omega (arith, number_within (iri d) vs n (number_stays p (iri d) n q));
        },
      )))
      (λ vs k p r. has_found (literal s d) tt r))

  -- The same of a token.
  pub safe_iri_term : {ts : List Term} (t : Token) → GoodIri v (iri_of e t) → Safe v e ts (Has is_iri) (iri_term t)
  safe_iri_term t g =
      record { run = λ m o k. (safe_iri (iri_of m.environment t) (subst (λ (x : Environment). GoodIri v (iri_of x t)) (sym k.same) g)).run m o k }

  pub safe_typed_by : {ts : List Term} (s : Text) (t : Token) → first_bad s ≡ none → GoodIri v (iri_of e t) → Safe v e ts (Has any) (typed_by s t)
  safe_typed_by s t u g =
      record { run = λ m o k. (safe_typed s (iri_of m.environment t) u (subst (λ (x : Environment). GoodIri v (iri_of x t)) (sym k.same) g)).run m o k }

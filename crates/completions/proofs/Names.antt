-- The name that a closing token has, and that no term has it when it is long enough.
use mathlib.Core.Path.{◌≡◌, refl, ap, ◌∙◌}
use mathlib.Core.Logic.{◌⊎◌, inl, inr, ⊎_elim}
use mathlib.Core.List.{List, [], ◌∷◌, ◌++◌}
use mathlib.Core.Bool.{Bool, true, false, ◌&&◌}
use mathlib.Core.Option.{none, some}
use Prim.Native.Nat.{ℕ, zero, suc, ◌+◌, ◌-◌, ◌≤◌, ◌<◌}
use native.Mathlib.Omega.{arith}
use lib.ListN.{length, replicate, length-append}
use lib.Seq.{take_at}
use Rattle.text.specs.Text.{Text, cond, is, some_byte, same_text, from}
use Rattle.text.proofs.Compare.{same_length}
use Rattle.escape.specs.Escape.{unescape}
use Rattle.escape.proofs.Walk.{plain_text}
use Rattle.iri.specs.Iri.{has_scheme}
use Rattle.iri.specs.Resolve.{resolved}
use Rattle.environment.specs.Environment.{Environment}
use Rattle.dataset.specs.Terms.{Term, iri, blank, literal, tagged}
use Rattle.dataset.specs.Constructors.{inner, reference, resolved_reference, iri_of}
use Rattle.table.specs.Tables.{same_term, number_from, number}
use Rattle.table.proofs.Numbers.{not_none}
use Rattle.completions.proofs.Closing.{long_name, name}

inner_marked : (a b : ℕ) (x : Text) → inner 1 (a ∷ (x ++ b ∷ [])) ≡ x
unfolding inner
inner_marked a b x = take_at x (b ∷ []) (length (a ∷ (x ++ b ∷ [])) - 2) (let l = length-append x (b ∷ []) in omega arith)

no_backslash : (v : ℕ) → some_byte (is "\\") (replicate v 97) ≡ false
unfolding some_byte
no_backslash zero = refl
no_backslash (suc v) = no_backslash v

name_plain : (v : ℕ) → some_byte (is "\\") (long_name v) ≡ false
unfolding some_byte
name_plain v = no_backslash v

name_reference : (v : ℕ) → reference (name v) ≡ long_name v
unfolding reference
name_reference v = ap unescape (inner_marked 60 62 (long_name v)) ∙ plain_text (long_name v) (name_plain v)

name_scheme : (v : ℕ) → has_scheme (long_name v) ≡ true
unfolding has_scheme from
name_scheme v = refl

name_resolved : (b : Text) (v : ℕ) → resolved b (long_name v) ≡ long_name v
unfolding resolved
name_resolved b v = rw (name_scheme v)

-- Whatever is in force.
pub name_iri : (e : Environment) (v : ℕ) → iri_of e (name v) ≡ long_name v
unfolding iri_of resolved_reference
name_iri e v = ap (resolved e.base) (name_reference v) ∙ name_resolved e.base v

-- ---- A name that is longer than all

pub replicate_length : (v : ℕ) → length {A = ℕ} (replicate v 97) ≡ v
replicate_length zero = refl
replicate_length (suc v) = ap suc (replicate_length v)

abbrev heft : Term → ℕ
heft (iri s) = length s
heft (blank b) = 0
heft (literal s d) = length d
heft (tagged s g) = 0

pub hefts : List Term → ℕ
hefts [] = 0
hefts (t ∷ ts) = heft t + hefts ts

longer : (v : ℕ) (s : Text) → length s ≤ v → same_text (long_name v) s ≡ false
longer v s l = same_length (long_name v) s (λ e. let r = replicate_length v in absurd (omega arith))

and_none : (a b : Bool) → b ≡ false → (a && b) ≡ false
and_none true b e = e
and_none false b e = refl

differs_iri : (v : ℕ) (u : Term) → heft u ≤ v → same_term (iri (long_name v)) u ≡ false
unfolding same_term
differs_iri v (iri s) l = longer v s l
differs_iri v (blank b) l = refl
differs_iri v (literal s d) l = refl
differs_iri v (tagged s g) l = refl

differs_literal : (v : ℕ) (x : Text) (u : Term) → heft u ≤ v → same_term (literal x (long_name v)) u ≡ false
unfolding same_term
differs_literal v x (iri s) l = refl
differs_literal v x (blank b) l = refl
differs_literal v x (literal s d) l = and_none (same_text x s) (same_text (long_name v) d) (longer v d l)
differs_literal v x (tagged s g) l = refl

none_from : (t : Term) (v : ℕ) → ((u : Term) → heft u ≤ v → same_term t u ≡ false) → (ts : List Term) (n : ℕ) → hefts ts ≤ v → number_from n t ts ≡ none
unfolding number_from hefts
none_from t v f [] n l = refl
none_from t v f (u ∷ ts) n l = rw (f u (omega arith)) (none_from t v f ts (suc n) (omega arith))

-- No term has the name, and no literal its type.
pub record Fresh (v : ℕ) (ts : List Term) : Type 0 where
  pub no_iri : number (iri (long_name v)) ts ≡ none
  pub no_literal : (s : Text) → number (literal s (long_name v)) ts ≡ none

pub fresh : (v : ℕ) (ts : List Term) → hefts ts ≤ v → Fresh v ts
unfolding number
fresh v ts l = record { no_iri = none_from (iri (long_name v)) v (differs_iri v) ts 1 l; no_literal = λ s. none_from (literal s (long_name v)) v (differs_literal v s) ts 1 l }

-- ---- Where a term is found when there are more

at_least : (t : Term) (us : List Term) (k n : ℕ) → number_from k t us ≡ some n → k ≤ n
unfolding number_from
at_least t [] k n e = not_none e
at_least t (u ∷ us) k n e = go (same_term t u) e (λ d. at_least t us (suc k) n d)
  where
    go : (b : Bool) → cond b (some k) (number_from (suc k) t us) ≡ some n → (number_from (suc k) t us ≡ some n → suc k ≤ n) → k ≤ n
    go true d f = let q : k ≡ n = cc in omega arith
    go false d f = let q = f d in omega arith

found_from : (t : Term) (ts us : List Term) (k n : ℕ) → number_from k t (ts ++ us) ≡ some n → (number_from k t ts ≡ some n) ⊎ (k + length ts ≤ n)
unfolding number_from
found_from t [] us k n e = inr (let q = at_least t us k n e in omega arith)
found_from t (u ∷ ts) us k n e = go (same_term t u) e (λ d. found_from t ts us (suc k) n d)
  where
    go : (b : Bool) → cond b (some k) (number_from (suc k) t (ts ++ us)) ≡ some n → (number_from (suc k) t (ts ++ us) ≡ some n → (number_from (suc k) t ts ≡ some n) ⊎ (suc k + length ts ≤ n))
        → (cond b (some k) (number_from (suc k) t ts) ≡ some n) ⊎ (k + suc (length ts) ≤ n)
    go true d f = inl d
    go false d f = ⊎_elim (λ x. inl x) (λ x. inr (omega arith)) (f d)

pub found_where : (t : Term) (ts us : List Term) (n : ℕ) → number t (ts ++ us) ≡ some n → (number t ts ≡ some n) ⊎ (length ts < n)
unfolding number
found_where t ts us n e = ⊎_elim (λ x. inl x) (λ x. inr (omega arith)) (found_from t ts us 1 n e)

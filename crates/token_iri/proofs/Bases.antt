-- A reference that is resolved has a scheme: its own, or the base's.
use Prim.Native.Nat.{ℕ}
use mathlib.Core.Path.{◌≡◌, refl, ap, sym, ◌∙◌}
use mathlib.Core.List.{[], ◌∷◌, ◌++◌, append_assoc}
use mathlib.Core.Bool.{Bool, true, false, not, ◌&&◌, ◌||◌}
use native.Mathlib.Omega.{arith}
use lib.ListN.{length}
use lib.Dec.{eqb, ltb}
use borrow.Author.Tests.{eqb-true}
use Rattle.text.specs.Text.{Text, is, until, empty}
use Rattle.text.proofs.Compare.{by, contrary}
use Rattle.limits.specs.Limits.{iri_limit}
use Rattle.iri.specs.Iri.{letter, scheme_byte, has_scheme, scheme}
use Rattle.iri.specs.Resolve.{Parts, recompose, resolve_by, resolve, resolved}
use Rattle.iri.specs.Code.{scheme_from}
use Rattle.std.specs.Prelude.{Result, Ok, Err}
use Rattle.iri.specs.declared.ResolveError.{ResolveError}
use Rattle.iri.specs.declared.ResolveError.TheVariants.{Long, NoBase}
use Rattle.iri.proofs.Escaped.{byte_by_byte}
use Rattle.machine.specs.Refusals.{long_resolved}
use Rattle.token_iri.specs.Tests.{outcome}

-- An error by its kind.
pub err_is : {T E : Type 0} {r : Result T E} {x y : E} → r ≡ Err x → x ≡ y → r ≡ Err y
err_is e f = rw f at e

-- The answers differ.
no_base_long : {X : Type 0} → ◌≡◌ {A = Result ℕ ResolveError} (Err NoBase) (Err Long) → X
no_base_long e = absurd (let z : ◌≡◌ {A = ℕ} 0 1 = cc in omega arith)

pub no_base_written : {X : Type 0} {k : ℕ} → Err NoBase ≡ Ok k → X
no_base_written e = absurd (let z : ◌≡◌ {A = ℕ} 0 1 = cc in omega arith)

pub long_written : {X : Type 0} {k : ℕ} → Err Long ≡ Ok k → X
long_written e = absurd (let z : ◌≡◌ {A = ℕ} 0 1 = cc in omega arith)

-- A colon is no byte of a scheme.
no_colon : (f : ℕ → Bool) → f 58 ≡ false → (c : ℕ) → f c ≡ true → eqb c 58 ≡ false
no_colon f n c e = by (eqb c 58) (λ q. contrary (sym e ∙ ap f (eqb-true c 58 q) ∙ n)) (λ q. q)

kept_scheme : (first : Bool) (b x : Text) → scheme_from first b ≡ true → scheme_from first (until (is ":") b ++ (58 ∷ x)) ≡ true
unfolding scheme_from until
kept_scheme first [] x h = contrary (sym h)
kept_scheme true (c ∷ s) x h =
    by (letter c)
    (λ e. rw (no_colon letter refl c e, e) (kept_scheme false s x (sym (first_letter e) ∙ h)))
    (λ e. contrary (sym h ∙ no_letter e))
  where
    first_letter : letter c ≡ true → scheme_from true (c ∷ s) ≡ scheme_from false s
    first_letter e = rw e

    no_letter : letter c ≡ false → scheme_from true (c ∷ s) ≡ false
    no_letter e = rw e
kept_scheme false (c ∷ s) x h =
    by (scheme_byte c)
    (λ e. rw (no_colon scheme_byte refl c e, e) (kept_scheme false s x (sym (next_byte e) ∙ h)))
    (λ e. rw (sym (last_byte e) ∙ h))
  where
    next_byte : scheme_byte c ≡ true → scheme_from false (c ∷ s) ≡ scheme_from false s
    next_byte e = rw e

    last_byte : scheme_byte c ≡ false → scheme_from false (c ∷ s) ≡ eqb c 58
    last_byte e = rw e

recomposed : (s : Text) (t : Parts) → recompose s t ≡ s ++ (58 ∷ (t.authority ++ (t.path ++ (t.query ++ t.fragment))))
unfolding recompose
recomposed s t = simp append_assoc

pub resolve_scheme : (b r : Text) → has_scheme b ≡ true → has_scheme (resolve b r) ≡ true
unfolding resolve resolve_by scheme
resolve_scheme b r h = rw (byte_by_byte (resolve b r), recomposed (scheme b)) (kept_scheme true b _ (sym (byte_by_byte b) ∙ h))

-- What an outcome says of the tests of the reference.
abbrev baseless : Text → Text → Bool
baseless b r = not (has_scheme r) && empty b

abbrev lengthy : Text → Text → Bool
lengthy b r = ltb iri_limit (length r) || long_resolved b r

pub outcome_no_base : (b r : Text) → Err NoBase ≡ outcome b r → (not (has_scheme r) && empty b) ≡ true
unfolding outcome
outcome_no_base b r e = by (baseless b r) (λ h. h) (λ h. by (lengthy b r) (λ g. no_base_long (rw (h, g) at e)) (λ g. no_base_written (rw (h, g) at e)))

pub record WasLong (b r : Text) : Type 0 where
  pub based : (not (has_scheme r) && empty b) ≡ false
  pub long : (ltb iri_limit (length r) || long_resolved b r) ≡ true

pub record WasWritten (b r : Text) (k : ℕ) : Type 0 where
  pub based : (not (has_scheme r) && empty b) ≡ false
  pub short : (ltb iri_limit (length r) || long_resolved b r) ≡ false
  pub size : k ≡ length (resolved b r)

pub outcome_long : (b r : Text) → Err Long ≡ outcome b r → WasLong b r
unfolding outcome
outcome_long b r e = by (baseless b r) (λ h. no_base_long (sym (rw h at e))) (λ h. by (lengthy b r) (λ g. record { based = h; long = g }) (λ g. long_written (rw (h, g) at e)))

pub outcome_written : (b r : Text) (k : ℕ) → Ok k ≡ outcome b r → WasWritten b r k
unfolding outcome
outcome_written b r k e =
    by (baseless b r) (λ h. no_base_written (sym (rw h at e)))
    (λ h. by (lengthy b r) (λ g. long_written (sym (rw (h, g) at e))) (λ g. record { based = h; short = g; size = let q : Ok k ≡ Ok (length (resolved b r)) = rw (h, g) at e in cc }))

-- A reference that is written out has a scheme.
pub written_scheme : (b r : Text) (k : ℕ) → (empty b || has_scheme b) ≡ true → Ok k ≡ outcome b r → has_scheme (resolved b r) ≡ true
unfolding resolved
written_scheme b r k s e =
    let w = outcome_written b r k e in
    by (has_scheme r) (λ h. rw h h)
    (λ h. rw h (by (empty b) (λ m. contrary (sym (both h m) ∙ w.based)) (λ m. resolve_scheme b r (sym (rw m) ∙ s))))
  where
    both : has_scheme r ≡ false → empty b ≡ true → baseless b r ≡ true
    both h m = rw (h, m)

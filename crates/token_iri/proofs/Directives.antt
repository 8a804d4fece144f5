-- What the directives answer and leave.
use Prim.Native.Nat.{ℕ, ◌≤◌}
use mathlib.Core.Path.{◌≡◌, refl, ap, sym, subst, ◌∙◌}
use mathlib.Core.List.{List}
use mathlib.Core.Bool.{Bool, true, false, not, ◌&&◌, ◌||◌}
use native.Mathlib.Omega.{arith}
use lib.ListN.{length, take}
use lib.Seq.{length-take-le}
use lib.Dec.{leb}
use borrow.Author.Tests.{le-ltb, le-leb}
use Rattle.text.specs.Text.{Text, cond, empty}
use Rattle.text.proofs.Compare.{by, contrary}
use Rattle.limits.specs.Limits.{iri_limit, prefix_limit, prefixes_limit}
use Rattle.escape.specs.Escape.{bad_escape, unescape}
use Rattle.iri.specs.Iri.{has_scheme}
use Rattle.iri.specs.declared.ResolveError.{ResolveError}
use Rattle.std.specs.Prelude.{Result, Ok, Err, is_ok}
use Rattle.iri.specs.declared.ResolveError.TheVariants.{Long, NoBase}
use Rattle.environment.specs.Environment.{Environment}
use Rattle.environment.specs.Code.{environment_in, is_declared, declare_answer, after_declare, Usable, Beside, Declares, SetsBase}
use Rattle.environment.specs.declared.DeclareError.{DeclareError}
use Rattle.environment.specs.declared.DeclareError.TheVariants.{TooLong, TooMany}
use Rattle.environment.specs.declared.BaseTooLong.{BaseTooLong}
use Rattle.dataset.specs.Constructors.{inner, iri_of, new_base, namespace_of, awaiting}
use Rattle.machine.specs.Refusals.{one_prefix_more}
use Rattle.token_iri.specs.Tests.{token_as, Sound, outcome}
use Rattle.token_iri.specs.Addresses.{Resolves, WritesReference, GoodReference, DeclaresNamespace, DeclaresBase}
use Rattle.token_iri.proofs.Between.{inside_good}
use Rattle.token_iri.proofs.Bases.{written_scheme}
use Rattle.token_iri.proofs.Refused.{iriref_iri, iri_bad, iri_no_base, iri_long, iri_written, namespace_stops, namespace_last, one_more}

nothing_changed : (work : Text) (st : List ℕ) → Beside work work st st
nothing_changed work st = record { own = λ k h. refl; behind = refl; long = refl }

-- The answers of a declaration whose texts are short enough.
module _ (e : Environment) (p ns : Text) (hp : length p ≤ prefix_limit) (hn : length ns ≤ iri_limit) where
  abbrev full : Bool
  full = not (is_declared p e.namespaces) && leb prefixes_limit (length e.namespaces)

  short_answer : declare_answer e p ns ≡ cond full (Err TooMany) (Ok tt)
  unfolding declare_answer
  short_answer = rw (le-ltb prefix_limit (length p) hp, le-ltb iri_limit (length ns) hn)

  never_too_long : {X : Type 0} → Err TooLong ≡ declare_answer e p ns → X
  never_too_long q =
      let z : Err TooLong ≡ cond full (Err TooMany) (Ok tt) = q ∙ short_answer in
      by full (λ h. absurd (let y : Err TooLong ≡ Err TooMany = rw h at z in let x : ◌≡◌ {A = ℕ} 0 1 = cc in omega arith))
      (λ h. absurd (let y : Err TooLong ≡ Ok tt = rw h at z in let x : ◌≡◌ {A = ℕ} 0 1 = cc in omega arith))

  was_full : Err TooMany ≡ declare_answer e p ns → one_prefix_more (awaiting (namespace_of p) e) ≡ true
  was_full q =
      let z : Err TooMany ≡ cond full (Err TooMany) (Ok tt) = q ∙ short_answer in
      one_more e p ∙ by full (λ h. h) (λ h. absurd (let y : Err TooMany ≡ Ok tt = rw h at z in let x : ◌≡◌ {A = ℕ} 0 1 = cc in omega arith))

  had_room : Ok tt ≡ declare_answer e p ns → one_prefix_more (awaiting (namespace_of p) e) ≡ false
  had_room q =
      let z : Ok tt ≡ cond full (Err TooMany) (Ok tt) = q ∙ short_answer in
      one_more e p ∙ by full (λ h. absurd (let y : Ok tt ≡ Err TooMany = rw h at z in let x : ◌≡◌ {A = ℕ} 0 1 = cc in omega arith)) (λ h. h)

-- A bad escape.
module _ (token work : Text) (st : List ℕ) (b : Bool) (eb : b ≡ bad_escape token) (h : b ≡ true) where
  pub namespace_refused_bad : (p : Text) → DeclaresNamespace token p work work st st 7
  namespace_refused_bad p = record { refusal = λ at. namespace_stops (awaiting (namespace_of p) (environment_in work st)) (token_as 1 at token) 6 (iri_bad (environment_in work st) at token (namespace_of p) refl (sym eb ∙ h)); leaves = λ z. absurd (omega arith); beside = nothing_changed work st; words = refl }

  pub base_refused_bad : DeclaresBase token work work st st 7
  base_refused_bad = record { refusal = λ at. iri_bad (environment_in work st) at token new_base refl (sym eb ∙ h); leaves = λ z. absurd (omega arith); beside = nothing_changed work st; words = refl }

module _ (token work : Text) (st : List ℕ) (u : Usable work st) (sound : Sound (environment_in work st)) (g : GoodReference token) (text : Text) (et : text ≡ inner 1 token) (lent : Text) (el : lent ≡ work) (buffer : Text) (a : Result ℕ ResolveError) (w : WritesReference text lent st buffer a) where
  abbrev e : Environment
  e = environment_in work st

  resolves : Resolves e.base (inner 1 token) buffer a
  resolves =
      subst (λ (s : Text). Resolves e.base s buffer a) et
      ((subst (λ (l : Text). WritesReference text l st buffer a) el w).resolves u sound (ap bad_escape et ∙ inside_good token g.begun g.good))

  module _ (p : Text) where
    pub namespace_refused_no_base : a ≡ Err NoBase → DeclaresNamespace token p work work st st 10
    namespace_refused_no_base ea = record { refusal = λ at. namespace_stops (awaiting (namespace_of p) e) (token_as 1 at token) 9 (iri_no_base e at token (namespace_of p) refl g.good (sym ea ∙ resolves.is)); leaves = λ z. absurd (omega arith); beside = nothing_changed work st; words = refl }

    pub namespace_refused_long : a ≡ Err Long → DeclaresNamespace token p work work st st 11
    namespace_refused_long ea = record { refusal = λ at. namespace_stops (awaiting (namespace_of p) e) (token_as 1 at token) 10 (iri_long e at token (namespace_of p) refl g.good (sym ea ∙ resolves.is)); leaves = λ z. absurd (omega arith); beside = nothing_changed work st; words = refl }

  pub base_refused_no_base : a ≡ Err NoBase → DeclaresBase token work work st st 10
  base_refused_no_base ea = record { refusal = λ at. iri_no_base e at token new_base refl g.good (sym ea ∙ resolves.is); leaves = λ z. absurd (omega arith); beside = nothing_changed work st; words = refl }

  pub base_refused_long : a ≡ Err Long → DeclaresBase token work work st st 11
  base_refused_long ea = record { refusal = λ at. iri_long e at token new_base refl g.good (sym ea ∙ resolves.is); leaves = λ z. absurd (omega arith); beside = nothing_changed work st; words = refl }

  pub fits : (k : ℕ) → a ≡ Ok k → k ≤ length buffer
  fits k ea = w.inside k ea

  module _ (k : ℕ) (ea : a ≡ Ok k) (room : length buffer ≡ iri_limit) where
    outcome_is : Ok k ≡ outcome e.base (unescape (inner 1 token))
    outcome_is = sym ea ∙ resolves.is

    iri_is : (at : ℕ) → take k buffer ≡ iri_of e (token_as 1 at token)
    iri_is at = resolves.front k ea ∙ sym (iriref_iri e at token)

    iri_short : length (take k buffer) ≤ iri_limit
    iri_short = rw (length-take-le k buffer (fits k ea)) (omega (arith, fits k ea))

    module _ (p work' : Text) (st' : List ℕ) (short : length p ≤ prefix_limit) (d : Result (Unit {0}) DeclareError) (declared : Usable work st → Declares work work' st st' p (take k buffer) d) where
      pub namespace_declared : d ≡ Ok tt → DeclaresNamespace token p work work' st st' 0
      unfolding after_declare
      namespace_declared ed = record {
        refusal = λ at. free (had_room e p (take k buffer) short iri_short (sym ed ∙ (declared u).answer)) (namespace_last (awaiting (namespace_of p) e) (token_as 1 at token) (iri_written e at token (namespace_of p) refl g.good k outcome_is));
        leaves = λ z at. record {
          after = (declared u).after ∙ rw (ed, iri_is at);
          usable = (declared u).usable;
          sound = sound;
        };
        beside = (declared u).beside;
        words = (declared u).usable.words ∙ sym u.words;
      }
        where
          free : {x : ℕ} → one_prefix_more (awaiting (namespace_of p) e) ≡ false → cond (one_prefix_more (awaiting (namespace_of p) e)) 12 0 ≡ x → 0 ≡ x
          free m q = rw m at q

      pub namespace_too_many : d ≡ Err TooMany → DeclaresNamespace token p work work' st st' 12
      namespace_too_many ed = record {
        refusal = λ at. taken (was_full e p (take k buffer) short iri_short (sym ed ∙ (declared u).answer)) (namespace_last (awaiting (namespace_of p) e) (token_as 1 at token) (iri_written e at token (namespace_of p) refl g.good k outcome_is));
        leaves = λ z. absurd (omega arith);
        beside = (declared u).beside;
        words = (declared u).usable.words ∙ sym u.words;
      }
        where
          taken : {x : ℕ} → one_prefix_more (awaiting (namespace_of p) e) ≡ true → cond (one_prefix_more (awaiting (namespace_of p) e)) 12 0 ≡ x → 12 ≡ x
          taken m q = rw m at q

      pub namespace_never_long : d ≡ Err TooLong → DeclaresNamespace token p work work' st st' 11
      namespace_never_long ed = never_too_long e p (take k buffer) short iri_short (sym ed ∙ (declared u).answer)

    module _ (work' : Text) (st' : List ℕ) (d : Result (Unit {0}) BaseTooLong) (declared : Usable work st → SetsBase work work' st st' (take k buffer) d) where
      pub base_declared : d ≡ Ok tt → DeclaresBase token work work' st st' 0
      base_declared ed = record {
        refusal = λ at. iri_written e at token new_base refl g.good k outcome_is;
        leaves = λ z at. record {
          after = (declared u).after ∙ rw (ed, iri_is at);
          usable = (declared u).usable;
          sound = scheme_sound (iri_of e (token_as 1 at token)) (rw (iriref_iri e at token) (written_scheme e.base (unescape (inner 1 token)) k sound outcome_is));
        };
        beside = (declared u).beside;
        words = (declared u).usable.words ∙ sym u.words;
      }
        where
          scheme_sound : (s : Text) → has_scheme s ≡ true → (empty s || has_scheme s) ≡ true
          scheme_sound s h = by (empty s) (λ m. rw m) (λ m. rw (m, h))

      pub base_never_long : (r : BaseTooLong) → d ≡ Err r → DeclaresBase token work work' st st' 11
      base_never_long r ed = contrary (sym ((declared u).answer ∙ le-leb (length (take k buffer)) iri_limit iri_short) ∙ ap is_ok ed)

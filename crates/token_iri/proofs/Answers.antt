-- The addresses that the code answers.
use Prim.Native.Nat.{ℕ, ◌+◌, ◌-◌, ◌≤◌, ◌<◌}
use mathlib.Core.Path.{◌≡◌, refl, ap, sym, subst, ◌∙◌}
use mathlib.Core.List.{List, ◌++◌}
use mathlib.Core.Bool.{Bool, true, false}
use mathlib.Core.Option.{none, some}
use native.Mathlib.Omega.{arith}
use lib.ListN.{length, get_or, take, drop, length-append, length-drop}
use lib.Seq.{length-take-le}
use lib.Dec.{ltb}
use borrow.Author.Tests.{lt-ltb, le-ltb}
use Rattle.text.specs.Text.{Text, cond, is}
use Rattle.limits.specs.Limits.{iri_limit, work_size}
use Rattle.token.specs.Kind.{kind_code, IRIREF, PNAME_LN, PNAME_NS}
use Rattle.escape.specs.Escape.{bad_escape, unescape, unreserve}
use Rattle.spelling.specs.Form.{undo, bad, joined}
use Rattle.spelling.specs.declared.Form.{Form}
use Rattle.spelling.specs.declared.Form.TheVariants.{Plain, Escaped, Reserved}
use Rattle.text.proofs.Over.{rest_all}
use Rattle.iri.specs.Iri.{has_scheme}
use Rattle.iri.specs.Resolve.{resolved}
use Rattle.iri.specs.Code.{before}
use Rattle.iri.specs.declared.ResolveError.{ResolveError}
use Rattle.std.specs.Prelude.{Option, Some, None, Result, Ok, Err}
use Rattle.iri.specs.declared.ResolveError.TheVariants.{Long, NoBase}
use Rattle.environment.specs.Environment.{lookup}
use Rattle.environment.specs.Code.{environment_in, Usable, FoundIn}
use Rattle.dataset.specs.Constructors.{inner, iri_of, nothing, awaiting}
use Rattle.token_iri.specs.Tests.{token_as, Sound, iri_refusal, outcome}
use Rattle.token_iri.specs.Addresses.{Answered, refused_address, front_of, back_of, with_form, Addresses, WritesReference, LocalFrom}
use Rattle.token_iri.proofs.Between.{inside_good, inside_read, scheme_inside}
use Rattle.token_iri.proofs.Bases.{outcome_written}
use Rattle.token_iri.proofs.Refused.{iriref_iri, iri_bad, iri_no_base, iri_long, iri_written, name_missing, name_iri, name_refused}

-- A refused token.
pub refused : (kind : ℕ) (token work : Text) (st : List ℕ) (buffer : Text) (n : ℕ) (r : Answered) → 0 < n → r ≡ refused_address n
    → (Usable work st → Sound (environment_in work st) → (kind ≡ kind_code IRIREF → get_or token 0 0 ≡ 60) → (at : ℕ) → n ≡ iri_refusal (awaiting nothing (environment_in work st)) (token_as kind at token))
    → Addresses kind token work st buffer r
refused kind token work st buffer n r h e f =
    subst (λ (x : Answered). Addresses kind token work st buffer x) (sym e)
    (record {
      order = omega arith;
      inside = omega arith;
      back_order = omega arith;
      back_inside = omega arith;
      stands = λ u s g at. record { refusal = f u s g at; iri = λ z. absurd (omega arith); right = λ z. absurd (omega arith); short = λ z. absurd (omega arith) };
    })

-- ---- An IRIREF

module _ (token work : Text) (st : List ℕ) (buffer : Text) where
  pub refused_bad : (b : Bool) (r : Answered) → b ≡ bad_escape token → b ≡ true → r ≡ refused_address 7 → Addresses (kind_code IRIREF) token work st buffer r
  refused_bad b r eb h e = refused (kind_code IRIREF) token work st buffer 7 r (omega arith) e (λ u s g at. iri_bad (environment_in work st) at token nothing refl (sym eb ∙ h))

  module _ (b : Bool) (eb : b ≡ bad_escape token) (good : b ≡ false) (text : Text) (et : text ≡ inner 1 token) where
    right : bad_escape token ≡ false
    right = sym eb ∙ good

    module _ (h : Bool) (eh : h ≡ has_scheme (unescape text)) (scheme : h ≡ true) (n : ℕ) (en : n ≡ length (unescape text)) where
      own_scheme : has_scheme (unescape (inner 1 token)) ≡ true
      own_scheme = ap (λ (x : Text). has_scheme (unescape x)) (sym et) ∙ sym eh ∙ scheme

      own_length : n ≡ length (unescape (inner 1 token))
      own_length = en ∙ ap (λ (x : Text). length (unescape x)) et

      long_outcome : iri_limit < n → (base : Text) → Err Long ≡ outcome base (unescape (inner 1 token))
      unfolding outcome
      long_outcome l base = rw (own_scheme, lt-ltb iri_limit (length (unescape (inner 1 token))) (omega (arith, own_length)))

      pub refused_long : iri_limit < n → (r : Answered) → r ≡ refused_address 11 → Addresses (kind_code IRIREF) token work st buffer r
      refused_long l r e =
          refused 1 token work st buffer 11 r (omega arith) e
          (λ u s g at. iri_long (environment_in work st) at token nothing refl right (long_outcome l (environment_in work st).base))

      pub token_long : 2 ≤ length token
      token_long = scheme_inside token own_scheme

      short_outcome : n ≤ iri_limit → (base : Text) → Ok (length (resolved base (unescape (inner 1 token)))) ≡ outcome base (unescape (inner 1 token))
      unfolding outcome
      short_outcome l base = rw (own_scheme, le-ltb iri_limit (length (unescape (inner 1 token))) (omega (arith, own_length)))

      as_is : (base : Text) → resolved base (unescape (inner 1 token)) ≡ unescape (inner 1 token)
      unfolding resolved
      as_is base = rw own_scheme

      pub as_written : n ≤ iri_limit → Addresses (kind_code IRIREF) token work st buffer (record { refused = 0; start = 0; end = 0; form = Escaped; from = 1; to = length token - 1; buffered = false })
      unfolding joined undo bad
      as_written l = record {
        order = omega arith;
        inside = omega arith;
        back_order = omega (arith, token_long);
        back_inside = omega arith;
        stands = λ u s g at. record {
          refusal = iri_written (environment_in work st) at token nothing refl right _ (short_outcome l (environment_in work st).base);
          iri = λ z. iriref_iri (environment_in work st) at token ∙ rw (inside_read token token_long) (as_is (environment_in work st).base);
          right = λ z. rw (inside_read token token_long) (inside_good token (g refl) right);
          short = λ z. rw (iriref_iri (environment_in work st) at token, as_is (environment_in work st).base) (omega (arith, own_length));
        };
      }

    -- A reference without a scheme.
    module _ (a : Result ℕ ResolveError) (w : WritesReference text work st buffer a) where
      is_outcome : Usable work st → Sound (environment_in work st) → get_or token 0 0 ≡ 60 → a ≡ outcome (environment_in work st).base (unescape (inner 1 token))
      is_outcome u s g = (w.resolves u s (ap bad_escape et ∙ inside_good token g right)).is ∙ ap (λ (x : Text). outcome (environment_in work st).base (unescape x)) et

      pub refused_no_base : a ≡ Err NoBase → (r : Answered) → r ≡ refused_address 10 → Addresses (kind_code IRIREF) token work st buffer r
      refused_no_base ea r e =
          refused 1 token work st buffer 10 r (omega arith) e
          (λ u s g at. iri_no_base (environment_in work st) at token nothing refl right (sym ea ∙ is_outcome u s (g refl)))

      pub refused_over : a ≡ Err Long → (r : Answered) → r ≡ refused_address 11 → Addresses (kind_code IRIREF) token work st buffer r
      refused_over ea r e =
          refused 1 token work st buffer 11 r (omega arith) e
          (λ u s g at. iri_long (environment_in work st) at token nothing refl right (sym ea ∙ is_outcome u s (g refl)))

      pub resolved_there : (k : ℕ) → a ≡ Ok k → length buffer ≡ iri_limit → Addresses (kind_code IRIREF) token work st buffer (record { refused = 0; start = 0; end = 0; form = Plain; from = 0; to = k; buffered = true })
      unfolding joined undo bad
      resolved_there k ea room = record {
        order = omega arith;
        inside = omega arith;
        back_order = omega arith;
        back_inside = w.inside k ea;
        stands = λ u s g at.
            let same_end : k ≡ k - 0 = omega arith in
            let o : Ok k ≡ outcome (environment_in work st).base (unescape (inner 1 token)) = sym ea ∙ is_outcome u s (g refl) in
            let same : iri_of (environment_in work st) (token_as 1 at token) ≡ take (k - 0) buffer =
            iriref_iri (environment_in work st) at token ∙ ap (λ (x : Text). resolved (environment_in work st).base (unescape x)) (sym et)
            ∙ sym ((w.resolves u s (ap bad_escape et ∙ inside_good token (g refl) right)).front k ea) ∙ ap (λ (n : ℕ). take n buffer) same_end in
            record {
              refusal = iri_written (environment_in work st) at token nothing refl right k o;
              iri = λ z. same;
              right = λ z. refl;
              short = λ z. rw (iriref_iri (environment_in work st) at token, ← (outcome_written (environment_in work st).base (unescape (inner 1 token)) k o).size) (omega (arith, w.inside k ea));
            };
      }

-- ---- A prefixed name

-- Where a namespace was found.
pub found_inside : (p work : Text) (st : List ℕ) (f : Option (ℕ × ℕ)) (start n : ℕ) → FoundIn p (environment_in work st) work f → f ≡ Some (start, n) → (start + n ≤ work_size) × (n ≤ iri_limit)
unfolding FoundIn
found_inside p work st f start n h e = (subst (FoundIn p (environment_in work st) work) e h).1

found_is : (p work : Text) (st : List ℕ) (f : Option (ℕ × ℕ)) (start n : ℕ) → FoundIn p (environment_in work st) work f → f ≡ Some (start, n) → lookup p (environment_in work st).namespaces ≡ some (take n (drop start work))
unfolding FoundIn
found_is p work st f start n h e = (subst (FoundIn p (environment_in work st) work) e h).0

found_none : (p work : Text) (st : List ℕ) (f : Option (ℕ × ℕ)) → FoundIn p (environment_in work st) work f → f ≡ None → lookup p (environment_in work st).namespaces ≡ none
unfolding FoundIn
found_none p work st f h e = subst (FoundIn p (environment_in work st) work) e h

module _ (kind : ℕ) (token work : Text) (st : List ℕ) (buffer : Text) where
  pub refused_unusable : (r : Answered) → length work < work_size → r ≡ refused_address 9 → Addresses kind token work st buffer r
  refused_unusable r h e = refused kind token work st buffer 9 r (omega arith) e (λ u s g at. absurd (omega (arith, u.room)))

  module _ (least : kind_code PNAME_NS ≤ kind) (most : kind ≤ kind_code PNAME_LN) (i : ℕ) (colon : i ≡ before (is ":") token) (f : Option (ℕ × ℕ)) (look : work_size ≤ length work → FoundIn (take i token) (environment_in work st) work f) where
    pub refused_missing : f ≡ None → (r : Answered) → r ≡ refused_address 9 → Addresses kind token work st buffer r
    refused_missing ef r e =
        refused kind token work st buffer 9 r (omega arith) e
        (λ u s g at. name_missing (environment_in work st) kind at token least most i colon (found_none (take i token) work st f (look u.room) ef))

    module _ (start n : ℕ) (ef : f ≡ Some (start, n)) (room : work_size ≤ length work) (from : ℕ) (behind : LocalFrom token i from) (m : ℕ) (em : m ≡ length (unreserve (take (length token - from) (drop from token)))) where
      bounds : (start + n ≤ work_size) × (n ≤ iri_limit)
      bounds = found_inside (take i token) work st f start n (look room) ef

      back_is : take (length token - from) (drop from token) ≡ drop 1 (drop i token)
      back_is = rest_all token from ∙ behind.part

      is_found : lookup (take i token) (environment_in work st).namespaces ≡ some (take n (drop start work))
      is_found = found_is (take i token) work st f start n (look room) ef

      joined_size : length (take n (drop start work) ++ unreserve (drop 1 (drop i token))) ≡ n + m
      joined_size =
          length-append (take n (drop start work)) (unreserve (drop 1 (drop i token)))
          ∙ rw (length-take-le n (drop start work) (omega (arith, bounds.0, room, length-drop start work)), em, back_is)

      pub refused_joined : iri_limit - n < m → (r : Answered) → r ≡ refused_address 11 → Addresses kind token work st buffer r
      refused_joined h r e =
          refused kind token work st buffer 11 r (omega arith) e
          (λ u s g at. over (name_refused (environment_in work st) kind at token least most i colon (take n (drop start work)) is_found))
        where
          over : {x : ℕ} → cond (ltb iri_limit (length (take n (drop start work) ++ unreserve (drop 1 (drop i token))))) 11 0 ≡ x → 11 ≡ x
          over q = rw (joined_size, lt-ltb iri_limit (n + m) (omega (arith, bounds.1))) at q

      pub joined_there : m ≤ iri_limit - n → Addresses kind token work st buffer (record { refused = 0; start = start; end = start + n; form = Reserved; from = from; to = length token; buffered = false })
      unfolding joined undo bad
      joined_there h = record {
        order = omega arith;
        inside = bounds.0;
        back_order = behind.inside;
        back_inside = omega arith;
        stands = λ u s g at. record {
          refusal = within (name_refused (environment_in work st) kind at token least most i colon (take n (drop start work)) is_found);
          iri = λ z. name_iri (environment_in work st) kind at token least most i colon (take n (drop start work)) is_found ∙ rw (back_is, size);
          right = λ z. refl;
          short = λ z. rw (name_iri (environment_in work st) kind at token least most i colon (take n (drop start work)) is_found, joined_size) (omega (arith, bounds.1));
        };
      }
        where
          size : start + n - start ≡ n
          size = omega arith

          within : {x : ℕ} → cond (ltb iri_limit (length (take n (drop start work) ++ unreserve (drop 1 (drop i token))))) 11 0 ≡ x → 0 ≡ x
          within q = rw (joined_size, le-ltb iri_limit (n + m) (omega (arith, bounds.1))) at q

pub as_kind : (kind : ℕ) (token work : Text) (st : List ℕ) (buffer : Text) (r : Answered) → kind ≡ kind_code IRIREF → Addresses (kind_code IRIREF) token work st buffer r → Addresses kind token work st buffer r
as_kind kind token work st buffer r e a = subst (λ (k : ℕ). Addresses k token work st buffer r) (sym e) a

-- ---- Forms that read the same

-- What `spelling: simplest` says of a back that was in the form g.
abbrev pub Reads : Form → Form → Text → Type 0
Reads f g back = (undo f back ≡ undo g back) × (bad f back ≡ bad g back)

-- An address with its back in another form that reads the same.
pub in_form : (kind : ℕ) (token work : Text) (st : List ℕ) (buffer : Text) (a : Answered) (f : Form) → Reads f a.form (back_of a token buffer) → Addresses kind token work st buffer a
    → Addresses kind token work st buffer (with_form a f)
unfolding joined
in_form kind token work st buffer a f q A = record {
  order = A.order;
  inside = A.inside;
  back_order = A.back_order;
  back_inside = A.back_inside;
  stands = λ u s b at.
      let S = A.stands u s b at in
      record {
        refusal = S.refusal;
        iri = λ z. S.iri z ∙ ap (λ (t : Text). front_of a work ++ t) (sym q.0);
        right = λ z. q.1 ∙ S.right z;
        short = S.short;
      };
}

module _ (f : Form) (s : Text) where
  pub as_escaped : Reads f Escaped s → undo f s ≡ unescape s
  unfolding undo
  as_escaped q = q.0

  pub escaped_length : (n : ℕ) → n ≡ length (undo f s) → Reads f Escaped s → n ≡ length (unescape s)
  escaped_length n e q = e ∙ ap length (as_escaped q)

  pub reserved_length : (n : ℕ) → n ≡ length (undo f s) → Reads f Reserved s → n ≡ length (unreserve s)
  unfolding undo
  reserved_length n e q = e ∙ ap length q.0

  pub plain_scheme : (r : Bool) → f ≡ Plain → r ≡ has_scheme s → undo f s ≡ unescape s → r ≡ has_scheme (unescape s)
  unfolding undo
  plain_scheme r e h q = h ∙ ap has_scheme (rw e at q)

-- What stands inside of an IRIREF is the back of its address.
pub inside_reads : (f : Form) (token text : Text) → 2 ≤ length token → text ≡ inner 1 token → Reads f Escaped text → Reads f Escaped (take (length token - 1 - 1) (drop 1 token))
inside_reads f token text h e q = rw (inside_read token h, ← e) q

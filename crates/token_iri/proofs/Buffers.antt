-- A reference without its escapes in the end of the buffer, resolved into the front.
use Prim.Native.Nat.{ℕ, ◌-◌, ◌≤◌, ◌<◌}
use mathlib.Core.Path.{◌≡◌, ap, sym, subst, ◌∙◌}
use mathlib.Core.List.{List, ◌++◌, append-nil}
use mathlib.Core.Bool.{Bool, true, false, not, ◌&&◌, ◌||◌}
use native.Mathlib.Omega.{arith}
use lib.ListN.{length, take, drop, length-drop, drop_of_length-le}
use lib.Seq.{take_all}
use lib.Dec.{ltb}
use borrow.Author.Tests.{ltb-true, ltb-false, lt-ltb, le-ltb}
use Rattle.text.specs.Text.{Text, cond, empty}
use Rattle.text.specs.Slice.{over_at}
use Rattle.text.proofs.Compare.{by, contrary}
use Rattle.text.proofs.Over.{over_part, over_fits, over_at_from, over_at_length}
use Rattle.limits.specs.Limits.{iri_limit}
use Rattle.escape.specs.Escape.{bad_escape, unescape}
use Rattle.escape.specs.Code.{Written as Unescaped}
use Rattle.iri.specs.Iri.{has_scheme}
use Rattle.iri.specs.Resolve.{resolve, resolve_with_dots, resolved}
use Rattle.iri.specs.Code.{reference, answer, relative_answer, Resolved}
use Rattle.iri.specs.declared.ResolveError.{ResolveError}
use Rattle.std.specs.Prelude.{Result, Ok, Err}
use Rattle.iri.specs.declared.ResolveError.TheVariants.{Long, NoBase}
use Rattle.environment.specs.Code.{environment_in, Usable}
use Rattle.token_iri.specs.Tests.{Sound, outcome}
use Rattle.token_iri.specs.Addresses.{Resolves, WritesReference}
use Rattle.token_iri.proofs.Bases.{no_base_written, long_written}

-- What is written out is as long as the resolved reference, and lies within the buffer.
answer_size : (b r : Text) (room k : ℕ) → answer b r room ≡ Ok k → k ≡ length (resolved b r)
unfolding answer relative_answer resolved
answer_size b r room k e =
    by (has_scheme r) (λ h. let q : Ok (length r) ≡ Ok k = rw h at e in rw h (cc))
    (λ h. by (has_scheme b)
    (λ g. by (ltb room (length (resolve_with_dots b r))) (λ l. long_written (rw (h, g, l) at e))
    (λ l. let q : Ok (length (resolve b r)) ≡ Ok k = rw (h, g, l) at e in rw h (cc)))
    (λ g. no_base_written (rw (h, g) at e)))

pub written_inside : (b y z : Text) (n k : ℕ) (a : Result ℕ ResolveError) → Resolved b y z n a → a ≡ Ok k → k ≤ length z
written_inside b y z n k a r e =
    let q : cond (ltb (length y) n) (Err Long) (answer b (reference y n) (length y)) ≡ Ok k = sym r.is ∙ e in
    by (ltb (length y) n) (λ h. long_written (rw h at q))
    (λ h. let size : k ≡ length (resolved b (reference y n)) = answer_size b (reference y n) (length y) k (rw h at q) in
    by (ltb (length z) k)
    (λ l. let all : take k z ≡ z = take_all k z (omega (arith, ltb-true (length z) k l)) in
    omega (arith, size, ap length (sym all ∙ r.front k e)))
    (λ l. ltb-false (length z) k l))

-- The reference stands in the end.
end_is : (t x y : Text) → length t ≤ length x → y ≡ over_at (length x - length t) t x → reference y (length t) ≡ t
unfolding reference
end_is t x y h e =
    let size : length y ≡ length x = ap length e ∙ over_at_length (length x - length t) t x in
    let back : length (drop (length x - length t) x) ≡ length t = length-drop (length x - length t) x ∙ omega arith in
    rw (size, e, over_at_from (length x - length t) t x, over_fits t (drop (length x - length t) x) (omega arith), drop_of_length-le (drop (length x - length t) x) {i = length t} (omega arith))
    (append-nil t)

-- The outcome, where nothing is too long to be written into the buffer.
answer_outcome : (b r : Text) → (empty b || has_scheme b) ≡ true → (not (has_scheme r) && empty b) ≡ false → length r ≤ iri_limit → answer b r iri_limit ≡ outcome b r
unfolding answer relative_answer resolved outcome
answer_outcome b r s n h =
    by (has_scheme r) (λ e. rw (e, le-ltb iri_limit (length r) h))
    (λ e. by (empty b) (λ m. contrary (sym (both e m) ∙ n))
    (λ m. let g : has_scheme b ≡ true = rw m at s in
    rw (e, m, g, le-ltb iri_limit (length r) h)))
  where
    both : has_scheme r ≡ false → empty b ≡ true → (not (has_scheme r) && empty b) ≡ true
    both e m = rw (e, m)

module _ (b s : Text) where
  pub lacks_base : (not (has_scheme (unescape s)) && empty b) ≡ true → (y : Text) → Resolves b s y (Err NoBase)
  unfolding outcome
  lacks_base h y = record { is = rw h; front = λ k e. no_base_written e }

  module _ (based : (not (has_scheme (unescape s)) && empty b) ≡ false) where
    pub reference_long : iri_limit < length (unescape s) → (y : Text) → Resolves b s y (Err Long)
    unfolding outcome
    reference_long h y = record { is = rw (based, lt-ltb iri_limit (length (unescape s)) h); front = λ k e. long_written e }

    pub reference_resolved : (empty b || has_scheme b) ≡ true → (x y z : Text) (n : ℕ) (a : Result ℕ ResolveError) → length x ≡ iri_limit → n ≡ length (unescape s) → n ≤ iri_limit
        → y ≡ over_at (iri_limit - n) (unescape s) x → Resolved b y z n a → Resolves b s z a
    reference_resolved sound x y z n a room en h ey r =
        let t : Text = unescape s in
        let place : iri_limit - n ≡ length x - length t = omega arith in
        let whole : reference y n ≡ t = rw en (end_is t x y (omega arith) (ey ∙ rw place)) in
        let size : length y ≡ iri_limit = ap length ey ∙ over_at_length (iri_limit - n) t x ∙ room in
        record {
          is = r.is ∙ rw (size, le-ltb iri_limit n h, whole) (answer_outcome b t sound based (omega arith));
          front = λ k e. r.front k e ∙ rw whole;
        }

-- The answers of `write_reference`; the base is the one in force.
module _ (s work : Text) (st : List ℕ) (b : Text) (eb : Usable work st → b ≡ (environment_in work st).base) (l : Bool) (el : l ≡ (not (has_scheme (unescape s)) && empty b)) where
  at_base : (y : Text) (a : Result ℕ ResolveError) → Usable work st → Resolves b s y a → Resolves (environment_in work st).base s y a
  at_base y a u r = subst (λ (x : Text). Resolves x s y a) (eb u) r

  pub writes_none : l ≡ true → (y : Text) → WritesReference s work st y (Err NoBase)
  writes_none h y = record { inside = λ k e. no_base_written e; resolves = λ u sound good. at_base y (Err NoBase) u (lacks_base b s (sym el ∙ h) y) }

  module _ (based : l ≡ false) (n : ℕ) (en : n ≡ length (unescape s)) where
    pub writes_long : iri_limit < n → (y : Text) → WritesReference s work st y (Err Long)
    writes_long h y = record { inside = λ k e. long_written e; resolves = λ u sound good. at_base y (Err Long) u (reference_long b s (sym el ∙ based) (omega arith) y) }

    pub writes_resolved : n ≤ iri_limit → (x w z : Text) (k m : ℕ) (a : Result ℕ ResolveError) → length x ≡ iri_limit → k ≡ length x - (iri_limit - n)
        → Unescaped (bad_escape s ≡ false) (unescape s) (take k (drop (iri_limit - n) x)) w m
        → Resolved b (take (iri_limit - n) x ++ (w ++ drop k (drop (iri_limit - n) x))) z n a
        → WritesReference s work st z a
    writes_resolved h x w z k m a room ek written r = record {
      inside = λ j e. written_inside b _ z n j a r e;
      resolves = λ u sound good. at_base z a u (reference_resolved b s (sym el ∙ based) (sound_at u sound) x _ z n a room en h (over_part (iri_limit - n) (unescape s) x w k ek (written.text good)) r);
    }
      where
        sound_at : Usable work st → Sound (environment_in work st) → (empty b || has_scheme b) ≡ true
        sound_at u sound = subst (λ (x : Text). (empty x || has_scheme x) ≡ true) (sym (eb u)) sound

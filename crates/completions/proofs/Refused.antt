-- The refusal that stands where the definition says is the reader's answer, and the reader answers no other; so the whole answer is what the papers say.
use mathlib.Core.Path.{◌≡◌, refl, sym, ap, ap₂, ◌∙◌, subst}
use mathlib.Core.Logic.{◌↔◌, inl, inr, ⊎_elim}
use mathlib.Core.List.{List, [], ◌∷◌, ◌++◌}
use mathlib.Core.Bool.{Bool, true, false, not, ◌&&◌}
use mathlib.Core.Option.{Option, none, some}
use Prim.Native.Nat.{ℕ, zero, suc, ◌+◌, ◌≤◌, ◌<◌}
use native.Mathlib.Omega.{arith}
use borrow.Author.Tests.{ltb-true, ltb-false}
use lib.Dec.{T, leb, ltb, leb→le}
use lib.ListN.{length, take, drop, drop_of_length-le}
use Rattle.text.specs.Text.{Text}
use Rattle.text.proofs.Booleans.{all, and_0, and_1}
use Rattle.text.proofs.Compare.{by, contrary}
use Rattle.utf8.specs.Utf8.{first_bad}
use Rattle.token.specs.Kind.{strings}
use Rattle.token.specs.Tokens.{Token, has_kind, Lexeme, token, unreadable, lexemes, tokens_of, readable, place_of}
use Rattle.grammar.specs.Productions.{Mode, GrammarFailsAt}
use Rattle.grammar.proofs.Recogniser.{at_end as end_verdict, later}
use Rattle.dataset.specs.Terms.{Term}
use Rattle.dataset.specs.Constructors.{after_token, in_force}
use Rattle.table.specs.Layout.{Row}
use Rattle.table.specs.Tables.{store_size}
use Rattle.table.proofs.Numbers.{not_none}
use Rattle.machine.specs.Memory.{start_memory, Write}
use Rattle.machine.specs.Frame.{Open, directive, statement}
use Rattle.machine.specs.Rules.{find_rule, rules}
use Rattle.machine.specs.Refusals.{no_character, undeclared, no_base, too_long, one_prefix_more, too_deep, new_depth}
use Rattle.machine.specs.Call.{Lent, Room, room_of, mode_of, Test, ◌when◌, first_checks, first_refusal}
use Rattle.machine.specs.Step.{State, in_force_now, obeyed, tests, answer, step, tied_to, Outcome, accepted, refused, at_end, onward, run}
use Rattle.machine.specs.Read.{Answer, start_state, refusal, reported, read, read_checked, read_utf8, read_tokens}
use Rattle.machine.specs.Demand.{document_tokens, depth_after}
use Rattle.machine.proofs.Firsts.{number_of, refusal_number, no_rule}
use Rattle.machine.proofs.Judge.{tied_same}
use Rattle.machine.proofs.Link.{follow, finished, machine_verdict}
use Rattle.machine.proofs.Made.{some_same}
use Rattle.machine.proofs.Extends.{in_force_rule}
use Rattle.machine.proofs.Demands.{zero_meets, meets_answer, after_append, depth_append, Tracks, start_tracks, obey, after_rules, run_of, read_run, verdict_fails, fails_verdict}
use Rattle.completions.specs.Written.{tag_first, Written}
use Rattle.completions.specs.FailsFirst.{grammar_refusal, FailsFirst}
use Rattle.completions.specs.Answered.{Answered, unusable, not_utf8, refused as refused_there, accepted as accepted_there}
use Rattle.completions.specs.Refused.{Condition, ◌if◌, First, At, TooSmall, refusals, Refused}
use Rattle.completions.proofs.After.{same_tie, rule_at, after_induction}
use Rattle.completions.proofs.Complete.{awaits}
use Rattle.completions.proofs.Sane.{Sane, start_sane, sane_rule}
use Rattle.completions.proofs.Untied.{later_next}
use Rattle.completions.proofs.FailsFirst.{written_once, state_written, fails_answer, eight_fails_first}

-- ---- The first that applies

-- Only one is the first.
first_once : (cs : List Condition) (m n : ℕ) → First cs m → First cs n → m ≡ n
first_once [] m n x y = absurd x
first_once ((k if A) ∷ cs) m n (inl x) (inl y) = x.1 ∙ sym y.1
first_once ((k if A) ∷ cs) m n (inl x) (inr y) = absurd (y.0 x.0)
first_once ((k if A) ∷ cs) m n (inr x) (inl y) = absurd (x.0 y.0)
first_once ((k if A) ∷ cs) m n (inr x) (inr y) = first_once cs m n x.1 y.1

-- What holds of every number holds of the first's.
numbers : (ℕ → Bool) → List Condition → Bool
numbers p [] = true
numbers p ((k if A) ∷ cs) = p k && numbers p cs

first_number : (p : ℕ → Bool) (cs : List Condition) (n : ℕ) → T (numbers p cs) → First cs n → T (p n)
unfolding numbers
first_number p [] n t x = absurd x
first_number p ((k if A) ∷ cs) n t (inl x) = subst (λ m. T (p m)) (sym x.1) (and_0 (p k) (numbers p cs) t)
first_number p ((k if A) ∷ cs) n t (inr x) = first_number p cs n (and_1 (p k) (numbers p cs) t) x.1

-- The first test that holds is the first that applies, and where none holds none applies.
abbrev Says : List Condition → Option ℕ → Type 0
Says cs none = (k : ℕ) → ¬ (First cs k)
Says cs (some k) = First cs k

record Decides (us : List Test) (cs : List Condition) : Type 0 where
  says : Says cs (first_refusal us)

none_first : {A : Type 0} (n : ℕ) (cs : List Condition) (o : Option ℕ) → ¬ A → Says cs o → Says ((n if A) ∷ cs) o
none_first n cs none h d = λ k f. ⊎_elim (λ x. h x.0) (λ x. d k x.1) f
none_first n cs (some k) h d = inr (h, d)

module _ {A : Type 0} {n : ℕ} {us : List Test} {cs : List Condition} where
  skip : ¬ A → Decides us cs → Decides us ((n if A) ∷ cs)
  skip h d = record { says = none_first n cs (first_refusal us) h d.says }

  stop : A → Decides (n when true ∷ us) ((n if A) ∷ cs)
  stop x = record { says = inl (x, refl) }

  test : {b : Bool} → (b ≡ true → A) → (b ≡ false → ¬ A) → Decides us cs → Decides (n when b ∷ us) ((n if A) ∷ cs)
  test {b} f g d = record { says = go b f g }
    where
      go : (b : Bool) → (b ≡ true → A) → (b ≡ false → ¬ A) → Says ((n if A) ∷ cs) (first_refusal (n when b ∷ us))
      go true f g = inl (f refl, refl)
      go false f g = none_first n cs (first_refusal us) (g refl) d.says

-- ---- Lists

nothing_there : {A X : Type 0} (x : A) (ys : List A) → [] ≡ x ∷ ys → X
nothing_there x ys e = let z : ◌≡◌ {A = ℕ} 0 1 = cc in absurd (omega arith)

take_next : {A : Type 0} (i : ℕ) (xs : List A) (x : A) (ys : List A) → drop i xs ≡ x ∷ ys → take (suc i) xs ≡ take i xs ++ x ∷ []
take_next zero [] x ys e = nothing_there x ys e
take_next zero (a ∷ xs) x ys e = let p : a ≡ x = cc in ap (λ b. b ∷ []) p
take_next (suc i) [] x ys e = nothing_there x ys e
take_next (suc i) (a ∷ xs) x ys e = ap (λ l. a ∷ l) (take_next i xs x ys e)

drop_next : {A : Type 0} (i : ℕ) (xs : List A) (x : A) (ys : List A) → drop i xs ≡ x ∷ ys → drop (suc i) xs ≡ ys
drop_next zero [] x ys e = nothing_there x ys e
drop_next zero (a ∷ xs) x ys e = cc
drop_next (suc i) [] x ys e = nothing_there x ys e
drop_next (suc i) (a ∷ xs) x ys e = drop_next i xs x ys e

-- The verdict on tokens when i more stand before them.
moved : ℕ → Option ℕ → Option ℕ
moved zero v = v
moved (suc i) v = later (moved i v)

moved_none : (i : ℕ) → moved i none ≡ none
unfolding moved later
moved_none zero = refl
moved_none (suc i) = ap later (moved_none i)

moved_some : (i : ℕ) → moved i (some 0) ≡ some i
unfolding moved later
moved_some zero = refl
moved_some (suc i) = ap later (moved_some i)

moved_later : (mode : Mode) (i : ℕ) (v : Option ℕ) → ¬ (moved i (later v) ≡ some i)
unfolding moved
moved_later mode zero v e = let (j, p, q) = later_next mode v 0 e in omega arith
moved_later mode (suc i) v e = let (j, p, q) = later_next mode (moved i (later v)) (suc i) e in moved_later mode i v (p ∙ ap some (omega arith))

-- ---- After i tokens

module _ (mode : Mode) where
  -- The rest of the document, and the verdict on its tokens.
  record Rest (i : ℕ) (ls : List Lexeme) (s s' : State) : Type 0 where
    place : (n : ℕ) → place_of n ls i ≡ place_of n (drop i ls) 0
    cuts : readable ls ≡ readable (drop i ls)
    tokens : drop i (tokens_of ls) ≡ tokens_of (drop i ls)
    number : length (tokens_of ls) ≡ i + length (tokens_of (drop i ls))
    verdict : machine_verdict mode s.open_now s.memory (tokens_of ls) ≡ moved i (machine_verdict mode s'.open_now s'.memory (tokens_of (drop i ls)))

  rest : (i : ℕ) (ls : List Lexeme) (s s' : State) → after_rules mode i ls s ≡ some s' → Rest i ls s s'
  unfolding place_of readable tokens_of machine_verdict follow moved
  rest =
      after_induction mode Rest
      (λ ls s. record { place = λ n. refl; cuts = refl; tokens = refl; number = omega arith; verdict = refl })
      (λ i ls t s s' w q r.
      record {
        place = r.place;
        cuts = r.cuts;
        tokens = r.tokens;
        number = (let h = r.number in omega arith);
        verdict =
            ap (λ b. follow (find_rule t.kind (rules t b mode s.open_now)) s.memory (λ o m. machine_verdict mode o m (tokens_of ls))) (sym (tied_same ls))
            ∙ ap (λ x. follow x s.memory (λ o m. machine_verdict mode o m (tokens_of ls))) q ∙ ap later r.verdict;
      })

  -- One token more.
  after_next : (t : Token) (us : List Lexeme) (w : Write Open) (i : ℕ) (ls : List Lexeme) (s s' : State) → after_rules mode i ls s ≡ some s'
      → drop i ls ≡ token t ∷ us → rule_at mode t us s' ≡ some w → after_rules mode (suc i) ls s ≡ some (obeyed (some w) t s')
  unfolding after_rules obey
  after_next t us w =
      after_induction mode (λ i ls s s'. drop i ls ≡ token t ∷ us → rule_at mode t us s' ≡ some w → after_rules mode (suc i) ls s ≡ some (obeyed (some w) t s'))
      (λ ls s p q. subst (λ l. after_rules mode 1 l s ≡ some (obeyed (some w) t s)) (sym p) (ap (λ r. obey r t s (λ x. some x)) q))
      (λ i ls u s s' v e k p q. ap (λ r. obey r u s (λ x. after_rules mode (suc i) ls x)) e ∙ k p q)

-- ---- The document

module _ (doc : Text) (mode : ℕ) (base : Text) (lent : Lent) where
  abbrev ls : List Lexeme
  ls = lexemes doc

  abbrev ts : List Token
  ts = document_tokens doc

  abbrev room : Room
  room = room_of lent

  -- The machine stands behind i tokens.
  record Behind (i : ℕ) (s : State) : Type 0 where
    reached : after_rules (mode_of mode) i ls (start_state base) ≡ some s
    tracks : Tracks base (take i ts) s
    sane : Sane s

  behind_none : Behind 0 (start_state base)
  unfolding after_rules
  behind_none = record { reached = refl; tracks = start_tracks base; sane = start_sane base }

  left : (i : ℕ) (s : State) → Behind i s → Rest (mode_of mode) i ls (start_state base) s
  left i s b = rest (mode_of mode) i ls (start_state base) s b.reached

  abbrev place : ℕ → ℕ
  place i = place_of (length doc) ls i

  placed : (i : ℕ) (s : State) → Behind i s → (us : List Lexeme) → drop i ls ≡ us → place_of (length doc) us 0 ≡ place i
  placed i s b us p = sym ((left i s b).place (length doc) ∙ ap (λ l. place_of (length doc) l 0) p)

  -- ---- Where there is no token

  no_token : (i : ℕ) {P : Token → Type 0} → length ts ≤ i → ¬ (At ts i P)
  no_token i h a = nothing_there a.token [] (ap (λ l. take 1 l) (sym (drop_of_length-le ts {i = i} h)) ∙ a.there)

  not_cut : (b : Bool) → b ≡ true → ¬ (T (not b))
  not_cut true e x = x
  not_cut false e x = contrary (sym e)

  -- At the end of a document that cuts into tokens 8 may stand,
  end_fails : (i : ℕ) → length ts ≤ i → readable ls ≡ true → GrammarFailsAt (mode_of mode) ts i → First (refusals doc mode base lent i) 8
  unfolding refusals
  end_fails i h r f = inr (λ x. not_cut (readable ls) r x.1, inr (no_token i h, inl (f, refl)))

  -- and nothing where the grammar does not fail.
  end_fine : (i : ℕ) → length ts ≤ i → readable ls ≡ true → ¬ (GrammarFailsAt (mode_of mode) ts i) → Decides [] (refusals doc mode base lent i)
  unfolding refusals
  end_fine i h r f =
      skip (λ x. not_cut (readable ls) r x.1)
      (skip (no_token i h) (skip f (skip (no_token i h) (skip (no_token i h) (skip (no_token i h) (skip (no_token i h) (skip (no_token i h) (skip (no_token i h) (skip (no_token i h) (skip (no_token i h) (record { says = λ k x. x })))))))))))

  -- ---- At a token

  module _ (i : ℕ) (s : State) (b : Behind i s) (t : Token) (us : List Lexeme) (p : drop i ls ≡ token t ∷ us) where
    here : drop i ts ≡ t ∷ tokens_of us
    unfolding tokens_of
    here = (left i s b).tokens ∙ ap tokens_of p

    there : take 1 (drop i ts) ≡ t ∷ []
    there = ap (λ l. take 1 l) here

    not_over : {X : Type 0} → i ≡ length ts → X
    not_over e = nothing_there t (tokens_of us) (sym (drop_of_length-le ts {i = i} (omega arith)) ∙ here)

    verdict : machine_verdict (mode_of mode) (statement []) (start_memory base) ts
        ≡ moved i (follow (rule_at (mode_of mode) t us s) s.memory (λ o m. machine_verdict (mode_of mode) o m (tokens_of us)))
    unfolding machine_verdict tokens_of
    verdict =
        (left i s b).verdict
        ∙ ap (λ l. moved i (machine_verdict (mode_of mode) s.open_now s.memory (tokens_of l))) p
        ∙ ap (λ x. moved i (follow (find_rule t.kind (rules t x (mode_of mode) s.open_now)) s.memory (λ o m. machine_verdict (mode_of mode) o m (tokens_of us)))) (sym (tied_same us))

    of_token : {P : Token → Type 0} → At ts i P → P t
    of_token {P} a = subst P (same a.token t (sym a.there ∙ there)) a.holds
      where
        same : (u v : Token) → u ∷ [] ≡ v ∷ [] → u ≡ v
        same u v e = cc

    -- A test of the token.
    at_test : {n : ℕ} {vs : List Test} {cs : List Condition} (c : Bool) (f : Token → Bool) → c ≡ f t → Decides vs cs → Decides (n when c ∷ vs) ((n if At ts i (λ u. T (f u))) ∷ cs)
    at_test c f e d =
        test (λ x. record { token = t; there = there; holds = subst T (sym x ∙ e) tt })
        (λ x a. subst T (sym e ∙ x) (of_token a)) d

    -- No rule.
    decides_none : rule_at (mode_of mode) t us s ≡ none → Decides (tests room s t none s) (refusals doc mode base lent i)
    unfolding refusals follow
    decides_none q =
        skip (λ x. not_over x.0)
        (at_test (no_character t) no_character refl
        (stop (verdict_fails doc mode base lent i (verdict ∙ ap (λ r. moved i (follow r s.memory (λ o m. machine_verdict (mode_of mode) o m (tokens_of us)))) q ∙ moved_some i))))

    module _ (w : Write Open) (q : rule_at (mode_of mode) t us s ≡ some w) where
      abbrev s' : State
      s' = obeyed (some w) t s

      -- One token more.
      next : Behind (suc i) s'
      unfolding in_force
      next =
          let e = take_next i ts t (tokens_of us) here in
          record {
            reached = after_next (mode_of mode) t us w i ls (start_state base) s b.reached p q;
            tracks =
                subst (λ l. Tracks base l s') (sym e)
                (record {
                  force =
                      in_force_rule t (tied_to us) (mode_of mode) s.memory s.open_now w q ∙ ap (λ f. after_token f t) b.tracks.force ∙ sym (after_append _ (take i ts) t);
                  depth = ap (λ d. new_depth d t) b.tracks.depth ∙ sym (depth_append 0 (take i ts) t);
                });
            sane = (sane_rule t (tied_to us) (mode_of mode) s w q b.sane).0;
          }

      abbrev tied : Bool
      tied = has_kind strings t && tag_first (drop (suc i) ts)

      ties : awaits s'.open_now ≡ tied
      ties =
          (sane_rule t (tied_to us) (mode_of mode) s w q b.sane).1
          ∙ ap (λ x. has_kind strings t && x) (tied_same us ∙ sym (same_tie (tokens_of us)) ∙ ap (λ l. tag_first l) (sym (drop_next i ts t (tokens_of us) here)))

      writes : Written tied (mode_of mode) base (take (suc i) ts) s'.memory.rows s'.memory.terms
      writes = subst (λ x. Written x (mode_of mode) base (take (suc i) ts) s'.memory.rows s'.memory.terms) ties (state_written (mode_of mode) base (suc i) ls s' next.reached)

      at_room : {n : ℕ} {vs : List Test} {cs : List Condition} (r : ℕ) (size : List Row → List Term → ℕ) → Decides vs cs
          → Decides (n when ltb r (size s'.memory.rows s'.memory.terms) ∷ vs) ((n if TooSmall (mode_of mode) base ts i r size) ∷ cs)
      at_room r size d =
          test (λ x. record { token = t; there = there; holds = record { rows = _; terms = _; written = writes; larger = ltb-true r (size s'.memory.rows s'.memory.terms) x } })
          (λ x a.
          let y = of_token a in
          let (u, v) = written_once tied (mode_of mode) base (take (suc i) ts) _ _ _ _ y.written writes in
          let l : r < size s'.memory.rows s'.memory.terms = subst (λ k. r < size s'.memory.rows k) v (subst (λ k. r < size k y.terms) u y.larger) in
          let h : size s'.memory.rows s'.memory.terms ≤ r = ltb-false r (size s'.memory.rows s'.memory.terms) x in
          omega arith)
          d

      decides_some : Decides (tests room s t (some w) s') (refusals doc mode base lent i)
      unfolding refusals follow
      decides_some =
          let f = b.tracks.force in
          skip (λ x. not_over x.0)
          (at_test (no_character t) no_character refl
          (test (λ x. contrary (sym x))
          (λ x g.
          moved_later (mode_of mode) i (machine_verdict (mode_of mode) s'.open_now s'.memory (tokens_of us))
          (ap (λ r. moved i (follow r s.memory (λ o m. machine_verdict (mode_of mode) o m (tokens_of us)))) (sym q) ∙ sym verdict ∙ fails_verdict doc mode base lent i g))
          (at_test (undeclared (in_force_now s) t) (undeclared (in_force base (take i ts))) (ap (λ x. undeclared x t) f)
          (at_test (no_base (in_force_now s) t) (no_base (in_force base (take i ts))) (ap (λ x. no_base x t) f)
          (at_test (too_long (in_force_now s) t) (too_long (in_force base (take i ts))) (ap (λ x. too_long x t) f)
          (at_test (one_prefix_more (in_force_now s)) (λ u. one_prefix_more (in_force base (take i ts))) (ap one_prefix_more f)
          (at_test (too_deep s.depth t) (too_deep (depth_after (take i ts))) (ap (λ d. too_deep d t) b.tracks.depth)
          (at_room room.rows (λ rows terms. length rows)
          (at_room room.terms (λ rows terms. length terms)
          (at_room room.store (λ rows terms. store_size terms)
          (record { says = λ k x. x })))))))))))

  -- ---- The run

  -- None of the refusals stands before token i.
  abbrev Clear : ℕ → Type 0
  Clear i = (j k : ℕ) → j < i → ¬ (First (refusals doc mode base lent j) k)

  -- The outcome goes with what stands where.
  abbrev Right : Outcome → Type 0
  Right (accepted m) = (i k : ℕ) → ¬ (First (refusals doc mode base lent i) k)
  Right (refused c p) = (i : ℕ) × Clear i × First (refusals doc mode base lent i) c × (p ≡ place i)

  right_end : (i : ℕ) (s : State) → Behind i s → drop i ls ≡ [] → Clear i → (o : Open) → s.open_now ≡ o → Right (at_end o (length doc) s.memory)
  unfolding machine_verdict tokens_of readable place_of finished end_verdict
  right_end i s b p c o q = go o q
    where
      r : Rest (mode_of mode) i ls (start_state base) s
      r = left i s b

      over : length ts ≤ i
      over = let e = r.number ∙ ap (λ l. i + length (tokens_of l)) p in omega arith

      cuts : readable ls ≡ true
      cuts = r.cuts ∙ ap readable p

      verdict_end : (o : Open) → s.open_now ≡ o → machine_verdict (mode_of mode) (statement []) (start_memory base) ts ≡ moved i (end_verdict (finished o))
      verdict_end o q = r.verdict ∙ ap (λ l. moved i (machine_verdict (mode_of mode) s.open_now s.memory (tokens_of l))) p ∙ ap (λ x. moved i (end_verdict (finished x))) q

      fails : (o : Open) → s.open_now ≡ o → finished o ≡ false → Right (refused 8 (length doc))
      fails o q f =
          (i, c, end_fails i over cuts (verdict_fails doc mode base lent i (verdict_end o q ∙ ap (λ x. moved i (end_verdict x)) f ∙ moved_some i)), placed i s b [] p)

      go : (o : Open) → s.open_now ≡ o → Right (at_end o (length doc) s.memory)
      go (directive d) q = fails (directive d) q refl
      go (statement (f ∷ K)) q = fails (statement (f ∷ K)) q refl
      go (statement []) q =
          λ j k x.
          by (ltb j i) (λ h. absurd (c j k (ltb-true j i h) x))
          (λ h.
          let l = ltb-false j i h in
          (end_fine j (omega (arith, over)) cuts (λ f. not_none (sym (verdict_end (statement []) q ∙ moved_none i) ∙ fails_verdict doc mode base lent j f))).says k x)

  -- Where no token can be read.
  unread : (i : ℕ) → i ≡ length ts → readable ls ≡ false → First (refusals doc mode base lent i) 6
  unfolding refusals
  unread i e r = inl ((e, subst (λ x. T (not x)) (sym r) tt), refl)

  -- A run from behind i tokens, before which nothing stands.
  right : (us : List Lexeme) (i : ℕ) (s : State) → Behind i s → drop i ls ≡ us → Clear i → Right (run (mode_of mode) room (length doc) us s)
  unfolding run step readable place_of tokens_of
  right [] i s b p c = right_end i s b p c s.open_now refl
  right (unreadable q ∷ us) i s b p c =
      let r = left i s b in
      let e = r.number ∙ ap (λ l. i + length (tokens_of l)) p in
      (i, c, unread i (omega arith) (r.cuts ∙ ap readable p), placed i s b (unreadable q ∷ us) p)
  right (token t ∷ us) i s b p c = go (rule_at (mode_of mode) t us s) refl (λ j x d e f. right us j x d e f)
    where
      goes : (o : Option ℕ) (x : State) → Says (refusals doc mode base lent i) o → (o ≡ none → Right (run (mode_of mode) room (length doc) us x))
          → Right (onward (λ y. run (mode_of mode) room (length doc) us y) (answer o t.start x))
      goes none x d k = k refl
      goes (some n) x d k = (i, c, d, placed i s b (token t ∷ us) p)

      clear_next : ((k : ℕ) → ¬ (First (refusals doc mode base lent i) k)) → Clear (suc i)
      clear_next d j k h x =
          by (ltb j i) (λ l. c j k (ltb-true j i l) x) (λ l. let m = ltb-false j i l in let e : j ≡ i = omega arith in d k (subst (λ y. First (refusals doc mode base lent y) k) e x))

      go : (r : Option (Write Open)) → rule_at (mode_of mode) t us s ≡ r
          → ((j : ℕ) (x : State) → Behind j x → drop j ls ≡ us → Clear j → Right (run (mode_of mode) room (length doc) us x))
          → Right (onward (λ x. run (mode_of mode) room (length doc) us x) (answer (first_refusal (tests room s t r (obeyed r t s))) t.start (obeyed r t s)))
      go none q k =
          goes (first_refusal (tests room s t none s)) s (decides_none i s b t us p q).says (λ e. no_rule room s t e)
      go (some w) q k =
          let x = obeyed (some w) t s in
          let d = (decides_some i s b t us p w q).says in
          goes (first_refusal (tests room s t (some w) x)) x d
          (λ e. k (suc i) x (next i s b t us p w q) (drop_next i ls (token t) us p) (clear_next (subst (Says (refusals doc mode base lent i)) e d)))

  right_run : Right (run_of doc mode base lent)
  right_run = right ls 0 (start_state base) behind_none refl (λ j k h. absurd (omega arith))

  -- ---- The answer

  -- A refusal is answered where it stands,
  pub refused_answer : (i n : ℕ) → Refused doc mode base lent i n → read doc mode base lent ≡ refusal n (place i)
  refused_answer i n x = read_run doc mode base lent x.usable x.utf8 ∙ ap (λ o. reported (length doc) o) (go (run_of doc mode base lent) right_run)
    where
      go : (o : Outcome) → Right o → o ≡ refused n (place i)
      go (accepted m) f = absurd (f i n x.here)
      go (refused c p) (j, e, h, q) =
          by (ltb j i) (λ l. absurd (x.earlier j c (ltb-true j i l) h))
          (λ l.
          by (ltb i j) (λ m. absurd (e i n (ltb-true i j m) x.here))
          (λ m.
          let y = ltb-false j i l in
          let z = ltb-false i j m in
          let d : j ≡ i = omega arith in
          ap₂ refused (first_once (refusals doc mode base lent i) c n (subst (λ k. First (refusals doc mode base lent k) c) d h) x.here) (q ∙ ap place d)))

  abbrev RefusedAt : ℕ → ℕ → Type 0
  RefusedAt n p = (i : ℕ) × Refused doc mode base lent i n × (p ≡ place i)

  -- and no refusal from 6 on is answered elsewhere.
  pub refused_only : 6 ≤ (read doc mode base lent).number → RefusedAt (read doc mode base lent).number (read doc mode base lent).position
  unfolding read read_checked read_utf8 read_tokens all number_of
  refused_only h = checked (first_refusal (first_checks doc mode base lent)) refl h
    where
      ran : first_refusal (first_checks doc mode base lent) ≡ none → first_bad doc ≡ none → (o : Outcome) → Right o
          → 6 ≤ (reported (length doc) o).number → RefusedAt (reported (length doc) o).number (reported (length doc) o).position
      ran u v (accepted m) f h = absurd (omega arith)
      ran u v (refused c p) (i, e, f, q) h = (i, record { usable = u; utf8 = v; earlier = e; here = f }, q)

      decoded : first_refusal (first_checks doc mode base lent) ≡ none → (o : Option ℕ) → first_bad doc ≡ o → 6 ≤ (read_utf8 o doc mode base lent).number
          → RefusedAt (read_utf8 o doc mode base lent).number (read_utf8 o doc mode base lent).position
      decoded u (some q) v h = absurd (omega arith)
      decoded u none v h = ran u v (run_of doc mode base lent) right_run h

      checked : (o : Option ℕ) → first_refusal (first_checks doc mode base lent) ≡ o → 6 ≤ (read_checked o doc mode base lent).number
          → RefusedAt (read_checked o doc mode base lent).number (read_checked o doc mode base lent).position
      checked (some c) u h = let l = leb→le c 4 (refusal_number (λ x. leb x 4) (first_checks doc mode base lent) tt c u) in absurd (omega arith)
      checked none u h = decoded u (first_bad doc) refl h

  -- ---- 8

  eight_fails : (i : ℕ) → First (refusals doc mode base lent i) 8 → GrammarFailsAt (mode_of mode) ts i
  unfolding refusals numbers
  eight_fails i (inl x) = let e : ◌≡◌ {A = ℕ} 8 6 = x.1 in absurd (omega arith)
  eight_fails i (inr (g, inl x)) = let e : ◌≡◌ {A = ℕ} 8 7 = x.1 in absurd (omega arith)
  eight_fails i (inr (g, inr (h, inl x))) = x.0
  eight_fails i (inr (g, inr (h, inr (k, x)))) = absurd (first_number (ltb 8) (drop 3 (refusals doc mode base lent i)) 8 tt x)

  one_failure : (i j : ℕ) → GrammarFailsAt (mode_of mode) ts i → GrammarFailsAt (mode_of mode) ts j → i ≡ j
  one_failure i j f g = some_same (sym (fails_verdict doc mode base lent i f) ∙ fails_verdict doc mode base lent j g)

  -- 8 stands just where the grammar fails first.
  pub eight_stands : (i : ℕ) → FailsFirst doc mode base lent i ↔ Refused doc mode base lent i grammar_refusal
  eight_stands i = (
    λ f.
        let e = ap (λ (a : Answer). a.number) (fails_answer doc mode base lent i f) in
        let (j, r, q) = refused_only (subst (λ n. 6 ≤ n) (sym e) (omega arith)) in
        let x = subst (Refused doc mode base lent j) e r in
        subst (λ k. Refused doc mode base lent k 8) (one_failure j i (eight_fails j x.here) f.fails) x,
    λ x.
        let (j, f, q) = eight_fails_first doc mode base lent (ap (λ (a : Answer). a.number) (refused_answer i 8 x)) in
        subst (FailsFirst doc mode base lent) (one_failure j i f.fails (eight_fails i x.here)) f,
  )

  -- ---- The whole answer

  abbrev IfZero : Answer → Type 0
  IfZero a = (read doc mode base lent).number ≡ 0 → a ≡ read doc mode base lent → Answered doc mode base lent a

  pub answered : Answered doc mode base lent (read doc mode base lent)
  unfolding read read_checked read_utf8 read_tokens
  answered = checked (first_refusal (first_checks doc mode base lent)) refl (λ e x. accepted_there (zero_meets doc mode base lent e) (x ∙ meets_answer doc mode base lent (zero_meets doc mode base lent e)))
    where
      ran : first_refusal (first_checks doc mode base lent) ≡ none → first_bad doc ≡ none → (o : Outcome) → (run_of doc mode base lent) ≡ o → Right o → IfZero (reported (length doc) o) → Answered doc mode base lent (reported (length doc) o)
      ran u v (accepted m) r f g = let e = read_run doc mode base lent u v ∙ ap (λ o. reported (length doc) o) r in g (ap (λ (a : Answer). a.number) e) (sym e)
      ran u v (refused c p) r (i, e, f, q) g = refused_there i c (record { usable = u; utf8 = v; earlier = e; here = f }) (ap (refusal c) q)

      decoded : first_refusal (first_checks doc mode base lent) ≡ none → (o : Option ℕ) → first_bad doc ≡ o → IfZero (read_utf8 o doc mode base lent) → Answered doc mode base lent (read_utf8 o doc mode base lent)
      decoded u (some p) v g = not_utf8 p u v refl
      decoded u none v g = ran u v (run_of doc mode base lent) refl right_run g

      checked : (o : Option ℕ) → first_refusal (first_checks doc mode base lent) ≡ o → IfZero (read_checked o doc mode base lent) → Answered doc mode base lent (read_checked o doc mode base lent)
      checked (some n) u g = unusable n u refl
      checked none u g = decoded u (first_bad doc) refl g

  -- There is no other.
  pub answered_once : (a : Answer) → Answered doc mode base lent a → a ≡ read doc mode base lent
  unfolding read read_checked read_utf8
  answered_once a (unusable n u e) = e ∙ sym (ap (λ o. read_checked o doc mode base lent) u)
  answered_once a (not_utf8 p u v e) = e ∙ sym (ap (λ o. read_checked o doc mode base lent) u ∙ ap (λ o. read_utf8 o doc mode base lent) v)
  answered_once a (refused_there i n x e) = e ∙ sym (refused_answer i n x)
  answered_once a (accepted_there x e) = e ∙ sym (meets_answer doc mode base lent x)

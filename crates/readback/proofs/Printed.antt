-- Printed tokens: each is the longest match at the front of what stands there.
use mathlib.Core.Path.{◌≡◌, refl, ap, ◌∙◌}
use mathlib.Core.Logic.{◌⊎◌, inl, inr, ⊎_elim}
use mathlib.Core.Bool.{Bool, false}
use mathlib.Core.List.{List, [], ◌∷◌, ◌++◌}
use Prim.Native.Nat.{ℕ, zero, suc, ◌+◌, ◌/◌, ◌%◌, ◌≤◌, ◌<◌}
use native.Mathlib.Omega.{arith}
use borrow.Author.Tests.{ltb-true, lt-ltb}
use lib.Dec.{T, eqb, ltb}
use Rattle.text.specs.Text.{Text, ascii, cond}
use Rattle.utf8.specs.Utf8.{width}
use Rattle.utf8.specs.Scalar.{Scalars}
use Rattle.text.proofs.Booleans.{and_in}
use Rattle.utf8.proofs.Tests.{by, split, below, below_at, and_true}
use Rattle.token.specs.Kind.{kind_code, IRIREF, STRING_LITERAL_QUOTE, BLANK_NODE_LABEL, dot}
use Rattle.token.specs.Regular.{eps, item, Match, nothing, hit, size, step, now_at, later, best}
use Rattle.token.specs.Terminals.{terminals, long_terminals, tripled, token_at}
use Rattle.automaton.specs.Levels.{intervals}
use Rattle.automaton.specs.States.{State, steps, in_iri, in_string, in_label, open_states}
use Rattle.automaton.proofs.Same.{same_state, same_state_eq}
use Rattle.automaton.proofs.Steps.{always, high_sends, HighSent, high_to}
use Rattle.table.specs.LongForm.{digits, decimal, iri_byte, string_byte, escaped}
use Rattle.readback.proofs.Undone.{lows, Rule, iri_rule, string_rule}

-- ---- The longest match, by where the automaton is after a token

-- No code point that stands next leads on.
abbrev pub Stops : State → List ℕ → Type 0
Stops q [] = Unit {0}
Stops q (d ∷ ds) = step d q ≡ []

pub nothing_left : (cs : List ℕ) → best width [] cs ≡ nothing
nothing_left [] = refl
nothing_left (c ∷ cs) = ap (λ (m : Match). later (width c) m nothing) (nothing_left cs)

longest : (cs ds : List ℕ) (q : State) (k : ℕ) → now_at (steps cs q) ≡ hit k 0 → Stops (steps cs q) ds → best width q (cs ++ ds) ≡ hit k (size width cs)
longest [] [] q k e s = e
longest [] (d ∷ ds) q k e s =
    ap (λ (x : State). later (width d) (best width x ds) (now_at q)) s ∙ ap (λ (m : Match). later (width d) m (now_at q)) (nothing_left ds) ∙ e
longest (c ∷ cs) ds q k e s = ap (λ (m : Match). later (width c) m (now_at q)) (longest cs ds (step c q) k e s)

-- A token that no three quotes open.
pub token_by : (cs ds : List ℕ) (k : ℕ) → tripled (cs ++ ds) ≡ false → now_at (steps cs terminals) ≡ hit k 0 → Stops (steps cs terminals) ds
    → token_at (cs ++ ds) ≡ hit k (size width cs)
unfolding token_at
token_by cs ds k t e s = ap (λ (b : Bool). best width (cond b long_terminals terminals) (cs ++ ds)) t ∙ longest cs ds terminals k e s

pub no_quote : (a : ℕ) (s : List ℕ) → eqb a 34 ≡ false → eqb a 39 ≡ false → tripled (a ∷ s) ≡ false
no_quote a [] e f = refl
no_quote a (b ∷ []) e f = refl
no_quote a (b ∷ c ∷ s) e f = simp (e, f)

steps_append : (cs ds : List ℕ) (q : State) → steps (cs ++ ds) q ≡ steps ds (steps cs q)
steps_append [] ds q = refl
steps_append (c ∷ cs) ds q = steps_append cs ds (step c q)

-- ---- Marks

-- After a token that nothing makes longer.
stops_all : {q : State} {k : ℕ} → q ≡ item k eps ∷ [] → (ds : List ℕ) → Stops q ds
stops_all e [] = tt
stops_all e (d ∷ ds) = ap (step d) e

-- A token that ends by itself and begins with no quote, whatever follows it.
pub closed_token : (k c : ℕ) (cs ds : List ℕ) → eqb c 34 ≡ false → eqb c 39 ≡ false → steps (c ∷ cs) terminals ≡ item k eps ∷ []
    → token_at (c ∷ (cs ++ ds)) ≡ hit k (size width (c ∷ cs))
closed_token k c cs ds n m e = token_by (c ∷ cs) ds k (no_quote c (cs ++ ds) n m) (ap now_at e) (stops_all e ds)

-- A dot before a blank or the end of line.
pub dot_token : (d : ℕ) (ds : List ℕ) → (d ≡ 32) ⊎ (d ≡ 10) → token_at (46 ∷ d ∷ ds) ≡ hit (kind_code dot) 1
dot_token d ds h = token_by (46 ∷ []) (d ∷ ds) (kind_code dot) (no_quote 46 (d ∷ ds) refl refl) refl (⊎_elim (λ e. rw e refl) (λ e. rw e refl) h)

-- ---- Escaped texts

-- Whatever is printed for a code point leads back to the state q.
record Stays (f : ℕ → Text) (q : State) : Type 0 where
  low : T (below (λ c. same_state (steps (f c) q) q) 128)
  high : HighSent q always q

stays : {f : ℕ → Text} {q : State} → Rule f → Stays f q → (cs : List ℕ) → Scalars cs → steps (escaped f cs) q ≡ q
unfolding escaped
stays r t [] s = refl
stays {f} {q} r t (c ∷ cs) s = steps_append (f c) (escaped f cs) q ∙ ap (steps (escaped f cs)) (one (split c 128)) ∙ stays r t cs s.1
  where
    one : (c < 128) ⊎ (128 ≤ c) → steps (f c) q ≡ q
    one (inl h) = same_state_eq (steps (f c) q) q (below_at (λ c. same_state (steps (f c) q) q) 128 t.low c h)
    one (inr h) = ap (λ (x : Text). steps x q) (r.high c h) ∙ high_to t.high c h s.0.0 refl

-- What is printed between marks.
abbrev pub marked : ℕ → ℕ → List ℕ → List ℕ
marked a b cs = a ∷ (cs ++ b ∷ [])

stays_iri : Stays iri_byte in_iri
unfolding open_states iri_byte high_sends intervals
stays_iri = record { low = tt; high = record { test = tt } }

stays_string : Stays string_byte (in_string 34)
unfolding open_states string_byte high_sends intervals
stays_string = record { low = tt; high = record { test = tt } }

second_plain : (b : ℕ) (t : List ℕ) → eqb b 34 ≡ false → tripled (34 ∷ b ∷ t) ≡ false
second_plain b [] e = refl
second_plain b (c ∷ t) e = simp e

-- No string is printed with three quotes in front.
no_three : (cs : List ℕ) (d : ℕ) (ds : List ℕ) → eqb d 34 ≡ false → tripled (marked 34 34 (escaped string_byte cs) ++ d ∷ ds) ≡ false
unfolding escaped string_byte
no_three [] d ds e = simp e
no_three (c ∷ cs) d ds e =
    by (eqb c 34) (λ p. simp p)
    (λ p. by (eqb c 92) (λ q. simp (p, q))
    (λ q. by (eqb c 10) (λ r. simp (p, q, r))
    (λ r. by (eqb c 13) (λ o. simp (p, q, r, o))
    (λ o. simp (p, q, r, o) (second_plain c ((escaped string_byte cs ++ 34 ∷ []) ++ d ∷ ds) p)))))

module _ (cs : List ℕ) (s : Scalars cs) where
  pub iri_token : (ds : List ℕ) → token_at (marked 60 62 (escaped iri_byte cs) ++ ds) ≡ hit (kind_code IRIREF) (size width (marked 60 62 (escaped iri_byte cs)))
  unfolding open_states
  iri_token ds =
      closed_token (kind_code IRIREF) 60 (escaped iri_byte cs ++ 62 ∷ []) ds refl refl
      (steps_append (escaped iri_byte cs) (62 ∷ []) in_iri ∙ ap (step 62) (stays iri_rule stays_iri cs s))

  -- A string before anything but a quote.
  pub string_token : (d : ℕ) (ds : List ℕ) → eqb d 34 ≡ false
      → token_at (marked 34 34 (escaped string_byte cs) ++ d ∷ ds) ≡ hit (kind_code STRING_LITERAL_QUOTE) (size width (marked 34 34 (escaped string_byte cs)))
  unfolding open_states
  string_token d ds n =
      token_by (marked 34 34 (escaped string_byte cs)) (d ∷ ds) (kind_code STRING_LITERAL_QUOTE) (no_three cs d ds n) (ap now_at e) (stops_all e (d ∷ ds))
    where
      e : steps (marked 34 34 (escaped string_byte cs)) terminals ≡ item (kind_code STRING_LITERAL_QUOTE) eps ∷ []
      e = steps_append (escaped string_byte cs) (34 ∷ []) (in_string 34) ∙ ap (step 34) (stays string_rule stays_string cs s)

-- ---- Blank node labels

-- The digit d leads from one state to the other.
abbrev digit_on : State → State → ℕ → Bool
digit_on q q2 d = same_state (step (48 + d) q) q2

abbrev label_start : State
label_start = steps (ascii "_:b") terminals

first_digit : T (below (digit_on label_start in_label) 10)
unfolding open_states
first_digit = tt

next_digit : T (below (digit_on in_label in_label) 10)
unfolding open_states
next_digit = tt

digit_to : (q : State) → T (below (digit_on q in_label) 10) → (d : ℕ) → d < 10 → step (48 + d) q ≡ in_label
digit_to q t d h = same_state_eq (step (48 + d) q) in_label (below_at (digit_on q in_label) 10 t d h)

last_to : (r : List ℕ) (n : ℕ) (q q2 : State) → T (below (digit_on q in_label) 10) → steps r q ≡ q2 → T (below (digit_on q2 in_label) 10)
    → steps (cond (ltb n 10) ((48 + n) ∷ []) (r ++ (48 + n % 10) ∷ [])) q ≡ in_label
last_to r n q q2 t e u =
    let h : n % 10 < 10 = omega arith in
    by (ltb n 10) (λ l. rw l (digit_to q t n (ltb-true n 10 l)))
    (λ l. rw l (steps_append r ((48 + n % 10) ∷ []) q ∙ ap (step (48 + n % 10)) e ∙ digit_to q2 u (n % 10) h))

digits_to : (most n : ℕ) (q : State) → T (below (digit_on q in_label) 10) → steps (digits (suc most) n) q ≡ in_label
unfolding digits
digits_to zero n q t = last_to [] n q q t refl t
digits_to (suc most) n q t = last_to (digits (suc most) (n / 10)) n q in_label t (digits_to most (n / 10) q t) next_digit

abbrev pub label_points : ℕ → List ℕ
label_points n = ascii "_:b" ++ decimal n

-- Decimal digits are ASCII.
lows_append : (xs ys : List ℕ) → T (lows xs) → T (lows ys) → T (lows (xs ++ ys))
lows_append [] ys t u = u
lows_append (x ∷ xs) ys t u = let v = and_true (ltb x 128) (lows xs) t in and_in (ltb x 128) (lows (xs ++ ys)) v.0 (lows_append xs ys v.1 u)

digits_lows : (most n : ℕ) → T (lows (digits most n))
unfolding digits
digits_lows zero n = tt
digits_lows (suc most) n =
    let h : n % 10 < 10 = omega arith in
    by (ltb n 10) (λ e. let l = ltb-true n 10 e in rw (e, lt-ltb (48 + n) 128 (omega arith)) tt)
    (λ e. rw e (lows_append (digits most (n / 10)) ((48 + n % 10) ∷ []) (digits_lows most (n / 10)) (rw (lt-ltb (48 + n % 10) 128 (omega arith)) tt)))

pub label_lows : (n : ℕ) → T (lows (label_points n))
label_lows n = digits_lows 10 n

-- A label before a blank.
pub label_token : (n : ℕ) (ds : List ℕ) → token_at (label_points n ++ 32 ∷ ds) ≡ hit (kind_code BLANK_NODE_LABEL) (size width (label_points n))
unfolding open_states
label_token n ds = token_by (label_points n) (32 ∷ ds) (kind_code BLANK_NODE_LABEL) (no_quote 95 (58 ∷ 98 ∷ (decimal n ++ 32 ∷ ds)) refl refl) (ap now_at e) (ap (step 32) e)
  where
    e : steps (label_points n) terminals ≡ in_label
    e = digits_to 9 n label_start first_digit

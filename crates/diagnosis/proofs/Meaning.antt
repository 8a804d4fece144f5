-- What a trial says in the grammar's words: the token is allowed exactly if the tokens before it and it begin a grammatical text.
use mathlib.Core.Path.{◌≡◌, refl, sym, ap, subst, ◌∙◌}
use mathlib.Core.Logic.{◌↔◌, ◌⊎◌, inl, inr}
use mathlib.Core.Bool.{Bool, true, false, not}
use mathlib.Core.List.{List, [], ◌∷◌, ◌++◌, append-nil, append_assoc}
use mathlib.Core.Option.{Option, none, some}
use Prim.Native.Nat.{ℕ, zero, suc, ◌+◌, ◌<◌, ◌≤◌}
use native.Mathlib.Omega.{arith}
use lib.Dec.{T, eqb, leb, leb→le}
use lib.ListN.{length, take, drop, length-append, take-append-drop}
use lib.Seq.{take_all}
use borrow.Author.Tests.{lt-ltb, le-ltb, le-leb, eq-eqb, eqb-false}
use Rattle.text.specs.Text.{Text}
use Rattle.text.proofs.Compare.{by, contrary}
use Rattle.text.proofs.Booleans.{all}
use Rattle.utf8.specs.Utf8.{first_bad}
use Rattle.token.specs.Tokens.{Token, Lexeme, token, lexemes, tokens_of, place_of}
use Rattle.grammar.specs.Productions.{Mode, Grammatical, BeginsGrammatical, GrammarFailsAt, kind_of, production, root}
use Rattle.grammar.specs.Ebnf.{Derives}
use Rattle.grammar.proofs.Grammar.{accepted as accepted_iff, refused as refused_iff}
use Rattle.machine.specs.Step.{Outcome, accepted, refused, first_refusal, run}
use Rattle.machine.specs.Frame.{statement}
use Rattle.machine.specs.Memory.{start_memory}
use Rattle.machine.specs.Read.{Lent, Answer, first_checks, mode_of, room_of, start_state, reported, read, read_checked, read_utf8, read_tokens}
use Rattle.machine.proofs.Link.{machine_verdict}
use Rattle.machine.proofs.Firsts.{number_of, refusal_number}
use Rattle.machine.proofs.Judge.{Judged, fine, eighth, other, Goes_before, judged}
use Rattle.machine.specs.Demand.{Meets}
use Rattle.machine.proofs.Grammatical.{machine_grammar}
use Rattle.machine.proofs.Demands.{zero_meets, meets_answer}
use Rattle.diagnosis.specs.Samples.{allowed}

-- A text that is cut into these tokens and no more.
unfoldable pub as_lexemes : List Token → List Lexeme
as_lexemes [] = []
as_lexemes (t ∷ ts) = token t ∷ as_lexemes ts

abbrev pub Earlier : ℕ → List Token → Type 0
Earlier place [] = Unit {0}
Earlier place (t ∷ ts) = (t.start < place) × Earlier place ts

-- The text is cut into the tokens before the place and the one there.
pub record Probed (text : Text) (place : ℕ) (before : List Token) (last : Token) : Type 0 where
  pub cut : lexemes text ≡ as_lexemes (before ++ last ∷ [])
  pub earlier : Earlier place before
  pub there : last.start ≡ place
  pub inside : place < length text

-- Nothing before the place is refused, and nothing there by a number that goes before 8.
pub record Reached (a : Answer) (place : ℕ) : Type 0 where
  pub position : place ≤ a.position
  pub number : (a.number ≡ 0) ⊎ (8 ≤ a.number)

-- ---- Places of tokens

tokens_as : (ts : List Token) → tokens_of (as_lexemes ts) ≡ ts
unfolding tokens_of as_lexemes
tokens_as [] = refl
tokens_as (t ∷ ts) = ap (λ (l : List Token). t ∷ l) (tokens_as ts)

module _ (n place : ℕ) where
  -- Token i stands before the last one, or is it, or there is none.
  data Where (before : List Token) (last : Token) (i : ℕ) : Type 0 where
    sooner : i < length before → place_of n (as_lexemes (before ++ last ∷ [])) i < place → Where before last i
    here : i ≡ length before → place_of n (as_lexemes (before ++ last ∷ [])) i ≡ place → Where before last i
    past : length before < i → place_of n (as_lexemes (before ++ last ∷ [])) i ≡ n → Where before last i

  find : (before : List Token) (last : Token) → Earlier place before → last.start ≡ place → (i : ℕ) → Where before last i
  unfolding place_of as_lexemes
  find [] last e p zero = here refl p
  find [] last e p (suc i) = past (omega arith) refl
  find (t ∷ ts) last e p zero = sooner (omega arith) e.0
  find (t ∷ ts) last e p (suc i) = shift (find ts last e.1 p i)
    where
      shift : Where ts last i → Where (t ∷ ts) last (suc i)
      shift (sooner h q) = sooner (omega arith) q
      shift (here h q) = here (ap suc h) q
      shift (past h q) = past (omega arith) q

-- ---- What the grammar says of the tokens

module _ (mode : Mode) (before : List Token) (last : Token) where
  abbrev all_tokens : List Token
  all_tokens = before ++ last ∷ []

  size : length all_tokens ≡ length before + 1
  size = length-append before (last ∷ [])

  whole_begins : Grammatical mode all_tokens → BeginsGrammatical mode all_tokens
  whole_begins d = ([], subst (Derives kind_of (production mode) (root mode)) (sym (append-nil all_tokens)) d)

  fails_past : (i : ℕ) → GrammarFailsAt mode all_tokens i → length before < i → BeginsGrammatical mode all_tokens
  fails_past i f h =
      let s = size in
      subst (BeginsGrammatical mode) (take_all i all_tokens (omega arith)) f.before

  fails_by : (i : ℕ) → GrammarFailsAt mode all_tokens i → i ≤ length before → ¬ (BeginsGrammatical mode all_tokens)
  fails_by i f h (us, d) =
      let s = size in
      let split : all_tokens ++ us ≡ take (suc i) all_tokens ++ (drop (suc i) all_tokens ++ us) =
      ap (λ (l : List Token). l ++ us) (sym (take-append-drop (suc i) all_tokens)) ∙ append_assoc (take (suc i) all_tokens) (drop (suc i) all_tokens) us in
      f.token (omega arith) (drop (suc i) all_tokens ++ us, subst (Derives kind_of (production mode) (root mode)) split d)

  module _ (v : Option ℕ) (whole : v ≡ none → Grammatical mode all_tokens) (fails : (i : ℕ) → v ≡ some i → GrammarFailsAt mode all_tokens i) where
    -- The grammar fails behind the last token, if at all.
    begins : ((i : ℕ) → v ≡ some i → length before < i) → BeginsGrammatical mode all_tokens
    begins h = go v refl
      where
        go : (w : Option ℕ) → v ≡ w → BeginsGrammatical mode all_tokens
        go none e = whole_begins (whole e)
        go (some i) e = fails_past i (fails i e) (h i e)

    module _ (n place : ℕ) (inside : place < n) (earlier : Earlier place before) (there : last.start ≡ place) where
      abbrev Means : Outcome → Type 0
      Means o = (allowed (reported n o) place ≡ true) ↔ BeginsGrammatical mode all_tokens

      yes_yes : (o : Outcome) → allowed (reported n o) place ≡ true → BeginsGrammatical mode all_tokens → Means o
      yes_yes o a b = (λ x. b, λ x. a)

      no_no : (o : Outcome) → allowed (reported n o) place ≡ false → ¬ (BeginsGrammatical mode all_tokens) → Means o
      no_no o a b = (λ x. contrary (sym x ∙ a), λ x. absurd (b x))

      behind : (c p : ℕ) → place < p → allowed (reported n (refused c p)) place ≡ true
      behind c p h = simp (lt-ltb place p h)

      at_place : (c p : ℕ) → p ≡ place → allowed (reported n (refused c p)) place ≡ leb 9 c
      at_place c p e = let h : p ≤ place = omega arith in simp (le-ltb place p h, eq-eqb p place e)

      eight : (p i : ℕ) → place ≤ p → v ≡ some i → p ≡ place_of n (as_lexemes all_tokens) i → Where n place before last i → Means (refused 8 p)
      eight p i r e q (sooner h s) = absurd (omega arith)
      eight p i r e q (here h s) = no_no (refused 8 p) (at_place 8 p (q ∙ s)) (fails_by i (fails i e) (omega arith))
      eight p i r e q (past h s) = yes_yes (refused 8 p) (behind 8 p (omega arith)) (fails_past i (fails i e) h)

      -- Another number, at token j.
      past_j : (c j : ℕ) → ((i : ℕ) → v ≡ some i → Goes_before c j i) → length before < j → (i : ℕ) → v ≡ some i → length before < i
      past_j c j g h i e = go (g i e)
        where
          go : Goes_before c j i → length before < i
          go (inl x) = omega arith
          go (inr x) = let y = x.0 in omega arith

      past_nine : (c j : ℕ) → 9 ≤ c → ((i : ℕ) → v ≡ some i → Goes_before c j i) → j ≡ length before → (i : ℕ) → v ≡ some i → length before < i
      past_nine c j k g h i e = go (g i e)
        where
          go : Goes_before c j i → length before < i
          go (inl x) = omega arith
          go (inr x) = let y : c ≤ 7 = leb→le c 7 x.1 in absurd (omega arith)

      another : (c p j : ℕ) → place ≤ p → 9 ≤ c → p ≡ place_of n (as_lexemes all_tokens) j → ((i : ℕ) → v ≡ some i → Goes_before c j i) → Where n place before last j → Means (refused c p)
      another c p j r k q g (sooner h s) = absurd (omega arith)
      another c p j r k q g (here h s) = yes_yes (refused c p) (at_place c p (q ∙ s) ∙ le-leb 9 c k) (begins (past_nine c j k g h))
      another c p j r k q g (past h s) = yes_yes (refused c p) (behind c p (omega arith)) (begins (past_j c j g h))

      from_nine : (c : ℕ) → T (not (eqb c 8)) → 8 ≤ c → 9 ≤ c
      from_nine c t h = by (eqb c 8) (λ e. absurd (subst (λ (b : Bool). T (not b)) e t)) (λ e. let d = eqb-false c 8 e in omega arith)

      means : (o : Outcome) → Judged n (as_lexemes all_tokens) v o → 8 ≤ (reported n o).number → place ≤ (reported n o).position → Means o
      means (accepted m) (fine e r) k x = absurd (omega arith)
      means (refused c p) (eighth i e q) k x = eight p i x e q (find n place before last earlier there i)
      means (refused c p) (other j t q g) k x = another c p j x (from_nine c t k) q g (find n place before last earlier there j)

-- ---- The answer

module _ (text : Text) (mode : ℕ) (base : Text) (lent : Lent) (place : ℕ) (before : List Token) (last : Token) (probed : Probed text place before last) where
  abbrev the_run : Outcome
  the_run = run (mode_of mode) (room_of lent) (length text) (lexemes text) (start_state base)

  abbrev Says : Answer → Type 0
  Says a = (allowed a place ≡ true) ↔ BeginsGrammatical (mode_of mode) (before ++ last ∷ [])

  tokens_same : tokens_of (lexemes text) ≡ before ++ last ∷ []
  tokens_same = ap tokens_of probed.cut ∙ tokens_as (before ++ last ∷ [])

  verdict : Option ℕ
  verdict = machine_verdict (mode_of mode) (statement []) (start_memory base) (tokens_of (lexemes text))

  whole : verdict ≡ none → Grammatical (mode_of mode) (before ++ last ∷ [])
  unfolding verdict
  whole e = subst (Grammatical (mode_of mode)) tokens_same ((accepted_iff (mode_of mode) (tokens_of (lexemes text))).0 (sym (machine_grammar (mode_of mode) (start_memory base) (tokens_of (lexemes text))) ∙ e))

  fails : (i : ℕ) → verdict ≡ some i → GrammarFailsAt (mode_of mode) (before ++ last ∷ []) i
  unfolding verdict
  fails i e =
      subst (λ (l : List Token). GrammarFailsAt (mode_of mode) l i) tokens_same
      ((refused_iff (mode_of mode) (tokens_of (lexemes text)) i).0 (sym (machine_grammar (mode_of mode) (start_memory base) (tokens_of (lexemes text))) ∙ e))

  judgement : Judged (length text) (as_lexemes (before ++ last ∷ [])) verdict the_run
  unfolding verdict
  judgement =
      subst (λ (l : List Lexeme). Judged (length text) l verdict the_run) probed.cut
      (judged (mode_of mode) (room_of lent) (length text) (lexemes text) (start_state base))

  ran : 8 ≤ (reported (length text) the_run).number → place ≤ (reported (length text) the_run).position → Says (reported (length text) the_run)
  ran k x = means (mode_of mode) before last verdict whole fails (length text) place probed.inside probed.earlier probed.there the_run judgement k x

  decoded : (o : Option ℕ) → 8 ≤ (read_utf8 o text mode base lent).number → place ≤ (read_utf8 o text mode base lent).position → Says (read_utf8 o text mode base lent)
  unfolding read_utf8 read_tokens
  decoded (some q) k x = absurd (omega arith)
  decoded none k x = ran k x

  checked : (o : Option ℕ) → first_refusal (first_checks text mode base lent) ≡ o → 8 ≤ (read_checked o text mode base lent).number
      → place ≤ (read_checked o text mode base lent).position → Says (read_checked o text mode base lent)
  unfolding read_checked all number_of
  checked (some c) e k x = let h : c ≤ 7 = leb→le c 7 (refusal_number (λ y. leb y 7) (first_checks text mode base lent) tt c e) in absurd (omega arith)
  checked none e k x = decoded (first_bad text) k x

  accepted_says : (read text mode base lent).number ≡ 0 → Says (read text mode base lent)
  accepted_says e =
      let m : Meets text mode base lent = zero_meets text mode base lent e in
      let p : (read text mode base lent).position ≡ length text = ap (λ (a : Answer). a.position) (meets_answer text mode base lent m) in
      let h : place < (read text mode base lent).position = subst (λ (n : ℕ). place < n) (sym p) probed.inside in
      let b = whole_begins (mode_of mode) before last (subst (Grammatical (mode_of mode)) tokens_same m.derivation) in (
        λ y. b,
        λ y. simp (lt-ltb place (read text mode base lent).position h),
      )

  -- The token at the place is allowed exactly if the tokens up to it begin a grammatical text.
  pub allowed_begins : Reached (read text mode base lent) place → (allowed (read text mode base lent) place ≡ true) ↔ BeginsGrammatical (mode_of mode) (before ++ last ∷ [])
  unfolding read
  allowed_begins x = go x.number
    where
      go : ((read text mode base lent).number ≡ 0) ⊎ (8 ≤ (read text mode base lent).number) → Says (read text mode base lent)
      go (inl e) = accepted_says e
      go (inr k) = checked (first_refusal (first_checks text mode base lent)) refl k x.position

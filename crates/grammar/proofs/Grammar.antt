-- The theorems of the grammar of each mode, for lists of tokens.
use mathlib.Core.Path.{◌≡◌, refl, sym, ap, ◌∙◌, subst}
use mathlib.Core.Logic.{◌↔◌}
use mathlib.Core.List.{List, [], ◌∷◌, ◌++◌, map, map-append}
use mathlib.Core.HLevel.{hedberg}
use mathlib.Core.Option.{none, some}
use Prim.Native.Nat.{ℕ, zero, suc, ◌≤◌, ◌<◌}
use lib.ListN.{length, take}
use lib.ListN.{length-map}
use Rattle.token.specs.Kind.{Kind}
use Rattle.token.specs.Tokens.{Token}
use Rattle.token.proofs.KindCodes.{same, same_eq, same_refl, kind_discrete}
use Rattle.grammar.specs.Ebnf.{nt, leaves, Derives, Begins, FailsAt}
use Rattle.grammar.specs.Productions.{Mode, production, root, kind_of, Derivation, Grammatical, BeginsGrammatical, GrammarFailsAt}
use Rattle.grammar.proofs.KindTrees
use Rattle.grammar.proofs.Labels.{labelled, labelled_once}
use Rattle.grammar.proofs.Modes.{levels, passes, grammar}
use Rattle.grammar.proofs.Verdict.{verdict_none, verdict_some, refused_more}
use Rattle.grammar.proofs.Unique.{unique}

-- The kinds of a list of tokens.
abbrev pub kinds_of : List Token → List Kind
kinds_of ts = map kind_of ts

-- A token of each kind.
abbrev some_token : Kind → Token
some_token k = record { kind = k; start = 0; text = [] }

some_tokens : (ks : List Kind) → kinds_of (map some_token ks) ≡ ks
some_tokens [] = refl
some_tokens (k ∷ ks) = ap (λ l. k ∷ l) (some_tokens ks)

take_kinds : (i : ℕ) (ts : List Token) → kinds_of (take i ts) ≡ take i (kinds_of ts)
take_kinds zero ts = refl
take_kinds (suc i) [] = refl
take_kinds (suc i) (t ∷ ts) = ap (λ l. t.kind ∷ l) (take_kinds i ts)

module _ (mode : Mode) where
  -- Of tokens and of their kinds: the same have a derivation, begin a text that has one, and fail.
  pub derives_kinds : (ts : List Token) → Grammatical mode ts ↔ KindTrees.Derives (production mode) (root mode) (kinds_of ts)
  derives_kinds ts = labelled kind_of (production mode) (hedberg kind_discrete) (root mode) ts

  begins_kinds : (ts : List Token) → BeginsGrammatical mode ts ↔ KindTrees.Begins (production mode) (root mode) (kinds_of ts)
  begins_kinds ts = (
    λ (us, d). (kinds_of us, subst (KindTrees.Derives (production mode) (root mode)) (map-append kind_of ts us) ((derives_kinds (ts ++ us)).0 d)),
    λ (ks, d). (
      map some_token ks,
      (derives_kinds (ts ++ map some_token ks)).1
          (subst (KindTrees.Derives (production mode) (root mode)) (ap (λ l. kinds_of ts ++ l) (sym (some_tokens ks)) ∙ sym (map-append kind_of ts (map some_token ks))) d),
    ),
  )

  begins_take : (i : ℕ) (ts : List Token) → BeginsGrammatical mode (take i ts) ↔ KindTrees.Begins (production mode) (root mode) (take i (kinds_of ts))
  begins_take i ts = subst (λ l. BeginsGrammatical mode (take i ts) ↔ KindTrees.Begins (production mode) (root mode) l) (take_kinds i ts) (begins_kinds (take i ts))

  fails_kinds : (ts : List Token) (i : ℕ) → GrammarFailsAt mode ts i ↔ KindTrees.FailsAt (production mode) (root mode) (kinds_of ts) i
  fails_kinds ts i =
      let same_length : length (kinds_of ts) ≡ length ts = length-map ts kind_of in (
        λ f.
            record {
              within = subst (λ n. i ≤ n) (sym same_length) f.within;
              before = (begins_take i ts).0 f.before;
              token = λ h b. f.token (subst (λ n. i < n) same_length h) ((begins_take (suc i) ts).1 b);
              end = λ e d. f.end (e ∙ same_length) ((derives_kinds ts).1 d);
            },
        λ f.
            record {
              within = subst (λ n. i ≤ n) same_length f.within;
              before = (begins_take i ts).1 f.before;
              token = λ h b. f.token (subst (λ n. i < n) (sym same_length) h) ((begins_take (suc i) ts).0 b);
              end = λ e d. f.end (e ∙ sym same_length) ((derives_kinds ts).0 d);
            },
      )

  of_kinds_none : (ks : List Kind) → (grammar mode ks ≡ none) ↔ KindTrees.Derives (production mode) (root mode) ks
  unfolding grammar
  of_kinds_none ks = verdict_none same same_eq same_refl (production mode) levels (passes mode) (root mode) ks

  of_kinds_some : (ks : List Kind) (i : ℕ) → (grammar mode ks ≡ some i) ↔ KindTrees.FailsAt (production mode) (root mode) ks i
  unfolding grammar
  of_kinds_some ks i = verdict_some same same_eq same_refl (production mode) levels (passes mode) (root mode) ks i

  more_kinds : (ks js : List Kind) (i : ℕ) → grammar mode ks ≡ some i → i < length ks → grammar mode (ks ++ js) ≡ some i
  unfolding grammar
  more_kinds ks js i e h = refused_more same (production mode) levels ((nt (root mode) ∷ []) ∷ []) ks js i e h

  -- A list of tokens is accepted exactly if it has a derivation whose leaves are all the tokens in order.
  pub accepted : (ts : List Token) → (grammar mode (kinds_of ts) ≡ none) ↔ Grammatical mode ts
  accepted ts = (
    λ e. (derives_kinds ts).1 ((of_kinds_none (kinds_of ts)).0 e),
    λ d. (of_kinds_none (kinds_of ts)).1 ((derives_kinds ts).0 d),
  )

  -- It is refused at token i exactly if the grammar fails there.
  pub refused : (ts : List Token) (i : ℕ) → (grammar mode (kinds_of ts) ≡ some i) ↔ GrammarFailsAt mode ts i
  refused ts i = (
    λ e. (fails_kinds ts i).1 ((of_kinds_some (kinds_of ts) i).0 e),
    λ f. (of_kinds_some (kinds_of ts) i).1 ((fails_kinds ts i).0 f),
  )

  -- No list of tokens has two derivations.
  pub one_derivation : (x y : Derivation mode) → leaves kind_of (production mode) x ≡ leaves kind_of (production mode) y → x ≡ y
  one_derivation = labelled_once kind_of (production mode) (hedberg kind_discrete) (root mode) (unique same same_eq same_refl (production mode) levels (passes mode) (root mode))

  -- A failure at a token does not depend on what follows it.
  pub fails_whatever_follows : (ts us : List Token) (i : ℕ) → GrammarFailsAt mode ts i → i < length ts → GrammarFailsAt mode (ts ++ us) i
  fails_whatever_follows ts us i f h =
      (refused (ts ++ us) i).0
      (ap (grammar mode) (map-append kind_of ts us)
      ∙ more_kinds (kinds_of ts) (kinds_of us) i ((refused ts i).1 f) (subst (λ n. i < n) (sym (length-map ts kind_of)) h))

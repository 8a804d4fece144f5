-- Behind an accepted document further text is accepted exactly if it meets the conditions under the document's prefixes and base.
use mathlib.Core.Path.{◌≡◌, refl, sym, ap, ap₂, ◌∙◌, subst}
use mathlib.Core.Logic.{◌↔◌}
use mathlib.Core.List.{List, [], ◌∷◌, ◌++◌, map}
use Prim.Native.Nat.{ℕ, suc}
use native.Mathlib.Nat.{zero-add}
use native.Mathlib.Omega.{arith}
use lib.Dec.{T}
use lib.ListN.{length}
use Rattle.text.specs.Text.{Text, cond}
use Rattle.token.specs.Kind.{Kind, at_prefix, at_base, PREFIX, BASE}
use Rattle.token.specs.Tokens.{Token, has_kind, Lexeme, token, unreadable, lexemes, tokens_of, readable}
use Rattle.grammar.specs.Productions.{Mode, Derivation, Grammatical}
use Rattle.grammar.proofs.Grammar.{kinds_of, accepted as accepted_iff, one_derivation}
use Rattle.grammar.proofs.Modes.{grammar}
use Rattle.environment.specs.Environment.{Environment}
use Rattle.dataset.specs.Constructors.{reference, prefix, local, resolved_reference, joined_name, iri_of, Awaited, nothing, prefix_name, new_base, namespace_of, InForce, awaiting, directive_token, after_token, in_force}
use Rattle.machine.specs.Refusals.{no_character, undeclared, no_base, too_long, too_deep, new_depth, escape_tests, force_tests}
use Rattle.machine.specs.Read.{Lent, mode_of, room_of, read}
use Rattle.machine.specs.Construction.{tables}
use Rattle.machine.specs.Demand.{document_tokens, depth_after, Fair, Fits, Meets}
use Rattle.machine.proofs.Firsts.{Passes}
use Rattle.machine.proofs.Demands.{Met, after_append, depth_append, fair_head, fair_tail, fair_none, fair_more, zero_meets, accepted_iff_meets}
use Rattle.machine.proofs.Joined.{joined_derives, fair_parts, fair_joined}
use Rattle.readback.proofs.Texts.{Utf8, utf8_append, utf8_cons, utf8_cut}
use Rattle.appended.specs.Appended.{line_feed, with_text_added}
use Rattle.appended.specs.Parts.{moved_token, moved, MeetsBehind}
use Rattle.appended.proofs.Cutting.{both_cut}

-- ---- The place of a token matters neither to the grammar nor to what tokens have to meet by themselves

moved_none : (ts : List Token) → map (moved_token 0) ts ≡ ts
moved_none [] = refl
moved_none (t ∷ ts) = ap₂ (λ (n : ℕ) (l : List Token). record { kind = t.kind; start = n; text = t.text } ∷ l) (zero-add t.start) (moved_none ts)

moved_kinds : (n : ℕ) (ts : List Token) → kinds_of (map (moved_token n) ts) ≡ kinds_of ts
moved_kinds n [] = refl
moved_kinds n (t ∷ ts) = ap (λ (l : List Kind). t.kind ∷ l) (moved_kinds n ts)

moved_derives : (mode : Mode) (n : ℕ) (ts : List Token) → Grammatical mode (map (moved_token n) ts) ↔ Grammatical mode ts
moved_derives mode n ts =
    let us = map (moved_token n) ts in
    let e : grammar mode (kinds_of us) ≡ grammar mode (kinds_of ts) = ap (grammar mode) (moved_kinds n ts) in (
      λ d. (accepted_iff mode ts).0 (sym e ∙ (accepted_iff mode us).1 d),
      λ d. (accepted_iff mode us).0 (e ∙ (accepted_iff mode ts).1 d),
    )

directive_moved : (n : ℕ) (a : Awaited) (e : Environment) (t : Token) → directive_token a e (moved_token n t) ≡ directive_token a e t
unfolding reference prefix local resolved_reference joined_name iri_of
directive_moved n nothing e t = refl
directive_moved n prefix_name e t = refl
directive_moved n new_base e t = refl
directive_moved n (namespace_of p) e t = refl

after_moved : (n : ℕ) (f : InForce) (t : Token) → after_token f (moved_token n t) ≡ after_token f t
after_moved n f t =
    ap (λ (g : InForce). cond (has_kind (at_prefix ∷ PREFIX ∷ []) t) (awaiting prefix_name f.environment) (cond (has_kind (at_base ∷ BASE ∷ []) t) (awaiting new_base f.environment) g))
    (directive_moved n f.awaited f.environment t)

module _ (base : Text) (j k : ℕ) where
  -- The same is in force, and open, after xs and after ys.
  record Alike (xs ys : List Token) : Type 0 where
    force : in_force base xs ≡ in_force base ys
    depth : depth_after xs ≡ depth_after ys

  met_moved : (xs ys : List Token) (t : Token) → Alike xs ys → Met base xs (moved_token j t) → Met base ys (moved_token k t)
  unfolding no_character undeclared no_base too_long too_deep reference prefix local joined_name
  met_moved xs ys t e m =
      subst (λ (f : InForce). Passes (escape_tests t ++ force_tests f (depth_after ys) t)) e.force
      (subst (λ (d : ℕ). Passes (escape_tests t ++ force_tests (in_force base xs) d t)) e.depth m)

  alike_next : (xs ys : List Token) (t : Token) → Alike xs ys → Alike (xs ++ moved_token j t ∷ []) (ys ++ moved_token k t ∷ [])
  unfolding in_force new_depth
  alike_next xs ys t e =
      record {
        force =
            after_append _ xs (moved_token j t) ∙ after_moved j (in_force base xs) t ∙ ap (λ (f : InForce). after_token f t) e.force
            ∙ sym (after_append _ ys (moved_token k t) ∙ after_moved k (in_force base ys) t);
        depth = depth_append 0 xs (moved_token j t) ∙ ap (λ (d : ℕ). new_depth d t) e.depth ∙ sym (depth_append 0 ys (moved_token k t));
      }

  fair_moved : (xs ys ts : List Token) → Alike xs ys → Fair base xs (map (moved_token j) ts) → Fair base ys (map (moved_token k) ts)
  fair_moved xs ys [] e f = fair_none base ys
  fair_moved xs ys (t ∷ ts) e f =
      fair_more (met_moved xs ys t e (fair_head f)) (fair_moved (xs ++ moved_token j t ∷ []) (ys ++ moved_token k t ∷ []) ts (alike_next xs ys t e) (fair_tail f))

module _ (base : Text) (xs ts : List Token) (n : ℕ) where
  fair_behind : Fair base xs (map (moved_token n) ts) ↔ Fair base xs ts
  fair_behind = (
    λ f. subst (Fair base xs) (moved_none ts) (fair_moved base n 0 xs xs ts (record { force = refl; depth = refl }) f),
    λ f. fair_moved base 0 n xs xs ts (record { force = refl; depth = refl }) (subst (Fair base xs) (sym (moved_none ts)) f),
  )

-- ---- The tokens of both

tokens_both : (ls ms : List Lexeme) → T (readable ls) → tokens_of (ls ++ ms) ≡ tokens_of ls ++ tokens_of ms
unfolding tokens_of readable
tokens_both [] ms r = refl
tokens_both (token t ∷ ls) ms r = ap (λ (l : List Token). t ∷ l) (tokens_both ls ms r)
tokens_both (unreadable p ∷ ls) ms r = absurd r

tokens_moved : (n : ℕ) (ls : List Lexeme) → tokens_of (map (moved n) ls) ≡ map (moved_token n) (tokens_of ls)
unfolding tokens_of
tokens_moved n [] = refl
tokens_moved n (token t ∷ ls) = ap (λ (l : List Token). moved_token n t ∷ l) (tokens_moved n ls)
tokens_moved n (unreadable p ∷ ls) = refl

readable_both : (n : ℕ) (ls ms : List Lexeme) → T (readable ls) → readable (ls ++ map (moved n) ms) ≡ readable ms
unfolding readable
readable_both n [] [] r = refl
readable_both n [] (token t ∷ ms) r = readable_both n [] ms r
readable_both n [] (unreadable p ∷ ms) r = refl
readable_both n (token t ∷ ls) ms r = readable_both n ls ms r
readable_both n (unreadable p ∷ ls) ms r = absurd r

-- The tokens of the further text where they stand in both.
abbrev pub added : Text → Text → List Token
added doc more = map (moved_token (suc (length doc))) (document_tokens more)

pub more_utf8 : (doc more : Text) → Utf8 (with_text_added doc more) → Utf8 more
more_utf8 doc more v = (utf8_cut doc more line_feed (omega arith) v).1

module _ (doc more : Text) (mode : ℕ) (base : Text) (lent : Lent) (x : Meets doc mode base lent) where
  abbrev whole : Text
  whole = with_text_added doc more

  pub both_tokens : Utf8 more → document_tokens whole ≡ document_tokens doc ++ added doc more
  both_tokens v =
      ap tokens_of (both_cut doc more x.utf8 v x.cuts) ∙ tokens_both (lexemes doc) (map (moved (suc (length doc))) (lexemes more)) x.cuts
      ∙ ap (λ (l : List Token). document_tokens doc ++ l) (tokens_moved (suc (length doc)) (lexemes more))

  both_readable : Utf8 more → readable (lexemes whole) ≡ readable (lexemes more)
  both_readable v = ap readable (both_cut doc more x.utf8 v x.cuts) ∙ readable_both (suc (length doc)) (lexemes doc) (lexemes more) x.cuts

  abbrev m : Mode
  m = mode_of mode

  module _ (lent' : Lent) where
    parts_meet : Meets whole mode base lent' → MeetsBehind doc more mode base lent'
    parts_meet y =
        let v = more_utf8 doc more y.utf8 in
        let e = both_tokens v in
        record {
          usable = y.usable;
          utf8 = v;
          cuts = subst T (both_readable v) y.cuts;
          derivation = (moved_derives m (suc (length doc)) (document_tokens more)).0 ((joined_derives m (document_tokens doc) (added doc more) x.derivation).0 (subst (Grammatical m) e y.derivation));
          fair = (fair_behind base (document_tokens doc) (document_tokens more) (suc (length doc))).0 (fair_parts base [] (document_tokens doc) (added doc more) (subst (Fair base []) e y.fair)).1;
          room =
              λ d. subst (λ (z : Derivation m). Fits (room_of lent') (tables m z base)) (one_derivation m y.derivation.0 d.0 (y.derivation.1 ∙ sym d.1)) y.room;
        }

    parts_make : MeetsBehind doc more mode base lent' → Meets whole mode base lent'
    parts_make z =
        let e = both_tokens z.utf8 in
        let d : Grammatical m (document_tokens whole) =
        subst (Grammatical m) (sym e) ((joined_derives m (document_tokens doc) (added doc more) x.derivation).1 ((moved_derives m (suc (length doc)) (document_tokens more)).1 z.derivation)) in
        record {
          usable = z.usable;
          utf8 = utf8_append doc (line_feed ∷ more) x.utf8 (utf8_cons line_feed more (omega arith) z.utf8);
          cuts = subst T (sym (both_readable z.utf8)) z.cuts;
          derivation = d;
          fair =
              subst (Fair base []) (sym e)
              (fair_joined base [] (document_tokens doc) (added doc more) x.fair ((fair_behind base (document_tokens doc) (document_tokens more) (suc (length doc))).1 z.fair));
          room = z.room d;
        }

-- Whether both are accepted can be told from the parts, where the second is read with the first's prefixes and base.
pub told_from_parts : (doc more : Text) (mode : ℕ) (base : Text) (lent lent' : Lent) → (read doc mode base lent).number ≡ 0
    → ((read (with_text_added doc more) mode base lent').number ≡ 0) ↔ MeetsBehind doc more mode base lent'
told_from_parts doc more mode base lent lent' e =
    let x = zero_meets doc mode base lent e in
    let (f, g) = accepted_iff_meets (with_text_added doc more) mode base lent' in
    (λ a. parts_meet doc more mode base lent x lent' (f a), λ z. g (parts_make doc more mode base lent x lent' z))

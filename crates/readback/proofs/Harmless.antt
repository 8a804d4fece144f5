-- Printed tokens: no refusal meets them, and they change nothing that is in force.
use mathlib.Core.Path.{◌≡◌, refl, ap, ◌∙◌}
use mathlib.Core.Bool.{Bool, false}
use mathlib.Core.List.{List, [], ◌∷◌, ◌++◌}
use mathlib.Core.Option.{none}
use Prim.Native.Nat.{ℕ}
use borrow.Author.Tests.{le-ltb}
use lib.ListN.{length}
use Rattle.text.specs.Text.{Text}
use Rattle.limits.specs.Limits.{iri_limit}
use Rattle.utf8.specs.Utf8.{first_bad}
use Rattle.token.specs.Kind.{Kind, among, names, strings, at_prefix, at_base, PREFIX, BASE, open_bracket, open_paren, IRIREF, STRING_LITERAL_QUOTE}
use Rattle.token.specs.Tokens.{Token}
use Rattle.escape.specs.Escape.{bad_escape}
use Rattle.iri.specs.Iri.{has_scheme}
use Rattle.environment.specs.Environment.{start_environment}
use Rattle.dataset.specs.Constructors.{InForce, nothing, awaiting, after_token, after_tokens, in_force}
use Rattle.machine.specs.Refusals.{no_character, undeclared, no_base, too_long, one_prefix_more, too_deep}
use Rattle.machine.specs.Demand.{depth_after, Nowhere, Fair}
use Rattle.table.specs.Usable.{for_long_form}
use Rattle.readback.proofs.Undone.{iri_rule, string_rule, good_escaped}
use Rattle.readback.proofs.Forms.{iri_points, string_points, GoodIri, iri_bytes, string_bytes}
use Rattle.readback.proofs.Values.{token_of, iri_reference}

-- What is in force without directives, where no base is lent.
abbrev pub start : InForce
start = awaiting nothing (start_environment [])

-- ---- Tokens that no refusal meets

pub record Harmless (t : Token) : Type 0 where
  pub character : no_character t ≡ false
  pub declared : undeclared start t ≡ false
  pub based : no_base start t ≡ false
  pub short : too_long start t ≡ false
  pub shallow : (d : ℕ) → too_deep d t ≡ false
  pub plain : after_token start t ≡ start

pub harmless_iri : (at : ℕ) (s : Text) → GoodIri for_long_form s → Harmless (token_of IRIREF at (iri_points s))
unfolding no_character undeclared no_base too_long too_deep
harmless_iri at s g = record {
  character = ap bad_escape (iri_bytes s g.utf8) ∙ good_escaped iri_rule 60 62 s refl refl;
  declared = refl;
  based = let e = ap has_scheme (iri_reference at s g.utf8) ∙ g.taken in simp e;
  short = let e = iri_reference at s g.utf8 in let l = le-ltb iri_limit (length s) g.short in simp (e, l, g.taken);
  shallow = λ d. refl;
  plain = refl;
}

pub harmless_string : (at : ℕ) (s : Text) → first_bad s ≡ none → Harmless (token_of STRING_LITERAL_QUOTE at (string_points s))
unfolding no_character undeclared no_base too_long too_deep
harmless_string at s v = record {
  character = ap bad_escape (string_bytes s v) ∙ good_escaped string_rule 34 34 s refl refl;
  declared = refl;
  based = refl;
  short = refl;
  shallow = λ d. refl;
  plain = refl;
}

-- Does a refusal look at the text of a token of the kind, or does the token change what is in force?
abbrev pub concerns : Kind → List Bool
concerns k =
    among (IRIREF ∷ strings) k ∷ among names k ∷ among (IRIREF ∷ []) k ∷ among (open_bracket ∷ open_paren ∷ []) k
    ∷ among (at_prefix ∷ PREFIX ∷ []) k ∷ among (at_base ∷ BASE ∷ []) k ∷ []

abbrev pub Mild : Kind → Type 0
Mild k = concerns k ≡ false ∷ false ∷ false ∷ false ∷ false ∷ false ∷ []

pub harmless_mild : (k : Kind) (at : ℕ) (cs : List ℕ) → Mild k → Harmless (token_of k at cs)
unfolding no_character undeclared no_base too_long too_deep
harmless_mild k at cs e =
    let a : among (IRIREF ∷ strings) k ≡ false = cc in
    let b : among names k ≡ false = cc in
    let c : among (IRIREF ∷ []) k ≡ false = cc in
    let d : among (open_bracket ∷ open_paren ∷ []) k ≡ false = cc in
    let f : among (at_prefix ∷ PREFIX ∷ []) k ≡ false = cc in
    let g : among (at_base ∷ BASE ∷ []) k ≡ false = cc in
    record { character = simp a; declared = simp b; based = simp c; short = simp (c, b); shallow = λ n. simp d; plain = simp (f, g) }

-- ---- Lists of them

abbrev pub AllHarmless : List Token → Type 0
AllHarmless [] = Unit {0}
AllHarmless (t ∷ ts) = Harmless t × AllHarmless ts

after_last : (ts : List Token) (f : InForce) (t : Token) → after_tokens f (ts ++ t ∷ []) ≡ after_token (after_tokens f ts) t
unfolding after_tokens
after_last [] f t = refl
after_last (u ∷ ts) f t = after_last ts (after_token f u) t

in_force_last : (ts : List Token) (t : Token) → in_force [] ts ≡ start → Harmless t → in_force [] (ts ++ t ∷ []) ≡ start
unfolding in_force
in_force_last ts t e h = after_last ts start t ∙ ap (λ (f : InForce). after_token f t) e ∙ h.plain

nowhere : (refuses : List Token → Token → Bool) → ((xs : List Token) (t : Token) → in_force [] xs ≡ start → Harmless t → refuses xs t ≡ false)
    → (ts before : List Token) → in_force [] before ≡ start → AllHarmless ts → Nowhere refuses before ts
nowhere refuses f [] before e h = tt
nowhere refuses f (t ∷ ts) before e h = (f before t e h.0, nowhere refuses f ts (before ++ t ∷ []) (in_force_last before t e h.0) h.1)

pub harmless_fair : (ts : List Token) → AllHarmless ts → Fair [] [] ts
unfolding in_force after_tokens one_prefix_more
harmless_fair ts h =
    record {
      characters = nowhere (λ xs t. no_character t) (λ xs t e u. u.character) ts [] refl h;
      declared = nowhere (λ xs t. undeclared (in_force [] xs) t) (λ xs t e u. ap (λ (f : InForce). undeclared f t) e ∙ u.declared) ts [] refl h;
      based = nowhere (λ xs t. no_base (in_force [] xs) t) (λ xs t e u. ap (λ (f : InForce). no_base f t) e ∙ u.based) ts [] refl h;
      lengths = nowhere (λ xs t. too_long (in_force [] xs) t) (λ xs t e u. ap (λ (f : InForce). too_long f t) e ∙ u.short) ts [] refl h;
      prefixes = nowhere (λ xs t. one_prefix_more (in_force [] xs)) (λ xs t e u. ap (λ (f : InForce). one_prefix_more f) e) ts [] refl h;
      depth = nowhere (λ xs t. too_deep (depth_after xs) t) (λ xs t e u. u.shallow (depth_after xs)) ts [] refl h;
    }

-- The clauses of cutting between tokens, by what stands there.
use mathlib.Core.Path.{◌≡◌, refl, subst, sym, ap, ap₂, ◌∙◌}
use mathlib.Core.Logic.{⊎_elim}
use mathlib.Core.Bool.{Bool, true, false, not, ◌||◌}
use mathlib.Core.List.{List, [], ◌∷◌, ◌++◌}
use Prim.Native.Nat.{ℕ, zero, suc, ◌+◌, ◌-◌, ◌≤◌, ◌<◌}
use native.Mathlib.Omega.{arith}
use borrow.Author.Tests.{lt-ltb, ne_eqb}
use lib.Dec.{T, eqb}
use lib.ListN.{take, drop}
use Rattle.text.specs.Text.{Text, cond, is}
use Rattle.utf8.specs.Utf8.{width}
use Rattle.utf8.proofs.Tests.{split}
use Rattle.utf8.proofs.Encoding.{width_pos}
use Rattle.token.specs.Kind.{kind_of_code}
use Rattle.token.specs.Regular.{nothing, hit, size}
use Rattle.token.specs.Tokens.{token, unreadable, Cutting, between, comment, Cuts, white_space, trig_cuts, is_passed, in_comment, passed, behind, lexemes_from}

-- A code point from 128 on is no blank; a blank is one byte.
pub high_blank : (c : ℕ) → 128 ≤ c → (white_space c || is "#" c) ≡ false
high_blank c h = simp (ne_eqb c 32 (omega arith), ne_eqb c 9 (omega arith), ne_eqb c 13 (omega arith), ne_eqb c 10 (omega arith), ne_eqb c 35 (omega arith))

pub blank_width : (c : ℕ) → (white_space c || is "#" c) ≡ true → width c ≡ 1
blank_width c e = ⊎_elim (λ h. simp (lt-ltb c 0x80 h)) (λ h. absurd (subst T (sym e ∙ high_blank c h) tt)) (split c 0x80)

-- A line end is white space, so that a comment is passed with the line end behind it.
comment_passed : (c : ℕ) → is_passed trig_cuts comment c ≡ true
comment_passed c = go (eqb c 13) (eqb c 10) (eqb c 32) (eqb c 9)
  where
    go : (r n b t : Bool) → (not (r || (n || false)) || (b || (t || (r || (n || false))))) ≡ true
    go false false b t = refl
    go false true true t = refl
    go false true false true = refl
    go false true false false = refl
    go true n true t = refl
    go true n false true = refl
    go true n false false = refl

module _ (cuts : Cuts) (doc : Text) (state : Cutting) (at c : ℕ) (cs : List ℕ) where
  pub cut_passed : is_passed cuts state c ≡ true → lexemes_from cuts doc state at (c ∷ cs) ≡ lexemes_from cuts doc (behind state c) (at + width c) cs
  unfolding lexemes_from
  cut_passed e = rw (e, lexemes_from)

  module _ (e : is_passed cuts state c ≡ false) where
    pub cut_nothing : cuts.token_at (c ∷ cs) ≡ nothing → lexemes_from cuts doc state at (c ∷ cs) ≡ unreadable at ∷ []
    unfolding lexemes_from
    cut_nothing f = rw (e, f, lexemes_from)

    pub cut_hit : (k n : ℕ) → cuts.token_at (c ∷ cs) ≡ hit k n
        → lexemes_from cuts doc state at (c ∷ cs)
        ≡ token (record { kind = kind_of_code k; start = at; text = take n (drop at doc) }) ∷ lexemes_from cuts doc (passed (n - width c)) (at + width c) cs
    unfolding lexemes_from
    cut_hit k n f = rw (e, f, lexemes_from)

-- The bytes of a token are passed.
pub lexemes_inside : (cuts : Cuts) (doc : Text) (front back : List ℕ) (at m : ℕ) → m ≡ size width front
    → lexemes_from cuts doc (passed m) at (front ++ back) ≡ lexemes_from cuts doc between (at + m) back
unfolding lexemes_from
lexemes_inside cuts doc [] back at m e = ap₂ (λ (p : Cutting) (n : ℕ). lexemes_from cuts doc p n back) (ap passed e) (let z : at ≡ at + m = omega arith in z)
lexemes_inside cuts doc (c ∷ front) back at m e = go m e (width_pos c) (λ j f. lexemes_inside cuts doc front back (at + width c) j f)
  where
    go : (m : ℕ) → m ≡ size width (c ∷ front) → 0 < width c
        → ((j : ℕ) → j ≡ size width front → lexemes_from cuts doc (passed j) (at + width c) (front ++ back) ≡ lexemes_from cuts doc between (at + width c + j) back)
        → lexemes_from cuts doc (passed m) at (c ∷ (front ++ back)) ≡ lexemes_from cuts doc between (at + m) back
    go zero e h ih = absurd (omega arith)
    go (suc m) e h ih =
        let z : at + width c + (suc m - width c) ≡ at + suc m = omega arith in
        ih (suc m - width c) (omega arith) ∙ ap (λ (n : ℕ). lexemes_from cuts doc between n back) z

-- TriG: a blank, and a code point of a comment or the line end behind it.
module _ (doc : Text) (at c : ℕ) (cs : List ℕ) where
  pub cut_blank : (white_space c || is "#" c) ≡ true → lexemes_from trig_cuts doc between at (c ∷ cs) ≡ lexemes_from trig_cuts doc (cond (is "#" c) comment between) (at + 1) cs
  cut_blank e = cut_passed trig_cuts doc between at c cs e ∙ ap (λ (w : ℕ). lexemes_from trig_cuts doc (cond (is "#" c) comment between) (at + w) cs) (blank_width c e)

  pub cut_comment : lexemes_from trig_cuts doc comment at (c ∷ cs) ≡ lexemes_from trig_cuts doc (in_comment c) (at + width c) cs
  cut_comment = cut_passed trig_cuts doc comment at c cs (comment_passed c)

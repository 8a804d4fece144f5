-- `next_token` meets its contract.
use native.Mathlib.Omega.{arith}
use mathlib.Core.Path.{refl, sym, ap, subst, ◌∙◌}
use mathlib.Core.Logic.{inl, inr, ⊎_elim}
use mathlib.Core.List.{[], ◌∷◌}
use Prim.Native.Nat.{ℕ}
use Rattle.std.specs.Prelude.{Some}
use Rattle.automaton.specs.Run.{TokenAt}
use Rattle.automaton.specs.declared.Token.{Token}
use Rattle.token.specs.Regular.{in_ranges}
use Rattle.characters.proofs.Sets.{ranged_rest}
use Rattle.lexer_words.specs.Front.{mark}
use Rattle.lexer_words.proofs.Clearing.{next_known, next_nothing}
use Rattle.lexer.specs.Marks.{mark_code}
use Rattle.lexer.proofs.Beginning.{other_mark, no_mark, to_nothing, to_mark, to_signed, to_integer, to_dot, to_at, to_label, to_local}
use Rattle.lexer.proofs.next_token.Goals as goal
use Rattle.lexer.proofs.next_token.Goals.{in-Some, in-None+in-60+in_ok-token-in-60, in-None+in-34+in_ok-token-in-34, in-None+in-43+in_ok-token-in-43, in-None+in-46, in-None+in-64+in_ok-token-in-64, in-None+in-95+in_ok-token-in-95, in-None+in-58, in-None+in-94+in_ok-token-in-94, in-None+in-48-to-57}

pub returns-in_err-b : goal.returns-in_err-b
returns-in_err-b c = let l = c.in_err-b.ensures.item.3 in rw c.from_residual.ensures (next_nothing c.args.s.now c.args.clear (to_nothing c.args.s.now (omega (arith, l))))

pub iriref-requires : goal.iriref-requires
iriref-requires c = let l = c.in_ok-b.ensures.item.3 in (l.0, sym (l.1 0) ∙ c.in-60.is)

pub quoted-requires : goal.quoted-requires
quoted-requires c = let l = c.in_ok-b.ensures.item.3 in (l.0, sym (l.1 0), c.in-34.is)

pub signed-requires : goal.signed-requires
signed-requires c = let l = c.in_ok-b.ensures.item.3 in to_signed c.args.s.now l.0 (⊎_elim (λ x. inl (sym (l.1 0) ∙ x)) (λ x. inr (sym (l.1 0) ∙ x)) c.in-43.is)

pub dot-requires : goal.dot-requires
dot-requires c = let l = c.in_ok-b.ensures.item.3 in to_dot c.args.s.now l.0 (sym (l.1 0) ∙ c.in-46.is)

pub at_sign-requires : goal.at_sign-requires
at_sign-requires c = let l = c.in_ok-b.ensures.item.3 in to_at c.args.s.now l.0 (sym (l.1 0) ∙ c.in-64.is)

pub label-requires : goal.label-requires
label-requires c = let l = c.in_ok-b.ensures.item.3 in to_label c.args.s.now l.0 (sym (l.1 0) ∙ c.in-95.is)

pub local_part-requires : goal.local_part-requires
local_part-requires c = let l = c.in_ok-b.ensures.item.3 in to_local c.args.s.now l.0 (sym (l.1 0) ∙ c.in-58.is)

pub carets-requires : goal.carets-requires
carets-requires c = let l = c.in_ok-b.ensures.item.3 in (l.0, sym (l.1 0) ∙ c.in-94.is)

pub integer-requires : goal.integer-requires
integer-requires c = let l = c.in_ok-b.ensures.item.3 in to_integer c.args.s.now l.0 (omega (arith, l.1 0, c.in-48-to-57.if-this-lt48-own.false)) (omega (arith, l.1 0, c.in-48-to-57.if-this-lt58-own.true))

pub name-requires : goal.name-requires
name-requires c = let l = c.in_ok-b.ensures.item.3 in (l.0, ap (λ (b : ℕ). in_ranges b mark) (sym (l.1 0)) ∙ no_mark _ c.type_inv.b.fits (sym c.mark_kind.ensures ∙ c.in-None.is) (⊎_elim (λ x. ranged_rest other_mark _ ((94 ∷ []) ∷ (58 ∷ []) ∷ (95 ∷ []) ∷ (64 ∷ []) ∷ (46 ∷ []) ∷ (43 ∷ 45 ∷ []) ∷ (34 ∷ 39 ∷ []) ∷ (60 ∷ []) ∷ []) 0 48 tt _ c.in_default-1.rest (omega arith) x.if-this-lt48-1.true) (λ x. ranged_rest other_mark _ ((94 ∷ []) ∷ (58 ∷ []) ∷ (95 ∷ []) ∷ (64 ∷ []) ∷ (46 ∷ []) ∷ (43 ∷ 45 ∷ []) ∷ (34 ∷ 39 ∷ []) ∷ (60 ∷ []) ∷ []) 58 198 tt _ c.in_default-1.rest x.if-this-lt58-1.false c.type_inv.b.fits) c.in_default.branch-raw))

pub returns-in_default : goal.returns-in_default
returns-in_default c = c.name.ensures

pub returns-in_err-token-in-60 : goal.returns-in_err-token-in-60
returns-in_err-token-in-60 c = rw c.from_residual-in_err-token-in-60.ensures (next_nothing c.args.s.now c.args.clear (subst (TokenAt c.args.s.now) c.in_err-token-in-60.was c.iriref.ensures))

pub returns-in_err-token-in-34 : goal.returns-in_err-token-in-34
returns-in_err-token-in-34 c = rw c.from_residual-in_err-token-in-34.ensures (next_nothing c.args.s.now c.args.clear (subst (TokenAt c.args.s.now) c.in_err-token-in-34.was c.quoted.ensures))

pub returns-in_err-token-in-43 : goal.returns-in_err-token-in-43
returns-in_err-token-in-43 c = rw c.from_residual-in_err-token-in-43.ensures (next_nothing c.args.s.now c.args.clear (subst (TokenAt c.args.s.now) c.in_err-token-in-43.was c.signed.ensures))

pub returns-in_err-token-in-64 : goal.returns-in_err-token-in-64
returns-in_err-token-in-64 c = rw c.from_residual-in_err-token-in-64.ensures (next_nothing c.args.s.now c.args.clear (subst (TokenAt c.args.s.now) c.in_err-token-in-64.was c.at_sign.ensures))

pub returns-in_err-token-in-95 : goal.returns-in_err-token-in-95
returns-in_err-token-in-95 c = rw c.from_residual-in_err-token-in-95.ensures (next_nothing c.args.s.now c.args.clear (subst (TokenAt c.args.s.now) c.in_err-token-in-95.was c.label.ensures))

pub returns-in_err-token-in-94 : goal.returns-in_err-token-in-94
returns-in_err-token-in-94 c = rw c.from_residual-in_err-token-in-94.ensures (next_nothing c.args.s.now c.args.clear (subst (TokenAt c.args.s.now) c.in_err-token-in-94.was c.carets.ensures))

pub returns : goal.returns
returns c = rw c.saturating_sub.ensures (next_known c.args.s.now c.args.clear _ (elim c.match-mark_kind.branch [ in-Some w ↦ subst (λ (t : Token). TokenAt c.args.s.now (Some t)) (sym w.token-is) (let l = c.in_ok-b.ensures.item.3 in to_mark c.args.s.now l.0 _ refl (c.type_inv.s 0).fits _ (sym (ap mark_code (l.1 0)) ∙ sym c.mark_kind.ensures ∙ w.in-Some.is)) | in-None+in-60+in_ok-token-in-60 w ↦ subst (λ (t : Token). TokenAt c.args.s.now (Some t)) (sym w.token-is) (subst (TokenAt c.args.s.now) w.in_ok-token-in-60.was w.iriref.ensures) | in-None+in-34+in_ok-token-in-34 w ↦ subst (λ (t : Token). TokenAt c.args.s.now (Some t)) (sym w.token-is) (subst (TokenAt c.args.s.now) w.in_ok-token-in-34.was w.quoted.ensures) | in-None+in-43+in_ok-token-in-43 w ↦ subst (λ (t : Token). TokenAt c.args.s.now (Some t)) (sym w.token-is) (subst (TokenAt c.args.s.now) w.in_ok-token-in-43.was w.signed.ensures) | in-None+in-64+in_ok-token-in-64 w ↦ subst (λ (t : Token). TokenAt c.args.s.now (Some t)) (sym w.token-is) (subst (TokenAt c.args.s.now) w.in_ok-token-in-64.was w.at_sign.ensures) | in-None+in-95+in_ok-token-in-95 w ↦ subst (λ (t : Token). TokenAt c.args.s.now (Some t)) (sym w.token-is) (subst (TokenAt c.args.s.now) w.in_ok-token-in-95.was w.label.ensures) | in-None+in-94+in_ok-token-in-94 w ↦ subst (λ (t : Token). TokenAt c.args.s.now (Some t)) (sym w.token-is) (subst (TokenAt c.args.s.now) w.in_ok-token-in-94.was w.carets.ensures) | in-None+in-46 w ↦ subst (λ (t : Token). TokenAt c.args.s.now (Some t)) (sym w.token-is) w.dot.ensures | in-None+in-58 w ↦ subst (λ (t : Token). TokenAt c.args.s.now (Some t)) (sym w.token-is) w.local_part.ensures | in-None+in-48-to-57 w ↦ subst (λ (t : Token). TokenAt c.args.s.now (Some t)) (sym w.token-is) w.integer.ensures ]))

-- Dot segments go, and nothing comes in their place.
use Prim.Native.Nat.{ℕ, zero, suc, ◌+◌, ◌≤◌}
use mathlib.Core.Path.{sym, ap, subst}
use mathlib.Core.List.{[], ◌∷◌}
use native.Mathlib.Nat.{le_refl}
use native.Mathlib.Omega.{arith}
use lib.ListN.{length, take, drop, length-append, length-drop, take-append-drop}
use Rattle.text.specs.Text.{Text, ascii, is, empty, begins, some_byte}
use Rattle.text.proofs.Compare.{by}
use Rattle.iri.specs.Iri.{scheme, after_scheme}
use Rattle.iri.specs.Dots.{Buffers, buffers, without_last_segment, turns, remove_dot_segments}
use Rattle.iri.specs.Resolve.{Parts, parts, merge, defined, transform, recompose, resolve_by, resolve, resolve_with_dots}
use Rattle.iri.specs.Code.{rule, segment}
use Rattle.iri.specs.declared.Rule.{Rule}
use Rattle.iri.specs.declared.Rule.TheVariants.{UpSlash, HereSlash, SlashHere, SlashHereEnd, SlashUp, SlashUpEnd, Dots, Segment}
use Rattle.iri.proofs.Turns.{in_after, out_after, turn_rule, Found, found}

without_short : (o : Text) → length (without_last_segment o) ≤ length o
unfolding without_last_segment
without_short [] = omega arith
without_short (c ∷ s) = by (some_byte (is "/") s) (λ e. rw e (omega (arith, without_short s))) (λ e. rw e (omega arith))

rule_short : (r : Rule) (i o : Text) → Found i r → length (out_after r i o) + length (in_after r i) ≤ length o + length i
unfolding in_after out_after
rule_short UpSlash i o f = omega (arith, length-drop 3 i)
rule_short HereSlash i o f = omega (arith, length-drop 2 i)
rule_short SlashHere i o f = omega (arith, length-drop 2 i)
rule_short SlashHereEnd i o f = omega (arith, ap length f)
rule_short SlashUp i o f = omega (arith, length-drop 3 i, without_short o)
rule_short SlashUpEnd i o f = omega (arith, ap length f, without_short o)
rule_short Dots i o f = omega arith
rule_short Segment i o f =
    omega (arith, length-append o (take (segment i) i), length-append (take (segment i) i) (drop (segment i) i), ap length (take-append-drop (segment i) i))

turns_short : (n : ℕ) (o i : Text) → length (turns n (buffers o i)).out ≤ length o + length i
unfolding turns
turns_short zero o i = omega arith
turns_short (suc n) o i =
    subst (λ (b : Buffers). length (turns n b).out ≤ length o + length i) (sym (turn_rule o i))
    (omega (arith, turns_short n (out_after (rule i) i o) (in_after (rule i) i), rule_short (rule i) i o (found i)))

dots_short : (path : Text) → length (remove_dot_segments path) ≤ length path
unfolding remove_dot_segments
dots_short path = omega (arith, turns_short (length path) [] path)

parts_of : Text → Text → Text → Text → Parts
parts_of a p q f = record { authority = a; path = p; query = q; fragment = f }

path_short : (sch a q f p p' : Text) → length p ≤ length p' → length (recompose sch (parts_of a p q f)) ≤ length (recompose sch (parts_of a p' q f))
unfolding recompose parts_of
path_short sch a q f p p' h = simp length-append (omega arith)

transform_short : (sch : Text) (base r : Parts) → length (recompose sch (transform remove_dot_segments base r)) ≤ length (recompose sch (transform (λ path. path) base r))
unfolding transform parts_of
transform_short sch base r =
    by (defined r.authority) (λ e. rw e (path_short sch r.authority r.query r.fragment (remove_dot_segments r.path) r.path (dots_short r.path)))
    (λ e.
    by (empty r.path) (λ f. rw (e, f) (le_refl _))
    (λ f.
    by (begins (ascii "/") r.path) (λ g. rw (e, f, g) (path_short sch base.authority r.query r.fragment (remove_dot_segments r.path) r.path (dots_short r.path)))
    (λ g. rw (e, f, g) (path_short sch base.authority r.query r.fragment (remove_dot_segments (merge base r.path)) (merge base r.path) (dots_short (merge base r.path))))))

-- A reference resolved is no longer than before its dot segments go.
pub resolve_short : (base r : Text) → length (resolve base r) ≤ length (resolve_with_dots base r)
unfolding resolve resolve_with_dots resolve_by
resolve_short base r = transform_short (scheme base) (parts (after_scheme base)) (parts r)

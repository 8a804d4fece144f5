-- The long form of usable tables, if it is no larger than a document may be, is read back.
use mathlib.Core.Path.{◌≡◌, subst, sym, ap, ◌∙◌}
use mathlib.Core.List.{[]}
use mathlib.Core.Bool.{true}
use mathlib.Core.Option.{none}
use Prim.Native.Nat.{ℕ, ◌≤◌}
use native.Mathlib.Omega.{arith}
use borrow.Author.Tests.{le-ltb}
use lib.Dec.{T}
use lib.ListN.{length}
use Rattle.text.specs.Text.{Text}
use Rattle.limits.specs.Limits.{document_limit, work_size}
use Rattle.utf8.specs.Utf8.{first_bad}
use Rattle.utf8.proofs.Decoding.{valid_encodes}
use Rattle.token.specs.Tokens.{lexemes, tokens_of, readable}
use Rattle.grammar.specs.Ebnf.{leaves}
use Rattle.grammar.specs.Productions.{trig, production, kind_of}
use Rattle.table.specs.Layout.{Slices}
use Rattle.table.specs.Usable.{for_long_form, usable, quads_held}
use Rattle.table.specs.LongForm.{long_form, write}
use Rattle.table.proofs.Written.{Whole, zero_whole}
use Rattle.machine.specs.Step.{first_refusal}
use Rattle.machine.specs.Read.{Lent, bad_base, first_checks}
use Rattle.machine.specs.Construction.{tables}
use Rattle.machine.specs.Demand.{document_tokens, Fair}
use Rattle.machine.proofs.Constructed.{tables_hold}
use Rattle.machine.proofs.Demands.{meets_answer}
use Rattle.readback.specs.ReadBack.{long_form_mode, ReadsBack, ReadAgain}
use Rattle.readback.proofs.Cutting.{points, bytes, tokens_at, cut_whole}
use Rattle.readback.proofs.Forms.{GoodQuads, parts, parts_bytes}
use Rattle.readback.proofs.Harmless.{harmless_fair}
use Rattle.readback.proofs.Sound.{Sound, sound_cut, sound_scalars, sound_harmless, parts_sound}
use Rattle.readback.proofs.Lines.{Derived, derived}
use Rattle.readback.proofs.Tables.{long_form_text, held_good}

-- Checks 1 to 4 pass.
checked : (doc : Text) (lent : Lent) → length doc ≤ document_limit → work_size ≤ lent.work → first_refusal (first_checks doc long_form_mode [] lent) ≡ none
unfolding bad_base
checked doc lent l w = simp (le-ltb document_limit (length doc) l, le-ltb lent.work work_size w)

pub read_back : (s : Slices) → usable for_long_form s ≡ true → length (long_form s) ≤ document_limit → ReadsBack s
unfolding bytes
read_back s u l = record {
  derivation = d.derivation;
  tokens = tokens;
  same = d.same;
  accepted = λ lent w room.
      record {
        usable = checked (long_form s) lent l w;
        utf8 = ap first_bad text ∙ valid_encodes (points (parts (quads_held s))) (sound_scalars (parts (quads_held s)) sound);
        cuts = subst T (sym (ap (λ (x : Text). readable (lexemes x)) text ∙ cut.1)) tt;
        derivation = (d.derivation, tokens);
        fair = subst (Fair [] []) (sym cut_tokens) (harmless_fair (tokens_at 0 (parts (quads_held s))) (sound_harmless (parts (quads_held s)) 0 sound));
        room = room;
      };
}
  where
    good : GoodQuads for_long_form (quads_held s)
    good = held_good for_long_form s u

    d : Derived (quads_held s)
    d = derived (quads_held s) good

    sound : Sound (parts (quads_held s))
    sound = parts_sound (quads_held s) good

    text : long_form s ≡ bytes (parts (quads_held s))
    text = long_form_text s ∙ sym (parts_bytes (quads_held s) good)

    cut : (tokens_of (lexemes (bytes (parts (quads_held s)))) ≡ tokens_at 0 (parts (quads_held s))) × (readable (lexemes (bytes (parts (quads_held s)))) ≡ true)
    cut = cut_whole (parts (quads_held s)) (sound_cut (parts (quads_held s)) sound) (sound_scalars (parts (quads_held s)) sound)

    cut_tokens : document_tokens (long_form s) ≡ tokens_at 0 (parts (quads_held s))
    cut_tokens = ap (λ (x : Text). document_tokens x) text ∙ cut.0

    tokens : leaves kind_of (production trig) d.derivation ≡ document_tokens (long_form s)
    tokens = d.tokens ∙ sym cut_tokens

pub read_again : (s : Slices) → usable for_long_form s ≡ true → length (long_form s) ≤ document_limit → ReadAgain s
unfolding read_back
read_again s u l =
    let b = read_back s u l in
    record {
      memory = tables trig b.derivation [];
      same = tables_hold trig b.derivation [] ∙ b.same;
      answer = λ lent w room. meets_answer (long_form s) long_form_mode [] lent (b.accepted lent w room);
    }

-- ---- What the writer wrote

-- Where the writer answers 0, the tables are usable and what it wrote is their long form.
pub written_form : (s : Slices) (out : Text) → (write s out).number ≡ 0 → Whole (usable for_long_form s) (long_form s) (write s out)
unfolding write
written_form s out e = zero_whole 17 (usable for_long_form s) (long_form s) out (λ z. omega arith) e

-- What the writer wrote, if it is no larger than a document may be, is read again.
pub read_written : (s : Slices) (out : Text) → (write s out).number ≡ 0 → (write s out).position ≤ document_limit → ReadAgain s
read_written s out e l = let w = written_form s out e in read_again s w.usable (subst (λ (n : ℕ). n ≤ document_limit) w.size l)

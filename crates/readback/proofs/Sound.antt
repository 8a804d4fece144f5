-- The parts of statements: their tokens are cut as they stand, and none is refused.
use mathlib.Core.Path.{◌≡◌, refl}
use mathlib.Core.Logic.{◌⊎◌, inl, inr}
use mathlib.Core.Bool.{true, false}
use mathlib.Core.List.{List, [], ◌∷◌, ◌++◌}
use mathlib.Core.Option.{Option, none, some}
use Prim.Native.Nat.{ℕ, ◌+◌}
use native.Mathlib.Omega.{arith}
use lib.Dec.{T, eqb}
use lib.ListN.{length}
use Rattle.text.specs.Text.{Text, is, same_text}
use Rattle.utf8.specs.Utf8.{width, encodes, decode, first_bad}
use Rattle.utf8.specs.Scalar.{Scalar, Scalars}
use Rattle.utf8.proofs.Decoding.{valid_encoded}
use Rattle.utf8.proofs.Tests.{by}
use Rattle.token.specs.Kind.{Kind, kind_code, IRIREF, STRING_LITERAL_QUOTE, BLANK_NODE_LABEL, LANGTAG, carets, dot, open_brace, close_brace}
use Rattle.token.specs.Regular.{hit, size}
use Rattle.token.specs.Terminals.{token_at}
use Rattle.token.specs.Tokens.{white_space}
use Rattle.dataset.specs.Terms.{Term, iri, blank, literal, tagged, Triple, Quad, xsd_string}
use Rattle.table.specs.LongForm.{escaped}
use Rattle.table.specs.Usable.{for_long_form}
use Rattle.readback.proofs.Cutting.{Part, printed, gap, points, tokens_at, begins_token, Cut}
use Rattle.readback.proofs.Undone.{lows, Rule, iri_rule, string_rule, lows_scalars, scalars_append, escaped_scalars}
use Rattle.readback.proofs.Printed.{marked, label_points, label_lows, label_token, iri_token, string_token, closed_token, dot_token}
use Rattle.readback.proofs.Tags.{tag_token}
use Rattle.readback.proofs.Forms.{iri_points, string_points, number_of, GoodIri, Good, GoodGraph, GoodQuads, predicate_good, resource_good, iri_part, string_part, type_parts, term_parts, triple_parts, line_parts, parts}
use Rattle.readback.proofs.Values.{token_of}
use Rattle.readback.proofs.Harmless.{Harmless, harmless_iri, harmless_string, Mild, harmless_mild, AllHarmless}

-- ---- Sound parts

pub record SoundToken (k : Kind) (cs ds : List ℕ) : Type 0 where
  pub begins : begins_token cs ≡ true
  pub front : token_at (cs ++ ds) ≡ hit (kind_code k) (size width cs)
  pub scalars : Scalars cs
  pub harmless : (at : ℕ) → Harmless (token_of k at cs)

pub record SoundGap (c : ℕ) : Type 0 where
  pub white : white_space c ≡ true
  pub no_comment : is "#" c ≡ false
  pub one : width c ≡ 1
  pub scalar : Scalar c

abbrev pub Sound : List Part → Type 0
Sound [] = Unit {0}
Sound (printed k cs ∷ ps) = SoundToken k cs (points ps) × Sound ps
Sound (gap c ∷ ps) = SoundGap c × Sound ps

pub sound_cut : (ps : List Part) → Sound ps → Cut ps
sound_cut [] s = tt
sound_cut (printed k cs ∷ ps) s = (s.0.begins, s.0.front, sound_cut ps s.1)
sound_cut (gap c ∷ ps) s = (s.0.white, s.0.no_comment, s.0.one, sound_cut ps s.1)

pub sound_scalars : (ps : List Part) → Sound ps → Scalars (points ps)
unfolding points
sound_scalars [] s = tt
sound_scalars (printed k cs ∷ ps) s = scalars_append cs (points ps) s.0.scalars (sound_scalars ps s.1)
sound_scalars (gap c ∷ ps) s = (s.0.scalar, sound_scalars ps s.1)

pub sound_harmless : (ps : List Part) (at : ℕ) → Sound ps → AllHarmless (tokens_at at ps)
unfolding tokens_at
sound_harmless [] at s = tt
sound_harmless (printed k cs ∷ ps) at s = (s.0.harmless at, sound_harmless ps (at + length (encodes cs)) s.1)
sound_harmless (gap c ∷ ps) at s = sound_harmless ps (at + width c) s.1

-- ---- The parts of statements are sound

decoded : (s : Text) → first_bad s ≡ none → Scalars (decode s)
decoded s v = (valid_encoded s v).scalars

blank_gap : SoundGap 32
blank_gap = record { white = refl; no_comment = refl; one = refl; scalar = (omega arith, inl (omega arith)) }

line_gap : SoundGap 10
line_gap = record { white = refl; no_comment = refl; one = refl; scalar = (omega arith, inl (omega arith)) }

marked_scalars : {f : ℕ → Text} (a b : ℕ) (cs : List ℕ) → Rule f → T (lows (a ∷ [])) → T (lows (b ∷ [])) → Scalars cs → Scalars (marked a b (escaped f cs))
marked_scalars {f} a b cs r p q s =
    scalars_append (a ∷ []) (escaped f cs ++ b ∷ []) (lows_scalars (a ∷ []) p) (scalars_append (escaped f cs) (b ∷ []) (escaped_scalars r cs s) (lows_scalars (b ∷ []) q))

iri_sound : (s : Text) → GoodIri for_long_form s → (ds : List ℕ) → SoundToken IRIREF (iri_points s) ds
iri_sound s g ds = record {
  begins = refl;
  front = iri_token (decode s) (decoded s g.utf8) ds;
  scalars = marked_scalars 60 62 (decode s) iri_rule tt tt (decoded s g.utf8);
  harmless = λ at. harmless_iri at s g;
}

string_sound : (s : Text) → first_bad s ≡ none → (d : ℕ) (ds : List ℕ) → eqb d 34 ≡ false
    → SoundToken STRING_LITERAL_QUOTE (string_points s) (d ∷ ds)
string_sound s v d ds n = record {
  begins = refl;
  front = string_token (decode s) (decoded s v) d ds n;
  scalars = marked_scalars 34 34 (decode s) string_rule tt tt (decoded s v);
  harmless = λ at. harmless_string at s v;
}

-- Tokens of ASCII of which only the kind matters.
mild_sound : (k : Kind) (cs ds : List ℕ) → Mild k → T (lows cs) → begins_token cs ≡ true → token_at (cs ++ ds) ≡ hit (kind_code k) (size width cs) → SoundToken k cs ds
mild_sound k cs ds m l b e = record { begins = b; front = e; scalars = lows_scalars cs l; harmless = λ at. harmless_mild k at cs m }

module _ (rest : List Part) (r : Sound rest) where
  then_blank : Sound (gap 32 ∷ rest)
  then_blank = (blank_gap, r)

  type_sound : (s d : Text) → first_bad s ≡ none → GoodIri for_long_form d → Sound (string_part s ∷ (type_parts d ++ gap 32 ∷ rest))
  unfolding points
  type_sound s d v g =
      by (same_text d xsd_string) (λ e. rw e (string_sound s v 32 (points rest) refl, then_blank))
      (λ e.
      rw e (
        string_sound s v 94 (94 ∷ after_carets) refl,
        (mild_sound carets (94 ∷ 94 ∷ []) after_carets refl tt refl (closed_token (kind_code carets) 94 (94 ∷ []) after_carets refl refl refl), (iri_sound d g (32 ∷ points rest), then_blank)),
      ))
    where
      after_carets : List ℕ
      after_carets = points (iri_part d ∷ gap 32 ∷ rest)

  -- A term and a blank.
  term_sound : (t : Term) → Good for_long_form t → Sound (term_parts t ++ gap 32 ∷ rest)
  unfolding points
  term_sound (iri s) g = (iri_sound s g (32 ∷ points rest), then_blank)
  term_sound (blank b) g =
      (mild_sound BLANK_NODE_LABEL (label_points (number_of b)) (32 ∷ points rest) refl (label_lows (number_of b)) refl (label_token (number_of b) (points rest)), then_blank)
  term_sound (literal s d) g = type_sound s d g.0 g.1
  term_sound (tagged s t) g =
      let u = tag_token t g.1 in
      (string_sound s g.0 64 (t ++ 32 ∷ points rest) refl, (mild_sound LANGTAG (64 ∷ t) (32 ∷ points rest) refl u.ascii_only refl (u.token (points rest)), then_blank))

module _ (t : Triple) (s : Good for_long_form t.subject) (p : Good for_long_form t.predicate) (o : Good for_long_form t.object) where
  triple_sound : (d : ℕ) (rest : List Part) → (d ≡ 32) ⊎ (d ≡ 10) → Sound (gap d ∷ rest) → Sound (triple_parts t (gap d ∷ rest))
  unfolding points
  triple_sound d rest c r =
      let end : Sound (printed dot (46 ∷ []) ∷ gap d ∷ rest) = (mild_sound dot (46 ∷ []) (d ∷ points rest) refl tt refl (dot_token d (points rest) c), r) in
      let third = term_sound (printed dot (46 ∷ []) ∷ gap d ∷ rest) end t.object o in
      let second = term_sound (term_parts t.object ++ gap 32 ∷ printed dot (46 ∷ []) ∷ gap d ∷ rest) third t.predicate p in
      term_sound (term_parts t.predicate ++ gap 32 ∷ (term_parts t.object ++ gap 32 ∷ printed dot (46 ∷ []) ∷ gap d ∷ rest)) second t.subject s

  line_sound : (g : Option Term) → GoodGraph for_long_form g → (rest : List Part) → Sound rest → Sound (line_parts g t rest)
  unfolding points
  line_sound none h rest r = triple_sound 10 rest (inr refl) (line_gap, r)
  line_sound (some g) h rest r =
      let end : Sound (gap 32 ∷ printed close_brace (125 ∷ []) ∷ gap 10 ∷ rest) =
      (blank_gap, (mild_sound close_brace (125 ∷ []) (10 ∷ points rest) refl tt refl (closed_token (kind_code close_brace) 125 [] (10 ∷ points rest) refl refl refl), (line_gap, r))) in
      let inside = triple_sound 32 (printed close_brace (125 ∷ []) ∷ gap 10 ∷ rest) (inl refl) end in
      let after = gap 32 ∷ triple_parts t (gap 32 ∷ printed close_brace (125 ∷ []) ∷ gap 10 ∷ rest) in
      term_sound (printed open_brace (123 ∷ []) ∷ after)
      (mild_sound open_brace (123 ∷ []) (points after) refl tt refl (closed_token (kind_code open_brace) 123 [] (points after) refl refl refl), (blank_gap, inside))
      g (resource_good for_long_form g h)

pub parts_sound : (qs : List Quad) → GoodQuads for_long_form qs → Sound (parts qs)
unfolding parts
parts_sound [] g = tt
parts_sound (q ∷ qs) g =
    let h = g.0 in
    line_sound q.triple (resource_good for_long_form q.triple.subject h.subject) (predicate_good for_long_form q.triple.predicate h.predicate) h.object q.graph h.graph
    (parts qs) (parts_sound qs g.1)

-- RFC 3986, section 5.2: relative resolution.
use Rattle.std.specs.Prelude.{[], ◌∷◌, ◌++◌, Bool, not, ◌&&◌, ℕ, drop}
use Rattle.text.specs.Text.{Text, ascii, cond, is, one_of, empty, begins, until, from, some_byte, computing as text_computing}
use Rattle.iri.specs.Iri.{has_scheme, scheme, after_scheme}
use Rattle.iri.specs.Dots.{without_last_segment, first_segment, after_first_segment, turn, turns, remove_dot_segments}

-- The parts of a reference without its scheme, by the expression of Appendix B: (//([^/?#]*))?([^?#]*)(\?([^#]*))?(#(.*))?
-- Each is kept with the mark in front of it: a part that is undefined is empty, and one that is defined and empty is its mark.
pub record Parts : Type 0 where
  pub authority : Text
  pub path : Text
  pub query : Text
  pub fragment : Text

-- What the mark at the front and the text up to a stop make; empty where the mark does not stand there.
unfoldable pub authority_of : Text → Text
authority_of s = cond (begins (ascii "//") s) (ascii "//" ++ until (one_of "/?#") (drop 2 s)) []

unfoldable pub after_authority : Text → Text
after_authority s = cond (begins (ascii "//") s) (from (one_of "/?#") (drop 2 s)) s

unfoldable pub parts : Text → Parts
parts s =
    let after_path = from (one_of "?#") (after_authority s) in
    record {
      authority = authority_of s;
      path = until (one_of "?#") (after_authority s);
      query = until (is "#") after_path;
      fragment = from (is "#") after_path;
    }

abbrev pub defined : Text → Bool
defined part = not (empty part)

-- 5.2.3. Merge Paths: all but the last segment of the base's path, and the reference's.
unfoldable pub up_to_last_slash : Text → Text
up_to_last_slash [] = []
up_to_last_slash (c ∷ s) = let r = c ∷ up_to_last_slash s in cond (some_byte (is "/") (c ∷ s)) r []

unfoldable pub merge : Parts → Text → Text
merge base path = cond (defined base.authority && empty base.path) (ascii "/" ++ path) (up_to_last_slash base.path ++ path)

-- 5.2.2. Transform References, of a reference R without a scheme. `dots` is what becomes of the dot segments of a path.
unfoldable pub transform : (Text → Text) → Parts → Parts → Parts
transform dots base r =
    cond (defined r.authority) (record { authority = r.authority; path = dots r.path; query = r.query; fragment = r.fragment })
    (cond (empty r.path) (record { authority = base.authority; path = base.path; query = cond (defined r.query) r.query base.query; fragment = r.fragment })
    (cond (begins (ascii "/") r.path) (record { authority = base.authority; path = dots r.path; query = r.query; fragment = r.fragment })
    (record { authority = base.authority; path = dots (merge base r.path); query = r.query; fragment = r.fragment })))

-- 5.3. Component Recomposition
unfoldable pub recompose : Text → Parts → Text
recompose sch t = sch ++ ascii ":" ++ t.authority ++ t.path ++ t.query ++ t.fragment

unfoldable pub resolve_by : (Text → Text) → Text → Text → Text
resolve_by dots base r = recompose (scheme base) (transform dots (parts (after_scheme base)) (parts r))

-- The reference resolved against the base; and the same before its dot segments go.
unfoldable pub resolve : Text → Text → Text
resolve base r = resolve_by remove_dot_segments base r

unfoldable pub resolve_with_dots : Text → Text → Text
resolve_with_dots base r = resolve_by (λ path. path) base r

-- "A reference with a scheme .. is taken as written, dots and all. Any other .. is resolved .. against the base in force"
unfoldable pub resolved : Text → Text → Text
resolved base r = cond (has_scheme r) r (resolve base r)

-- All that computes here; an example that is checked by evaluation names it.
unfoldable pub computing : ℕ
unfolding text_computing has_scheme scheme after_scheme without_last_segment first_segment after_first_segment turn turns remove_dot_segments authority_of after_authority parts up_to_last_slash merge transform recompose resolve_by resolve resolve_with_dots resolved
computing = 0

-- What the routines promise each other.
use Rattle.std.specs.Prelude.{Option, Some, None, Result, Ok, Err, ℕ, zero, suc, ◌+◌, ◌-◌, ◌≤◌, ◌≡◌, [], ◌∷◌, ◌++◌, Bool, true, false, not, ◌&&◌, ◌||◌, length, take, drop, get_or, replicate, eqb, ltb}
use Rattle.text.specs.Text.{Text, ascii, cond, is, one_of, begins, same_text}
use Rattle.iri.specs.Iri.{letter, scheme_byte, has_scheme}
use Rattle.iri.specs.Dots.{buffers, turn, turns, remove_dot_segments}
use Rattle.iri.specs.Resolve.{resolve, resolve_with_dots, resolved}
use Rattle.iri.specs.declared.Rule.{Rule}
use Rattle.iri.specs.declared.Rule.TheVariants.{UpSlash, HereSlash, SlashHere, SlashHereEnd, SlashUp, SlashUpEnd, Dots, Segment}
use Rattle.iri.specs.declared.Turn.{Turn}
use Rattle.iri.specs.declared.Part.{Part}
use Rattle.iri.specs.declared.Part.TheVariants.{Authority, Path, Query, Scheme, Colon}
use Rattle.iri.specs.declared.Ends.{Ends}
use Rattle.iri.specs.declared.Plan.{Plan}
use Rattle.iri.specs.declared.ResolveError.{ResolveError}
use Rattle.iri.specs.declared.ResolveError.TheVariants.{Long, NoBase}

-- How many bytes stand before the first that passes the test.
unfoldable pub before : (ℕ → Bool) → Text → ℕ
before p [] = 0
before p (c ∷ s) = let r = suc (before p s) in cond (p c) 0 r

-- Of the first n bytes, how many there are up to the right-most slash, with it; none without a slash.
unfoldable pub slash_end : Text → ℕ → ℕ
slash_end s zero = 0
slash_end s (suc n) = cond (eqb (get_or s n 0) 47) (suc n) (slash_end s n)

-- A scheme, looked for byte by byte: at the first byte, and later.
unfoldable pub scheme_from : Bool → Text → Bool
scheme_from first [] = false
scheme_from true (c ∷ s) = let r = scheme_from false s in cond (letter c) r false
scheme_from false (c ∷ s) = let r = scheme_from false s in cond (scheme_byte c) r (is ":" c)

-- What a byte says of a scheme, at its first place and later: whether there is one, or nothing yet.
unfoldable pub verdict : Bool → ℕ → Option Bool
verdict true c = cond (letter c) None (Some false)
verdict false c = cond (scheme_byte c) None (Some (eqb c 58))

-- What a verdict says, where the bytes after it say b.
abbrev pub told : Option Bool → Bool → Bool
told None b = b
told (Some a) b = a

-- The verdict on the bytes s, whatever follows them.
unfoldable pub Judges : Bool → Text → Option Bool → Type 0
Judges first s v = (t : Text) → scheme_from first (s ++ t) ≡ told v (scheme_from false t)

-- What stands from at to the end.
abbrev pub window : Text → ℕ → ℕ → Text
window b at end = drop at (take end b)

-- The step of 5.2.4 that a path asks for.
unfoldable pub rule : Text → Rule
rule i =
    cond (begins (ascii "../") i) UpSlash
    (cond (begins (ascii "./") i) HereSlash
    (cond (begins (ascii "/./") i) SlashHere
    (cond (same_text i (ascii "/.")) SlashHereEnd
    (cond (begins (ascii "/../") i) SlashUp
    (cond (same_text i (ascii "/..")) SlashUpEnd
    (cond (same_text i (ascii ".") || same_text i (ascii "..")) Dots
    Segment))))))

-- The same of a path of n bytes by its first four, 0 past its end.
unfoldable pub rule_by : ℕ → ℕ → ℕ → ℕ → ℕ → Rule
rule_by n c0 c1 c2 c3 =
    cond (eqb c0 46 && (eqb c1 46 && eqb c2 47)) UpSlash
    (cond (eqb c0 46 && eqb c1 47) HereSlash
    (cond (eqb c0 47 && (eqb c1 46 && eqb c2 47)) SlashHere
    (cond (eqb c0 47 && (eqb c1 46 && eqb n 2)) SlashHereEnd
    (cond (eqb c0 47 && (eqb c1 46 && (eqb c2 46 && eqb c3 47))) SlashUp
    (cond (eqb c0 47 && (eqb c1 46 && (eqb c2 46 && eqb n 3))) SlashUpEnd
    (cond ((eqb c0 46 && eqb n 1) || (eqb c0 46 && (eqb c1 46 && eqb n 2))) Dots
    Segment))))))

-- The length of the first segment.
unfoldable pub segment : Text → ℕ
segment [] = 0
segment (c ∷ s) = suc (before (is "/") s)

-- n bytes from at have gone to w.
pub record Moved (x y : Text) (at w n : ℕ) : Type 0 where
  pub size : length y ≡ length x
  pub front : take (w + n) y ≡ take w x ++ take n (drop at x)
  pub back : drop (at + n) y ≡ drop (at + n) x
  pub fits : at + n ≤ length x

-- One turn of 5.2.4's loop: the path from at to the end is left and the output is the first w bytes, before it; t says which after it.
pub record Turned (x y : Text) (at end w : ℕ) (t : Turn) : Type 0 where
  pub size : length y ≡ length x
  pub turned : turn (buffers (take w x) (window x at end)) ≡ buffers (take t.w y) (window y t.at t.end)
  pub back : drop end y ≡ drop end x
  pub behind : t.w ≤ t.at
  pub inside : t.at ≤ t.end
  pub within : t.end ≤ end
  pub short : t.w + t.end + at ≤ w + end + t.at
  pub less : suc (t.end - t.at) ≤ end - at

-- The turns from an input and an output until nothing is left.
unfoldable pub clean : Text → Text → Text
clean i o = (turns (length i) (buffers o i)).out

-- The first r bytes are the path of n bytes without its dot segments.
pub record Removed (x y : Text) (n r : ℕ) : Type 0 where
  pub size : length y ≡ length x
  pub front : take r y ≡ remove_dot_segments (take n x)
  pub back : drop n y ≡ drop n x
  pub short : r ≤ n

-- What ends a part: an authority, a path, a query, the bytes of a scheme; and the colon behind a scheme.
unfoldable pub stop : Part → ℕ → Bool
stop Authority c = one_of "/?#" c
stop Path c = one_of "?#" c
stop Query c = is "#" c
stop Scheme c = not (scheme_byte c)
stop Colon c = is ":" c

-- Where the scheme ends with its colon, of a text that has one.
unfoldable pub scheme_end : Text → ℕ
scheme_end s = before (stop Colon) s + 1

-- Where the parts of a text without a scheme end.
unfoldable pub authority_length : Text → ℕ
authority_length s = cond (begins (ascii "//") s) (2 + before (stop Authority) (drop 2 s)) 0

unfoldable pub path_end : Text → ℕ
path_end s = authority_length s + before (stop Path) (drop (authority_length s) s)

unfoldable pub query_end : Text → ℕ
query_end s = path_end s + before (stop Query) (drop (path_end s) s)

unfoldable pub ends_of : Text → ℕ → Ends
ends_of s from = record { authority = from + authority_length (drop from s); path = from + path_end (drop from s); query = from + query_end (drop from s) }

-- How the parts are put together, from where they end: k the base's scheme, then the base's parts and the reference's.
unfoldable pub plan_by : Text → Text → ℕ → Ends → Ends → Plan
plan_by base ref k b r =
    cond (ltb 0 r.authority) (record { keep = k; slash = 0; from = k + r.authority; path = r.path })
    (cond (eqb r.path 0)
    (cond (eqb r.query 0) (record { keep = b.query; slash = 0; from = b.query; path = 0 })
    (record { keep = b.path; slash = 0; from = b.path; path = 0 }))
    (cond (eqb (get_or ref 0 0) 47) (record { keep = b.authority; slash = 0; from = b.authority; path = r.path })
    (cond (ltb b.authority b.path)
    (record {
      keep = b.authority + slash_end (take (b.path - b.authority) (drop b.authority base)) (length (take (b.path - b.authority) (drop b.authority base)));
      slash = 0;
      from = b.authority;
      path = r.path;
    })
    (cond (ltb k b.authority) (record { keep = b.authority; slash = 1; from = b.authority; path = r.path })
    (record { keep = b.authority; slash = 0; from = b.authority; path = r.path })))))

unfoldable pub plan_of : Text → Text → Plan
plan_of base ref = plan_by base ref (scheme_end base) (ends_of base (scheme_end base)) (ends_of ref 0)

-- What a plan is good for: front, path and rest of the IRI, the path with its dot segments and without them.
pub record Planned (base ref : Text) (p : Plan) : Type 0 where
  pub front : Text
  pub path : Text
  pub rest : Text
  pub dotted : resolve_with_dots base ref ≡ front ++ (path ++ rest)
  pub plain : resolve base ref ≡ front ++ (remove_dot_segments path ++ rest)
  pub made : front ++ path ≡ take p.keep base ++ (replicate p.slash 47 ++ take p.path ref)
  pub rest_is : rest ≡ drop p.path ref
  pub start : length front ≡ p.from
  pub kept : p.keep ≤ length base
  pub one : p.slash ≤ 1
  pub inside : p.path ≤ length ref

-- The front of y holds the reference resolved, r bytes long.
pub record Holds (base ref x y : Text) (r : ℕ) : Type 0 where
  pub long : r ≡ length (resolve base ref)
  pub size : length y ≡ length x
  pub front : take r y ≡ resolve base ref

-- What resolving a reference without a scheme against a base with one answers, and leaves in the buffer.
unfoldable pub relative_answer : Text → Text → ℕ → Result ℕ ResolveError
relative_answer base ref room = cond (ltb room (length (resolve_with_dots base ref))) (Err Long) (Ok (length (resolve base ref)))

-- "A reference with a scheme .. is taken as written"; "relative reference, no base in force"; an IRI "as resolved before
-- its dot segments go" has to fit the buffer.
unfoldable pub answer : Text → Text → ℕ → Result ℕ ResolveError
answer base ref room = cond (has_scheme ref) (Ok (length ref)) (cond (has_scheme base) (relative_answer base ref room) (Err NoBase))

-- The reference is the end of the buffer, n bytes; what is written stands in its front.
unfoldable pub reference : Text → ℕ → Text
reference x n = drop (length x - n) x

pub record Resolved (base x y : Text) (n : ℕ) (a : Result ℕ ResolveError) : Type 0 where
  pub is : a ≡ cond (ltb (length x) n) (Err Long) (answer base (reference x n) (length x))
  pub size : length y ≡ length x
  pub front : (k : ℕ) → a ≡ Ok k → take k y ≡ resolved base (reference x n)

-- The same of a reference without a scheme that begins at a place, against a base with one.
pub record ResolvedAt (base x y : Text) (start : ℕ) (a : Result ℕ ResolveError) : Type 0 where
  pub is : a ≡ relative_answer base (drop start x) (length x)
  pub size : length y ≡ length x
  pub front : (k : ℕ) → a ≡ Ok k → take k y ≡ resolve base (drop start x)

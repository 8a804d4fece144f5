-- RFC 3986, section 5.4: examples of reference resolution, by evaluation. The program iri_examples runs all of them.
use mathlib.Core.Path.{◌≡◌, refl}
use Prim.Native.String.{String}
use Rattle.text.specs.Text.{Text, ascii}
use Rattle.iri.specs.Resolve.{resolved, computing}

abbrev base : Text
base = ascii "http://a/b/c/d;p?q"

infixl 20 ◌gives◌
abbrev ◌gives◌ : String → String → Type 0
r gives iri = resolved base (ascii r) ≡ ascii iri

-- 5.4.1. Normal Examples
other_scheme : "g:h" gives "g:h"
unfolding computing
other_scheme = refl

merged : "./g/" gives "http://a/b/c/g/"
unfolding computing
merged = refl

absolute_path : "/g" gives "http://a/g"
unfolding computing
absolute_path = refl

other_authority : "//g" gives "http://g"
unfolding computing
other_authority = refl

other_query : "?y" gives "http://a/b/c/d;p?y"
unfolding computing
other_query = refl

with_all : "g;x?y#s" gives "http://a/b/c/g;x?y#s"
unfolding computing
with_all = refl

same_document : "" gives "http://a/b/c/d;p?q"
unfolding computing
same_document = refl

up_two : "../../g" gives "http://a/g"
unfolding computing
up_two = refl

-- 5.4.2. Abnormal Examples
up_too_far : "../../../g" gives "http://a/g"
unfolding computing
up_too_far = refl

dots_in_names : "..g" gives "http://a/b/c/..g"
unfolding computing
dots_in_names = refl

nonsensical : "./g/." gives "http://a/b/c/g/"
unfolding computing
nonsensical = refl

dots_in_query : "g?y/../x" gives "http://a/b/c/g?y/../x"
unfolding computing
dots_in_query = refl

-- "A reference with a scheme .. is taken as written, dots and all": a strict parser, in the RFC's words.
same_scheme : "http:g" gives "http:g"
unfolding computing
same_scheme = refl

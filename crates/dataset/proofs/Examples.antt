-- What tokens stand for, and what is in force after directives, by computing.
use mathlib.Core.Path.{refl}
use mathlib.Core.List.{List, [], ◌∷◌}
use Prim.Native.String.{String}
use Rattle.text.specs.Text.{Text, ascii}
use Rattle.text.proofs.Table.{◌⇒◌, Gives}
use Rattle.utf8.specs.Utf8.{encodes}
use Rattle.token.specs.Kind.{dot}
use Rattle.token.specs.Tokens.{Token, Lexeme, token, unreadable, lexemes}
use Rattle.environment.specs.Environment.{bind}
use Rattle.dataset.specs.Constructors.{string_text, reference, tag, node_label, prefix, local, iri_of, InForce, nothing, prefix_name, new_base, namespace_of, after_token, in_force, computing}

-- The tokens of a quoted text; the first of them, and the last.
abbrev readable : List Lexeme → List Token
readable [] = []
readable (token t ∷ ls) = t ∷ readable ls
readable (unreadable p ∷ ls) = []

abbrev tokens : String → List Token
tokens s = readable (lexemes (encodes (ascii s)))

abbrev no_token : Token
no_token = record { kind = dot; start = 0; text = [] }

abbrev first : List Token → Token
first [] = no_token
first (t ∷ ts) = t

-- ---- Constructors

string_texts : Gives (λ s. string_text (first (tokens s))) (
    "\"\"" ⇒ []
    ∷ "\"a\\n'b\"" ⇒ ascii "a\n'b"
    ∷ "'\\u0041\"'" ⇒ ascii "A\""
    ∷ "\"\"\"\"\"\"" ⇒ []
    ∷ "\"\"\"\"a\"\"\\t\"\"\"" ⇒ ascii "\"a\"\"\t"
    ∷ "'''a''b'''" ⇒ ascii "a''b"
    ∷ [])
unfolding computing
string_texts = refl

references : Gives (λ s. reference (first (tokens s))) ("<>" ⇒ [] ∷ "<a>" ⇒ ascii "a" ∷ "<\\u0061\\U00000062/..>" ⇒ ascii "ab/.." ∷ [])
unfolding computing
references = refl

tags : Gives (λ s. tag (first (tokens s))) ("@en" ⇒ ascii "en" ∷ "@en-GB" ⇒ ascii "en-GB" ∷ [])
unfolding computing
tags = refl

node_labels : Gives (λ s. node_label (first (tokens s))) ("_:a" ⇒ ascii "a" ∷ "_:a.b" ⇒ ascii "a.b" ∷ [])
unfolding computing
node_labels = refl

prefixes : Gives (λ s. prefix (first (tokens s))) (":" ⇒ [] ∷ ":a:b" ⇒ [] ∷ "m.n:" ⇒ ascii "m.n" ∷ "m:a:b" ⇒ ascii "m" ∷ [])
unfolding computing
prefixes = refl

locals : Gives (λ s. local (first (tokens s))) (":" ⇒ [] ∷ "m:" ⇒ [] ∷ "m:a:b" ⇒ ascii "a:b" ∷ "m:\\#a\\.%66" ⇒ ascii "#a.%66" ∷ [])
unfolding computing
locals = refl

-- ---- What is in force: the base x:/a/b was lent

abbrev lent : Text
lent = ascii "x:/a/b"

abbrev after : String → InForce
after s = in_force lent (tokens s)

-- What the tokens of a directive await.
awaited : Gives (λ s. (after s).awaited) (
    "" ⇒ nothing
    ∷ "@prefix" ⇒ prefix_name
    ∷ "PREFIX" ⇒ prefix_name
    ∷ "@prefix p:" ⇒ namespace_of (ascii "p")
    ∷ "@prefix p: <x:>" ⇒ nothing
    ∷ "@base" ⇒ new_base
    ∷ "BASE" ⇒ new_base
    ∷ "BASE <x:>" ⇒ nothing
    ∷ "<x:s> a p:a" ⇒ nothing
    ∷ [])
unfolding computing
awaited = refl

-- The latest directive wins, and each is resolved under those before it.
environments : Gives (λ s. (after s).environment) (
    "" ⇒ record { base = lent; namespaces = [] }
    ∷ "<x:s> <x:p> p:a ." ⇒ record { base = lent; namespaces = [] }
    ∷ "@prefix p: <c> . PREFIX : <d/>" ⇒ record { base = lent; namespaces = bind (ascii "p") (ascii "x:/a/c") ∷ bind [] (ascii "x:/a/d/") ∷ [] }
    ∷ "PREFIX p: <x:1> PREFIX q: <x:2> PREFIX p: <x:3>" ⇒ record { base = lent; namespaces = bind (ascii "p") (ascii "x:3") ∷ bind (ascii "q") (ascii "x:2") ∷ [] }
    ∷ "BASE <c/> PREFIX p: <d> @base <../e> . " ⇒ record { base = ascii "x:/a/e"; namespaces = bind (ascii "p") (ascii "x:/a/c/d") ∷ [] }
    ∷ [])
unfolding computing
environments = refl

-- The IRI of the last token, under the directives before it.
abbrev last_under : InForce → List Token → Text
last_under f [] = []
last_under f (t ∷ []) = iri_of f.environment t
last_under f (t ∷ u ∷ ts) = last_under (after_token f t) (u ∷ ts)

iris : Gives (λ s. last_under (after "") (tokens s)) (
    "<y:c>" ⇒ ascii "y:c"
    ∷ "<c>" ⇒ ascii "x:/a/c"
    ∷ "BASE <y:/> <c>" ⇒ ascii "y:/c"
    ∷ "PREFIX p: <x:1#> p:c" ⇒ ascii "x:1#c"
    ∷ "PREFIX p: <x:1#> PREFIX p: <x:2#> p:" ⇒ ascii "x:2#"
    ∷ "PREFIX p: <d/> BASE <y:> p:c\\/..\\/%66" ⇒ ascii "x:/a/d/c/../%66"
    ∷ "PREFIX PREFIX: <x:1#> PREFIX:c" ⇒ ascii "x:1#c"
    ∷ [])
unfolding computing
iris = refl

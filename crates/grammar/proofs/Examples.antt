-- What the grammars say of short documents, by computing.
use mathlib.Core.Path.{◌≡◌, refl}
use mathlib.Core.List.{[], ◌∷◌, map}
use mathlib.Core.Option.{none, some}
use Rattle.token.specs.Kind.{IRIREF, PNAME_NS, PNAME_LN, BLANK_NODE_LABEL, at_prefix, INTEGER, STRING_LITERAL_QUOTE, LANGTAG, kw_a, PREFIX, GRAPH, dot, comma, semicolon, open_bracket, close_bracket, open_paren, close_paren, open_brace, close_brace, carets}
use Rattle.token.proofs.KindCodes.{same}
use Rattle.grammar.specs.Productions.{trig, turtle, production, root}
use Rattle.grammar.proofs.Recogniser.{verdict, gate, nullE, nullN, null, nullS, afterE, afterN, after, step, someNull, is_some, at_end, at_token, later}
use Rattle.grammar.proofs.Modes.{grammar}

-- none: it has a derivation; some i: the grammar fails at token i, from 0 on, or at the end.
verdicts : map (grammar trig)
    -- the empty document
    ([]
    -- <s> a 1 , "x"@en ; ; <p> "y"^^<t> ; .
    ∷ (IRIREF ∷ kw_a ∷ INTEGER ∷ comma ∷ STRING_LITERAL_QUOTE ∷ LANGTAG ∷ semicolon ∷ semicolon ∷ IRIREF ∷ STRING_LITERAL_QUOTE ∷ carets ∷ IRIREF ∷ semicolon ∷ dot ∷ [])
    -- @prefix p: <n> .  PREFIX p: <n>  _:b p:q ( 1 [ a () ] ) .
    ∷ (at_prefix ∷ PNAME_NS ∷ IRIREF ∷ dot ∷ PREFIX ∷ PNAME_NS ∷ IRIREF ∷ BLANK_NODE_LABEL ∷ PNAME_LN ∷ open_paren ∷ INTEGER ∷ open_bracket ∷ kw_a ∷ open_paren ∷ close_paren ∷ close_bracket ∷ close_paren ∷ dot ∷ [])
    -- [ a 1 ] .  <g> { <s> a 1 . <s> a 1 }  GRAPH [] { }
    ∷ (open_bracket ∷ kw_a ∷ INTEGER ∷ close_bracket ∷ dot ∷ IRIREF ∷ open_brace ∷ IRIREF ∷ kw_a ∷ INTEGER ∷ dot ∷ IRIREF ∷ kw_a ∷ INTEGER ∷ close_brace ∷ GRAPH ∷ open_bracket ∷ close_bracket ∷ open_brace ∷ close_brace ∷ [])
    -- <s> a 1    ( 1 ) .    [] .    GRAPH [ a    [ a 1 ] {    () {    <s> []    ; first
    ∷ (IRIREF ∷ kw_a ∷ INTEGER ∷ [])
    ∷ (open_paren ∷ INTEGER ∷ close_paren ∷ dot ∷ [])
    ∷ (open_bracket ∷ close_bracket ∷ dot ∷ [])
    ∷ (GRAPH ∷ open_bracket ∷ kw_a ∷ INTEGER ∷ [])
    ∷ (open_bracket ∷ kw_a ∷ INTEGER ∷ close_bracket ∷ open_brace ∷ [])
    ∷ (open_paren ∷ close_paren ∷ open_brace ∷ [])
    ∷ (IRIREF ∷ open_bracket ∷ [])
    ∷ (IRIREF ∷ semicolon ∷ [])
    -- PREFIX p: <n> .    { @prefix    { . }
    ∷ (PREFIX ∷ PNAME_NS ∷ IRIREF ∷ dot ∷ [])
    ∷ (open_brace ∷ at_prefix ∷ [])
    ∷ (open_brace ∷ dot ∷ [])
    ∷ [])
    ≡ none ∷ none ∷ none ∷ none ∷ some 3 ∷ some 3 ∷ some 2 ∷ some 2 ∷ some 4 ∷ some 2 ∷ some 1 ∷ some 1 ∷ some 3 ∷ some 1 ∷ some 1 ∷ []
unfolding grammar verdict same production root gate nullE nullN null nullS afterE afterN after step someNull is_some at_end at_token later
verdicts = refl

turtle_verdicts : map (grammar turtle)
    -- [ a 1 ] .  () a 1 .
    ((open_bracket ∷ kw_a ∷ INTEGER ∷ close_bracket ∷ dot ∷ open_paren ∷ close_paren ∷ kw_a ∷ INTEGER ∷ dot ∷ [])
    -- {    <g> {    GRAPH
    ∷ (open_brace ∷ [])
    ∷ (IRIREF ∷ open_brace ∷ [])
    ∷ (GRAPH ∷ [])
    ∷ [])
    ≡ none ∷ some 0 ∷ some 1 ∷ some 0 ∷ []
unfolding grammar verdict same production root gate nullE nullN null nullS afterE afterN after step someNull is_some at_end at_token later
turtle_verdicts = refl

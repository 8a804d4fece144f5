-- The productions of both modes pass the tests of a grammar, computed over all nonterminals.
use mathlib.Core.List.{List, [], ◌∷◌}
use mathlib.Core.Option.{Option}
use Prim.Native.Nat.{ℕ}
use Rattle.text.proofs.Booleans.{all}
use Rattle.token.specs.Kind.{Kind}
use Rattle.token.proofs.KindCodes.{same}
use Rattle.grammar.specs.Ebnf.{nt}
use Rattle.grammar.specs.Productions.{Mode, trig, turtle, production, root}
use Rattle.grammar.proofs.KindSets.{mem, subset, disjoint}
use Rattle.grammar.proofs.Recogniser.{gate, nullE, nullN, null, nullS, afterE, afterN, verdict}
use Rattle.grammar.proofs.Nonterminals.{nonterminals, each_nonterminal}
use Rattle.grammar.proofs.Tests.{low, firstE, firstS, lastE, sep, apart, wf, Passes, null_whole, first_whole, last_whole, ranked, bounded, decided, productive, rankE, rankN, firstN, lastN, sampleE, sampleN, both?, either?, node?}

-- How many nonterminals may stand one at the beginning of the other; the tests find it enough.
abbrev pub levels : ℕ
levels = 8

trig_passes : Passes same (production trig) levels
unfolding same production nonterminals all gate nullE nullN null nullS afterE afterN low mem subset disjoint firstE firstS lastE sep apart wf rankE rankN firstN lastN sampleE sampleN both? either? node? null_whole first_whole last_whole ranked bounded decided productive
trig_passes =
    record {
      null_ok = each_nonterminal (null_whole same (production trig) levels) tt;
      first_ok = each_nonterminal (first_whole same (production trig) levels) tt;
      last_ok = each_nonterminal (last_whole same (production trig) levels) tt;
      rank_ok = each_nonterminal (ranked same (production trig) levels) tt;
      depth_ok = each_nonterminal (bounded same (production trig) levels) tt;
      decided_ok = each_nonterminal (decided same (production trig) levels) tt;
      productive_ok = each_nonterminal (productive same (production trig) levels) tt;
    }

turtle_passes : Passes same (production turtle) levels
unfolding same production nonterminals all gate nullE nullN null nullS afterE afterN low mem subset disjoint firstE firstS lastE sep apart wf rankE rankN firstN lastN sampleE sampleN both? either? node? null_whole first_whole last_whole ranked bounded decided productive
turtle_passes =
    record {
      null_ok = each_nonterminal (null_whole same (production turtle) levels) tt;
      first_ok = each_nonterminal (first_whole same (production turtle) levels) tt;
      last_ok = each_nonterminal (last_whole same (production turtle) levels) tt;
      rank_ok = each_nonterminal (ranked same (production turtle) levels) tt;
      depth_ok = each_nonterminal (bounded same (production turtle) levels) tt;
      decided_ok = each_nonterminal (decided same (production turtle) levels) tt;
      productive_ok = each_nonterminal (productive same (production turtle) levels) tt;
    }

pub passes : (mode : Mode) → Passes same (production mode) levels
passes trig = trig_passes
passes turtle = turtle_passes

-- What the recogniser says of a document's kinds: none where they are accepted, else the number of the token where they are refused, or of the end.
unfoldable pub grammar : Mode → List Kind → Option ℕ
grammar mode ks = verdict same (production mode) levels ((nt (root mode) ∷ []) ∷ []) ks

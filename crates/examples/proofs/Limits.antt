-- Calls at the reader's limits.
use mathlib.Core.Path.{refl}
use mathlib.Core.List.{[], ◌∷◌, ◌++◌}
use Prim.Native.Nat.{ℕ, zero, suc}
use Rattle.text.specs.Text.{Text}
use Rattle.text.proofs.Table.{◌⇒◌, Gives}
use Rattle.machine.specs.Read.{computing}
use Rattle.examples.specs.Call.{utf8, times, S, trig, against, ◌at◌, verdict}

-- Declarations of n distinct prefixes.
abbrev declarations : ℕ → Text
declarations zero = []
declarations (suc n) = utf8 "PREFIX " ++ times (suc n) "p" ++ utf8 ":<x:>" ++ declarations n

limits : Gives verdict (
    -- an IRI as written unescaped
    trig (S "<x:" ++ times 1022 "a" ++ utf8 "> .") ⇒ 0 at 1040
    ∷ trig (S "<x:" ++ times 1023 "a" ++ utf8 "> .") ⇒ 11 at 12
    -- 10 before 11
    ∷ trig (S "<" ++ times 1025 "a" ++ utf8 "> .") ⇒ 10 at 12
    -- before its dot segments go
    ∷ trig (utf8 "@base <x:/> . " ++ S "<" ++ times 510 "./" ++ utf8 "a> .") ⇒ 0 at 1051
    ∷ trig (utf8 "@base <x:/> . " ++ S "<" ++ times 511 "./" ++ utf8 "> .") ⇒ 11 at 26
    -- as joined
    ∷ trig (utf8 "@prefix p: <x:> . " ++ S "p:" ++ times 1022 "\\-" ++ utf8 " .") ⇒ 0 at 2078
    ∷ trig (utf8 "@prefix p: <x:> . " ++ S "p:" ++ times 1023 "\\-" ++ utf8 " .") ⇒ 11 at 30
    -- the lent base
    ∷ against (utf8 "x:" ++ times 1022 "a") [] ⇒ 0 at 0
    ∷ against (utf8 "x:" ++ times 1023 "a") [] ⇒ 3 at 0
    -- 32 prefixes, one of them declared again; and 33
    ∷ trig (declarations 32) ⇒ 0 at 912
    ∷ trig (declarations 32 ++ utf8 "PREFIX p:<x:>") ⇒ 0 at 925
    ∷ trig (declarations 33) ⇒ 12 at 953
    -- 10 and 11 before 12
    ∷ trig (declarations 32 ++ utf8 "PREFIX q:<g>") ⇒ 10 at 921
    ∷ trig (declarations 32 ++ utf8 "PREFIX q:<x:" ++ times 1023 "a" ++ utf8 ">") ⇒ 11 at 921
    ∷ [])
unfolding computing
limits = refl

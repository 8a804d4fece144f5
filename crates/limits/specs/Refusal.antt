-- The refusals by number, as the interface has them.
use Rattle.std.specs.Prelude.{ℕ, Result, Ok, Err}
use Rattle.limits.specs.declared.Refusal.{Refusal}
use Rattle.limits.specs.declared.Refusal.TheVariants.{DocumentLength, Mode, Base, Work, Utf8, Token, Escape, Grammar, Prefix, NoBase, IriLength, Prefixes, Depth, Rows, Terms, Store, Output, Tables, IndexOutput, Index, Pairing, List}

abbrev pub number : Refusal → ℕ
number DocumentLength = 1
number Mode = 2
number Base = 3
number Work = 4
number Utf8 = 5
number Token = 6
number Escape = 7
number Grammar = 8
number Prefix = 9
number NoBase = 10
number IriLength = 11
number Prefixes = 12
number Depth = 13
number Rows = 14
number Terms = 15
number Store = 16
number Output = 17
number Tables = 18
number IndexOutput = 22
number Index = 23
number Pairing = 25
number List = 26

-- The number of an answer: 0 where nothing is refused.
abbrev pub code : {T : Type 0} → Result T Refusal → ℕ
code (Ok x) = 0
code (Err r) = number r

-- A refusal that is handed on by `?`.
use Rattle.std.proofs.Common.{◌≡◌, ap, arith, Result, Ok, Err, IsErr, IsErrAnd}
use Rattle.limits.specs.Refusal.{number, code}
use Rattle.limits.specs.declared.Refusal.{Refusal}
use Rattle.limits.specs.declared.Refusal.TheVariants.{DocumentLength, Mode, Base, Work, Utf8, Token, Escape, Grammar, Prefix, NoBase, IriLength, Prefixes, Depth, Rows, Terms, Store, Output, Tables, IndexOutput, Index, Pairing, List}

-- It is the same one.
pub handed_on : {T : Type 0} (e : Refusal) (r : Result T Refusal) → IsErr r × IsErrAnd r (λ x. x ≡ e) → code r ≡ number e
handed_on e (Err x) h = ap number h.1
handed_on e (Ok x) h = absurd h.1

-- Every refusal has a number.
pub numbered : (e : Refusal) → number e ≡ 0 → ⊥
numbered DocumentLength h = omega arith
numbered Mode h = omega arith
numbered Base h = omega arith
numbered Work h = omega arith
numbered Utf8 h = omega arith
numbered Token h = omega arith
numbered Escape h = omega arith
numbered Grammar h = omega arith
numbered Prefix h = omega arith
numbered NoBase h = omega arith
numbered IriLength h = omega arith
numbered Prefixes h = omega arith
numbered Depth h = omega arith
numbered Rows h = omega arith
numbered Terms h = omega arith
numbered Store h = omega arith
numbered Output h = omega arith
numbered Tables h = omega arith
numbered IndexOutput h = omega arith
numbered Index h = omega arith
numbered Pairing h = omega arith
numbered List h = omega arith

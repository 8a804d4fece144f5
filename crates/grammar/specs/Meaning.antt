-- Meanings of derivation trees: a value for each nonterminal, made of those of the parts on the right side of its production.
use Rattle.std.specs.Prelude.{List, [], ◌∷◌, ◌⊎◌}
use Rattle.std.proofs.Common.{inl, inr}
use Rattle.std.proofs.Math.Option.{Option, none, some}
use Rattle.grammar.specs.Ebnf.{Expr, tok, nt, ◌⨾◌, ◌∣◌, star, opt, Tree, leaf, node, both, left, right, done, more, absent, present}

-- The values of the right sides, where Value has those of the nonterminals: of a token itself, of a sequence its parts', of an alternative one
-- part's, of a repeated part the list of its repeats', of an optional part its own or none.
abbrev pub Parts : {K N : Type 0} → Type 0 → (N → Type 0) → Expr K N → Type 0
Parts A Value (tok k) = A
Parts A Value (nt n) = Value n
Parts A Value (e ⨾ f) = Parts A Value e × Parts A Value f
Parts A Value (e ∣ f) = Parts A Value e ⊎ Parts A Value f
Parts A Value (star e) = List (Parts A Value e)
Parts A Value (opt e) = Option (Parts A Value e)

unfoldable pub meaning :
    {A K N : Type 0} {kind : A → K} {G : N → Expr K N} (Value : N → Type 0) → ((n : N) → Parts A Value (G n) → Value n)
    → {e : Expr K N} → Tree kind G e → Parts A Value e
meaning Value action (leaf t p) = t
meaning Value action (node n x) = action n (meaning Value action x)
meaning Value action (both x y) = (meaning Value action x, meaning Value action y)
meaning Value action (left x) = inl (meaning Value action x)
meaning Value action (right y) = inr (meaning Value action y)
meaning Value action done = []
meaning Value action (more x y) = meaning Value action x ∷ meaning Value action y
meaning Value action absent = none
meaning Value action (present x) = some (meaning Value action x)

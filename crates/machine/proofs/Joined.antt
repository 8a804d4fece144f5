-- Tokens that make a document, and others behind them: the others are read from where the first ended, and what these wrote stays.
use mathlib.Core.Path.{◌≡◌, refl, sym, ap, ap₂, ◌∙◌, subst}
use mathlib.Core.Logic.{◌↔◌}
use mathlib.Core.List.{List, [], ◌∷◌, ◌++◌, append-nil, append_assoc}
use mathlib.Core.Option.{Option, none, some}
use Prim.Native.Nat.{ℕ}
use Rattle.text.specs.Text.{Text}
use Rattle.token.specs.Tokens.{Token}
use Rattle.grammar.specs.Ebnf.{leaves}
use Rattle.grammar.specs.Productions.{Mode, Derivation, Grammatical, kind_of, production}
use Rattle.grammar.proofs.Grammar.{kinds_of, accepted as accepted_iff}
use Rattle.grammar.proofs.Recogniser.{at_end as end_verdict, later}
use Rattle.table.proofs.Numbers.{not_none}
use Rattle.machine.specs.Memory.{Memory, start_memory, Write}
use Rattle.machine.specs.Frame.{Open, directive, statement}
use Rattle.machine.specs.Construction.{tables}
use Rattle.machine.specs.Demand.{Fair}
use Rattle.machine.proofs.Decide.{tied_kinds}
use Rattle.machine.proofs.Link.{follow, finished, machine_verdict}
use Rattle.machine.proofs.Agreement.{final, at_finish, taken}
use Rattle.machine.proofs.Accepted.{agreement}
use Rattle.machine.proofs.Grammatical.{machine_grammar}
use Rattle.machine.proofs.Extends.{Extends}
use Rattle.machine.proofs.Demands.{finish_same, final_extends, fair_head, fair_tail, fair_none, fair_more}
use Rattle.machine.proofs.Follows.{rule_for, same_rule}

module _ (mode : Mode) where
  -- The others are read from the document's end on.
  pub final_append : (ts us : List Token) (o : Open) (m M : Memory) → final mode ts o m ≡ some M → final mode (ts ++ us) o m ≡ final mode us (statement []) M
  unfolding final taken
  final_append [] us o m M e = let (p, q) = finish_same o m M e in ap₂ (λ (o : Open) (m : Memory). final mode us o m) p q
  final_append (t ∷ ts) us o m M e = go (rule_for t mode o (tied_kinds (kinds_of ts))) refl e (λ o' m' d. final_append ts us o' m' M d)
    where
      -- Whether a tag or ^^ follows the last of the tokens changes nothing.
      next : (ts : List Token) (w : Write Open) → rule_for t mode o (tied_kinds (kinds_of ts)) ≡ some w → final mode ts (w m).0 (w m).1 ≡ some M
          → rule_for t mode o (tied_kinds (kinds_of (ts ++ us))) ≡ some w
      next [] w p d = same_rule t mode o w m (finish_same (w m).0 (w m).1 M d).0 p (tied_kinds (kinds_of us))
      next (u ∷ ts) w p d = p

      go : (r : Option (Write Open)) → rule_for t mode o (tied_kinds (kinds_of ts)) ≡ r → taken r m (λ o' m'. final mode ts o' m') ≡ some M
          → ((o' : Open) (m' : Memory) → final mode ts o' m' ≡ some M → final mode (ts ++ us) o' m' ≡ final mode us (statement []) M)
          → taken (rule_for t mode o (tied_kinds (kinds_of (ts ++ us)))) m (λ o' m'. final mode (ts ++ us) o' m') ≡ final mode us (statement []) M
      go none p d f = not_none d
      go (some w) p d f = ap (λ (r : Option (Write Open)). taken r m (λ o' m'. final mode (ts ++ us) o' m')) (next ts w p d) ∙ f (w m).0 (w m).1 d

  -- ---- Derivations

  final_verdict : (ts : List Token) (o : Open) (m M : Memory) → final mode ts o m ≡ some M → machine_verdict mode o m ts ≡ none
  unfolding final taken machine_verdict follow at_finish finished end_verdict later
  final_verdict [] (directive d) m M e = not_none e
  final_verdict [] (statement []) m M e = refl
  final_verdict [] (statement (f ∷ k)) m M e = not_none e
  final_verdict (t ∷ ts) o m M e = go (rule_for t mode o (tied_kinds (kinds_of ts))) e (λ o' m' d. final_verdict ts o' m' M d)
    where
      go : (r : Option (Write Open)) → taken r m (λ o' m'. final mode ts o' m') ≡ some M → ((o' : Open) (m' : Memory) → final mode ts o' m' ≡ some M → machine_verdict mode o' m' ts ≡ none)
          → follow r m (λ o' m'. machine_verdict mode o' m' ts) ≡ none
      go none d f = not_none d
      go (some w) d f = ap later (f (w m).0 (w m).1 d)

  abbrev Final : List Token → Open → Memory → Type 0
  Final ts o m = (M : Memory) × (final mode ts o m ≡ some M)

  verdict_final : (ts : List Token) (o : Open) (m : Memory) → machine_verdict mode o m ts ≡ none → Final ts o m
  unfolding final taken machine_verdict follow at_finish finished end_verdict later
  verdict_final [] (directive d) m e = not_none (sym e)
  verdict_final [] (statement []) m e = (m, refl)
  verdict_final [] (statement (f ∷ k)) m e = not_none (sym e)
  verdict_final (t ∷ ts) o m e = go (rule_for t mode o (tied_kinds (kinds_of ts))) refl e (λ o' m' d. verdict_final ts o' m' d)
    where
      earlier : (v : Option ℕ) → later v ≡ none → v ≡ none
      earlier none d = refl
      earlier (some i) d = not_none (sym d)

      go : (r : Option (Write Open)) → rule_for t mode o (tied_kinds (kinds_of ts)) ≡ r → follow r m (λ o' m'. machine_verdict mode o' m' ts) ≡ none
          → ((o' : Open) (m' : Memory) → machine_verdict mode o' m' ts ≡ none → Final ts o' m') → Final (t ∷ ts) o m
      go none p d f = not_none (sym d)
      go (some w) p d f =
          let (M, q) = f (w m).0 (w m).1 (earlier (machine_verdict mode (w m).0 (w m).1 ts) d) in
          (M, ap (λ (r : Option (Write Open)). taken r m (λ o' m'. final mode ts o' m')) p ∙ q)

  derives_final : (ts : List Token) (m : Memory) → Grammatical mode ts → Final ts (statement []) m
  derives_final ts m d = verdict_final ts (statement []) m (machine_grammar mode m ts ∙ (accepted_iff mode ts).1 d)

  pub final_derives : (ts : List Token) (m : Memory) → Final ts (statement []) m → Grammatical mode ts
  final_derives ts m (M, e) = (accepted_iff mode ts).0 (sym (machine_grammar mode m ts) ∙ final_verdict ts (statement []) m M e)

  -- Behind tokens that have a derivation others have one exactly if all of them together have.
  pub joined_derives : (ts us : List Token) → Grammatical mode ts → Grammatical mode (ts ++ us) ↔ Grammatical mode us
  joined_derives ts us d =
      let m = start_memory [] in
      let (M, e) = derives_final ts m d in
      let p = final_append ts us (statement []) m M e in (
        λ x. let (N, f) = derives_final (ts ++ us) m x in final_derives us M (N, sym p ∙ f),
        λ x. let (N, f) = derives_final us M x in final_derives (ts ++ us) m (N, p ∙ f),
      )

  -- The tables of a derivation are the beginning of those of a derivation of its tokens and others.
  pub joined_tables : (base : Text) (x z : Derivation mode) (us : List Token) → leaves kind_of (production mode) z ≡ leaves kind_of (production mode) x ++ us
      → Extends (tables mode x base) (tables mode z base)
  joined_tables base x z us p =
      final_extends mode us (statement []) (tables mode x base) (tables mode z base)
      (sym (final_append (leaves kind_of (production mode) x) us (statement []) (start_memory base) (tables mode x base) (agreement mode x base))
      ∙ ap (λ (l : List Token). final mode l (statement []) (start_memory base)) (sym p) ∙ agreement mode z base)

-- ---- What tokens have to meet by themselves

module _ (base : Text) where
  -- The tokens and others meet it exactly if they do, and the others where these stand before them.
  pub fair_parts : (before ts us : List Token) → Fair base before (ts ++ us) → Fair base before ts × Fair base (before ++ ts) us
  fair_parts before [] us f = (fair_none base before, subst (λ (l : List Token). Fair base l us) (sym (append-nil before)) f)
  fair_parts before (t ∷ ts) us f =
      let (a, b) = fair_parts (before ++ t ∷ []) ts us (fair_tail f) in
      (fair_more (fair_head f) a, subst (λ (l : List Token). Fair base l us) (append_assoc before (t ∷ []) ts) b)

  pub fair_joined : (before ts us : List Token) → Fair base before ts → Fair base (before ++ ts) us → Fair base before (ts ++ us)
  fair_joined before [] us f g = subst (λ (l : List Token). Fair base l us) (append-nil before) g
  fair_joined before (t ∷ ts) us f g =
      fair_more (fair_head f) (fair_joined (before ++ t ∷ []) ts us (fair_tail f) (subst (λ (l : List Token). Fair base l us) (sym (append_assoc before (t ∷ []) ts)) g))

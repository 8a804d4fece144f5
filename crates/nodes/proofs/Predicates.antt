-- Predicates and objects: the frames that await a predicate, and those behind an object.
use mathlib.Core.Path.{◌≡◌, refl, sym, ap, ◌∙◌, subst}
use mathlib.Core.List.{List, [], ◌∷◌, ◌++◌}
use mathlib.Core.Bool.{Bool, true, false, not, ◌&&◌}
use mathlib.Core.Option.{none, some}
use Prim.Native.Nat.{ℕ, ◌≤◌}
use borrow.Author.Tests.{ne_eqb}
use lib.Dec.{T}
use lib.ListN.{get_or}
use Rattle.text.specs.Text.{Text}
use Rattle.text.proofs.Compare.{by, contrary}
use Rattle.text.proofs.Booleans.{imp, imp_use, all, is_true}
use Rattle.token.specs.Kind.{Kind, kind_code, kinds, last_kind, end_kind, kind_of_code, among, iris, kw_a, comma, semicolon, open_bracket, close_bracket, open_paren, close_paren, open_brace}
use Rattle.token.specs.Tokens.{Token}
use Rattle.token.proofs.KindCodes.{each_kind, all_kinds, same, same_eq}
use Rattle.dataset.specs.Terms.{iri, rdf_type}
use Rattle.machine.specs.Memory.{Memory, Write, return, ◌>>=◌, term, iri_term}
use Rattle.machine.specs.Frame.{Ending, full_stop, bracket_end, Place, Frame, label_or_subject, verb, verb_or_end, object, after_object, after_semicolon, bracket}
use Rattle.machine.specs.Rules.{Rule, ◌⇒◌, find_rule, after_properties, end_rules, verb_rules}
use Rattle.machine.specs.Refusals.{new_depth}
use Rattle.state.specs.Words.{x_word, y_word, kind_in, node_in, list_in}
use Rattle.state.specs.Writes.{placed}
use Rattle.state.specs.Cursor.{TokenHere}
use Rattle.simulation.specs.Simulation.{code_among, here, Ready, Reads}
use Rattle.state.specs.declared.Held.{Held}
use Rattle.simulation.proofs.Tests.{kinds_of, among_any, no_rule, among_code}
use Rattle.simulation.proofs.Frames.{reads_does}
use Rattle.nodes.specs.Nodes.{term_rules, term_kinds, verb_kinds, spot_of, PutsTerm, Verbs, Ends}
use Rattle.nodes.proofs.Slots.{found_made, term_rule, begin_plain}

-- ---- Rules in front of others

front_found : {A : Type 0} (k : Kind) (rs qs : List (Rule A)) → among_any (kinds_of rs) k ≡ true → find_rule k (rs ++ qs) ≡ find_rule k rs
front_found k [] qs h = contrary (sym h)
front_found k ((ks ⇒ w) ∷ rs) qs h = by (among ks k) (λ p. rw p) (λ p. rw p (front_found k rs qs (rw p at h)))

front_none : {A : Type 0} (k : Kind) (rs qs : List (Rule A)) → among_any (kinds_of rs) k ≡ false → find_rule k (rs ++ qs) ≡ find_rule k qs
front_none k [] qs h = refl
front_none k ((ks ⇒ w) ∷ rs) qs h = by (among ks k) (λ p. contrary (rw p at h)) (λ p. rw p (front_none k rs qs (rw p at h)))

-- A kind of one list is none of another's.
apart : (p q : Kind → Bool) → T (all (λ j. imp (p j) (not (q j))) kinds) → (k : Kind) → p k ≡ true → q k ≡ false
apart p q t k e = go (q k) (imp_use (p k) (not (q k)) (all_kinds (λ j. imp (p j) (not (q j))) t k) (subst T (sym e) tt))
  where
    go : (b : Bool) → T (not b) → b ≡ false
    go true x = absurd x
    go false x = refl

-- ---- Frames that await a predicate

module _ (t : Token) (tied : Bool) (after : ℕ → List Frame) (k : Kind) where
  verb_rules_kinds : among_any (kinds_of (verb_rules t tied after)) k ≡ among verb_kinds k
  verb_rules_kinds = each_kind (among_any (kinds_of (verb_rules t tied after))) (among verb_kinds) refl k

-- A token that is no predicate.
pub no_verb : (t : Token) (tied : Bool) (after : ℕ → List Frame) (k : ℕ) → (k ≡ end_kind → ⊥) → k ≤ last_kind → code_among verb_kinds k ≡ false → find_rule (kind_of_code k) (verb_rules t tied after) ≡ none
no_verb t tied after k z h v = no_rule (verb_rules t tied after) (kind_of_code k) (verb_rules_kinds t tied after (kind_of_code k) ∙ (among_code verb_kinds k z h ∙ v))

pub verbs_verb : (s : ℕ) (e : Ending) → Verbs (verb s e) s e []
verbs_verb s e = record { rules = λ t tied k h. refl }

pub verbs_or_end : (s : ℕ) (e : Ending) → Verbs (verb_or_end s e) s e []
verbs_or_end s e = record { rules = λ t tied k h. front_found k (verb_rules t tied (λ p. object s p e ∷ [])) (end_rules t tied e) (verb_rules_kinds t tied (λ p. object s p e ∷ []) k ∙ h) }

pub verbs_semicolon : (s : ℕ) (e : Ending) → Verbs (after_semicolon s e) s e []
unfolding all
verbs_semicolon s e = record {
  rules = λ t tied k h.
      rw (apart (among verb_kinds) (among (semicolon ∷ [])) tt k h) (front_found k (verb_rules t tied (λ p. object s p e ∷ [])) (end_rules t tied e) (verb_rules_kinds t tied (λ p. object s p e ∷ []) k ∙ h));
}

pub verbs_bracket : (place : Place) (n : ℕ) → Verbs (bracket place n) n bracket_end (after_properties place n)
unfolding all
verbs_bracket place n = record { rules = λ t tied k h. rw (apart (among verb_kinds) (among (close_bracket ∷ [])) tt k h) }

pub verbs_label : (n : ℕ) → Verbs (label_or_subject n) n full_stop []
unfolding all
verbs_label n = record { rules = λ t tied k h. rw (apart (among verb_kinds) (among (open_brace ∷ [])) tt k h) }

verb_a : (k : Kind) → among verb_kinds k ≡ true → among iris k ≡ false → kw_a ≡ k
unfolding all same
verb_a k h p =
    same_eq kw_a k
    (imp_use (among verb_kinds k && not (among iris k)) (same kw_a k) (all_kinds (λ j. imp (among verb_kinds j && not (among iris j)) (same kw_a j)) tt k) (let x : (among verb_kinds k && not (among iris k)) ≡ true = rw (h, p) in subst T (sym x) tt))

-- A predicate's rule is made of the term's.
module _ (t : Token) (tied : Bool) (after : ℕ → List Frame) (k : Kind) (h : among verb_kinds k ≡ true) where
  verb_terms : (v : Write ℕ) → find_rule k (term_rules t) ≡ some v → find_rule k ((iris ⇒ iri_term t) ∷ (kw_a ∷ [] ⇒ term (iri rdf_type)) ∷ []) ≡ some v
  verb_terms v e =
      by (among iris k) (λ p. rw p (rw p at e))
      (λ p. subst (λ j. find_rule j (term_rules t) ≡ some v → find_rule j ((iris ⇒ iri_term t) ∷ (kw_a ∷ [] ⇒ term (iri rdf_type)) ∷ []) ≡ some v) (verb_a k h p) (λ x. x) e)

  verb_found : (v : Write ℕ) → find_rule k (term_rules t) ≡ some v → find_rule k (verb_rules t tied after) ≡ some (v >>= λ p. return (after p))
  verb_found v e = found_made (λ w. (w >>= λ p. return (after p))) k ((iris ⇒ iri_term t) ∷ (kw_a ∷ [] ⇒ term (iri rdf_type)) ∷ []) [] v (verb_terms v e)

pub verb_is_term : (k : Kind) → among verb_kinds k ≡ true → among (kw_a ∷ term_kinds) k ≡ true
unfolding all
verb_is_term k h = is_true (among (kw_a ∷ term_kinds) k) (imp_use (among verb_kinds k) (among (kw_a ∷ term_kinds) k) (all_kinds (λ j. imp (among verb_kinds j) (among (kw_a ∷ term_kinds) j)) tt k) (subst T (sym h) tt))

-- A predicate is read; its node is no object.
module _ (doc : Text) (a b : Held) (r : ℕ) (ready : Ready doc a) (here_token : TokenHere doc a.st) (z : kind_in a.st ≡ end_kind → ⊥) (list_0 : list_in a.st ≡ 0) (x_0 : get_or a.st x_word 0 ≡ 0) where
  pub alone : (v : Write ℕ) (m : Memory) → placed (spot_of a) v m ≡ v m
  unfolding placed
  alone v m = rw (begin_plain a 0 (get_or a.st y_word 0) x_0 refl list_0 m)

  pub verb_reads : PutsTerm doc a b r → among verb_kinds (here doc a).kind ≡ true → (f : Frame) (s : ℕ) (e : Ending) (after : List Frame) → Verbs f s e after → Reads doc (f ∷ []) (object s (node_in b.st) e ∷ after) a b r
  verb_reads P h f s e after verbs =
      let (v, q) = term_rule (here doc a) (here doc a).kind (verb_is_term (here doc a).kind h) in
      let N = (P v q).gives in
      reads_does doc f (object s (node_in b.st) e ∷ after) a b r ready (placed (spot_of a) v) here_token z N.does
      (λ tied. (
        (v >>= λ p. return (object s p e ∷ after)),
        (
          verbs.rules (here doc a) tied (here doc a).kind h ∙ verb_found (here doc a) tied (λ p. object s p e ∷ after) (here doc a).kind h v q,
          λ old m x. (
            ap (λ (y : ℕ × Memory). y.1) (sym (alone v m)),
            λ y. ap (λ (n : ℕ). object s n e ∷ after) (sym (N.node y old m x ∙ ap (λ (w : ℕ × Memory). w.0) (alone v m))),
          ),
        ),
      ))

-- Terms open and close no bracket.
pub term_depth : (t : Token) (d : ℕ) → among (kw_a ∷ term_kinds) t.kind ≡ true → new_depth d t ≡ d
unfolding new_depth all
term_depth t d h =
    rw (apart (among (kw_a ∷ term_kinds)) (among (open_bracket ∷ open_paren ∷ [])) tt t.kind h, apart (among (kw_a ∷ term_kinds)) (among (close_bracket ∷ close_paren ∷ [])) tt t.kind h)

-- ---- Behind an object

module _ (s : ℕ) (e : Ending) (k : ℕ) (n21 : k ≡ kind_code semicolon → ⊥) where
  pub ends_object : (p : ℕ) → (k ≡ kind_code comma → ⊥) → Ends (after_object s p e) e k
  ends_object p n20 z h t tied = rw (among_code (comma ∷ []) k z h, among_code (semicolon ∷ []) k z h, ne_eqb k (kind_code comma) n20, ne_eqb k (kind_code semicolon) n21)

  pub ends_semicolon : code_among verb_kinds k ≡ false → Ends (after_semicolon s e) e k
  ends_semicolon v z h t tied =
      rw (among_code (semicolon ∷ []) k z h, ne_eqb k (kind_code semicolon) n21)
      (front_none (kind_of_code k) (verb_rules t tied (λ p. object s p e ∷ [])) (end_rules t tied e) (verb_rules_kinds t tied (λ p. object s p e ∷ []) (kind_of_code k) ∙ (among_code verb_kinds k z h ∙ v)))

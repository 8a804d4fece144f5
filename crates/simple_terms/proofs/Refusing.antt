-- The refusals of a token, split: those of an IRI, of depth, and of room.
use mathlib.Core.Path.{◌≡◌, refl, sym, ap, ◌∙◌}
use mathlib.Core.List.{List, [], ◌∷◌, ◌++◌}
use mathlib.Core.Bool.{true, false}
use Prim.Native.Nat.{ℕ, ◌≤◌, ◌<◌}
use native.Mathlib.Omega.{arith}
use borrow.Author.Tests.{le-leb, lt-leb}
use Rattle.text.specs.Text.{Text}
use Rattle.token.specs.Kind.{kind_of_code, among, names, strings, IRIREF, open_bracket, open_paren}
use Rattle.token.specs.Tokens.{Token}
use Rattle.environment.specs.Environment.{Environment}
use Rattle.dataset.specs.Constructors.{nothing, awaiting}
use Rattle.table.specs.Tables.{or_zero}
use Rattle.machine.specs.Memory.{Memory, Write}
use Rattle.machine.specs.Refusals.{no_character, undeclared, no_base, too_long, too_deep, escape_tests, iri_tests, depth_tests, room_tests}
use Rattle.machine.specs.Call.{Room, Test, first_refusal}
use Rattle.machine.proofs.Firsts.{first_past, number_past, number_stands}
use Rattle.token_iri.specs.Tests.{iri_refusal}
use Rattle.state.specs.Words.{depth_in}
use Rattle.state.specs.Represents.{Tables, room_in, Represents, room_refusal, Puts}
use Rattle.simulation.specs.Simulation.{token_refusal}
use Rattle.simple_terms.specs.Leaves.{PutsToken}
use Rattle.limits.specs.Limits.{depth_limit}

-- ---- The tests of a token in two parts

module _ (room : Room) (depth : ℕ) (e : Environment) (t : Token) (m : Memory) where
  -- Those of an IRI.
  abbrev first_tests : List Test
  first_tests = escape_tests t ++ iri_tests (awaiting nothing e) t

  -- Those of depth and room.
  abbrev later_tests : List Test
  later_tests = depth_tests depth t ++ room_tests room m

  -- Where none of an IRI holds, the others tell.
  refusal_later : iri_refusal (awaiting nothing e) t ≡ 0 → token_refusal room depth e t m ≡ or_zero (first_refusal later_tests)
  unfolding token_refusal iri_refusal
  refusal_later i = number_past first_tests later_tests refl i

  pub refusal_room : iri_refusal (awaiting nothing e) t ≡ 0 → too_deep depth t ≡ false → token_refusal room depth e t m ≡ room_refusal room m
  unfolding room_refusal
  refusal_room i d = refusal_later i ∙ ap or_zero (first_past (depth_tests depth t) (room_tests room m) (d, tt))

  pub refusal_deep : iri_refusal (awaiting nothing e) t ≡ 0 → too_deep depth t ≡ true → token_refusal room depth e t m ≡ 13
  refusal_deep i d = refusal_later i ∙ rw d

  pub refusal_iri : (iri_refusal (awaiting nothing e) t ≡ 0 → ⊥) → token_refusal room depth e t m ≡ iri_refusal (awaiting nothing e) t
  unfolding token_refusal iri_refusal
  refusal_iri z = number_stands first_tests later_tests z

-- ---- Kinds

-- A kind whose tokens stand for no IRI and hold no escapes.
pub record Plain (k : ℕ) : Type 0 where
  pub escapes : among (IRIREF ∷ strings) (kind_of_code k) ≡ false
  pub reference : among (IRIREF ∷ []) (kind_of_code k) ≡ false
  pub name : among names (kind_of_code k) ≡ false

pub plain_refusal : (e : Environment) (t : Token) (k : ℕ) → t.kind ≡ kind_of_code k → Plain k → iri_refusal (awaiting nothing e) t ≡ 0
unfolding iri_refusal no_character undeclared no_base too_long
plain_refusal e t k h p = rw (h, p.escapes, p.reference, p.name)

pub flat : (depth : ℕ) (t : Token) (k : ℕ) → t.kind ≡ kind_of_code k → among (open_bracket ∷ open_paren ∷ []) (kind_of_code k) ≡ false → too_deep depth t ≡ false
unfolding too_deep
flat depth t k h o = rw (h, o)

pub shallow : (depth : ℕ) (t : Token) (k : ℕ) → t.kind ≡ kind_of_code k → among (open_bracket ∷ open_paren ∷ []) (kind_of_code k) ≡ true → depth < depth_limit → too_deep depth t ≡ false
unfolding too_deep
shallow depth t k h o l = rw (h, o, lt-leb depth_limit depth l)

pub deep : (depth : ℕ) (t : Token) (k : ℕ) → t.kind ≡ kind_of_code k → among (open_bracket ∷ open_paren ∷ []) (kind_of_code k) ≡ true → depth_limit ≤ depth → too_deep depth t ≡ true
unfolding too_deep
deep depth t k h o l = rw (h, o, le-leb depth_limit depth l)

-- ---- What a write with its tests of room says of the token

module _ (token : Token) (w : Write ℕ) (work work' : Text) (t t' : Tables) (st st' : List ℕ) (r : ℕ) where
  pub puts_token : ((old : Tables) (m : Memory) → Represents old m work t st → iri_refusal (awaiting nothing m.environment) token ≡ 0) → too_deep (depth_in st) token ≡ false
      → Puts w work work' t t' st st' r → PutsToken token w work work' t t' st st' r
  puts_token i d p = record {
    refusal = λ old m h. p.room old m h ∙ sym (refusal_room (room_in t) (depth_in st) m.environment token (w m).1 (i old m h) d);
    wrote = p.wrote;
    stays = p.stays;
    words = p.words;
  }

  -- The same of a kind without refusals of its own.
  pub puts_plain : (k : ℕ) → token.kind ≡ kind_of_code k → Plain k → too_deep (depth_in st) token ≡ false → Puts w work work' t t' st st' r → PutsToken token w work work' t t' st st' r
  puts_plain k e q d p = puts_token (λ old m h. plain_refusal m.environment token k e q) d p

-- Nothing is written where a token is refused by itself.
module _ (token : Token) (w : Write ℕ) (work : Text) (t : Tables) (st : List ℕ) where
  pub refused_token : (r : ℕ) → (r ≡ 0 → ⊥) → ((old : Tables) (m : Memory) → Represents old m work t st → r ≡ token_refusal (room_in t) (depth_in st) m.environment token (w m).1) → PutsToken token w work work t t st st r
  refused_token r z e = record { refusal = e; wrote = λ x. absurd (z x); stays = λ k h. refl; words = refl }

  pub refused_deep : (k : ℕ) → token.kind ≡ kind_of_code k → Plain k → among (open_bracket ∷ open_paren ∷ []) (kind_of_code k) ≡ true → depth_limit ≤ depth_in st → PutsToken token w work work t t st st 13
  refused_deep k e q o l =
      refused_token 13 (λ x. omega arith)
      (λ old m h. sym (refusal_deep (room_in t) (depth_in st) m.environment token (w m).1 (plain_refusal m.environment token k e q) (deep (depth_in st) token k e o l)))

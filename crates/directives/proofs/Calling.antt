-- What the readers of a directive's parts ask for, and what stands in the document.
use mathlib.Core.Path.{◌≡◌, refl, sym, ap, ◌∙◌, subst}
use mathlib.Core.List.{List}
use mathlib.Core.Bool.{Bool, true, false, ◌||◌}
use Prim.Native.Nat.{ℕ, ◌+◌, ◌-◌, ◌≤◌}
use native.Mathlib.Omega.{arith}
use borrow.Author.Tests.{ne_eqb, eqb-true}
use lib.Dec.{eqb}
use lib.ListN.{length, get_or, take, drop, length-drop}
use lib.Seq.{length-take-le, take-take, get_or-take}
use denote.Ref.{MutBor}
use Rattle.text.specs.Text.{Text, is}
use Rattle.text.proofs.Compare.{contrary}
use Rattle.token.specs.Kind.{kind_code, end_kind, unreadable_kind, IRIREF, at_prefix, at_base, PREFIX, BASE}
use Rattle.token.specs.Regular.{hit}
use Rattle.token.specs.Terminals.{token_at}
use Rattle.utf8.specs.Utf8.{decode}
use Rattle.iri.specs.Code.{before}
use Rattle.iri.proofs.Places.{until_take}
use Rattle.environment.specs.Code.{environment_in, Usable, Beside, words_size}
use Rattle.environment.proofs.Directives.{in_force_words}
use Rattle.state.specs.Words.{kind_in, at_in, len_in}
use Rattle.state.specs.Cursor.{Cursor, TokenHere}
use Rattle.token_iri.specs.Tests.{Sound}
use Rattle.token_iri.specs.Addresses.{DeclaresNamespace, DeclaresBase}
use Rattle.token_iri.proofs.Begins.{iriref_begins}
use Rattle.simulation.specs.Simulation.{code_among, held, Ready}
use Rattle.nodes.specs.Nodes.{Passed}
use Rattle.nodes.proofs.Moving.{token_words, cursor_words}
use Rattle.directives.specs.Directives.{directive_kinds, Able, Prefix, Prefixed}
use Rattle.limits.specs.Limits.{prefix_limit}

pub able_ready : (doc : Text) (work rows terms store : MutBor (List ℕ)) (st : List ℕ) → Ready doc (held work rows terms store st) → Able doc work.now st
able_ready doc work rows terms store st r =
    let (old, (m, h)) = r.holds in
    record { cursor = r.cursor; usable = h.usable; sound = subst Sound (sym h.environment) h.base }

-- Behind a token that writes nothing.
pub able_passed : (doc work : Text) (st st' : List ℕ) (d g : ℕ) → Able doc work st → Passed doc st st' d g → Able doc work st'
able_passed doc work st st' d g a p =
    record { cursor = p.cursor; usable = record { room = a.usable.room; words = p.words ∙ a.usable.words }; sound = subst Sound (sym (in_force_words work st st' (λ k h. p.before k (omega arith)))) a.sound }

module _ (doc work : Text) (st : List ℕ) (a : Able doc work st) where
  token_kind : (k : ℕ) → kind_in st ≡ k → (k ≡ end_kind → ⊥) → (k ≡ unreadable_kind → ⊥) → TokenHere doc st
  token_kind k e z y = a.cursor.token (λ h. z (sym e ∙ h)) (λ h. y (sym e ∙ h))

  pub pass_call : (k : ℕ) → kind_in st ≡ k → (k ≡ end_kind → ⊥) → (k ≡ unreadable_kind → ⊥) → (Cursor doc st × TokenHere doc st) × (length st ≡ words_size)
  pass_call k e z y = ((a.cursor, token_kind k e z y), a.usable.words)

  -- Also where what is in force was changed.
  pub changed_call : (work' : Text) (st' : List ℕ) → kind_in st ≡ kind_code IRIREF → Beside work work' st st' → length st' ≡ length st → (Cursor doc st' × TokenHere doc st') × (length st' ≡ words_size)
  changed_call work' st' e b n =
      ((cursor_words doc st st' (λ k x y. b.own k (omega arith)) a.cursor, token_words doc st st' (λ k x y. b.own k (omega arith)) (token_kind (kind_code IRIREF) e (λ z. omega arith) (λ z. omega arith))), n ∙ a.usable.words)

  -- The token of an IRIREF begins with "<".
  module _ (e : kind_in st ≡ kind_code IRIREF) where
    begun : get_or (take ((at_in st + len_in st) - at_in st) (drop (at_in st) doc)) 0 0 ≡ 60
    begun =
        let t = token_kind (kind_code IRIREF) e (λ z. omega arith) (λ z. omega arith) in
        get_or-take ((at_in st + len_in st) - at_in st) (drop (at_in st) doc) 0 0 (omega (arith, t.some_byte))
        ∙ iriref_begins (drop (at_in st) doc) t.here_valid (len_in st) (subst (λ (k : ℕ). token_at (decode (drop (at_in st) doc)) ≡ hit k (len_in st)) e t.matched)

    pub base_call : (get_or (take ((at_in st + len_in st) - at_in st) (drop (at_in st) doc)) 0 0 ≡ 60) × (Usable work st × Sound (environment_in work st))
    base_call = (begun, (a.usable, a.sound))

    pub namespace_call : (start end : ℕ) → Prefix doc start end
        → (get_or (take ((at_in st + len_in st) - at_in st) (drop (at_in st) doc)) 0 0 ≡ 60) × ((length (take (end - start) (drop start doc)) ≤ prefix_limit) × (Usable work st × Sound (environment_in work st)))
    namespace_call start end p = (begun, (rw (length-take-le (end - start) (drop start doc) (omega (arith, p.order, p.inside, length-drop start doc))) p.short, (a.usable, a.sound)))

-- The part of the document is the token.
pub base_token : (doc work work' : Text) (st st' : List ℕ) (r : ℕ) → DeclaresBase (take ((at_in st + len_in st) - at_in st) (drop (at_in st) doc)) work work' st st' r
    → DeclaresBase (take (len_in st) (drop (at_in st) doc)) work work' st st' r
base_token doc work work' st st' r d =
    let n : (at_in st + len_in st) - at_in st ≡ len_in st = omega arith in
    subst (λ (k : ℕ). DeclaresBase (take k (drop (at_in st) doc)) work work' st st' r) n d

pub namespace_token : (doc p work work' : Text) (st st' : List ℕ) (r : ℕ) → DeclaresNamespace (take ((at_in st + len_in st) - at_in st) (drop (at_in st) doc)) p work work' st st' r
    → DeclaresNamespace (take (len_in st) (drop (at_in st) doc)) p work work' st st' r
namespace_token doc p work work' st st' r d =
    let n : (at_in st + len_in st) - at_in st ≡ len_in st = omega arith in
    subst (λ (k : ℕ). DeclaresNamespace (take k (drop (at_in st) doc)) p work work' st st' r) n d

-- The prefix ends at the first colon.
pub prefix_there : (doc : Text) (at len n : ℕ) → at + len ≤ length doc → n ≡ before (is ":") (take ((at + len) - at) (drop at doc)) → n ≤ length (take ((at + len) - at) (drop at doc)) → Prefixed doc at len n
prefix_there doc at len n h e l =
    let k : (at + len) - at ≡ len = omega arith in
    let m : n ≤ length (take len (drop at doc)) = subst (λ (i : ℕ). n ≤ length (take i (drop at doc))) k l in
    let w : length (take len (drop at doc)) ≡ len = length-take-le len (drop at doc) (omega (arith, length-drop at doc)) in
    let b : before (is ":") (take len (drop at doc)) ≡ n = sym (subst (λ (i : ℕ). n ≡ before (is ":") (take i (drop at doc))) k e) in
    record {
      is_prefix = until_take (is ":") (take len (drop at doc)) ∙ (ap (λ (i : ℕ). take i (take len (drop at doc))) b ∙ take-take n len (drop at doc) (omega (arith, m, w)));
      inside = omega (arith, m, w);
    }

pub prefix_fits : (doc : Text) (at len n : ℕ) → at + len ≤ length doc → Prefixed doc at len n → n ≤ prefix_limit → Prefix doc at (at + n)
prefix_fits doc at len n h p l = record { order = omega arith; inside = omega (arith, p.inside); short = omega arith }

-- ---- The keyword

pub keyword_some : (k : ℕ) → code_among directive_kinds k ≡ true → k ≡ end_kind → ⊥
keyword_some k h e = contrary (sym (subst (λ (x : ℕ). code_among directive_kinds x ≡ true) e h))

pub keyword_read : (k : ℕ) → code_among directive_kinds k ≡ true → k ≡ unreadable_kind → ⊥
keyword_read k h e = contrary (sym (subst (λ (x : ℕ). code_among directive_kinds x ≡ true) e h))

pub keyword_last : (k : ℕ) → code_among directive_kinds k ≡ true → (k ≡ kind_code at_prefix → ⊥) → (k ≡ kind_code PREFIX → ⊥) → (k ≡ kind_code at_base → ⊥) → k ≡ kind_code BASE
keyword_last k h x y z = eqb-true k (kind_code BASE) (only (eqb k (kind_code BASE)) (rw (ne_eqb k (kind_code at_prefix) x, ne_eqb k (kind_code PREFIX) y, ne_eqb k (kind_code at_base) z) at h))
  where
    only : (b : Bool) → (b || false) ≡ true → b ≡ true
    only true e = refl
    only false e = e

-- Where reading starts: the machine's first memory is held, and the cursor is at the first token.
use mathlib.Core.Path.{◌≡◌, refl, sym, ap, ◌∙◌}
use mathlib.Core.List.{List, [], ◌∷◌}
use mathlib.Core.Bool.{Bool, true, false, not, ◌||◌}
use mathlib.Core.Option.{none}
use mathlib.Core.Logic.{inl, inr}
use Prim.Native.Nat.{ℕ, zero, suc, ◌-◌, ◌≤◌, ◌<◌}
use native.Mathlib.Omega.{arith}
use borrow.Author.Tests.{ltb-false, le-leb}
use denote.Ref.{at_last}
use lib.Dec.{ltb}
use lib.ListN.{length, get_or, drop, replicate, length-replicate}
use Rattle.text.specs.Text.{Text, empty, some_byte, is_none}
use Rattle.text.proofs.Compare.{contrary}
use Rattle.limits.specs.Limits.{document_limit, iri_limit, work_size}
use Rattle.utf8.specs.Utf8.{first_bad}
use Rattle.token.specs.Tokens.{lexemes}
use Rattle.lexer.specs.Rest.{rest}
use Rattle.lexer_words.specs.Ahead.{Clear}
use Rattle.lexer_words.proofs.Clearing.{clear_none}
use Rattle.iri.specs.Iri.{has_scheme, forbidden}
use Rattle.environment.specs.Environment.{start_environment}
use Rattle.std.specs.Prelude.{Result, is_ok}
use Rattle.environment.specs.declared.BaseTooLong.{BaseTooLong}
use Rattle.environment.specs.Code.{words_size, environment_in, listed, base_cell, cell, Usable, SetsBase}
use Rattle.environment.proofs.Directives.{in_force_words}
use Rattle.text.proofs.Zeros.{zeros, zero_at}
use Rattle.table.specs.Tables.{rows_words, store_size}
use Rattle.term_tree.proofs.Indexes.{holds_none}
use Rattle.machine.specs.Memory.{start_memory}
use Rattle.machine.specs.Read.{bad_base}
use Rattle.state.specs.Words.{counts_of, blanks_word, clear_word, depth_word, graph_word, kind_word, rows_word, terms_word, used_word}
use Rattle.state.specs.Cursor.{Sought}
use Rattle.simulation.specs.Simulation.{Holding, held, tables_of, Same, Ready}
use Rattle.state.specs.declared.Held.{Held}
use Rattle.reader.specs.Stages.{Checked, Started}

-- ---- The base

not_long : (a b c d : Bool) → (a || b || c || d) ≡ false → a ≡ false
not_long true b c d e = contrary e
not_long false b c d e = refl

has : (a b c d : Bool) → (a || b || not c || d) ≡ false → c ≡ true
has true b c d e = contrary e
has false true c d e = contrary e
has false false true d e = refl
has false false false d e = contrary e

pub short_base : (b : Text) → bad_base b ≡ false → length b ≤ iri_limit
unfolding bad_base
short_base [] e = omega arith
short_base (x ∷ b) e = ltb-false iri_limit (length (x ∷ b)) (not_long (ltb iri_limit (length (x ∷ b))) (not (is_none (first_bad (x ∷ b)))) (not (has_scheme (x ∷ b))) (some_byte forbidden (x ∷ b)) e)

pub usable_base : (b : Text) → bad_base b ≡ false → (empty b || has_scheme b) ≡ true
unfolding bad_base
usable_base [] e = refl
usable_base (x ∷ b) e = has (ltb iri_limit (length (x ∷ b))) (not (is_none (first_bad (x ∷ b)))) (has_scheme (x ∷ b)) (some_byte forbidden (x ∷ b)) e

-- ---- The array and the work slice

drop_zeros : (k n : ℕ) → drop k (zeros n) ≡ zeros (n - k)
drop_zeros zero n = let e : n - 0 ≡ n = omega arith in rw e
drop_zeros (suc k) zero = let e : 0 - suc k ≡ 0 = omega arith in rw e
drop_zeros (suc k) (suc n) = let e : suc n - suc k ≡ n - k = omega arith in rw e (drop_zeros k n)

nothing_in_force : (work : Text) → environment_in work (zeros words_size) ≡ start_environment []
unfolding environment_in listed base_cell cell
nothing_in_force work = refl

from_first : (doc : Text) → lexemes doc ≡ rest doc 0
unfolding lexemes rest
from_first doc = refl

module _ {doc base work work₁ work₂ : Text} {st st₁ : List ℕ} {b : Result (Unit {0}) BaseTooLong} (K : Checked doc base work) (e : work₁ ≡ replicate (length work) 0) (f : st ≡ replicate words_size 0)
    (sets : Usable work₁ st → SetsBase work₁ work₂ st st₁ base b) where
  long₁ : length work₁ ≡ length work
  long₁ = ap length e ∙ length-replicate {A = ℕ} (length work) 0

  set : SetsBase work₁ work₂ st st₁ base b
  set = sets (record { room = omega (arith, long₁, K.room); words = ap length f ∙ length-replicate {A = ℕ} words_size 0 })

  pub can_seek : ((length doc ≤ document_limit) × (0 ≤ length doc)) × ((first_bad (drop 0 doc) ≡ none) × (Clear (drop 0 doc) 0 × (length st₁ ≡ words_size)))
  can_seek = ((K.size, omega arith), (K.utf8, (clear_none doc, set.usable.words)))

  based : environment_in work₂ st₁ ≡ start_environment base
  based =
      let true_is : is_ok b ≡ true = set.answer ∙ le-leb (length base) iri_limit (short_base base K.good_base) in
      let none_yet : environment_in work₁ st ≡ start_environment [] = ap (environment_in work₁) f ∙ nothing_in_force work₁ in
      set.after ∙ rw (true_is, none_yet)

  long₂ : length work₂ ≡ length work
  long₂ = set.beside.long ∙ long₁

  -- What is lent stays lent, each in its place.
  pub lasts : (h : Held) → h.work.now ≡ work → h.st ≡ st → (st₂ : List ℕ) → Sought doc 0 st₁ st₂ → Same h (held (at_last h.work work₂) h.rows h.terms h.store st₂)
  lasts h w s st₂ Q = record {
    work = refl;
    rows = refl;
    terms = refl;
    store = refl;
    work_length = long₂ ∙ ap length (sym w);
    rows_length = refl;
    terms_length = refl;
    store_length = refl;
    words = Q.words ∙ (set.usable.words ∙ sym (ap length (s ∙ f) ∙ length-replicate {A = ℕ} words_size 0));
  }

  -- The cursor goes to the first token.
  pub started : (st₂ : List ℕ) → Sought doc 0 st₁ st₂ → Started doc base work work₂ st₂
  started st₂ Q =
      let zero_own : (k : ℕ) → rows_word ≤ k → get_or st₁ k 0 ≡ 0 = λ k h. set.beside.own k h ∙ (ap (λ (l : List ℕ). get_or l k 0) f ∙ zero_at words_size k) in
      let before : (k : ℕ) → rows_word ≤ k → k < kind_word → get_or st₂ k 0 ≡ 0 = λ k h g. Q.beside k (inl g) ∙ zero_own k h in
      let behind : (k : ℕ) → clear_word < k → get_or st₂ k 0 ≡ 0 = λ k h. Q.beside k (inr h) ∙ zero_own k (omega arith) in
      record {
        long = long₂;
        usable = record { room = omega (arith, long₂, K.room); words = Q.words ∙ set.usable.words };
        environment = in_force_words work₂ st₁ st₂ (λ k h. Q.beside k (inl (omega arith))) ∙ based;
        index = set.beside.behind ∙ (ap (drop work_size) e ∙ (drop_zeros work_size (length work) ∙ ap (λ (n : ℕ). zeros (n - work_size)) (sym long₂)));
        rows = before rows_word (omega arith) (omega arith);
        terms = before terms_word (omega arith) (omega arith);
        used = before used_word (omega arith) (omega arith);
        blanks = before blanks_word (omega arith) (omega arith);
        depth = behind depth_word (omega arith);
        graph = behind graph_word (omega arith);
        cursor = Q.cursor;
        tokens = from_first doc ∙ Q.tokens;
      }

-- ---- The first memory

module _ {doc base old : Text} (h : Held) (good : bad_base base ≡ false) (S : Started doc base old h.work.now h.st) where
  pub holds_start : Holding (tables_of h) (start_memory base) h
  unfolding rows_words store_size
  holds_start = record {
    usable = S.usable;
    environment = S.environment;
    base = usable_base base good;
    terms_held = rw S.index (holds_none h.terms.now h.store.now (length h.work.now - work_size) (counts_of h.st) S.terms S.used S.blanks);
    rows_held = record { words = rw S.rows; size = S.rows };
    graph = S.graph;
    graph_small = omega arith;
    fits = record { rows = omega arith; terms = omega arith; store = omega arith };
    same_rows = refl;
    same_terms = refl;
    same_store = refl;
  }

  pub ready_start : Ready doc h
  ready_start = record { cursor = S.cursor; holds = (tables_of h, (start_memory base, holds_start)); depth = omega (arith, S.depth) }

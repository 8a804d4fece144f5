-- What the cursor's words hold once they are put.
use mathlib.Core.Path.{◌≡◌, refl, ap, sym, subst, ◌∙◌}
use mathlib.Core.Logic.{⊎_elim}
use mathlib.Core.List.{List, [], ◌∷◌}
use mathlib.Core.Option.{none}
use Prim.Native.Nat.{ℕ, ◌+◌, ◌-◌, ◌≤◌, ◌<◌}
use native.Mathlib.Omega.{arith}
use lib.Dec.{ltb}
use lib.ListN.{length, get_or, set, take, drop, length-set, length-drop}
use lib.Seq.{get_or-set_same, get_or-set_other, take_all}
use borrow.Author.Tests.{ne_eqb, lt-ltb, le-ltb, ltb-true, ltb-false}
use Rattle.token.specs.Kind.{last_kind, end_kind, unreadable_kind}
use Rattle.std.specs.Prelude.{Option, Some, None}
use Rattle.environment.specs.Code.{words_size}
use Rattle.text.specs.Text.{Text}
use Rattle.text.proofs.Compare.{by}
use Rattle.utf8.specs.Utf8.{first_bad}
use Rattle.automaton.specs.declared.Next.{Next}
use Rattle.lexer.specs.Rest.{rest}
use Rattle.lexer.specs.Blanks.{BlanksAt}
use Rattle.limits.specs.Limits.{document_limit}
use Rattle.lexer.proofs.Cutting.{read_token, read_nothing, read_end}
use Rattle.lexer_words.specs.Ahead.{Clear, NextAt}
use Rattle.token.specs.Tokens.{token, unreadable}
use Rattle.state.specs.Words.{kind_word, at_word, len_word, clear_word, kind_in, at_in, len_in}
use Rattle.state.specs.Cursor.{ahead, token_of, StaysBeside, Sought}
use Rattle.cursor.specs.Code.{put_token, kind_of_none}

-- The words after they are put.
pub record Put (st st' : List ℕ) (kind at len clear : ℕ) : Type 0 where
  pub kind_is : kind_in st' ≡ kind
  pub at_is : at_in st' ≡ at
  pub len_is : len_in st' ≡ len
  pub clear_is : get_or st' clear_word 0 ≡ clear
  pub beside : StaysBeside st st'
  pub words : length st' ≡ length st

module _ (st : List ℕ) (kind at len clear : ℕ) (n : length st ≡ words_size) where
  abbrev s1 : List ℕ
  s1 = set st kind_word kind

  abbrev s2 : List ℕ
  s2 = set s1 at_word at

  abbrev s3 : List ℕ
  s3 = set s2 len_word len

  abbrev s4 : List ℕ
  s4 = set s3 clear_word clear

  l1 : length s1 ≡ words_size
  l1 = length-set st kind_word kind ∙ n

  l2 : length s2 ≡ words_size
  l2 = length-set s1 at_word at ∙ l1

  l3 : length s3 ≡ words_size
  l3 = length-set s2 len_word len ∙ l2

  other : (k : ℕ) → (k ≡ kind_word → ⊥) → (k ≡ at_word → ⊥) → (k ≡ len_word → ⊥) → (k ≡ clear_word → ⊥) → get_or s4 k 0 ≡ get_or st k 0
  other k a b c d =
      get_or-set_other s3 clear_word k clear 0 d ∙ (get_or-set_other s2 len_word k len 0 c ∙ (get_or-set_other s1 at_word k at 0 b ∙ get_or-set_other st kind_word k kind 0 a))

  pub put_is : Put st (put_token st kind at len clear) kind at len clear
  unfolding put_token
  put_is = record {
    kind_is =
        get_or-set_other s3 clear_word kind_word clear 0 (λ e. omega arith) ∙ (get_or-set_other s2 len_word kind_word len 0 (λ e. omega arith) ∙ (get_or-set_other s1 at_word kind_word at 0 (λ e. omega arith) ∙ get_or-set_same st kind_word kind 0 (omega arith)));
    at_is = get_or-set_other s3 clear_word at_word clear 0 (λ e. omega arith) ∙ (get_or-set_other s2 len_word at_word len 0 (λ e. omega arith) ∙ get_or-set_same s1 at_word at 0 (omega (arith, l1)));
    len_is = get_or-set_other s3 clear_word len_word clear 0 (λ e. omega arith) ∙ get_or-set_same s2 len_word len 0 (omega (arith, l2));
    clear_is = get_or-set_same s3 clear_word clear 0 (omega (arith, l3));
    beside = λ k h. ⊎_elim (λ a. other k (λ e. omega arith) (λ e. omega arith) (λ e. omega arith) (λ e. omega arith)) (λ a. other k (λ e. omega arith) (λ e. omega arith) (λ e. omega arith) (λ e. omega arith)) h;
    words = length-set s3 clear_word clear ∙ (l3 ∙ sym n);
  }

-- The tokens ahead, by what the cursor holds.
pub ahead_token : (doc : Text) (kind at len : ℕ) → (kind ≡ end_kind → ⊥) → kind ≤ last_kind → ahead doc kind at len ≡ token (token_of doc kind at len) ∷ rest doc (at + len)
unfolding ahead
ahead_token doc kind at len z h = rw (ne_eqb kind 0 z, ne_eqb kind unreadable_kind (λ e. omega arith))

pub ahead_none : (doc : Text) (at len : ℕ) → ahead doc unreadable_kind at len ≡ unreadable at ∷ []
unfolding ahead
ahead_none doc at len = refl

pub ahead_end : (doc : Text) (at len : ℕ) → ahead doc 0 at len ≡ []
unfolding ahead
ahead_end doc at len = refl

pub there_none : (at n : ℕ) → at < n → kind_of_none at n ≡ unreadable_kind
unfolding kind_of_none
there_none at n h = rw (lt-ltb at n h)

pub there_end : (at n : ℕ) → n ≤ at → kind_of_none at n ≡ end_kind
unfolding kind_of_none
there_end at n h = rw (le-ltb at n h)

module _ (doc : Text) (at b clear : ℕ) (size : length doc ≤ document_limit) (within : at ≤ length doc) (v : first_bad (drop at doc) ≡ none) (c : Clear (drop at doc) clear)
    (g : BlanksAt (drop at doc) b) (h : b ≤ length doc - at) (st st' : List ℕ) where
  sought_token : (r : Next) → NextAt (drop (at + b) doc) (clear - b) (Some r) → r.token.len ≤ length doc - (at + b) → Put st st' r.token.kind (at + b) r.token.len r.clear → Sought doc at st st'
  sought_token r m hn p =
      let t = read_token doc at b clear v c g r m in
      let k = p.kind_is in
      record {
        cursor = record {
          size = size;
          inside = rw (p.at_is, p.len_is) (omega arith);
          at_end = λ e. absurd (t.some_kind (sym k ∙ e));
          token = λ y x. record {
            known = rw k t.known;
            some_byte = rw p.len_is t.some_byte;
            here_valid = rw p.at_is t.here_valid;
            matched = rw (p.at_is, p.len_is, k) t.matched;
            valid = rw (p.at_is, p.len_is) t.valid;
            clear = rw (p.at_is, p.len_is, p.clear_is) t.clear;
          };
        };
        tokens = rw (k, p.at_is, p.len_is) (t.tokens ∙ sym (ahead_token doc r.token.kind (at + b) r.token.len t.some_kind t.known));
        later = rw p.at_is (omega arith);
        beside = p.beside;
        words = p.words;
      }

  sought_none : NextAt (drop (at + b) doc) (clear - b) None → at + b < length doc → Put st st' (kind_of_none (at + b) (length doc)) (at + b) 0 0 → Sought doc at st st'
  sought_none m l p =
      let k : kind_in st' ≡ unreadable_kind = p.kind_is ∙ there_none (at + b) (length doc) l in
      record {
        cursor = record {
          size = size;
          inside = rw (p.at_is, p.len_is) (omega arith);
          at_end = λ e. absurd (omega (arith, sym k ∙ e));
          token = λ y x. absurd (x k);
        };
        tokens = rw (k, p.at_is) (read_nothing doc at b clear v c g m l ∙ sym (ahead_none doc (at + b) (len_in st')));
        later = rw p.at_is (omega arith);
        beside = p.beside;
        words = p.words;
      }

  sought_end : length doc ≤ at + b → Put st st' (kind_of_none (at + b) (length doc)) (at + b) 0 0 → Sought doc at st st'
  sought_end l p =
      let k : kind_in st' ≡ end_kind = p.kind_is ∙ there_end (at + b) (length doc) l in
      record {
        cursor = record {
          size = size;
          inside = rw (p.at_is, p.len_is) (omega arith);
          at_end = λ e. p.at_is ∙ omega arith;
          token = λ y x. absurd (y k);
        };
        tokens = rw (k, p.at_is) (read_end doc at b clear v c g l ∙ sym (ahead_end doc (at + b) (len_in st')));
        later = rw p.at_is (omega arith);
        beside = p.beside;
        words = p.words;
      }

rest_of : (doc : Text) (i : ℕ) → take (length doc - i) (drop i doc) ≡ drop i doc
rest_of doc i = take_all (length doc - i) (drop i doc) (omega (arith, length-drop i doc))

-- The same of the parts that the code lends on.
module _ (doc : Text) (at b clear mc : ℕ) (st st' : List ℕ) (size : length doc ≤ document_limit) (within : at ≤ length doc) (v : first_bad (drop at doc) ≡ none)
    (c : Clear (drop at doc) clear) (g : BlanksAt (take (length doc - at) (drop at doc)) b) (em : mc ≡ clear - b) (r : Option Next)
    (m : NextAt (take (length doc - (at + b)) (drop (at + b) doc)) mc r) (n : length st ≡ words_size) where
  blanks : BlanksAt (drop at doc) b
  blanks = subst (λ (x : Text). BlanksAt x b) (rest_of doc at) g

  next : NextAt (drop (at + b) doc) (clear - b) r
  next = subst (λ (x : ℕ). NextAt (drop (at + b) doc) x r) em (subst (λ (x : Text). NextAt x mc r) (rest_of doc (at + b)) m)

  put_law : (k len cl : ℕ) → st' ≡ put_token st k (at + b) len cl → Put st st' k (at + b) len cl
  put_law k len cl e = subst (λ (x : List ℕ). Put st x k (at + b) len cl) (sym e) (put_is st k (at + b) len cl n)

  pub seek_token : (x : Next) → r ≡ Some x → st' ≡ put_token st x.token.kind (at + b) x.token.len x.clear → Sought doc at st st'
  seek_token x e s =
      let q = subst (NextAt (drop (at + b) doc) (clear - b)) e next in
      sought_token doc at b clear size within v c blanks (omega (arith, blanks.within, length-drop at doc)) st st' x q
      (omega (arith, q.within, length-drop (at + b) doc)) (put_law x.token.kind x.token.len x.clear s)

  pub seek_none : r ≡ None → (k : ℕ) → k ≡ kind_of_none (at + b) (length doc) → st' ≡ put_token st k (at + b) 0 0 → Sought doc at st st'
  seek_none e k f s =
      let p = put_law (kind_of_none (at + b) (length doc)) 0 0 (s ∙ ap (λ (x : ℕ). put_token st x (at + b) 0 0) f) in
      let h : b ≤ length doc - at = omega (arith, blanks.within, length-drop at doc) in
      by (ltb (at + b) (length doc))
      (λ w. sought_none doc at b clear size within v c blanks h st st' (subst (NextAt (drop (at + b) doc) (clear - b)) e next) (ltb-true (at + b) (length doc) w) p)
      (λ w. sought_end doc at b clear size within v c blanks h st st' (ltb-false (at + b) (length doc) w) p)

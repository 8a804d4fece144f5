-- The array's words after the cursor has moved, and after a place was put into it.
use mathlib.Core.Path.{◌≡◌, sym, ap, ◌∙◌, subst}
use mathlib.Core.Logic.{inl, inr}
use mathlib.Core.List.{List}
use Prim.Native.Nat.{ℕ, ◌+◌, ◌-◌, ◌≤◌, ◌<◌}
use native.Mathlib.Omega.{arith}
use lib.ListN.{length, get_or, set, length-set}
use lib.Seq.{get_or-set_same, get_or-set_other}
use Rattle.environment.specs.Code.{words_size}
use Rattle.text.specs.Text.{Text}
use Rattle.state.specs.Words.{kind_word, at_word, len_word, clear_word, depth_word, graph_word, last_word, list_word, opened_word, x_word, y_word, at_in, len_in, depth_in, graph_in}
use Rattle.state.specs.Cursor.{remaining, Cursor, TokenHere, Sought}
use Rattle.nodes.specs.Nodes.{Aimed, Passed}

-- The cursor is in four words.
module _ (doc : Text) (st st' : List ℕ) (same : (k : ℕ) → kind_word ≤ k → k ≤ clear_word → get_or st' k 0 ≡ get_or st k 0) where
  pub token_words : TokenHere doc st → TokenHere doc st'
  token_words t =
      record {
        known = rw (same kind_word (omega arith) (omega arith)) t.known;
        some_byte = rw (same len_word (omega arith) (omega arith)) t.some_byte;
        here_valid = rw (same at_word (omega arith) (omega arith)) t.here_valid;
        matched = rw (same kind_word (omega arith) (omega arith), same at_word (omega arith) (omega arith), same len_word (omega arith) (omega arith)) t.matched;
        valid = rw (same at_word (omega arith) (omega arith), same len_word (omega arith) (omega arith)) t.valid;
        clear = rw (same at_word (omega arith) (omega arith), same len_word (omega arith) (omega arith), same clear_word (omega arith) (omega arith)) t.clear;
      }

  pub cursor_words : Cursor doc st → Cursor doc st'
  cursor_words c =
      record {
        size = c.size;
        inside = rw (same at_word (omega arith) (omega arith), same len_word (omega arith) (omega arith)) c.inside;
        at_end = λ e. same at_word (omega arith) (omega arith) ∙ c.at_end (sym (same kind_word (omega arith) (omega arith)) ∙ e);
        token = λ x y. token_words (c.token (λ e. x (same kind_word (omega arith) (omega arith) ∙ e)) (λ e. y (same kind_word (omega arith) (omega arith) ∙ e)));
      }

  pub left_words : remaining doc st' ≡ remaining doc st
  left_words = rw (same kind_word (omega arith) (omega arith), same at_word (omega arith) (omega arith), same len_word (omega arith) (omega arith))

module _ (doc : Text) (st st' : List ℕ) (t : TokenHere doc st) (s : Sought doc (at_in st + len_in st) st st') where
  pub passed : Passed doc st st' (depth_in st) (graph_in st)
  passed =
      record {
        cursor = s.cursor;
        tokens = s.tokens;
        later = omega (arith, s.later, t.some_byte);
        depth_is = s.beside depth_word (inr (omega arith));
        graph_is = s.beside graph_word (inr (omega arith));
        before = λ k h. s.beside k (inl h);
        spot = λ k h. s.beside k (inr (omega arith));
        words = s.words;
      }

  -- One word more was put, behind the cursor's and before the place's.
  module _ (st'' : List ℕ) (i v : ℕ) (low : clear_word < i) (high : i < list_word) (n : length st ≡ words_size) (e : st'' ≡ set st' i v) where
    other : (k : ℕ) → (k ≡ i → ⊥) → get_or st'' k 0 ≡ get_or st' k 0
    other k h = ap (λ (l : List ℕ). get_or l k 0) e ∙ get_or-set_other st' i k v 0 h

    put_same : get_or st'' i 0 ≡ v
    put_same = ap (λ (l : List ℕ). get_or l i 0) e ∙ get_or-set_same st' i v 0 (omega (arith, s.words))

    passed_put : (d g : ℕ) → depth_in st'' ≡ d → graph_in st'' ≡ g → Passed doc st st'' d g
    passed_put d g ed eg =
        record {
          cursor = cursor_words doc st' st'' (λ k x y. other k (λ z. omega arith)) s.cursor;
          tokens = s.tokens ∙ sym (left_words doc st' st'' (λ k x y. other k (λ z. omega arith)));
          later = rw (other at_word (λ z. omega arith)) (omega (arith, s.later, t.some_byte));
          depth_is = ed;
          graph_is = eg;
          before = λ k h. other k (λ z. omega arith) ∙ s.beside k (inl h);
          spot = λ k h. other k (λ z. omega arith) ∙ s.beside k (inr (omega arith));
          words = ap length e ∙ (length-set st' i v ∙ s.words);
        }

  pub passed_leave : (st'' : List ℕ) → length st ≡ words_size → st'' ≡ set st' depth_word (depth_in st' - 1) → Passed doc st st'' (depth_in st - 1) (graph_in st)
  passed_leave st'' n e =
      passed_put st'' depth_word (depth_in st' - 1) (omega arith) (omega arith) n e (depth_in st - 1) (graph_in st)
      (put_same st'' depth_word (depth_in st' - 1) (omega arith) (omega arith) n e ∙ ap (λ (x : ℕ). x - 1) (s.beside depth_word (inr (omega arith))))
      (other st'' depth_word (depth_in st' - 1) (omega arith) (omega arith) n e graph_word (λ z. omega arith) ∙ s.beside graph_word (inr (omega arith)))

  pub passed_enter : (g : ℕ) (st'' : List ℕ) → length st ≡ words_size → st'' ≡ set st' graph_word g → Passed doc st st'' (depth_in st) g
  passed_enter g st'' n e =
      passed_put st'' graph_word g (omega arith) (omega arith) n e (depth_in st) g
      (other st'' graph_word g (omega arith) (omega arith) n e depth_word (λ z. omega arith) ∙ s.beside depth_word (inr (omega arith)))
      (put_same st'' graph_word g (omega arith) (omega arith) n e)

-- The five words of a place.
module _ (st : List ℕ) (list x y opened last : ℕ) (n : length st ≡ words_size) where
  abbrev s1 : List ℕ
  s1 = set st list_word list

  abbrev s2 : List ℕ
  s2 = set s1 x_word x

  abbrev s3 : List ℕ
  s3 = set s2 y_word y

  abbrev s4 : List ℕ
  s4 = set s3 opened_word opened

  l1 : length s1 ≡ words_size
  l1 = length-set st list_word list ∙ n

  l2 : length s2 ≡ words_size
  l2 = length-set s1 x_word x ∙ l1

  l3 : length s3 ≡ words_size
  l3 = length-set s2 y_word y ∙ l2

  l4 : length s4 ≡ words_size
  l4 = length-set s3 opened_word opened ∙ l3

  aimed_there : Aimed st (set s4 last_word last) list x y opened last
  aimed_there =
      record {
        list_is = past last_word last list_word s4 (λ e. omega arith) ∙ (past opened_word opened list_word s3 (λ e. omega arith) ∙ (past y_word y list_word s2 (λ e. omega arith) ∙ (past x_word x list_word s1 (λ e. omega arith) ∙ get_or-set_same st list_word list 0 (omega arith))));
        x_is = past last_word last x_word s4 (λ e. omega arith) ∙ (past opened_word opened x_word s3 (λ e. omega arith) ∙ (past y_word y x_word s2 (λ e. omega arith) ∙ get_or-set_same s1 x_word x 0 (omega (arith, l1))));
        y_is = past last_word last y_word s4 (λ e. omega arith) ∙ (past opened_word opened y_word s3 (λ e. omega arith) ∙ get_or-set_same s2 y_word y 0 (omega (arith, l2)));
        opened_is = past last_word last opened_word s4 (λ e. omega arith) ∙ get_or-set_same s3 opened_word opened 0 (omega (arith, l3));
        last_is = get_or-set_same s4 last_word last 0 (omega (arith, l4));
        before = λ k h. past last_word last k s4 (λ e. omega arith) ∙ (past opened_word opened k s3 (λ e. omega arith) ∙ (past y_word y k s2 (λ e. omega arith) ∙ (past x_word x k s1 (λ e. omega arith) ∙ get_or-set_other st list_word k list 0 (λ e. omega arith))));
        behind = λ k h. past last_word last k s4 (λ e. omega arith) ∙ (past opened_word opened k s3 (λ e. omega arith) ∙ (past y_word y k s2 (λ e. omega arith) ∙ (past x_word x k s1 (λ e. omega arith) ∙ get_or-set_other st list_word k list 0 (λ e. omega arith))));
        words = length-set s4 last_word last ∙ (l4 ∙ sym n);
      }
    where
      past : (i v k : ℕ) (l : List ℕ) → (k ≡ i → ⊥) → get_or (set l i v) k 0 ≡ get_or l k 0
      past i v k l h = get_or-set_other l i k v 0 h

  pub aimed : (st' : List ℕ) → st' ≡ set s4 last_word last → Aimed st st' list x y opened last
  aimed st' e = subst (λ (l : List ℕ). Aimed st l list x y opened last) (sym e) aimed_there

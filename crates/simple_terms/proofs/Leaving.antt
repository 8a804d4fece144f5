-- A token's node is written, and the cursor goes behind the token.
use mathlib.Core.Path.{◌≡◌, refl, sym, ap, ap₂, ◌∙◌}
use mathlib.Core.List.{List, [], ◌∷◌}
use mathlib.Core.Bool.{true, false}
use Prim.Native.Nat.{ℕ, ◌+◌, ◌-◌, ◌≤◌, ◌<◌}
use native.Mathlib.Omega.{arith}
use lib.ListN.{length, get_or, set, length-set}
use lib.Seq.{get_or-set_same, get_or-set_other}
use denote.Ref.{at_last}
use Rattle.text.specs.Text.{Text}
use Rattle.token.specs.Kind.{unreadable_kind, kind_of_code, among, kw_a, open_bracket, open_paren, close_bracket, close_paren}
use Rattle.lexer.specs.Rest.{rest}
use Rattle.environment.specs.Code.{words_size}
use Rattle.machine.specs.Memory.{Memory, Write}
use Rattle.machine.specs.Refusals.{too_deep, new_depth}
use Rattle.state.specs.Words.{kind_word, depth_word, graph_word, at_word, len_word, node_word, kind_in, depth_in, graph_in}
use Rattle.state.specs.Cursor.{Cursor, TokenHere}
use Rattle.state.specs.Represents.{Tables, lent_tables, Puts}
use Rattle.state.specs.Writes.{placed, closed}
use Rattle.simulation.specs.Simulation.{held, tables_of, here, Ready, Same, Gives}
use Rattle.state.specs.declared.Held.{Held}
use Rattle.nodes.specs.Nodes.{term_kinds, spot_of, Spotted, Numbers, Closes, Passed}
use Rattle.nodes.proofs.Moving.{token_words, cursor_words}
use Rattle.nodes.proofs.Passing.{represents_words}
use Rattle.nodes.proofs.Slots.{term_rule}
use Rattle.nodes.proofs.Predicates.{term_depth}
use Rattle.simulation.proofs.Tests.{among_code}
use Rattle.simple_terms.specs.Leaves.{spot_in, PutReady, PutsToken, PutsNode}
use Rattle.simple_terms.proofs.Numbering.{nil_positive}
use Rattle.simple_terms.proofs.Terms.{is_term, term_some, term_low, term_readable}
use Rattle.simple_terms.proofs.Refusing.{Plain, puts_plain, refused_deep}
use Rattle.limits.specs.Limits.{depth_limit}

-- ---- The thin references stay, and the slices behind them are changed

abbrev pub after : Held → List ℕ → List ℕ → List ℕ → List ℕ → List ℕ → Held
after a work' rows' terms' store' st' = held (at_last a.work work') (at_last a.rows rows') (at_last a.terms terms') (at_last a.store store') st'

module _ (doc : Text) (w : Write ℕ) (a : Held) (work' rows' terms' store' st' : List ℕ) (r : ℕ)
    (P : PutsToken (here doc a) w a.work.now work' (tables_of a) (lent_tables rows' terms' store') a.st st' r)
    (lw : length work' ≡ length a.work.now) (lr : length rows' ≡ length a.rows.now) (lt : length terms' ≡ length a.terms.now) (ls : length store' ≡ length a.store.now) where
  same_after : (st'' : List ℕ) → length st'' ≡ length a.st → Same a (after a work' rows' terms' store' st'')
  same_after st'' n = record { work = refl; rows = refl; terms = refl; store = refl; work_length = lw; rows_length = lr; terms_length = lt; store_length = ls; words = n }

  pub put_refused : (r ≡ 0 → ⊥) → Gives doc w a (after a work' rows' terms' store' st') r
  put_refused z = record {
    does = record { same = same_after st' P.words; refusal = P.refusal; place = λ e. P.stays at_word (omega arith); done = λ e. absurd (z e) };
    node = λ e. absurd (z e);
    small = λ e. absurd (z e);
  }

  pub put_done : r ≡ 0 → (st'' : List ℕ) (d : ℕ) → Passed doc st' st'' d (graph_in st') → d ≡ new_depth (depth_in a.st) (here doc a) → Gives doc w a (after a work' rows' terms' store' st'') 0
  put_done e st'' d p ed = record {
    does = record {
      same = same_after st'' (p.words ∙ P.words);
      refusal = λ old m h. sym e ∙ P.refusal old m h;
      place = λ z. absurd (z refl);
      done = λ z. record {
        cursor = p.cursor;
        tokens = ap₂ (λ (x y : ℕ). rest doc (x + y)) (sym (P.stays at_word (omega arith))) (sym (P.stays len_word (omega arith))) ∙ p.tokens;
        later = omega (arith, p.later, P.stays at_word (omega arith));
        depth = p.depth_is ∙ ed;
        spot = λ k h. p.spot k h ∙ P.stays k (omega arith);
        holding = λ old m h. represents_words old (w m).1 work' (lent_tables rows' terms' store') st' st'' p.before p.graph_is p.words ((P.wrote e).represents old m h);
      };
    };
    node = λ z old m h. p.before node_word (omega arith) ∙ (P.wrote e).node old m h;
    small = λ z. let x = p.before node_word (omega arith) in let y = (P.wrote e).small in omega (arith, x, y);
  }

-- ---- What is known at the call

module _ (doc : Text) (a : Held) (ready : Ready doc a) where
  pub put_ready : Spotted a → PutReady a.work.now (tables_of a) a.st
  put_ready s = record {
    holds = ready.holds;
    fits = record { x = s.x; y = s.y; opened = s.opened; last = s.last; at = let i = ready.cursor.inside in let n = ready.cursor.size in omega (arith, i, n) };
  }

  pub words_there : length a.st ≡ words_size
  words_there = let (old, (m, h)) = ready.holds in h.usable.words

  pub token_there : (k : ℕ) → kind_in a.st ≡ k → 0 < k → k < unreadable_kind → TokenHere doc a.st
  token_there k e l g = ready.cursor.token (λ z. omega (arith, e, z)) (λ z. omega (arith, e, z))

  -- A number that is never 0.
  pub numbers : (w : Write ℕ) (b : Held) (r : ℕ) → ((m : Memory) → 0 < (w m).0) → Gives doc w a b r → Numbers doc w a b r
  numbers w b r p g = record { gives = g; positive = λ e. let (old, (m, h)) = ready.holds in let x = p m in let y = g.node e old m h in omega (arith, x, y) }

  pub closes : (b : Held) (r : ℕ) → Gives doc (closed (spot_of a)) a b r → Closes doc a b r
  closes b r g = record { gives = g; positive = λ e l. let (old, (m, h)) = ready.holds in let x = nil_positive (spot_of a) l m in let y = g.node e old m h in omega (arith, x, y) }

-- The cursor's words stay while a node is written.
module _ (doc : Text) (a : Held) (ready : Ready doc a) (k : ℕ) (e : kind_in a.st ≡ k) (l : 0 < k) (g : k < unreadable_kind) (st' : List ℕ) (same : (j : ℕ) → kind_word ≤ j → get_or st' j 0 ≡ get_or a.st j 0) (n : length st' ≡ length a.st) where
  pub still_there : (Cursor doc st' × TokenHere doc st') × (length st' ≡ words_size)
  still_there = ((cursor_words doc a.st st' (λ j x y. same j x) ready.cursor, token_words doc a.st st' (λ j x y. same j x) (token_there doc a ready k e l g)), n ∙ words_there doc a ready)

-- ---- A term's token

module _ (doc : Text) (a : Held) (ready : Ready doc a) (h : is_term (kind_in a.st) ≡ true) (work' : Text) (t' : Tables) (st' : List ℕ) (r : ℕ) (P : PutsNode doc a.work.now work' (tables_of a) t' a.st st' r) where
  here_token : TokenHere doc a.st
  here_token = ready.cursor.token (term_some _ h) (term_readable _ h)

  among_terms : among (kw_a ∷ term_kinds) (here doc a).kind ≡ true
  among_terms = among_code (kw_a ∷ term_kinds) (kind_in a.st) (term_some _ h) here_token.known ∙ h

  put_there : (w : Write ℕ) × PutsToken (here doc a) w a.work.now work' (tables_of a) t' a.st st' r
  put_there = let (v, g) = term_rule (here doc a) (here doc a).kind among_terms in (placed (spot_in a.st) v, P v g)

  pub term_still : (Cursor doc st' × TokenHere doc st') × (length st' ≡ words_size)
  term_still =
      let p = put_there.1 in
      still_there doc a ready (kind_in a.st) refl (let l = term_low (kind_in a.st) h in omega (arith, l)) (let l = here_token.known in omega (arith, l)) st' p.stays p.words

  pub term_depth_here : depth_in st' ≡ new_depth (depth_in a.st) (here doc a)
  term_depth_here = put_there.1.stays depth_word (omega arith) ∙ sym (term_depth (here doc a) (depth_in a.st) among_terms)

-- ---- A token that meets no refusal of its own but 13

module _ (doc : Text) (w : Write ℕ) (a : Held) (k : ℕ) (e : kind_in a.st ≡ k) (q : Plain k) where
  -- A 65th bracket.
  pub open_deep : among (open_bracket ∷ open_paren ∷ []) (kind_of_code k) ≡ true → depth_limit ≤ depth_in a.st → Gives doc w a a 13
  open_deep o l =
      put_refused doc w a a.work.now a.rows.now a.terms.now a.store.now a.st 13
      (refused_deep (here doc a) w a.work.now (tables_of a) a.st k (ap kind_of_code e) q o l) refl refl refl refl (λ z. omega arith)

  module _ (work' rows' terms' store' st' : List ℕ) (r : ℕ) (d : too_deep (depth_in a.st) (here doc a) ≡ false)
      (p : Puts w a.work.now work' (tables_of a) (lent_tables rows' terms' store') a.st st' r)
      (lw : length work' ≡ length a.work.now) (lr : length rows' ≡ length a.rows.now) (lt : length terms' ≡ length a.terms.now) (ls : length store' ≡ length a.store.now) where
    puts_here : PutsToken (here doc a) w a.work.now work' (tables_of a) (lent_tables rows' terms' store') a.st st' r
    puts_here = puts_plain (here doc a) w a.work.now work' (tables_of a) (lent_tables rows' terms' store') a.st st' r k (ap kind_of_code e) q d p

    pub plain_refused : (r ≡ 0 → ⊥) → Gives doc w a (after a work' rows' terms' store' st') r
    plain_refused z = put_refused doc w a work' rows' terms' store' st' r puts_here lw lr lt ls z

    pub plain_done : r ≡ 0 → (st'' : List ℕ) (n : ℕ) → Passed doc st' st'' n (graph_in st') → n ≡ new_depth (depth_in a.st) (here doc a) → Gives doc w a (after a work' rows' terms' store' st'') 0
    plain_done z st'' n x y = put_done doc w a work' rows' terms' store' st' r puts_here lw lr lt ls z st'' n x y

-- ---- Brackets

pub below_stays : (st st' : List ℕ) → ((j : ℕ) → kind_word ≤ j → get_or st' j 0 ≡ get_or st j 0) → depth_in st < depth_limit → depth_in st' < depth_limit
below_stays st st' same l = let e = same depth_word (omega arith) in omega (arith, e, l)

pub above_stays : (st st' : List ℕ) → ((j : ℕ) → kind_word ≤ j → get_or st' j 0 ≡ get_or st j 0) → 0 < depth_in st → 0 < depth_in st'
above_stays st st' same l = let e = same depth_word (omega arith) in omega (arith, e, l)

module _ (doc : Text) (a : Held) (k : ℕ) (e : kind_in a.st ≡ k) where
  pub opening_depth : among (open_bracket ∷ open_paren ∷ []) (kind_of_code k) ≡ true → (st' : List ℕ) → ((j : ℕ) → kind_word ≤ j → get_or st' j 0 ≡ get_or a.st j 0) → depth_in st' + 1 ≡ new_depth (depth_in a.st) (here doc a)
  unfolding new_depth
  opening_depth o st' same = rw (same depth_word (omega arith), e, o)

  pub closing_depth : among (open_bracket ∷ open_paren ∷ []) (kind_of_code k) ≡ false → among (close_bracket ∷ close_paren ∷ []) (kind_of_code k) ≡ true → (st' : List ℕ) → ((j : ℕ) → kind_word ≤ j → get_or st' j 0 ≡ get_or a.st j 0)
      → depth_in st' - 1 ≡ new_depth (depth_in a.st) (here doc a)
  unfolding new_depth
  closing_depth o c st' same = rw (same depth_word (omega arith), e, o, c)

-- The depth is put before the cursor goes on.
module _ (doc : Text) (st : List ℕ) (v : ℕ) (n : length st ≡ words_size) where
  abbrev deeper : List ℕ
  deeper = set st depth_word v

  deeper_other : (k : ℕ) → (k ≡ depth_word → ⊥) → get_or deeper k 0 ≡ get_or st k 0
  deeper_other k h = get_or-set_other st depth_word k v 0 h

  pub deeper_there : Cursor doc st → TokenHere doc st → (Cursor doc deeper × TokenHere doc deeper) × (length deeper ≡ words_size)
  deeper_there c t = ((cursor_words doc st deeper (λ k x y. deeper_other k (λ z. omega arith)) c, token_words doc st deeper (λ k x y. deeper_other k (λ z. omega arith)) t), length-set st depth_word v ∙ n)

  pub passed_deeper : (st' : List ℕ) → Passed doc deeper st' (depth_in deeper) (graph_in deeper) → Passed doc st st' v (graph_in st)
  passed_deeper st' p = record {
    cursor = p.cursor;
    tokens = ap₂ (λ (x y : ℕ). rest doc (x + y)) (sym (deeper_other at_word (λ z. omega arith))) (sym (deeper_other len_word (λ z. omega arith))) ∙ p.tokens;
    later = let x = p.later in let y = deeper_other at_word (λ z. omega arith) in omega (arith, x, y);
    depth_is = p.depth_is ∙ get_or-set_same st depth_word v 0 (omega arith);
    graph_is = p.graph_is ∙ deeper_other graph_word (λ z. omega arith);
    before = λ k h. p.before k h ∙ deeper_other k (λ z. omega arith);
    spot = λ k h. p.spot k h ∙ deeper_other k (λ z. omega arith);
    words = p.words ∙ length-set st depth_word v;
  }

-- Where no prefixed name begins: after a run that ends at no colon, and after a token.
use Rattle.token.proofs.Sizes.{length_encodes, size_append}
use mathlib.Core.Path.{◌≡◌, refl, subst, sym, ap, ap₂, ◌∙◌}
use mathlib.Core.Logic.{◌⊎◌, inl, inr, ⊎_elim}
use mathlib.Core.Bool.{Bool, true, false, ◌||◌}
use mathlib.Core.List.{List, [], ◌∷◌, ◌++◌, append_assoc, append-nil}
use mathlib.Core.Option.{none}
use Prim.Native.Nat.{ℕ, ◌+◌, ◌-◌, ◌≤◌, ◌<◌}
use native.Mathlib.Omega.{arith}
use borrow.Author.Tests.{eq-eqb, ne_eqb, eqb-true, lt-ltb, le-ltb}
use lib.Dec.{T, eqb}
use lib.ListN.{length, get_or, drop, length-append, length-drop}
use lib.Seq.{drop_at}
use Rattle.std.specs.Prelude.{Option, Some, None}
use Rattle.text.specs.Text.{Text}
use Rattle.utf8.specs.Utf8.{encode, encodes, width, decode, first_bad}
use Rattle.utf8.specs.Scalar.{Scalar, Scalars, Encodes}
use Rattle.utf8.proofs.Tests.{by}
use Rattle.utf8.proofs.Encoding.{length_encode, width_pos}
use Rattle.utf8.proofs.Decoding.{valid_encoded, encoded_valid, encodes_append, scalars_right}
use Rattle.token.specs.Regular.{Item, Match, nothing, hit, Hit, Longest, step, now_at, best, size}
use Rattle.token.specs.Terminals.{terminals, long_terminals, tripled, terminals_at, token_at}
use Rattle.token.proofs.Longest.{token_longest}
use Rattle.automaton.specs.Levels.{intervals}
use Rattle.automaton.specs.States.{State, in_prefix, prefix_dot, after_colon, open_states}
use Rattle.automaton.specs.Run.{tok, answer, len_of, run, Front, Rest, Past, At, TokenAt}
use Rattle.automaton.specs.declared.Next.{Next}
use Rattle.automaton.specs.declared.Token.{Token}
use Rattle.automaton.proofs.Steps.{only, never, sends, high_sends, mimics, Sent, Alias, alias_step, sent_kind, front_whole, front_place, whole_rest, by_nothing, gain}
use Rattle.characters.specs.Bytes.{letter}
use Rattle.characters.specs.Names.{base, passes}
use Rattle.characters.proofs.Points.{first, CharSent, CharEnds, point_to, point_dead}
use Rattle.lexer_words.specs.Ahead.{prefixed, nameless, colon_first, Clear, next, NextAt, word_of, settled}
use Rattle.lexer_words.specs.Runs.{in_run, All_run, Scan, Beyond, RunAt}
use Rattle.lexer_words.proofs.Muting.{kinds_pass, PassesToo, run_passes, only_kinds, Fails, Mute, mute_fails, mute_dead}
use Rattle.lexer_words.proofs.Running.{whole_scan, last_dot, dot_before, scan_last, Pair, state, stop_dead, run_over, mute_run}

-- ---- The names alone

-- What is left of the two terminals of prefixed names: at first, after a first letter, within a prefix, and after a dot there.
unfoldable names : State
names = only_kinds prefixed terminals

unfoldable names_first : State
unfolding names
names_first = step 120 names

unfoldable names_in : State
unfolding names_first
names_in = step 121 names_first

unfoldable names_dot : State
unfolding names_first
names_dot = step 46 names_first

record Moves : Type 0 where
  first : CharSent names letter base names_first 0
  first_none : CharEnds names letter base (only 58)
  like : Alias names_first names_in never
  pair : Pair names_in names_dot
  prefix : Pair in_prefix prefix_dot
  colon : Sent in_prefix (only 58) after_colon 2
  silent : now_at names ≡ nothing
  long : only_kinds prefixed long_terminals ≡ []
  alone : T (kinds_pass prefixed in_prefix)

moves : Moves
unfolding names names_first names_in names_dot open_states sends high_sends mimics intervals
moves = record {
  first = record { low = record { test = tt }; high = record { test = tt } };
  first_none = record { low = record { test = tt }; high = record { test = tt } };
  like = record { test = tt };
  pair = record {
    name_on = record { low = record { test = tt }; high = record { test = tt } };
    dot = record { test = tt };
    none = record { low = record { test = tt }; high = record { test = tt } };
    dot_name = record { low = record { test = tt }; high = record { test = tt } };
    dot_dot = record { test = tt };
    dot_none = record { low = record { test = tt }; high = record { test = tt } };
    dot_colon = record { test = tt };
  };
  prefix = record {
    name_on = record { low = record { test = tt }; high = record { test = tt } };
    dot = record { test = tt };
    none = record { low = record { test = tt }; high = record { test = tt } };
    dot_name = record { low = record { test = tt }; high = record { test = tt } };
    dot_dot = record { test = tt };
    dot_none = record { low = record { test = tt }; high = record { test = tt } };
    dot_colon = record { test = tt };
  };
  colon = record { test = tt };
  silent = refl;
  long = refl;
  alone = tt;
}

mute_alias : {q q2 : State} → Alias q q2 never → now_at q ≡ nothing → (cs : List ℕ) → Scalars cs → Mute q2 cs → Mute q cs
mute_alias t e [] sc u = e
mute_alias t e (c ∷ cs) sc u = (e, subst (λ (q : State). Mute q cs) (sym (alias_step t c sc.0 (λ _. refl))) u.1)

-- A text that begins with a run is no name, where the run ends at no colon but after a dot.
module _ (z : ℕ) (zs ys : List ℕ) (sc : Scalars (z ∷ (zs ++ ys))) (r : All_run (z ∷ zs)) (n : (c : ℕ) (us : List ℕ) → ys ≡ c ∷ us → (in_run c ≡ false) × (c ≡ 58 → last_dot (eqb z 46) zs ≡ true)) where
  mute_names : Mute names (z ∷ (zs ++ ys))
  mute_names = (moves.silent, by (passes letter base z) yes_letter no_letter)
    where
      no_letter : passes letter base z ≡ false → Mute (step z names) (zs ++ ys)
      no_letter e =
          let f : eqb z 58 ≡ false = ne_eqb z 58 (λ x. let y : false ≡ true = sym (ap in_run x) ∙ r.0 in subst T (sym y) tt) in
          subst (λ (q : State). Mute q (zs ++ ys)) (sym (point_dead moves.first_none z sc.0 e (λ _. f))) (mute_dead (zs ++ ys))

      yes_letter : passes letter base z ≡ true → Mute (step z names) (zs ++ ys)
      yes_letter e =
          let f : eqb z 46 ≡ false = ne_eqb z 46 (λ x. let y : false ≡ true = sym (ap (passes letter base) x) ∙ e in subst T (sym y) tt) in
          let m : Mute names_in (zs ++ ys) =
          mute_run moves.pair zs ys false sc.1 r.1 (λ c us w. let v = n c us w in (v.0, λ x. ap (λ (d : Bool). last_dot d zs) (sym f) ∙ v.1 x)) in
          subst (λ (q : State). Mute q (zs ++ ys)) (sym (point_to moves.first z sc.0 e))
          (mute_alias moves.like (sent_kind moves.first.low) (zs ++ ys) sc.1 m)

  pub no_name : T (nameless (token_at (z ∷ (zs ++ ys))))
  unfolding token_at names
  no_name =
      by (tripled (z ∷ (zs ++ ys)))
      (λ e. rw e (fails (best width long_terminals (z ∷ (zs ++ ys))) (mute_fails prefixed (z ∷ (zs ++ ys)) long_terminals (rw moves.long (mute_dead (z ∷ (zs ++ ys)))))))
      (λ e. rw e (fails (best width terminals (z ∷ (zs ++ ys))) (mute_fails prefixed (z ∷ (zs ++ ys)) terminals mute_names)))
    where
      fails : (m : Match) → Fails prefixed m → T (nameless m)
      fails nothing f = tt
      fails (hit k n) f = rw f tt

-- ---- After a run

record Cut (xs ys ds es : List ℕ) : Type 0 where
  z : ℕ
  zs : List ℕ
  front : xs ≡ ds ++ (z ∷ zs)
  back : es ≡ z ∷ (zs ++ ys)

-- A cut before the end of a list is in its first part, where the front is shorter than that.
cut : (xs ys ds es : List ℕ) → xs ++ ys ≡ ds ++ es → size width ds < size width xs → Cut xs ys ds es
cut [] ys ds es e h = absurd (omega arith)
cut (x ∷ xs) ys [] es e h = record { z = x; zs = xs; front = refl; back = sym e }
cut (x ∷ xs) ys (d ∷ ds) es e h =
    let p : x ≡ d = cc in
    let q : xs ++ ys ≡ ds ++ es = cc in
    let w : width x ≡ width d = ap width p in
    let r = cut xs ys ds es q (omega arith) in
    record { z = r.z; zs = r.zs; front = ap₂ (λ (a : ℕ) (l : List ℕ). a ∷ l) p r.front; back = r.back }

run_right : (ds xs : List ℕ) → All_run (ds ++ xs) → All_run xs
run_right [] xs r = r
run_right (d ∷ ds) xs r = run_right ds xs r.1

last_right : (b : Bool) (ds : List ℕ) (z : ℕ) (zs : List ℕ) → last_dot b (ds ++ (z ∷ zs)) ≡ last_dot (eqb z 46) zs
last_right b [] z zs = refl
last_right b (d ∷ ds) z zs = last_right (eqb d 46) ds z zs

module _ (s : Text) (at i : ℕ) (g : RunAt s at i) where
  -- The colon at the end of the run, if there is one, stands after a dot.
  abbrev pub NoColon : Type 0
  NoColon = i < length s → get_or s i 0 ≡ 58 → dot_before s at i ≡ true

  -- What follows the run.
  follows : NoColon → (c : ℕ) (u : Text) → Scalar c → drop i s ≡ encode c ++ u → (in_run c ≡ false) × (c ≡ 58 → dot_before s at i ≡ true)
  follows n c u sc d = (
    g.stop c u sc d,
    λ v. n (let o = sym (length-drop i s) ∙ ap length d ∙ length-append (encode c) u in let p = length_encode c in let q = width_pos c in omega arith)
        (⊎_elim (λ x. x.1 ∙ v) (λ x. let y = x.0 in absurd (omega arith)) (first s i c u d)),
  )

  pub clear_run : NoColon → Clear (drop at s) (i - at)
  unfolding encodes
  clear_run n = record {
    free = λ v ds es e h.
        let cs = decode (drop at s) in
        let f = valid_encoded (drop at s) v in
        let r = whole_scan s at i g.scanned cs f in
        let o = r.sized in
        let k = cut r.xs r.ys ds es (sym r.whole ∙ e) (omega arith) in
        let sc : Scalars (k.z ∷ (k.zs ++ r.ys)) = subst Scalars k.back (scalars_right ds es (subst Scalars e f.scalars)) in
        let ru : All_run (k.z ∷ k.zs) = run_right ds (k.z ∷ k.zs) (subst All_run k.front r.run) in
        let la : last_dot (eqb k.z 46) k.zs ≡ dot_before s at i =
        sym (last_right false ds k.z k.zs) ∙ ap (last_dot false) (sym k.front) ∙ scan_last s at i cs [] (front_whole f) r in
        let t = no_name k.z k.zs r.ys sc ru
        (λ c us w.
        let y = follows n c (encodes us) (subst Scalars w r.left.scalars).0 (r.left.bytes ∙ append-nil (encodes r.ys) ∙ ap encodes w) in
        (y.0, λ x. la ∙ y.1 x)) in
        subst (λ (x : List ℕ). T (colon_first x || nameless (token_at x))) (sym k.back) (or_right (colon_first (k.z ∷ (k.zs ++ r.ys))) (nameless (token_at (k.z ∷ (k.zs ++ r.ys)))) t);
  }
    where
      or_right : (a b : Bool) → T b → T (a || b)
      or_right true b t = tt
      or_right false b t = t

  -- ---- The automaton after a run within a prefix

  module _ {seen : Option Token} (a : At s in_prefix at seen) where
    -- The run over code points that begin with a run.
    over_run : (ds xs ys : List ℕ) → ds ≡ xs ++ ys → Scalars ds → All_run xs
        → run in_prefix at seen ds ≡ run (state moves.prefix (last_dot false xs)) (at + size width xs) seen ys
    over_run ds xs ys w sc r =
        ap (λ (x : List ℕ). run in_prefix at seen x) w ∙ run_over moves.prefix xs ys false at seen (subst Scalars w sc) r

    after_run : At s (state moves.prefix (dot_before s at i)) i seen
    after_run = record {
      within = g.scanned.within;
      last = let x = a.last in let y = g.scanned.from in omega arith;
      rest = λ cs z e.
          ⊎_elim (λ r. go cs z e r (g.scanned.over r.ds z r.left))
          (λ r. inr (record { behind = let x = r.behind in let y = g.scanned.from in omega arith; kept = r.kept }))
          (a.rest cs z e);
    }
      where
        go : (cs : List ℕ) (z : Text) → Front s cs z → (r : Rest s in_prefix at seen cs z) → Scan s at i r.ds z ⊎ Beyond at i r.ds
            → Rest s (state moves.prefix (dot_before s at i)) i seen cs z ⊎ Past i seen cs
        go cs z e r (inl c) =
            inl
            (record {
              ds = c.ys;
              left = c.left;
              same =
                  sym
                  (over_run r.ds c.xs c.ys c.whole r.left.scalars c.run
                  ∙ ap₂ (λ (d : Bool) (n : ℕ). run (state moves.prefix d) n seen c.ys) (scan_last s at i r.ds z r.left c) c.sized)
                  ∙ r.same;
            })
        go cs z e r (inr c) =
            let o = front_place e at a.within r.ds r.left.bytes in
            let p = c.behind in
            inr
            (record {
              behind = omega arith;
              kept = λ _. sym (over_run r.ds r.ds [] (sym (append-nil r.ds)) r.left.scalars c.run) ∙ r.same;
            })

    pub prefix_token : NoColon → TokenAt s seen
    prefix_token n =
        by_nothing after_run
        (λ c u sc d. let y = follows n c u sc d in stop_dead moves.prefix (dot_before s at i) c sc y.0 y.1)

    pub prefix_colon : i < length s → get_or s i 0 ≡ 58 → dot_before s at i ≡ false → At s after_colon (i + 1) (Some (tok 2 (i + 1)))
    prefix_colon h e f =
        let b : At s in_prefix i seen = subst (λ (d : Bool). At s (state moves.prefix d) i seen) f after_run in
        gain b h (omega arith) (eq-eqb _ _ e) (omega arith) moves.colon

-- ---- What is known after a token

pub clear_none : (s : Text) → Clear s 0
clear_none s = record { free = λ v ds es e h. absurd (omega arith) }

-- What follows a token is the UTF-8 of the code points that follow it.
pub token_left : (s : Text) (cs : List ℕ) (S : List Item) (k n : ℕ) → Encodes s cs → (h : Hit width S cs k n) → Encodes (drop n s) h.back
token_left s cs S k n e h = record {
  scalars = scalars_right h.front h.back (subst Scalars h.whole e.scalars);
  bytes =
      ap (drop n) (e.bytes ∙ ap encodes h.whole ∙ encodes_append h.front h.back)
      ∙ drop_at (encodes h.front) (encodes h.back) n (length_encodes h.front ∙ sym h.bytes);
}

-- Further on the same is known, the bytes passed fewer.
pub clear_drop : (s : Text) (n len : ℕ) (front back : List ℕ) → first_bad s ≡ none → Clear s n → decode s ≡ front ++ back → len ≡ size width front
    → decode (drop len s) ≡ back → Clear (drop len s) (n - len)
clear_drop s n len front back v c w z b = record {
  free = λ u ds es d q.
      let o = size_append front ds in
      c.free v (front ++ ds) es (w ∙ ap (λ (x : List ℕ). front ++ x) (sym b ∙ d) ∙ sym (append_assoc front ds es)) (omega arith);
}

pub clear_after : (s : Text) (n : ℕ) (r : Option Token) → first_bad s ≡ none → Clear s n → r ≡ answer (token_at (decode s)) → Clear (drop (len_of r) s) (n - len_of r)
clear_after s n r v c e = go (token_at (decode s)) refl (token_longest (decode s))
  where
    go : (m : Match) → token_at (decode s) ≡ m → Longest width (terminals_at (decode s)) (decode s) (token_at (decode s)) → Clear (drop (len_of r) s) (n - len_of r)
    go nothing f l =
        let z : len_of r ≡ 0 = ap len_of (e ∙ ap answer f) in
        clear_drop s n (len_of r) [] (decode s) v c refl z (ap (λ (x : ℕ). decode (drop x s)) z)
    go (hit j m) f l =
        let z : len_of r ≡ m = ap len_of (e ∙ ap answer f) in
        let h : Hit width (terminals_at (decode s)) (decode s) j m = subst (Longest width (terminals_at (decode s)) (decode s)) f l in
        let g = token_left s (decode s) (terminals_at (decode s)) j m (valid_encoded s v) h in
        clear_drop s n (len_of r) h.front h.back v c h.whole (z ∙ h.bytes)
        (ap (λ (x : ℕ). decode (drop x s)) z ∙ (encoded_valid (drop m s) h.back g).1)

-- ---- The answers

-- A token with nothing known of what follows.
pub next_token : (s : Text) (t : Token) → TokenAt s (Some t) → NextAt s 0 (Some (next t 0))
next_token s r t = record {
  within = t.within;
  right = λ v c. t.right (decode s) (valid_encoded s v);
  ahead = λ v c. clear_none (drop r.len s);
  front = λ _. t.front;
}

-- A token after which no name begins for as long as was known before.
pub next_known : (s : Text) (clear : ℕ) (t : Token) → TokenAt s (Some t) → NextAt s clear (Some (next t (clear - t.len)))
next_known s clear r t = record {
  within = t.within;
  right = λ v c. t.right (decode s) (valid_encoded s v);
  ahead = λ v c. clear_after s clear (Some r) v c (t.right (decode s) (valid_encoded s v));
  front = λ _. t.front;
}

pub next_nothing : (s : Text) (clear : ℕ) → TokenAt s None → NextAt s clear None
next_nothing s clear t = record {
  within = t.within;
  right = λ v c. t.right (decode s) (valid_encoded s v);
  ahead = λ v c. clear_none (drop 0 s);
  front = λ _. t.front;
}

-- No colon after no dot stands at the end of a run.
module _ (s : Text) (at i : ℕ) (g : RunAt s at i) where
  pub no_colon_end : length s ≤ i → NoColon s at i g
  no_colon_end h l e = absurd (omega arith)

  pub no_colon_other : (get_or s i 0 ≡ 58 → ⊥) → NoColon s at i g
  no_colon_other n l e = absurd (n e)

  pub no_colon_dot : at < i → get_or s (i - 1) 0 ≡ 46 → NoColon s at i g
  no_colon_dot h f l e = simp (lt-ltb at i h, eq-eqb _ _ f)

pub dot_none : (s : Text) (at i : ℕ) → i ≤ at → dot_before s at i ≡ false
dot_none s at i h = simp (le-ltb at i h)

pub dot_other : (s : Text) (at i : ℕ) → at < i → (get_or s (i - 1) 0 ≡ 46 → ⊥) → dot_before s at i ≡ false
dot_other s at i h n = simp (lt-ltb at i h, ne_eqb _ _ n)

pub next_zero : (s : Text) (clear : ℕ) (r : Option Next) → clear ≡ 0 → NextAt s 0 r → NextAt s clear r
next_zero s clear r e n = subst (λ (x : ℕ). NextAt s x r) (sym e) n

-- The token before a run, which is no name.
pub next_settled : (s : Text) (at i : ℕ) (kind : Option ℕ) (g : RunAt s at i) → At s in_prefix at (word_of kind at) → NoColon s at i g → (r : Option Next)
    → r ≡ settled kind at i → NextAt s 0 r
next_settled s at i kind g a n r e = subst (NextAt s 0) (sym e) (go kind a)
  where
    go : (kind : Option ℕ) → At s in_prefix at (word_of kind at) → NextAt s 0 (settled kind at i)
    go None a = next_nothing s 0 (prefix_token s at i g a n)
    go (Some k) a =
        let t = prefix_token s at i g a n in
        record {
          within = t.within;
          right = λ v c. t.right (decode s) (valid_encoded s v);
          ahead = λ v c. clear_run s at i g n;
          front = λ _. t.front;
        }

-- Where it is known that no name begins here, the token is the one before.
module _ (s : Text) (at clear : ℕ) (seen : Option Token) (a : At s in_prefix at seen) (h : 0 < clear) (f : get_or s 0 0 ≡ 58 → ⊥) where
  known : first_bad s ≡ none → Clear s clear → seen ≡ answer (token_at (decode s))
  unfolding encodes
  known v c =
      let e = valid_encoded s v in
      let r = whole_rest a (decode s) e in
      let t = c.free v [] (decode s) refl h in
      ⊎_elim (λ x. sym x ∙ r.same)
      (λ x. absurd (never_name (token_at (decode s)) (colon_no (decode s) e.bytes t) (subst (PassesToo prefixed) r.same x)))
      (run_passes prefixed r.ds in_prefix at seen moves.alone)
    where
      never_name : (m : Match) → T (nameless m) → PassesToo prefixed (answer m) → ⊥
      never_name nothing t e = e
      never_name (hit k n) t e = rw e at t

      colon_no : (cs : List ℕ) → s ≡ encodes cs → T (colon_first cs || nameless (token_at (decode s))) → T (nameless (token_at (decode s)))
      colon_no [] e t = t
      colon_no (c ∷ cs) e t =
          by (eqb c 58)
          (λ p.
          let z = eqb-true c 58 p in
          absurd
          (f
          (⊎_elim (λ x. x.1 ∙ z) (λ x. let y = x.0 in absurd (omega arith)) (first s 0 c (encodes cs) e))))
          (λ p. rw p at t)

-- An answer of it.
module _ (s : Text) (at clear : ℕ) (h : 0 < clear) (f : get_or s 0 0 ≡ 58 → ⊥) where
  pub known_nothing : At s in_prefix at None → NextAt s clear None
  known_nothing a = record {
    within = omega arith;
    right = λ v c. known s at clear None a h f v c;
    ahead = λ v c. clear_none (drop 0 s);
    front = λ e. absurd (omega arith);
  }

  pub known_token : (k : ℕ) → At s in_prefix at (Some (tok k at)) → NextAt s clear (Some (next (tok k at) (clear - at)))
  known_token k a = record {
    within = a.within;
    right = λ v c. known s at clear (Some (tok k at)) a h f v c;
    ahead = λ v c. clear_after s clear (Some (tok k at)) v c (known s at clear (Some (tok k at)) a h f v c);
    front = λ e. absurd (omega arith);
  }

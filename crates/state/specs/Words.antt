-- The words of the reader's array.
use Rattle.std.specs.Prelude.{◌≡◌, List, ℕ, ◌+◌, ◌≤◌, get_or}
use Rattle.environment.specs.Code.{own_word}
use Rattle.terms.specs.declared.Counts.{Counts}

-- How far the tables are filled; where numbers of IRIs are kept; the node that was written last.
abbrev pub rows_word : ℕ
rows_word = own_word

abbrev pub terms_word : ℕ
terms_word = rows_word + 1

abbrev pub used_word : ℕ
used_word = terms_word + 1

abbrev pub blanks_word : ℕ
blanks_word = used_word + 1

abbrev pub kept_word : ℕ
kept_word = blanks_word + 1

abbrev pub kept_size : ℕ
kept_size = 32

abbrev pub node_word : ℕ
node_word = kept_word + kept_size

-- The token at the cursor.
abbrev pub kind_word : ℕ
kind_word = node_word + 1

abbrev pub at_word : ℕ
at_word = kind_word + 1

abbrev pub len_word : ℕ
len_word = at_word + 1

abbrev pub clear_word : ℕ
clear_word = len_word + 1

abbrev pub depth_word : ℕ
depth_word = clear_word + 1

abbrev pub graph_word : ℕ
graph_word = depth_word + 1

-- Where the next node belongs.
abbrev pub list_word : ℕ
list_word = graph_word + 1

abbrev pub x_word : ℕ
x_word = list_word + 1

abbrev pub y_word : ℕ
y_word = x_word + 1

abbrev pub opened_word : ℕ
opened_word = y_word + 1

abbrev pub last_word : ℕ
last_word = opened_word + 1

-- What is resumed at each depth: so many words a depth, from here on.
abbrev pub level_word : ℕ
level_word = last_word + 1

abbrev pub level_size : ℕ
level_size = 2

-- What they hold: the node that was written last; the token at the cursor; how many brackets are open, the graph, whether a list is.
abbrev pub node_in : List ℕ → ℕ
node_in st = get_or st node_word 0

abbrev pub kind_in : List ℕ → ℕ
kind_in st = get_or st kind_word 0

abbrev pub at_in : List ℕ → ℕ
at_in st = get_or st at_word 0

abbrev pub len_in : List ℕ → ℕ
len_in st = get_or st len_word 0

abbrev pub depth_in : List ℕ → ℕ
depth_in st = get_or st depth_word 0

abbrev pub graph_in : List ℕ → ℕ
graph_in st = get_or st graph_word 0

abbrev pub list_in : List ℕ → ℕ
list_in st = get_or st list_word 0

abbrev pub counts_of : List ℕ → Counts
counts_of st = record { terms = get_or st terms_word 0; used = get_or st used_word 0; blanks = get_or st blanks_word 0 }

-- What writing leaves alone: all words from the cursor's on.
abbrev pub Stays : List ℕ → List ℕ → Type 0
Stays st st' = (k : ℕ) → kind_word ≤ k → get_or st' k 0 ≡ get_or st k 0

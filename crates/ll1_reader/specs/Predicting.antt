-- When a grammar is LL(1), so that the next token alone tells how a reading goes on: a test that computes.
use Rattle.std.specs.Prelude.{◌≡◌, ℕ, ◌+◌, ◌==◌, ◌&&◌, ◌||◌, if◌then◌else◌, not, Bool, true, false, nat_lt, List, [], ◌∷◌, map, Option, None, Some, slice_get}
use Rattle.std.specs.List.{flat_map}
use Rattle.ll1_reader.specs.declared.symbol.Symbol.{Symbol}
use Rattle.ll1_reader.specs.declared.symbol.Symbol.TheVariants.{Read, Open, Once, Maybe, Many, Act}
use Rattle.ll1_reader.specs.Grammars.{Rows, Rules}

-- An LL(1) table by productions: their FIRST sets, and what shows that these are right. `is_ll1` is the test.
pub record Table (N P K : Type 0) : Type 0 where
  -- each kind, and each nonterminal, has a number of its own
  pub number : K → ℕ
  pub label : N → ℕ
  -- the FIRST set of a production: the kinds of the tokens with which it may begin
  pub first : P → List K
  -- the kinds of the tokens with which what a nonterminal stands for could go on where it may end, each with the
  -- nonterminal that would begin there: none of them may follow it, or FIRST and FOLLOW would be in conflict
  pub tails : N → List (K × N)
  -- the same for a whole text
  pub text_tail : List (K × N)
  -- at most so many moves lie before the first token, so no production is left recursive
  pub cost : N → ℕ
  -- the place, among its productions, of one that comes to an end, and the kind of the token with which that begins
  pub sample : N → ℕ
  pub begin : N → K
  -- more than the sizes of that production's nonterminals together
  pub size : N → ℕ

module _ {N P A K : Type 0} (rules : Rules N P A K) (table : Table N P K) where
  -- ---- lists of kinds

  abbrev pub among : K → List K → Bool
  among k [] = false
  among k (j ∷ js) = table.number k == table.number j || among k js

  abbrev pub all_among : List K → List K → Bool
  all_among [] js = true
  all_among (k ∷ ks) js = among k js && all_among ks js

  abbrev pub none_among : List K → List K → Bool
  none_among [] js = true
  none_among (k ∷ ks) js = not (among k js) && none_among ks js

  -- the FIRST set of a nonterminal: the kinds of the tokens with which it may begin
  abbrev pub first_set : N → List K
  first_set n = flat_map table.first (rules.productions n)

  -- ---- tests of a row

  -- the row has a token in it, and begins with no other kinds than these
  abbrev pub covers : List K → List (Symbol N A K) → Bool
  covers ks [] = false
  covers ks (Read k ∷ _) = among k ks
  covers ks (Open k ∷ _) = among k ks
  covers ks (Act _ ∷ row) = covers ks row
  covers ks (Once n ∷ _) = all_among (first_set n) ks
  covers ks (Maybe n ∷ row) = all_among (first_set n) ks && covers ks row
  covers ks (Many n ∷ row) = all_among (first_set n) ks && covers ks row

  -- the row may begin with a token of this kind
  abbrev pub may_begin : K → List (Symbol N A K) → Bool
  may_begin k [] = false
  may_begin k (Read j ∷ _) = table.number k == table.number j
  may_begin k (Open j ∷ _) = table.number k == table.number j
  may_begin k (Act _ ∷ row) = may_begin k row
  may_begin k (Once n ∷ _) = among k (first_set n)
  may_begin k (Maybe n ∷ row) = among k (first_set n) || may_begin k row
  may_begin k (Many n ∷ row) = among k (first_set n) || may_begin k row

  abbrev pub all_begin : List K → List (Symbol N A K) → Bool
  all_begin [] row = true
  all_begin (k ∷ ks) row = may_begin k row && all_begin ks row

  -- no two of these productions may begin with the same token: their FIRST sets are disjoint
  abbrev pub are_apart : List P → Bool
  are_apart [] = true
  are_apart (p ∷ ps) = none_among (table.first p) (flat_map table.first ps) && are_apart ps

  -- at most so many moves lie before the row's first token
  abbrev pub moves : List (Symbol N A K) → ℕ
  moves [] = 0
  moves (Read _ ∷ _) = 0
  moves (Open _ ∷ _) = 0
  moves (Act _ ∷ row) = moves row + 1
  moves (Once n ∷ _) = table.cost n + 1
  moves (Maybe n ∷ row) = moves row + (table.cost n + 1)
  moves (Many n ∷ row) = moves row + (table.cost n + 1)

  -- ---- what follows where something may end: no conflict of FIRST and FOLLOW

  abbrev pub is_pair : K → N → List (K × N) → Bool
  is_pair k n [] = false
  is_pair k n (p ∷ ps) = (table.number k == table.number p.0 && table.label n == table.label p.1) || is_pair k n ps

  -- `n` could go on with a token of kind `k`, and this row comes after it. No other part of the row takes such a
  -- token for itself; `after` says so of what follows the row.
  abbrev pub is_safe : K → N → List (Symbol N A K) → Bool → Bool
  is_safe k n [] after = after
  is_safe k n (Read j ∷ _) after = not (table.number k == table.number j)
  is_safe k n (Open j ∷ _) after = not (table.number k == table.number j)
  is_safe k n (Act _ ∷ row) after = is_safe k n row after
  is_safe k n (Once m ∷ _) after = not (among k (first_set m))
  is_safe k n (Maybe m ∷ row) after = if among k (first_set m) then table.label n == table.label m else is_safe k n row after
  is_safe k n (Many m ∷ row) after = if among k (first_set m) then table.label n == table.label m else is_safe k n row after

  abbrev pub are_safe : List (K × N) → List (Symbol N A K) → List (K × N) → Bool
  are_safe [] row row_tail = true
  are_safe (p ∷ ps) row row_tail = is_safe p.0 p.1 row (is_pair p.0 p.1 row_tail) && are_safe ps row row_tail

  -- the ways to go on with the nonterminal itself
  abbrev pub own : N → List (K × N)
  own n = map (λ k. (k, n)) (first_set n)

  -- the symbol, before this row, where `row_tail` are the ways to go on at the row's end
  abbrev pub ends_well : List (K × N) → Symbol N A K → List (Symbol N A K) → Bool
  ends_well row_tail (Read _) row = true
  ends_well row_tail (Open _) row = true
  ends_well row_tail (Act _) row = true
  ends_well row_tail (Once n) row = are_safe (table.tails n) row row_tail
  ends_well row_tail (Maybe n) row = are_safe (own n) row row_tail && are_safe (table.tails n) row row_tail
  ends_well row_tail (Many n) row = are_safe (own n) row row_tail && are_safe (table.tails n) (Many n ∷ row) row_tail

  abbrev pub all_end_well : List (K × N) → List (Symbol N A K) → Bool
  all_end_well row_tail [] = true
  all_end_well row_tail (x ∷ row) = ends_well row_tail x row && all_end_well row_tail row

  -- ---- the shortest way to the end

  abbrev pub sizes : List (Symbol N A K) → ℕ
  sizes [] = 0
  sizes (Once n ∷ row) = table.size n + sizes row
  sizes (Read _ ∷ row) = sizes row
  sizes (Open _ ∷ row) = sizes row
  sizes (Act _ ∷ row) = sizes row
  sizes (Maybe _ ∷ row) = sizes row
  sizes (Many _ ∷ row) = sizes row

  -- the kind of the next token on that way, where `after` follows the row
  abbrev pub lead : List (Symbol N A K) → Option K → Option K
  lead [] after = after
  lead (Read k ∷ _) after = Some k
  lead (Open k ∷ _) after = Some k
  lead (Once n ∷ _) after = Some (table.begin n)
  lead (Act _ ∷ row) after = lead row after
  lead (Maybe _ ∷ row) after = lead row after
  lead (Many _ ∷ row) after = lead row after

  abbrev pub is_this : K → Option K → Bool
  is_this k None = false
  is_this k (Some j) = table.number j == table.number k

  abbrev pub is_sample : N → Option P → Bool
  is_sample n None = false
  is_sample n (Some p) = nat_lt (sizes (rules.row p)) (table.size n) && is_this (table.begin n) (lead (rules.row p) None)

  -- ---- all tests

  abbrev pub is_fine_row : N → P → Bool
  is_fine_row n p =
      covers (table.first p) (rules.row p) && all_begin (table.first p) (rules.row p)
      && nat_lt (moves (rules.row p)) (table.cost n + 1) && all_end_well (table.tails n) (rules.row p)

  abbrev pub are_fine_rows : N → List P → Bool
  are_fine_rows n [] = true
  are_fine_rows n (p ∷ ps) = is_fine_row n p && are_fine_rows n ps

  -- The LL(1) test: the next token tells which production of the nonterminal is meant, and none of its rows goes round without
  -- a token.
  abbrev pub is_ll1 : N → Bool
  is_ll1 n =
      are_fine_rows n (rules.productions n) && are_apart (rules.productions n)
      && is_sample n (slice_get (rules.productions n) (table.sample n)) && among (table.begin n) (first_set n)

  -- equal numbers are equal kinds and equal nonterminals, and each nonterminal and a whole text pass the test
  pub record IsLl1 : Type 0 where
    pub kinds_differ : (j k : K) → table.number j ≡ table.number k → j ≡ k
    pub labels_differ : (m n : N) → table.label m ≡ table.label n → m ≡ n
    pub predictable : (n : N) → is_ll1 n ≡ true
    pub text : all_end_well table.text_tail rules.text ≡ true

-- the named rows are the grammar's, in its order
pub record AreNamed {N P A K : Type 0} (grammar : Rows N A K) (rules : Rules N P A K) : Type 0 where
  pub rows : (n : N) → map rules.row (rules.productions n) ≡ grammar.rows n
  pub text : rules.text ≡ grammar.text

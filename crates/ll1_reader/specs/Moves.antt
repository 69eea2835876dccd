-- How a reader goes on between two tokens, by what the next one tells.
use Rattle.std.specs.Prelude.{◌≡◌, ℕ, suc, ◌<◌, ◌≤◌, Bool, true, false, List, [], ◌∷◌, ◌++◌, Option, None, Some}
use Rattle.ll1_reader.specs.declared.symbol.Symbol.{Symbol}
use Rattle.ll1_reader.specs.declared.symbol.Symbol.TheVariants.{Read, Open, Once, Maybe, Many, Act}
use Rattle.ll1_reader.specs.Grammars.{Rules, IsOneOf}
use Rattle.ll1_reader.specs.Predicting.{Table, among, first_set}
use Rattle.ll1_reader.specs.Readings.{Stack, Bottom, Row, Step, Took, Did}

-- the first of these tokens, where there is one
abbrev pub lookahead : {K : Type 0} → List K → Option K
lookahead [] = None
lookahead (k ∷ _) = Some k

module _ {N P A K : Type 0} (rules : Rules N P A K) (table : Table N P K) where
  -- the next token is of one of these kinds
  abbrev pub is_next : List K → Option K → Bool
  is_next ks None = false
  is_next ks (Some k) = among rules table k ks

-- one move from what is still to be read to what is then still to be read, without a token, and what is done by it
pub data IsMove {N P A K : Type 0} (rules : Rules N P A K) (table : Table N P K) (next : Option K) : Stack N A K → Stack N A K → List (Step A) → Type 0 where
  row_end : (d : ℕ) (below : Stack N A K) → IsMove rules table next (Row [] d below) below []
  act : (a : A) (row : List (Symbol N A K)) (d : ℕ) (below : Stack N A K) → IsMove rules table next (Row (Act a ∷ row) d below) (Row row d below) (Did a ∷ [])
  enter : (n : N) (p : P) (row : List (Symbol N A K)) (d : ℕ) (below : Stack N A K) → IsOneOf p (rules.productions n) →
      is_next rules table (table.first p) next ≡ true →
      IsMove rules table next (Row (Once n ∷ row) d below) (Row (rules.row p) d (Row row d below)) []
  take_it : (n : N) (p : P) (row : List (Symbol N A K)) (d : ℕ) (below : Stack N A K) → IsOneOf p (rules.productions n) →
      is_next rules table (table.first p) next ≡ true →
      IsMove rules table next (Row (Maybe n ∷ row) d below) (Row (rules.row p) d (Row row d below)) []
  leave_it : (n : N) (row : List (Symbol N A K)) (d : ℕ) (below : Stack N A K) → is_next rules table (first_set rules table n) next ≡ false →
      IsMove rules table next (Row (Maybe n ∷ row) d below) (Row row d below) []
  go_on : (n : N) (p : P) (row : List (Symbol N A K)) (d : ℕ) (below : Stack N A K) → IsOneOf p (rules.productions n) →
      is_next rules table (table.first p) next ≡ true →
      IsMove rules table next (Row (Many n ∷ row) d below) (Row (rules.row p) d (Row (Many n ∷ row) d below)) []
  stop : (n : N) (row : List (Symbol N A K)) (d : ℕ) (below : Stack N A K) → is_next rules table (first_set rules table n) next ≡ false →
      IsMove rules table next (Row (Many n ∷ row) d below) (Row row d below) []

-- such moves, one after the other
pub data AreMoves {N P A K : Type 0} (rules : Rules N P A K) (table : Table N P K) (next : Option K) : Stack N A K → Stack N A K → List (Step A) → Type 0 where
  stay : (s : Stack N A K) → AreMoves rules table next s s []
  move : (s t u : Stack N A K) (done more : List (Step A)) → IsMove rules table next s t done →
      AreMoves rules table next t u more → AreMoves rules table next s u (done ++ more)

-- the next token is the one that stands on top; it is read, and opens no level above the limit
pub data IsTake {N A K : Type 0} (limit : ℕ) (k : K) : Stack N A K → Stack N A K → Step A → Type 0 where
  take_read : (row : List (Symbol N A K)) (d : ℕ) (below : Stack N A K) → IsTake limit k (Row (Read k ∷ row) d below) (Row row d below) (Took d)
  take_open : (row : List (Symbol N A K)) (d : ℕ) (below : Stack N A K) → d < limit →
      IsTake limit k (Row (Open k ∷ row) d below) (Row row (suc d) below) (Took (suc d))

-- the next token is the one that stands on top, and opens a level above the limit
abbrev pub IsTooDeep : {N A K : Type 0} → ℕ → K → Stack N A K → Type 0
IsTooDeep limit k Bottom = ⊥
IsTooDeep limit k (Row [] d below) = ⊥
IsTooDeep limit k (Row (Read _ ∷ row) d below) = ⊥
IsTooDeep limit k (Row (Open j ∷ row) d below) = (k ≡ j) × (limit ≤ d)
IsTooDeep limit k (Row (Once _ ∷ row) d below) = ⊥
IsTooDeep limit k (Row (Maybe _ ∷ row) d below) = ⊥
IsTooDeep limit k (Row (Many _ ∷ row) d below) = ⊥
IsTooDeep limit k (Row (Act _ ∷ row) d below) = ⊥

-- what is still to be read doesn't begin with what comes next
abbrev pub IsStuck : {N P A K : Type 0} (rules : Rules N P A K) (table : Table N P K) → Option K → Stack N A K → Type 0
IsStuck rules table next Bottom = next ≡ None → ⊥
IsStuck rules table next (Row [] d below) = ⊥
IsStuck rules table next (Row (Read j ∷ row) d below) = next ≡ Some j → ⊥
IsStuck rules table next (Row (Open j ∷ row) d below) = next ≡ Some j → ⊥
IsStuck rules table next (Row (Once n ∷ row) d below) = is_next rules table (first_set rules table n) next ≡ false
IsStuck rules table next (Row (Maybe _ ∷ row) d below) = ⊥
IsStuck rules table next (Row (Many _ ∷ row) d below) = ⊥
IsStuck rules table next (Row (Act _ ∷ row) d below) = ⊥

-- a token stands on top, or nothing is left
abbrev pub IsReady : {N A K : Type 0} → Stack N A K → Type 0
IsReady Bottom = Unit {0}
IsReady (Row [] d below) = ⊥
IsReady (Row (Read _ ∷ row) d below) = Unit {0}
IsReady (Row (Open _ ∷ row) d below) = Unit {0}
IsReady (Row (Once _ ∷ row) d below) = ⊥
IsReady (Row (Maybe _ ∷ row) d below) = ⊥
IsReady (Row (Many _ ∷ row) d below) = ⊥
IsReady (Row (Act _ ∷ row) d below) = ⊥

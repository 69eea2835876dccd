-- Which tokens have which readings under a grammar, and which reading counts.
use Rattle.std.specs.Prelude.{ℕ, suc, List, [], ◌∷◌}
use Rattle.ll1_reader.specs.declared.symbol.Symbol.{Symbol}
use Rattle.ll1_reader.specs.declared.symbol.Symbol.TheVariants.{Read, Open, Once, Maybe, Many, Act}
use Rattle.ll1_reader.specs.Grammars.{Rules, IsOneOf}

-- what is still to be read: the rest of a row, how many levels are open there, and what follows the row
pub data Stack (N A K : Type 0) : Type 0 where
  Bottom : Stack N A K
  Row : (symbols : List (Symbol N A K)) → (depth : ℕ) → (below : Stack N A K) → Stack N A K

-- a step of a reading: a token is read while so many levels are open, the one that it opens among them, or an act is done
pub data Step (A : Type 0) : Type 0 where
  Took : (depth : ℕ) → Step A
  Did : (act : A) → Step A

-- these tokens are what is still to be read, by these steps. `MayEnd n rest` says that what `n` stands for may be
-- left out, or not come again, before these tokens.
pub data Reads {N P A K : Type 0} (rules : Rules N P A K) (MayEnd : N → List K → Type 0) : Stack N A K → List K → List (Step A) → Type 0 where
  over : Reads rules MayEnd Bottom [] []
  row_over : (d : ℕ) (below : Stack N A K) (ks : List K) (steps : List (Step A)) →
      Reads rules MayEnd below ks steps → Reads rules MayEnd (Row [] d below) ks steps
  read : (k : K) (row : List (Symbol N A K)) (d : ℕ) (below : Stack N A K) (ks : List K) (steps : List (Step A)) →
      Reads rules MayEnd (Row row d below) ks steps → Reads rules MayEnd (Row (Read k ∷ row) d below) (k ∷ ks) (Took d ∷ steps)
  opened : (k : K) (row : List (Symbol N A K)) (d : ℕ) (below : Stack N A K) (ks : List K) (steps : List (Step A)) →
      Reads rules MayEnd (Row row (suc d) below) ks steps → Reads rules MayEnd (Row (Open k ∷ row) d below) (k ∷ ks) (Took (suc d) ∷ steps)
  acted : (a : A) (row : List (Symbol N A K)) (d : ℕ) (below : Stack N A K) (ks : List K) (steps : List (Step A)) →
      Reads rules MayEnd (Row row d below) ks steps → Reads rules MayEnd (Row (Act a ∷ row) d below) ks (Did a ∷ steps)
  once : (n : N) (p : P) (row : List (Symbol N A K)) (d : ℕ) (below : Stack N A K) (ks : List K) (steps : List (Step A)) →
      IsOneOf p (rules.productions n) → Reads rules MayEnd (Row (rules.row p) d (Row row d below)) ks steps →
      Reads rules MayEnd (Row (Once n ∷ row) d below) ks steps
  taken : (n : N) (p : P) (row : List (Symbol N A K)) (d : ℕ) (below : Stack N A K) (ks : List K) (steps : List (Step A)) →
      IsOneOf p (rules.productions n) → Reads rules MayEnd (Row (rules.row p) d (Row row d below)) ks steps →
      Reads rules MayEnd (Row (Maybe n ∷ row) d below) ks steps
  left_out : (n : N) (row : List (Symbol N A K)) (d : ℕ) (below : Stack N A K) (ks : List K) (steps : List (Step A)) →
      MayEnd n ks → Reads rules MayEnd (Row row d below) ks steps → Reads rules MayEnd (Row (Maybe n ∷ row) d below) ks steps
  again : (n : N) (p : P) (row : List (Symbol N A K)) (d : ℕ) (below : Stack N A K) (ks : List K) (steps : List (Step A)) →
      IsOneOf p (rules.productions n) → Reads rules MayEnd (Row (rules.row p) d (Row (Many n ∷ row) d below)) ks steps →
      Reads rules MayEnd (Row (Many n ∷ row) d below) ks steps
  ended : (n : N) (row : List (Symbol N A K)) (d : ℕ) (below : Stack N A K) (ks : List K) (steps : List (Step A)) →
      MayEnd n ks → Reads rules MayEnd (Row row d below) ks steps → Reads rules MayEnd (Row (Many n ∷ row) d below) ks steps

module _ {N P A K : Type 0} (rules : Rules N P A K) where
  -- anything may end before any tokens
  abbrev pub AnyEnd : N → List K → Type 0
  AnyEnd n rest = Unit {0}

  -- no sentence of the nonterminal, by the grammar as written, begins with the first of these tokens
  abbrev pub IsNotBegun : N → List K → Type 0
  IsNotBegun n [] = Unit {0}
  IsNotBegun n (k ∷ _) = (after : List K) (steps : List (Step A)) → Reads rules AnyEnd (Row (Once n ∷ []) 0 Bottom) (k ∷ after) steps → ⊥

  -- the tokens are a sentence of the grammar as written, and these are the steps of one of its readings
  abbrev pub IsAnyReading : List K → List (Step A) → Type 0
  IsAnyReading tokens steps = Reads rules AnyEnd (Row rules.text 0 Bottom) tokens steps

  -- The reading that counts: what may be left out, or may come again, is read as far as it goes. It ends only before
  -- a token with which it can't begin.
  abbrev pub IsReading : List K → List (Step A) → Type 0
  IsReading tokens steps = Reads rules IsNotBegun (Row rules.text 0 Bottom) tokens steps

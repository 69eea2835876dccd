-- Grammars as data: what each nonterminal may stand for.
use Rattle.std.specs.Prelude.{◌≡◌, ◌⊎◌, List, [], ◌∷◌}
use Rattle.ll1_reader.specs.declared.symbol.Symbol.{Symbol}

-- A grammar: a nonterminal stands for what the symbols of one of its rows stand for, and a whole text is what the symbols
-- of `text` stand for.
pub record Rows (N A K : Type 0) : Type 0 where
  pub rows : N → List (List (Symbol N A K))
  pub text : List (Symbol N A K)

-- a grammar whose rows have names: a nonterminal stands for any one of its productions, and a production for its row
pub record Rules (N P A K : Type 0) : Type 0 where
  pub productions : N → List P
  pub row : P → List (Symbol N A K)
  pub text : List (Symbol N A K)

-- it is one of the list
abbrev pub IsOneOf : {X : Type 0} → X → List X → Type 0
IsOneOf x [] = ⊥
IsOneOf x (y ∷ ys) = (x ≡ y) ⊎ IsOneOf x ys

-- a grammar's rows, each its own name
abbrev pub rules_of : {N A K : Type 0} → Rows N A K → Rules N (List (Symbol N A K)) A K
rules_of grammar = record { productions = grammar.rows; row = λ row. row; text = grammar.text }

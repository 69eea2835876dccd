-- Formulas in postfix order: each form after its parts. (Reverse Polish notation.)
use Rattle.std.specs.Prelude.{List, [], ◌∷◌, ◌++◌, flat_map, Option, Some, None, option_map, option_and_then}
use Rattle.ws2s_core.specs.declared.formula.Formula.{Formula, roll-Formula}
use Rattle.ws2s_core.specs.declared.formula.Formula.TheOpen.{Formula-F}
use Rattle.ws2s_core.specs.declared.formula.Formula.TheFolds.{fold-Formula}
use Rattle.ws2s_core.specs.declared.postfix.Symbol.{Symbol}

-- the form, without its parts
abbrev pub symbol_of : {Part : Type 0} → Formula-F Part → Symbol
symbol_of (Formula-F.Sub x y) = Symbol.Sub x y
symbol_of (Formula-F.Single x) = Symbol.Single x
symbol_of (Formula-F.Succ0 x y) = Symbol.Succ0 x y
symbol_of (Formula-F.Succ1 x y) = Symbol.Succ1 x y
symbol_of (Formula-F.Root x) = Symbol.Root x
symbol_of (Formula-F.And f g) = Symbol.And
symbol_of (Formula-F.Not f) = Symbol.Not
symbol_of (Formula-F.Ex2 t f) = Symbol.Ex2 t

-- the parts, from the left
abbrev pub parts_of : {Part : Type 0} → Formula-F Part → List Part
parts_of (Formula-F.Sub x y) = []
parts_of (Formula-F.Single x) = []
parts_of (Formula-F.Succ0 x y) = []
parts_of (Formula-F.Succ1 x y) = []
parts_of (Formula-F.Root x) = []
parts_of (Formula-F.And f g) = f ∷ g ∷ []
parts_of (Formula-F.Not f) = f ∷ []
parts_of (Formula-F.Ex2 t f) = f ∷ []

abbrev pub postfix_of_node : Formula-F (List Symbol) → List Symbol
postfix_of_node node = flat_map (λ part. part) (parts_of node) ++ symbol_of node ∷ []

-- the symbols of the formula, each after those of its parts
abbrev pub postfix_of : Formula → List Symbol
postfix_of = fold-Formula (List Symbol) postfix_of_node

-- the form that a symbol makes of the last parts, and the parts before them; the last part comes first
abbrev pub taken : {Part : Type 0} → Symbol → List Part → Option (Formula-F Part × List Part)
taken (Symbol.Sub x y) parts = Some (Formula-F.Sub x y, parts)
taken (Symbol.Single x) parts = Some (Formula-F.Single x, parts)
taken (Symbol.Succ0 x y) parts = Some (Formula-F.Succ0 x y, parts)
taken (Symbol.Succ1 x y) parts = Some (Formula-F.Succ1 x y, parts)
taken (Symbol.Root x) parts = Some (Formula-F.Root x, parts)
taken Symbol.And [] = None
taken Symbol.And (g ∷ []) = None
taken Symbol.And (g ∷ f ∷ parts) = Some (Formula-F.And f g, parts)
taken Symbol.Not [] = None
taken Symbol.Not (f ∷ parts) = Some (Formula-F.Not f, parts)
taken (Symbol.Ex2 t) [] = None
taken (Symbol.Ex2 t) (f ∷ parts) = Some (Formula-F.Ex2 t f, parts)

-- the formulas after a symbol took its parts and its formula came in their place, the last first
abbrev pub applied : Symbol → List Formula → Option (List Formula)
applied symbol parts = option_map (λ found. roll-Formula found.0 ∷ found.1) (taken symbol parts)

-- the formulas after all symbols
abbrev pub run_on : List Symbol → List Formula → Option (List Formula)
run_on [] parts = Some parts
run_on (symbol ∷ symbols) parts = option_and_then (λ after. run_on symbols after) (applied symbol parts)

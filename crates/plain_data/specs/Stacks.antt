-- What a stack has on top, and what lies below. An empty stack counts as one with a given element on top.
use Rattle.std.specs.Prelude.{List, [], ◌∷◌}

abbrev pub top : {T : Type 0} → T → List T → T
top otherwise [] = otherwise
top otherwise (first ∷ _) = first

abbrev pub rest : {T : Type 0} → List T → List T
rest [] = []
rest (_ ∷ others) = others

-- Lists whose nodes name earlier ones: what a node means is known from what the nodes before it mean.
use Rattle.std.specs.Prelude.{List, [], ◌∷◌, ◌++◌, fold}

-- what the nodes mean, in order, each by the list of what those before it mean
abbrev pub meanings : {N M : Type 0} → (List M → N → M) → List N → List M
meanings meaning nodes = fold (λ earlier node. earlier ++ meaning earlier node ∷ []) [] nodes

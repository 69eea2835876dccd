-- Numbers that are no more than the Sizes of automata that wait.
use Rattle.std.specs.Prelude.{ℕ, ◌<◌, ◌≤◌, List, [], ◌∷◌, map}
use Rattle.bdd_nodes.specs.Shelf.{Contents}
use Rattle.gta_theory.specs.Guides.{Spaces}
use Rattle.gta_core.specs.Auto.{AutoView}
use Rattle.gta_keep.specs.Holding.{HaveSum}
use Rattle.ws2s_decide.specs.declared.waiting.Held.{Held}

-- wherever the Sizes of the automata have a sum, the number is no more
abbrev pub IsInSizes : List AutoView → ℕ → Type 0
IsInSizes autos n = (g : Spaces) (shelf : Contents) (sum : ℕ) → HaveSum g shelf autos sum → n ≤ sum

-- wherever the Sizes of the automata have a sum, it is above the number
abbrev pub ArePast : List AutoView → ℕ → Type 0
ArePast autos n = (g : Spaces) (shelf : Contents) (sum : ℕ) → HaveSum g shelf autos sum → n < sum

-- the pairs that stand beside each automaton are no more than the Sizes of it and of those after it
abbrev pub AreCounted : List Held → Type 0
AreCounted [] = Unit {0}
AreCounted (one ∷ rest) = IsInSizes (one.auto ∷ map (λ other. other.auto) rest) one.pairs × AreCounted rest

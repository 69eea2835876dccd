-- Where there is too little room for an automaton that is built beside others that wait: the Sizes of all that is needed at
-- once are more than the limit.
use Rattle.std.specs.Prelude.{ℕ, ◌+◌, ◌<◌, List, [], ◌∷◌}
use Rattle.bdd_nodes.specs.Shelf.{Contents, limit_of}
use Rattle.gta_theory.specs.Guides.{Spaces}
use Rattle.gta_theory.specs.Numbered.{Below}
use Rattle.gta_theory.specs.Sizes.{SizeOf}
use Rattle.gta_core.specs.Auto.{AutoView, states_of, automaton_of}
use Rattle.ws2s_core.specs.declared.track.Track.{Track}
use Rattle.ws2s_core.specs.declared.formula.Formula.{Formula}
use Rattle.ws2s_core.specs.declared.node.FormulaId.{FormulaId}
use Rattle.ws2s_core.specs.Recognising.{Recognises}
use Rattle.ws2s_theory.specs.Peaks.{HasMinimalSize, HasProductSize, HasSubsetSize}
use Rattle.gta_keep.specs.Holding.{Holds, IsMinimalFor, HaveSum, beside}

-- too little for the others, the two and their product
abbrev pub PairsLimit : Spaces → Contents → AutoView → AutoView → List (FormulaId × AutoView) → Type 0
PairsLimit g shelf a b kept = (others : List AutoView) (f h : Formula) (s n m p : ℕ) → Holds g shelf (beside (a ∷ b ∷ []) others kept) →
    IsMinimalFor g shelf a f → IsMinimalFor g shelf b h → HaveSum g shelf others s →
    HasMinimalSize g f n → HasMinimalSize g h m → HasProductSize g f h p → limit_of shelf < s + (n + m + p)

-- too little for the others, the automaton and its subset automaton
abbrev pub SetsLimit : Spaces → Contents → AutoView → Track → List (FormulaId × AutoView) → Type 0
SetsLimit g shelf a t kept = (others : List AutoView) (f : Formula) (s n p : ℕ) → Holds g shelf (beside (a ∷ []) others kept) →
    IsMinimalFor g shelf a f → HaveSum g shelf others s → HasMinimalSize g f n → HasSubsetSize g t f p → limit_of shelf < s + (n + p)

-- too little for the others, the automaton and the minimal one
abbrev pub MinimalLimit : Spaces → Contents → AutoView → List (FormulaId × AutoView) → Type 0
MinimalLimit g shelf a kept = (others : List AutoView) (f : Formula) (s n r : ℕ) → Holds g shelf (beside (a ∷ []) others kept) →
    Recognises g (automaton_of shelf a) f → HaveSum g shelf others s → SizeOf g (automaton_of shelf a) (Below (states_of a)) n →
    HasMinimalSize g f r → limit_of shelf < s + (n + r)

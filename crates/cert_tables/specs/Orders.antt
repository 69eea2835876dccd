-- In which order pairs and sets stand.
use Rattle.std.specs.Prelude.{◌≡◌, ◌⊎◌, ℕ, ◌+◌, ◌<◌, ◌≤◌, List, Some, slice_get}
use Rattle.cert_text.specs.declared.line.PairLine.{PairLine}
use Rattle.cert_text.specs.declared.line.SetLine.{SetLine}

-- each comes after the one in front of it
abbrev pub AreInOrder : {X : Type 0} → (X → X → Type 0) → List X → Type 0
AreInOrder {X} Before xs = (k : ℕ) (x y : X) → slice_get xs k ≡ Some x → slice_get xs (k + 1) ≡ Some y → Before x y

-- by space, then by the state of the left part, then by that of the right one
abbrev pub IsPairBefore : PairLine → PairLine → Type 0
IsPairBefore l m =
    (l.space < m.space)
    ⊎ ((l.space ≡ m.space) × ((l.first < m.first) ⊎ ((l.first ≡ m.first) × (l.second < m.second))))

abbrev pub ArePairsInOrder : List PairLine → Type 0
ArePairsInOrder = AreInOrder IsPairBefore

-- by space
abbrev pub AreSetsInOrder : List SetLine → Type 0
AreSetsInOrder = AreInOrder (λ l m. l.space ≤ m.space)

-- Automata that stand in a shelf, each with a table of its own, and no other table beside them.
use Rattle.std.specs.Prelude.{◌≡◌, ℕ, ◌+◌, ◌==◌, ◌⊎◌, if◌then◌else◌, is_some, List, [], ◌∷◌, ◌++◌, map, All, Contains, IsSome, Option, None, Some}
use Rattle.std.specs.List.{sum_by}
use Rattle.bdd_nodes.specs.Shelf.{Contents, IsShelf, roots_of, limit_of}
use Rattle.gta_theory.specs.Guides.{Spaces}
use Rattle.gta_theory.specs.Numbered.{Below}
use Rattle.gta_theory.specs.Sizes.{SizeOf}
use Rattle.gta_core.specs.Auto.{AutoView, states_of, automaton_of, IsAuto}
use Rattle.gta_core.specs.Changes.{KeepsTable}
use Rattle.gta_core.specs.Sizes.{IsSized}
use Rattle.ws2s_core.specs.declared.formula.Formula.{Formula}
use Rattle.ws2s_core.specs.declared.node.FormulaId.{FormulaId}
use Rattle.ws2s_core.specs.Recognising.{IsMinimalOf}

-- how many of the automata have the table
abbrev pub times : List AutoView → ℕ → ℕ
times [] table = 0
times (a ∷ autos) table = (if a.table == table then 1 else 0) + times autos table

-- once where the table is registered, and else not at all
abbrev pub registered : Contents → ℕ → ℕ
registered shelf table = if is_some (roots_of shelf table) then 1 else 0

-- these are automata of the shelf, and exactly the registered tables are theirs, each that of one of them
pub record Holds (g : Spaces) (shelf : Contents) (autos : List AutoView) : Type 0 where
  pub is_shelf : IsShelf shelf
  pub each : (a : AutoView) → Contains autos a → IsAuto g shelf a
  pub tables : (table : ℕ) → times autos table ≡ registered shelf table

-- a shelf that has no table
pub record HasNoTables (shelf : Contents) : Type 0 where
  -- it is a shelf
  pub is_shelf : IsShelf shelf
  -- no number has a table
  pub none : (table : ℕ) → IsSome (roots_of shelf table) → ⊥

-- the automaton is a minimal one of the formula
abbrev pub IsMinimalFor : Spaces → Contents → AutoView → Formula → Type 0
IsMinimalFor g shelf a f = IsMinimalOf g (automaton_of shelf a) (Below (states_of a)) f

-- the automata are minimal ones of the formulas, in the same order
pub data AreMinimalFor (g : Spaces) (shelf : Contents) : List AutoView → List Formula → Type 0 where
  none : AreMinimalFor g shelf [] []
  more : (a : AutoView) (f : Formula) (autos : List AutoView) (formulas : List Formula) → IsMinimalFor g shelf a f →
      AreMinimalFor g shelf autos formulas → AreMinimalFor g shelf (a ∷ autos) (f ∷ formulas)

-- the automata that are kept
abbrev pub kept_autos : List (FormulaId × AutoView) → List AutoView
kept_autos = map (λ entry. entry.1)

-- the automata, some others and those that are kept, in this order
abbrev pub beside : List AutoView → List AutoView → List (FormulaId × AutoView) → List AutoView
beside autos others kept = autos ++ (others ++ kept_autos kept)

-- the shelf holds the automata beside some others and those that are kept
pub record HoldsBeside (g : Spaces) (shelf : Contents) (autos : List AutoView) (kept : List (FormulaId × AutoView)) :
    Type 0 where
  pub others : List AutoView
  pub holds : Holds g shelf (beside autos others kept)

-- the Sizes of the automata have that sum
pub record HaveSum (g : Spaces) (shelf : Contents) (autos : List AutoView) (sum : ℕ) : Type 0 where
  pub sized : List (AutoView × ℕ)
  pub are : map (λ auto. auto.0) sized ≡ autos
  pub each : All (IsSized g shelf) sized
  pub is_sum : sum_by (λ auto. auto.1) sized ≡ sum

-- the automaton as it stands in the second shelf is the other one as it stood in the first, over as many states
pub record IsCopy (old new : Contents) (was now : AutoView) : Type 0 where
  pub automaton : automaton_of new now ≡ automaton_of old was
  pub states : (s : ℕ) → states_of now s ≡ states_of was s

-- nothing is kept for the number
abbrev pub IsNotKept : FormulaId → List (FormulaId × AutoView) → Type 0
IsNotKept id kept = (auto : AutoView) → Contains kept (id, auto) → ⊥

-- the automaton is a copy of one that was kept for the number
pub record IsCopyOfKept (old new : Contents) (id : FormulaId) (before : List (FormulaId × AutoView)) (copy : AutoView) :
    Type 0 where
  pub was : AutoView
  pub there : Contains before (id, was)
  pub copies : IsCopy old new was copy

-- a copy of the automaton is kept for the number
pub record IsKeptCopy (old new : Contents) (id : FormulaId) (auto : AutoView) (after : List (FormulaId × AutoView)) :
    Type 0 where
  pub now : AutoView
  pub there : Contains after (id, now)
  pub copies : IsCopy old new auto now

-- the automaton that was found, if any
abbrev pub as_list : Option AutoView → List AutoView
as_list None = []
as_list (Some auto) = auto ∷ []

-- what is kept is some of what was, each with its table as it was
pub record KeepsSome (old new : Contents) (before after : List (FormulaId × AutoView)) : Type 0 where
  pub entries : (entry : FormulaId × AutoView) → Contains after entry → Contains before entry
  pub tables : (entry : FormulaId × AutoView) → Contains after entry → KeepsTable old new (entry.1).table

-- From one shelf to the next the automata in `gone` were let go of and those in `come` came, and others stand as they were.
pub record Passes (g : Spaces) (old new : Contents) (gone come : List AutoView)
    (before after : List (FormulaId × AutoView)) : Type 0 where
  pub kept : KeepsSome old new before after
  pub holds : (others : List AutoView) → Holds g old (beside gone others before) → Holds g new (beside come others after)
  pub others : (others : List AutoView) (other : AutoView) → Holds g old (beside gone others before) → Contains others other →
      KeepsTable old new other.table
  pub limit : limit_of new ≡ limit_of old

-- an entry that is kept was kept, with its table as it was, or it is the number with a copy of the automaton
abbrev pub WasOrIsCopy : Contents → Contents → FormulaId → AutoView → List (FormulaId × AutoView) → FormulaId × AutoView → Type 0
WasOrIsCopy old new id auto before entry =
    (Contains before entry × KeepsTable old new (entry.1).table) ⊎ ((entry.0 ≡ id) × IsCopy old new auto entry.1)

-- From one shelf to the next at most a copy of the automaton came to what is kept, and others stand as they were.
pub record TakesIn (g : Spaces) (old new : Contents) (id : FormulaId) (auto : AutoView)
    (before after : List (FormulaId × AutoView)) : Type 0 where
  pub entries : (entry : FormulaId × AutoView) → Contains after entry → WasOrIsCopy old new id auto before entry
  pub holds : (others : List AutoView) → Holds g old (beside [] others before) → Holds g new (beside [] others after)
  pub others : (others : List AutoView) (other : AutoView) → Holds g old (beside [] others before) → Contains others other →
      KeepsTable old new other.table
  pub limit : limit_of new ≡ limit_of old

-- every automaton of the shelf has a Size
abbrev pub HaveSizes : Spaces → Contents → Type 0
HaveSizes g shelf = (a : AutoView) → IsAuto g shelf a → (n : ℕ) × SizeOf g (automaton_of shelf a) (Below (states_of a)) n

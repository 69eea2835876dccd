-- What is still to be judged, when it holds, and what is made of its answer.
use Rattle.std.specs.Prelude.{◌↔◌, ◌⊎◌, ℕ, Bool, true, false, IsTrue, List, [], ◌∷◌, ◌++◌, map, drop, Some}
use Rattle.std.specs.FinMap.{keys}
use Rattle.plain_data.specs.Stacks.{rest}
use Rattle.store_core.specs.declared.ids.TypeId.{TypeId}
use Rattle.store_core.specs.declared.ids.CellId.{CellId}
use Rattle.store_core.specs.declared.value.Value.{Value}
use Rattle.store_core.specs.declared.value.Value.TheVariants as value
use Rattle.store_core.specs.Tables.{TypeEntry}
use Rattle.store_core.specs.Stores.{StoreMap}
use Rattle.routing_walks.specs.Walks.{IsOfType}
use Rattle.store_logic.specs.declared.assertion.Assertion.{Assertion}
use Rattle.store_logic.specs.Terms.{Environment}
use Rattle.store_logic.specs.Satisfaction.{SatAll}
use Rattle.store_sat.specs.declared.task.Join.{Join}
use Rattle.store_sat.specs.declared.task.Join.TheVariants as join
use Rattle.store_sat.specs.declared.task.Quantifier.{Quantifier}
use Rattle.store_sat.specs.declared.task.Task.{Task}
use Rattle.store_sat.specs.declared.task.Task.TheVariants as task
use Rattle.store_sat.specs.declared.task.Frame.{Frame}
use Rattle.store_sat.specs.declared.task.Frame.TheVariants as frame
use Rattle.store_sat.specs.declared.spine.Spine.{Spine}

-- ---- questions

-- what is still to be judged: nothing but an answer; an assertion; whether some, or all, of these cells of the type satisfy a
-- body; whether some, or all, sets of these cells beside those of the type among the others do
pub data Question : Type 0 where
  known : Bool → Question
  whole : Assertion → Question
  cells : Bool → TypeId → Assertion → List ℕ → Question
  sets : Bool → TypeId → Assertion → List CellId → List ℕ → Question

-- under quantifiers that bind these values, the nearest first
abbrev pub around : List Value → Environment
around bound = record { bound = bound; params = [] }

abbrev pub numbered : ℕ → CellId
numbered n = record { 0 = n }

-- some cell of the type with one of these numbers
abbrev pub SomeCell : StoreMap → TypeId → (CellId → Type 0) → List ℕ → Type 0
SomeCell s ty Is [] = ⊥
SomeCell s ty Is (n ∷ numbers) = (IsOfType s ty (numbered n) × Is (numbered n)) ⊎ SomeCell s ty Is numbers

-- each of them
abbrev pub EachCell : StoreMap → TypeId → (CellId → Type 0) → List ℕ → Type 0
EachCell s ty Is [] = Unit {0}
EachCell s ty Is (n ∷ numbers) = (IsOfType s ty (numbered n) → Is (numbered n)) × EachCell s ty Is numbers

-- some set of the chosen cells and of cells of the type with some of these numbers
abbrev pub SomeSet : StoreMap → TypeId → (List CellId → Type 0) → List CellId → List ℕ → Type 0
SomeSet s ty Is chosen [] = Is chosen
SomeSet s ty Is chosen (n ∷ numbers) =
    SomeSet s ty Is chosen numbers ⊎ (IsOfType s ty (numbered n) × SomeSet s ty Is (chosen ++ numbered n ∷ []) numbers)

-- each of them
abbrev pub EachSet : StoreMap → TypeId → (List CellId → Type 0) → List CellId → List ℕ → Type 0
EachSet s ty Is chosen [] = Is chosen
EachSet s ty Is chosen (n ∷ numbers) =
    EachSet s ty Is chosen numbers × (IsOfType s ty (numbered n) → EachSet s ty Is (chosen ++ numbered n ∷ []) numbers)

-- the answer is yes
abbrev pub Holds : List TypeEntry → StoreMap → Question → List Value → Type 0
Holds types s (known truth) bound = IsTrue truth
Holds types s (whole a) bound = SatAll types [] s (around bound) a
Holds types s (cells true ty a numbers) bound = SomeCell s ty (λ c. SatAll types [] s (around (value.Cell (Some c) ∷ bound)) a) numbers
Holds types s (cells false ty a numbers) bound = EachCell s ty (λ c. SatAll types [] s (around (value.Cell (Some c) ∷ bound)) a) numbers
Holds types s (sets true ty a chosen numbers) bound = SomeSet s ty (λ set. SatAll types [] s (around (value.Cells set ∷ bound)) a) chosen numbers
Holds types s (sets false ty a chosen numbers) bound = EachSet s ty (λ set. SatAll types [] s (around (value.Cells set ∷ bound)) a) chosen numbers

-- ---- frames

-- what is made of an answer: its negation; itself, outside of the nearest quantifier; it joined to that of another question
pub data Surround : Type 0 where
  negated : Surround
  outer : Surround
  joined : Join → Question → Surround

abbrev pub Joined : Join → Type 0 → Type 0 → Type 0
Joined join.And P Q = P × Q
Joined join.Or P Q = P ⊎ Q
Joined join.Imp P Q = P → Q
Joined join.Iff P Q = P ↔ Q

-- the place of a question: what surrounds it, the nearest first, and what is bound there
pub record Spot : Type 0 where
  pub frames : List Surround
  pub bound : List Value

-- what all frames make of an answer
abbrev pub Whole : List TypeEntry → StoreMap → List Surround → List Value → Type 0 → Type 0
Whole types s [] bound P = P
Whole types s (negated ∷ frames) bound P = Whole types s frames bound (P → ⊥)
Whole types s (outer ∷ frames) bound P = Whole types s frames (rest bound) P
Whole types s (joined j q ∷ frames) bound P = Whole types s frames bound (Joined j P (Holds types s q bound))

-- ---- as the code keeps them

abbrev pub cells_from : StoreMap → Quantifier → ℕ → Question
cells_from s q place = cells q.some q.ty q.body.now (drop place (keys s.cells))

abbrev pub sets_from : StoreMap → Quantifier → List CellId → ℕ → Question
sets_from s q chosen place = sets q.some q.ty q.body.now chosen (drop place (keys s.cells))

abbrev pub question_of : StoreMap → Task → Question
question_of s (task.Known truth) = known truth
question_of s (task.Whole a) = whole a.now
question_of s (task.Cells q place) = cells_from s q place
question_of s (task.Sets q chosen place) = sets_from s q chosen place

abbrev pub surround_of : StoreMap → Frame → Surround
surround_of s frame.Not = negated
surround_of s frame.Leave = outer
surround_of s (frame.With j other) = joined j (question_of s other)

abbrev pub spot_of : StoreMap → Spine → Spot
spot_of s spine = record { frames = map (surround_of s) spine.frames; bound = spine.bound }

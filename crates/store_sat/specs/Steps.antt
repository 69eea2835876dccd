-- What a step keeps, and how far it is to the answer.
use Rattle.std.specs.Prelude.{true, ◌≡◌, ◌↔◌, ◌<◌, ◌+◌, ◌*◌, ℕ, List, [], ◌∷◌, ◌++◌}
use Rattle.std.specs.List.{AllByRecursion}
use Rattle.std.specs.FinMap.{keys}
use Rattle.store_core.specs.declared.ids.CellId.{CellId}
use Rattle.store_core.specs.declared.value.Value.{Value}
use Rattle.store_core.specs.Tables.{TypeEntry}
use Rattle.store_core.specs.Stores.{StoreMap}
use Rattle.store_logic.specs.declared.assertion.Assertion.{Assertion}
use Rattle.store_logic.specs.declared.assertion.Assertion.TheOpen.{Assertion-F}
use Rattle.store_logic.specs.declared.assertion.Assertion.TheFolds.{fold-Assertion}
use Rattle.store_sat.specs.Tasks.{numbered, Question, known, whole, cells, sets, Surround, negated, outer, joined, Spot, Holds, Whole, question_of, spot_of}
use Rattle.store_sat.specs.declared.task.Join.{Join}
use Rattle.store_sat.specs.declared.task.Join.TheVariants as join
use Rattle.store_sat.specs.declared.task.Task.{Task}
use Rattle.store_sat.specs.declared.task.Turn.{Turn}
use Rattle.store_sat.specs.declared.task.Turn.TheVariants as turn
use Rattle.store_sat.specs.declared.spine.Spine.{Spine}

-- ---- how far

-- for these cells, with a body that is so far from its answer
abbrev pub far_for_cells : ℕ → List ℕ → ℕ
far_for_cells body [] = 1
far_for_cells body (n ∷ numbers) = far_for_cells body numbers + body + 4

-- for the sets of these
abbrev pub far_for_sets : ℕ → List ℕ → ℕ
far_for_sets body [] = body + 2
far_for_sets body (n ∷ numbers) = 2 * far_for_sets body numbers + 3

abbrev pub far_of_node : List ℕ → Assertion-F ℕ → ℕ
far_of_node all Assertion-F.True = 1
far_of_node all Assertion-F.False = 1
far_of_node all (Assertion-F.Truth t) = 1
far_of_node all (Assertion-F.Is t v) = 1
far_of_node all (Assertion-F.Same t u) = 1
far_of_node all (Assertion-F.Member t set) = 1
far_of_node all (Assertion-F.Subset set other) = 1
far_of_node all (Assertion-F.Walk t along u) = 1
far_of_node all (Assertion-F.Pred k args) = 1
far_of_node all (Assertion-F.Not a) = a + 2
far_of_node all (Assertion-F.And a b) = a + b + 3
far_of_node all (Assertion-F.Or a b) = a + b + 3
far_of_node all (Assertion-F.Imp a b) = a + b + 3
far_of_node all (Assertion-F.Iff a b) = a + b + 3
far_of_node all (Assertion-F.Ex ty a) = far_for_cells a all + 1
far_of_node all (Assertion-F.All ty a) = far_for_cells a all + 1
far_of_node all (Assertion-F.ExSet ty a) = far_for_sets a all + 1
far_of_node all (Assertion-F.AllSet ty a) = far_for_sets a all + 1

-- for an assertion, where these are the live cells
abbrev pub far_for_whole : List ℕ → Assertion → ℕ
far_for_whole all = fold-Assertion ℕ (far_of_node all)

abbrev pub far_for : List ℕ → Question → ℕ
far_for all (known truth) = 0
far_for all (whole a) = far_for_whole all a
far_for all (cells some ty a numbers) = far_for_cells (far_for_whole all a) numbers
far_for all (sets some ty a chosen numbers) = far_for_sets (far_for_whole all a) numbers

abbrev pub far_in : List ℕ → Surround → ℕ
far_in all negated = 1
far_in all outer = 1
far_in all (joined j q) = far_for all q + 2

abbrev pub far_around : List ℕ → List Surround → ℕ
far_around all [] = 0
far_around all (frame ∷ frames) = far_in all frame + far_around all frames

-- for a question at a place
abbrev pub far : List ℕ → Spot → Question → ℕ
far all spot q = far_for all q + far_around all spot.frames

-- ---- order

-- the chosen cells stay in rising order, whichever of these cells are chosen too
abbrev pub StayRising : List CellId → List ℕ → Type 0
StayRising chosen [] = Unit {0}
StayRising chosen (n ∷ numbers) =
    AllByRecursion (λ d. d.0 < n) chosen × StayRising chosen numbers × StayRising (chosen ++ numbered n ∷ []) numbers

abbrev pub IsOrdered : Question → Type 0
IsOrdered (known truth) = Unit {0}
IsOrdered (whole a) = Unit {0}
IsOrdered (cells some ty a numbers) = Unit {0}
IsOrdered (sets some ty a chosen numbers) = StayRising chosen numbers

abbrev pub IsOrderedIn : Surround → Type 0
IsOrderedIn negated = Unit {0}
IsOrderedIn outer = Unit {0}
IsOrderedIn (joined j q) = IsOrdered q

-- so do those of a question and of its surroundings
abbrev pub AreOrdered : List Surround → Question → Type 0
AreOrdered frames q = IsOrdered q × AllByRecursion IsOrderedIn frames

-- ---- steps

-- the whole of which the question is a part holds
abbrev pub Stands : List TypeEntry → StoreMap → Spot → Question → Type 0
Stands types s spot q = Whole types s spot.frames spot.bound (Holds types s q spot.bound)

-- from one question to another, which stands exactly where the first does and is nearer to its answer
pub record Steps (types : List TypeEntry) (s : StoreMap) (before : Spot) (question : Question) (after : Spot) (next : Question) : Type 0 where
  pub same : Stands types s after next ↔ Stands types s before question
  pub ordered : AreOrdered after.frames next
  pub nearer : far (keys s.cells) after next < far (keys s.cells) before question

-- the spot with one frame more around
abbrev pub with_frame : Surround → Spot → Spot
with_frame frame spot = record { frames = frame ∷ spot.frames; bound = spot.bound }

-- the spot under one quantifier more, which binds this value
abbrev pub inside : Value → Spot → Spot
inside x spot = record { frames = outer ∷ spot.frames; bound = x ∷ spot.bound }

-- the same as the code keeps them
abbrev pub IsReady : StoreMap → Spine → Question → Type 0
IsReady s spine q = AreOrdered (spot_of s spine).frames q

abbrev pub StepsTo : List TypeEntry → StoreMap → Spine → Question → Spine → Task → Type 0
StepsTo types s before q after next = Steps types s (spot_of s before) q (spot_of s after) (question_of s next)

-- a step, or the answer to the whole, where no frame is around it
abbrev pub TurnsTo : List TypeEntry → StoreMap → Spine → Question → Spine → Turn → Type 0
TurnsTo types s before q after (turn.On next) = StepsTo types s before q after next
TurnsTo types s before q after (turn.Done truth) = (q ≡ known truth) × (before.frames ≡ [])

-- what is left of a join where the answer to its first part is yes
abbrev pub left_by_true : Join → Question → Question
left_by_true join.And q = q
left_by_true join.Or q = known true
left_by_true join.Imp q = q
left_by_true join.Iff q = q

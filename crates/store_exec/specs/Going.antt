-- How items are gone through one by one.
use Rattle.std.specs.Prelude.{◌≡◌, ◌+◌, ◌<◌, ℕ, List, ◌++◌, flat_map, sum_by, Bool, if◌then◌else◌, Result, Ok, Err}
use Rattle.std.specs.Borrow.{Bor}
use Rattle.store_core.specs.Tables.{TypeEntry, VarEntry}
use Rattle.store_core.specs.Stores.{StoreMap, Fits, IsFresh}
use Rattle.store_logic.specs.declared.act.Act.{Act}
use Rattle.store_logic.specs.declared.cond.Cond.{Cond}
use Rattle.store_exec.specs.declared.fault.Fault.{Fault}
use Rattle.store_exec.specs.declared.halt.Halt.{Halt}
use Rattle.store_exec.specs.declared.halt.Halt.TheVariants as halt
use Rattle.store_exec.specs.declared.code.Item.{Item}
use Rattle.store_exec.specs.declared.code.Item.TheOpen.{Item-F}
use Rattle.store_exec.specs.declared.code.Item.TheFolds.{fold-Item}
use Rattle.store_exec.specs.Steps.{truth_of, Step}
use Rattle.store_exec.specs.Runs.{Ending, RunsItems}
use Rattle.store_exec.specs.Fits.{ItemsFit, news_of}

-- the store and the items fit some tables, and each new cell has a number
pub record CanRun (types : List TypeEntry) (s : StoreMap) (items : List Item) : Type 0 where
  pub vars : List VarEntry
  pub fits : Fits types vars s
  pub fresh : IsFresh s
  pub items_fit : ItemsFit types vars items
  pub room : s.next + news_of items < 4294967295

-- what is left: the items, and those that wait, the first on top
abbrev pub left_over : List Item → List (Bor (List Item)) → List Item
left_over rest waiting = rest ++ flat_map (λ w. w.now) waiting

-- how much is to be done with an item
abbrev pub weight_node : Item-F ℕ → ℕ
weight_node (Item-F.Do line a) = 1
weight_node (Item-F.If line c taken other) = sum_by (λ n. n) taken + sum_by (λ n. n) other + 2

abbrev pub weight_of_items : List Item → ℕ
weight_of_items = sum_by (fold-Item ℕ weight_node)

-- the same of what is left
abbrev pub weight_left : List Item → List (Bor (List Item)) → ℕ
weight_left rest waiting = weight_of_items rest + sum_by (λ w. weight_of_items w.now + 1) waiting

-- where items are left ends all of them
abbrev pub GoesOn : List TypeEntry → List Item → StoreMap → List Item → StoreMap → Type 0
GoesOn types items s rest t = (end : Ending) → RunsItems types rest t end → RunsItems types items s end

-- the items ended in a store, or a fault stopped them, or want of memory
abbrev pub IsEnded : {E : Type 0} → List TypeEntry → List Item → StoreMap → StoreMap → Result (Result (Unit {0}) Fault) E → Type 0
IsEnded types items s after (Ok (Ok done)) = RunsItems types items s (Ok after)
IsEnded types items s after (Ok (Err fault)) = RunsItems types items s (Err fault)
IsEnded types items s after (Err e) = Unit {0}

-- other items are left, which can be run, and less is to be done; or a fault stopped all
abbrev pub Enters : {E : Type 0} → List TypeEntry → List Item → StoreMap → ℕ → StoreMap → List (Bor (List Item)) →
    Result (Result (Bor (List Item)) Fault) E → Type 0
Enters types items s weight t waiting (Ok (Ok next)) =
    GoesOn types items s (left_over next.now waiting) t × CanRun types t (left_over next.now waiting) × (weight_left next.now waiting < weight)
Enters types items s weight t waiting (Ok (Err fault)) = RunsItems types items s (Err fault)
Enters types items s weight t waiting (Err e) = Unit {0}

-- the same thing with its line
abbrev pub AtLine : {X E : Type 0} → ℕ → Result X Halt → Result (Result X Fault) E → Type 0
AtLine line done (Ok (Ok x)) = done ≡ Ok x
AtLine line done (Ok (Err fault)) = (done ≡ Err (halt.Fails fault.cause)) × (fault.line ≡ line)
AtLine line done (Err e) = Unit {0}

-- the act led to the store, or a fault at its line stopped it
abbrev pub IsDone : {E : Type 0} → List TypeEntry → StoreMap → ℕ → Act → StoreMap → Result (Result (Unit {0}) Fault) E → Type 0
IsDone types s line a after (Ok (Ok done)) = Step types s a (Ok after)
IsDone types s line a after (Ok (Err fault)) = Step types s a (Err fault.cause) × (fault.line ≡ line)
IsDone types s line a after (Err e) = Unit {0}

-- the one list where the condition is true, the other where it is false, or a fault at its line
abbrev pub IsChosen : {E : Type 0} → StoreMap → ℕ → Cond → List Item → List Item → Result (Result (Bor (List Item)) Fault) E → Type 0
IsChosen s line c taken other (Ok (Ok chosen)) =
    (truth : Bool) × (truth_of s c ≡ Ok truth) × (chosen.now ≡ (if truth then taken else other))
IsChosen s line c taken other (Ok (Err fault)) = (truth_of s c ≡ Err fault.cause) × (fault.line ≡ line)
IsChosen s line c taken other (Err e) = Unit {0}

-- the condition has this truth, or a fault at its line
abbrev pub IsTruthAt : {E : Type 0} → StoreMap → ℕ → Cond → Result (Result Bool Fault) E → Type 0
IsTruthAt s line c (Ok (Ok truth)) = truth_of s c ≡ Ok truth
IsTruthAt s line c (Ok (Err fault)) = (truth_of s c ≡ Err fault.cause) × (fault.line ≡ line)
IsTruthAt s line c (Err e) = Unit {0}

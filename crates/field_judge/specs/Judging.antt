-- What is said of a pointer field: that it is functional, or a least backbone on which it isn't. (Klarlund and Schwartzbach
-- 1993: a field is functional where its routing expression leads to one cell at most.)
use Rattle.std.specs.Prelude.{◌≡◌, ◌≤◌, ℕ, List, [], length, None, IfSome}
use Rattle.std.specs.FinMap.{keys}
use Rattle.gta_theory.specs.Assignments.{Assignment, Covers}
use Rattle.gta_theory.specs.Weights.{weight}
use Rattle.ws2s_core.specs.declared.formula.Formula.{Formula}
use Rattle.ws2s_core.specs.declared.label_tree.TreeNode.{TreeNode}
use Rattle.ws2s_core.specs.LabelTrees.{assignment_of}
use Rattle.ws2s_core.specs.Satisfaction.{WSat}
use Rattle.ws2s_theory.specs.Peaks.{HasPeak}
use Rattle.store_core.specs.declared.ids.FieldId.{FieldId}
use Rattle.store_core.specs.declared.ids.CellId.{CellId}
use Rattle.store_core.specs.declared.value.Value.TheVariants as value
use Rattle.store_core.specs.Tables.{TypeEntry, VarEntry}
use Rattle.store_core.specs.Stores.{StoreMap, Fits, field_value}
use Rattle.routing_walks.specs.WellFormed.{IsBackbone, IsFunctional, IsFirstCell}
use Rattle.witness_store.specs.Pointers.{IsPointerField}
use Rattle.tree_encode.specs.Spaces.{guide_of}
use Rattle.tree_store.specs.Weighing.{AreVariantTracks}
use Rattle.tree_store.specs.Stores.{AreNumberedFromOne}
use Rattle.graph_view.specs.Cuts.{field_formula}
use Rattle.graph_meaning.specs.Fields.Forking.{Forks, HasFork}
use Rattle.field_judge.specs.declared.judging.FieldJudged.{FieldJudged}
use Rattle.field_judge.specs.declared.judging.FieldJudged.TheVariants as judged
use Rattle.field_judge.specs.OneEach.{type_vars}

-- ---- the formula of a field

-- over the table with one data variable a type
abbrev pub formula_of : List TypeEntry → FieldId → Formula
formula_of types f = field_formula types (type_vars types) f

-- its Peak under the guide of that table's layout, without a spare
abbrev pub HasFieldPeak : List TypeEntry → FieldId → ℕ → Type 0
HasFieldPeak types f p = HasPeak (guide_of types (type_vars types) []) (formula_of types f) p

-- the tree satisfies the formula, and no sets that do have fewer positions on the tracks of the variants
pub record IsLightestFork (types : List TypeEntry) (f : FieldId) (nodes : List TreeNode) : Type 0 where
  pub satisfies : WSat (formula_of types f) (assignment_of nodes)
  pub tracks : List ℕ
  pub weighed : AreVariantTracks types tracks
  pub least : (n : ℕ) (a : Assignment) → Covers n a → WSat (formula_of types f) a →
      weight tracks (length nodes) (assignment_of nodes) ≤ weight tracks n a

-- ---- answers

-- each pointer field of each cell is null
abbrev pub ArePointersNull : List TypeEntry → StoreMap → Type 0
ArePointersNull types s = (c : CellId) (f : FieldId) → IsPointerField types f → IfSome (field_value s c f) (λ x. x ≡ value.Cell None)

-- the store is a backbone over one data variable a type, with null in each pointer field, its cells numbered from 1 without a
-- gap; the cell has two destinations for the field, and no cell of a lower number has; and no backbone, over whatever variables,
-- on which a cell has two destinations for the field has fewer cells
pub record IsLeastFork (types : List TypeEntry) (f : FieldId) (s : StoreMap) (c : CellId) : Type 0 where
  pub fits : Fits types (type_vars types) s
  pub backbone : IsBackbone types (type_vars types) s
  pub nulls : ArePointersNull types s
  pub numbers : AreNumberedFromOne s
  pub lowest : IsFirstCell (Forks types s f) c
  pub fewest : (vars : List VarEntry) (t : StoreMap) → Fits types vars t → IsBackbone types vars t → HasFork types t f →
      length (keys s.cells) ≤ length (keys t.cells)

-- what each answer says of the field; a limit says nothing of it
abbrev pub IsFieldJudged : List TypeEntry → FieldId → FieldJudged → Type 0
IsFieldJudged types f judged.Functional = IsFunctional types f
IsFieldJudged types f (judged.Ambiguous s c) = IsLeastFork types f s c
IsFieldJudged types f judged.Limit = Unit {0}

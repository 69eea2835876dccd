-- The store that is made is the one that is read off the tracks.
use Rattle.std.proofs.Common.{◌≡◌, ℕ, suc, List, Option, length, ap, ◌∙◌}
use Rattle.std.specs.FinMap.{from_sorted}
use Rattle.ws2s_core.specs.declared.label_tree.TreeNode.{TreeNode}
use Rattle.ws2s_core.specs.LabelTrees.{IsTree, assignment_of}
use Rattle.store_core.specs.declared.ids.CellId.{CellId}
use Rattle.store_core.specs.declared.store.CellBody.{CellBody}
use Rattle.store_core.specs.declared.value.Value.{Value}
use Rattle.store_core.specs.StoreBodies.{cells_of, store_of}
use Rattle.store_core.specs.Tables.{TypeEntry, VarEntry}
use Rattle.tree_store.specs.Decoded.{Standing, entries_in, vars_in}
use Rattle.witness_store.specs.declared.cells.Found.{Found}
use Rattle.witness_store.specs.Finding.{AreFoundAs, AreFound, AreNumbers}
use Rattle.witness_store.specs.Reading.{AreRead}
use Rattle.witness_store.specs.Results.{IsReadOff}
use Rattle.witness_store.proofs.NumbersLemmas.{AreRead-found}

pub IsReadOff-made : (types : List TypeEntry) (vars : List VarEntry) (nodes : List TreeNode) (found : List Found) (cells : List Standing)
    (numbers : List (Option CellId)) (bodies : List CellBody) (values : List Value) (next : ℕ) → IsTree nodes → AreFound types nodes found cells →
    AreNumbers found (length nodes) numbers →
    ((standing : List Standing) → AreRead types nodes standing numbers → AreFoundAs nodes found standing →
    cells_of bodies ≡ entries_in types (assignment_of nodes) standing 1 standing) →
    ((standing : List Standing) → AreFoundAs nodes found standing → values ≡ vars_in types vars (assignment_of nodes) standing 0 vars) →
    next ≡ suc (length found) → IsReadOff types vars (assignment_of nodes) (store_of bodies values next)
IsReadOff-made types vars nodes found cells numbers bodies values next tree are by_place entries of_vars number = record {
  cells = cells;
  cells_are = are.cells_are;
  is =
      let of_cells = entries cells (AreRead-found nodes tree types found cells numbers are by_place) are.found_as in
      let vals = of_vars cells are.found_as in
      let last = number ∙ ap suc are.found_as.count in
      λ i. record { cells = from_sorted (of_cells i); vars = vals i; next = last i };
}

-- The tree of a store that is sound at a cut satisfies the formula of a claim exactly where the store meets the claim.
use Rattle.std.proofs.Common.{◌↔◌, List, length}
use Rattle.gta_theory.specs.Assignments.{Assignment, IsFinite}
use Rattle.gta_theory.proofs.AssignmentsLemmas.{Covers-finite}
use Rattle.ws2s_core.specs.declared.label_tree.TreeNode.{TreeNode}
use Rattle.ws2s_core.specs.LabelTrees.{assignment_of}
use Rattle.ws2s_core.specs.Satisfaction.{WSat}
use Rattle.ws2s_core.proofs.LabelTreesLemmas.{Covers-tree}
use Rattle.store_core.specs.Tables.{TypeEntry, VarEntry, IsTypeTable}
use Rattle.store_core.specs.Stores.{StoreMap, Fits}
use Rattle.routing_walks.specs.WellFormed.{IsWellFormed}
use Rattle.routing_walks.specs.CutFaults.{IsSound}
use Rattle.store_exec.specs.declared.triple.Claim.{Claim}
use Rattle.store_exec.specs.Cuts.{IsMet}
use Rattle.store_exec.specs.Fits.{ClaimFits}
use Rattle.store_exec.specs.Restricted.{restricted}
use Rattle.store_exec.proofs.RestrictedLemmas.{restricted-well_formed}
use Rattle.tree_store.specs.Encoding.{IsAssignmentOf, IsTreeOf}
use Rattle.store_claims.specs.Formulas.{formula_on}
use Rattle.store_claims.proofs.Restricted.{satisfied-restricted, assignment-restricted}
use Rattle.store_claims.proofs.Told.{told}

module _ (types : List TypeEntry) (vars : List VarEntry) (claim : Claim) (fits : ClaimFits types vars claim) (table : IsTypeTable types) where
  pub claim-told : (s : StoreMap) (a : Assignment) → IsWellFormed types vars s → IsFinite a → IsAssignmentOf types vars s a →
      WSat (formula_on types vars claim.region claim.assertion) a ↔ IsMet types vars s claim
  claim-told s a well finite of =
      told types vars s a (record { finite = finite; table = table; well = well; tree = of }) claim.assertion fits.assertion claim.region fits.region

  pub met-told : (s : StoreMap) (nodes : List TreeNode) → Fits types vars s → IsSound types vars s → IsTreeOf types vars s nodes →
      WSat (formula_on types vars claim.region claim.assertion) (assignment_of nodes) ↔ IsMet types vars s claim
  met-told s nodes fits_tables sound tree =
      let now = claim-told (restricted s) (assignment_of nodes) (restricted-well_formed types vars s fits_tables sound)
      (Covers-finite (length nodes) (assignment_of nodes) (Covers-tree nodes)) (assignment-restricted s types vars (assignment_of nodes) tree.assignment) in
      let same = satisfied-restricted s types vars claim.region claim.assertion in
      (λ sat. same.1 (now.0 sat), λ met. now.1 (same.0 met))

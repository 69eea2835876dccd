-- Tables over joins.
use Rattle.std.proofs.Common.{◌≡◌, ℕ, Option, Some, None, refl, sym, ◌∙◌, ap, subst}
use Rattle.std.specs.Prelude.{IsSome, option_map}
use mathlib.Core.Path.{fun_ext}
use Rattle.labels.specs.Labels.{Label, Function}
use Rattle.bdd_nodes.specs.Roots.{Registered, roots_under, root_under}
use Rattle.bdd_nodes.specs.declared.node_ref.NodeRef.{NodeRef}
use Rattle.bdd_nodes.specs.Shelf.{Contents, IsShelf, state_of, root_of}
use Rattle.bdd_nodes.specs.Changes.{Keeps, SameTables}
use Rattle.gta_core.specs.Changes.{KeepsTable}

pub KeepsTable-joins : (old new : Contents) (number : ℕ) → IsShelf old → Keeps old new → SameTables old new → KeepsTable old new number
KeepsTable-joins old new number is_shelf keeps tables = record {
  registered = λ some. subst (λ (roots : Registered). IsSome (roots_under roots.tables number)) (sym tables) some;
  functions = λ place.
      ap (λ (roots : Registered). option_map (state_of new) (root_under roots.tables number place)) tables
      ∙ pick place (root_of old number place) refl;
}
  where
    pick : (place : ℕ) (o : Option NodeRef) → root_of old number place ≡ o → option_map (state_of new) o ≡ option_map (state_of old) o
    pick place None at = refl
    pick place (Some root) at = ap (λ (f : Function). let o : Option Function = Some f in o)
        (fun_ext (λ (label : Label). keeps.states root label (is_shelf.roots number place root at)))

-- Tables that stay while others are registered or dropped, and while nodes are collected.
use Rattle.std.proofs.Common.{◌≡◌, ◌≢◌, ℕ, List, Option, option_map, option_and_then, is_some, slice_get, ◌∙◌, ap}
use Rattle.bdd_nodes.specs.declared.node_ref.NodeRef.{NodeRef}
use Rattle.bdd_nodes.specs.Shelf.{Contents, IsShelf, roots_of, root_of, state_of}
use Rattle.bdd_nodes.specs.Changes.{Keeps, DropsTable, MovesRoots}
use Rattle.gta_theory.specs.Guides.{Spaces}
use Rattle.gta_core.specs.Auto.{AutoView, IsAuto}
use Rattle.gta_core.specs.Changes.{RegistersTable, KeepsTable}
use Rattle.gta_core.proofs.AutoLemmas.{IsAuto-kept, KeepsTable-grown, KeepsTable-moved, functions-same}

-- an automaton stays one where another table is registered
pub IsAuto-beside : (g : Spaces) (old new : Contents) (a other : AutoView) → IsShelf old → Keeps old new → RegistersTable old new other.table →
    IsAuto g old a → IsAuto g new a
IsAuto-beside g old new a other is_shelf keeps registers auto =
    IsAuto-kept old new a (KeepsTable-grown old new a.table other.table is_shelf keeps registers auto.registered) g auto

-- a table stays where another one is dropped and nodes are collected
pub KeepsTable-collected : (old dropped new : Contents) (number other : ℕ) → DropsTable old dropped other → number ≢ other → MovesRoots dropped new →
    KeepsTable old new number
KeepsTable-collected old dropped new number other drops isnt moves =
    let same : roots_of dropped number ≡ roots_of old number = drops.others number isnt in
    let moved = KeepsTable-moved dropped new moves number in
    record {
      registered = λ there. moved.registered (ap (λ (o : Option (List NodeRef)). is_some o) same ∙ there);
      functions = λ place. moved.functions place ∙ functions-same old dropped drops.nodes (root_of dropped number place)
          ∙ ap (λ (o : Option (List NodeRef)). option_map (state_of old) (option_and_then (λ (rs : List NodeRef). slice_get rs place) o)) same;
    }

use Rattle.std.proofs.Common.{◌≡◌, Bool, List, refl, subst}
use Rattle.bdd_nodes.specs.declared.node_ref.NodeRef.{NodeRef}
use Rattle.bdd_nodes.specs.declared.roots.TableId.{TableId}
use Rattle.bdd_nodes.specs.Roots.{number_of}
use Rattle.gta_theory.specs.Guides.{Spaces}
use Rattle.gta_core.specs.declared.part.Part.{Part}
use Rattle.gta_core.specs.declared.build.SpacePart.{SpacePart}
use Rattle.gta_core.specs.Auto.{AutoView}
use Rattle.gta_core.specs.Placing.{ArePlaced}
use Rattle.gta_core.proofs.BuiltLemmas.{All-placed, IsWhole-given, IsAuto-given, automaton_of-given, states-given}
use Rattle.gta_core.proofs.auto.Auto.build.Goals as goal

placed : (g : Spaces) (spaces given : List SpacePart) (parts : List Part) (roots : List NodeRef) → given ≡ spaces →
    ArePlaced g given parts roots → ArePlaced g spaces parts roots
placed g spaces given parts roots same are_placed = subst (λ (ps : List SpacePart). ArePlaced g ps parts roots) same are_placed

abbrev made : TableId → List Part → List Bool → AutoView
made table parts accepting = record { table = number_of table; parts = parts; accepting = accepting }

pub add_table-requires : goal.add_table-requires
add_table-requires c =
    All-placed c.args.g.now c.args.shelf.now c.args.spaces c.args.accepting c.requires c.in_ok-parts.parts c.parts_of.new.roots
    (placed _ _ _ _ _ c.as_slice.ensures c.in_ok-parts.ensures.placed)

pub invariant_of-result : goal.invariant_of-result
invariant_of-result c =
    IsWhole-given c.args.g.now c.args.shelf.now c.add_table.new.self c.args.spaces c.args.accepting
    (made c.in_ok-table.table c.in_ok-parts.parts c.args.accepting)
    c.parts_of.new.roots c.requires c.in_ok-table.ensures.ok c.in_ok-parts.ensures.many
    (placed _ _ _ _ _ c.as_slice.ensures c.in_ok-parts.ensures.placed) refl c.parts_of.ensures.guide

pub returns-clause-auto : goal.returns-clause-auto
returns-clause-auto c =
    IsAuto-given c.args.g.now c.args.shelf.now c.add_table.new.self c.args.spaces c.args.accepting
    (made c.in_ok-table.table c.in_ok-parts.parts c.args.accepting)
    c.parts_of.new.roots c.requires c.in_ok-table.ensures.ok c.in_ok-parts.ensures.many
    (placed _ _ _ _ _ c.as_slice.ensures c.in_ok-parts.ensures.placed) refl

pub returns-clause-same : goal.returns-clause-same
returns-clause-same c =
    automaton_of-given c.args.g.now c.args.shelf.now c.add_table.new.self c.args.spaces c.args.accepting
    (made c.in_ok-table.table c.in_ok-parts.parts c.args.accepting)
    c.parts_of.new.roots c.requires c.in_ok-table.ensures.ok c.in_ok-parts.ensures.many
    (placed _ _ _ _ _ c.as_slice.ensures c.in_ok-parts.ensures.placed) refl

pub returns-clause-states : goal.returns-clause-states
returns-clause-states c =
    states-given c.args.g.now c.args.shelf.now c.add_table.new.self c.args.spaces c.args.accepting
    (made c.in_ok-table.table c.in_ok-parts.parts c.args.accepting)
    c.parts_of.new.roots c.requires c.in_ok-table.ensures.ok c.in_ok-parts.ensures.many
    (placed _ _ _ _ _ c.as_slice.ensures c.in_ok-parts.ensures.placed) refl

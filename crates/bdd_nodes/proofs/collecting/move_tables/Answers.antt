use Rattle.std.proofs.Common.{◌≡◌, ◌<◌, List, length, get_or, set, sym, ◌∙◌, ap, subst}
use Rattle.std.specs.Prelude.{All}
use Rattle.std.proofs.lemmas.List.Edits.{map_over_more}
use Rattle.bdd_nodes.specs.declared.node_ref.NodeRef.{NodeRef}
use Rattle.bdd_nodes.specs.declared.roots.RootTable.{RootTable}
use Rattle.bdd_nodes.specs.Nodes.{node_of}
use Rattle.bdd_nodes.specs.Roots.{table_at}
use Rattle.bdd_nodes.specs.Collecting.{linked_table, IsLinked}
use Rattle.bdd_nodes.proofs.MarksLemmas.{All-table}
use Rattle.bdd_nodes.proofs.ElementsLemmas.{get_or-map_over, get_or-any}
use Rattle.bdd_nodes.proofs.collecting.move_tables.Goals as goal

pub move_list-requires : goal.move_list-requires
move_list-requires c =
    let tables = c.args.tables.now in
    let at = c.loop-at.at in
    let within : at < length tables = c.loop-at-test.true in
    let here : get_or c.loop-at.tables at c.index-tables-at.result ≡ table_at tables at =
    ap (λ (ts : List RootTable). get_or ts at c.index-tables-at.result) c.loop-at.invariant
    ∙ get_or-map_over (linked_table c.args.links.now) tables at c.index-tables-at.result within
    ∙ get_or-any tables at _ _ within in
    subst (λ (t : RootTable). All (λ r. IsLinked c.args.links.now (node_of r)) t.roots) (sym here)
    (All-table (λ r. IsLinked c.args.links.now (node_of r)) tables at within c.requires)

abbrev with_roots : RootTable → List NodeRef → RootTable
with_roots t roots = record { id = t.id; roots = roots }

pub loop-at-preserved : goal.loop-at-preserved
loop-at-preserved c =
    let x = c.index-tables-at.result in
    ap (set c.loop-at.tables c.loop-at.at)
    (ap (with_roots (get_or c.loop-at.tables c.loop-at.at x)) c.move_list.ensures
    ∙ ap (linked_table c.args.links.now) (sym c.index-tables-at.is))
    ∙ map_over_more (linked_table c.args.links.now) c.args.tables.now c.loop-at.tables c.loop-at.at x
    c.loop-at-test.true c.loop-at.invariant c.index-tables-at.is

use Rattle.std.proofs.Common.{◌≡◌, ℕ, ◌≤◌, [], List, take, length, sym, ◌∙◌, ap, subst}
use Rattle.std.specs.Prelude.{All}
use Rattle.std.proofs.lemmas.List.{take_more, get_or_read}
use Rattle.bdd_nodes.specs.declared.node_ref.NodeRef.{NodeRef}
use Rattle.bdd_nodes.specs.declared.roots.RootTable.{RootTable}
use Rattle.bdd_nodes.specs.Nodes.{node_of, rank}
use Rattle.bdd_nodes.specs.Roots.{table_at}
use Rattle.bdd_nodes.specs.Collecting.{MarksList, all_roots}
use Rattle.bdd_nodes.proofs.MarksLemmas.{MarksList-append, All-table, all_roots-push}
use Rattle.bdd_nodes.proofs.collecting.mark_tables.Goals as goal
use Rattle.bdd_nodes.proofs.collecting.mark_tables.Goals.{After-as_slice}

roots-are : (c : After-as_slice) → c.as_slice.result.now ≡ (table_at c.args.tables.now c.loop-table.table-index).roots
roots-are c = c.as_slice.ensures ∙ ap (λ (t : RootTable). t.roots)
    (get_or_read c.args.tables.now c.loop-table.table-index c.table-item.result c.loop-table-test.true c.table-item.is (table_at [] 0))

len-same : (c : After-as_slice) → length c.args.marks.now ≡ length c.loop-table.marks
len-same c = sym c.loop-table.invariant.len

pub mark_list-requires : goal.mark_list-requires
mark_list-requires c =
    let d = (goal.at.mark_list-requires c).After-as_slice in
    subst (All (λ r. rank (node_of r) ≤ length c.loop-table.marks)) (sym (roots-are d))
    (All-table (λ r. rank (node_of r) ≤ length c.loop-table.marks) c.args.tables.now c.loop-table.table-index c.loop-table-test.true
    (subst (λ (n : ℕ). All (λ r. rank (node_of r) ≤ n) (all_roots c.args.tables.now)) (len-same d) c.requires))

pub loop-table-preserved : goal.loop-table-preserved
loop-table-preserved c =
    let d = (goal.at.loop-table-preserved c).After-as_slice in
    let tables = c.args.tables.now in
    let index = c.loop-table.table-index in
    subst (λ (rs : List NodeRef). MarksList rs c.args.marks.now c.mark_list.new.marks)
    (sym (ap all_roots (take_more tables index (table_at [] 0) c.loop-table-test.true) ∙ all_roots-push (take index tables) (table_at tables index)))
    (MarksList-append (all_roots (take index tables))
    (table_at tables index).roots c.args.marks.now c.loop-table.marks c.mark_list.new.marks
    c.loop-table.invariant
    (subst (λ (rs : List NodeRef). MarksList rs c.loop-table.marks c.mark_list.new.marks) (roots-are d) c.mark_list.ensures))

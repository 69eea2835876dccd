use Rattle.std.proofs.Common.{◌≡◌, ℕ, ◌+◌, List, [], ◌∷◌, ◌++◌, sym, ◌∙◌, ap, subst}
use Rattle.bdd_nodes.specs.declared.node.Node.{Node}
use Rattle.bdd_nodes.specs.declared.roots.RootTable.{RootTable}
use Rattle.bdd_nodes.specs.Roots.{Registered, number_of, AreNumbered}
use Rattle.bdd_nodes.specs.Shelf.{Contents, IsShelf}
use Rattle.bdd_nodes.specs.Changes.{AddsTable}
use Rattle.bdd_nodes.proofs.TablesLemmas.{with_table, IsShelf-with_table, AddsTable-with_table}
use Rattle.bdd_nodes.proofs.shelf.Shelf.add_table.Goals as goal
use Rattle.bdd_nodes.proofs.shelf.Shelf.add_table.Goals.{In_ok-id}

is_shelf : (c : In_ok-id) → IsShelf c.args.self.now
is_shelf c = subst IsShelf c.self.view_is c.self.invariant.shelf

abbrev table : (c : In_ok-id) → RootTable
table c = record { id = c.in_ok-id.id; roots = c.args.roots }

number : (c : In_ok-id) → number_of c.in_ok-id.id ≡ c.args.self.now.roots.added
number c = c.in_ok-id.ensures.id ∙ ap (λ (s : Contents). s.roots.added) c.self.view_is

abbrev contents : List Node → ℕ → Registered → Contents
contents nodes limit roots = record { nodes = nodes; limit = limit; roots = roots }

view-is : (c : In_ok-id) → contents c.self.inside.nodes.items c.self.inside.limit c.add.new.self
    ≡ with_table c.args.self.now (is_shelf c) (table c) (number c) c.requires
view-is c =
    ap (contents c.self.inside.nodes.items c.self.inside.limit) c.in_ok-id.ensures.added
    ∙ ap (λ (s : Contents). contents s.nodes s.limit (record { tables = s.roots.tables ++ table c ∷ []; added = s.roots.added + 1 })) c.self.view_is

numbered : (c : In_ok-id) → AreNumbered (c.args.self.now.roots.tables ++ table c ∷ []) (c.args.self.now.roots.added + 1)
numbered c = subst (λ (s : Contents). AreNumbered s.roots.tables s.roots.added) (view-is c) c.in_ok-id.ensures.numbered

shelf : (c : In_ok-id) → IsShelf (contents c.self.inside.nodes.items c.self.inside.limit c.add.new.self)
shelf c = subst IsShelf (sym (view-is c)) (IsShelf-with_table c.args.self.now (is_shelf c) (table c) (number c) c.requires (numbered c))

pub invariant_of-self-2 : goal.invariant_of-self-2
invariant_of-self-2 c = record {
  shelf = shelf c;
  indexed = c.self.invariant.indexed;
  chain_len = c.self.invariant.chain_len;
  room = c.self.invariant.room;
  index_room = c.self.invariant.index_room;
}

pub returns-clause-shelf : goal.returns-clause-shelf
returns-clause-shelf c = shelf c

pub returns-clause-ok : goal.returns-clause-ok
returns-clause-ok c =
    subst (λ (s : Contents). AddsTable c.args.self.now s (number_of c.in_ok-id.id) c.args.roots) (sym (view-is c))
    (AddsTable-with_table c.args.self.now (is_shelf c) (table c) (number c) c.requires)

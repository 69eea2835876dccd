-- The merged automaton.
use Rattle.bdd_nodes.specs.Shelf.{tables_added}
use Rattle.gta_merge.proofs.MergedLemmas.{own-guide, accepting-same, IsWhole-merged, IsAuto-made, automaton-made, states-made, roots-made, nodes-made}
use Rattle.gta_merge.proofs.MergedLemmas.{IsMerged-made}
use Rattle.gta_merge.proofs.merged.merge.Goals as goal

pub from_parts-requires-clause-whole : goal.from_parts-requires-clause-whole
from_parts-requires-clause-whole c = λ table.
    IsWhole-merged c.args.shelf.now c.args.a.now c.in_ok-accepting.ensures.whole c.in_ok-parts.parts c.merged_parts.new.roots c.in_ok-parts.ensures.parts
    c.in_ok-parts.ensures.many c.in_ok-accepting.accepting
    (accepting-same c.args.a.now c.in_ok-accepting.accepting c.in_ok-accepting.ensures.whole c.in_ok-accepting.ensures.many
    c.in_ok-accepting.ensures.each) table

pub returns-clause-auto : goal.returns-clause-auto
returns-clause-auto c =
    IsAuto-made c.args.shelf.now c.args.a.now c.in_ok-accepting.ensures.whole c.in_ok-parts.parts c.merged_parts.new.roots c.in_ok-parts.ensures.parts
    c.in_ok-parts.ensures.many c.in_ok-accepting.accepting
    (accepting-same c.args.a.now c.in_ok-accepting.accepting c.in_ok-accepting.ensures.whole c.in_ok-accepting.ensures.many
    c.in_ok-accepting.ensures.each) (tables_added c.args.shelf.now) c.in_ok-merged.merged
    c.in_ok-merged.ensures.ok c.from_parts.new.shelf c.in_ok-merged.ensures.table
    (own-guide c.args.shelf.now c.args.a.now c.args.g.now c.requires) c.args.g.now c.requires

pub returns-clause-same : goal.returns-clause-same
returns-clause-same c =
    automaton-made c.args.shelf.now c.args.a.now c.in_ok-accepting.ensures.whole c.in_ok-parts.parts c.merged_parts.new.roots c.in_ok-parts.ensures.parts
    c.in_ok-parts.ensures.many c.in_ok-accepting.accepting
    (accepting-same c.args.a.now c.in_ok-accepting.accepting c.in_ok-accepting.ensures.whole c.in_ok-accepting.ensures.many
    c.in_ok-accepting.ensures.each) (tables_added c.args.shelf.now) c.in_ok-merged.merged
    c.in_ok-merged.ensures.ok c.from_parts.new.shelf c.in_ok-merged.ensures.table
    (own-guide c.args.shelf.now c.args.a.now c.args.g.now c.requires)

pub returns-clause-states : goal.returns-clause-states
returns-clause-states c =
    states-made c.args.shelf.now c.args.a.now c.in_ok-accepting.ensures.whole c.in_ok-parts.parts c.merged_parts.new.roots c.in_ok-parts.ensures.parts
    c.in_ok-parts.ensures.many c.in_ok-accepting.accepting
    (accepting-same c.args.a.now c.in_ok-accepting.accepting c.in_ok-accepting.ensures.whole c.in_ok-accepting.ensures.many
    c.in_ok-accepting.ensures.each) (tables_added c.args.shelf.now) c.in_ok-merged.merged
    c.in_ok-merged.ensures.ok c.from_parts.new.shelf c.in_ok-merged.ensures.table
    (own-guide c.args.shelf.now c.args.a.now c.args.g.now c.requires)

pub returns-clause-roots : goal.returns-clause-roots
returns-clause-roots c =
    roots-made c.args.shelf.now c.args.a.now c.in_ok-accepting.ensures.whole c.in_ok-parts.parts c.merged_parts.new.roots c.in_ok-parts.ensures.parts
    c.in_ok-parts.ensures.many c.in_ok-accepting.accepting
    (accepting-same c.args.a.now c.in_ok-accepting.accepting c.in_ok-accepting.ensures.whole c.in_ok-accepting.ensures.many
    c.in_ok-accepting.ensures.each) (tables_added c.args.shelf.now) c.in_ok-merged.merged
    c.in_ok-merged.ensures.ok c.from_parts.new.shelf c.in_ok-merged.ensures.table
    (own-guide c.args.shelf.now c.args.a.now c.args.g.now c.requires)

pub returns-clause-nodes : goal.returns-clause-nodes
returns-clause-nodes c =
    nodes-made c.args.shelf.now c.args.a.now c.in_ok-accepting.ensures.whole c.in_ok-parts.parts c.merged_parts.new.roots c.in_ok-parts.ensures.parts
    c.in_ok-parts.ensures.many c.in_ok-accepting.accepting
    (accepting-same c.args.a.now c.in_ok-accepting.accepting c.in_ok-accepting.ensures.whole c.in_ok-accepting.ensures.many
    c.in_ok-accepting.ensures.each) (tables_added c.args.shelf.now) c.in_ok-merged.merged
    c.in_ok-merged.ensures.ok c.from_parts.new.shelf c.in_ok-merged.ensures.table
    (own-guide c.args.shelf.now c.args.a.now c.args.g.now c.requires)

pub returns-clause-merged : goal.returns-clause-merged
returns-clause-merged c =
    IsMerged-made c.args.shelf.now c.args.a.now c.in_ok-accepting.ensures.whole c.in_ok-parts.parts c.merged_parts.new.roots c.in_ok-parts.ensures.parts
    c.in_ok-parts.ensures.many c.in_ok-accepting.accepting
    (accepting-same c.args.a.now c.in_ok-accepting.accepting c.in_ok-accepting.ensures.whole c.in_ok-accepting.ensures.many
    c.in_ok-accepting.ensures.each) (tables_added c.args.shelf.now) c.in_ok-merged.merged
    c.in_ok-merged.ensures.ok c.from_parts.new.shelf c.in_ok-merged.ensures.table
    (own-guide c.args.shelf.now c.args.a.now c.args.g.now c.requires)

pub returns-clause-table : goal.returns-clause-table
returns-clause-table c = record { roots = c.merged_parts.new.roots; adds = c.in_ok-merged.ensures.table }

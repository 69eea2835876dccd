-- A root is read by the part of the space.
use Rattle.std.proofs.Common.{List, length, Option, IsSome, sym, ◌∙◌, ap, subst, arith}
use Rattle.std.proofs.lemmas.Bool.{false≢true}
use Rattle.bdd_nodes.specs.declared.node_ref.NodeRef.{NodeRef}
use Rattle.gta_core.specs.declared.part.Part.{Part}
use Rattle.gta_product.proofs.TablesLemmas.{space-known, root-read, root-valid}
use Rattle.gta_product.proofs.tables.root_in.Goals as goal

pub bounds-parts-space : goal.bounds-parts-space
bounds-parts-space c =
    let inside = space-known c.args._shelf.now c.args.a.now c.args.space c.args.left c.args.right c.requires.known in
    omega (arith, inside, ap (λ (parts : List Part). length parts) c.parts.ensures.parts)

pub unreachable-requires : goal.unreachable-requires
unreachable-requires c =
    let read = root-read c.args._shelf.now c.args.a.now c.args.space c.args.left c.args.right c.requires.known c.parts.result.now c.parts.ensures.parts
    c.index-parts-space.result c.index-parts-space.is c.args.table.now c.requires.table in
    false≢true (subst (λ (o : Option NodeRef). IsSome o) (sym read ∙ sym c.root.ensures ∙ c.in-None.is) c.requires.known)

pub returns-clause-value : goal.returns-clause-value
returns-clause-value c =
    let read = root-read c.args._shelf.now c.args.a.now c.args.space c.args.left c.args.right c.requires.known c.parts.result.now c.parts.ensures.parts
    c.index-parts-space.result c.index-parts-space.is c.args.table.now c.requires.table in
    sym read ∙ sym c.root.ensures ∙ c.in-Some.is

pub returns-clause-valid : goal.returns-clause-valid
returns-clause-valid c =
    let read = root-read c.args._shelf.now c.args.a.now c.args.space c.args.left c.args.right c.requires.known c.parts.result.now c.parts.ensures.parts
    c.index-parts-space.result c.index-parts-space.is c.args.table.now c.requires.table in
    root-valid c.args._shelf.now c.requires.shelf c.args.a.now c.args.space c.args.left c.args.right c.in-Some.root
    (sym read ∙ sym c.root.ensures ∙ c.in-Some.is)

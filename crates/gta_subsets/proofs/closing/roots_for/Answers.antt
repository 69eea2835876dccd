-- The roots for the short lists are those for the lists.
use Rattle.std.proofs.Common.{ℕ, List, Option, IsSome, refl, sym, subst}
use Rattle.bdd_nodes.specs.declared.node_ref.NodeRef.{NodeRef}
use Rattle.gta_core.specs.Auto.{root_at}
use Rattle.gta_subsets.specs.Classes.{HaveClasses}
use Rattle.gta_subsets.specs.Shorts.{rows_in, columns_in}
use Rattle.gta_subsets.proofs.RootsLemmas.{rooting-is, found-are, AreRoots-valid}
use Rattle.gta_subsets.proofs.ShortsLemmas.{known-short, AreRoots-short}
use Rattle.gta_subsets.proofs.closing.roots_for.Goals as goal

pub roots_at-requires : goal.roots_at-requires
roots_at-requires c = λ l r in_l in_r.
    let shelf = c.args._shelf.now in
    let a = c.args.a.now in
    let rows = subst (λ (xs : List ℕ). HaveClasses (rows_in a c.args.space) c.args.lefts.now xs) (sym c.as_slice.ensures)
    (subst (λ (classes : List ℕ). HaveClasses classes c.args.lefts.now c.in_ok-left.left) c.classes_in.ensures.rows c.in_ok-left.ensures.classes) in
    let columns = subst (λ (xs : List ℕ). HaveClasses (columns_in a c.args.space) c.args.rights.now xs) (sym c.as_slice-2.ensures)
    (subst (λ (classes : List ℕ). HaveClasses classes c.args.rights.now c.in_ok-right.right) c.classes_in.ensures.columns c.in_ok-right.ensures.classes) in
    subst (λ (o : Option NodeRef). IsSome o) (sym (rooting-is shelf a c.args.table.now c.requires.table.are c.args.space l r))
    (known-short shelf a c.args.space c.args.lefts.now c.args.rights.now c.as_slice.result.now c.as_slice-2.result.now rows columns c.requires.known
    l r in_l in_r)

pub returns-clause-roots : goal.returns-clause-roots
returns-clause-roots c =
    let shelf = c.args._shelf.now in
    let a = c.args.a.now in
    let rows = subst (λ (xs : List ℕ). HaveClasses (rows_in a c.args.space) c.args.lefts.now xs) (sym c.as_slice.ensures)
    (subst (λ (classes : List ℕ). HaveClasses classes c.args.lefts.now c.in_ok-left.left) c.classes_in.ensures.rows c.in_ok-left.ensures.classes) in
    let columns = subst (λ (xs : List ℕ). HaveClasses (columns_in a c.args.space) c.args.rights.now xs) (sym c.as_slice-2.ensures)
    (subst (λ (classes : List ℕ). HaveClasses classes c.args.rights.now c.in_ok-right.right) c.classes_in.ensures.columns c.in_ok-right.ensures.classes) in
    AreRoots-short shelf a c.args.space c.args.lefts.now c.args.rights.now c.as_slice.result.now c.as_slice-2.result.now rows columns
    c.make_distinct.new.roots.items
    (c.make_distinct.ensures (root_at shelf a c.args.space) c.as_slice.result.now c.as_slice-2.result.now
    (found-are shelf a c.args.table.now c.requires.table.are c.args.space c.as_slice.result.now c.as_slice-2.result.now
    c.roots_at.new.roots.items c.roots_at.new.roots.items refl c.in_ok-roots_at.ensures))

pub returns-clause-valid : goal.returns-clause-valid
returns-clause-valid c =
    let shelf = c.args._shelf.now in
    let a = c.args.a.now in
    AreRoots-valid shelf c.requires.table.is_shelf a c.args.space c.as_slice.result.now c.as_slice-2.result.now c.make_distinct.new.roots.items
    (c.make_distinct.ensures (root_at shelf a c.args.space) c.as_slice.result.now c.as_slice-2.result.now
    (found-are shelf a c.args.table.now c.requires.table.are c.args.space c.as_slice.result.now c.as_slice-2.result.now
    c.roots_at.new.roots.items c.roots_at.new.roots.items refl c.in_ok-roots_at.ensures))

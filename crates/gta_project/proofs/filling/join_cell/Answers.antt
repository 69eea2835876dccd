-- One root is joined for a set of each child.
use Rattle.std.proofs.Common.{◌≡◌, ℕ, [], Option, Some, Contains, IsSome, sym, ◌∙◌, subst}
use Rattle.bdd_nodes.specs.declared.node_ref.NodeRef.{NodeRef}
use Rattle.gta_core.specs.Auto.{root_at}
use Rattle.gta_subsets.proofs.RootsLemmas.{rooting-is, found-are, AreRoots-valid}
use Rattle.gta_subsets.proofs.ClosingLemmas.{some-is}
use Rattle.gta_subsets.proofs.ShortsLemmas.{known-short, AreRoots-short}
use Rattle.gta_project.proofs.FillingLemmas.{Joins-one, IsCell-one, ExceedsCells-one}
use Rattle.gta_project.proofs.filling.join_cell.Goals as goal

pub roots_at-requires : goal.roots_at-requires
roots_at-requires c = λ l r in_l in_r.
    subst (λ (o : Option NodeRef). IsSome o)
    (sym (rooting-is c.args.shelf.now c.args.a.now c.args.table.now c.requires.table.are c.args.space l r))
    (known-short c.args.shelf.now c.args.a.now c.args.space c.args.left.now c.args.right.now c.args.short_left.now c.args.short_right.now
    c.requires.rows c.requires.columns c.requires.known l r in_l in_r)

pub returns-in_err-made-clause-joins : goal.returns-in_err-made-clause-joins
returns-in_err-made-clause-joins c =
    let shelf = c.args.shelf.now in
    let a = c.args.a.now in
    let roots = c.as_slice.result.now in
    let are = AreRoots-short shelf a c.args.space c.args.left.now c.args.right.now c.args.short_left.now c.args.short_right.now c.requires.rows
    c.requires.columns roots (found-are shelf a c.args.table.now c.requires.table.are c.args.space c.args.short_left.now c.args.short_right.now
    c.roots_at.new.roots.items roots c.as_slice.ensures.value c.in_ok-roots_at.ensures) in
    let known = λ (l r : ℕ) (in_l : Contains c.args.left.now l) (in_r : Contains c.args.right.now r).
    let k : (root : NodeRef) × (root_at shelf a c.args.space l r ≡ Some root) = some-is (root_at shelf a c.args.space l r)
    (c.requires.known l r in_l in_r) in k in
    let e = c.join.ensures in
    Joins-one a c.args.track c.args.space c.args.left.now c.args.right.now shelf c.join.new.shelf roots are known c.args.numbers.now
    c.join.new.rule c.requires.numbers (c.join.ensures.may_ask_still [] c.requires.numbers)
    e.kept e.same_limit e.tables e.shelf e.answers e.only e.adds

pub returns-in_err-made-clause-limit : goal.returns-in_err-made-clause-limit
returns-in_err-made-clause-limit c = λ stopped given completes.
    let shelf = c.args.shelf.now in
    let a = c.args.a.now in
    let roots = c.as_slice.result.now in
    let are = AreRoots-short shelf a c.args.space c.args.left.now c.args.right.now c.args.short_left.now c.args.short_right.now c.requires.rows
    c.requires.columns roots (found-are shelf a c.args.table.now c.requires.table.are c.args.space c.args.short_left.now c.args.short_right.now
    c.roots_at.new.roots.items roots c.as_slice.ensures.value c.in_ok-roots_at.ensures) in
    let known = λ (l r : ℕ) (in_l : Contains c.args.left.now l) (in_r : Contains c.args.right.now r).
    let k : (root : NodeRef) × (root_at shelf a c.args.space l r ≡ Some root) = some-is (root_at shelf a c.args.space l r)
    (c.requires.known l r in_l in_r) in k in
    let e = c.join.ensures in
    ExceedsCells-one a c.args.track c.args.space c.args.left.now c.args.right.now shelf c.join.new.shelf roots are known c.args.numbers.now
    c.join.new.rule c.requires.numbers (c.join.ensures.may_ask_still [] c.requires.numbers) given completes
    (e.limit (let why = rw stopped at c.from_residual-in_err-made.ensures in c.in_err-made.was ∙ (let is = why.1 in cc)))

pub returns-clause-joins : goal.returns-clause-joins
returns-clause-joins c =
    let shelf = c.args.shelf.now in
    let a = c.args.a.now in
    let roots = c.as_slice.result.now in
    let are = AreRoots-short shelf a c.args.space c.args.left.now c.args.right.now c.args.short_left.now c.args.short_right.now c.requires.rows
    c.requires.columns roots (found-are shelf a c.args.table.now c.requires.table.are c.args.space c.args.short_left.now c.args.short_right.now
    c.roots_at.new.roots.items roots c.as_slice.ensures.value c.in_ok-roots_at.ensures) in
    let known = λ (l r : ℕ) (in_l : Contains c.args.left.now l) (in_r : Contains c.args.right.now r).
    let k : (root : NodeRef) × (root_at shelf a c.args.space l r ≡ Some root) = some-is (root_at shelf a c.args.space l r)
    (c.requires.known l r in_l in_r) in k in
    let e = c.join.ensures in
    Joins-one a c.args.track c.args.space c.args.left.now c.args.right.now shelf c.join.new.shelf roots are known c.args.numbers.now
    c.join.new.rule c.requires.numbers (c.join.ensures.may_ask_still [] c.requires.numbers)
    e.kept e.same_limit e.tables e.shelf e.answers e.only e.adds

pub returns-clause-cell : goal.returns-clause-cell
returns-clause-cell c =
    let shelf = c.args.shelf.now in
    let a = c.args.a.now in
    let roots = c.as_slice.result.now in
    let are = AreRoots-short shelf a c.args.space c.args.left.now c.args.right.now c.args.short_left.now c.args.short_right.now c.requires.rows
    c.requires.columns roots (found-are shelf a c.args.table.now c.requires.table.are c.args.space c.args.short_left.now c.args.short_right.now
    c.roots_at.new.roots.items roots c.as_slice.ensures.value c.in_ok-roots_at.ensures) in
    let known = λ (l r : ℕ) (in_l : Contains c.args.left.now l) (in_r : Contains c.args.right.now r).
    let k : (root : NodeRef) × (root_at shelf a c.args.space l r ≡ Some root) = some-is (root_at shelf a c.args.space l r)
    (c.requires.known l r in_l in_r) in k in
    let e = c.join.ensures in
    IsCell-one a c.args.track c.args.space c.args.left.now c.args.right.now shelf c.join.new.shelf roots are known c.args.numbers.now
    c.join.new.rule c.requires.numbers (c.join.ensures.may_ask_still [] c.requires.numbers)
    c.in_ok-made.made c.in_ok-made.ensures.valid c.in_ok-made.ensures.value

pub join-requires-clause-valid : goal.join-requires-clause-valid
join-requires-clause-valid c =
    AreRoots-valid c.args.shelf.now c.requires.table.is_shelf c.args.a.now c.args.space c.args.short_left.now c.args.short_right.now c.as_slice.result.now
    (found-are c.args.shelf.now c.args.a.now c.args.table.now c.requires.table.are c.args.space c.args.short_left.now c.args.short_right.now
    c.roots_at.new.roots.items c.as_slice.result.now c.as_slice.ensures.value c.in_ok-roots_at.ensures)

pub returns-in_err-made-clause-numbers : goal.returns-in_err-made-clause-numbers
returns-in_err-made-clause-numbers c = c.join.ensures.may_ask_still [] c.requires.numbers

pub returns-clause-numbers : goal.returns-clause-numbers
returns-clause-numbers c = c.join.ensures.may_ask_still [] c.requires.numbers

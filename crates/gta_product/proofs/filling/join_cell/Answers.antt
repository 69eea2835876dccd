-- One root is joined for a pair of each child.
use Rattle.std.proofs.Common.{◌∙◌}
use Rattle.gta_product.proofs.NumbersLemmas.{numbers-still}
use Rattle.gta_product.proofs.FillingLemmas.{Joins-one, IsCell-one, ExceedsCells-one}
use Rattle.gta_product.proofs.LeavesLemmas.{Joins-leaves, IsCell-leaves, Fits-leaves}
use Rattle.gta_product.proofs.filling.join_cell.Goals as goal

pub returns-in_err-made-clause-joins : goal.returns-in_err-made-clause-joins
returns-in_err-made-clause-joins c =
    let e = c.join.ensures in
    Joins-one c.args.a.now c.args.b.now c.args.space c.args.left c.args.right c.args.shelf.now c.join.new.shelf c.root_in-first.result
    c.root_in-second.result
    c.root_in-first.ensures.value c.root_in-second.ensures.value c.args.numbers.now c.join.new.rule c.requires.numbers
    (numbers-still c.args.numbers.now c.join.new.rule c.requires.numbers c.join.ensures.may_ask_still)
    e.kept e.same_limit e.tables e.shelf e.answers e.only e.adds

pub returns-in_err-made-clause-limit : goal.returns-in_err-made-clause-limit
returns-in_err-made-clause-limit c = λ stopped given completes.
    ExceedsCells-one c.args.a.now c.args.b.now c.args.space c.args.left c.args.right c.args.shelf.now c.join.new.shelf c.root_in-first.result
    c.root_in-second.result
    c.root_in-first.ensures.value c.root_in-second.ensures.value c.args.numbers.now c.join.new.rule c.requires.numbers
    (numbers-still c.args.numbers.now c.join.new.rule c.requires.numbers c.join.ensures.may_ask_still) given
    (c.join.ensures.limit (let why = rw stopped at c.from_residual-in_err-made.ensures in c.in_err-made.was ∙ (let is = why.1 in cc)) given completes)

pub returns-clause-joins : goal.returns-clause-joins
returns-clause-joins c =
    let e = c.join.ensures in
    Joins-one c.args.a.now c.args.b.now c.args.space c.args.left c.args.right c.args.shelf.now c.join.new.shelf c.root_in-first.result
    c.root_in-second.result
    c.root_in-first.ensures.value c.root_in-second.ensures.value c.args.numbers.now c.join.new.rule c.requires.numbers
    (numbers-still c.args.numbers.now c.join.new.rule c.requires.numbers c.join.ensures.may_ask_still)
    e.kept e.same_limit e.tables e.shelf e.answers e.only e.adds

pub returns-clause-cell : goal.returns-clause-cell
returns-clause-cell c =
    IsCell-one c.args.a.now c.args.b.now c.args.space c.args.left c.args.right c.args.shelf.now c.join.new.shelf c.root_in-first.result
    c.root_in-second.result
    c.root_in-first.ensures.value c.root_in-second.ensures.value c.args.numbers.now c.join.new.rule c.requires.numbers
    (numbers-still c.args.numbers.now c.join.new.rule c.requires.numbers c.join.ensures.may_ask_still)
    c.in_ok-made.made c.in_ok-made.ensures.valid c.in_ok-made.ensures.value

pub returns-in_err-made-clause-numbers : goal.returns-in_err-made-clause-numbers
returns-in_err-made-clause-numbers c = numbers-still c.args.numbers.now c.join.new.rule c.requires.numbers c.join.ensures.may_ask_still

pub returns-clause-numbers : goal.returns-clause-numbers
returns-clause-numbers c = numbers-still c.args.numbers.now c.join.new.rule c.requires.numbers c.join.ensures.may_ask_still

pub returns-in_err-leaf-clause-joins : goal.returns-in_err-leaf-clause-joins
returns-in_err-leaf-clause-joins c =
    Joins-leaves c.args.a.now c.args.b.now c.args.space c.args.left c.args.right c.args.shelf.now c.root_in-first.result
    c.root_in-second.result c.root_in-first.ensures.value c.root_in-second.ensures.value c.args.numbers.now c.number_leaves.new.numbers c.requires.numbers
    c.number_leaves.ensures.numbers c.in-Some.one c.in-Some-state.two c.in-Some.ensures.leaf c.in-Some-state.ensures.leaf
    c.number_leaves.ensures.grows c.requires.tables.is_shelf

pub returns-in-Some-state-clause-joins : goal.returns-in-Some-state-clause-joins
returns-in-Some-state-clause-joins c =
    Joins-leaves c.args.a.now c.args.b.now c.args.space c.args.left c.args.right c.args.shelf.now c.root_in-first.result
    c.root_in-second.result c.root_in-first.ensures.value c.root_in-second.ensures.value c.args.numbers.now c.number_leaves.new.numbers c.requires.numbers
    c.number_leaves.ensures.numbers c.in-Some.one c.in-Some-state.two c.in-Some.ensures.leaf c.in-Some-state.ensures.leaf
    c.number_leaves.ensures.grows c.requires.tables.is_shelf

pub returns-in-Some-state-clause-cell : goal.returns-in-Some-state-clause-cell
returns-in-Some-state-clause-cell c =
    IsCell-leaves c.args.a.now c.args.b.now c.args.space c.args.left c.args.right c.args.shelf.now c.root_in-first.result
    c.root_in-second.result c.root_in-first.ensures.value c.root_in-second.ensures.value c.args.numbers.now c.number_leaves.new.numbers c.requires.numbers
    c.number_leaves.ensures.numbers c.in-Some.one c.in-Some-state.two c.in-Some.ensures.leaf c.in-Some-state.ensures.leaf
    c.number_leaves.ensures.grows
    c.in_ok-leaf.leaf c.in_ok-leaf.ensures.leaf

pub returns-in-Some-state-clause-fits : goal.returns-in-Some-state-clause-fits
returns-in-Some-state-clause-fits c =
    Fits-leaves c.args.a.now c.args.b.now c.args.space c.args.left c.args.right c.args.shelf.now c.root_in-first.result
    c.root_in-second.result c.root_in-first.ensures.value c.root_in-second.ensures.value c.args.numbers.now c.number_leaves.new.numbers c.requires.numbers
    c.number_leaves.ensures.numbers c.in-Some.one c.in-Some-state.two c.in-Some.ensures.leaf c.in-Some-state.ensures.leaf
    c.number_leaves.ensures.grows
    c.args.joiner.now c.requires.fits

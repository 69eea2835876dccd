-- The product is built as pairs come; at the end each space was joined for all pairs of its children.
use Rattle.std.proofs.Common.{◌∙◌}
use Rattle.gta_theory.specs.Constructions.{pairs}
use Rattle.gta_core.specs.Auto.{automaton_of}
use Rattle.gta_product.proofs.ProductLemmas.{Building-start, Leaves-none, Leaves-goes, Exceeded-start, AreDone-goes}
use Rattle.gta_product.proofs.AssembledLemmas.{columns-few}
use Rattle.gta_product.proofs.pairing.settle.Goals as goal

pub grow-requires-clause-spaces : goal.grow-requires-clause-spaces
grow-requires-clause-spaces c = c.in_ok-numbers.ensures.spaces c.args.shelf.now

pub grow-requires-clause-grown : goal.grow-requires-clause-grown
grow-requires-clause-grown c =
    c.in_ok-growths.ensures (pairs (automaton_of c.args.shelf.now c.args.a.now) (automaton_of c.args.shelf.now c.args.b.now)) c.args.a.now c.args.b.now
    c.in_ok-numbers.numbers.items c.args.shelf.now

pub grow-requires-clause-fits : goal.grow-requires-clause-fits
grow-requires-clause-fits c = c.in_ok-joiners.ensures c.args.shelf.now c.in_ok-numbers.numbers.items (c.in_ok-numbers.ensures.spaces c.args.shelf.now).many

pub parts_of-requires-clause-numbers : goal.parts_of-requires-clause-numbers
parts_of-requires-clause-numbers c = c.in_ok-grow.ensures.spaces.many

pub parts_of-requires-clause-growths : goal.parts_of-requires-clause-growths
parts_of-requires-clause-growths c = c.in_ok-grow.ensures.grown.many

pub parts_of-requires-clause-few : goal.parts_of-requires-clause-few
parts_of-requires-clause-few c =
    let AB = pairs (automaton_of c.args.shelf.now c.args.a.now) (automaton_of c.args.shelf.now c.args.b.now) in
    let e = c.in_ok-grow.ensures in
    columns-few c.args.g.now AB c.args.a.now c.args.b.now c.grow.new.numbers.items c.grow.new.shelf c.start.ensures.guide c.grow.new.growths.items
    (AreDone-goes c.args.g.now c.args.shelf.now c.args.a.now c.args.b.now c.requires.first c.requires.second c.grow.new.numbers.items
    c.grow.new.shelf c.grow.new.growths.items e.spaces e.grown e.all)

pub returns-in_err-numbers-clause-leaves : goal.returns-in_err-numbers-clause-leaves
returns-in_err-numbers-clause-leaves c = Leaves-none c.args.shelf.now c.requires.tables.is_shelf

pub returns-in_err-joiners-clause-leaves : goal.returns-in_err-joiners-clause-leaves
returns-in_err-joiners-clause-leaves c = Leaves-none c.args.shelf.now c.requires.tables.is_shelf

pub returns-in_err-growths-clause-leaves : goal.returns-in_err-growths-clause-leaves
returns-in_err-growths-clause-leaves c = Leaves-none c.args.shelf.now c.requires.tables.is_shelf

pub returns-in_err-grow-clause-leaves : goal.returns-in_err-grow-clause-leaves
returns-in_err-grow-clause-leaves c = Leaves-goes _ _ _ _ _ _ c.grow.ensures.goes

pub returns-in_err-parts-clause-leaves : goal.returns-in_err-parts-clause-leaves
returns-in_err-parts-clause-leaves c = Leaves-goes _ _ _ _ _ _ c.grow.ensures.goes

pub returns-clause-leaves : goal.returns-clause-leaves
returns-clause-leaves c = Leaves-goes _ _ _ _ _ _ c.grow.ensures.goes

pub returns-in_err-grow-clause-limit : goal.returns-in_err-grow-clause-limit
returns-in_err-grow-clause-limit c = λ stopped.
    let AB = pairs (automaton_of c.args.shelf.now c.args.a.now) (automaton_of c.args.shelf.now c.args.b.now) in
    Exceeded-start c.args.g.now AB c.args.shelf.now c.in_ok-numbers.numbers.items c.grow.new.numbers.items c.requires.tables.is_shelf
    (c.in_ok-numbers.ensures.spaces c.args.shelf.now)
    (c.grow.ensures.limit (let why = rw stopped at c.from_residual-in_err-grow.ensures in c.in_err-grow.was ∙ (let is = why.1 in cc)))

pub returns-clause-settled : goal.returns-clause-settled
returns-clause-settled c =
    let AB = pairs (automaton_of c.args.shelf.now c.args.a.now) (automaton_of c.args.shelf.now c.args.b.now) in
    let e = c.in_ok-grow.ensures in
    record {
      building = c.grow.ensures.goes.building c.args.shelf.now
          (Building-start c.args.g.now AB c.args.shelf.now c.in_ok-numbers.numbers.items c.requires.tables.is_shelf
          (c.in_ok-numbers.ensures.spaces c.args.shelf.now));
      many = c.in_ok-parts.ensures.many;
      parts = c.in_ok-parts.ensures.parts AB c.args.a.now c.args.b.now c.grow.new.shelf
          (AreDone-goes c.args.g.now c.args.shelf.now c.args.a.now c.args.b.now c.requires.first c.requires.second c.grow.new.numbers.items
          c.grow.new.shelf c.grow.new.growths.items e.spaces e.grown e.all);
    }

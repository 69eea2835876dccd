-- The product is built as sets come, and once more for all sets, which gives the roots.
use Rattle.std.proofs.Common.{◌≡◌, ℕ, List, inl, sym, ◌∙◌, subst, arith}
use Rattle.std.proofs.lemmas.Bool.{false≢true}
use Rattle.gta_theory.specs.Automata.{Automaton}
use Rattle.gta_subsets.specs.Subsets.{subsets}
use Rattle.gta_core.specs.Auto.{automaton_of}
use Rattle.gta_project.specs.Building.{AreSpaces, AreParts}
use Rattle.gta_project.specs.Growing.{HaveSeen}
use Rattle.gta_project.proofs.ShelfLemmas.{IsTableOf-kept}
use Rattle.gta_project.proofs.FinalLemmas.{same-spaces}
use Rattle.gta_project.proofs.ProjectLemmas.{Building-start, Leaves-building, Leaves-none}
use Rattle.gta_project.proofs.GrowingLemmas.{to-now, to-first, auto-now, initial-now, Building-goes, Exceeded-goes, room-most, room-less}
use Rattle.gta_project.proofs.projecting.settle.Goals as goal

pub loop-growths-init : goal.loop-growths-init
loop-growths-init c =
    let Sets = subsets (automaton_of c.args.shelf.now c.args.a.now) c.args.track c.args.initials.now in
    let are = c.in_ok-numbers.ensures.spaces (automaton_of c.args.shelf.now c.args.a.now) c.args.track in
    record {
      building = Building-start c.args.g.now Sets c.args.shelf.now c.in_ok-numbers.numbers.items c.requires.table.is_shelf are;
      fits = c.in_ok-joiners.ensures c.args.track c.args.shelf.now c.in_ok-numbers.numbers.items are.many;
      seen = c.in_ok-growths.ensures (automaton_of c.args.shelf.now c.args.a.now) c.args.a.now c.args.track c.args.initials.now;
    }

pub grow-requires-clause-auto : goal.grow-requires-clause-auto
grow-requires-clause-auto c =
    auto-now c.args.g.now c.args.a.now c.args.track c.args.initials.now c.args.shelf.now c.loop-growths.shelf c.requires.table.is_shelf
    c.loop-growths.numbers.items
    c.loop-growths.invariant.building c.requires.auto

pub grow-requires-clause-table : goal.grow-requires-clause-table
grow-requires-clause-table c =
    let building = c.loop-growths.invariant.building in
    IsTableOf-kept c.args.shelf.now c.loop-growths.shelf building.shelf building.tables c.args.a.now c.args.table.now c.requires.table

pub grow-requires-clause-initials : goal.grow-requires-clause-initials
grow-requires-clause-initials c =
    initial-now c.args.g.now c.args.a.now c.args.track c.args.initials.now c.args.shelf.now c.loop-growths.shelf c.requires.table.is_shelf
    c.loop-growths.numbers.items
    c.loop-growths.invariant.building c.requires.initials

pub grow-requires-clause-spaces : goal.grow-requires-clause-spaces
grow-requires-clause-spaces c =
    to-now c.args.g.now c.args.a.now c.args.track c.args.initials.now c.args.shelf.now c.loop-growths.shelf c.requires.table.is_shelf
    c.loop-growths.numbers.items
    c.loop-growths.invariant.building (λ (Sets : Automaton (List ℕ)). AreSpaces c.args.g.now Sets c.loop-growths.numbers.items)
    c.loop-growths.invariant.building.are

pub grow-requires-clause-seen : goal.grow-requires-clause-seen
grow-requires-clause-seen c =
    to-now c.args.g.now c.args.a.now c.args.track c.args.initials.now c.args.shelf.now c.loop-growths.shelf c.requires.table.is_shelf
    c.loop-growths.numbers.items
    c.loop-growths.invariant.building (λ (Sets : Automaton (List ℕ)). HaveSeen c.args.g.now Sets c.args.a.now c.loop-growths.growths.items)
    c.loop-growths.invariant.seen

pub parts_of-requires-clause-auto : goal.parts_of-requires-clause-auto
parts_of-requires-clause-auto c =
    let grown = Building-goes c.args.g.now c.args.a.now c.args.track c.args.initials.now c.args.shelf.now c.loop-growths.shelf c.requires.table.is_shelf
    c.loop-growths.numbers.items
    c.loop-growths.invariant.building
    c.grow.new.shelf c.grow.new.numbers.items c.grow.ensures.goes.building in
    auto-now c.args.g.now c.args.a.now c.args.track c.args.initials.now c.args.shelf.now c.grow.new.shelf c.requires.table.is_shelf
    c.grow.new.numbers.items grown c.requires.auto

pub parts_of-requires-clause-table : goal.parts_of-requires-clause-table
parts_of-requires-clause-table c =
    let grown = Building-goes c.args.g.now c.args.a.now c.args.track c.args.initials.now c.args.shelf.now c.loop-growths.shelf c.requires.table.is_shelf
    c.loop-growths.numbers.items
    c.loop-growths.invariant.building
    c.grow.new.shelf c.grow.new.numbers.items c.grow.ensures.goes.building in
    IsTableOf-kept c.args.shelf.now c.grow.new.shelf grown.shelf grown.tables c.args.a.now c.args.table.now c.requires.table

pub parts_of-requires-clause-initials : goal.parts_of-requires-clause-initials
parts_of-requires-clause-initials c =
    let grown = Building-goes c.args.g.now c.args.a.now c.args.track c.args.initials.now c.args.shelf.now c.loop-growths.shelf c.requires.table.is_shelf
    c.loop-growths.numbers.items
    c.loop-growths.invariant.building
    c.grow.new.shelf c.grow.new.numbers.items c.grow.ensures.goes.building in
    initial-now c.args.g.now c.args.a.now c.args.track c.args.initials.now c.args.shelf.now c.grow.new.shelf c.requires.table.is_shelf
    c.grow.new.numbers.items grown c.requires.initials

pub parts_of-requires-clause-spaces : goal.parts_of-requires-clause-spaces
parts_of-requires-clause-spaces c =
    let grown = Building-goes c.args.g.now c.args.a.now c.args.track c.args.initials.now c.args.shelf.now c.loop-growths.shelf c.requires.table.is_shelf
    c.loop-growths.numbers.items
    c.loop-growths.invariant.building
    c.grow.new.shelf c.grow.new.numbers.items c.grow.ensures.goes.building in
    to-now c.args.g.now c.args.a.now c.args.track c.args.initials.now c.args.shelf.now c.grow.new.shelf c.requires.table.is_shelf c.grow.new.numbers.items grown
    (λ (Sets : Automaton (List ℕ)). AreSpaces c.args.g.now Sets c.grow.new.numbers.items) grown.are

pub returns-in_err-numbers-clause-leaves : goal.returns-in_err-numbers-clause-leaves
returns-in_err-numbers-clause-leaves c =
    Leaves-none c.args.shelf.now c.requires.table.is_shelf

pub returns-in_err-joiners-clause-leaves : goal.returns-in_err-joiners-clause-leaves
returns-in_err-joiners-clause-leaves c =
    Leaves-none c.args.shelf.now c.requires.table.is_shelf

pub returns-in_err-growths-clause-leaves : goal.returns-in_err-growths-clause-leaves
returns-in_err-growths-clause-leaves c =
    Leaves-none c.args.shelf.now c.requires.table.is_shelf

pub returns-in_err-grow-clause-leaves : goal.returns-in_err-grow-clause-leaves
returns-in_err-grow-clause-leaves c =
    let grown = Building-goes c.args.g.now c.args.a.now c.args.track c.args.initials.now c.args.shelf.now c.loop-growths.shelf c.requires.table.is_shelf
    c.loop-growths.numbers.items
    c.loop-growths.invariant.building
    c.grow.new.shelf c.grow.new.numbers.items c.grow.ensures.goes.building in
    Leaves-building _ _ _ _ _ grown

pub returns-in_err-before-clause-leaves : goal.returns-in_err-before-clause-leaves
returns-in_err-before-clause-leaves c =
    let grown = Building-goes c.args.g.now c.args.a.now c.args.track c.args.initials.now c.args.shelf.now c.loop-growths.shelf c.requires.table.is_shelf
    c.loop-growths.numbers.items
    c.loop-growths.invariant.building
    c.grow.new.shelf c.grow.new.numbers.items c.grow.ensures.goes.building in
    Leaves-building _ _ _ _ _ grown

pub returns-in_err-parts-clause-leaves : goal.returns-in_err-parts-clause-leaves
returns-in_err-parts-clause-leaves c =
    let grown = Building-goes c.args.g.now c.args.a.now c.args.track c.args.initials.now c.args.shelf.now c.loop-growths.shelf c.requires.table.is_shelf
    c.loop-growths.numbers.items
    c.loop-growths.invariant.building
    c.grow.new.shelf c.grow.new.numbers.items c.grow.ensures.goes.building in
    let next = Building-goes c.args.g.now c.args.a.now c.args.track c.args.initials.now c.args.shelf.now c.grow.new.shelf c.requires.table.is_shelf
    c.grow.new.numbers.items grown
    c.parts_of.new.shelf c.parts_of.new.numbers.items c.parts_of.ensures.building in
    Leaves-building _ _ _ _ _ next

pub returns-in_err-after-clause-leaves : goal.returns-in_err-after-clause-leaves
returns-in_err-after-clause-leaves c =
    let grown = Building-goes c.args.g.now c.args.a.now c.args.track c.args.initials.now c.args.shelf.now c.loop-growths.shelf c.requires.table.is_shelf
    c.loop-growths.numbers.items
    c.loop-growths.invariant.building
    c.grow.new.shelf c.grow.new.numbers.items c.grow.ensures.goes.building in
    let next = Building-goes c.args.g.now c.args.a.now c.args.track c.args.initials.now c.args.shelf.now c.grow.new.shelf c.requires.table.is_shelf
    c.grow.new.numbers.items grown
    c.parts_of.new.shelf c.parts_of.new.numbers.items c.parts_of.ensures.building in
    Leaves-building _ _ _ _ _ next

pub returns-then-are_same-clause-leaves : goal.returns-then-are_same-clause-leaves
returns-then-are_same-clause-leaves c =
    let grown = Building-goes c.args.g.now c.args.a.now c.args.track c.args.initials.now c.args.shelf.now c.loop-growths.shelf c.requires.table.is_shelf
    c.loop-growths.numbers.items
    c.loop-growths.invariant.building
    c.grow.new.shelf c.grow.new.numbers.items c.grow.ensures.goes.building in
    let next = Building-goes c.args.g.now c.args.a.now c.args.track c.args.initials.now c.args.shelf.now c.grow.new.shelf c.requires.table.is_shelf
    c.grow.new.numbers.items grown
    c.parts_of.new.shelf c.parts_of.new.numbers.items c.parts_of.ensures.building in
    Leaves-building _ _ _ _ _ next

pub returns-in_err-grow-clause-limit : goal.returns-in_err-grow-clause-limit
returns-in_err-grow-clause-limit c = λ stopped.
    Exceeded-goes c.args.g.now c.args.a.now c.args.track c.args.initials.now c.args.shelf.now c.loop-growths.shelf c.requires.table.is_shelf
    c.loop-growths.numbers.items
    c.loop-growths.invariant.building c.grow.new.numbers.items
    (c.grow.ensures.limit (let why = rw stopped at c.from_residual-in_err-grow.ensures in c.in_err-grow.was ∙ (let is = why.1 in cc)))

pub returns-in_err-parts-clause-limit : goal.returns-in_err-parts-clause-limit
returns-in_err-parts-clause-limit c = λ stopped.
    let grown = Building-goes c.args.g.now c.args.a.now c.args.track c.args.initials.now c.args.shelf.now c.loop-growths.shelf c.requires.table.is_shelf
    c.loop-growths.numbers.items
    c.loop-growths.invariant.building
    c.grow.new.shelf c.grow.new.numbers.items c.grow.ensures.goes.building in
    Exceeded-goes c.args.g.now c.args.a.now c.args.track c.args.initials.now c.args.shelf.now c.grow.new.shelf c.requires.table.is_shelf
    c.grow.new.numbers.items grown c.parts_of.new.numbers.items (λ start building given completes.
    inl (c.parts_of.ensures.limit (let why = rw stopped at c.from_residual-in_err-parts.ensures in c.in_err-parts.was ∙ (let is = why.1 in cc)) start
    building given completes))

pub returns-then-are_same-clause-settled : goal.returns-then-are_same-clause-settled
returns-then-are_same-clause-settled c =
    let Sets = subsets (automaton_of c.args.shelf.now c.args.a.now) c.args.track c.args.initials.now in
    let grown = Building-goes c.args.g.now c.args.a.now c.args.track c.args.initials.now c.args.shelf.now c.loop-growths.shelf c.requires.table.is_shelf
    c.loop-growths.numbers.items
    c.loop-growths.invariant.building
    c.grow.new.shelf c.grow.new.numbers.items c.grow.ensures.goes.building in
    let next = Building-goes c.args.g.now c.args.a.now c.args.track c.args.initials.now c.args.shelf.now c.grow.new.shelf c.requires.table.is_shelf
    c.grow.new.numbers.items grown
    c.parts_of.new.shelf c.parts_of.new.numbers.items c.parts_of.ensures.building in
    let counted = sym c.in_ok-before.ensures ∙ sym (c.are_same.ensures.0 c.if-are_same.true) ∙ c.in_ok-after.ensures in
    let is : c.grow.new.numbers.items ≡ c.parts_of.new.numbers.items = same-spaces c.grow.new.numbers.items c.parts_of.new.numbers.items
    c.parts_of.ensures.extends counted in
    let parts = to-first c.args.g.now c.args.a.now c.args.track c.args.initials.now c.args.shelf.now c.grow.new.shelf c.requires.table.is_shelf
    c.grow.new.numbers.items grown
    (λ (Sets : Automaton (List ℕ)). AreParts c.args.g.now Sets c.args.a.now c.grow.new.numbers.items c.grow.new.numbers.items
    c.parts_of.new.shelf c.parts_of.new.roots c.in_ok-parts.parts) (c.in_ok-parts.ensures.parts (sym is)) in
    record {
      building = next;
      many = c.in_ok-parts.ensures.many;
      parts = subst (λ (ss : List (List (List ℕ))). AreParts c.args.g.now Sets c.args.a.now ss ss c.parts_of.new.shelf
          c.parts_of.new.roots c.in_ok-parts.parts) is parts;
      valid = c.in_ok-parts.ensures.valid;
    }

pub loop-growths-preserved : goal.loop-growths-preserved
loop-growths-preserved c =
    let grown = Building-goes c.args.g.now c.args.a.now c.args.track c.args.initials.now c.args.shelf.now c.loop-growths.shelf c.requires.table.is_shelf
    c.loop-growths.numbers.items
    c.loop-growths.invariant.building
    c.grow.new.shelf c.grow.new.numbers.items c.grow.ensures.goes.building in
    let next = Building-goes c.args.g.now c.args.a.now c.args.track c.args.initials.now c.args.shelf.now c.grow.new.shelf c.requires.table.is_shelf
    c.grow.new.numbers.items grown
    c.parts_of.new.shelf c.parts_of.new.numbers.items c.parts_of.ensures.building in
    record {
      building = next;
      fits = c.in_ok-parts.ensures.fits;
      seen = to-first c.args.g.now c.args.a.now c.args.track c.args.initials.now c.args.shelf.now c.loop-growths.shelf c.requires.table.is_shelf
          c.loop-growths.numbers.items
          c.loop-growths.invariant.building (λ (Sets : Automaton (List ℕ)). HaveSeen c.args.g.now Sets c.args.a.now c.grow.new.growths.items)
          c.in_ok-grow.ensures.seen;
    }

pub loop-growths-smaller : goal.loop-growths-smaller
loop-growths-smaller c =
    let most = room-most c.loop-growths.numbers.items c.grow.new.numbers.items c.grow.ensures.goes.extends in
    let grown = Building-goes c.args.g.now c.args.a.now c.args.track c.args.initials.now c.args.shelf.now c.loop-growths.shelf c.requires.table.is_shelf
    c.loop-growths.numbers.items
    c.loop-growths.invariant.building
    c.grow.new.shelf c.grow.new.numbers.items c.grow.ensures.goes.building in
    let next = Building-goes c.args.g.now c.args.a.now c.args.track c.args.initials.now c.args.shelf.now c.grow.new.shelf c.requires.table.is_shelf
    c.grow.new.numbers.items grown
    c.parts_of.new.shelf c.parts_of.new.numbers.items c.parts_of.ensures.building in
    let less = room-less c.grow.new.numbers.items c.parts_of.new.numbers.items c.parts_of.ensures.extends
    (λ s sets is. ((next.are.each s sets is).numbers).few) (λ same. false≢true (sym c.if-are_same.false ∙ c.are_same.ensures.1
    (c.in_ok-after.ensures ∙ same ∙ sym c.in_ok-before.ensures))) in
    omega arith

pub start-requires-clause-many : goal.start-requires-clause-many
start-requires-clause-many c = c.requires.initials.many

pub start-requires-clause-sets : goal.start-requires-clause-sets
start-requires-clause-sets c = λ k set there. (c.requires.initials.each k set there).set

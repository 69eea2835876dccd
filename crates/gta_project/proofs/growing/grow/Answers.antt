-- Again and again, until nothing comes.
use Rattle.std.proofs.Common.{ℕ, List, sym, ◌∙◌}
use Rattle.std.proofs.lemmas.Bool.{false≢true}
use Rattle.gta_theory.specs.Automata.{Automaton}
use Rattle.gta_subsets.specs.Subsets.{subsets}
use Rattle.gta_core.specs.Auto.{automaton_of}
use Rattle.gta_project.specs.Building.{AreSpaces}
use Rattle.gta_project.specs.Growing.{HaveSeen}
use Rattle.gta_project.proofs.ShelfLemmas.{IsTableOf-kept}
use Rattle.gta_project.proofs.GrowingLemmas.{Goes-none, subsets-on, subsets-back, auto-on, initial-on, Goes-next, LacksRoom-next, room-less}
use Rattle.gta_project.proofs.growing.grow.Goals as goal

pub loop-before-init : goal.loop-before-init
loop-before-init c = record {
  goes = Goes-none c.args.g.now (subsets (automaton_of c.args.shelf.now c.args.a.now) c.args.track c.args.initials.now) c.args.shelf.now
      c.args.numbers.now.items c.requires.table.is_shelf;
  are = c.requires.spaces;
  seen = c.requires.seen;
  fits = c.requires.fits;
}

pub grow_once-requires-clause-auto : goal.grow_once-requires-clause-auto
grow_once-requires-clause-auto c = auto-on c.args.g.now c.args.a.now c.args.track c.args.initials.now c.args.shelf.now c.loop-before.shelf
    c.requires.table.is_shelf c.args.numbers.now.items c.loop-before.numbers.items
    c.loop-before.invariant.goes c.requires.auto

pub grow_once-requires-clause-table : goal.grow_once-requires-clause-table
grow_once-requires-clause-table c =
    let goes = c.loop-before.invariant.goes in
    IsTableOf-kept c.args.shelf.now c.loop-before.shelf goes.shelf goes.tables c.args.a.now c.args.table.now c.requires.table

pub grow_once-requires-clause-initials : goal.grow_once-requires-clause-initials
grow_once-requires-clause-initials c = initial-on c.args.g.now c.args.a.now c.args.track c.args.initials.now c.args.shelf.now c.loop-before.shelf
    c.requires.table.is_shelf c.args.numbers.now.items c.loop-before.numbers.items
    c.loop-before.invariant.goes c.requires.initials

pub grow_once-requires-clause-spaces : goal.grow_once-requires-clause-spaces
grow_once-requires-clause-spaces c = subsets-on c.args.g.now c.args.a.now c.args.track c.args.initials.now c.args.shelf.now c.loop-before.shelf
    c.requires.table.is_shelf c.args.numbers.now.items c.loop-before.numbers.items
    c.loop-before.invariant.goes
    (λ (Sets : Automaton (List ℕ)). AreSpaces c.args.g.now Sets c.loop-before.numbers.items) c.loop-before.invariant.are

pub grow_once-requires-clause-seen : goal.grow_once-requires-clause-seen
grow_once-requires-clause-seen c = subsets-on c.args.g.now c.args.a.now c.args.track c.args.initials.now c.args.shelf.now c.loop-before.shelf
    c.requires.table.is_shelf c.args.numbers.now.items c.loop-before.numbers.items
    c.loop-before.invariant.goes
    (λ (Sets : Automaton (List ℕ)). HaveSeen c.args.g.now Sets c.args.a.now c.loop-before.growths.items) c.loop-before.invariant.seen

pub returns-in_err-grow_once-clause-goes : goal.returns-in_err-grow_once-clause-goes
returns-in_err-grow_once-clause-goes c = Goes-next c.args.g.now c.args.a.now c.args.track c.args.initials.now c.args.shelf.now c.loop-before.shelf
    c.requires.table.is_shelf c.args.numbers.now.items
    c.loop-before.numbers.items c.loop-before.invariant.goes c.grow_once.new.shelf c.grow_once.new.numbers.items c.grow_once.ensures.goes

pub returns-in_err-after-clause-goes : goal.returns-in_err-after-clause-goes
returns-in_err-after-clause-goes c = Goes-next c.args.g.now c.args.a.now c.args.track c.args.initials.now c.args.shelf.now c.loop-before.shelf
    c.requires.table.is_shelf c.args.numbers.now.items
    c.loop-before.numbers.items c.loop-before.invariant.goes c.grow_once.new.shelf c.grow_once.new.numbers.items c.grow_once.ensures.goes

pub returns-then-are_same-clause-goes : goal.returns-then-are_same-clause-goes
returns-then-are_same-clause-goes c = Goes-next c.args.g.now c.args.a.now c.args.track c.args.initials.now c.args.shelf.now c.loop-before.shelf
    c.requires.table.is_shelf c.args.numbers.now.items
    c.loop-before.numbers.items c.loop-before.invariant.goes c.grow_once.new.shelf c.grow_once.new.numbers.items c.grow_once.ensures.goes

pub returns-in_err-grow_once-clause-limit : goal.returns-in_err-grow_once-clause-limit
returns-in_err-grow_once-clause-limit c = λ stopped. LacksRoom-next c.args.g.now c.args.a.now c.args.track c.args.initials.now c.args.shelf.now
    c.loop-before.shelf c.requires.table.is_shelf c.args.numbers.now.items
    c.loop-before.numbers.items c.loop-before.invariant.goes c.grow_once.new.numbers.items
    (c.grow_once.ensures.limit (let why = rw stopped at c.from_residual-in_err-grow_once.ensures in c.in_err-grow_once.was ∙ (let is = why.1 in cc)))

pub returns-then-are_same-clause-spaces : goal.returns-then-are_same-clause-spaces
returns-then-are_same-clause-spaces c = subsets-back c.args.g.now c.args.a.now c.args.track c.args.initials.now c.args.shelf.now c.loop-before.shelf
    c.requires.table.is_shelf c.args.numbers.now.items
    c.loop-before.numbers.items c.loop-before.invariant.goes
    (λ (Sets : Automaton (List ℕ)). AreSpaces c.args.g.now Sets c.grow_once.new.numbers.items) c.in_ok-grow_once.ensures.spaces

pub returns-then-are_same-clause-seen : goal.returns-then-are_same-clause-seen
returns-then-are_same-clause-seen c = subsets-back c.args.g.now c.args.a.now c.args.track c.args.initials.now c.args.shelf.now c.loop-before.shelf
    c.requires.table.is_shelf c.args.numbers.now.items
    c.loop-before.numbers.items c.loop-before.invariant.goes
    (λ (Sets : Automaton (List ℕ)). HaveSeen c.args.g.now Sets c.args.a.now c.grow_once.new.growths.items) c.in_ok-grow_once.ensures.seen

pub loop-before-preserved : goal.loop-before-preserved
loop-before-preserved c = record {
  goes = Goes-next c.args.g.now c.args.a.now c.args.track c.args.initials.now c.args.shelf.now c.loop-before.shelf c.requires.table.is_shelf
      c.args.numbers.now.items
      c.loop-before.numbers.items c.loop-before.invariant.goes c.grow_once.new.shelf c.grow_once.new.numbers.items c.grow_once.ensures.goes;
  are = subsets-back c.args.g.now c.args.a.now c.args.track c.args.initials.now c.args.shelf.now c.loop-before.shelf c.requires.table.is_shelf
      c.args.numbers.now.items
      c.loop-before.numbers.items c.loop-before.invariant.goes
      (λ (Sets : Automaton (List ℕ)). AreSpaces c.args.g.now Sets c.grow_once.new.numbers.items) c.in_ok-grow_once.ensures.spaces;
  seen = subsets-back c.args.g.now c.args.a.now c.args.track c.args.initials.now c.args.shelf.now c.loop-before.shelf c.requires.table.is_shelf
      c.args.numbers.now.items
      c.loop-before.numbers.items c.loop-before.invariant.goes
      (λ (Sets : Automaton (List ℕ)). HaveSeen c.args.g.now Sets c.args.a.now c.grow_once.new.growths.items) c.in_ok-grow_once.ensures.seen;
  fits = c.in_ok-grow_once.ensures.fits;
}

pub loop-before-smaller : goal.loop-before-smaller
loop-before-smaller c = room-less c.loop-before.numbers.items c.grow_once.new.numbers.items c.grow_once.ensures.goes.extends
    (λ s sets is. ((c.in_ok-grow_once.ensures.spaces.each s sets is).numbers).few) (λ same. false≢true (sym c.if-are_same.false ∙ c.are_same.ensures.1
    (c.in_ok-after.ensures ∙ same ∙ sym c.in_ok-before.ensures)))

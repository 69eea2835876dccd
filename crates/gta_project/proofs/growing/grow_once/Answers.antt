-- Once in each space.
use Rattle.std.proofs.Common.{ℕ, List, ◌∙◌, arith}
use Rattle.gta_theory.specs.Automata.{Automaton}
use Rattle.gta_subsets.specs.Subsets.{subsets}
use Rattle.gta_core.specs.Auto.{automaton_of}
use Rattle.gta_project.specs.Building.{AreSpaces}
use Rattle.gta_project.specs.Growing.{HasSeen}
use Rattle.gta_project.proofs.ShelfLemmas.{IsTableOf-kept}
use Rattle.gta_project.proofs.PartLemmas.{get-at}
use Rattle.gta_project.proofs.GrowingLemmas.{Goes-none, HaveSeen-set, subsets-on, subsets-back, auto-on, initial-on, Goes-next, LacksRoom-next}
use Rattle.gta_project.proofs.growing.grow_once.Goals as goal

pub loop-space-init : goal.loop-space-init
loop-space-init c = record {
  goes = Goes-none c.args.g.now (subsets (automaton_of c.args.shelf.now c.args.a.now) c.args.track c.args.initials.now) c.args.shelf.now
      c.args.numbers.now.items c.requires.table.is_shelf;
  are = c.requires.spaces;
  seen = c.requires.seen;
  fits = c.requires.fits;
}

pub grow_space-requires-clause-auto : goal.grow_space-requires-clause-auto
grow_space-requires-clause-auto c = auto-on c.args.g.now c.args.a.now c.args.track c.args.initials.now c.args.shelf.now c.loop-space.shelf
    c.requires.table.is_shelf c.args.numbers.now.items c.loop-space.numbers.items
    c.loop-space.invariant.goes c.requires.auto

pub grow_space-requires-clause-table : goal.grow_space-requires-clause-table
grow_space-requires-clause-table c =
    let goes = c.loop-space.invariant.goes in
    IsTableOf-kept c.args.shelf.now c.loop-space.shelf goes.shelf goes.tables c.args.a.now c.args.table.now c.requires.table

pub grow_space-requires-clause-initials : goal.grow_space-requires-clause-initials
grow_space-requires-clause-initials c = initial-on c.args.g.now c.args.a.now c.args.track c.args.initials.now c.args.shelf.now c.loop-space.shelf
    c.requires.table.is_shelf c.args.numbers.now.items c.loop-space.numbers.items
    c.loop-space.invariant.goes c.requires.initials

pub grow_space-requires-clause-spaces : goal.grow_space-requires-clause-spaces
grow_space-requires-clause-spaces c = subsets-on c.args.g.now c.args.a.now c.args.track c.args.initials.now c.args.shelf.now c.loop-space.shelf
    c.requires.table.is_shelf c.args.numbers.now.items c.loop-space.numbers.items
    c.loop-space.invariant.goes
    (λ (Sets : Automaton (List ℕ)). AreSpaces c.args.g.now Sets c.loop-space.numbers.items) c.loop-space.invariant.are

pub grow_space-requires-clause-seen : goal.grow_space-requires-clause-seen
grow_space-requires-clause-seen c =
    let seen = c.loop-space.invariant.seen in
    let s = c.loop-space.space in
    subsets-on c.args.g.now c.args.a.now c.args.track c.args.initials.now c.args.shelf.now c.loop-space.shelf c.requires.table.is_shelf
    c.args.numbers.now.items c.loop-space.numbers.items
    c.loop-space.invariant.goes
    (λ (Sets : Automaton (List ℕ)). HasSeen c.args.g.now Sets c.args.a.now s c.index_mut-growth.result.now)
    (seen.each s c.index_mut-growth.result.now
    (get-at c.loop-space.growths.items s c.index_mut-growth.result.now (omega (arith, seen.many)) c.index_mut-growth.ensures.value))

pub returns-in_err-grow_space-clause-goes : goal.returns-in_err-grow_space-clause-goes
returns-in_err-grow_space-clause-goes c = Goes-next c.args.g.now c.args.a.now c.args.track c.args.initials.now c.args.shelf.now c.loop-space.shelf
    c.requires.table.is_shelf c.args.numbers.now.items c.loop-space.numbers.items
    c.loop-space.invariant.goes c.grow_space.new.shelf c.grow_space.new.numbers.items c.grow_space.ensures.goes

pub returns-in_err-grow_space-clause-limit : goal.returns-in_err-grow_space-clause-limit
returns-in_err-grow_space-clause-limit c = λ stopped. LacksRoom-next c.args.g.now c.args.a.now c.args.track c.args.initials.now c.args.shelf.now
    c.loop-space.shelf c.requires.table.is_shelf c.args.numbers.now.items c.loop-space.numbers.items
    c.loop-space.invariant.goes c.grow_space.new.numbers.items
    (c.grow_space.ensures.limit (let why = rw stopped at c.from_residual.ensures in c.in_err-grow_space.was ∙ (let is = why.1 in cc)))

pub loop-space-preserved : goal.loop-space-preserved
loop-space-preserved c = record {
  goes = Goes-next c.args.g.now c.args.a.now c.args.track c.args.initials.now c.args.shelf.now c.loop-space.shelf c.requires.table.is_shelf
      c.args.numbers.now.items c.loop-space.numbers.items
      c.loop-space.invariant.goes c.grow_space.new.shelf c.grow_space.new.numbers.items c.grow_space.ensures.goes;
  are = subsets-back c.args.g.now c.args.a.now c.args.track c.args.initials.now c.args.shelf.now c.loop-space.shelf c.requires.table.is_shelf
      c.args.numbers.now.items c.loop-space.numbers.items
      c.loop-space.invariant.goes
      (λ (Sets : Automaton (List ℕ)). AreSpaces c.args.g.now Sets c.grow_space.new.numbers.items) c.in_ok-grow_space.ensures.spaces;
  seen =
      let seen = c.loop-space.invariant.seen in
      HaveSeen-set c.args.g.now (subsets (automaton_of c.args.shelf.now c.args.a.now) c.args.track c.args.initials.now) c.args.a.now
      c.loop-space.growths.items c.loop-space.space c.grow_space.new.growth seen
      (let e = c.spaces-space-end.ensures.value in omega (arith, seen.many, c.loop-space-test.true))
      (subsets-back c.args.g.now c.args.a.now c.args.track c.args.initials.now c.args.shelf.now c.loop-space.shelf c.requires.table.is_shelf
      c.args.numbers.now.items c.loop-space.numbers.items
      c.loop-space.invariant.goes
      (λ (Sets : Automaton (List ℕ)). HasSeen c.args.g.now Sets c.args.a.now c.loop-space.space c.grow_space.new.growth) c.in_ok-grow_space.ensures.seen);
  fits = c.in_ok-grow_space.ensures.fits;
}

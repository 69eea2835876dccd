-- Once in each space.
use Rattle.std.proofs.Common.{ℕ, ◌<◌, length, ◌∙◌, arith}
use Rattle.gta_theory.specs.Automata.{Automaton}
use Rattle.gta_theory.specs.Constructions.{pairs}
use Rattle.gta_core.specs.Auto.{automaton_of}
use Rattle.gta_product.specs.Building.{AreSpaces}
use Rattle.gta_product.specs.Growing.{IsGrown}
use Rattle.gta_product.proofs.PartLemmas.{get-at}
use Rattle.gta_product.proofs.GrowingLemmas.{Goes-none, both-on, both-back, auto-on, Goes-next, LacksRoom-next}
use Rattle.gta_product.proofs.GrownLemmas.{AreGrown-set, HasAll-before, HaveSome-set, HaveAll-some}
use Rattle.gta_product.proofs.TablesLemmas.{AreTables-kept}
use Rattle.gta_product.proofs.growing.grow_once.Goals as goal

pub loop-space-init : goal.loop-space-init
loop-space-init c = record {
  goes = Goes-none c.args.g.now (pairs (automaton_of c.args.shelf.now c.args.a.now) (automaton_of c.args.shelf.now c.args.b.now)) c.args.shelf.now
      c.args.numbers.now.items c.requires.tables.is_shelf;
  are = c.requires.spaces;
  grown = c.requires.grown;
  all = λ s growth below there. absurd (omega (arith, below));
  fits = c.requires.fits;
}

pub grow_space-requires-clause-first : goal.grow_space-requires-clause-first
grow_space-requires-clause-first c = auto-on c.args.g.now c.args.a.now c.args.b.now c.args.shelf.now c.loop-space.shelf c.requires.tables.is_shelf
    c.args.numbers.now.items c.loop-space.numbers.items
    c.loop-space.invariant.goes c.args.a.now c.requires.first

pub grow_space-requires-clause-second : goal.grow_space-requires-clause-second
grow_space-requires-clause-second c = auto-on c.args.g.now c.args.a.now c.args.b.now c.args.shelf.now c.loop-space.shelf c.requires.tables.is_shelf
    c.args.numbers.now.items c.loop-space.numbers.items
    c.loop-space.invariant.goes c.args.b.now c.requires.second

pub grow_space-requires-clause-tables : goal.grow_space-requires-clause-tables
grow_space-requires-clause-tables c =
    let done = c.loop-space.invariant.goes in
    AreTables-kept c.args.shelf.now c.loop-space.shelf done.shelf done.same_limit done.tables
    c.args.a.now c.args.b.now c.args.tables.now c.requires.tables

pub grow_space-requires-clause-spaces : goal.grow_space-requires-clause-spaces
grow_space-requires-clause-spaces c = both-on c.args.g.now c.args.a.now c.args.b.now c.args.shelf.now c.loop-space.shelf c.requires.tables.is_shelf
    c.args.numbers.now.items c.loop-space.numbers.items
    c.loop-space.invariant.goes
    (λ (AB : Automaton (ℕ × ℕ)). AreSpaces c.args.g.now AB c.loop-space.numbers.items) c.loop-space.invariant.are

pub grow_space-requires-clause-grown : goal.grow_space-requires-clause-grown
grow_space-requires-clause-grown c =
    let grown = c.loop-space.invariant.grown in
    let s = c.loop-space.space in
    both-on c.args.g.now c.args.a.now c.args.b.now c.args.shelf.now c.loop-space.shelf c.requires.tables.is_shelf c.args.numbers.now.items
    c.loop-space.numbers.items
    c.loop-space.invariant.goes
    (λ (AB : Automaton (ℕ × ℕ)). IsGrown c.args.g.now AB c.args.a.now c.args.b.now c.loop-space.numbers.items c.loop-space.shelf s
    c.index_mut-growth.result.now)
    (grown.each s c.index_mut-growth.result.now
    (get-at c.loop-space.growths.items s c.index_mut-growth.result.now (omega (arith, grown.many)) c.index_mut-growth.ensures.value))

pub returns-in_err-grow_space-clause-goes : goal.returns-in_err-grow_space-clause-goes
returns-in_err-grow_space-clause-goes c = Goes-next c.args.g.now c.args.a.now c.args.b.now c.args.shelf.now c.loop-space.shelf c.requires.tables.is_shelf
    c.args.numbers.now.items c.loop-space.numbers.items
    c.loop-space.invariant.goes c.grow_space.new.shelf c.grow_space.new.numbers.items c.grow_space.ensures.goes

pub returns-in_err-grow_space-clause-limit : goal.returns-in_err-grow_space-clause-limit
returns-in_err-grow_space-clause-limit c = λ stopped. LacksRoom-next c.args.g.now c.args.a.now c.args.b.now c.args.shelf.now c.loop-space.shelf
    c.requires.tables.is_shelf c.args.numbers.now.items c.loop-space.numbers.items
    c.loop-space.invariant.goes c.grow_space.new.numbers.items
    (c.grow_space.ensures.limit (let why = rw stopped at c.from_residual.ensures in c.in_err-grow_space.was ∙ (let is = why.1 in cc)))

pub loop-space-preserved : goal.loop-space-preserved
loop-space-preserved c =
    let g = c.args.g.now in
    let a = c.args.a.now in
    let b = c.args.b.now in
    let start = c.args.shelf.now in
    let shelf = c.loop-space.shelf in
    let now = c.grow_space.new.shelf in
    let first = c.args.numbers.now.items in
    let before = c.loop-space.numbers.items in
    let after = c.grow_space.new.numbers.items in
    let s = c.loop-space.space in
    let growths = c.loop-space.growths.items in
    let growth = c.grow_space.new.growth in
    let invariant = c.loop-space.invariant in
    let is_shelf = c.requires.tables.is_shelf in
    let e = c.in_ok-grow_space.ensures in
    let goes = c.grow_space.ensures.goes in
    let AB = pairs (automaton_of start a) (automaton_of start b) in
    let within : s < length growths = (let bound = c.spaces-space-end.ensures.value in omega (arith, invariant.grown.many, c.loop-space-test.true)) in
    let are = both-back g a b start shelf is_shelf first before invariant.goes (λ (AB : Automaton (ℕ × ℕ)). AreSpaces g AB after) e.spaces in
    record {
      goes = Goes-next g a b start shelf is_shelf first before invariant.goes now after goes;
      are = are;
      grown = AreGrown-set g AB a b before after shelf now goes.extends goes.keeps are growths s growth invariant.grown within
          (both-back g a b start shelf is_shelf first before invariant.goes (λ (AB : Automaton (ℕ × ℕ)). IsGrown g AB a b after now s growth) e.grown);
      all = HaveSome-set g first s growths growth within
          (HasAll-before g first before invariant.goes.extends s growth.rows growth.columns e.all) invariant.all;
      fits = e.fits;
    }

pub returns-clause-all : goal.returns-clause-all
returns-clause-all c =
    let invariant = c.loop-space.invariant in
    HaveAll-some c.args.g.now c.args.numbers.now.items c.loop-space.space c.loop-space.growths.items
    (let bound = c.spaces-space-end.ensures.value in omega (arith, invariant.grown.many)) invariant.all

-- Again and again, until nothing comes.
use Rattle.std.proofs.Common.{◌≡◌, ℕ, List, sym, ◌∙◌, subst}
use Rattle.std.proofs.lemmas.Bool.{false≢true}
use Rattle.gta_theory.specs.Automata.{Automaton}
use Rattle.gta_theory.specs.Constructions.{pairs}
use Rattle.gta_core.specs.Auto.{automaton_of}
use Rattle.gta_product.specs.Building.{AreSpaces}
use Rattle.gta_product.specs.Growing.{HaveAll, AreGrown}
use Rattle.gta_product.proofs.GrowingLemmas.{Goes-none, both-on, both-back, auto-on, Goes-next, LacksRoom-next, room-less}
use Rattle.gta_product.proofs.FinalLemmas.{same-spaces}
use Rattle.gta_product.proofs.TablesLemmas.{AreTables-kept}
use Rattle.gta_product.proofs.growing.grow.Goals as goal

pub loop-before-init : goal.loop-before-init
loop-before-init c = record {
  goes = Goes-none c.args.g.now (pairs (automaton_of c.args.shelf.now c.args.a.now) (automaton_of c.args.shelf.now c.args.b.now)) c.args.shelf.now
      c.args.numbers.now.items c.requires.tables.is_shelf;
  are = c.requires.spaces;
  grown = c.requires.grown;
  fits = c.requires.fits;
}

pub grow_once-requires-clause-first : goal.grow_once-requires-clause-first
grow_once-requires-clause-first c = auto-on c.args.g.now c.args.a.now c.args.b.now c.args.shelf.now c.loop-before.shelf c.requires.tables.is_shelf
    c.args.numbers.now.items c.loop-before.numbers.items
    c.loop-before.invariant.goes c.args.a.now c.requires.first

pub grow_once-requires-clause-second : goal.grow_once-requires-clause-second
grow_once-requires-clause-second c = auto-on c.args.g.now c.args.a.now c.args.b.now c.args.shelf.now c.loop-before.shelf c.requires.tables.is_shelf
    c.args.numbers.now.items c.loop-before.numbers.items
    c.loop-before.invariant.goes c.args.b.now c.requires.second

pub grow_once-requires-clause-tables : goal.grow_once-requires-clause-tables
grow_once-requires-clause-tables c =
    let done = c.loop-before.invariant.goes in
    AreTables-kept c.args.shelf.now c.loop-before.shelf done.shelf done.same_limit done.tables
    c.args.a.now c.args.b.now c.args.tables.now c.requires.tables

pub grow_once-requires-clause-spaces : goal.grow_once-requires-clause-spaces
grow_once-requires-clause-spaces c = both-on c.args.g.now c.args.a.now c.args.b.now c.args.shelf.now c.loop-before.shelf c.requires.tables.is_shelf
    c.args.numbers.now.items c.loop-before.numbers.items
    c.loop-before.invariant.goes
    (λ (AB : Automaton (ℕ × ℕ)). AreSpaces c.args.g.now AB c.loop-before.numbers.items) c.loop-before.invariant.are

pub grow_once-requires-clause-grown : goal.grow_once-requires-clause-grown
grow_once-requires-clause-grown c = both-on c.args.g.now c.args.a.now c.args.b.now c.args.shelf.now c.loop-before.shelf c.requires.tables.is_shelf
    c.args.numbers.now.items c.loop-before.numbers.items
    c.loop-before.invariant.goes
    (λ (AB : Automaton (ℕ × ℕ)). AreGrown c.args.g.now AB c.args.a.now c.args.b.now c.loop-before.numbers.items c.loop-before.shelf
    c.loop-before.growths.items) c.loop-before.invariant.grown

pub returns-in_err-grow_once-clause-goes : goal.returns-in_err-grow_once-clause-goes
returns-in_err-grow_once-clause-goes c = Goes-next c.args.g.now c.args.a.now c.args.b.now c.args.shelf.now c.loop-before.shelf c.requires.tables.is_shelf
    c.args.numbers.now.items
    c.loop-before.numbers.items c.loop-before.invariant.goes c.grow_once.new.shelf c.grow_once.new.numbers.items c.grow_once.ensures.goes

pub returns-in_err-after-clause-goes : goal.returns-in_err-after-clause-goes
returns-in_err-after-clause-goes c = Goes-next c.args.g.now c.args.a.now c.args.b.now c.args.shelf.now c.loop-before.shelf c.requires.tables.is_shelf
    c.args.numbers.now.items
    c.loop-before.numbers.items c.loop-before.invariant.goes c.grow_once.new.shelf c.grow_once.new.numbers.items c.grow_once.ensures.goes

pub returns-then-are_same-clause-goes : goal.returns-then-are_same-clause-goes
returns-then-are_same-clause-goes c = Goes-next c.args.g.now c.args.a.now c.args.b.now c.args.shelf.now c.loop-before.shelf c.requires.tables.is_shelf
    c.args.numbers.now.items
    c.loop-before.numbers.items c.loop-before.invariant.goes c.grow_once.new.shelf c.grow_once.new.numbers.items c.grow_once.ensures.goes

pub returns-in_err-grow_once-clause-limit : goal.returns-in_err-grow_once-clause-limit
returns-in_err-grow_once-clause-limit c = λ stopped. LacksRoom-next c.args.g.now c.args.a.now c.args.b.now c.args.shelf.now c.loop-before.shelf
    c.requires.tables.is_shelf c.args.numbers.now.items
    c.loop-before.numbers.items c.loop-before.invariant.goes c.grow_once.new.numbers.items
    (c.grow_once.ensures.limit (let why = rw stopped at c.from_residual-in_err-grow_once.ensures in c.in_err-grow_once.was ∙ (let is = why.1 in cc)))

pub returns-then-are_same-clause-spaces : goal.returns-then-are_same-clause-spaces
returns-then-are_same-clause-spaces c = both-back c.args.g.now c.args.a.now c.args.b.now c.args.shelf.now c.loop-before.shelf c.requires.tables.is_shelf
    c.args.numbers.now.items
    c.loop-before.numbers.items c.loop-before.invariant.goes
    (λ (AB : Automaton (ℕ × ℕ)). AreSpaces c.args.g.now AB c.grow_once.new.numbers.items) c.in_ok-grow_once.ensures.spaces

pub returns-then-are_same-clause-grown : goal.returns-then-are_same-clause-grown
returns-then-are_same-clause-grown c = both-back c.args.g.now c.args.a.now c.args.b.now c.args.shelf.now c.loop-before.shelf c.requires.tables.is_shelf
    c.args.numbers.now.items
    c.loop-before.numbers.items c.loop-before.invariant.goes
    (λ (AB : Automaton (ℕ × ℕ)). AreGrown c.args.g.now AB c.args.a.now c.args.b.now c.grow_once.new.numbers.items c.grow_once.new.shelf
    c.grow_once.new.growths.items) c.in_ok-grow_once.ensures.grown

pub returns-then-are_same-clause-all : goal.returns-then-are_same-clause-all
returns-then-are_same-clause-all c =
    let before = c.loop-before.numbers.items in
    let after = c.grow_once.new.numbers.items in
    let counted = sym c.in_ok-before.ensures ∙ sym (c.are_same.ensures.0 c.if-are_same.true) ∙ c.in_ok-after.ensures in
    let same : before ≡ after = same-spaces before after c.grow_once.ensures.goes.extends counted in
    subst (λ (spaces : List (List (ℕ × ℕ))). HaveAll c.args.g.now spaces c.grow_once.new.growths.items) same c.in_ok-grow_once.ensures.all

pub loop-before-preserved : goal.loop-before-preserved
loop-before-preserved c = record {
  goes = Goes-next c.args.g.now c.args.a.now c.args.b.now c.args.shelf.now c.loop-before.shelf c.requires.tables.is_shelf c.args.numbers.now.items
      c.loop-before.numbers.items c.loop-before.invariant.goes c.grow_once.new.shelf c.grow_once.new.numbers.items c.grow_once.ensures.goes;
  are = both-back c.args.g.now c.args.a.now c.args.b.now c.args.shelf.now c.loop-before.shelf c.requires.tables.is_shelf c.args.numbers.now.items
      c.loop-before.numbers.items c.loop-before.invariant.goes
      (λ (AB : Automaton (ℕ × ℕ)). AreSpaces c.args.g.now AB c.grow_once.new.numbers.items) c.in_ok-grow_once.ensures.spaces;
  grown = both-back c.args.g.now c.args.a.now c.args.b.now c.args.shelf.now c.loop-before.shelf c.requires.tables.is_shelf c.args.numbers.now.items
      c.loop-before.numbers.items c.loop-before.invariant.goes
      (λ (AB : Automaton (ℕ × ℕ)). AreGrown c.args.g.now AB c.args.a.now c.args.b.now c.grow_once.new.numbers.items c.grow_once.new.shelf
      c.grow_once.new.growths.items) c.in_ok-grow_once.ensures.grown;
  fits = c.in_ok-grow_once.ensures.fits;
}

pub loop-before-smaller : goal.loop-before-smaller
loop-before-smaller c = room-less c.loop-before.numbers.items c.grow_once.new.numbers.items c.grow_once.ensures.goes.extends
    (λ s pairs is. ((c.in_ok-grow_once.ensures.spaces.each s pairs is).numbers).few) (λ same. false≢true (sym c.if-are_same.false ∙ c.are_same.ensures.1
    (c.in_ok-after.ensures ∙ same ∙ sym c.in_ok-before.ensures)))

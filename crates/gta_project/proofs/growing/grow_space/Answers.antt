-- The new rows with all columns, and the earlier rows with the new ones.
use Rattle.std.proofs.Common.{◌≡◌, ◌*◌, ℕ, List, length, Contains, ◌∙◌, ap, subst, arith}
use Rattle.gta_theory.specs.Guides.{left, right}
use Rattle.gta_theory.specs.Automata.{Automaton}
use Rattle.gta_subsets.specs.Subsets.{subsets}
use Rattle.gta_core.specs.Auto.{automaton_of}
use Rattle.gta_project.specs.Building.{AreSpaces}
use Rattle.gta_project.specs.Growing.{AreGenerated}
use Rattle.gta_project.proofs.ShelfLemmas.{IsTableOf-kept}
use Rattle.gta_project.proofs.GrowingLemmas.{on-ok-always, subsets-on, subsets-back, auto-on, initial-on, Goes-next, LacksRoom-next, LacksRoom-cells}
use Rattle.gta_project.proofs.growing.grow_space.Goals as goal

pub returns-then-exceeds-clause-limit : goal.returns-then-exceeds-clause-limit
returns-then-exceeds-clause-limit c = λ stopped.
    let many = c.exceeds.ensures.0 c.if-exceeds.true in
    let cells : c.len.result * c.len-2.result ≡ length c.look_at.new.growth.rows.ones * length c.look_at.new.growth.columns.ones =
    ap (λ (n : ℕ). n * c.len-2.result) c.len.ensures ∙ ap (λ (n : ℕ). length c.look_at.new.growth.rows.ones * n) c.len-2.ensures in
    LacksRoom-cells c.args.g.now (subsets (automaton_of c.args.shelf.now c.args.a.now) c.args.track c.args.initials.now) c.args.a.now c.args.shelf.now
    c.args.space c.requires.inside c.look_at.new.growth c.in_ok-look_at.ensures
    (omega (arith, many, cells, c.limit.ensures.value)) c.args.numbers.now.items c.args.numbers.now.items

pub join_sets-requires-clause-rows : goal.join_sets-requires-clause-rows
join_sets-requires-clause-rows c = λ set there.
    c.in_ok-look_at.ensures.rows set (subst (λ (ps : List (List ℕ)). Contains ps set) c.as_slice.ensures (c.parted.ensures.others set there))

pub join_sets-requires-clause-columns : goal.join_sets-requires-clause-columns
join_sets-requires-clause-columns c = λ set there.
    c.in_ok-look_at.ensures.columns set (subst (λ (ps : List (List ℕ)). Contains ps set) c.as_slice-all.ensures there)

pub join_sets-requires-2-clause-auto : goal.join_sets-requires-2-clause-auto
join_sets-requires-2-clause-auto c = auto-on c.args.g.now c.args.a.now c.args.track c.args.initials.now c.args.shelf.now c.join_sets.new.shelf
    c.requires.table.is_shelf c.args.numbers.now.items c.join_sets.new.numbers.items
    c.join_sets.ensures.goes c.requires.auto

pub join_sets-requires-2-clause-table : goal.join_sets-requires-2-clause-table
join_sets-requires-2-clause-table c =
    let goes = c.join_sets.ensures.goes in
    IsTableOf-kept c.args.shelf.now c.join_sets.new.shelf goes.shelf goes.tables c.args.a.now c.args.table.now c.requires.table

pub join_sets-requires-2-clause-initials : goal.join_sets-requires-2-clause-initials
join_sets-requires-2-clause-initials c = initial-on c.args.g.now c.args.a.now c.args.track c.args.initials.now c.args.shelf.now c.join_sets.new.shelf
    c.requires.table.is_shelf c.args.numbers.now.items c.join_sets.new.numbers.items
    c.join_sets.ensures.goes c.requires.initials

pub join_sets-requires-2-clause-spaces : goal.join_sets-requires-2-clause-spaces
join_sets-requires-2-clause-spaces c = subsets-on c.args.g.now c.args.a.now c.args.track c.args.initials.now c.args.shelf.now c.join_sets.new.shelf
    c.requires.table.is_shelf c.args.numbers.now.items c.join_sets.new.numbers.items
    c.join_sets.ensures.goes
    (λ (Sets : Automaton (List ℕ)). AreSpaces c.args.g.now Sets c.join_sets.new.numbers.items) c.join_sets.ensures.spaces

pub join_sets-requires-2-clause-rows : goal.join_sets-requires-2-clause-rows
join_sets-requires-2-clause-rows c = subsets-on c.args.g.now c.args.a.now c.args.track c.args.initials.now c.args.shelf.now c.join_sets.new.shelf
    c.requires.table.is_shelf c.args.numbers.now.items
    c.join_sets.new.numbers.items c.join_sets.ensures.goes
    (λ (Sets : Automaton (List ℕ)). AreGenerated c.args.g.now Sets (left c.args.g.now c.args.space) c.parted.result.0.now) (λ set there.
    c.in_ok-look_at.ensures.rows set (subst (λ (ps : List (List ℕ)). Contains ps set) c.as_slice.ensures (c.parted.ensures.first set there)))

pub join_sets-requires-2-clause-columns : goal.join_sets-requires-2-clause-columns
join_sets-requires-2-clause-columns c = subsets-on c.args.g.now c.args.a.now c.args.track c.args.initials.now c.args.shelf.now c.join_sets.new.shelf
    c.requires.table.is_shelf c.args.numbers.now.items
    c.join_sets.new.numbers.items c.join_sets.ensures.goes
    (λ (Sets : Automaton (List ℕ)). AreGenerated c.args.g.now Sets (right c.args.g.now c.args.space) c.parted-2.result.1.now) (λ set there.
    c.in_ok-look_at.ensures.columns set (subst (λ (ps : List (List ℕ)). Contains ps set) c.as_slice-all.ensures
    (c.parted-2.ensures.others set there)))

pub returns-clause-goes : goal.returns-clause-goes
returns-clause-goes c = Goes-next c.args.g.now c.args.a.now c.args.track c.args.initials.now c.args.shelf.now c.join_sets.new.shelf
    c.requires.table.is_shelf c.args.numbers.now.items
    c.join_sets.new.numbers.items c.join_sets.ensures.goes c.join_sets-2.new.shelf c.join_sets-2.new.numbers.items c.join_sets-2.ensures.goes

pub returns-clause-limit : goal.returns-clause-limit
returns-clause-limit c = λ stopped. LacksRoom-next c.args.g.now c.args.a.now c.args.track c.args.initials.now c.args.shelf.now c.join_sets.new.shelf
    c.requires.table.is_shelf c.args.numbers.now.items
    c.join_sets.new.numbers.items c.join_sets.ensures.goes c.join_sets-2.new.numbers.items (c.join_sets-2.ensures.limit stopped)

pub returns-clause-spaces : goal.returns-clause-spaces
returns-clause-spaces c = on-ok-always c.join_sets-2.result (subsets-back c.args.g.now c.args.a.now c.args.track c.args.initials.now c.args.shelf.now
    c.join_sets.new.shelf c.requires.table.is_shelf c.args.numbers.now.items
    c.join_sets.new.numbers.items c.join_sets.ensures.goes
    (λ (Sets : Automaton (List ℕ)). AreSpaces c.args.g.now Sets c.join_sets-2.new.numbers.items) c.join_sets-2.ensures.spaces)

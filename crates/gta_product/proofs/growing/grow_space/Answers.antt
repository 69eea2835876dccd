-- The new rows with all columns, and then the earlier rows with the new ones.
use Rattle.std.proofs.Common.{◌≡◌, ◌*◌, ℕ, length, ◌∙◌, ap, arith}
use Rattle.gta_theory.specs.Guides.{left, right}
use Rattle.gta_theory.specs.Automata.{Automaton}
use Rattle.gta_theory.specs.Constructions.{pairs}
use Rattle.gta_core.specs.Auto.{automaton_of}
use Rattle.gta_product.specs.Building.{AreSpaces}
use Rattle.gta_product.specs.Growing.{AreGenerated, HasRows}
use Rattle.gta_product.proofs.GrowingLemmas.{on-ok, on-ok-always, both-on, both-back, auto-on, Goes-next, LacksRoom-next}
use Rattle.gta_product.proofs.SameLemmas.{ExtendAll-trans}
use Rattle.gta_product.proofs.GrownLemmas.{HasSeen-kept, HasRows-any, LacksRoom-cells}
use Rattle.gta_product.proofs.TablesLemmas.{AreTables-kept}
use Rattle.gta_product.proofs.growing.grow_space.Goals as goal

pub returns-then-exceeds-clause-limit : goal.returns-then-exceeds-clause-limit
returns-then-exceeds-clause-limit c = λ stopped.
    let many = c.exceeds.ensures.0 c.if-exceeds.true in
    let cells : c.len.result * c.len-2.result ≡ length c.look_at.new.growth.rows.ones * length c.look_at.new.growth.columns.ones =
    ap (λ (n : ℕ). n * c.len-2.result) c.len.ensures ∙ ap (λ (n : ℕ). length c.look_at.new.growth.rows.ones * n) c.len-2.ensures in
    LacksRoom-cells c.args.g.now c.args.shelf.now c.args.a.now c.args.b.now c.look_at.ensures.guide c.requires.first c.requires.second
    c.args.numbers.now.items c.requires.spaces c.args.space c.requires.inside c.look_at.new.growth.rows c.look_at.new.growth.columns
    c.in_ok-look_at.ensures.seen (omega (arith, many, cells, c.requires.tables.limit)) c.args.numbers.now.items c.args.numbers.now.items

pub join_rows-requires-clause-rows : goal.join_rows-requires-clause-rows
join_rows-requires-clause-rows c = c.in_ok-look_at.ensures.seen.row_ones

pub join_rows-requires-clause-columns : goal.join_rows-requires-clause-columns
join_rows-requires-clause-columns c = c.in_ok-look_at.ensures.seen.column_ones

pub join_rows-requires-clause-cells : goal.join_rows-requires-clause-cells
join_rows-requires-clause-cells c = c.in_ok-look_at.ensures.rows

pub join_rows-requires-2-clause-first : goal.join_rows-requires-2-clause-first
join_rows-requires-2-clause-first c = auto-on c.args.g.now c.args.a.now c.args.b.now c.args.shelf.now c.join_rows.new.shelf c.requires.tables.is_shelf
    c.args.numbers.now.items c.join_rows.new.numbers.items c.join_rows.ensures.goes c.args.a.now c.requires.first

pub join_rows-requires-2-clause-second : goal.join_rows-requires-2-clause-second
join_rows-requires-2-clause-second c = auto-on c.args.g.now c.args.a.now c.args.b.now c.args.shelf.now c.join_rows.new.shelf c.requires.tables.is_shelf
    c.args.numbers.now.items c.join_rows.new.numbers.items c.join_rows.ensures.goes c.args.b.now c.requires.second

pub join_rows-requires-2-clause-tables : goal.join_rows-requires-2-clause-tables
join_rows-requires-2-clause-tables c =
    let goes = c.join_rows.ensures.goes in
    AreTables-kept c.args.shelf.now c.join_rows.new.shelf goes.shelf goes.same_limit goes.tables
    c.args.a.now c.args.b.now c.args.tables.now c.requires.tables

pub join_rows-requires-2-clause-spaces : goal.join_rows-requires-2-clause-spaces
join_rows-requires-2-clause-spaces c = both-on c.args.g.now c.args.a.now c.args.b.now c.args.shelf.now c.join_rows.new.shelf c.requires.tables.is_shelf
    c.args.numbers.now.items c.join_rows.new.numbers.items c.join_rows.ensures.goes
    (λ (AB : Automaton (ℕ × ℕ)). AreSpaces c.args.g.now AB c.join_rows.new.numbers.items) c.join_rows.ensures.spaces

pub join_rows-requires-2-clause-rows : goal.join_rows-requires-2-clause-rows
join_rows-requires-2-clause-rows c = both-on c.args.g.now c.args.a.now c.args.b.now c.args.shelf.now c.join_rows.new.shelf c.requires.tables.is_shelf
    c.args.numbers.now.items c.join_rows.new.numbers.items c.join_rows.ensures.goes
    (λ (AB : Automaton (ℕ × ℕ)). AreGenerated c.args.g.now AB (left c.args.g.now c.args.space) c.look_at.new.growth.rows.ones)
    c.in_ok-look_at.ensures.seen.row_ones

pub join_rows-requires-2-clause-columns : goal.join_rows-requires-2-clause-columns
join_rows-requires-2-clause-columns c = both-on c.args.g.now c.args.a.now c.args.b.now c.args.shelf.now c.join_rows.new.shelf c.requires.tables.is_shelf
    c.args.numbers.now.items c.join_rows.new.numbers.items c.join_rows.ensures.goes
    (λ (AB : Automaton (ℕ × ℕ)). AreGenerated c.args.g.now AB (right c.args.g.now c.args.space) c.look_at.new.growth.columns.ones)
    c.in_ok-look_at.ensures.seen.column_ones

pub join_rows-requires-2-clause-cells : goal.join_rows-requires-2-clause-cells
join_rows-requires-2-clause-cells c =
    let growth = c.look_at.new.growth in
    let numbers = c.join_rows.new.numbers.items in
    let AB = pairs (automaton_of c.args.shelf.now c.args.a.now) (automaton_of c.args.shelf.now c.args.b.now) in
    both-on c.args.g.now c.args.a.now c.args.b.now c.args.shelf.now c.join_rows.new.shelf c.requires.tables.is_shelf
    c.args.numbers.now.items numbers c.join_rows.ensures.goes
    (λ (AB : Automaton (ℕ × ℕ)). HasRows AB numbers c.join_rows.new.shelf c.args.space growth.rows.ones growth.columns.ones (length growth.rows.ones)
    c.join_rows.new.cells.items)
    (HasRows-any AB numbers c.join_rows.new.shelf c.args.space growth.rows.ones growth.columns.ones c.len-earlier.result c.join_rows.new.cells.items
    c.in_ok-join_rows.ensures.cells)

pub returns-clause-goes : goal.returns-clause-goes
returns-clause-goes c = Goes-next c.args.g.now c.args.a.now c.args.b.now c.args.shelf.now c.join_rows.new.shelf c.requires.tables.is_shelf
    c.args.numbers.now.items c.join_rows.new.numbers.items c.join_rows.ensures.goes c.join_rows-2.new.shelf c.join_rows-2.new.numbers.items
    c.join_rows-2.ensures.goes

pub returns-clause-limit : goal.returns-clause-limit
returns-clause-limit c = λ stopped. LacksRoom-next c.args.g.now c.args.a.now c.args.b.now c.args.shelf.now c.join_rows.new.shelf
    c.requires.tables.is_shelf c.args.numbers.now.items c.join_rows.new.numbers.items c.join_rows.ensures.goes c.join_rows-2.new.numbers.items
    (c.join_rows-2.ensures.limit stopped)

pub returns-clause-spaces : goal.returns-clause-spaces
returns-clause-spaces c = on-ok-always c.join_rows-2.result (both-back c.args.g.now c.args.a.now c.args.b.now c.args.shelf.now
    c.join_rows.new.shelf c.requires.tables.is_shelf c.args.numbers.now.items c.join_rows.new.numbers.items c.join_rows.ensures.goes
    (λ (AB : Automaton (ℕ × ℕ)). AreSpaces c.args.g.now AB c.join_rows-2.new.numbers.items) c.join_rows-2.ensures.spaces)

pub returns-clause-grown : goal.returns-clause-grown
returns-clause-grown c =
    let g = c.args.g.now in
    let a = c.args.a.now in
    let b = c.args.b.now in
    let s = c.args.space in
    let growth = c.look_at.new.growth in
    let first = c.args.numbers.now.items in
    let between = c.join_rows.new.numbers.items in
    let last = c.join_rows-2.new.numbers.items in
    let AB = pairs (automaton_of c.args.shelf.now a) (automaton_of c.args.shelf.now b) in
    let middle = pairs (automaton_of c.join_rows.new.shelf a) (automaton_of c.join_rows.new.shelf b) in
    let extends = ExtendAll-trans first between last c.join_rows.ensures.goes.extends c.join_rows-2.ensures.goes.extends in
    on-ok c.join_rows-2.result (λ (cells : HasRows middle last c.join_rows-2.new.shelf s growth.rows.ones growth.columns.ones 0
    c.join_rows-2.new.cells.items). record {
      seen = HasSeen-kept g AB a b first last extends s growth.rows growth.columns c.in_ok-look_at.ensures.seen;
      rows = both-back g a b c.args.shelf.now c.join_rows.new.shelf c.requires.tables.is_shelf first between c.join_rows.ensures.goes
          (λ (AB : Automaton (ℕ × ℕ)). HasRows AB last c.join_rows-2.new.shelf s growth.rows.ones growth.columns.ones 0 c.join_rows-2.new.cells.items) cells;
    }) c.join_rows-2.ensures.cells

pub returns-clause-all : goal.returns-clause-all
returns-clause-all c = on-ok-always c.join_rows-2.result c.in_ok-look_at.ensures.all

-- A row is joined with one more column after the other.
use Rattle.std.proofs.Common.{ℕ, List, Option, [], ◌∷◌, get_or, slice_get, length, length-append, IsSome, sym, ◌∙◌, ap, subst, arith}
use Rattle.std.proofs.lemmas.List.Elements.{Contains-get_or}
use Rattle.std.proofs.lemmas.Option.{slice_get-get_or}
use Rattle.bdd_nodes.specs.declared.node_ref.NodeRef.{NodeRef}
use Rattle.gta_theory.specs.Automata.{Automaton}
use Rattle.gta_theory.specs.Constructions.{pairs}
use Rattle.gta_core.specs.Auto.{automaton_of}
use Rattle.gta_product.specs.Filling.{IsCell, IsRow}
use Rattle.gta_product.proofs.ShelfLemmas.{root_at-kept}
use Rattle.gta_product.proofs.JoinsLemmas.{Joins-none}
use Rattle.gta_product.proofs.RowsLemmas.{IsRow-more}
use Rattle.gta_product.proofs.NextLemmas.{same-both, Joins-next, ExceedsCells-next, in-alone}
use Rattle.gta_product.proofs.TablesLemmas.{AreTables-kept}
use Rattle.gta_product.proofs.filling.fill_row.Goals as goal

pub join_cell-requires-clause-first : goal.join_cell-requires-clause-first
join_cell-requires-clause-first c =
    let i = c.loop-k.k in
    let column = get_or c.args.columns.now i (0, 0) in
    let joins = c.loop-k.invariant.joins in
    subst (λ (o : Option NodeRef). IsSome o)
    (sym (root_at-kept c.args.shelf.now c.loop-k.shelf c.requires.tables.is_shelf joins.keeps joins.tables
    c.args.a.now c.args.space (c.args.row).0 column.0))
    (c.requires.first column (Contains-get_or c.args.columns.now i (0, 0) (omega (arith, c.loop-k-test.true))))

pub join_cell-requires-clause-second : goal.join_cell-requires-clause-second
join_cell-requires-clause-second c =
    let i = c.loop-k.k in
    let column = get_or c.args.columns.now i (0, 0) in
    let joins = c.loop-k.invariant.joins in
    subst (λ (o : Option NodeRef). IsSome o)
    (sym (root_at-kept c.args.shelf.now c.loop-k.shelf c.requires.tables.is_shelf joins.keeps joins.tables
    c.args.b.now c.args.space (c.args.row).1 column.1))
    (c.requires.second column (Contains-get_or c.args.columns.now i (0, 0) (omega (arith, c.loop-k-test.true))))

pub join_cell-requires-clause-tables : goal.join_cell-requires-clause-tables
join_cell-requires-clause-tables c =
    let done = c.loop-k.invariant.joins in
    AreTables-kept c.args.shelf.now c.loop-k.shelf done.shelf done.same_limit done.tables
    c.args.a.now c.args.b.now c.args.tables.now c.requires.tables

pub returns-in_err-root-clause-joins : goal.returns-in_err-root-clause-joins
returns-in_err-root-clause-joins c =
    let i = c.loop-k.k in
    let column = get_or c.args.columns.now i (0, 0) in
    Joins-next c.args.a.now c.args.b.now c.args.space (c.args.row ∷ []) c.args.columns.now (c.args.row ∷ []) (column ∷ [])
    (λ x there. there) (in-alone c.args.columns.now column (Contains-get_or c.args.columns.now i (0, 0) (omega (arith, c.loop-k-test.true))))
    c.args.shelf.now c.loop-k.shelf c.join_cell.new.shelf c.args.numbers.now c.loop-k.numbers c.join_cell.new.numbers c.requires.tables.is_shelf
    c.loop-k.invariant.joins c.join_cell.ensures.numbers c.join_cell.ensures.joins

pub returns-in_err-root-clause-limit : goal.returns-in_err-root-clause-limit
returns-in_err-root-clause-limit c = λ stopped given completes.
    let i = c.loop-k.k in
    let column = get_or c.args.columns.now i (0, 0) in
    ExceedsCells-next c.args.a.now c.args.b.now c.args.space (c.args.row ∷ []) c.args.columns.now (c.args.row ∷ []) (column ∷ [])
    (λ x there. there) (in-alone c.args.columns.now column (Contains-get_or c.args.columns.now i (0, 0) (omega (arith, c.loop-k-test.true))))
    c.args.shelf.now c.loop-k.shelf c.join_cell.new.shelf c.args.numbers.now c.loop-k.numbers c.join_cell.new.numbers c.requires.tables.is_shelf
    c.loop-k.invariant.joins c.join_cell.ensures.numbers c.join_cell.ensures.joins given completes
    (c.join_cell.ensures.limit (let why = rw stopped at c.from_residual.ensures in c.in_err-root.was ∙ (let is = why.1 in cc)) given completes)

pub returns-in_err-push-clause-joins : goal.returns-in_err-push-clause-joins
returns-in_err-push-clause-joins c =
    let i = c.loop-k.k in
    let column = get_or c.args.columns.now i (0, 0) in
    Joins-next c.args.a.now c.args.b.now c.args.space (c.args.row ∷ []) c.args.columns.now (c.args.row ∷ []) (column ∷ [])
    (λ x there. there) (in-alone c.args.columns.now column (Contains-get_or c.args.columns.now i (0, 0) (omega (arith, c.loop-k-test.true))))
    c.args.shelf.now c.loop-k.shelf c.join_cell.new.shelf c.args.numbers.now c.loop-k.numbers c.join_cell.new.numbers c.requires.tables.is_shelf
    c.loop-k.invariant.joins c.join_cell.ensures.numbers c.join_cell.ensures.joins

pub loop-k-init : goal.loop-k-init
loop-k-init c = record {
  at = c.len-k.ensures;
  joins = Joins-none (pairs (automaton_of c.args.shelf.now c.args.a.now) (automaton_of c.args.shelf.now c.args.b.now)) c.args.space
      (c.args.row ∷ []) c.args.columns.now c.args.shelf.now c.args.numbers.now c.requires.tables.is_shelf;
  row = c.requires.row;
  fits = c.requires.fits;
  numbers = c.requires.numbers;
}

pub loop-k-preserved : goal.loop-k-preserved
loop-k-preserved c =
    let k = c.loop-k.k in
    let columns = c.args.columns.now in
    let column = get_or columns k (0, 0) in
    let invariant = c.loop-k.invariant in
    let both = pairs (automaton_of c.args.shelf.now c.args.a.now) (automaton_of c.args.shelf.now c.args.b.now) in
    let in_columns = in-alone columns column (Contains-get_or columns k (0, 0) (omega (arith, c.loop-k-test.true))) in
    let step = c.join_cell.ensures.joins in
    let same = same-both c.args.a.now c.args.b.now c.args.space (c.args.row ∷ []) columns (c.args.row ∷ []) (column ∷ []) (λ x there. there) in_columns
    c.args.shelf.now c.loop-k.shelf c.join_cell.new.shelf c.args.numbers.now c.loop-k.numbers c.join_cell.new.numbers c.requires.tables.is_shelf
    invariant.joins c.join_cell.ensures.numbers in
    let cell = subst (λ (AB : Automaton (ℕ × ℕ)). IsCell AB c.args.space c.join_cell.new.numbers c.args.row column c.join_cell.new.shelf c.in_ok-root.root)
    same c.in_ok-root.ensures.cell in
    let there = ap (slice_get columns) (sym invariant.at) ∙ slice_get-get_or columns k (0, 0) (omega (arith, c.loop-k-test.true)) in
    let row = IsRow-more both c.args.space c.args.row columns column c.loop-k.numbers c.join_cell.new.numbers c.loop-k.shelf c.join_cell.new.shelf
    c.loop-k.roots c.in_ok-root.root step.keeps c.join_cell.ensures.numbers step.extends there invariant.row cell in
    let added = ap (λ (roots : List NodeRef). length roots) c.in_ok-push.ensures.ok in
    let long = length-append c.loop-k.roots (c.in_ok-root.root ∷ []) in
    record {
      at = omega (arith, invariant.at, added, long);
      joins = Joins-next c.args.a.now c.args.b.now c.args.space (c.args.row ∷ []) columns (c.args.row ∷ []) (column ∷ []) (λ x there. there) in_columns
          c.args.shelf.now c.loop-k.shelf c.join_cell.new.shelf c.args.numbers.now c.loop-k.numbers c.join_cell.new.numbers c.requires.tables.is_shelf
          invariant.joins c.join_cell.ensures.numbers step;
      row = subst (λ (roots : List NodeRef). IsRow both c.args.space c.args.row columns c.join_cell.new.numbers c.join_cell.new.shelf roots)
          (sym c.in_ok-push.ensures.ok) row;
      fits = c.in_ok-root.ensures.fits;
      numbers = c.join_cell.ensures.numbers;
    }

pub returns-clause-full : goal.returns-clause-full
returns-clause-full c = let invariant = c.loop-k.invariant in omega (arith, invariant.at, invariant.row.few)

-- One row after the other.
use Rattle.std.proofs.Common.{◌≡◌, ◌<◌, ◌≤◌, ◌+◌, ℕ, List, Option, Some, [], ◌∷◌, get_or, slice_get, length, IsSome, sym, ◌∙◌, ap, subst, inl, inr, arith}
use Rattle.std.specs.Prelude.{slice_set}
use Rattle.std.proofs.lemmas.Bool.{cases_lt}
use Rattle.std.proofs.lemmas.Bool.Decides.{eqb_tells}
use Rattle.std.proofs.lemmas.List.Elements.{Contains-get_or}
use Rattle.std.proofs.lemmas.Option.{slice_get-get_or, slice_get_within}
use Rattle.bdd_nodes.specs.declared.node_ref.NodeRef.{NodeRef}
use Rattle.gta_theory.specs.Automata.{Automaton}
use Rattle.gta_theory.specs.Constructions.{pairs}
use Rattle.gta_core.specs.Auto.{automaton_of}
use Rattle.gta_product.specs.Filling.{IsRow}
use Rattle.gta_product.proofs.ShelfLemmas.{both-kept, root_at-kept}
use Rattle.gta_product.proofs.JoinsLemmas.{Joins-none}
use Rattle.gta_product.proofs.RowsLemmas.{AreRows-set}
use Rattle.gta_product.proofs.PartLemmas.{get-at, get-set, get-set_other}
use Rattle.gta_product.proofs.NextLemmas.{same-both, Joins-next, ExceedsCells-next, in-alone}
use Rattle.gta_product.proofs.TablesLemmas.{AreTables-kept}
use Rattle.gta_product.proofs.filling.fill.Goals as goal

same_roots : (a b : List NodeRef) → ◌≡◌ {A = Option (List NodeRef)} (Some a) (Some b) → a ≡ b
same_roots a b e = cc

-- one row more is full
full-more : (cells : List (List NodeRef)) (from index width : ℕ) (made : List NodeRef) → index < length cells → length made ≡ width →
    ((i : ℕ) (roots : List NodeRef) → slice_get cells i ≡ Some roots → from ≤ i → i < index → length roots ≡ width) →
    (i : ℕ) (roots : List NodeRef) → slice_get (slice_set cells index made) i ≡ Some roots → from ≤ i → i < index + 1 → length roots ≡ width
full-more cells from index width made within long before i roots there later below = elim (eqb_tells i index) [
  | inl same ↦
      let is = same_roots made roots (sym (get-set cells index made within) ∙ ap (slice_get (slice_set cells index made)) (sym same.1) ∙ there) in
      subst (λ (rs : List NodeRef). length rs ≡ width) is long
  | inr apart ↦ before i roots (sym (get-set_other cells index i made apart.1) ∙ there) later (below-last i index below apart.1)
]
  where
    below-last : (i index : ℕ) → i < index + 1 → (i ≡ index → ⊥) → i < index
    below-last i index below apart = elim (cases_lt i index) [ inl less ↦ less | inr not ↦ absurd (apart (omega arith)) ]

pub loop-index-init : goal.loop-index-init
loop-index-init c = record {
  joins = Joins-none (pairs (automaton_of c.args.shelf.now c.args.a.now) (automaton_of c.args.shelf.now c.args.b.now)) c.args.space
      c.args.rows.now c.args.columns.now c.args.shelf.now c.args.numbers.now c.requires.tables.is_shelf;
  rows = c.requires.rows;
  full = λ i roots there later below. absurd (omega (arith, later, below));
  fits = c.requires.fits;
  numbers = c.requires.numbers;
}

pub fill_row-requires-clause-first : goal.fill_row-requires-clause-first
fill_row-requires-clause-first c = λ column there.
    let i = c.loop-index.index in
    let row = get_or c.args.rows.now i (0, 0) in
    let joins = c.loop-index.invariant.joins in
    subst (λ (o : Option NodeRef). IsSome o)
    (sym (root_at-kept c.args.shelf.now c.loop-index.shelf c.requires.tables.is_shelf joins.keeps joins.tables c.args.a.now c.args.space row.0 column.0))
    (c.requires.first row column (Contains-get_or c.args.rows.now i (0, 0) (omega (arith, c.loop-index-test.true))) there)

pub fill_row-requires-clause-second : goal.fill_row-requires-clause-second
fill_row-requires-clause-second c = λ column there.
    let i = c.loop-index.index in
    let row = get_or c.args.rows.now i (0, 0) in
    let joins = c.loop-index.invariant.joins in
    subst (λ (o : Option NodeRef). IsSome o)
    (sym (root_at-kept c.args.shelf.now c.loop-index.shelf c.requires.tables.is_shelf joins.keeps joins.tables c.args.b.now c.args.space row.1 column.1))
    (c.requires.second row column (Contains-get_or c.args.rows.now i (0, 0) (omega (arith, c.loop-index-test.true))) there)

pub fill_row-requires-clause-tables : goal.fill_row-requires-clause-tables
fill_row-requires-clause-tables c =
    let done = c.loop-index.invariant.joins in
    AreTables-kept c.args.shelf.now c.loop-index.shelf done.shelf done.same_limit done.tables
    c.args.a.now c.args.b.now c.args.tables.now c.requires.tables

pub returns-in_err-fill_row-clause-joins : goal.returns-in_err-fill_row-clause-joins
returns-in_err-fill_row-clause-joins c =
    let i = c.loop-index.index in
    let row = get_or c.args.rows.now i (0, 0) in
    Joins-next c.args.a.now c.args.b.now c.args.space c.args.rows.now c.args.columns.now (row ∷ []) c.args.columns.now
    (in-alone c.args.rows.now row (Contains-get_or c.args.rows.now i (0, 0) (omega (arith, c.loop-index-test.true)))) (λ x there. there)
    c.args.shelf.now c.loop-index.shelf c.fill_row.new.shelf c.args.numbers.now c.loop-index.numbers c.fill_row.new.numbers c.requires.tables.is_shelf
    c.loop-index.invariant.joins c.fill_row.ensures.numbers c.fill_row.ensures.joins

pub returns-in_err-fill_row-clause-limit : goal.returns-in_err-fill_row-clause-limit
returns-in_err-fill_row-clause-limit c = λ stopped given completes.
    let i = c.loop-index.index in
    let row = get_or c.args.rows.now i (0, 0) in
    ExceedsCells-next c.args.a.now c.args.b.now c.args.space c.args.rows.now c.args.columns.now (row ∷ []) c.args.columns.now
    (in-alone c.args.rows.now row (Contains-get_or c.args.rows.now i (0, 0) (omega (arith, c.loop-index-test.true)))) (λ x there. there)
    c.args.shelf.now c.loop-index.shelf c.fill_row.new.shelf c.args.numbers.now c.loop-index.numbers c.fill_row.new.numbers c.requires.tables.is_shelf
    c.loop-index.invariant.joins c.fill_row.ensures.numbers c.fill_row.ensures.joins given completes
    (c.fill_row.ensures.limit (let why = rw stopped at c.from_residual.ensures in c.in_err-fill_row.was ∙ (let is = why.1 in cc)) given completes)

pub fill_row-requires-clause-row : goal.fill_row-requires-clause-row
fill_row-requires-clause-row c =
    let index = c.loop-index.index in
    let rows = c.args.rows.now in
    let cells = c.loop-index.cells.items in
    let invariant = c.loop-index.invariant in
    let within : index < length cells = omega (arith, invariant.rows.many, c.loop-index-test.true) in
    let joins = invariant.joins in
    subst (λ (AB : Automaton (ℕ × ℕ)). IsRow AB c.args.space (get_or rows index (0, 0)) c.args.columns.now c.loop-index.numbers c.loop-index.shelf
    c.index_mut-roots.result.now) (sym (both-kept c.args.shelf.now c.loop-index.shelf c.requires.tables.is_shelf joins.keeps joins.tables
    c.args.a.now c.args.b.now))
    (invariant.rows.each index (get_or rows index (0, 0)) c.index_mut-roots.result.now
    (slice_get-get_or rows index (0, 0) (omega (arith, c.loop-index-test.true)))
    (get-at cells index c.index_mut-roots.result.now within c.index_mut-roots.ensures.value))

pub loop-index-preserved : goal.loop-index-preserved
loop-index-preserved c =
    let index = c.loop-index.index in
    let rows = c.args.rows.now in
    let columns = c.args.columns.now in
    let row = get_or rows index (0, 0) in
    let invariant = c.loop-index.invariant in
    let both = pairs (automaton_of c.args.shelf.now c.args.a.now) (automaton_of c.args.shelf.now c.args.b.now) in
    let in_rows = in-alone rows row (Contains-get_or rows index (0, 0) (omega (arith, c.loop-index-test.true))) in
    let step = c.fill_row.ensures.joins in
    let same = same-both c.args.a.now c.args.b.now c.args.space rows columns (row ∷ []) columns in_rows (λ x there. there)
    c.args.shelf.now c.loop-index.shelf c.fill_row.new.shelf c.args.numbers.now c.loop-index.numbers c.fill_row.new.numbers c.requires.tables.is_shelf
    invariant.joins c.fill_row.ensures.numbers in
    let is = subst (λ (AB : Automaton (ℕ × ℕ)). IsRow AB c.args.space row columns c.fill_row.new.numbers c.fill_row.new.shelf c.fill_row.new.roots)
    same c.in_ok-fill_row.ensures.row in
    let within : index < length c.loop-index.cells.items = omega (arith, invariant.rows.many, c.loop-index-test.true) in
    record {
      joins = Joins-next c.args.a.now c.args.b.now c.args.space rows columns (row ∷ []) columns in_rows (λ x there. there)
          c.args.shelf.now c.loop-index.shelf c.fill_row.new.shelf c.args.numbers.now c.loop-index.numbers c.fill_row.new.numbers
          c.requires.tables.is_shelf invariant.joins c.fill_row.ensures.numbers step;
      rows = AreRows-set both c.args.space rows columns (length rows) c.loop-index.numbers c.fill_row.new.numbers c.loop-index.shelf c.fill_row.new.shelf
          c.loop-index.cells.items step.keeps c.fill_row.ensures.numbers step.extends invariant.rows index row c.fill_row.new.roots within
          (slice_get-get_or rows index (0, 0) (omega (arith, c.loop-index-test.true))) is;
      full = full-more c.loop-index.cells.items c.args.from index (length columns) c.fill_row.new.roots within c.in_ok-fill_row.ensures.full
          invariant.full;
      fits = c.in_ok-fill_row.ensures.fits;
      numbers = c.fill_row.ensures.numbers;
    }

pub returns-clause-rows : goal.returns-clause-rows
returns-clause-rows c =
    let invariant = c.loop-index.invariant in
    record {
      many = invariant.rows.many;
      each = invariant.rows.each;
      full = λ i roots there later. invariant.full i roots there later
          (omega (arith, invariant.rows.many, slice_get_within c.loop-index.cells.items i roots there));
    }

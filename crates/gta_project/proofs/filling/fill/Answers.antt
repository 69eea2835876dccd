-- One row after the other.
use Rattle.std.proofs.Common.{◌≡◌, ◌++◌, Contains, ap, ℕ, List, Option, [], ◌∷◌, take, get_or, IsSome, sym, ◌∙◌, subst, arith}
use Rattle.std.proofs.lemmas.List.{take_more}
use Rattle.bdd_nodes.specs.declared.node_ref.NodeRef.{NodeRef}
use Rattle.gta_subsets.specs.Subsets.{set_step}
use Rattle.gta_core.specs.Auto.{automaton_of}
use Rattle.gta_subsets.specs.Classes.{HaveClasses}
use Rattle.gta_subsets.specs.Shorts.{rows_in, columns_in, AreShorts}
use Rattle.gta_project.specs.Filling.{Stepping, IsRow, AreCells}
use Rattle.gta_project.proofs.ShelfLemmas.{root_at-kept, IsTableOf-kept}
use Rattle.gta_project.proofs.JoinsLemmas.{Joins-none, AreCells-more}
use Rattle.gta_project.proofs.NextLemmas.{same-step, Joins-next, ExceedsCells-next, in-alone}
use Rattle.gta_project.proofs.filling.fill.Goals as goal

pub returns-in_err-shorts-clause-joins : goal.returns-in_err-shorts-clause-joins
returns-in_err-shorts-clause-joins c = Joins-none (set_step (automaton_of c.args.shelf.now c.args.a.now) c.args.track) c.args.space c.args.rows.now
    c.args.columns.now c.args.shelf.now c.args.numbers.now c.requires.table.is_shelf

pub fill_row-requires-clause-table : goal.fill_row-requires-clause-table
fill_row-requires-clause-table c =
    let joins = c.loop-row.invariant.joins in
    IsTableOf-kept c.args.shelf.now c.loop-row.shelf joins.shelf joins.tables c.args.a.now c.args.table.now c.requires.table

pub fill_row-requires-clause-short : goal.fill_row-requires-clause-short
fill_row-requires-clause-short c =
    subst (λ (xs : List ℕ). HaveClasses (rows_in c.args.a.now c.args.space) c.as_slice-row.result.now xs) (sym c.as_slice.ensures)
    (subst (λ (classes : List ℕ). HaveClasses classes c.as_slice-row.result.now c.in_ok-short.short) c.classes_in.ensures.rows c.in_ok-short.ensures.classes)

pub fill_row-requires-clause-shorts : goal.fill_row-requires-clause-shorts
fill_row-requires-clause-shorts c =
    subst (λ (xs : List (List ℕ)). AreShorts (columns_in c.args.a.now c.args.space) c.args.columns.now xs) (sym c.as_slice-in-loop-row.ensures)
    (subst (λ (classes : List ℕ). AreShorts classes c.args.columns.now c.in_ok-shorts.shorts) c.classes_in.ensures.columns c.in_ok-shorts.ensures)

pub fill_row-requires-clause-known : goal.fill_row-requires-clause-known
fill_row-requires-clause-known c = λ column in_columns l r in_l in_r.
    let i = c.loop-row.row-index in
    let row = c.as_slice-row.result.now in
    let is : row ≡ get_or c.args.rows.now i row = c.as_slice-row.ensures ∙ c.row-item.is ∙ ap (get_or c.args.rows.now i) (sym c.as_slice-row.ensures) in
    let there : Contains c.args.rows.now row = (i, omega arith, sym is) in
    let joins = c.loop-row.invariant.joins in
    subst (λ (o : Option NodeRef). IsSome o)
    (sym (root_at-kept c.args.shelf.now c.loop-row.shelf c.requires.table.is_shelf joins.keeps joins.tables c.args.a.now c.args.space l r))
    (c.requires.known row column there in_columns l r in_l in_r)

pub returns-in_err-fill_row-clause-joins : goal.returns-in_err-fill_row-clause-joins
returns-in_err-fill_row-clause-joins c =
    let i = c.loop-row.row-index in
    let row = c.as_slice-row.result.now in
    let is : row ≡ get_or c.args.rows.now i row = c.as_slice-row.ensures ∙ c.row-item.is ∙ ap (get_or c.args.rows.now i) (sym c.as_slice-row.ensures) in
    let there : Contains c.args.rows.now row = (i, omega arith, sym is) in
    Joins-next c.args.a.now c.args.track c.args.space c.args.rows.now c.args.columns.now (row ∷ []) c.args.columns.now
    (in-alone c.args.rows.now row there) (λ x there. there)
    c.args.shelf.now c.loop-row.shelf c.fill_row.new.shelf c.args.numbers.now c.loop-row.numbers c.fill_row.new.numbers c.requires.table.is_shelf
    c.loop-row.invariant.joins c.fill_row.ensures.numbers c.fill_row.ensures.joins

pub returns-in_err-fill_row-clause-limit : goal.returns-in_err-fill_row-clause-limit
returns-in_err-fill_row-clause-limit c = λ stopped given completes.
    let i = c.loop-row.row-index in
    let row = c.as_slice-row.result.now in
    let is : row ≡ get_or c.args.rows.now i row = c.as_slice-row.ensures ∙ c.row-item.is ∙ ap (get_or c.args.rows.now i) (sym c.as_slice-row.ensures) in
    let there : Contains c.args.rows.now row = (i, omega arith, sym is) in
    ExceedsCells-next c.args.a.now c.args.track c.args.space c.args.rows.now c.args.columns.now (row ∷ []) c.args.columns.now
    (in-alone c.args.rows.now row there) (λ x there. there)
    c.args.shelf.now c.loop-row.shelf c.fill_row.new.shelf c.args.numbers.now c.loop-row.numbers c.fill_row.new.numbers c.requires.table.is_shelf
    c.loop-row.invariant.joins c.fill_row.ensures.numbers c.fill_row.ensures.joins given completes
    (c.fill_row.ensures.limit (let why = rw stopped at c.from_residual-in_err-fill_row.ensures in c.in_err-fill_row.was ∙ (let is = why.1 in cc)) given
    completes)

pub loop-row-preserved : goal.loop-row-preserved
loop-row-preserved c =
    let i = c.loop-row.row-index in
    let rows = c.args.rows.now in
    let columns = c.args.columns.now in
    let row = c.as_slice-row.result.now in
    let is : row ≡ get_or c.args.rows.now i row = c.as_slice-row.ensures ∙ c.row-item.is ∙ ap (get_or c.args.rows.now i) (sym c.as_slice-row.ensures) in
    let there : Contains c.args.rows.now row = (i, omega arith, sym is) in
    let invariant = c.loop-row.invariant in
    let both = set_step (automaton_of c.args.shelf.now c.args.a.now) c.args.track in
    let in_rows = in-alone rows row there in
    let step = c.fill_row.ensures.joins in
    let same = same-step c.args.a.now c.args.track c.args.space rows columns (row ∷ []) columns in_rows (λ x there. there)
    c.args.shelf.now c.loop-row.shelf c.fill_row.new.shelf c.args.numbers.now c.loop-row.numbers c.fill_row.new.numbers c.requires.table.is_shelf
    invariant.joins c.fill_row.ensures.numbers in
    let filled = subst (λ (Step : Stepping). IsRow Step c.args.space row columns c.fill_row.new.numbers c.fill_row.new.shelf c.loop-row.roots
    c.fill_row.new.roots)
    same c.in_ok-fill_row.ensures.cells in
    let cells = AreCells-more both c.args.space (take i rows) columns row c.loop-row.numbers c.fill_row.new.numbers c.loop-row.shelf c.fill_row.new.shelf
    c.args.roots.now c.loop-row.roots c.fill_row.new.roots step.keeps c.fill_row.ensures.numbers step.extends invariant.cells filled in
    record {
      joins = Joins-next c.args.a.now c.args.track c.args.space rows columns (row ∷ []) columns in_rows (λ x there. there)
          c.args.shelf.now c.loop-row.shelf c.fill_row.new.shelf c.args.numbers.now c.loop-row.numbers c.fill_row.new.numbers c.requires.table.is_shelf
          invariant.joins c.fill_row.ensures.numbers step;
      cells = subst (λ (ps : List (List ℕ)). AreCells both c.args.space ps columns c.fill_row.new.numbers c.fill_row.new.shelf c.args.roots.now
          c.fill_row.new.roots)
          (sym (take_more rows i row (omega arith) ∙ ap (λ (x : List ℕ). take i rows ++ x ∷ []) (sym is))) cells;
      valid = c.in_ok-fill_row.ensures.valid;
      fits = c.in_ok-fill_row.ensures.fits;
      numbers = c.fill_row.ensures.numbers;
    }

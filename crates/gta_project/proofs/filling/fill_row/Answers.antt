-- A row is joined with one column after the other.
use Rattle.std.proofs.Common.{◌≡◌, Contains, ap, ◌+◌, ℕ, List, Option, Some, [], ◌∷◌, ◌++◌, take, get_or, IsSome, All, sym, ◌∙◌, subst, arith}
use Rattle.std.proofs.lemmas.List.{take_more}
use Rattle.std.proofs.lemmas.Option.{slice_get-get_or}
use Rattle.bdd_nodes.specs.declared.node_ref.NodeRef.{NodeRef}
use Rattle.bdd_nodes.specs.Shelf.{IsValid}
use Rattle.gta_subsets.specs.Subsets.{set_step}
use Rattle.gta_core.specs.Auto.{automaton_of}
use Rattle.gta_project.specs.Filling.{Stepping, IsCell, IsRow}
use Rattle.gta_project.proofs.ShelfLemmas.{root_at-kept, IsTableOf-kept}
use Rattle.gta_project.proofs.JoinsLemmas.{IsRow-more}
use Rattle.gta_project.proofs.NextLemmas.{same-step, Joins-next, ExceedsCells-next, valid-more, in-alone}
use Rattle.gta_project.proofs.filling.fill_row.Goals as goal

pub join_cell-requires-clause-known : goal.join_cell-requires-clause-known
join_cell-requires-clause-known c = λ l r in_l in_r.
    let i = c.loop-at.at in
    let column = c.as_slice-column.result.now in
    let is : column ≡ get_or c.args.columns.now i column = c.as_slice-column.ensures ∙ c.index-columns-at.is ∙ ap (get_or c.args.columns.now i) (sym
    c.as_slice-column.ensures) in
    let there : Contains c.args.columns.now column = (i, omega arith, sym is) in
    let joins = c.loop-at.invariant.joins in
    subst (λ (o : Option NodeRef). IsSome o)
    (sym (root_at-kept c.args.shelf.now c.loop-at.shelf c.requires.table.is_shelf joins.keeps joins.tables c.args.a.now c.args.space l r))
    (c.requires.known column there l r in_l in_r)

pub join_cell-requires-clause-table : goal.join_cell-requires-clause-table
join_cell-requires-clause-table c =
    let joins = c.loop-at.invariant.joins in
    IsTableOf-kept c.args.shelf.now c.loop-at.shelf joins.shelf joins.tables c.args.a.now c.args.table.now c.requires.table

pub join_cell-requires-clause-rows : goal.join_cell-requires-clause-rows
join_cell-requires-clause-rows c = c.requires.short

pub join_cell-requires-clause-columns : goal.join_cell-requires-clause-columns
join_cell-requires-clause-columns c =
    let i = c.loop-at.at in
    let columns = c.args.columns.now in
    let column = c.as_slice-column.result.now in
    let shorts = c.args.shorts.now in
    let other = c.as_slice-other.result.now in
    let is : column ≡ get_or columns i column = c.as_slice-column.ensures ∙ c.index-columns-at.is ∙ ap (get_or columns i) (sym c.as_slice-column.ensures) in
    let is_other : other ≡ get_or shorts i other = c.as_slice-other.ensures ∙ c.index-shorts-at.is ∙ ap (get_or shorts i) (sym c.as_slice-other.ensures) in
    c.requires.shorts.each i column other
    (slice_get-get_or columns i column (omega arith) ∙ ap (λ (x : List ℕ). let o : Option (List ℕ) = Some x in o) (sym is))
    (slice_get-get_or shorts i other (omega arith) ∙ ap (λ (x : List ℕ). let o : Option (List ℕ) = Some x in o) (sym is_other))

pub returns-in_err-root-clause-joins : goal.returns-in_err-root-clause-joins
returns-in_err-root-clause-joins c =
    let i = c.loop-at.at in
    let column = c.as_slice-column.result.now in
    let is : column ≡ get_or c.args.columns.now i column = c.as_slice-column.ensures ∙ c.index-columns-at.is ∙ ap (get_or c.args.columns.now i) (sym
    c.as_slice-column.ensures) in
    let there : Contains c.args.columns.now column = (i, omega arith, sym is) in
    Joins-next c.args.a.now c.args.track c.args.space (c.args.row.now ∷ []) c.args.columns.now (c.args.row.now ∷ []) (column ∷ [])
    (λ x there. there) (in-alone c.args.columns.now column there)
    c.args.shelf.now c.loop-at.shelf c.join_cell.new.shelf c.args.numbers.now c.loop-at.numbers c.join_cell.new.numbers c.requires.table.is_shelf
    c.loop-at.invariant.joins c.join_cell.ensures.numbers c.join_cell.ensures.joins

pub returns-in_err-root-clause-limit : goal.returns-in_err-root-clause-limit
returns-in_err-root-clause-limit c = λ stopped given completes.
    let i = c.loop-at.at in
    let column = c.as_slice-column.result.now in
    let is : column ≡ get_or c.args.columns.now i column = c.as_slice-column.ensures ∙ c.index-columns-at.is ∙ ap (get_or c.args.columns.now i) (sym
    c.as_slice-column.ensures) in
    let there : Contains c.args.columns.now column = (i, omega arith, sym is) in
    ExceedsCells-next c.args.a.now c.args.track c.args.space (c.args.row.now ∷ []) c.args.columns.now (c.args.row.now ∷ []) (column ∷ [])
    (λ x there. there) (in-alone c.args.columns.now column there)
    c.args.shelf.now c.loop-at.shelf c.join_cell.new.shelf c.args.numbers.now c.loop-at.numbers c.join_cell.new.numbers c.requires.table.is_shelf
    c.loop-at.invariant.joins c.join_cell.ensures.numbers c.join_cell.ensures.joins given completes
    (c.join_cell.ensures.limit (let why = rw stopped at c.from_residual.ensures in c.in_err-root.was ∙ (let is = why.1 in cc)) given completes)

pub returns-in_err-push-clause-joins : goal.returns-in_err-push-clause-joins
returns-in_err-push-clause-joins c =
    let i = c.loop-at.at in
    let column = c.as_slice-column.result.now in
    let is : column ≡ get_or c.args.columns.now i column = c.as_slice-column.ensures ∙ c.index-columns-at.is ∙ ap (get_or c.args.columns.now i) (sym
    c.as_slice-column.ensures) in
    let there : Contains c.args.columns.now column = (i, omega arith, sym is) in
    Joins-next c.args.a.now c.args.track c.args.space (c.args.row.now ∷ []) c.args.columns.now (c.args.row.now ∷ []) (column ∷ [])
    (λ x there. there) (in-alone c.args.columns.now column there)
    c.args.shelf.now c.loop-at.shelf c.join_cell.new.shelf c.args.numbers.now c.loop-at.numbers c.join_cell.new.numbers c.requires.table.is_shelf
    c.loop-at.invariant.joins c.join_cell.ensures.numbers c.join_cell.ensures.joins

pub loop-at-preserved : goal.loop-at-preserved
loop-at-preserved c =
    let i = c.loop-at.at in
    let columns = c.args.columns.now in
    let column = c.as_slice-column.result.now in
    let is : column ≡ get_or c.args.columns.now i column = c.as_slice-column.ensures ∙ c.index-columns-at.is ∙ ap (get_or c.args.columns.now i) (sym
    c.as_slice-column.ensures) in
    let there : Contains c.args.columns.now column = (i, omega arith, sym is) in
    let invariant = c.loop-at.invariant in
    let both = set_step (automaton_of c.args.shelf.now c.args.a.now) c.args.track in
    let in_columns = in-alone columns column there in
    let step = c.join_cell.ensures.joins in
    let same = same-step c.args.a.now c.args.track c.args.space (c.args.row.now ∷ []) columns (c.args.row.now ∷ []) (column ∷ []) (λ x there. there) in_columns
    c.args.shelf.now c.loop-at.shelf c.join_cell.new.shelf c.args.numbers.now c.loop-at.numbers c.join_cell.new.numbers c.requires.table.is_shelf
    invariant.joins c.join_cell.ensures.numbers in
    let cell = subst (λ (Step : Stepping). IsCell Step c.args.space c.join_cell.new.numbers c.args.row.now column c.join_cell.new.shelf c.in_ok-root.root)
    same c.in_ok-root.ensures.cell in
    let row = IsRow-more both c.args.space c.args.row.now (take i columns) column c.loop-at.numbers c.join_cell.new.numbers c.loop-at.shelf
    c.join_cell.new.shelf
    c.args.roots.now c.loop-at.roots c.in_ok-root.root step.keeps c.join_cell.ensures.numbers step.extends invariant.row cell in
    let valid = valid-more c.loop-at.shelf c.join_cell.new.shelf c.loop-at.roots c.in_ok-root.root step.keeps invariant.valid cell.valid in
    record {
      joins = Joins-next c.args.a.now c.args.track c.args.space (c.args.row.now ∷ []) columns (c.args.row.now ∷ []) (column ∷ []) (λ x there. there) in_columns
          c.args.shelf.now c.loop-at.shelf c.join_cell.new.shelf c.args.numbers.now c.loop-at.numbers c.join_cell.new.numbers c.requires.table.is_shelf
          invariant.joins c.join_cell.ensures.numbers step;
      row = subst (λ (roots : List NodeRef). IsRow both c.args.space c.args.row.now (take (i + 1) columns) c.join_cell.new.numbers
          c.join_cell.new.shelf c.args.roots.now roots)
          (sym c.in_ok-push.ensures.ok)
          (subst (λ (ps : List (List ℕ)). IsRow both c.args.space c.args.row.now ps c.join_cell.new.numbers c.join_cell.new.shelf c.args.roots.now
          (c.loop-at.roots ++ c.in_ok-root.root ∷ []))
          (sym (take_more columns i column (omega arith) ∙ ap (λ (x : List ℕ). take i columns ++ x ∷ []) (sym is))) row);
      valid = subst (λ (roots : List NodeRef). All (IsValid c.join_cell.new.shelf) roots) (sym c.in_ok-push.ensures.ok) valid;
      fits = c.in_ok-root.ensures.fits;
      numbers = c.join_cell.ensures.numbers;
    }

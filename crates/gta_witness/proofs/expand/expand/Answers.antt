-- What follows from each kind of goal.
use Rattle.std.proofs.Common.{◌≡◌, ℕ, List, Contains, sym, ap, ◌∙◌, subst}
use Rattle.std.proofs.lemmas.List.Elements.{All-contains}
use Rattle.gta_witness.specs.declared.goal.Goal.{Goal}
use Rattle.gta_witness.specs.declared.goal.Goal.TheVariants.{Row, Column}
use Rattle.gta_witness.specs.Searching.{found_by, weighs_in, list_at, IsSettled, IsExpanded}
use Rattle.gta_witness.specs.Following.{FollowsCell}
use Rattle.gta_witness.proofs.ExpandLemmas.{row-expanded, column-expanded, node-expanded}
use Rattle.gta_witness.proofs.expand.expand.Goals as goal

pub returns-in_ok-expand_row-in-Row-clause-expanded : goal.returns-in_ok-expand_row-in-Row-clause-expanded
returns-in_ok-expand_row-in-Row-clause-expanded c =
    let form = c.args.form.now in
    let weighs = weighs_in c.args.weighed.now in
    let found = found_by c.expand_row.new.search in
    let t = c.in-Row.space in
    let lists : c.line-columns.result.now ≡ list_at c.args.lines.now.columns.items t =
    c.line-columns.ensures ∙ ap (λ (xs : List (List ℕ)). list_at xs t) c.as_slice.ensures.value in
    subst (λ (g : Goal). IsExpanded form weighs found g) (sym c.in-Row.is)
    (row-expanded form weighs found t c.in-Row.class (λ column w settled.
    All-contains (FollowsCell form found t c.in-Row.class) c.line-columns.result.now column c.in_ok-expand_row-in-Row.ensures.cells
    (subst (λ (xs : List ℕ). Contains xs column) (sym lists)
    (c.requires.listed.column t column w (c.in_ok-expand_row-in-Row.ensures.goes_on.improves.no_more (Column t column) w settled)))))

pub returns-in_ok-expand_column-in-Column-clause-expanded : goal.returns-in_ok-expand_column-in-Column-clause-expanded
returns-in_ok-expand_column-in-Column-clause-expanded c =
    let form = c.args.form.now in
    let weighs = weighs_in c.args.weighed.now in
    let found = found_by c.expand_column.new.search in
    let t = c.in-Column.space in
    let lists : c.line-rows.result.now ≡ list_at c.args.lines.now.rows.items t =
    c.line-rows.ensures ∙ ap (λ (xs : List (List ℕ)). list_at xs t) c.as_slice-in-Column.ensures.value in
    subst (λ (g : Goal). IsExpanded form weighs found g) (sym c.in-Column.is)
    (column-expanded form weighs found t c.in-Column.class (λ row w settled.
    All-contains (λ (r : ℕ). FollowsCell form found t r c.in-Column.class) c.line-rows.result.now row c.in_ok-expand_column-in-Column.ensures.cells
    (subst (λ (xs : List ℕ). Contains xs row) (sym lists)
    (c.requires.listed.row t row w (c.in_ok-expand_column-in-Column.ensures.goes_on.improves.no_more (Row t row) w settled)))))

pub returns-in_ok-expand_node-in-Node-clause-expanded : goal.returns-in_ok-expand_node-in-Node-clause-expanded
returns-in_ok-expand_node-in-Node-clause-expanded c =
    let form = c.args.form.now in
    let weighs = weighs_in c.args.weighed.now in
    let found = found_by c.expand_node.new.search in
    let t = c.in-Node.space in
    let settled = c.in_ok-expand_node-in-Node.ensures.goes_on.improves.settled c.args.goal c.args.weight c.requires.settled in
    subst (λ (g : Goal). IsExpanded form weighs found g) (sym c.in-Node.is)
    (node-expanded form weighs found t c.in-Node.index c.args.weight
    (subst (λ (g : Goal). IsSettled found g c.args.weight) c.in-Node.is settled) c.in_ok-expand_node-in-Node.ensures.node)

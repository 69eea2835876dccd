-- The merged part of a space.
use Rattle.std.proofs.Common.{ℕ, ◌-◌, List, length, sym, ◌∙◌, ap, subst}
use Rattle.std.specs.Prelude.{All, IsSome}
use Rattle.std.specs.List.{range_with_len}
use Rattle.gta_core.specs.Auto.{root_at}
use Rattle.gta_merge.specs.Lines.{PutsRows}
use Rattle.gta_merge.proofs.PartLemmas.{cells-known, IsPartOf-is, UsesAfter-is}
use Rattle.gta_merge.proofs.merged.merged_part.Goals as goal

pub put_rows-requires-clause-known : goal.put_rows-requires-clause-known
put_rows-requires-clause-known c =
    let root = root_at c.args.shelf.now c.args.a.now c.args.space in
    let rows = c.in_ok-classes.classes.0 in
    let columns = c.in_ok-classes.classes.1 in
    subst (λ (ls : List ℕ). All (λ l. All (λ r. IsSome (root l r)) c.as_slice-2.result.now) ls) (sym c.as_slice.ensures)
    (subst (λ (rs : List ℕ). All (λ l. All (λ r. IsSome (root l r)) rs) rows.ones) (sym c.as_slice-2.ensures)
    (cells-known c.args.shelf.now c.args.a.now c.requires.auto c.part_at-own.ensures.whole c.args.space c.part_at-own.result.now
    c.part_at-own.ensures.part rows c.in_ok-classes.ensures.rows columns c.in_ok-classes.ensures.columns))

pub returns-clause-part : goal.returns-clause-part
returns-clause-part c =
    let shelf = c.args.shelf.now in
    let a = c.args.a.now in
    let s = c.args.space in
    let rows = c.in_ok-classes.classes.0 in
    let columns = c.in_ok-classes.classes.1 in
    let old = c.args.roots.now in
    let new = c.put_rows.new.roots in
    let puts = subst (λ (ls : List ℕ). PutsRows (root_at shelf a s) ls columns.ones old new) c.as_slice.ensures
    (subst (λ (rs : List ℕ). PutsRows (root_at shelf a s) c.as_slice.result.now rs old new) c.as_slice-2.ensures c.in_ok-put_rows.ensures.puts) in
    IsPartOf-is shelf a c.requires.auto c.part_at-own.ensures.whole s c.part_at-own.result.now c.part_at-own.ensures.part rows c.in_ok-classes.ensures.rows
    columns c.in_ok-classes.ensures.columns old new puts c.len-first.result c.len-width.result c.in_ok-cells.cells c.len-first.ensures c.len-width.ensures
    (c.in_ok-cells.ensures ∙ ap (λ (n : ℕ). range_with_len 0 (n - c.len-first.result)) c.len-2.ensures
    ∙ ap (λ (n : ℕ). range_with_len 0 (length new - n)) c.len-first.ensures)

pub returns-clause-used : goal.returns-clause-used
returns-clause-used c =
    let shelf = c.args.shelf.now in
    let a = c.args.a.now in
    let s = c.args.space in
    let rows = c.in_ok-classes.classes.0 in
    let columns = c.in_ok-classes.classes.1 in
    let old = c.args.roots.now in
    let new = c.put_rows.new.roots in
    let puts = subst (λ (ls : List ℕ). PutsRows (root_at shelf a s) ls columns.ones old new) c.as_slice.ensures
    (subst (λ (rs : List ℕ). PutsRows (root_at shelf a s) c.as_slice.result.now rs old new) c.as_slice-2.ensures c.in_ok-put_rows.ensures.puts) in
    UsesAfter-is shelf a c.requires.auto c.part_at-own.ensures.whole s c.part_at-own.result.now c.part_at-own.ensures.part rows c.in_ok-classes.ensures.rows
    columns c.in_ok-classes.ensures.columns old new puts c.len-first.result c.len-width.result c.in_ok-cells.cells c.len-first.ensures c.len-width.ensures
    (c.in_ok-cells.ensures ∙ ap (λ (n : ℕ). range_with_len 0 (n - c.len-first.result)) c.len-2.ensures
    ∙ ap (λ (n : ℕ). range_with_len 0 (length new - n)) c.len-first.ensures)

pub returns-clause-grown : goal.returns-clause-grown
returns-clause-grown c = c.in_ok-put_rows.ensures.puts.grown

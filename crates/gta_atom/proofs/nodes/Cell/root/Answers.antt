use Rattle.std.proofs.Common.{◌≡◌, ℕ, false, sym, ap, subst, ◌∙◌}
use Rattle.labels.specs.Labels.{Label, IsUnder, with_track}
use Rattle.bdd_nodes.specs.Shelf.{IsSideFor, state_of, choice_of}
use Rattle.bdd_nodes.proofs.CallerLemmas.{IsSideFor-kept}
use Rattle.gta_atom.specs.Cells.{cell_function, lower_track}
use Rattle.gta_atom.proofs.CellsLemmas.{IsUnder-whole, root-sides}
use Rattle.gta_room.proofs.ProgressLemmas.{Adds-both, Adds-make, IsStuck-make}
use Rattle.gta_atom.proofs.nodes.Cell.root.Goals as goal
use Rattle.gta_atom.proofs.nodes.Cell.root.Goals.{After-make}

pub returns-in_err-high-clause-adds : goal.returns-in_err-high-clause-adds
returns-in_err-high-clause-adds c =
    Adds-both (IsUnder (cell_function c.args.self)) c.args.shelf.now c.side.new.shelf c.side-2.new.shelf c.side.ensures.adds c.side-2.ensures.adds

of_low : (c : After-make) (label : Label) →
    state_of c.side-2.new.shelf c.in_ok-low.low label ≡ cell_function c.args.self (with_track label (lower_track c.args.self) false)
of_low c label = c.side-2.ensures.adds.keeps.states c.in_ok-low.low label c.in_ok-low.ensures.side.valid ∙ c.in_ok-low.ensures.value label

part : (c : After-make) → IsUnder (cell_function c.args.self) (choice_of c.side-2.new.shelf c.min.result c.in_ok-low.low c.in_ok-high.high)
part c = IsUnder-whole c.args.self (choice_of c.side-2.new.shelf c.min.result c.in_ok-low.low c.in_ok-high.high) (λ label.
    ap (λ (t : ℕ). choice_of c.side-2.new.shelf t c.in_ok-low.low c.in_ok-high.high label) c.min.ensures
    ∙ root-sides c.args.self c.side-2.new.shelf c.in_ok-low.low c.in_ok-high.high (of_low c) c.in_ok-high.ensures.value label)

pub returns-clause-adds : goal.returns-clause-adds
returns-clause-adds c =
    let P = IsUnder (cell_function c.args.self) in
    let m = c.make.ensures in
    let before = c.side-2.ensures.adds in
    Adds-both P c.args.shelf.now c.side-2.new.shelf c.make.new.self
    (Adds-both P c.args.shelf.now c.side.new.shelf c.side-2.new.shelf c.side.ensures.adds before)
    (Adds-make P c.side-2.new.shelf c.make.new.self c.min.result c.in_ok-low.low c.in_ok-high.high c.make.result before.now (part c)
    m.value m.valid m.kept m.only m.count m.limit m.tables m.shelf m.err)

pub returns-clause-stuck : goal.returns-clause-stuck
returns-clause-stuck c =
    let P = IsUnder (cell_function c.args.self) in
    let m = c.make.ensures in
    let before = c.side-2.ensures.adds in
    let low_side = IsSideFor-kept c.side.new.shelf c.side-2.new.shelf (lower_track c.args.self) c.in_ok-low.low before.keeps c.in_ok-low.ensures.side in
    IsStuck-make P c.side-2.new.shelf c.make.new.self c.min.result c.in_ok-low.low c.in_ok-high.high c.make.result before.now (part c)
    m.value m.valid m.kept m.only m.count m.limit m.tables m.shelf m.err
    (subst (λ (t : ℕ). IsSideFor c.side-2.new.shelf t c.in_ok-low.low) (sym c.min.ensures) low_side)
    (subst (λ (t : ℕ). IsSideFor c.side-2.new.shelf t c.in_ok-high.high) (sym c.min.ensures) c.in_ok-high.ensures.side) m.full

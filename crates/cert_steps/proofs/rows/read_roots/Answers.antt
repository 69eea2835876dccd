use Rattle.std.proofs.Common.{◌+◌, List, map, refl, sym, subst, ◌∙◌}
use Rattle.cert_tables.specs.declared.table.SpaceTable.{SpaceTable}
use Rattle.cert_steps.specs.Reading.{ReadsSpaces}
use Rattle.cert_steps.proofs.SpacesLemmas.{spaces-none, spaces-push}
use Rattle.cert_steps.proofs.rows.read_roots.Goals as goal

pub loop-space-init : goal.loop-space-init
loop-space-init c =
    let ls = map (λ l. l.now) c.args.lefts.now in
    let rs = map (λ l. l.now) c.args.rights.now in
    let told = c.args.drawing.now.nodes.told in (
      c.requires.drawn,
      c.requires.known,
      refl,
      subst (λ (tables : List SpaceTable). ReadsSpaces told told c.args.spaces.now ls rs 0 c.args.lines.now tables c.args.lines.now)
          (sym c.new-tables.ensures) (spaces-none c.args.spaces.now ls rs told c.args.lines.now),
    )

pub loop-space-preserved : goal.loop-space-preserved
loop-space-preserved c =
    let ls = map (λ l. l.now) c.args.lefts.now in
    let rs = map (λ l. l.now) c.args.rights.now in
    let old = c.args.drawing.now.nodes.told in
    let mid = c.loop-space.drawing.nodes.told in
    let new = c.read_space.new.drawing.nodes.told in (
      c.in_ok-table.ensures.drawn,
      c.in_ok-table.ensures.known,
      c.in_ok-table.ensures.atoms ∙ c.loop-space.invariant.2,
      subst (λ (tables : List SpaceTable). ReadsSpaces old new c.args.spaces.now ls rs (c.loop-space.space + 1) c.args.lines.now tables
          c.in_ok-table.rest.now) (sym c.in_ok-push.ensures.ok)
          (spaces-push c.args.spaces.now ls rs old mid new c.loop-space.space c.args.lines.now c.loop-space.left.now c.in_ok-table.rest.now
          c.loop-space.tables c.in_ok-table.table c.loop-space.invariant.3 c.in_ok-table.ensures.found),
    )

use Rattle.std.proofs.Common.{◌+◌, List, refl, sym, subst, ◌∙◌}
use Rattle.cert_text.specs.declared.line.Target.{Target}
use Rattle.cert_steps.specs.Reading.{ReadsRows}
use Rattle.cert_steps.proofs.RowsLemmas.{rows-none, rows-push}
use Rattle.cert_steps.proofs.rows.read_rows.Goals as goal

pub loop-class-init : goal.loop-class-init
loop-class-init c =
    let p = c.args.place in
    let told = c.args.drawing.now.nodes.told in (
      c.requires.drawn,
      c.requires.known,
      refl,
      subst (λ (rows : List (List Target)). ReadsRows told told p.states p.space 0 p.right c.args.lines.now rows c.args.lines.now)
          (sym c.new-rows.ensures) (rows-none p.states p.space p.right told c.args.lines.now),
    )

pub loop-class-preserved : goal.loop-class-preserved
loop-class-preserved c =
    let p = c.args.place in
    let old = c.args.drawing.now.nodes.told in
    let mid = c.loop-class.drawing.nodes.told in
    let new = c.read_row.new.drawing.nodes.told in (
      c.in_ok-targets.ensures.drawn,
      c.in_ok-targets.ensures.known,
      c.in_ok-targets.ensures.atoms ∙ c.loop-class.invariant.2,
      subst (λ (rows : List (List Target)). ReadsRows old new p.states p.space (c.loop-class.class + 1) p.right c.args.lines.now rows
          c.in_ok-targets.rest.now) (sym c.in_ok-push.ensures.ok)
          (rows-push p.states p.space p.right old mid new c.loop-class.class c.args.lines.now c.loop-class.left.now c.in_ok-targets.rest.now
          c.loop-class.rows c.in_ok-targets.targets c.loop-class.invariant.3 c.in_ok-targets.ensures.found),
    )

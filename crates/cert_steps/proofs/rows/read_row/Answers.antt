use Rattle.std.proofs.Common.{◌+◌, List, refl, sym, subst, ◌∙◌}
use Rattle.cert_text.specs.declared.line.Target.{Target}
use Rattle.cert_steps.specs.Reading.{ReadsRoots}
use Rattle.cert_steps.proofs.RootsLemmas.{roots-none, roots-push}
use Rattle.cert_steps.proofs.rows.read_row.Goals as goal

pub loop-right-init : goal.loop-right-init
loop-right-init c =
    let p = c.args.place in
    let told = c.args.drawing.now.nodes.told in (
      c.requires.drawn,
      c.requires.known,
      refl,
      subst (λ (targets : List Target). ReadsRoots told told p.states p.space p.left 0 c.args.lines.now targets c.args.lines.now)
          (sym c.new-targets.ensures) (roots-none p.states p.space p.left told c.args.lines.now),
    )

pub loop-right-preserved : goal.loop-right-preserved
loop-right-preserved c =
    let p = c.args.place in
    let old = c.args.drawing.now.nodes.told in
    let mid = c.loop-right.drawing.nodes.told in
    let new = c.read_root.new.drawing.nodes.told in (
      c.in_ok-target.ensures.drawn,
      c.in_ok-target.ensures.known,
      c.in_ok-target.ensures.atoms ∙ c.loop-right.invariant.2,
      subst (λ (targets : List Target). ReadsRoots old new p.states p.space p.left (c.loop-right.right + 1) c.args.lines.now targets
          c.in_ok-target.rest.now) (sym c.in_ok-push.ensures.ok)
          (roots-push p.states p.space p.left old mid new c.loop-right.right (record p { right = c.loop-right.right }) c.args.lines.now
          c.loop-right.left.now c.in_ok-target.rest.now c.loop-right.targets c.in_ok-target.target c.loop-right.invariant.3 refl refl refl refl
          c.in_ok-target.ensures.found),
    )

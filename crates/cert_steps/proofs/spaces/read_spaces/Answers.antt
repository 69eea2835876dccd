use Rattle.std.proofs.Common.{◌≡◌, ◌+◌, ◌++◌, List, map, refl, sym, subst}
use Rattle.cert_text.specs.declared.line.SpaceLine.{SpaceLine}
use Rattle.cert_text.specs.declared.line.Line.TheVariants as line
use Rattle.cert_steps.specs.Places.{AreSpaceLines}
use Rattle.cert_steps.proofs.ListsLemmas.{read-more}
use Rattle.cert_steps.proofs.ClassesLemmas.{spaces-none, spaces-push}
use Rattle.cert_steps.proofs.spaces.read_spaces.Goals as goal

pub loop-space-init : goal.loop-space-init
loop-space-init c =
    subst (λ (read : List SpaceLine). (c.args.lines.now ≡ map line.Space read ++ c.args.lines.now) × AreSpaceLines 0 read) (sym c.new-read.ensures)
    (refl, spaces-none)

pub loop-space-preserved : goal.loop-space-preserved
loop-space-preserved c =
    subst (λ (read : List SpaceLine). (c.args.lines.now ≡ map line.Space read ++ c.in_ok-line.rest.now) × AreSpaceLines (c.loop-space.space + 1) read)
    (sym c.in_ok-push.ensures.ok) (
      read-more line.Space c.args.lines.now c.loop-space.read c.in_ok-line.line c.loop-space.left.now c.in_ok-line.rest.now
          c.loop-space.invariant.0 c.in_ok-line.ensures.0,
      spaces-push c.loop-space.space c.loop-space.read c.in_ok-line.line c.loop-space.invariant.1 c.in_ok-line.ensures.1,
    )

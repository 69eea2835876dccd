use Rattle.std.proofs.Common.{◌≡◌, ℕ, ◌+◌, ◌++◌, List, map, sym, subst}
use Rattle.cert_text.specs.declared.line.ClassLine.{ClassLine}
use Rattle.cert_steps.specs.Places.{IsClassLine, AreClassLines}
use Rattle.cert_steps.specs.Sides.{side_line, child_of}
use Rattle.cert_steps.proofs.ListsLemmas.{read-more}
use Rattle.cert_steps.proofs.ClassesLemmas.{classes-push}
use Rattle.cert_steps.proofs.classes.read_classes.Goals as goal

pub loop-space-preserved : goal.loop-space-preserved
loop-space-preserved c =
    let g = c.args.g.now in
    let b = c.args.is_right in
    let spaces = c.args.spaces.now in
    let read = map (λ l. l.now) c.loop-space.read.items in
    subst (λ (lines : List ClassLine). (c.args.lines.now ≡ map (side_line b) lines ++ c.in_ok-line.rest.now)
    × AreClassLines spaces (child_of g b) (c.loop-space.space + 1) lines) (sym c.in_ok-push_line.ensures) (
      read-more (side_line b) c.args.lines.now read c.in_ok-line.line.now c.loop-space.left.now c.in_ok-line.rest.now c.loop-space.invariant.0
          c.in_ok-line.ensures.0,
      classes-push spaces (child_of g b) c.loop-space.space read c.in_ok-line.line.now c.loop-space.invariant.1
          (subst (λ (n : ℕ). IsClassLine spaces c.loop-space.space n c.in_ok-line.line.now) c.child_of-child.ensures c.in_ok-line.ensures.1),
    )

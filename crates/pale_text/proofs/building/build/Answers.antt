use Rattle.std.proofs.Common.{sym, ◌∙◌}
use Rattle.std.specs.Option.{option_copied}
use Rattle.pale_text.proofs.RunLemmas.{run-token, run-act}
use Rattle.pale_text.proofs.building.build.Goals as goal
use Rattle.pale_text.proofs.building.build.Goals.{in-Token, in-Act+in_ok-perform-in-Act}

pub loop-event-preserved : goal.loop-event-preserved
loop-event-preserved g c =
    elim c.match-event.branch [
      | in-Token w ↦
          rw (w.parts-is, w.last-is, w.left-is, w.first_of-last.ensures, w.after_first-left.ensures)
          (run-token g.L.Language.after c.args.events.now c.loop-event.event-index _ c.loop-event-test.true (option_copied c.loop-event.last)
          c.loop-event.left.now (g.L.Language.made_of c.loop-event.parts) (sym c.event-item.is ∙ w.in-Token.is)
          ∙ c.loop-event.invariant)
      | in-Act+in_ok-perform-in-Act w ↦
          rw (w.parts-is, w.last-is, w.left-is, w.in_ok-perform-in-Act.ensures, w.first_of-next.ensures)
          (run-act g.L.Language.after c.args.events.now c.loop-event.event-index _ c.loop-event-test.true w.in-Act.act
          (option_copied c.loop-event.last) c.loop-event.left.now (g.L.Language.made_of c.loop-event.parts) (sym c.event-item.is ∙ w.in-Act.is)
          ∙ c.loop-event.invariant)
    ]

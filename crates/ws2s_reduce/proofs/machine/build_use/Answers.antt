use Rattle.std.proofs.Common.{◌+◌, [], length, drop, ap, ◌∙◌, subst}
use Rattle.ws2s_reduce.specs.Reducing.{used}
use Rattle.ws2s_reduce.specs.Building.{reductions_to, works_to}
use Rattle.ws2s_reduce.specs.Machines.{IsBuilt}
use Rattle.ws2s_reduce.proofs.BuiltLemmas.{on_ok_two, IsBuilt-use}
use Rattle.ws2s_reduce.proofs.machine.build_use.Goals as goal

pub returns : goal.returns
returns c = on_ok_two c.enter.result (λ same work.
    subst (λ frame. IsBuilt c.args.predicates.now
    (used (reductions_to c.args.predicates.now c.args.place.rank c.args.predicate) c.args.place.next frame c.args.arguments.now [])
    (works_to c.args.predicates.now c.args.place.rank c.args.predicate + length c.args.arguments.now + 3) c.args.machine.now c.enter.new.machine)
    (c.as_slice.ensures.value ∙ c.in_ok-frame.ensures ∙ ap (drop c.args.place.start) c.as_slice-tracks.ensures.value)
    (IsBuilt-use c.args.predicates.now c.args.place.rank c.args.predicate c.args.place.next c.in_ok-next.next c.len-kept.result c.as_slice.result.now
    c.args.arguments.now c.args.machine.now c.pass_arguments.new.machine c.enter.new.machine (c.len-kept.ensures
    ∙ c.args.machine.now.tracks.ok.0) c.in_ok-next.ensures
    (same c.args.predicates.now c.args.place.rank c.visible.ensures)
    (work c.args.predicates.now c.args.place.rank c.visible.ensures)))
    c.enter.ensures.same c.enter.ensures.work

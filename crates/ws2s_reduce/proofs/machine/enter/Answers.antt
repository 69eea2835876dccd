use Rattle.std.proofs.Common.{◌+◌, ◌≤◌, ◌∷◌, reverse, sym, ap, ◌∙◌, subst}
use Rattle.std.specs.Option.{option_copied}
use Rattle.std.proofs.lemmas.Result.{on_ok_weaker}
use Rattle.std.proofs.lemmas.List.{reverse-append}
use Rattle.ws2s_reduce.specs.declared.task.Task.{Task}
use Rattle.ws2s_reduce.specs.Building.{to_build, to_forget, steps_of, finished, works_to, steps_work}
use Rattle.ws2s_reduce.proofs.BuiltLemmas.{steps_of-push, enter-Some, enter-None, enter-work}
use Rattle.ws2s_reduce.proofs.machine.enter.Goals as goal

pub returns-in-Some-clause-same : goal.returns-in-Some-clause-same
returns-in-Some-clause-same c = on_ok_weaker c.push_build.result (λ steps predicates rank found.
    ap (λ all. finished predicates all c.args.machine.now.tracks.items (reverse c.args.machine.now.parts.items))
    (steps ∙ ap (λ all. to_build c.in-Some.predicate.now.body c.args.place ∷ all)
    (ap steps_of c.in_ok-push.ensures.items ∙ steps_of-push c.args.machine.now.tasks.items (Task.Forget c.args.place.start)))
    ∙ enter-Some predicates rank c.args.place (steps_of c.args.machine.now.tasks.items) c.args.machine.now.tracks.items
    (reverse c.args.machine.now.parts.items) c.in-Some.predicate.now c.requires (sym found ∙ ap option_copied c.in-Some.is))
    c.push_build.ensures

pub returns-in-Some-clause-work : goal.returns-in-Some-clause-work
returns-in-Some-clause-work c = on_ok_weaker c.push_build.result (λ steps predicates rank found.
    subst (λ all. steps_work predicates all ≤ works_to predicates rank c.args.place.rank + 1 + steps_work predicates (steps_of c.args.machine.now.tasks.items))
    (sym (steps ∙ ap (λ all. to_build c.in-Some.predicate.now.body c.args.place ∷ all)
    (ap steps_of c.in_ok-push.ensures.items ∙ steps_of-push c.args.machine.now.tasks.items (Task.Forget c.args.place.start))))
    (enter-work predicates rank c.args.place (steps_of c.args.machine.now.tasks.items) c.args.machine.now.tracks.items
    (reverse c.args.machine.now.parts.items) c.in-Some.predicate.now (sym found ∙ ap option_copied c.in-Some.is)))
    c.push_build.ensures

pub returns-in_ok-push-in-None-clause-same : goal.returns-in_ok-push-in-None-clause-same
returns-in_ok-push-in-None-clause-same c = λ predicates rank found.
    ap (λ all. finished predicates all c.args.machine.now.tracks.items (reverse c.push-in-None.new.self.items))
    (ap steps_of c.in_ok-push.ensures.items ∙ steps_of-push c.args.machine.now.tasks.items (Task.Forget c.args.place.start))
    ∙ ap (λ all. finished predicates (to_forget c.args.place.start ∷ steps_of c.args.machine.now.tasks.items) c.args.machine.now.tracks.items all)
    (ap reverse c.in_ok-push-in-None.ensures.items ∙ reverse-append c.args.machine.now.parts.items _
    ∙ ap (λ f. f ∷ reverse c.args.machine.now.parts.items) c.in_ok-made-in-None.ensures)
    ∙ enter-None predicates rank c.args.place (steps_of c.args.machine.now.tasks.items) c.args.machine.now.tracks.items
    (reverse c.args.machine.now.parts.items) (sym found ∙ ap option_copied c.in-None.is)

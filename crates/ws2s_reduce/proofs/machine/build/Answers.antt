use Rattle.std.proofs.Common.{◌+◌, ◌∷◌, ◌++◌, length, sym, ap, ap₂, ◌∙◌, refl, subst}
use Rattle.std.proofs.lemmas.Result.{on_ok_weaker}
use Rattle.ws2s_reduce.specs.declared.machine.Machine.{Machine}
use Rattle.ws2s_reduce.specs.declared.task.Op.{Op}
use Rattle.ws2s_reduce.specs.Building.{to_build, to_forget, to_apply, steps_of, chain_steps}
use Rattle.ws2s_reduce.proofs.BuiltLemmas.{on_ok_two, IsMade, Built-Chain, Built-Quantified}
use Rattle.ws2s_reduce.proofs.machine.build.Goals as goal

pub returns-in-Chain : goal.returns-in-Chain
returns-in-Chain c = on_ok_weaker c.push_chain.result (λ steps.
    let now : Machine = record { tasks = c.push_chain.new.tasks; tracks = c.args.machine.now.tracks; parts = c.args.machine.now.parts } in
    subst (IsMade c.args.predicates.now c.args.place c.args.machine.now now) (sym c.in-Chain.is)
    (Built-Chain c.args.predicates.now c.args.place c.args.machine.now now c.requires refl c.in-Chain.connective c.in-Chain.first c.in-Chain.others
    (steps ∙ ap₂ (λ f all. to_build f c.args.place ∷ (chain_steps c.in-Chain.connective c.args.place all ++ steps_of c.args.machine.now.tasks.items))
    c.get-in-Chain.ensures c.as_slice.ensures)
    refl))
    c.push_chain.ensures

pub returns-in-Quantified : goal.returns-in-Quantified
returns-in-Quantified c = on_ok_two c.push_quantified.result (λ steps tracks.
    let now : Machine = record { tasks = c.push_quantified.new.tasks; tracks = c.push_quantified.new.tracks; parts = c.args.machine.now.parts } in
    subst (IsMade c.args.predicates.now c.args.place c.args.machine.now now) (sym c.in-Quantified.is)
    (Built-Quantified c.args.predicates.now c.args.place c.args.machine.now now c.requires refl
    c.in-Quantified.quantifier c.in-Quantified.names c.in-Quantified.inner
    (steps ∙ ap (λ f. to_build f (record { rank = c.args.place.rank; start = c.args.place.start; next = c.args.place.next + c.in-Quantified.names })
    ∷ to_forget (length c.args.machine.now.tracks.items) ∷ to_apply (Op.Wrap c.in-Quantified.quantifier c.args.place.next c.in-Quantified.names)
    ∷ steps_of c.args.machine.now.tasks.items) c.get-in-Quantified.ensures)
    tracks))
    c.push_quantified.ensures.steps c.push_quantified.ensures.tracks

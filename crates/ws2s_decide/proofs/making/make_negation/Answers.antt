use Rattle.std.proofs.Common.{List, ◌∷◌, ◌++◌, sym, subst}
use Rattle.bdd_nodes.specs.Shelf.{Contents}
use Rattle.gta_theory.proofs.ListsLemmas.{Contains-first}
use Rattle.gta_core.specs.Auto.{AutoView}
use Rattle.ws2s_decide.specs.declared.task.Task.{Task}
use Rattle.gta_keep.specs.Holding.{kept_autos}
use Rattle.ws2s_decide.specs.Going.{moment, Rests, Stands, StandsOn}
use Rattle.ws2s_decide.proofs.ComplementLemmas.{IsMinimalFor-turned}
use Rattle.ws2s_decide.proofs.RestsLemmas.{on_err, Rests-turned, Rests-release}
use Rattle.ws2s_decide.proofs.StandsLemmas.{StandsOn-turned}
use Rattle.ws2s_decide.proofs.making.make_negation.Goals as goal

pub returns-in_err-push-clause-err : goal.returns-in_err-push-clause-err
returns-in_err-push-clause-err c =
    let g = c.args.g.now in
    let formulas = c.args.interner.now in
    let kept = c.args.kept.now in
    let a = c.unwrap-auto.result in
    let rest = c.pop.new.self in
    let popped = rw c.unwrap-auto.ensures at c.pop.ensures in
    let rests = subst (λ (xs : List AutoView). Rests g formulas c.args.shelf.now xs kept) popped c.requires.going.stands.rests in
    let auto = c.complement.ensures.auto g c.args.shelf.now (rests.holds.each a (Contains-first a (rest ++ kept_autos kept))) in
    let turned = Rests-turned g formulas c.args.shelf.now a c.complement.result rest kept c.complement.ensures.table auto rests in
    on_err _ c.from_residual.result
    (subst (λ (xs : List AutoView). Rests g formulas c.push.new.shelf xs kept) (sym c.in_err-push.ensures.err)
    (Rests-release g formulas c.args.shelf.now c.push.new.shelf c.complement.result rest kept turned c.in_err-push.ensures.shelf
    c.in_err-push.ensures.dropped))

pub returns-clause-ok : goal.returns-clause-ok
returns-clause-ok c = λ stack out stands.
    let g = c.args.g.now in
    let formulas = c.args.interner.now in
    let shelf = c.args.shelf.now in
    let kept = c.args.kept.now in
    let tasks = c.args.machine.now.tasks in
    let a = c.unwrap-auto.result in
    let rest = c.pop.new.self in
    let popped = rw c.unwrap-auto.ensures at c.pop.ensures in
    let stands' = subst (λ (xs : List AutoView). Stands g formulas (moment shelf (Task.Negate ∷ tasks) xs kept) stack out) popped stands in
    let is_auto = stands'.rests.holds.each a (Contains-first a (rest ++ kept_autos kept)) in
    let auto = c.complement.ensures.auto g shelf is_auto in
    subst (λ (xs : List AutoView). StandsOn g formulas (Task.Negate ∷ tasks) stack (moment c.push.new.shelf tasks xs kept) out)
    (sym c.in_ok-push.ensures.ok)
    (subst (λ (now : Contents). StandsOn g formulas (Task.Negate ∷ tasks) stack (moment now tasks (c.complement.result ∷ rest) kept) out)
    (sym c.in_ok-push.ensures.same)
    (StandsOn-turned g c.requires.guide formulas shelf a c.complement.result rest kept tasks c.complement.ensures.table auto
    (λ f minimal. IsMinimalFor-turned g c.requires.guide shelf a c.complement.result f minimal auto (c.complement.ensures.complement shelf)
    (c.complement.ensures.accepts g shelf is_auto) c.complement.ensures.states)
    stack out stands'))

use Rattle.std.proofs.Common.{ℕ, ◌<◌, List, ◌∷◌, ◌++◌, sym, ◌∙◌, ap, subst}
use Rattle.std.proofs.lemmas.Result.{on_ok_weaker}
use Rattle.bdd_nodes.specs.Shelf.{Contents, limit_of}
use Rattle.gta_theory.proofs.ListsLemmas.{Contains-first}
use Rattle.gta_core.specs.Auto.{AutoView}
use Rattle.ws2s_decide.specs.declared.task.Task.{Task}
use Rattle.gta_keep.specs.Holding.{kept_autos}
use Rattle.ws2s_decide.specs.Going.{moment, Rests, StandsOn}
use Rattle.gta_keep.proofs.HoldingLemmas.{Holds-registered}
use Rattle.ws2s_decide.proofs.RestsLemmas.{on_err, Rests-passed, Rests-come, Rests-release}
use Rattle.ws2s_decide.proofs.StandsLemmas.{Stands-passed, StandsOn-come, minimal-found}
use Rattle.ws2s_decide.proofs.visiting.visit.Goals as goal

pub returns-in_err-copy-clause-err : goal.returns-in_err-copy-clause-err
returns-in_err-copy-clause-err c = on_err _ c.from_residual.result
    (Rests-passed c.args.g.now c.args.interner.now c.args.shelf.now c.find.new.shelf c.args.machine.now.automata c.args.kept.now c.find.new.kept
    (c.in_err-copy.ensures.err c.args.g.now) c.requires.going.stands.rests)

pub returns-in_err-copy-clause-same_limit : goal.returns-in_err-copy-clause-same_limit
returns-in_err-copy-clause-same_limit c = (c.in_err-copy.ensures.err c.args.g.now).limit

pub push-requires : goal.push-requires
push-requires c =
    let passes = (rw c.in-Some.is at c.in_ok-copy.ensures.ok) c.args.g.now in
    let rests = Rests-come c.args.g.now c.args.interner.now c.args.shelf.now c.find.new.shelf c.in-Some.copy c.args.machine.now.automata
    c.args.kept.now c.find.new.kept passes c.requires.going.stands.rests in
    Holds-registered c.args.g.now c.find.new.shelf (c.in-Some.copy ∷ (c.args.machine.now.automata ++ kept_autos c.find.new.kept)) rests.holds
    c.in-Some.copy (Contains-first c.in-Some.copy (c.args.machine.now.automata ++ kept_autos c.find.new.kept))

pub returns-in_err-push-in-Some-clause-err : goal.returns-in_err-push-in-Some-clause-err
returns-in_err-push-in-Some-clause-err c =
    let passes = (rw c.in-Some.is at c.in_ok-copy.ensures.ok) c.args.g.now in
    let rests = Rests-come c.args.g.now c.args.interner.now c.args.shelf.now c.find.new.shelf c.in-Some.copy c.args.machine.now.automata
    c.args.kept.now c.find.new.kept passes c.requires.going.stands.rests in
    on_err _ c.from_residual-in_err-push-in-Some.result
    (subst (λ (xs : List AutoView). Rests c.args.g.now c.args.interner.now c.push.new.shelf xs c.find.new.kept) (sym c.in_err-push-in-Some.ensures.err)
    (Rests-release c.args.g.now c.args.interner.now c.find.new.shelf c.push.new.shelf c.in-Some.copy c.args.machine.now.automata
    c.find.new.kept rests c.in_err-push-in-Some.ensures.shelf c.in_err-push-in-Some.ensures.dropped))

pub returns-in_err-push-in-Some-clause-same_limit : goal.returns-in_err-push-in-Some-clause-same_limit
returns-in_err-push-in-Some-clause-same_limit c =
    let passes = (rw c.in-Some.is at c.in_ok-copy.ensures.ok) c.args.g.now in
    c.in_err-push-in-Some.ensures.dropped.nodes.limit ∙ passes.limit

pub visit_anew-requires-clause-going : goal.visit_anew-requires-clause-going
visit_anew-requires-clause-going c =
    let passes = (rw c.in-None.is at c.in_ok-copy.ensures.ok) c.args.g.now in
    let going = c.requires.going in
    record {
      stack = going.stack;
      out = going.out;
      stands = Stands-passed c.args.g.now c.args.interner.now c.args.shelf.now c.find.new.shelf (Task.Visit c.args.id ∷ c.args.machine.now.tasks)
          c.args.machine.now.automata c.args.kept.now c.find.new.kept passes going.stack going.out going.stands;
    }

pub returns-in_ok-push-in-Some-clause-ok : goal.returns-in_ok-push-in-Some-clause-ok
returns-in_ok-push-in-Some-clause-ok c = λ stack out stands.
    let g = c.args.g.now in
    let formulas = c.args.interner.now in
    let tasks = c.args.machine.now.tasks in
    let autos = c.args.machine.now.automata in
    let kept = c.find.new.kept in
    let passes = (rw c.in-Some.is at c.in_ok-copy.ensures.ok) g in
    let found = rw c.in-Some.is at c.in_ok-copy.ensures.found in
    subst (λ (xs : List AutoView). StandsOn g formulas (Task.Visit c.args.id ∷ tasks) stack (moment c.push.new.shelf tasks xs kept) out)
    (sym c.in_ok-push-in-Some.ensures.ok)
    (subst (λ (now : Contents). StandsOn g formulas (Task.Visit c.args.id ∷ tasks) stack (moment now tasks (c.in-Some.copy ∷ autos) kept) out)
    (sym c.in_ok-push-in-Some.ensures.same)
    (StandsOn-come g formulas c.args.shelf.now c.find.new.shelf c.requires.guide c.in-Some.copy c.args.id tasks autos c.args.kept.now kept passes
    (minimal-found g formulas c.args.shelf.now c.find.new.shelf c.args.id c.in-Some.copy c.args.kept.now stands.rests.kept_for found)
    stack out stands))

pub returns-in_ok-push-in-Some-clause-same_limit : goal.returns-in_ok-push-in-Some-clause-same_limit
returns-in_ok-push-in-Some-clause-same_limit c =
    let passes = (rw c.in-Some.is at c.in_ok-copy.ensures.ok) c.args.g.now in
    ap (λ (now : Contents). limit_of now) c.in_ok-push-in-Some.ensures.same ∙ passes.limit

pub returns-in-None-clause-ok : goal.returns-in-None-clause-ok
returns-in-None-clause-ok c =
    let passes = (rw c.in-None.is at c.in_ok-copy.ensures.ok) c.args.g.now in
    on_ok_weaker c.visit_anew.result (λ advances stack out stands. advances stack out
    (Stands-passed c.args.g.now c.args.interner.now c.args.shelf.now c.find.new.shelf (Task.Visit c.args.id ∷ c.args.machine.now.tasks)
    c.args.machine.now.automata c.args.kept.now c.find.new.kept passes stack out stands)) c.visit_anew.ensures.ok

pub returns-in-None-clause-limit : goal.returns-in-None-clause-limit
returns-in-None-clause-limit c = λ stopped stack out n stands fits.
    let passes = (rw c.in-None.is at c.in_ok-copy.ensures.ok) c.args.g.now in
    let less = c.visit_anew.ensures.limit stopped stack out n
    (Stands-passed c.args.g.now c.args.interner.now c.args.shelf.now c.find.new.shelf (Task.Visit c.args.id ∷ c.args.machine.now.tasks)
    c.args.machine.now.automata c.args.kept.now c.find.new.kept passes stack out stands) fits in
    subst (λ (limit : ℕ). limit < n) passes.limit less

pub returns-in-None-clause-same_limit : goal.returns-in-None-clause-same_limit
returns-in-None-clause-same_limit c =
    let passes = (rw c.in-None.is at c.in_ok-copy.ensures.ok) c.args.g.now in
    c.visit_anew.ensures.same_limit ∙ passes.limit

use Rattle.std.proofs.Common.{◌<◌, List, ◌∷◌, sym, ◌∙◌, subst}
use Rattle.gta_keep.proofs.AutoSizesLemmas.{HaveSizes-shelf}
use Rattle.ws2s_decide.specs.declared.task.Task.{Task}
use Rattle.ws2s_decide.specs.Tasks.{steps_left}
use Rattle.ws2s_decide.specs.Going.{moment, steps_of, IsGoing, Follows}
use Rattle.ws2s_decide.proofs.EndsLemmas.{IsGoing-follows, Follows-step, Follows-passed, NeedsMore-follows, ends}
use Rattle.ws2s_decide.proofs.NeedsLemmas.{needs-past}
use Rattle.ws2s_decide.proofs.machine.run.Goals as goal

pub step-requires-clause-going : goal.step-requires-clause-going
step-requires-clause-going c =
    let l = c.loop-task in
    subst (λ (tasks : List Task). IsGoing c.args.g.now c.args.interner.now (moment l.shelf tasks l.machine.automata l.kept)) c.in-Some.ensures
    (IsGoing-follows c.args.g.now c.args.interner.now
    (moment c.args.shelf.now c.args.machine.now.tasks c.args.machine.now.automata c.args.kept.now)
    (moment l.shelf l.machine.tasks l.machine.automata l.kept) l.invariant.follows c.requires.going)

pub loop-task-smaller : goal.loop-task-smaller
loop-task-smaller c =
    let l = c.loop-task in
    let going = subst (λ (tasks : List Task). IsGoing c.args.g.now c.args.interner.now (moment l.shelf tasks l.machine.automata l.kept)) c.in-Some.ensures
    (IsGoing-follows c.args.g.now c.args.interner.now
    (moment c.args.shelf.now c.args.machine.now.tasks c.args.machine.now.automata c.args.kept.now)
    (moment l.shelf l.machine.tasks l.machine.automata l.kept) l.invariant.follows c.requires.going) in
    let on = c.in_ok-step.ensures.ok going.stack going.out going.stands in
    subst (λ (tasks : List Task). steps_left (steps_of c.args.interner.now c.step.new.machine.tasks) < steps_left (steps_of c.args.interner.now tasks))
    (sym c.in-Some.ensures) on.goes.fewer

pub loop-task-preserved : goal.loop-task-preserved
loop-task-preserved c =
    let l = c.loop-task in
    let g = c.args.g.now in
    let formulas = c.args.interner.now in
    let old = moment c.args.shelf.now c.args.machine.now.tasks c.args.machine.now.automata c.args.kept.now in
    let new = c.step.new in
    let passes = c.sweep.ensures g in
    record {
      follows = Follows-passed g formulas old new.shelf c.sweep.new.shelf new.machine.tasks new.machine.automata new.kept c.sweep.new.self passes
          (Follows-step g formulas old (moment l.shelf (c.in-Some.task ∷ c.pop.new.self) l.machine.automata l.kept)
          (moment new.shelf new.machine.tasks new.machine.automata new.kept)
          (subst (λ (tasks : List Task). Follows g formulas old (moment l.shelf tasks l.machine.automata l.kept)) c.in-Some.ensures
          l.invariant.follows) c.in_ok-step.ensures.ok);
      limit = passes.limit ∙ c.step.ensures.same_limit ∙ l.invariant.limit;
    }

pub returns-in_err-step-clause-limit : goal.returns-in_err-step-clause-limit
returns-in_err-step-clause-limit c = λ stopped.
    let l = c.loop-task in
    let old = moment c.args.shelf.now c.args.machine.now.tasks c.args.machine.now.automata c.args.kept.now in
    NeedsMore-follows c.args.g.now c.args.interner.now old (moment l.shelf (c.in-Some.task ∷ c.pop.new.self) l.machine.automata l.kept)
    (subst (λ (tasks : List Task). Follows c.args.g.now c.args.interner.now old (moment l.shelf tasks l.machine.automata l.kept)) c.in-Some.ensures
    l.invariant.follows) l.invariant.limit
    (c.step.ensures.limit (let why = rw stopped at c.from_residual.ensures in c.in_err-step.was ∙ (let is = why.1 in cc)))

pub returns-clause-ok : goal.returns-clause-ok
returns-clause-ok c =
    let l = c.loop-task in
    let old = moment c.args.shelf.now c.args.machine.now.tasks c.args.machine.now.automata c.args.kept.now in
    ends c.args.g.now c.args.interner.now old (moment l.shelf c.pop.new.self l.machine.automata l.kept) c.in_default.ensures.1
    (subst (λ (tasks : List Task). Follows c.args.g.now c.args.interner.now old (moment l.shelf tasks l.machine.automata l.kept))
    (c.in_default.ensures.0 ∙ sym c.in_default.ensures.1) l.invariant.follows)

pub returns-then-gives_up-clause-err : goal.returns-then-gives_up-clause-err
returns-then-gives_up-clause-err c =
    let l = c.loop-task in
    let going = subst (λ (tasks : List Task). IsGoing c.args.g.now c.args.interner.now (moment l.shelf tasks l.machine.automata l.kept)) c.in-Some.ensures
    (IsGoing-follows c.args.g.now c.args.interner.now
    (moment c.args.shelf.now c.args.machine.now.tasks c.args.machine.now.automata c.args.kept.now)
    (moment l.shelf l.machine.tasks l.machine.automata l.kept) l.invariant.follows c.requires.going) in
    let on = c.in_ok-step.ensures.ok going.stack going.out going.stands in
    on.stands.rests

pub returns-then-gives_up-clause-limit : goal.returns-then-gives_up-clause-limit
returns-then-gives_up-clause-limit c = λ stopped.
    let l = c.loop-task in
    let g = c.args.g.now in
    let formulas = c.args.interner.now in
    let old = moment c.args.shelf.now c.args.machine.now.tasks c.args.machine.now.automata c.args.kept.now in
    let new = c.step.new in
    let follows = Follows-step g formulas old (moment l.shelf (c.in-Some.task ∷ c.pop.new.self) l.machine.automata l.kept)
    (moment new.shelf new.machine.tasks new.machine.automata new.kept)
    (subst (λ (tasks : List Task). Follows g formulas old (moment l.shelf tasks l.machine.automata l.kept)) c.in-Some.ensures l.invariant.follows)
    c.in_ok-step.ensures.ok in
    let past = c.gives_up.ensures c.if-gives_up.true in
    NeedsMore-follows g formulas old (moment new.shelf new.machine.tasks new.machine.automata new.kept) follows
    (c.step.ensures.same_limit ∙ l.invariant.limit)
    (needs-past g c.requires.guide formulas new.shelf (HaveSizes-shelf g new.shelf c.limit.ensures.shelf) new.machine.tasks new.machine.automata new.kept
    c.limit.result c.limit.ensures.value past)

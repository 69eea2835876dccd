use Rattle.std.proofs.Common.{ℕ, List, sym, subst}
use Rattle.ws2s_context.specs.declared.opening.Spine.{Spine}
use Rattle.ws2s_facts.specs.Conjuncts.{formula_of}
use Rattle.ws2s_context.specs.Opening.{AreOf, IsOpened, spined}
use Rattle.ws2s_context.proofs.OpeningLemmas.{IsOpened-trans}
use Rattle.ws2s_context.proofs.opening.spine_of.Goals as goal
use Rattle.ws2s_context.proofs.opening.spine_of.Goals.{else-steps-test, then-steps-test+in_ok-descend+then-not-branch}

pub steps-preserved : goal.steps-preserved
steps-preserved c =
    let l = c.steps in
    let fs = c.args.interner.now in
    record {
      there = c.in_ok-descend.ensures.there;
      opened = λ tracks of.
          IsOpened-trans tracks (formula_of fs c.args.id) (spined fs l.spine) (spined fs c.descend.new.spine)
          (l.invariant.opened tracks of) (c.in_ok-descend.ensures.opened tracks of);
    }

pub returns-clause-opened : goal.returns-clause-opened
returns-clause-opened c =
    let fs = c.args.interner.now in
    let Wanted : Spine → Type 0 = λ spine. (tracks : List ℕ) → AreOf c.args.weigh.now tracks → IsOpened tracks (formula_of fs c.args.id) (spined fs spine) in
    elim c.steps-test.branch [
      | else-steps-test w ↦ subst Wanted (sym w.spine-is) c.steps.invariant.opened
      | then-steps-test+in_ok-descend+then-not-branch w ↦
          subst Wanted (sym w.spine-is) (λ tracks of.
          IsOpened-trans tracks (formula_of fs c.args.id) (spined fs c.steps.spine) (spined fs w.descend.new.spine)
          (c.steps.invariant.opened tracks of) (w.in_ok-descend.ensures.opened tracks of))
    ]

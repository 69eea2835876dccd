-- Nothing new leaves the marks.
use Rattle.gta_reach.proofs.explore.mark_new.Goals as goal

pub returns-clause-unchanged : goal.returns-clause-unchanged
returns-clause-unchanged c = λ none. (c.touch_state.ensures.unchanged none).1

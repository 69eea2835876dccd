use Rattle.std.proofs.Common.{Bool, [], ◌∷◌, ◌++◌, if◌then◌else◌, refl, ◌∙◌, ap, subst, Result, Ok}
use Rattle.store_exec.specs.declared.fault.Fault.{Fault}
use Rattle.store_exec.specs.Steps.{truth_of}
use Rattle.store_exec.specs.Going.{IsTruthAt}
use Rattle.whole_turns.specs.Standings.{loop_of, entry_of, left_of}
use Rattle.whole_turns.proofs.Forms.{chosen_turn, untold_turn}
use Rattle.whole_turns.proofs.turning.take_behind.Goals as goal

pub returns-in-Ok-clause-goes : goal.returns-in-Ok-clause-goes
returns-in-Ok-clause-goes c = λ program waiting.
    let l = c.args.behind in
    let told = subst (IsTruthAt c.args.store l.place.line l.test.now)
    (c.in_ok-truth.was ∙ ap (λ (r : Result Bool Fault). Ok r) c.in-Ok.is) c.read_truth.ensures in
    chosen_turn (entry_of c.args.activation) waiting l.place.line c.args.store c.args.store l.test.now c.in-Ok.truth
    (λ (truth : Bool). if truth then l.body.now ++ loop_of l ∷ [] else []) (left_of (c.args.activation).left) (left_of c.push_body.new.left)
    told refl c.in_ok-push_body-in-Ok.ensures

pub returns-clause-goes : goal.returns-clause-goes
returns-clause-goes c = λ program waiting.
    let l = c.args.behind in
    let told = subst (IsTruthAt c.args.store l.place.line l.test.now)
    (c.in_ok-truth.was ∙ ap (λ (r : Result Bool Fault). Ok r) c.in-Err.is) c.read_truth.ensures in
    untold_turn l.place.line _ (truth_of c.args.store l.test.now) c.in-Err.fault told.0 told.1

use Rattle.std.proofs.Common.{◌∙◌}
use Rattle.site_list.specs.States.{guard, next_track}
use Rattle.site_list.specs.Reading.{Told}
use Rattle.site_list.specs.Conditions.{condition}
use Rattle.site_list.specs.Codes.{with_ways}
use Rattle.pred_transform.proofs.CodeLemmas.{fork-taken}
use Rattle.pred_transform.proofs.codes.take_first.Goals as goal

pub returns : goal.returns
returns c = λ line next wanted s is.
    let types = c.args.l.now.types in
    let vars = c.args.l.now.vars in
    let told : Told = condition types vars line c.args.cond.now (guard s) s in
    let forks = c.in_ok-way.ensures line next wanted s is in
    fork-taken types vars next wanted (next_track types vars (told.1)) (with_ways types vars (told.0) (told.1)) c.ways.new.w c.in_ok-way.way
    c.in_ok-values.values c.in_ok-events.events forks.0 forks.1 (c.in_ok-values.ensures ∙ c.as_slice.ensures) (c.in_ok-events.ensures ∙ c.as_slice-2.ensures)

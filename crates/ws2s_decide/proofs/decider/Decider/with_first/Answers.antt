use Rattle.ws2s_decide.proofs.OwnLemmas.{Rests-none}
use Rattle.ws2s_decide.proofs.decider.Decider.with_first.Goals as goal

pub returns-clause-kept : goal.returns-clause-kept
returns-clause-kept c = λ shelf none.
    let rests = Rests-none c.args.guide c.new-3.result shelf none in
    rw c.in_ok-kept.ensures
    (record {
      is_shelf = rests.holds.is_shelf;
      each = rests.holds.each;
      tables = rests.holds.tables;
      minimal = rests.kept_for;
      first = c.new-2.ensures _;
    })

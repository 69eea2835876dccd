use Rattle.std.proofs.Common.{◌≡◌, ◌↔◌, []}
use Rattle.std.specs.FinMap.{keys}
use Rattle.store_logic.specs.Terms.{outside}
use Rattle.store_logic.specs.Satisfaction.{SatAll}
use Rattle.store_sat.specs.WalksKept.{ground}
use Rattle.store_sat.specs.Tasks.{question_of, spot_of}
use Rattle.store_sat.specs.Steps.{far, IsReady, Stands}
use Rattle.store_sat.proofs.judge.Judge.judge.Given as goal

-- the whole of which the task is a part is the assertion
abbrev pub invariant-loop-walks : goal.invariant-loop-walks
invariant-loop-walks l = record {
  same : Stands l.self.types.now l.self.store.now (spot_of l.self.store.now l.spine) (question_of l.self.store.now l.task) ↔
      SatAll l.self.types.now [] l.self.store.now outside l.assertion;
  ready : IsReady l.self.store.now l.spine (question_of l.self.store.now l.task);
  on : l.walks ≡ ground l.self.types.now l.self.store.now;
}

abbrev pub decreases-loop-walks : goal.decreases-loop-walks
decreases-loop-walks l = far (keys l.self.store.now.cells) (spot_of l.self.store.now l.spine) (question_of l.self.store.now l.task)

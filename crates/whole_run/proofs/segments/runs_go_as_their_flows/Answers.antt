use Rattle.whole_run.proofs.SegmentLemmas.{segment}
use Rattle.whole_run.proofs.segments.runs_go_as_their_flows.Goals as goal

pub returns : goal.returns
returns c = λ program entry waiting left s lead n answer h k. segment program entry waiting n left s lead answer h k

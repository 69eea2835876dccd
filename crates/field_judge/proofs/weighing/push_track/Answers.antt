use Rattle.field_judge.proofs.WeighedLemmas.{pushed-some}
use Rattle.field_judge.proofs.weighing.push_track.Goals as goal

pub returns : goal.returns
returns c = pushed-some c.args.tracks.now c.push.new.self c.args.track c.in-Some.track c.in-Some.is c.in_ok-push.ensures.ok

use Rattle.std.proofs.Common.{ap, ◌∙◌}
use Rattle.ll1_reader.specs.Readings.{Bottom}
use Rattle.ll1_reader.specs.Frames.{pile}
use Rattle.ll1_reader.proofs.FrameLemmas.{pile-last}
use Rattle.ll1_reader.proofs.work.push_row.Goals as goal

pub returns-clause-stack : goal.returns-clause-stack
returns-clause-stack g c = ap (λ frames. pile frames Bottom) c.in_ok-push.ensures.items ∙ pile-last c.args.work.now.frames.items _ Bottom

use Rattle.std.proofs.Common.{◌∙◌, ap, ◌==◌}
use Rattle.ll1_reader.proofs.AdvanceLemmas.{finished_by}
use Rattle.ll1_reader.proofs.step.finish.Goals as goal

pub returns-then-branch : goal.returns-then-branch
returns-then-branch g c =
    let exposed = rw c.if-branch.true at c.in_ok-expose.ensures in
    finished_by g.G.Grammar.rules g.G.Grammar.table c.args.work.now c.expose.new.work c.is_empty.result exposed
    (c.is_empty.ensures ∙ ap (λ x. x == 0) c.expose.new.work.frames.ok.0)

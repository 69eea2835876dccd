use Rattle.std.proofs.Common.{ℕ, ◌+◌, ap, sym, subst}
use Rattle.cert_nodes.specs.Nodes.{AreNodes}
use Rattle.cert_parts.proofs.DecideLemmas.{choose-node}
use Rattle.cert_parts.proofs.decide.choose.Goals as goal

pub returns-in-Ok-clause-leads : goal.returns-in-Ok-clause-leads
returns-in-Ok-clause-leads c = λ f h of_low of_high.
    choose-node c.args.nodes.now c.push-made.new.self
    (record { node = c.len-count.result + 1; track = c.args.track; low = c.args.low; high = c.args.high }) (c.len-count.result + 1) f h
    c.in-Ok.ensures.kept (ap (λ (n : ℕ). n + 1) c.len-count.ensures) of_low of_high

pub returns-in-Err-clause-drawn : goal.returns-in-Err-clause-drawn
returns-in-Err-clause-drawn c = subst AreNodes (sym c.in-Err.ensures.err) c.requires

-- Accepting states by their flags.
use Rattle.std.proofs.Common.{Bool, false, Option, sym, ap, ◌∙◌}
use Rattle.std.specs.Prelude.{unwrap_or}
use Rattle.std.proofs.lemmas.Option.{unwrap_or-slice_get}
use Rattle.gta_reach.proofs.ReachLemmas.{accepting-form}
use Rattle.gta_witness.proofs.search.is_accepting.Goals as goal

pub returns-in-Some : goal.returns-in-Some
returns-in-Some c = ap (λ (o : Option Bool). unwrap_or o false) c.in-Some.ensures.value
    ∙ unwrap_or-slice_get c.args.form.now.accepting c.args.state false ∙ sym (accepting-form c.args.form.now c.args.state)

pub returns-in-None : goal.returns-in-None
returns-in-None c = ap (λ (o : Option Bool). unwrap_or o false) c.in-None.ensures.value
    ∙ unwrap_or-slice_get c.args.form.now.accepting c.args.state false ∙ sym (accepting-form c.args.form.now c.args.state)

use Rattle.cert_theory.proofs.SectionsLemmas.{no-satisfying}
use Rattle.cert_check.proofs.section.check_section.Goals as goal

pub returns-in-Ok-clause-none : goal.returns-in-Ok-clause-none
returns-in-Ok-clause-none c = λ a finite sat.
    let shows = c.in-Ok.ensures in
    no-satisfying c.args.g.now c.args.f.now shows.nodes shows.stages c.spaces-spaces.ensures.guide shows.is_section a finite sat

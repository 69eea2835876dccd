use Rattle.std.proofs.Common.{[], ◌∷◌, ◌∙◌}
use Rattle.gta_keep.proofs.PassesLemmas.{Passes-both, HoldsBeside-after}
use Rattle.gta_keep.proofs.building.minimal_of.Goals as goal

pub returns-in_err-minimal-clause-limit : goal.returns-in_err-minimal-clause-limit
returns-in_err-minimal-clause-limit c = λ stopped.
    c.quotient_of.ensures.limit (let why = rw stopped at c.from_residual.ensures in c.in_err-minimal.was ∙ (let is = why.1 in cc))

pub merged-requires : goal.merged-requires
merged-requires c =
    HoldsBeside-after c.args.g.now c.args.shelf.now c.quotient_of.new.shelf (c.args.a ∷ []) (c.in_ok-minimal.minimal ∷ []) c.args.kept.now
    c.quotient_of.new.kept c.in_ok-minimal.ensures.ok c.requires

pub returns-clause-ok : goal.returns-clause-ok
returns-clause-ok c =
    let kept = c.quotient_of.new.kept in
    Passes-both c.args.g.now c.args.shelf.now c.quotient_of.new.shelf c.merged.new.shelf (c.args.a ∷ []) (c.in_ok-minimal.minimal ∷ [])
    (c.merged.result ∷ []) c.args.kept.now kept kept c.in_ok-minimal.ensures.ok c.merged.ensures.passes

pub returns-clause-minimal : goal.returns-clause-minimal
returns-clause-minimal c = λ f recognises. c.merged.ensures.minimal f (c.in_ok-minimal.ensures.minimal f recognises)

use Rattle.std.proofs.Common.{[], ◌∷◌, ◌∙◌}
use Rattle.gta_keep.proofs.PassesLemmas.{Passes-both, HoldsBeside-after}
use Rattle.gta_keep.proofs.building.build_atom.Goals as goal

pub returns-in_err-made-clause-limit : goal.returns-in_err-made-clause-limit
returns-in_err-made-clause-limit c = λ stopped.
    c.try_atom.ensures.limit (let why = rw stopped at c.from_residual.ensures in c.in_err-made.was ∙ (let is = why.1 in cc))

pub merged-requires : goal.merged-requires
merged-requires c =
    HoldsBeside-after c.args.g.now c.args.shelf.now c.try_atom.new.shelf [] (c.in_ok-made.made ∷ []) c.args.kept.now c.try_atom.new.kept
    c.in_ok-made.ensures.ok c.requires.held

pub returns-clause-ok : goal.returns-clause-ok
returns-clause-ok c =
    let kept = c.try_atom.new.kept in
    Passes-both c.args.g.now c.args.shelf.now c.try_atom.new.shelf c.merged.new.shelf [] (c.in_ok-made.made ∷ []) (c.merged.result ∷ [])
    c.args.kept.now kept kept c.in_ok-made.ensures.ok c.merged.ensures.passes

pub returns-clause-minimal : goal.returns-clause-minimal
returns-clause-minimal c = c.merged.ensures.minimal c.args.f.now c.in_ok-made.ensures.minimal

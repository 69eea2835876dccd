use Rattle.std.proofs.Common.{[], ◌∷◌}
use Rattle.gta_keep.proofs.MadeLemmas.{registered-one, passes-one, stays-one, made-ok, made-err}
use Rattle.gta_keep.proofs.AnswerLemmas.{answer-minimal-stays}
use Rattle.gta_keep.proofs.building.quotient_of.Goals as goal

pub release-requires : goal.release-requires
release-requires c =
    let built = c.build_minimal-minimal.ensures in
    registered-one c.args.g.now c.args.shelf.now c.build_minimal-minimal.new.shelf c.build_minimal-minimal.new.shelf c.args.a c.args.kept.now
    c.build_minimal-minimal.new.kept c.build_minimal-minimal.result built.ok built.err c.requires

pub returns-clause-ok : goal.returns-clause-ok
returns-clause-ok c =
    let built = c.build_minimal-minimal.ensures in
    let g = c.args.g.now in
    let was = c.args.shelf.now in
    let before = c.args.kept.now in
    let after = c.build_minimal-minimal.new.kept in
    made-ok g was c.release.new.shelf (c.args.a ∷ []) before after c.build_minimal-minimal.result
    (passes-one g was c.build_minimal-minimal.new.shelf c.release.new.shelf c.args.a before after c.build_minimal-minimal.result built.ok built.err c.requires
    c.release.ensures.shelf c.release.ensures.dropped)

pub returns-clause-minimal : goal.returns-clause-minimal
returns-clause-minimal c =
    let built = c.build_minimal-minimal.ensures in
    let g = c.args.g.now in
    let was = c.args.shelf.now in
    let before = c.args.kept.now in
    let after = c.build_minimal-minimal.new.kept in
    answer-minimal-stays g was c.build_minimal-minimal.new.shelf c.release.new.shelf c.args.a c.build_minimal-minimal.result
    (stays-one g was c.build_minimal-minimal.new.shelf c.release.new.shelf c.args.a before after c.build_minimal-minimal.result built.ok built.err c.requires
    c.release.ensures.shelf c.release.ensures.dropped) built.minimal

pub returns-clause-err : goal.returns-clause-err
returns-clause-err c =
    let built = c.build_minimal-minimal.ensures in
    let g = c.args.g.now in
    let was = c.args.shelf.now in
    let before = c.args.kept.now in
    let after = c.build_minimal-minimal.new.kept in
    made-err g was c.release.new.shelf (c.args.a ∷ []) before after c.build_minimal-minimal.result
    (passes-one g was c.build_minimal-minimal.new.shelf c.release.new.shelf c.args.a before after c.build_minimal-minimal.result built.ok built.err c.requires
    c.release.ensures.shelf c.release.ensures.dropped)

use Rattle.std.proofs.Common.{[], ◌∷◌}
use Rattle.gta_keep.proofs.MadeLemmas.{registered-one, passes-one, stays-one, made-ok, made-err}
use Rattle.gta_keep.proofs.AnswerLemmas.{answer-subset-stays}
use Rattle.gta_keep.proofs.building.drop_track.Goals as goal

pub release-requires : goal.release-requires
release-requires c =
    let built = c.build_projection-sets.ensures in
    registered-one c.args.g.now c.args.shelf.now c.build_projection-sets.new.shelf c.build_projection-sets.new.shelf c.args.a c.args.kept.now
    c.build_projection-sets.new.kept c.build_projection-sets.result built.ok built.err c.requires

pub returns-clause-ok : goal.returns-clause-ok
returns-clause-ok c =
    let built = c.build_projection-sets.ensures in
    let g = c.args.g.now in
    let was = c.args.shelf.now in
    let before = c.args.kept.now in
    let after = c.build_projection-sets.new.kept in
    made-ok g was c.release.new.shelf (c.args.a ∷ []) before after c.build_projection-sets.result
    (passes-one g was c.build_projection-sets.new.shelf c.release.new.shelf c.args.a before after c.build_projection-sets.result built.ok built.err c.requires
    c.release.ensures.shelf c.release.ensures.dropped)

pub returns-clause-subset : goal.returns-clause-subset
returns-clause-subset c =
    let built = c.build_projection-sets.ensures in
    let g = c.args.g.now in
    let was = c.args.shelf.now in
    let before = c.args.kept.now in
    let after = c.build_projection-sets.new.kept in
    answer-subset-stays g was c.build_projection-sets.new.shelf c.release.new.shelf c.args.a c.args.t.0 c.build_projection-sets.result
    (stays-one g was c.build_projection-sets.new.shelf c.release.new.shelf c.args.a before after c.build_projection-sets.result built.ok built.err c.requires
    c.release.ensures.shelf c.release.ensures.dropped) built.subset

pub returns-clause-err : goal.returns-clause-err
returns-clause-err c =
    let built = c.build_projection-sets.ensures in
    let g = c.args.g.now in
    let was = c.args.shelf.now in
    let before = c.args.kept.now in
    let after = c.build_projection-sets.new.kept in
    made-err g was c.release.new.shelf (c.args.a ∷ []) before after c.build_projection-sets.result
    (passes-one g was c.build_projection-sets.new.shelf c.release.new.shelf c.args.a before after c.build_projection-sets.result built.ok built.err c.requires
    c.release.ensures.shelf c.release.ensures.dropped)

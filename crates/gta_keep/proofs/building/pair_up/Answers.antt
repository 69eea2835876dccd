use Rattle.std.proofs.Common.{[], ◌∷◌}
use Rattle.gta_keep.proofs.MadeLemmas.{registered-first, registered-second, passes-two, stays-two, made-ok, made-err}
use Rattle.gta_keep.proofs.AnswerLemmas.{answer-product-stays}
use Rattle.gta_keep.proofs.building.pair_up.Goals as goal

pub release-requires : goal.release-requires
release-requires c =
    let built = c.build_product-pairs.ensures in
    let now = c.build_product-pairs.new.shelf in
    registered-first c.args.g.now c.args.shelf.now now now now c.args.a c.args.b c.args.kept.now
    c.build_product-pairs.new.kept c.build_product-pairs.result built.ok built.err c.requires

pub release-requires-2 : goal.release-requires-2
release-requires-2 c =
    let built = c.build_product-pairs.ensures in
    let now = c.build_product-pairs.new.shelf in
    let then = c.release.new.shelf in
    registered-second c.args.g.now c.args.shelf.now now then then c.args.a c.args.b c.args.kept.now
    c.build_product-pairs.new.kept c.build_product-pairs.result built.ok built.err c.requires c.release.ensures.shelf c.release.ensures.dropped

pub returns-clause-ok : goal.returns-clause-ok
returns-clause-ok c =
    let built = c.build_product-pairs.ensures in
    let g = c.args.g.now in
    let was = c.args.shelf.now in
    let now = c.build_product-pairs.new.shelf in
    let then = c.release.new.shelf in
    let new = c.release-2.new.shelf in
    let before = c.args.kept.now in
    let after = c.build_product-pairs.new.kept in
    made-ok g was new (c.args.a ∷ c.args.b ∷ []) before after c.build_product-pairs.result
    (passes-two g was now then new c.args.a c.args.b before after c.build_product-pairs.result built.ok built.err c.requires
    c.release.ensures.shelf c.release.ensures.dropped c.release-2.ensures.shelf c.release-2.ensures.dropped)

pub returns-clause-product : goal.returns-clause-product
returns-clause-product c =
    let built = c.build_product-pairs.ensures in
    let g = c.args.g.now in
    let was = c.args.shelf.now in
    let now = c.build_product-pairs.new.shelf in
    let then = c.release.new.shelf in
    let new = c.release-2.new.shelf in
    let before = c.args.kept.now in
    let after = c.build_product-pairs.new.kept in
    answer-product-stays g was now new c.args.a c.args.b c.build_product-pairs.result
    (stays-two g was now then new c.args.a c.args.b before after c.build_product-pairs.result built.ok built.err c.requires
    c.release.ensures.shelf c.release.ensures.dropped c.release-2.ensures.shelf c.release-2.ensures.dropped) built.product

pub returns-clause-err : goal.returns-clause-err
returns-clause-err c =
    let built = c.build_product-pairs.ensures in
    let g = c.args.g.now in
    let was = c.args.shelf.now in
    let now = c.build_product-pairs.new.shelf in
    let then = c.release.new.shelf in
    let new = c.release-2.new.shelf in
    let before = c.args.kept.now in
    let after = c.build_product-pairs.new.kept in
    made-err g was new (c.args.a ∷ c.args.b ∷ []) before after c.build_product-pairs.result
    (passes-two g was now then new c.args.a c.args.b before after c.build_product-pairs.result built.ok built.err c.requires
    c.release.ensures.shelf c.release.ensures.dropped c.release-2.ensures.shelf c.release-2.ensures.dropped)

use Rattle.std.proofs.Common.{[], ◌∷◌, ◌∙◌, arith}
use Rattle.ws2s_core.specs.declared.formula.Formula.TheVariants.{Ex2}
use Rattle.gta_keep.proofs.PassesLemmas.{HoldsBeside-after}
use Rattle.gta_keep.proofs.MadeLemmas.{IfOk-map}
use Rattle.gta_keep.proofs.AnswerLemmas.{then-ok, then-err, then-limit, recognises-subset, size-subset}
use Rattle.gta_keep.proofs.building.quantify.Goals as goal

pub returns-in_err-sets-clause-limit : goal.returns-in_err-sets-clause-limit
returns-in_err-sets-clause-limit c = λ stopped others f s n p r holds of_a have has_f has_sets has_whole.
    (let lt = c.drop_track.ensures.limit (let why = rw stopped at c.from_residual.ensures in c.in_err-sets.was ∙ (let is = why.1 in cc))
    others f s n p holds of_a have has_f has_sets in omega (arith, lt))

pub minimal_of-requires : goal.minimal_of-requires
minimal_of-requires c =
    HoldsBeside-after c.args.g.now c.args.shelf.now c.drop_track.new.shelf (c.args.a ∷ []) (c.in_ok-sets.sets ∷ []) c.args.kept.now
    c.drop_track.new.kept c.in_ok-sets.ensures.ok c.requires

pub returns-clause-ok : goal.returns-clause-ok
returns-clause-ok c =
    then-ok c.args.g.now c.args.shelf.now c.drop_track.new.shelf c.minimal_of.new.shelf (c.args.a ∷ []) c.in_ok-sets.sets c.args.kept.now
    c.drop_track.new.kept c.minimal_of.new.kept c.in_ok-sets.ensures.ok c.minimal_of.result c.minimal_of.ensures.ok

pub returns-clause-minimal : goal.returns-clause-minimal
returns-clause-minimal c =
    IfOk-map _ _ c.minimal_of.result (λ m is f of_a.
    is (Ex2 c.args.t f) (recognises-subset c.args.g.now c.drop_track.ensures.guide c.args.shelf.now c.drop_track.new.shelf c.in_ok-sets.sets c.args.a
    c.args.t f of_a c.in_ok-sets.ensures.subset)) c.minimal_of.ensures.minimal

pub returns-clause-err : goal.returns-clause-err
returns-clause-err c =
    then-err c.args.g.now c.args.shelf.now c.drop_track.new.shelf c.minimal_of.new.shelf (c.args.a ∷ []) c.in_ok-sets.sets c.args.kept.now
    c.drop_track.new.kept c.minimal_of.new.kept c.in_ok-sets.ensures.ok c.minimal_of.result c.minimal_of.ensures.err

pub returns-clause-limit : goal.returns-clause-limit
returns-clause-limit c = λ stopped others f s n p r holds of_a have has_f has_sets has_whole.
    let g = c.args.g.now in
    let guide = c.drop_track.ensures.guide in
    let was = c.args.shelf.now in
    let now = c.drop_track.new.shelf in
    let sets = c.in_ok-sets.sets in
    let subset = c.in_ok-sets.ensures.subset in
    let here = (c.in_ok-sets.ensures.ok).holds others holds in
    let lt = then-limit g was now c.minimal_of.new.shelf (c.args.a ∷ []) sets c.args.kept.now c.drop_track.new.kept c.minimal_of.new.kept
    c.in_ok-sets.ensures.ok (c.minimal_of.ensures.limit stopped) others (Ex2 c.args.t f) s p r holds
    (recognises-subset g guide was now sets c.args.a c.args.t f of_a subset) have
    (size-subset g guide was now sets here.is_shelf c.args.a c.args.t f of_a subset p has_sets) has_whole in
    omega (arith, lt)

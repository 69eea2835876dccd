use Rattle.std.proofs.Common.{[], ◌∷◌, ◌∙◌, arith}
use Rattle.ws2s_core.specs.declared.formula.Formula.TheVariants.{And}
use Rattle.gta_keep.proofs.PassesLemmas.{HoldsBeside-after}
use Rattle.gta_keep.proofs.MadeLemmas.{IfOk-map}
use Rattle.gta_keep.proofs.AnswerLemmas.{then-ok, then-err, then-limit, recognises-product, size-product}
use Rattle.gta_keep.proofs.building.conjoin.Goals as goal

pub returns-in_err-pairs-clause-limit : goal.returns-in_err-pairs-clause-limit
returns-in_err-pairs-clause-limit c = λ stopped others f h s n m p r holds of_a of_b have has_f has_h has_pairs has_both.
    (let lt = c.pair_up.ensures.limit (let why = rw stopped at c.from_residual.ensures in c.in_err-pairs.was ∙ (let is = why.1 in cc))
    others f h s n m p holds of_a of_b have has_f has_h has_pairs in omega (arith, lt))

pub minimal_of-requires : goal.minimal_of-requires
minimal_of-requires c =
    HoldsBeside-after c.args.g.now c.args.shelf.now c.pair_up.new.shelf (c.args.a ∷ c.args.b ∷ []) (c.in_ok-pairs.pairs ∷ []) c.args.kept.now
    c.pair_up.new.kept c.in_ok-pairs.ensures.ok c.requires

pub returns-clause-ok : goal.returns-clause-ok
returns-clause-ok c =
    then-ok c.args.g.now c.args.shelf.now c.pair_up.new.shelf c.minimal_of.new.shelf (c.args.a ∷ c.args.b ∷ []) c.in_ok-pairs.pairs c.args.kept.now
    c.pair_up.new.kept c.minimal_of.new.kept c.in_ok-pairs.ensures.ok c.minimal_of.result c.minimal_of.ensures.ok

pub returns-clause-minimal : goal.returns-clause-minimal
returns-clause-minimal c =
    IfOk-map _ _ c.minimal_of.result (λ m is f h of_a of_b.
    is (And f h) (recognises-product c.args.g.now c.pair_up.ensures.guide c.args.shelf.now c.pair_up.new.shelf c.in_ok-pairs.pairs c.args.a c.args.b f h
    of_a of_b c.in_ok-pairs.ensures.product)) c.minimal_of.ensures.minimal

pub returns-clause-err : goal.returns-clause-err
returns-clause-err c =
    then-err c.args.g.now c.args.shelf.now c.pair_up.new.shelf c.minimal_of.new.shelf (c.args.a ∷ c.args.b ∷ []) c.in_ok-pairs.pairs c.args.kept.now
    c.pair_up.new.kept c.minimal_of.new.kept c.in_ok-pairs.ensures.ok c.minimal_of.result c.minimal_of.ensures.err

pub returns-clause-limit : goal.returns-clause-limit
returns-clause-limit c = λ stopped others f h s n m p r holds of_a of_b have has_f has_h has_pairs has_both.
    let g = c.args.g.now in
    let guide = c.pair_up.ensures.guide in
    let was = c.args.shelf.now in
    let now = c.pair_up.new.shelf in
    let pairs = c.in_ok-pairs.pairs in
    let product = c.in_ok-pairs.ensures.product in
    let here = (c.in_ok-pairs.ensures.ok).holds others holds in
    let lt = then-limit g was now c.minimal_of.new.shelf (c.args.a ∷ c.args.b ∷ []) pairs c.args.kept.now c.pair_up.new.kept c.minimal_of.new.kept
    c.in_ok-pairs.ensures.ok (c.minimal_of.ensures.limit stopped) others (And f h) s p r holds
    (recognises-product g guide was now pairs c.args.a c.args.b f h of_a of_b product) have
    (size-product g guide was now pairs here.is_shelf c.args.a c.args.b f h of_a of_b product p has_pairs) has_both in
    omega (arith, lt)

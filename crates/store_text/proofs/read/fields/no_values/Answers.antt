use Rattle.std.proofs.Common.{◌≡◌, suc, ◌+◌, [], ◌∷◌, ◌++◌, take, map, None, ap, ◌∙◌, arith}
use Rattle.store_core.specs.Tables.{fields_of}
use Rattle.store_core.proofs.Steps.{map_all}
use Rattle.store_text.proofs.SayingLemmas.{none_more}
use Rattle.store_text.proofs.read.fields.no_values.Goals as goal

pub loop-place-preserved : goal.loop-place-preserved
loop-place-preserved c =
    let one : suc c.loop-place._place ≡ c.loop-place._place + 1 = omega arith in
    let fields = fields_of c.args.types.now c.args.ty in
    c.in_ok-push.ensures.ok ∙ ap (λ l. l ++ None ∷ []) c.loop-place.invariant
    ∙ none_more fields c.loop-place._place (omega (arith, c.loop-place-test.true, c.fields-place-end.ensures))
    ∙ ap (λ n. map (λ f. None) (take n fields)) one

pub returns-clause-values : goal.returns-clause-values
returns-clause-values c =
    c.loop-place.invariant ∙ map_all (λ f. None) (fields_of c.args.types.now c.args.ty) c.loop-place._place
    (omega (arith, c.loop-place-test.false, c.fields-place-end.ensures))

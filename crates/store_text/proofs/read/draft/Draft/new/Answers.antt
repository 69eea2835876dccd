use Rattle.std.proofs.Common.{◌≡◌, suc, ◌+◌, [], ◌∷◌, ◌++◌, take, map, None, ap, ◌∙◌, arith}
use Rattle.std.specs.FinMap.{from_sorted}
use Rattle.store_text.specs.DraftBodies.{said_cells}
use Rattle.store_core.proofs.Steps.{map_all}
use Rattle.store_text.proofs.SayingLemmas.{none_more}
use Rattle.store_text.proofs.DraftLemmas.{no_said}
use Rattle.store_text.proofs.read.draft.Draft.new.Goals as goal

pub loop-place-preserved : goal.loop-place-preserved
loop-place-preserved c =
    let one : suc c.loop-place._place ≡ c.loop-place._place + 1 = omega arith in
    c.in_ok-push.ensures.ok ∙ ap (λ l. l ++ None ∷ []) c.loop-place.invariant
    ∙ none_more c.args.vars.now c.loop-place._place (omega (arith, c.loop-place-test.true, c.vars-place-end.ensures.value))
    ∙ ap (λ n. map (λ v. None) (take n c.args.vars.now)) one

pub returns : goal.returns
returns c = λ i. record {
  cells = (ap (λ es. from_sorted (said_cells es)) c.new.ensures.empty ∙ no_said) i;
  vars = (c.loop-place.invariant ∙ map_all (λ v. None) c.args.vars.now c.loop-place._place
      (omega (arith, c.loop-place-test.false, c.vars-place-end.ensures.value))) i;
  mentions = c.new-2.ensures i;
}

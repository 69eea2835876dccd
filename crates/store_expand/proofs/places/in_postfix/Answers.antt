use Rattle.std.proofs.Common.{◌≡◌, List, [], ◌∷◌, ◌++◌, length, refl, sym, ap, ◌∙◌, map, reverse, arith}
use Rattle.store_logic.proofs.PostfixLemmas.{map-reverse}
use Rattle.store_expand.specs.Opening.{form_at}
use Rattle.store_expand.specs.Places.{spot}
use Rattle.store_expand.proofs.StepLemmas.{forms_of, steps-on}
use Rattle.store_expand.proofs.places.in_postfix.Goals as goal

pub loop-next-smaller : goal.loop-next-smaller
loop-next-smaller c =
    (steps-on c.args.preds.now c.args.assertion.now c.requires c.loop-next.pending.items c.pop.new.self.items c.loop-next.places.items
    c.step.new.pending.items c.step.new.places.items c.in-Some.next c.in-Some.ensures.items c.in_ok-step.ensures c.loop-next.invariant.right).less

pub loop-next-preserved : goal.loop-next-preserved
loop-next-preserved c =
    let it = steps-on c.args.preds.now c.args.assertion.now c.requires c.loop-next.pending.items c.pop.new.self.items c.loop-next.places.items
    c.step.new.pending.items c.step.new.places.items c.in-Some.next c.in-Some.ensures.items c.in_ok-step.ensures c.loop-next.invariant.right in
    record { whole = it.same ∙ c.loop-next.invariant.whole; right = it.right }

no_length : {X : Type 0} (xs : List X) → length xs ≡ 0 → xs ≡ []
no_length [] e = refl
no_length (x ∷ xs) e = absurd (omega arith)

pub returns : goal.returns
returns c =
    ap (λ places. map form_at (map spot places)) c.reverse.ensures.items
    ∙ ap (map form_at) (map-reverse spot c.loop-next.places.items)
    ∙ map-reverse form_at (map spot c.loop-next.places.items)
    ∙ sym (ap (λ pending. forms_of c.args.preds.now (map spot pending) ++ reverse (map form_at (map spot c.loop-next.places.items)))
    (no_length c.loop-next.pending.items (omega (arith, c.in_default.ensures.cases.0))))
    ∙ c.loop-next.invariant.whole

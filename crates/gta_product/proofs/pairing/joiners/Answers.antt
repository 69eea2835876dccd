use Rattle.std.proofs.Common.{◌≡◌, List, [], ◌∷◌, length, length-append, Option, Some, None, slice_get, sym, ◌∙◌, ap, subst, inl, inr, arith}
use Rattle.bdd_walk.specs.declared.joiner.Joiner.{Joiner}
use Rattle.bdd_walk.specs.Fits.{Fits}
use Rattle.gta_product.specs.Numbers.{numbered}
use Rattle.gta_product.proofs.NumbersLemmas.{get-snoc}
use Rattle.gta_product.proofs.pairing.joiners.Goals as goal

no-joiner : (joiner : Joiner) → ◌≡◌ {A = Option Joiner} None (Some joiner) → ⊥
no-joiner joiner e = cc

pub loop-space-init : goal.loop-space-init
loop-space-init c = record {
  many = ap (λ (js : List Joiner). length js) c.in_ok-joiners.ensures.items;
  each = λ s joiner there. absurd (no-joiner joiner (ap (λ (js : List Joiner). slice_get js s) (sym c.in_ok-joiners.ensures.items) ∙ there));
}

pub loop-space-preserved : goal.loop-space-preserved
loop-space-preserved c = record {
  many =
      let a = ap (λ (js : List Joiner). length js) c.in_ok-push.ensures.items in
      let b = length-append c.loop-space.joiners.items (c.new.result ∷ []) in
      let m = c.loop-space.invariant.many in
      omega arith;
  each = λ s joiner there dropped shelf answers. elim (get-snoc c.loop-space.joiners.items c.new.result joiner s
      (ap (λ (js : List Joiner). slice_get js s) (sym c.in_ok-push.ensures.items) ∙ there)) [
        | inl before ↦ c.loop-space.invariant.each s joiner before dropped shelf answers
        | inr last ↦ subst (λ (j : Joiner). Fits j dropped shelf answers) (sym last.1) (c.new.ensures dropped shelf answers)
      ];
}

pub returns : goal.returns
returns c = λ shelf spaces many. record {
  many = let m = c.loop-space.invariant.many in let e = c.spaces-space-end.ensures.value in omega arith;
  each = λ s joiner pairs at_joiner at_pairs. c.loop-space.invariant.each s joiner at_joiner None shelf (numbered pairs);
}

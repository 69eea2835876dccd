use Rattle.std.proofs.Common.{◌≡◌, List, [], ◌∷◌, length, length-append, Option, Some, None, slice_get, sym, ◌∙◌, ap, subst, inl, inr, arith}
use Rattle.gta_product.specs.declared.growing.Growth.{Growth}
use Rattle.gta_product.specs.Growing.{IsNew}
use Rattle.gta_product.proofs.NumbersLemmas.{get-snoc}
use Rattle.gta_product.proofs.GrownLemmas.{IsGrown-none}
use Rattle.gta_product.proofs.growing.growths.Goals as goal

no-growth : (growth : Growth) → ◌≡◌ {A = Option Growth} None (Some growth) → ⊥
no-growth growth e = cc

pub loop-space-init : goal.loop-space-init
loop-space-init c = record {
  many = ap (λ (gs : List Growth). length gs) c.in_ok-growths.ensures.items;
  none = λ s growth there. absurd (no-growth growth (ap (λ (gs : List Growth). slice_get gs s) (sym c.in_ok-growths.ensures.items) ∙ there));
}

pub loop-space-preserved : goal.loop-space-preserved
loop-space-preserved c =
    let more = c.in_ok-growth.growth in
    record {
      many =
          let a = ap (λ (gs : List Growth). length gs) c.in_ok-push.ensures.items in
          let b = length-append c.loop-space.growths.items (more ∷ []) in
          let m = c.loop-space.invariant.many in
          omega arith;
      none = λ s growth there. elim (get-snoc c.loop-space.growths.items more growth s
          (ap (λ (gs : List Growth). slice_get gs s) (sym c.in_ok-push.ensures.items) ∙ there)) [
            | inl before ↦ c.loop-space.invariant.none s growth before
            | inr last ↦ subst (λ (g : Growth). IsNew g) (sym last.1) c.in_ok-growth.ensures
          ];
    }

pub returns : goal.returns
returns c = λ AB a b spaces shelf. record {
  many = let m = c.loop-space.invariant.many in let e = c.spaces-space-end.ensures.value in omega arith;
  each = λ s growth there. IsGrown-none c.args.g.now AB a b spaces shelf s growth (c.loop-space.invariant.none s growth there);
}

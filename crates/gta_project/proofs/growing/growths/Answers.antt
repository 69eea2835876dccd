use Rattle.std.proofs.Common.{◌≡◌, List, [], ◌∷◌, length, length-append, Option, Some, None, slice_get, sym, ◌∙◌, ap, subst, inl, inr, arith}
use Rattle.gta_project.specs.declared.growing.Growth.{Growth}
use Rattle.gta_subsets.proofs.NumbersLemmas.{get-snoc}
use Rattle.gta_project.proofs.GrowingLemmas.{IsNew, HasSeen-none}
use Rattle.gta_project.proofs.growing.growths.Goals as goal

no-growth : (growth : Growth) → ◌≡◌ {A = Option Growth} None (Some growth) → ⊥
no-growth growth e = cc

pub loop-space-init : goal.loop-space-init
loop-space-init c = record {
  many = ap (λ (gs : List Growth). length gs) c.new-growths.ensures.items;
  none = λ s growth there. absurd (no-growth growth (ap (λ (gs : List Growth). slice_get gs s) (sym c.new-growths.ensures.items) ∙ there));
}

pub loop-space-preserved : goal.loop-space-preserved
loop-space-preserved c =
    let more : Growth = record { rows = c.new.result; columns = c.new-in-loop-space.result } in
    record {
      many =
          let a = ap (λ (gs : List Growth). length gs) c.in_ok-push.ensures.items in
          let b = length-append c.loop-space.growths.items (more ∷ []) in
          let m = c.loop-space.invariant.many in
          omega arith;
      none = λ s growth there. elim (get-snoc c.loop-space.growths.items more growth s
          (ap (λ (gs : List Growth). slice_get gs s) (sym c.in_ok-push.ensures.items) ∙ there)) [
            | inl before ↦ c.loop-space.invariant.none s growth before
            | inr last ↦ subst (λ (g : Growth). IsNew g.rows × IsNew g.columns) (sym last.1) (
              record { ones = c.new.ensures.ones; keys = c.new.ensures.keys },
              record { ones = c.new-in-loop-space.ensures.ones; keys = c.new-in-loop-space.ensures.keys },
            )
          ];
    }

pub returns : goal.returns
returns c = λ A a t initials. record {
  many = let m = c.loop-space.invariant.many in let e = c.spaces-space-end.ensures.value in omega arith;
  each = λ s growth there. let none = c.loop-space.invariant.none s growth there in HasSeen-none _ _ a s growth none.0 none.1;
}

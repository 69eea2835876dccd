-- One space after the other.
use Rattle.std.proofs.Common.{◌<◌, List, [], ◌∷◌, length, length-append, refl, sym, ◌∙◌, ap, subst, arith}
use Rattle.gta_core.specs.declared.part.Part.{Part}
use Rattle.gta_product.specs.Building.{AreParts}
use Rattle.gta_product.proofs.PartLemmas.{get-at, get-set_other, length-set_at}
use Rattle.gta_product.proofs.AssembledLemmas.{AreParts-none, AreParts-next}
use Rattle.gta_product.proofs.pairing.parts_of.Goals as goal

pub loop-space-init : goal.loop-space-init
loop-space-init c = record {
  many = ap (λ (ps : List Part). length ps) c.new-parts.ensures;
  same = refl;
  rest = λ s later. refl;
  parts = λ AB a b shelf done. subst (λ (ps : List Part). AreParts c.args.g.now AB a b c.args.numbers.now.items shelf c.args.roots.now ps)
      (sym c.new-parts.ensures) (AreParts-none c.args.g.now AB a b c.args.numbers.now.items shelf c.args.roots.now c.requires.none);
}

pub part_of-requires-clause-few : goal.part_of-requires-clause-few
part_of-requires-clause-few c =
    let s = c.loop-space.space in
    let growth = c.index_mut.result.now in
    let invariant = c.loop-space.invariant in
    let bound = c.spaces-space-end.ensures.value in
    let same = invariant.same in
    let at = get-at c.loop-space.growths.items s growth (omega (arith, c.requires.growths, c.loop-space-test.true)) c.index_mut.ensures.value in
    c.requires.few s growth (sym (invariant.rest s (omega arith)) ∙ at)

pub loop-space-preserved : goal.loop-space-preserved
loop-space-preserved c =
    let g = c.args.g.now in
    let s = c.loop-space.space in
    let numbers = c.args.numbers.now.items in
    let growths = c.loop-space.growths.items in
    let growth = c.index_mut.result.now in
    let parts = c.loop-space.parts in
    let part = c.in_ok-part.part in
    let invariant = c.loop-space.invariant in
    let same = invariant.same in
    let bound = c.spaces-space-end.ensures.value in
    let inside : s < length g = omega (arith, c.loop-space-test.true) in
    let at = get-at growths s growth (omega (arith, c.requires.growths, inside)) c.index_mut.ensures.value in
    let was = sym (invariant.rest s (omega arith)) ∙ at in
    let is = get-at numbers s c.index.result.now (omega (arith, c.requires.numbers, inside)) c.index.ensures in
    record {
      many =
          let a = ap (λ (ps : List Part). length ps) c.in_ok-push.ensures.ok in
          let b = length-append parts (part ∷ []) in
          let m = invariant.many in
          omega arith;
      same = length-set_at growths s c.part_of.new.growth ∙ same;
      rest = λ k later. get-set_other growths s k c.part_of.new.growth (λ here. absurd (omega arith)) ∙ invariant.rest k (omega arith);
      parts = λ AB a b shelf done. subst (λ (ps : List Part). AreParts g AB a b numbers shelf c.part_of.new.roots ps) (sym c.in_ok-push.ensures.ok)
          (AreParts-next g AB a b numbers shelf c.spaces-space-end.ensures.guide c.args.growths.now.items done parts s (sym invariant.many) inside
          growth was c.index.result.now is c.loop-space.roots c.part_of.new.roots part c.in_ok-part.ensures.roots
          c.in_ok-part.ensures.part (invariant.parts AB a b shelf done));
    }

pub returns-clause-many : goal.returns-clause-many
returns-clause-many c = let m = c.loop-space.invariant.many in let e = c.spaces-space-end.ensures.value in omega arith

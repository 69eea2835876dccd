-- One part more.
use Rattle.std.proofs.Common.{ℕ, List, [], ◌∷◌, length, sym, ◌∙◌, ap, subst, arith, length-append}
use Rattle.gta_core.specs.declared.part.Part.{Part}
use Rattle.gta_merge.specs.Parts.{IsPartOf, ArePartsOf}
use Rattle.gta_merge.proofs.MergedLemmas.{own-guide, spaces-are, ArePartsOf-push}
use Rattle.gta_merge.proofs.merged.merged_parts.Goals as goal

pub loop-space-preserved : goal.loop-space-preserved
loop-space-preserved c =
    let shelf = c.args.shelf.now in
    let a = c.args.a.now in
    let parts = c.loop-space.parts in
    let part = c.in_ok-part.part in
    let roots = c.merged_part.new.roots in
    let many = c.loop-space.invariant.many in
    record {
      many = ap (λ (ps : List Part). length ps) c.in_ok-push.ensures.ok ∙ length-append parts (part ∷ []) ∙ (omega arith);
      parts = subst (λ (ps : List Part). ArePartsOf shelf a roots ps) (sym c.in_ok-push.ensures.ok)
          (ArePartsOf-push shelf a parts c.loop-space.roots roots part c.loop-space.invariant.parts c.in_ok-part.ensures.grown
          (subst (λ (n : ℕ). IsPartOf shelf a roots n part) (sym many) c.in_ok-part.ensures.part) c.in_ok-part.ensures.used);
      valid = c.in_ok-part.ensures.valid;
    }

pub merged_part-requires-clause-auto : goal.merged_part-requires-clause-auto
merged_part-requires-clause-auto c = own-guide c.args.shelf.now c.args.a.now c.args.g.now c.requires.auto

pub merged_part-requires-clause-inside : goal.merged_part-requires-clause-inside
merged_part-requires-clause-inside c =
    let many = spaces-are c.args.shelf.now c.args.a.now c.args.g.now c.requires.auto in
    let t = c.loop-space-test.true in
    let b = c.loop-space.auto.space-end in
    let e = c.spaces-space-end.ensures.value in
    omega arith

pub returns-clause-many : goal.returns-clause-many
returns-clause-many c =
    let many = spaces-are c.args.shelf.now c.args.a.now c.args.g.now c.requires.auto in
    let t = c.loop-space-test.false in
    let b = c.loop-space.auto.space-end in
    let e = c.spaces-space-end.ensures.value in
    let l = c.loop-space.invariant.many in
    omega arith

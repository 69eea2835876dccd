-- One space more.
use Rattle.std.proofs.Common.{◌≡◌, inl, inr, subst, arith}
use Rattle.std.proofs.lemmas.Bool.{cases_lt}
use Rattle.gta_merge.specs.Merged.{HasNoEqualLines}
use Rattle.gta_merge.proofs.MergedLemmas.{own-guide, spaces-are}
use Rattle.gta_merge.proofs.told.is_told_apart.Goals as goal

pub is_space_told-requires-clause-auto : goal.is_space_told-requires-clause-auto
is_space_told-requires-clause-auto c = own-guide c.args.shelf.now c.args.a.now c.args.g.now c.requires

pub is_space_told-requires-clause-inside : goal.is_space_told-requires-clause-inside
is_space_told-requires-clause-inside c =
    let many = spaces-are c.args.shelf.now c.args.a.now c.args.g.now c.requires in
    let t = c.loop-space-test.true in
    let b = c.loop-space.auto.space-end in
    let e = c.spaces-space-end.ensures.value in
    omega arith

pub loop-space-preserved : goal.loop-space-preserved
loop-space-preserved c = λ s s_in. elim (cases_lt s c.loop-space.space) [
  | inl before ↦ c.loop-space.invariant s before
  | inr last ↦
      let is : c.loop-space.space ≡ s = omega arith in
      subst (HasNoEqualLines c.args.shelf.now c.args.a.now) is (c.in_ok-told.ensures c.if-not-told.false)
]

pub returns : goal.returns
returns c = λ told. record {
  each = λ s s_in.
      let many = spaces-are c.args.shelf.now c.args.a.now c.args.g.now c.requires in
      let t = c.loop-space-test.false in
      let b = c.loop-space.auto.space-end in
      let e = c.spaces-space-end.ensures.value in
      c.loop-space.invariant s (omega arith);
}

-- One part after the other.
use Rattle.std.proofs.Common.{◌≡◌, ◌+◌, ◌<◌, ◌≤◌, ℕ, List, [], length, inl, inr, sym, ◌∙◌, ap, subst, arith}
use Rattle.std.specs.Prelude.{slice_index_or}
use Rattle.std.proofs.lemmas.List.{get_or_default}
use Rattle.std.proofs.lemmas.Bool.{cases_eq}
use Rattle.gta_classes.specs.declared.part.SpaceClasses.{SpaceClasses}
use Rattle.gta_refine.specs.Refined.{part_at}
use Rattle.gta_refine.proofs.ScratchLemmas.{MostBelow, most-all}
use Rattle.gta_refine.proofs.scratch.most_states.Goals as goal
use Rattle.gta_refine.proofs.scratch.most_states.Goals.{then-most-len, else-most-len}

-- one part more
MostBelow-next : (spaces : List SpaceClasses) (most more below : ℕ) (part : SpaceClasses) → below < length spaces →
    part ≡ slice_index_or spaces below part → most ≤ more → length part.reached ≤ more → MostBelow spaces most below → MostBelow spaces more (below + 1)
MostBelow-next spaces most more below part inside is least fits so_far s s_in = elim (cases_eq s below) [
  | inl same ↦
      let at : part_at spaces s ≡ part =
      ap (part_at spaces) same ∙ get_or_default spaces below (record { reached = []; classes = []; representatives = [] }) part inside ∙ sym is in
      let e = ap (λ (p : SpaceClasses). length p.reached) at in
      omega arith
  | inr before ↦ let b = so_far s (omega arith) in omega arith
]

pub loop-part-init : goal.loop-part-init
loop-part-init c = λ s s_in. absurd (omega arith)

pub loop-part-preserved : goal.loop-part-preserved
loop-part-preserved c =
    elim c.if-most-len.branch [
      | then-most-len w ↦ MostBelow-next c.args.spaces.now c.loop-part.most c.if-most-len.most c.loop-part.part-index c.part-item.result
          c.loop-part-test.true c.part-item.is
          (let m = w.most-is in let t = w.if-most-len.true in let l = w.len-most.ensures in let e = c.len.ensures in omega arith)
          (let m = w.most-is in let l = w.len-most.ensures in omega arith) c.loop-part.invariant
      | else-most-len w ↦ MostBelow-next c.args.spaces.now c.loop-part.most c.if-most-len.most c.loop-part.part-index c.part-item.result
          c.loop-part-test.true c.part-item.is (let m = w.most-is in omega arith)
          (let m = w.most-is in let t = w.if-most-len.false in let e = c.len.ensures in omega arith) c.loop-part.invariant
    ]

pub returns : goal.returns
returns c =
    let end : c.loop-part.part-index ≡ length c.args.spaces.now =
    (let t = c.loop-part-test.false in let e = c.loop-part.auto.part-index-end in omega arith) in
    most-all c.args.spaces.now c.loop-part.most (subst (MostBelow c.args.spaces.now c.loop-part.most) end c.loop-part.invariant)

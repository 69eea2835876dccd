use Rattle.std.proofs.Common.{ℕ, List, [], ◌∷◌, length, inl, inr, sym, ap, subst, ◌∙◌, arith, length-append}
use Rattle.std.specs.Prelude.{slice_get}
use Rattle.gta_theory.proofs.ListedLemmas.{slice_get-push}
use Rattle.gta_core.specs.declared.build.SpacePart.{SpacePart}
use Rattle.gta_atom.specs.Children.{test_of}
use Rattle.gta_atom.specs.Cells.{IsPartIn}
use Rattle.gta_room.proofs.ProgressLemmas.{Adds-both}
use Rattle.gta_atom.proofs.PartsLemmas.{IsPartIn-kept}
use Rattle.gta_atom.proofs.making.parts.Goals as goal

pub returns-in_err-part-clause-adds : goal.returns-in_err-part-clause-adds
returns-in_err-part-clause-adds c =
    Adds-both _ c.args.shelf.now c.loop-space.shelf c.part_in.new.shelf c.loop-space.invariant.2 c.part_in.ensures.adds

pub returns-in_err-part-clause-stuck : goal.returns-in_err-part-clause-stuck
returns-in_err-part-clause-stuck c = λ stopped.
    c.part_in.ensures.stuck (let why = rw stopped at c.from_residual.ensures in c.in_err-part.was ∙ (let is = why.1 in cc))

pub returns-in_err-push-clause-adds : goal.returns-in_err-push-clause-adds
returns-in_err-push-clause-adds c =
    Adds-both _ c.args.shelf.now c.loop-space.shelf c.part_in.new.shelf c.loop-space.invariant.2 c.part_in.ensures.adds

pub loop-space-preserved : goal.loop-space-preserved
loop-space-preserved c =
    let g = c.args.g.now in
    let t = test_of c.args.test.now in
    let spaces = c.loop-space.spaces in
    let part = c.in_ok-part.part in
    let new = c.part_in.new.shelf in
    let keeps = c.part_in.ensures.adds.keeps in
    let here = c.loop-space.invariant.0 in (
      ap (λ (ps : List SpacePart). length ps) c.in_ok-push.ensures.ok ∙ (let n = here in omega (arith, length-append spaces (part ∷ []))),
      (λ s found at. elim (slice_get-push spaces part found s (ap (λ (ps : List SpacePart). slice_get ps s) (sym c.in_ok-push.ensures.ok) ∙ at)) [
        | inl early ↦ IsPartIn-kept g c.args.plan t c.loop-space.shelf new s found keeps (c.loop-space.invariant.1 s found early)
        | inr last ↦ subst (λ (m : ℕ). IsPartIn g c.args.plan t new m found) (sym (last.0 ∙ here))
            (subst (IsPartIn g c.args.plan t new c.loop-space.space) last.1 c.in_ok-part.ensures.part)
      ]),
      Adds-both _ c.args.shelf.now c.loop-space.shelf new c.loop-space.invariant.2 c.part_in.ensures.adds,
    )

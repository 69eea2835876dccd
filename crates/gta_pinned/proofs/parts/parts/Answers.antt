use Rattle.std.proofs.Common.{ℕ, List, [], ◌∷◌, length, inl, inr, sym, ap, subst, ◌∙◌, arith, length-append}
use Rattle.std.specs.Prelude.{slice_get}
use Rattle.gta_theory.specs.Guides.{IsSpace}
use Rattle.gta_theory.proofs.ListedLemmas.{slice_get-push}
use Rattle.std.proofs.lemmas.Option.{slice_get_within}
use Rattle.gta_core.specs.declared.build.SpacePart.{SpacePart}
use Rattle.gta_pinned.specs.Parts.{IsPartIn}
use Rattle.gta_pinned.proofs.MakingLemmas.{Makes-trans}
use Rattle.gta_pinned.proofs.RootsLemmas.{AreAllUsable-kept, IsPartIn-kept}
use Rattle.gta_pinned.proofs.parts.parts.Goals as goal

pub loop-space-preserved : goal.loop-space-preserved
loop-space-preserved c =
    let g = c.args.g.now in
    let lists = c.args.shapes.now.items in
    let spaces = c.loop-space.spaces in
    let part = c.in_ok-part.part in
    let old = c.loop-space.shelf in
    let new = c.part_in.new.shelf in
    let keeps = c.part_in.ensures.makes.keeps in
    let here = c.loop-space.invariant.many in
    let usable = AreAllUsable-kept g c.args.shelf.now old lists c.loop-space.invariant.makes.keeps c.requires.usable in
    record {
      many = ap (λ (ps : List SpacePart). length ps) c.in_ok-push.ensures.ok ∙ (let n = here in omega (arith, length-append spaces (part ∷ [])));
      parts = λ s found at. elim (slice_get-push spaces part found s (ap (λ (ps : List SpacePart). slice_get ps s) (sym c.in_ok-push.ensures.ok) ∙ at)) [
        | inl early ↦
            let there : IsSpace g s = (let w = slice_get_within spaces s found early in omega arith) in
            IsPartIn-kept g old new lists s found there keeps usable (c.loop-space.invariant.parts s found early)
        | inr last ↦ subst (λ (m : ℕ). IsPartIn g new lists m found) (sym (last.0 ∙ here))
            (subst (IsPartIn g new lists c.loop-space.space) last.1 c.in_ok-part.ensures.part)
      ];
      makes = Makes-trans c.args.shelf.now old new c.loop-space.invariant.makes c.part_in.ensures.makes;
    }

use Rattle.std.proofs.Common.{List, length, sym, ap, subst}
use Rattle.gta_theory.specs.Guides.{Spaces}
use Rattle.gta_core.specs.declared.build.SpacePart.{SpacePart}
use Rattle.gta_core.specs.Given.{IsGiven}
use Rattle.gta_gallery.specs.Told.{two_spaces}
use Rattle.gta_gallery.proofs.ToldLemmas.{told-given}
use Rattle.gta_gallery.proofs.built.built.Goals as goal

pub build-requires : goal.build-requires
build-requires c =
    let shelf = c.told.new.shelf in
    let told = c.in_ok-root.root in
    let accepting = c.in_ok-accepting.accepting in
    let given = told-given shelf told accepting c.in_ok-root.ensures.valid c.in_ok-root.ensures.states
    (ap length c.in_ok-accepting.ensures) in
    subst (λ (g : Spaces). IsGiven g shelf c.in_ok-spaces.spaces accepting) (sym c.requires)
    (subst (λ (spaces : List SpacePart). IsGiven two_spaces shelf spaces accepting) (sym c.in_ok-spaces.ensures) given)

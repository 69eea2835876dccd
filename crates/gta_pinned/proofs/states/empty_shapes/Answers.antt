use Rattle.std.proofs.Common.{[], ◌∷◌, ℕ, List, replicate, sym, ap, subst, ◌∙◌}
use Rattle.gta_pinned.specs.declared.shapes.Shape.{Shape}
use Rattle.gta_pinned.specs.Shapes.{AreShapes}
use Rattle.gta_pinned.proofs.ListsLemmas.{AreShapes-alone}
use Rattle.gta_pinned.proofs.states.empty_shapes.Goals as goal

pub returns-clause-shapes : goal.returns-clause-shapes
returns-clause-shapes c =
    let g = c.args.g.now in
    let one : Shape = record { left = 1; right = 1; test = c.in_ok-test.test } in
    subst (λ (lists : List (List Shape)). AreShapes g c.telling.new.shelf c.args.rising.now lists)
    (sym (c.in_ok-shapes.ensures ∙ ap (λ (n : ℕ). replicate n (one ∷ [])) c.spaces.ensures.value))
    (AreShapes-alone g c.telling.new.shelf c.args.rising.now c.in_ok-test.test c.in_ok-test.ensures.tells c.spaces.ensures.guide)

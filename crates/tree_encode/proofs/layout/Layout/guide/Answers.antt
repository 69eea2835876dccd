use Rattle.std.proofs.Common.{◌∙◌, List, ℕ, sym, subst}
use Rattle.gta_theory.specs.Guides.{IsGuide}
use Rattle.tree_encode.proofs.SpacesLemmas.{IsGuide-guide_of}
use Rattle.tree_encode.proofs.layout.Layout.guide.Goals as goal

pub new-requires : goal.new-requires
new-requires c =
    subst (λ (g : List (ℕ × ℕ)). IsGuide g) (sym (c.from_vec.ensures ∙ c.in_ok-spaces.ensures))
    (IsGuide-guide_of c.self.inside.types.now c.self.inside.vars.now c.deref.result.now)

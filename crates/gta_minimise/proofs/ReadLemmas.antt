-- What a form's automaton reads.
use Rattle.std.proofs.Common.{◌≡◌, ℕ, List, refl}
use Rattle.labels.specs.Labels.{Label}
use Rattle.gta_theory.specs.Guides.{left, right}
use Rattle.gta_reach.specs.declared.form.Form.{Form}
use Rattle.gta_classes.specs.declared.part.SpaceClasses.{SpaceClasses}
use Rattle.gta_reach.specs.Form.{guide_of, automaton_of}
use Rattle.gta_refine.specs.Refined.{class_at, representative_at, quotient_of}

pub step-quotient : (form : Form) (spaces : List SpaceClasses) (s x y : ℕ) (label : Label) → (quotient_of form spaces).step s x y label
    ≡ class_at spaces s ((automaton_of form).step s (representative_at spaces (left (guide_of form) s) x)
    (representative_at spaces (right (guide_of form) s) y) label)
unfolding quotient_of
step-quotient form spaces s x y label = refl

pub accepting-quotient : (form : Form) (spaces : List SpaceClasses) (x : ℕ) →
    (quotient_of form spaces).accepting x ≡ (automaton_of form).accepting (representative_at spaces 0 x)
unfolding quotient_of
accepting-quotient form spaces x = refl

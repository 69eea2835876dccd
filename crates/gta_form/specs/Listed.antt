-- The form of an automaton of a shelf.
use Rattle.std.specs.Prelude.{◌≡◌, ℕ, ◌<◌, Some, slice_get}
use Rattle.labels.specs.Labels.{Label}
use Rattle.bdd_nodes.specs.Shelf.{Contents}
use Rattle.gta_theory.specs.Guides.{Spaces, IsSpace, left, right}
use Rattle.gta_core.specs.Auto.{AutoView, states_of, initial_of, automaton_of}
use Rattle.gta_reach.specs.declared.form.FormSpace.{FormSpace}
use Rattle.gta_reach.specs.declared.form.Form.{Form}
use Rattle.gta_reach.specs.Form as form

-- the part of a space, whose functions are those of the automaton
pub record IsSpaceOf (g : Spaces) (shelf : Contents) (a : AutoView) (s : ℕ) (space : FormSpace) : Type 0 where
  pub children : slice_get g s ≡ Some space.children
  pub states : space.states ≡ states_of a s
  pub initial : space.initial ≡ initial_of a s
  pub is_space : form.IsFormSpace (states_of a (left g s)) (states_of a (right g s)) space
  pub steps : (l r : ℕ) (label : Label) → l < states_of a (left g s) → r < states_of a (right g s) →
      form.step_in space l r label ≡ (automaton_of shelf a).step s l r label

-- the form has the automaton's states, and its steps from them
pub record IsFormOf (g : Spaces) (shelf : Contents) (a : AutoView) (f : Form) : Type 0 where
  pub guide : form.guide_of f ≡ g
  pub states : (s : ℕ) → IsSpace g s → form.states_of f s ≡ states_of a s
  pub initial : (s : ℕ) → IsSpace g s → (form.automaton_of f).initial s ≡ (automaton_of shelf a).initial s
  pub steps : (s l r : ℕ) (label : Label) → IsSpace g s → l < states_of a (left g s) → r < states_of a (right g s) →
      (form.automaton_of f).step s l r label ≡ (automaton_of shelf a).step s l r label
  pub accepting : (q : ℕ) → q < states_of a 0 → (form.automaton_of f).accepting q ≡ (automaton_of shelf a).accepting q

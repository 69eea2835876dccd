-- Automata whose functions are listed. (Tables of guided tree automata as shared decision diagrams: Klarlund and Møller,
-- MONA Version 1.4 User Manual.)
use Rattle.std.specs.Prelude.{◌≡◌, ℕ, ◌+◌, ◌*◌, ◌^◌, ◌<◌, ◌≤◌, false, length, map, slice_get, slice_index, slice_index_or}
use Rattle.std.specs.Prelude.{Some, unwrap_or, option_map}
use Rattle.labels.specs.Labels.{Function}
use Rattle.bdd_list.specs.declared.listing.Listed.{Listed}
use Rattle.bdd_list.specs.declared.listing.Listed.TheVariants.{Leaf}
use Rattle.bdd_list.specs.Listing.{function_of, IsIn, AreOrdered}
use Rattle.gta_theory.specs.Guides.{Spaces, IsGuide, left, right}
use Rattle.gta_theory.specs.Automata.{Automaton, IsStable}
use Rattle.gta_theory.specs.Constructions.{IsClosed}
use Rattle.gta_theory.specs.Numbered.{Below}
use Rattle.gta_reach.specs.declared.form.FormSpace.{FormSpace}
use Rattle.gta_reach.specs.declared.form.Form.{Form}

-- which root of the listing a pair of child states has, by the classes of the two
abbrev pub cell_in : FormSpace → ℕ → ℕ → ℕ
cell_in space l r = slice_index space.cells (slice_index space.rows l * space.width + slice_index space.columns r)

-- what is listed for a root
abbrev pub root_in : FormSpace → ℕ → Listed
root_in space cell = slice_index_or space.listing.roots cell (Leaf 0)

-- the function of a pair of child states
abbrev pub step_in : FormSpace → ℕ → ℕ → Function
step_in space l r = function_of space.listing (root_in space (cell_in space l r))

-- the guide that the automaton is over
abbrev pub guide_of : Form → Spaces
guide_of form = map (λ space. space.children) form.spaces

-- how many states a space has
abbrev pub states_of : Form → ℕ → ℕ
states_of form s = unwrap_or (option_map (λ space. space.states) (slice_get form.spaces s)) 0

-- the initial state of a space
abbrev pub initial_of : Form → ℕ → ℕ
initial_of form s = unwrap_or (option_map (λ space. space.initial) (slice_get form.spaces s)) 0

-- the automaton
unfoldable pub automaton_of : Form → Automaton ℕ
automaton_of form = record {
  initial = initial_of form;
  step = λ s l r. unwrap_or (option_map (λ space. step_in space l r) (slice_get form.spaces s)) (λ label. 0);
  accepting = λ q. slice_index_or form.accepting q false;
}

-- a space whose children have so many states: each pair of these has a root of the listing
pub record IsFormSpace (lefts rights : ℕ) (space : FormSpace) : Type 0 where
  pub rows : lefts ≤ length space.rows
  pub columns : rights ≤ length space.columns
  pub cells : (l r : ℕ) → l < lefts → r < rights →
      slice_index space.rows l * space.width + slice_index space.columns r < length space.cells
  pub roots : (l r : ℕ) → l < lefts → r < rights → cell_in space l r < length space.listing.roots
  pub ordered : AreOrdered space.listing.nodes
  pub inside : (cell : ℕ) → cell < length space.listing.roots → IsIn space.listing.nodes (root_in space cell)
  pub few : space.states ≤ 2 ^ 31

-- the form stands for an automaton over its guide: each pair of child states has a function, what steps give are states,
-- and it is stable
pub record IsForm (form : Form) : Type 0 where
  pub guide : IsGuide (guide_of form)
  pub spaces : (s : ℕ) (space : FormSpace) → slice_get form.spaces s ≡ Some space →
      IsFormSpace (states_of form (left (guide_of form) s)) (states_of form (right (guide_of form) s)) space
  pub accepting : length form.accepting ≡ states_of form 0
  pub closed : IsClosed (guide_of form) (automaton_of form) (Below (states_of form))
  pub stable : IsStable (guide_of form) (automaton_of form)

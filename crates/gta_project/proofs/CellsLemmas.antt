-- The roots of a part that is built, for states of its children.
use Rattle.std.proofs.Common.{◌≡◌, ℕ, ◌+◌, ◌*◌, ◌<◌, ◌≤◌, List, length, Some, Contains, slice_get, sym, ◌∙◌, ap, arith}
use Rattle.std.proofs.lemmas.Option.{slice_get_within}
use Rattle.labels.specs.Labels.{Label, with_track}
use Rattle.bdd_nodes.specs.declared.node_ref.NodeRef.{NodeRef}
use Rattle.bdd_nodes.specs.Shelf.{Contents}
use Rattle.gta_theory.specs.Guides.{Spaces}
use Rattle.gta_theory.specs.Constructions.{IsStepOf}
use Rattle.gta_subsets.specs.Subsets.{set_step, subsets}
use Rattle.gta_subsets.proofs.SubsetsLemmas.{set_step-same}
use Rattle.gta_core.specs.declared.part.Part.{Part}
use Rattle.gta_core.specs.Auto.{AutoView, place_in, automaton_of}
use Rattle.gta_core.specs.Placing.{HasPlace}
use Rattle.gta_core.proofs.CellsLemmas.{get-index, cell-inside, step-classes, place_in-numbered, HasPlace-numbered}
use Rattle.gta_subsets.specs.Numbers.{number_in}
use Rattle.gta_subsets.specs.Classes.{IsClassed}
use Rattle.gta_project.specs.Filling.{IsCell}
use Rattle.gta_project.specs.Building.{IsBuilt}

-- a step from states of two sets is one from states with the same roots
step-moved : (first : Contents) (a : AutoView) (t s : ℕ) (own : Part) → slice_get a.parts s ≡ Some own → (lefts rights more_lefts more_rights : List ℕ) →
    ((l : ℕ) → Contains lefts l → (m : ℕ) × Contains more_lefts m × (slice_get own.rows l ≡ slice_get own.rows m)) →
    ((r : ℕ) → Contains rights r → (n : ℕ) × Contains more_rights n × (slice_get own.columns r ≡ slice_get own.columns n)) →
    (label : Label) (q : ℕ) → IsStepOf (automaton_of first a) t s (Contains lefts) (Contains rights) label q →
    IsStepOf (automaton_of first a) t s (Contains more_lefts) (Contains more_rights) label q
step-moved first a t s own at lefts rights more_lefts more_rights row column label q step =
    let m = row step.left step.in_left in
    let n = column step.right step.in_right in
    record {
      left = m.0;
      right = n.0;
      bit = step.bit;
      in_left = m.1;
      in_right = n.1;
      is_step = sym (step-classes first a s own step.left m.0 step.right n.0 at m.2 n.2 (with_track label t step.bit)) ∙ step.is_step;
    }

-- a part that is built, of an automaton of the first shelf
module _ (g : Spaces) (first : Contents) (a : AutoView) (t : ℕ) (initials : List (List ℕ)) (s : ℕ) (lefts rights numbers : List (List ℕ)) (own : Part)
    (in_own : slice_get a.parts s ≡ Some own)
    (shelf : Contents) (roots : List NodeRef) (part : Part)
    (built : IsBuilt g (subsets (automaton_of first a) t initials) s lefts rights numbers own shelf roots part) where
  abbrev pub width : ℕ
  width = length built.columns

  abbrev pub height : ℕ
  height = length built.rows

  -- the root for a set of each child, and its function
  pub record HasRoot (l r : ℕ) (p q : List ℕ) : Type 0 where
    pub place : ℕ
    pub root : NodeRef
    pub at : place_in part l r ≡ Some place
    pub there : slice_get roots place ≡ Some root
    pub cell : IsCell (set_step (automaton_of first a) t) s numbers p q shelf root

  module _ (l r : ℕ) (p q : List ℕ) (at_l : slice_get lefts l ≡ Some p) (at_r : slice_get rights r ≡ Some q) where
    row-of : IsClassed lefts own.rows (record { of = part.rows; ones = built.rows }) l p
    row-of = built.row_classes.each l p at_l

    column-of : IsClassed rights own.columns (record { of = part.columns; ones = built.columns }) r q
    column-of = built.column_classes.each r q at_r

    same-step : (label : Label) → set_step (automaton_of first a) t s (row-of).one (column-of).one label ≡ set_step (automaton_of first a) t s p q label
    same-step label =
        let row = (row-of).same in
        let column = (column-of).same in
        set_step-same (automaton_of first a) t s (row-of).one p (column-of).one q label
        (step-moved first a t s own in_own (row-of).one (column-of).one p q
        (λ n there. let m = row.back n there in (m.0, m.1, sym m.2)) (λ n there. let m = column.back n there in (m.0, m.1, sym m.2)) label)
        (step-moved first a t s own in_own p q (row-of).one (column-of).one row.there column.there label)

    pub has-root : HasRoot l r p q
    has-root =
        let i = (row-of).class in
        let j = (column-of).class in
        let below = slice_get_within built.rows i (row-of).one (row-of).stands in
        let within = slice_get_within built.columns j (column-of).one (column-of).stands in
        let inside = cell-inside height width i j below within in
        let place = part.first + (i * width + j) in
        let root = get-index roots place (omega (arith, inside, built.within)) in
        let cell = built.cell i j (row-of).one (column-of).one root.0 (row-of).stands (column-of).stands root.1 in
        record {
          place = place;
          root = root.0;
          at = place_in-numbered part height width built.width built.cells l r i j (row-of).has (column-of).has below within;
          there = root.1;
          cell = record {
            valid = cell.valid;
            states = λ label. ap (number_in numbers) (sym (same-step label)) ∙ cell.states label;
          };
        }

  -- a place of the part is that of some states
  pub is-place : (place : ℕ) → part.first ≤ place → place < part.first + length part.cells → HasPlace part place
  is-place = HasPlace-numbered part height width built.width built.cells
      (λ i below. let class = built.row_classes.used i below in (class.at, class.has))
      (λ j within. let class = built.column_classes.used j within in (class.at, class.has))

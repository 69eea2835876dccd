-- The roots of a part that is built, for states of its children.
use Rattle.std.proofs.Common.{◌≡◌, ℕ, ◌+◌, ◌*◌, ◌<◌, ◌≤◌, List, length, Some, slice_get, sym, ◌∙◌, ap, arith}
use Rattle.std.proofs.lemmas.Option.{slice_get_within}
use Rattle.labels.specs.Labels.{Label}
use Rattle.bdd_nodes.specs.declared.node_ref.NodeRef.{NodeRef}
use Rattle.bdd_nodes.specs.Shelf.{Contents}
use Rattle.gta_theory.specs.Guides.{Spaces}
use Rattle.gta_theory.specs.Constructions.{pairs}
use Rattle.gta_core.specs.declared.part.Part.{Part}
use Rattle.gta_core.specs.Auto.{AutoView, place_in, automaton_of}
use Rattle.gta_core.specs.Placing.{HasPlace}
use Rattle.gta_core.proofs.CellsLemmas.{get-index, cell-inside, step-classes, place_in-numbered, HasPlace-numbered}
use Rattle.gta_product.specs.Numbers.{number_in}
use Rattle.gta_product.specs.Classes.{IsClassed}
use Rattle.gta_product.specs.Filling.{IsCell}
use Rattle.gta_product.specs.Building.{IsBuilt}

-- a part that is built, of automata of the first shelf
module _ (g : Spaces) (first : Contents) (a b : AutoView) (s : ℕ) (lefts rights numbers : List (ℕ × ℕ)) (part_a part_b : Part)
    (in_a : slice_get a.parts s ≡ Some part_a) (in_b : slice_get b.parts s ≡ Some part_b)
    (shelf : Contents) (roots : List NodeRef) (part : Part)
    (built : IsBuilt g (pairs (automaton_of first a) (automaton_of first b)) s lefts rights numbers part_a part_b shelf roots part) where
  abbrev pub width : ℕ
  width = length built.columns

  abbrev pub height : ℕ
  height = length built.rows

  -- the root for a pair of each child, and its function
  pub record HasRoot (l r : ℕ) (p q : ℕ × ℕ) : Type 0 where
    pub place : ℕ
    pub root : NodeRef
    pub at : place_in part l r ≡ Some place
    pub there : slice_get roots place ≡ Some root
    pub cell : IsCell (pairs (automaton_of first a) (automaton_of first b)) s numbers p q shelf root

  module _ (l r : ℕ) (p q : ℕ × ℕ) (at_l : slice_get lefts l ≡ Some p) (at_r : slice_get rights r ≡ Some q) where
    row-of : IsClassed part_a.rows part_b.rows part.rows built.rows l p
    row-of = built.row_classes.each l p at_l

    column-of : IsClassed part_a.columns part_b.columns part.columns built.columns r q
    column-of = built.column_classes.each r q at_r

    same-step : (label : Label) → (pairs (automaton_of first a) (automaton_of first b)).step s (row-of).one (column-of).one label
        ≡ (pairs (automaton_of first a) (automaton_of first b)).step s p q label
    same-step label =
        let of_a = step-classes first a s part_a ((row-of).one).0 p.0 ((column-of).one).0 q.0 in_a
        (sym (row-of).same.first) (sym (column-of).same.first) label in
        let of_b = step-classes first b s part_b ((row-of).one).1 p.1 ((column-of).one).1 q.1 in_b
        (sym (row-of).same.second) (sym (column-of).same.second) label in
        ap (λ (n : ℕ). let x : ℕ × ℕ = (n, (automaton_of first b).step s ((row-of).one).1 ((column-of).one).1 label) in x) of_a
        ∙ ap (λ (n : ℕ). let x : ℕ × ℕ = ((automaton_of first a).step s p.0 q.0 label, n) in x) of_b

    pub has-root : HasRoot l r p q
    has-root =
        let i = (row-of).class in
        let j = (column-of).class in
        let below = slice_get_within built.rows i (row-of).one (row-of).stands in
        let within = slice_get_within built.columns j (column-of).one (column-of).stands in
        let inside = cell-inside height width i j below within in
        let place = part.first + (i * width + j) in
        let root = get-index roots place (omega (arith, inside, built.within)) in
        let cell = built.cell i j (row-of).one (column-of).one root.0 (row-of).stands (column-of).stands root.1 in
        record {
          place = place;
          root = root.0;
          at = place_in-numbered part height width built.width built.cells l r i j (row-of).has (column-of).has below within;
          there = root.1;
          cell = record {
            valid = cell.valid;
            states = λ label. ap (number_in numbers) (sym (same-step label)) ∙ cell.states label;
          };
        }

  -- a place of the part is that of some states
  pub is-place : (place : ℕ) → part.first ≤ place → place < part.first + length part.cells → HasPlace part place
  is-place = HasPlace-numbered part height width built.width built.cells
      (λ i below. let class = built.row_classes.used i below in (class.at, class.has))
      (λ j within. let class = built.column_classes.used j within in (class.at, class.has))

-- The function of a cell, with its tracks fixed one after the other.
use Rattle.std.proofs.Common.{◌≡◌, ◌≢◌, ℕ, suc, ◌<◌, ◌≤◌, Bool, true, false, if◌then◌else◌, sym, ap, subst, ◌∙◌, arith, inl, inr}
use Rattle.std.proofs.lemmas.Bool.{cases_eq}
use Rattle.labels.specs.Labels.{Label, Function, IsUnder, empty_label, with_track, with_below}
use Rattle.labels.proofs.LabelsLemmas.{with_track-same, with_track-other, with_below-from, with_below-at, fixed_with}
use Rattle.bdd_nodes.specs.declared.node_ref.NodeRef.{NodeRef}
use Rattle.bdd_nodes.specs.Shelf.{Contents, IsLeaf, state_of, choice_of}
use Rattle.gta_atom.specs.declared.nodes.Cell.{Cell}
use Rattle.gta_atom.specs.Cells.{cell_step, cell_function, lower_track}

module _ (cell : Cell) where
  abbrev whole : Function
  whole = cell_function cell

  abbrev lower : ℕ
  lower = lower_track cell

  same-bits : (l m : Label) → l cell.first ≡ m cell.first → l cell.second ≡ m cell.second → whole l ≡ whole m
  same-bits l m e f = λ i. cell_step cell (e i) (f i)

  at-lower : (label : Label) (bit : Bool) (t : ℕ) → t ≡ lower → with_track label lower bit t ≡ bit
  at-lower label bit t e = subst (λ (u : ℕ). with_track label lower bit u ≡ bit) (sym e) (with_track-same label lower bit)

  -- fixing the lower track is fixing the tracks up to it
  fixed-lower : (label : Label) (bit : Bool) (t : ℕ) → lower ≤ t →
      with_track label lower bit t ≡ with_below (suc lower) (fixed_with 0 empty_label lower bit) label t
  fixed-lower label bit t from = elim (cases_eq t lower) [
    | inl same ↦ at-lower label bit t same
        ∙ subst (λ (u : ℕ). bit ≡ with_below (suc lower) (fixed_with 0 empty_label lower bit) label u) (sym same)
        (sym (with_below-at 0 empty_label label lower bit (omega arith)))
    | inr other ↦ with_track-other label lower t bit other
        ∙ sym (with_below-from (suc lower) (fixed_with 0 empty_label lower bit) label t (omega arith))
  ]

  pub IsUnder-side : (bit : Bool) (part : Function) → ((label : Label) → part label ≡ whole (with_track label lower bit)) → IsUnder whole part
  IsUnder-side bit part is = record {
    below = suc lower;
    fixed = fixed_with 0 empty_label lower bit;
    states = λ label. is label ∙ same-bits (with_track label lower bit) (with_below (suc lower) (fixed_with 0 empty_label lower bit) label)
        (fixed-lower label bit cell.first (omega arith)) (fixed-lower label bit cell.second (omega arith));
  }

  pub IsUnder-whole : (part : Function) → ((label : Label) → part label ≡ whole label) → IsUnder whole part
  IsUnder-whole part is = record {
    below = 0;
    fixed = empty_label;
    states = λ label. is label ∙ same-bits label (with_below 0 empty_label label)
        (sym (with_below-from 0 empty_label label cell.first (omega arith))) (sym (with_below-from 0 empty_label label cell.second (omega arith)));
  }

  by-bit : (b : Bool) (f : Bool → ℕ) (x y : ℕ) → x ≡ f true → y ≡ f false → (if b then x else y) ≡ f b
  by-bit true f x y is_x is_y = is_x
  by-bit false f x y is_x is_y = is_y

  -- the sides
  pub side-same : (bit : Bool) → cell.first ≡ cell.second → (label : Label) → cell_step cell bit bit ≡ whole (with_track label lower bit)
  side-same bit same label = λ i. cell_step cell
      (sym (at-lower label bit cell.first (omega arith)) i) (sym (at-lower label bit cell.second (omega arith)) i)

  pub side-first : (shelf : Contents) (bit : Bool) (low high : NodeRef) → cell.first < cell.second → IsLeaf low (cell_step cell bit false) →
      IsLeaf high (cell_step cell bit true) → (label : Label) → choice_of shelf cell.second low high label ≡ whole (with_track label lower bit)
  side-first shelf bit low high less of_low of_high label =
      by-bit (label cell.second) (λ b. cell_step cell bit b) (state_of shelf high label) (state_of shelf low label)
      (of_high.states shelf label) (of_low.states shelf label)
      ∙ (λ i. cell_step cell (sym (at-lower label bit cell.first (omega arith)) i)
      (sym (with_track-other label lower cell.second bit (let d : cell.second ≢ lower = omega arith in d)) i))

  pub side-second : (shelf : Contents) (bit : Bool) (low high : NodeRef) → cell.second < cell.first → IsLeaf low (cell_step cell false bit) →
      IsLeaf high (cell_step cell true bit) → (label : Label) → choice_of shelf cell.first low high label ≡ whole (with_track label lower bit)
  side-second shelf bit low high less of_low of_high label =
      by-bit (label cell.first) (λ b. cell_step cell b bit) (state_of shelf high label) (state_of shelf low label)
      (of_high.states shelf label) (of_low.states shelf label)
      ∙ (λ i. cell_step cell (sym (with_track-other label lower cell.first bit (let d : cell.first ≢ lower = omega arith in d)) i)
      (sym (at-lower label bit cell.second (omega arith)) i))

  -- the lower track set or unset as it is
  as-it-is : (label : Label) (t : ℕ) → with_track label lower (label lower) t ≡ label t
  as-it-is label t = elim (cases_eq t lower) [
    | inl same ↦ at-lower label (label lower) t same ∙ ap label (sym same)
    | inr other ↦ with_track-other label lower t (label lower) other
  ]

  pub root-sides : (shelf : Contents) (low high : NodeRef) →
      ((label : Label) → state_of shelf low label ≡ whole (with_track label lower false)) →
      ((label : Label) → state_of shelf high label ≡ whole (with_track label lower true)) →
      (label : Label) → choice_of shelf lower low high label ≡ whole label
  root-sides shelf low high of_low of_high label =
      by-bit (label lower) (λ b. whole (with_track label lower b)) (state_of shelf high label) (state_of shelf low label) (of_high label) (of_low label)
      ∙ same-bits (with_track label lower (label lower)) label (as-it-is label cell.first) (as-it-is label cell.second)

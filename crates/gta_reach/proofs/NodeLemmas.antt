-- What a node gives, by what its sides give.
use Rattle.std.proofs.Common.{◌≡◌, ℕ, suc, ◌<◌, Bool, true, false, List, length, if◌then◌else◌}
use Rattle.std.proofs.Common.{◌∙◌, ap, arith}
use Rattle.labels.specs.Labels.{Label, with_track}
use Rattle.labels.proofs.LabelsLemmas.{with_track-same, with_track-later}
use Rattle.bdd_list.specs.declared.listing.Listed.TheVariants.{Inner}
use Rattle.bdd_list.specs.declared.listing.ListedNode.{ListedNode}
use Rattle.bdd_list.specs.Listing.{function_in, node_at, AreOrdered}
use Rattle.bdd_list.proofs.ListingLemmas.{function_in-inner, function_in-unasked}

-- a node gives what its sides give
module _ (nodes : List ListedNode) (ordered : AreOrdered nodes) (i : ℕ) (inside : i < length nodes) where
  pub gives-low : (label : Label) →
      function_in nodes (Inner i) (with_track label (node_at nodes i).track false) ≡ function_in nodes (node_at nodes i).low label
  gives-low label =
      let n = node_at nodes i in
      let there = with_track label n.track false in
      function_in-inner nodes i there inside (ordered.low i inside).before (ordered.high i inside).before
      ∙ ap (λ (b : Bool). if b then function_in nodes n.high there else function_in nodes n.low there) (with_track-same label n.track false)
      ∙ function_in-unasked nodes ordered n.low (suc n.track) there label (let b = (ordered.low i inside).before in omega arith) (ordered.low i inside).later
      (λ u above. with_track-later label n.track u false above)

  pub gives-high : (label : Label) →
      function_in nodes (Inner i) (with_track label (node_at nodes i).track true) ≡ function_in nodes (node_at nodes i).high label
  gives-high label =
      let n = node_at nodes i in
      let there = with_track label n.track true in
      function_in-inner nodes i there inside (ordered.low i inside).before (ordered.high i inside).before
      ∙ ap (λ (b : Bool). if b then function_in nodes n.high there else function_in nodes n.low there) (with_track-same label n.track true)
      ∙ function_in-unasked nodes ordered n.high (suc n.track) there label (let b = (ordered.high i inside).before in omega arith)
      (ordered.high i inside).later
      (λ u above. with_track-later label n.track u true above)

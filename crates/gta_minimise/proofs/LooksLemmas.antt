-- The tracks that steps look at.
use Rattle.std.proofs.Common.{◌≡◌, ℕ, zero, suc, ◌<◌, ◌≤◌, Bool, true, List, [], ◌∷◌, length, Option, Some, None, max}
use Rattle.std.proofs.Common.{if◌then◌else◌, sym, ◌∙◌, ap, refl, arith}
use Rattle.std.specs.Prelude.{slice_get, nat_lt}
use Rattle.std.proofs.lemmas.Bool.{ltb-true}
use Rattle.labels.specs.Labels.{Label}
use Rattle.bdd_list.specs.declared.listing.Listed.{Listed}
use Rattle.bdd_list.specs.declared.listing.Listed.TheVariants.{Leaf, Inner}
use Rattle.bdd_list.specs.declared.listing.ListedNode.{ListedNode}
use Rattle.bdd_list.specs.Listing.{rank, node_at, function_in, IsIn, AreOrdered}
use Rattle.bdd_list.proofs.ListingLemmas.{if_same, function_in-leaf, function_in-inner}
use Rattle.gta_theory.specs.Guides.{IsSpace, left, right}
use Rattle.gta_theory.specs.Numbered.{Below}
use Rattle.gta_theory.specs.Sizes.{AreSameBelow, LooksBelow}
use Rattle.gta_reach.specs.declared.form.FormSpace.{FormSpace}
use Rattle.gta_reach.specs.declared.form.Form.{Form}
use Rattle.gta_classes.specs.declared.part.SpaceClasses.{SpaceClasses}
use Rattle.gta_reach.specs.Form.{cell_in, root_in, guide_of, states_of, IsForm}
use Rattle.gta_refine.specs.Refined.{part_at, class_at, representative_at, classes_in, quotient_of, IsRefined}
use Rattle.gta_classes.proofs.ChosenLemmas.{marked-inside}
use Rattle.gta_reach.proofs.ReachLemmas.{step-at, many_spaces, none-inside}
use Rattle.gta_minimise.proofs.ReadLemmas.{step-quotient}

-- a number above all tracks of the nodes
pub above_tracks : List ListedNode → ℕ
above_tracks [] = 0
above_tracks (n ∷ nodes) = max (suc n.track) (above_tracks nodes)

track-below : (nodes : List ListedNode) (i : ℕ) → i < length nodes → (node_at nodes i).track < above_tracks nodes
unfolding above_tracks
track-below [] i inside = absurd (omega arith)
track-below (n ∷ nodes) zero inside = omega arith
track-below (n ∷ nodes) (suc i) inside = let rest = track-below nodes i (omega arith) in omega arith

module _ (nodes : List ListedNode) (ordered : AreOrdered nodes) (l m : Label) (same : AreSameBelow (above_tracks nodes) l m) where
  looks-within : (k : ℕ) (listed : Listed) → rank listed ≤ k → IsIn nodes listed → function_in nodes listed l ≡ function_in nodes listed m
  looks-within k (Leaf q) below is_in = function_in-leaf nodes q l ∙ sym (function_in-leaf nodes q m)
  looks-within zero (Inner i) below is_in = absurd (omega arith)
  looks-within (suc k) (Inner i) below is_in =
      let n = node_at nodes i in
      let inside : i < length nodes = omega arith in
      let low = ordered.low i inside in
      let high = ordered.high i inside in
      function_in-inner nodes i l inside low.before high.before
      ∙ ap (λ (b : Bool). if b then function_in nodes n.high l else function_in nodes n.low l) (same n.track (track-below nodes i inside))
      ∙ if_same (m n.track) _ _ _ _
      (looks-within k n.high (let b = high.before in omega arith) (let b = high.before in omega arith))
      (looks-within k n.low (let b = low.before in omega arith) (let b = low.before in omega arith))
      ∙ sym (function_in-inner nodes i m inside low.before high.before)

-- a number above all tracks of the spaces
pub above_all : List FormSpace → ℕ
above_all [] = 0
above_all (space ∷ spaces) = max (above_tracks space.listing.nodes) (above_all spaces)

space-below : (spaces : List FormSpace) (s : ℕ) (space : FormSpace) → slice_get spaces s ≡ Some space → above_tracks space.listing.nodes ≤ above_all spaces
unfolding above_all
space-below [] zero space there = absurd cc
space-below [] (suc s) space there = absurd cc
space-below (first ∷ spaces) zero space there =
    let e : first ≡ space = cc in let f = ap (λ (p : FormSpace). above_tracks p.listing.nodes) e in omega arith
space-below (first ∷ spaces) (suc s) space there = let rest = space-below spaces s space there in omega arith

module _ (f : Form) (is_form : IsForm f) (classes : List SpaceClasses) (refined : IsRefined f classes) where
  space-of : (s : ℕ) → IsSpace (guide_of f) s → (space : FormSpace) × (slice_get f.spaces s ≡ Some space)
  space-of s there = pick (slice_get f.spaces s) refl
    where
      pick : (o : Option FormSpace) → slice_get f.spaces s ≡ o → (space : FormSpace) × (slice_get f.spaces s ≡ Some space)
      pick None e = absurd (none-inside f.spaces s e (let m = many_spaces f in omega arith))
      pick (Some space) e = (space, e)

  representative-in : (s x : ℕ) → IsSpace (guide_of f) s → nat_lt x (classes_in classes s) ≡ true → representative_at classes s x < states_of f s
  representative-in s x there x_in =
      let inside = (refined.classes s there).inside x (ltb-true x (classes_in classes s) x_in) in
      let i = marked-inside (part_at classes s).reached (representative_at classes s x) inside in
      let m = refined.many s there in
      omega arith

  pub LooksBelow-quotient : LooksBelow (guide_of f) (quotient_of f classes) (Below (classes_in classes)) (above_all f.spaces)
  LooksBelow-quotient = record {
    step = λ s x y l m there x_in y_in same.
        let g = guide_of f in
        let space = space-of s there in
        let p = representative_at classes (left g s) x in
        let q = representative_at classes (right g s) y in
        let p_in = representative-in (left g s) x (is_form.guide.left_inside s there) x_in in
        let q_in = representative-in (right g s) y (is_form.guide.right_inside s there) y_in in
        let is = is_form.spaces s space.0 space.1 in
        let below = space-below f.spaces s space.0 space.1 in
        let cell = cell_in space.0 p q in
        let looks = looks-within (space.0).listing.nodes is.ordered l m (λ t t_in. same t (omega arith)) (rank (root_in space.0 cell)) (root_in space.0 cell)
        (omega arith) (is.inside cell (is.roots p q p_in q_in)) in
        step-quotient f classes s x y l
        ∙ ap (class_at classes s) (step-at f s space.0 space.1 p q l ∙ looks ∙ sym (step-at f s space.0 space.1 p q m))
        ∙ sym (step-quotient f classes s x y m);
  }

-- The tree that is made stands for the assignment of the store.
use Rattle.std.proofs.Common.{◌≡◌, ℕ, zero, suc, ◌-◌, ◌≤◌, IsTrue, inl, inr, List, length, map, reverse, slice_get, Some, sym, ap, ◌∙◌, subst, arith}
use Rattle.std.proofs.lemmas.Option.{slice_get_within}
use Rattle.gta_theory.specs.Assignments.{Position}
use Rattle.ws2s_core.specs.declared.track.Track.{Track}
use Rattle.ws2s_core.specs.declared.label_tree.TreeNode.{TreeNode}
use Rattle.ws2s_core.specs.LabelTrees.{assignment_of}
use Rattle.ws2s_theory.proofs.SetsLemmas.{not_so}
use Rattle.store_core.specs.Tables.{TypeEntry, VarEntry}
use Rattle.store_core.specs.Stores.{StoreMap}
use Rattle.tree_encode.specs.Tracks.{TrackUse, of_variant, of_bool, of_var, tracks_of, track_count}
use Rattle.tree_encode.proofs.TracksLemmas.{length-tracks_of, track-variant, track-bool, track-var}
use Rattle.tree_store.specs.declared.rows.Rows.{Rows}
use Rattle.tree_store.specs.declared.spots.Spot.{Spot}
use Rattle.tree_store.specs.declared.spots.Spot.TheVariants.{Slot, Child}
use Rattle.tree_store.specs.Encoding.{track_of, CellIsOn, RootIsOn, IsOn, IsTreeOf}
use Rattle.tree_store.specs.Rows.{IsRows}
use Rattle.tree_store.specs.Spots.{spot_at, SpotHasTrack}
use Rattle.tree_store.specs.Growing.{IsGrown, turned_node}
use Rattle.tree_store.proofs.SpotsLemmas.{cell-placed, placed-spot, root-word}
use Rattle.tree_store.proofs.TurningLemmas.{root-reads}

-- the use of a track stands in its place
pub track-place : (types : List TypeEntry) (vars : List VarEntry) (what : TrackUse) (t : Track) → track_of types vars what ≡ Some t →
    slice_get (tracks_of types vars) t.0 ≡ Some what
track-place types vars (of_variant v) t is = track-variant types vars v t is
track-place types vars (of_bool f) t is = track-bool types vars f t is
track-place types vars (of_var v) t is = track-var types vars v t is

-- no two uses have one track
pub use-one : (types : List TypeEntry) (vars : List VarEntry) (one other : TrackUse) (t : Track) → track_of types vars one ≡ Some t →
    track_of types vars other ≡ Some t → one ≡ other
use-one types vars one other t is also = same one other (sym (track-place types vars one t is) ∙ track-place types vars other t also)
  where
    same : (a b : TrackUse) → Some a ≡ Some b → a ≡ b
    same a b e = cc

-- a track with a use is one of the layout's
pub spot-few : (types : List TypeEntry) (vars : List VarEntry) (s : StoreMap) (q : Spot) (t : ℕ) → SpotHasTrack types vars s q (record { 0 = t }) →
    track_count types vars ≤ t → ⊥
spot-few types vars s q t has past = go q has
  where
    outside : (what : TrackUse) → track_of types vars what ≡ Some (record { 0 = t }) → ⊥
    outside what is =
        let below = slice_get_within (tracks_of types vars) t what (track-place types vars what (record { 0 = t }) is) in
        omega (arith, below, past, length-tracks_of types vars)

    go : (q : Spot) → SpotHasTrack types vars s q (record { 0 = t }) → ⊥
    go (Slot zero) (what, is, on) = outside what is
    go (Slot (suc i)) has = absurd has
    go (Child c zero) (what, is, on) = outside what is
    go (Child c (suc j)) has = absurd has

module _ (types : List TypeEntry) (vars : List VarEntry) (s : StoreMap) (rows : Rows) (spots : List Spot) (nodes : List TreeNode)
    (are_rows : IsRows types vars rows) (grown : IsGrown types vars s rows spots nodes) (whole : length nodes ≡ length spots) where
  abbrev turned : List TreeNode
  turned = map (turned_node (length nodes - 1)) (reverse nodes)

  spot-on : (what : TrackUse) (t : Track) (p : Position) → track_of types vars what ≡ Some t → (q : Spot) → spot_at rows s (Slot 0) p ≡ Some q →
      SpotHasTrack types vars s q t → IsOn types vars s what p
  spot-on what t p is (Slot zero) at (other, also, on) =
      inl (root-word types vars s rows are_rows p at, subst (λ u. RootIsOn s u) (use-one types vars other what t also is) on)
  spot-on what t p is (Slot (suc i)) at has = absurd has
  spot-on what t p is (Child c zero) at (other, also, on) =
      inr (c, cell-placed types vars s rows are_rows p c at, subst (λ u. CellIsOn s u c) (use-one types vars other what t also is) on)
  spot-on what t p is (Child c (suc j)) at has = absurd has

  pub tree-stands : IsTreeOf types vars s turned
  tree-stands = record {
    assignment = record { tracks = λ what t p is. (there what t p is, back what t p is) };
    no_other = λ t p past. not_so (assignment_of turned t p) (λ found.
        let (q, at, has) = (root-reads types vars s rows spots nodes grown whole t p).0 found in
        spot-few types vars s q t has past);
  }
    where
      there : (what : TrackUse) (t : Track) (p : Position) → track_of types vars what ≡ Some t → IsTrue (assignment_of turned t.0 p) →
          IsOn types vars s what p
      there what t p is found =
          let (q, at, has) = (root-reads types vars s rows spots nodes grown whole t.0 p).0 found in
          spot-on what t p is q at has

      back : (what : TrackUse) (t : Track) (p : Position) → track_of types vars what ≡ Some t → IsOn types vars s what p → IsTrue (assignment_of turned t.0 p)
      back what t p is (inl (root, on)) =
          (root-reads types vars s rows spots nodes grown whole t.0 p).1 (Slot 0, ap (λ w. spot_at rows s (Slot 0) w) root, (what, is, on))
      back what t p is (inr (c, placed, on)) =
          (root-reads types vars s rows spots nodes grown whole t.0 p).1 (Child c 0, placed-spot types vars s rows are_rows c p placed, (what, is, on))

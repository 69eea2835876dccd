-- What doesn't depend on a track: targets that ask later tracks alone, and so the sides under the first track.
use Rattle.std.proofs.Common.{◌≡◌, ◌≢◌, ℕ, zero, suc, ◌<◌, ◌≤◌, Bool, true, false, if◌then◌else◌, List, [], ◌∷◌, Contains}
use Rattle.std.proofs.Common.{Option, Some, None, refl, ap, sym, ◌∙◌, subst, inl, inr, arith, eqb, eqb-true, eq-eqb}
use Rattle.std.proofs.lemmas.Bool.{cases_Bool, eqb-false}
use Rattle.labels.specs.Labels.{Label, with_track}
use Rattle.gta_theory.proofs.ListsLemmas.{Contains-first, Contains-later}
use Rattle.cert_text.specs.declared.line.Target.{Target}
use Rattle.cert_text.specs.declared.line.NodeLine.{NodeLine}
use Rattle.cert_nodes.specs.declared.spots.Spot.{Spot}
use Rattle.cert_nodes.specs.declared.spots.Diagrams.{Diagrams}
use Rattle.cert_nodes.specs.Nodes.{state_on, functions_of, AreNodes}
use Rattle.cert_nodes.specs.Spots.{nodes_of, label_for, state_at, states_at, node_of, bit_for, side_by, side_at, track_by, track_at}
use Rattle.cert_nodes.specs.Spots.{AsksFirst}
use Rattle.cert_nodes.specs.Walks.{sides_of}
use Rattle.cert_nodes.proofs.StatesLemmas.{leaf-state, node-state, rank, node-falls, AsksAfter, sides-later}
use Rattle.cert_nodes.proofs.SidesLemmas.{are-of, sides-states}

after-more : (s t : ℕ) (found : Option NodeLine) → s ≤ t → AsksAfter t found → AsksAfter s found
after-more s t None below after = tt
after-more s t (Some node) below after = omega (arith, below, after)

-- labels that agree on the later tracks are alike to a target that asks no others
unasked : (nodes : List NodeLine) (t : ℕ) (l m : Label) → AreNodes nodes → ((u : ℕ) → t < u → l u ≡ m u) →
    (n : ℕ) (to : Target) (found : Option NodeLine) → rank to < n → node_of nodes to ≡ found → AsksAfter t found →
    state_on (functions_of nodes) to l ≡ state_on (functions_of nodes) to m
unasked nodes t l m are agree zero to found below at after = absurd (omega (arith, below))
unasked nodes t l m are agree (suc n) to None below at after = leaf-state nodes to l at ∙ sym (leaf-state nodes to m at)
unasked nodes t l m are agree (suc n) to (Some node) below at after =
    let functions = functions_of nodes in
    let low = node-falls nodes to node are at in
    let later = sides-later nodes to node are at in
    node-state nodes to node l are at
    ∙ ap (λ (b : Bool). if b then state_on functions node.high l else state_on functions node.low l) (agree node.track after)
    ∙ ap (λ (q : ℕ). if m node.track then q else state_on functions node.low l)
    (unasked nodes t l m are agree n node.high (node_of nodes node.high) (omega (arith, below, low.1)) refl
    (after-more t node.track (node_of nodes node.high) (omega (arith, after)) later.1))
    ∙ ap (λ (q : ℕ). if m node.track then state_on functions node.high m else q)
    (unasked nodes t l m are agree n node.low (node_of nodes node.low) (omega (arith, below, low.0)) refl
    (after-more t node.track (node_of nodes node.low) (omega (arith, after)) later.0))
    ∙ sym (node-state nodes to node m are at)

with-other : (label : Label) (t u : ℕ) (bit : Bool) → t < u → label u ≡ with_track label t bit u
with-other label t u bit below = elim (cases_Bool (eqb u t)) as (λ _. label u ≡ with_track label t bit u) [
  | inl same ↦ (let is = eqb-true u t same in absurd (omega (arith, is, below)))
  | inr other ↦ sym (ap (λ (b : Bool). if b then bit else label u) other)
]

-- a spot that asks later tracks alone doesn't see t
agree-for : (dropped t : ℕ) (bit : Bool) (label : Label) (fixed : Option Bool) (u : ℕ) → t < u →
    label_for dropped fixed label u ≡ label_for dropped fixed (with_track label t bit) u
agree-for dropped t bit label None u below = with-other label t u bit below
agree-for dropped t bit label (Some b) u below =
    ap (λ (c : Bool). if eqb u dropped then b else c) (with-other label t u bit below)

unseen : (d : Diagrams) (dropped t : ℕ) (bit : Bool) (label : Label) (spot : Spot) → AreNodes (nodes_of d spot) →
    AsksAfter t (node_of (nodes_of d spot) spot.target) → state_at d dropped label spot ≡ state_at d dropped (with_track label t bit) spot
unseen d dropped t bit label spot are after =
    unasked (nodes_of d spot) t (label_for dropped spot.fixed label) (label_for dropped spot.fixed (with_track label t bit)) are
    (λ u below. agree-for dropped t bit label spot.fixed u below)
    (suc (rank spot.target)) spot.target (node_of (nodes_of d spot) spot.target) (omega arith) refl after

pick-after : (nodes : List NodeLine) (t : ℕ) (b : Bool) (low high : Target) → AsksAfter t (node_of nodes low) → AsksAfter t (node_of nodes high) →
    AsksAfter t (node_of nodes (if b then high else low))
pick-after nodes t true low high p q = q
pick-after nodes t false low high p q = p

-- the sides under a track before which none is asked ask later ones
side-after-by : (d : Diagrams) (dropped t : ℕ) (bit : Bool) (spot : Spot) (found : Option NodeLine) → AreNodes (nodes_of d spot) →
    node_of (nodes_of d spot) spot.target ≡ found → ((other : ℕ) → track_by found ≡ Some other → t ≤ other) →
    AsksAfter t (node_of (nodes_of d (side_by dropped t bit spot found)) (side_by dropped t bit spot found).target)
side-after-by d dropped t bit spot None are at from = subst (AsksAfter t) (sym at) tt
side-after-by d dropped t bit spot (Some node) are at from =
    let gone : Spot = record spot { target = if bit_for dropped t bit spot.fixed then node.high else node.low } in
    let later = sides-later (nodes_of d spot) spot.target node are at in
    elim (cases_Bool (eqb node.track t)) [
      | inl here ↦
          let is = eqb-true node.track t here in
          subst (λ (b : Bool). AsksAfter t (node_of (nodes_of d (if b then gone else spot)) (if b then gone else spot).target)) (sym here)
          (pick-after (nodes_of d spot) t (bit_for dropped t bit spot.fixed) node.low node.high
          (after-more t node.track (node_of (nodes_of d spot) node.low) (omega (arith, is)) later.0)
          (after-more t node.track (node_of (nodes_of d spot) node.high) (omega (arith, is)) later.1))
      | inr other ↦
          let apart : node.track ≢ t = eqb-false node.track t other in
          let not_before = from node.track refl in
          subst (λ (b : Bool). AsksAfter t (node_of (nodes_of d (if b then gone else spot)) (if b then gone else spot).target)) (sym other)
          (subst (AsksAfter t) (sym at) (omega (arith, apart, not_before)))
    ]

module _ (d : Diagrams) (dropped : ℕ) (atoms : AreNodes d.atoms) (told : AreNodes d.told) where
  sides-unseen : (t : ℕ) (bit : Bool) (label : Label) (spots : List Spot) →
      ((spot : Spot) (other : ℕ) → Contains spots spot → track_at d spot ≡ Some other → t ≤ other) →
      states_at d dropped (sides_of d dropped t bit spots) label ≡ states_at d dropped (sides_of d dropped t bit spots) (with_track label t bit)
  sides-unseen t bit label [] from = refl
  sides-unseen t bit label (spot ∷ spots) from =
      let side = side_at d dropped t bit spot in
      ap (λ (q : ℕ). q ∷ states_at d dropped (sides_of d dropped t bit spots) label)
      (unseen d dropped t bit label side (are-of d side atoms told)
      (side-after-by d dropped t bit spot (node_of (nodes_of d spot) spot.target) (are-of d spot atoms told) refl
      (λ other asks. from spot other (Contains-first spot spots) asks)))
      ∙ ap (λ (qs : List ℕ). state_at d dropped (with_track label t bit) side ∷ qs)
      (sides-unseen t bit label spots (λ other u listed asks. from other u (Contains-later spot other spots listed) asks))

  with-itself : (label : Label) (t : ℕ) (bit : Bool) → with_track label t bit t ≡ bit
  with-itself label t bit = ap (λ (b : Bool). if b then bit else label t) (eq-eqb t t refl)

  -- what the sides lead to on a label, the spots lead to where the track is as it was taken
  pub sides-come : (t : ℕ) (bit : Bool) (label : Label) (spots : List Spot) → AsksFirst d spots t →
      states_at d dropped (sides_of d dropped t bit spots) label ≡ states_at d dropped spots (with_track label t bit)
  sides-come t bit label spots first =
      sides-unseen t bit label spots (λ spot other listed asks. first.none_before spot other listed asks)
      ∙ sides-states d dropped atoms told t bit (with_track label t bit) spots (with-itself label t bit)

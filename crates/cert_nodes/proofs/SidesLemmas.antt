-- Sides of spots, one and many: what they lead to, and that they stand lower.
use Rattle.std.proofs.Common.{◌≡◌, ℕ, ◌+◌, ◌<◌, ◌≤◌, Bool, true, false, if◌then◌else◌, List, [], ◌∷◌, Contains}
use Rattle.std.proofs.Common.{Option, Some, None, refl, ap, sym, ◌∙◌, subst, inl, inr, arith, eqb, eqb-true, eq-eqb}
use Rattle.std.proofs.lemmas.Bool.{cases_Bool}
use Rattle.labels.specs.Labels.{Label}
use Rattle.gta_theory.proofs.ListsLemmas.{Contains-first, Contains-later, Contains-cases, Contains-none}
use Rattle.cert_text.specs.declared.line.Target.{Target}
use Rattle.cert_text.specs.declared.line.NodeLine.{NodeLine}
use Rattle.cert_nodes.specs.declared.spots.Spot.{Spot}
use Rattle.cert_nodes.specs.declared.spots.Diagrams.{Diagrams}
use Rattle.cert_nodes.specs.Nodes.{state_on, functions_of, AreNodes}
use Rattle.cert_nodes.specs.Spots.{nodes_of, label_for, state_at, states_at, node_of, leaf_of, bit_for, side_by, track_by, track_at}
use Rattle.cert_nodes.specs.Spots.{IsFirstOf}
use Rattle.cert_nodes.specs.Walks.{leaves_of, sides_of}
use Rattle.cert_nodes.proofs.StatesLemmas.{leaf-state, node-state, rank, node-falls}

are-if : (b : Bool) (atoms told : List NodeLine) → AreNodes atoms → AreNodes told → AreNodes (if b then atoms else told)
are-if true atoms told p q = p
are-if false atoms told p q = q

-- the nodes that a spot stands in are drawn
pub are-of : (d : Diagrams) (spot : Spot) → AreNodes d.atoms → AreNodes d.told → AreNodes (nodes_of d spot)
are-of d spot atoms told = are-if spot.in_atoms d.atoms d.told atoms told

state-pick : (functions : List (Label → ℕ)) (b : Bool) (low high : Target) (label : Label) →
    state_on functions (if b then high else low) label ≡ (if b then state_on functions high label else state_on functions low label)
state-pick functions true low high label = refl
state-pick functions false low high label = refl

pick-below : (b : Bool) (low high : Target) (n : ℕ) → rank low < n → rank high < n → rank (if b then high else low) < n
pick-below true low high n p q = q
pick-below false low high n p q = p

-- the bit by which a side is taken is that of the label that the spot sees
bit-is : (dropped track : ℕ) (bit : Bool) (label : Label) (fixed : Option Bool) → label track ≡ bit →
    label_for dropped fixed label track ≡ bit_for dropped track bit fixed
bit-is dropped track bit label None e = e
bit-is dropped track bit label (Some fixed) e = ap (λ (b : Bool). if eqb track dropped then fixed else b) e

chosen-state : (nodes : List NodeLine) (dropped track : ℕ) (bit : Bool) (label : Label) (fixed : Option Bool) (t : Target) (node : NodeLine) →
    AreNodes nodes → node_of nodes t ≡ Some node → node.track ≡ track → label track ≡ bit →
    state_on (functions_of nodes) (if bit_for dropped track bit fixed then node.high else node.low) (label_for dropped fixed label)
    ≡ state_on (functions_of nodes) t (label_for dropped fixed label)
chosen-state nodes dropped track bit label fixed t node are at is e =
    let seen = label_for dropped fixed label in
    let functions = functions_of nodes in
    state-pick functions (bit_for dropped track bit fixed) node.low node.high seen
    ∙ ap (λ (b : Bool). if b then state_on functions node.high seen else state_on functions node.low seen)
    (sym (ap seen is ∙ bit-is dropped track bit label fixed e))
    ∙ sym (node-state nodes t node seen are at)

side-state-by : (d : Diagrams) (dropped track : ℕ) (bit : Bool) (label : Label) (spot : Spot) (found : Option NodeLine) →
    AreNodes (nodes_of d spot) → node_of (nodes_of d spot) spot.target ≡ found → label track ≡ bit →
    state_at d dropped label (side_by dropped track bit spot found) ≡ state_at d dropped label spot
side-state-by d dropped track bit label spot None are at e = refl
side-state-by d dropped track bit label spot (Some node) are at e =
    let gone : Spot = record spot { target = if bit_for dropped track bit spot.fixed then node.high else node.low } in
    elim (cases_Bool (eqb node.track track)) [
      | inl here ↦ ap (λ (b : Bool). state_at d dropped label (if b then gone else spot)) here
          ∙ chosen-state (nodes_of d spot) dropped track bit label spot.fixed spot.target node are at (eqb-true node.track track here) e
      | inr other ↦ ap (λ (b : Bool). state_at d dropped label (if b then gone else spot)) other
    ]

side-within-by : (d : Diagrams) (dropped track : ℕ) (bit : Bool) (spot : Spot) (found : Option NodeLine) →
    AreNodes (nodes_of d spot) → node_of (nodes_of d spot) spot.target ≡ found →
    rank (side_by dropped track bit spot found).target ≤ rank spot.target
side-within-by d dropped track bit spot None are at = omega arith
side-within-by d dropped track bit spot (Some node) are at =
    let gone : Spot = record spot { target = if bit_for dropped track bit spot.fixed then node.high else node.low } in
    let low = node-falls (nodes_of d spot) spot.target node are at in
    let below = pick-below (bit_for dropped track bit spot.fixed) node.low node.high (rank spot.target) low.0 low.1 in
    elim (cases_Bool (eqb node.track track)) [
      | inl here ↦ subst (λ (b : Bool). rank (if b then gone else spot).target ≤ rank spot.target) (sym here) (omega (arith, below))
      | inr other ↦ subst (λ (b : Bool). rank (if b then gone else spot).target ≤ rank spot.target) (sym other) (omega arith)
    ]

side-falls-by : (d : Diagrams) (dropped track : ℕ) (bit : Bool) (spot : Spot) (found : Option NodeLine) →
    AreNodes (nodes_of d spot) → node_of (nodes_of d spot) spot.target ≡ found → track_by found ≡ Some track →
    rank (side_by dropped track bit spot found).target < rank spot.target
side-falls-by d dropped track bit spot None are at asks = absurd cc
side-falls-by d dropped track bit spot (Some node) are at asks =
    let gone : Spot = record spot { target = if bit_for dropped track bit spot.fixed then node.high else node.low } in
    let low = node-falls (nodes_of d spot) spot.target node are at in
    let is : node.track ≡ track = cc in
    let below = pick-below (bit_for dropped track bit spot.fixed) node.low node.high (rank spot.target) low.0 low.1 in
    subst (λ (b : Bool). rank (if b then gone else spot).target < rank spot.target) (sym (eq-eqb node.track track is)) below

-- how high spots stand
abbrev pub weight_of : List Spot → ℕ
weight_of [] = 0
weight_of (spot ∷ spots) = rank spot.target + weight_of spots

untracked : (found : Option NodeLine) → track_by found ≡ None → found ≡ None
untracked None none = refl
untracked (Some node) none = absurd cc

module _ (d : Diagrams) (dropped : ℕ) (atoms : AreNodes d.atoms) (told : AreNodes d.told) where
  -- the sides lead to the same states where the track is as it was taken
  pub sides-states : (track : ℕ) (bit : Bool) (label : Label) (spots : List Spot) → label track ≡ bit →
      states_at d dropped (sides_of d dropped track bit spots) label ≡ states_at d dropped spots label
  sides-states track bit label [] e = refl
  sides-states track bit label (spot ∷ spots) e =
      ap (λ (q : ℕ). q ∷ states_at d dropped (sides_of d dropped track bit spots) label)
      (side-state-by d dropped track bit label spot (node_of (nodes_of d spot) spot.target) (are-of d spot atoms told) refl e)
      ∙ ap (λ (qs : List ℕ). state_at d dropped label spot ∷ qs) (sides-states track bit label spots e)

  sides-within : (track : ℕ) (bit : Bool) (spots : List Spot) → weight_of (sides_of d dropped track bit spots) ≤ weight_of spots
  sides-within track bit [] = omega arith
  sides-within track bit (spot ∷ spots) =
      let here = side-within-by d dropped track bit spot (node_of (nodes_of d spot) spot.target) (are-of d spot atoms told) refl in
      let rest = sides-within track bit spots in
      omega (arith, here, rest)

  -- where some spot asks the track the sides stand lower
  pub sides-fall : (track : ℕ) (bit : Bool) (spots : List Spot) (asking : Spot) → Contains spots asking → track_at d asking ≡ Some track →
      weight_of (sides_of d dropped track bit spots) < weight_of spots
  sides-fall track bit [] asking listed asks = absurd (Contains-none asking listed)
  sides-fall track bit (spot ∷ spots) asking listed asks =
      elim (Contains-cases spot asking spots listed) as (λ _. weight_of (sides_of d dropped track bit (spot ∷ spots)) < weight_of (spot ∷ spots)) [
        | inl is ↦
            let here = side-falls-by d dropped track bit spot (node_of (nodes_of d spot) spot.target) (are-of d spot atoms told) refl
            (ap (λ (s : Spot). track_at d s) is ∙ asks) in
            let rest = sides-within track bit spots in
            omega (arith, here, rest)
        | inr later ↦
            let here = side-within-by d dropped track bit spot (node_of (nodes_of d spot) spot.target) (are-of d spot atoms told) refl in
            let rest = sides-fall track bit spots asking later asks in
            omega (arith, here, rest)
      ]

-- where no spot has a node the states are known
pub leaves-states : (d : Diagrams) (dropped : ℕ) (label : Label) (spots : List Spot) → IsFirstOf d spots None →
    states_at d dropped spots label ≡ leaves_of spots
leaves-states d dropped label [] none = refl
leaves-states d dropped label (spot ∷ spots) none =
    ap (λ (q : ℕ). q ∷ states_at d dropped spots label)
    (leaf-state (nodes_of d spot) spot.target (label_for dropped spot.fixed label)
    (untracked (node_of (nodes_of d spot) spot.target) (none spot (Contains-first spot spots))))
    ∙ ap (λ (qs : List ℕ). leaf_of spot.target ∷ qs)
    (leaves-states d dropped label spots (λ other listed. none other (Contains-later spot other spots listed)))

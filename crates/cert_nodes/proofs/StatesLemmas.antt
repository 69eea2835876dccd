-- What nodes lead to, by what their sides lead to.
use Rattle.std.proofs.Common.{◌≡◌, ℕ, zero, suc, ◌<◌, ◌≤◌, if◌then◌else◌, List, [], ◌∷◌, length, take}
use Rattle.std.proofs.Common.{Option, Some, None, unwrap_or, slice_get, refl, ap, ◌∙◌, subst, arith, IsTrue}
use Rattle.std.proofs.lemmas.Bool.{ltb-true}
use Rattle.std.proofs.lemmas.Option.{slice_get_past}
use Rattle.labels.specs.Labels.{Label}
use Rattle.gta_theory.proofs.ListedLemmas.{slice_get-meanings, length-meanings}
use Rattle.cert_text.specs.declared.line.Target.{Target}
use Rattle.cert_text.specs.declared.line.Target.TheVariants as target
use Rattle.cert_text.specs.declared.line.NodeLine.{NodeLine}
use Rattle.cert_nodes.specs.Nodes.{state_on, node_function, functions_of, node_at, IsThere, asks_after, is_under, AreNodes}
use Rattle.cert_nodes.specs.Spots.{node_of, leaf_of}

within_take : {X : Type 0} (k : ℕ) (xs : List X) → length (take k xs) ≤ k
within_take zero xs = omega arith
within_take (suc k) [] = omega arith
within_take (suc k) (x ∷ xs) = let h = within_take k xs in omega (arith, h)

slice_get-taken : {X : Type 0} (k m : ℕ) (xs : List X) → m < k → slice_get (take k xs) m ≡ slice_get xs m
slice_get-taken zero m xs below = absurd (omega (arith, below))
slice_get-taken (suc k) m [] below = refl
slice_get-taken (suc k) zero (x ∷ xs) below = refl
slice_get-taken (suc k) (suc m) (x ∷ xs) below = slice_get-taken k m xs (omega (arith, below))

pub past : {X : Type 0} (xs : List X) (k : ℕ) → slice_get xs k ≡ None → length xs ≤ k
past [] k none = omega arith
past (x ∷ xs) zero none = absurd cc
past (x ∷ xs) (suc k) none = let h = past xs k none in omega (arith, h)

-- a target that stands before place k leads where it led
state_on-taken : (functions : List (Label → ℕ)) (nodes : List NodeLine) (k : ℕ) (t : Target) (label : Label) → IsThere (take k nodes) t →
    state_on (take k functions) t label ≡ state_on functions t label
state_on-taken functions nodes k (target.State q) label there = refl
state_on-taken functions nodes k (target.Node zero) label there = refl
state_on-taken functions nodes k (target.Node (suc m)) label there =
    let few = within_take k nodes in
    let below : m < k = omega (arith, few, there.1) in
    ap (λ (o : Option (Label → ℕ)). unwrap_or o (λ l. 0) label) (slice_get-taken k m functions below)

-- a node leads where its sides lead
state_on-node : (nodes : List NodeLine) (n : ℕ) (node : NodeLine) (label : Label) → AreNodes nodes → node_at nodes n ≡ Some node →
    state_on (functions_of nodes) (target.Node n) label
    ≡ (if label node.track then state_on (functions_of nodes) node.high label else state_on (functions_of nodes) node.low label)
state_on-node nodes zero node label are at = absurd cc
state_on-node nodes (suc k) node label are at =
    let functions = functions_of nodes in
    let follows = are k node at in
    ap (λ (o : Option (Label → ℕ)). unwrap_or o (λ l. 0) label) (slice_get-meanings node_function nodes k node at)
    ∙ ap (λ (s : ℕ). if label node.track then s else state_on (take k functions) node.low label)
    (state_on-taken functions nodes k node.high label follows.high_there)
    ∙ ap (λ (s : ℕ). if label node.track then state_on functions node.high label else s)
    (state_on-taken functions nodes k node.low label follows.low_there)

-- where a target has no node it leads to its own state
pub leaf-state : (nodes : List NodeLine) (t : Target) (label : Label) → node_of nodes t ≡ None → state_on (functions_of nodes) t label ≡ leaf_of t
leaf-state nodes (target.State q) label none = refl
leaf-state nodes (target.Node zero) label none = refl
leaf-state nodes (target.Node (suc k)) label none =
    let here = past nodes k none in
    let same = length-meanings node_function nodes in
    ap (λ (o : Option (Label → ℕ)). unwrap_or o (λ l. 0) label) (slice_get_past (functions_of nodes) k (omega (arith, here, same)))

pub node-state : (nodes : List NodeLine) (t : Target) (node : NodeLine) (label : Label) → AreNodes nodes → node_of nodes t ≡ Some node →
    state_on (functions_of nodes) t label
    ≡ (if label node.track then state_on (functions_of nodes) node.high label else state_on (functions_of nodes) node.low label)
node-state nodes (target.State q) node label are at = absurd cc
node-state nodes (target.Node n) node label are at = state_on-node nodes n node label are at

-- sides stand before their node
abbrev pub rank : Target → ℕ
rank (target.State q) = 0
rank (target.Node n) = n

falls : (nodes : List NodeLine) (k : ℕ) (t : Target) → IsThere (take k nodes) t → rank t < suc k
falls nodes k (target.State q) there = omega arith
falls nodes k (target.Node n) there = let few = within_take k nodes in omega (arith, few, there.1)

pub node-falls : (nodes : List NodeLine) (t : Target) (node : NodeLine) → AreNodes nodes → node_of nodes t ≡ Some node →
    (rank node.low < rank t) × (rank node.high < rank t)
node-falls nodes (target.State q) node are at = absurd cc
node-falls nodes (target.Node zero) node are at = absurd cc
node-falls nodes (target.Node (suc k)) node are at =
    let follows = are k node at in
    (falls nodes k node.low follows.low_there, falls nodes k node.high follows.high_there)

-- the node, if there is one, asks a track after t
abbrev pub AsksAfter : ℕ → Option NodeLine → Type 0
AsksAfter t None = Unit {0}
AsksAfter t (Some node) = t < node.track

asks-after : (t : ℕ) (found : Option NodeLine) → IsTrue (asks_after t found) → AsksAfter t found
asks-after t None after = tt
asks-after t (Some node) after = ltb-true t node.track after

-- sides ask later tracks
later-in : (nodes : List NodeLine) (k : ℕ) (track : ℕ) (t : Target) → IsThere (take k nodes) t → IsTrue (is_under (take k nodes) track t) →
    AsksAfter track (node_of nodes t)
later-in nodes k track (target.State q) there under = tt
later-in nodes k track (target.Node zero) there under = absurd (omega (arith, there.0))
later-in nodes k track (target.Node (suc m)) there under =
    let few = within_take k nodes in
    asks-after track (slice_get nodes m)
    (subst (λ (o : Option NodeLine). IsTrue (asks_after track o)) (slice_get-taken k m nodes (omega (arith, few, there.1))) under)

pub sides-later : (nodes : List NodeLine) (t : Target) (node : NodeLine) → AreNodes nodes → node_of nodes t ≡ Some node →
    AsksAfter node.track (node_of nodes node.low) × AsksAfter node.track (node_of nodes node.high)
sides-later nodes (target.State q) node are at = absurd cc
sides-later nodes (target.Node zero) node are at = absurd cc
sides-later nodes (target.Node (suc k)) node are at =
    let follows = are k node at in
    (later-in nodes k node.track node.low follows.low_there follows.low_under, later-in nodes k node.track node.high follows.high_there follows.high_under)

-- The functions that references stand for.
use Rattle.std.proofs.Common.{◌≡◌, ℕ, suc, zero, ◌+◌, ◌<◌, ◌≤◌, Bool, true, false, List, [], ◌∷◌, ◌++◌, length, get_or, fold}
use Rattle.std.proofs.Common.{if◌then◌else◌, sym, ◌∙◌, ap, refl, arith, length-append}
use Rattle.std.proofs.Math.ListN.{get_or-append}
use Rattle.std.proofs.Math.Seq.{get_or-append_seam}
use Rattle.bdd_nodes.specs.declared.node_ref.Named.{Named}
use Rattle.bdd_nodes.specs.declared.node_ref.Named.TheVariants.{Leaf, Inner}
use Rattle.bdd_nodes.specs.declared.node.Node.{Node}
use Rattle.labels.specs.Labels.{Label, Function}
use Rattle.bdd_nodes.specs.Nodes.{node_of, rank, node_at, function_named, node_function, with_next, functions_of, state_named}

constant : Function
constant = λ _. 0

-- what was there before stays
get_or-with_all : (before : List Function) (nodes : List Node) (i : ℕ) (f : Function) → i < length before →
    get_or (fold with_next before nodes) i f ≡ get_or before i f
get_or-with_all before [] i f in_range = refl
get_or-with_all before (n ∷ nodes) i f in_range =
    get_or-with_all (with_next before n) nodes i f (let e = length-append before (node_function before n ∷ []) in omega arith)
    ∙ get_or-append before (node_function before n ∷ []) f i in_range

-- what is named among the functions before stays
function_named-with_all : (before : List Function) (nodes : List Node) (named : Named) (label : Label) →
    rank named ≤ length before → function_named (fold with_next before nodes) named label
    ≡ function_named before named label
function_named-with_all before nodes (Leaf state) label in_range = refl
function_named-with_all before nodes (Inner index) label in_range =
    ap (λ (f : Function). f label) (get_or-with_all before nodes index (λ _. 0) in_range)

-- both sides of a choice are replaced
pub if_same : (b : Bool) (x y u v : ℕ) → x ≡ u → y ≡ v → (if b then x else y) ≡ (if b then u else v)
if_same true x y u v e f = e
if_same false x y u v e f = f

-- the function at a node's index is the node's, over all functions
function-at_index : (before : List Function) (nodes : List Node) (i : ℕ) (label : Label) → i < length nodes →
    rank (node_of (node_at nodes i).low) ≤ length before + i →
    rank (node_of (node_at nodes i).high) ≤ length before + i →
    get_or (fold with_next before nodes) (length before + i) (λ _. 0) label
    ≡ node_function (fold with_next before nodes) (node_at nodes i) label
function-at_index before [] i label in_range low high = absurd (omega arith)
function-at_index before (n ∷ nodes) zero label in_range low high =
    ap (λ (f : Function). f label) (ap (λ k. get_or (fold with_next (with_next before n) nodes) k (λ _. 0)) (omega arith)
    ∙ get_or-with_all (with_next before n) nodes (length before) (λ _. 0) (let e = length-append before (node_function before n ∷ []) in omega arith)
    ∙ get_or-append_seam before (node_function before n) [] (λ _. 0))
    ∙ sym (if_same (label n.track) _ _ _ _
    (function_named-with_all before (n ∷ nodes) (node_of n.high) label (omega arith))
    (function_named-with_all before (n ∷ nodes) (node_of n.low) label (omega arith)))
function-at_index before (n ∷ nodes) (suc i) label in_range low high =
    let e : length (with_next before n) ≡ length before + 1 = length-append before (node_function before n ∷ []) in
    ap (λ k. get_or (fold with_next (with_next before n) nodes) k (λ _. 0) label) (omega arith)
    ∙ function-at_index (with_next before n) nodes i label (omega arith) (omega arith) (omega arith)

-- a leaf gives its state
pub state_named-leaf : (nodes : List Node) (state : ℕ) (label : Label) → state_named nodes (Leaf state) label ≡ state
unfolding state_named
state_named-leaf nodes state label = refl

-- an inner node gives what the side gives that its track picks
pub state_named-inner : (nodes : List Node) (i : ℕ) (label : Label) → i < length nodes →
    rank (node_of (node_at nodes i).low) ≤ i → rank (node_of (node_at nodes i).high) ≤ i →
    state_named nodes (Inner i) label
    ≡ (if label (node_at nodes i).track then state_named nodes (node_of (node_at nodes i).high) label
    else state_named nodes (node_of (node_at nodes i).low) label)
unfolding state_named functions_of
state_named-inner nodes i label in_range low high =
    ap (λ k. get_or (fold with_next [] nodes) k (λ _. 0) label) (omega arith)
    ∙ function-at_index [] nodes i label in_range (omega arith) (omega arith)

fold-append : (before : List Function) (xs ys : List Node) → fold with_next before (xs ++ ys) ≡ fold with_next (fold with_next before xs) ys
fold-append before [] ys = refl
fold-append before (x ∷ xs) ys = fold-append (with_next before x) xs ys

length-with_all : (before : List Function) (nodes : List Node) → length (fold with_next before nodes) ≡ length before + length nodes
length-with_all before [] = omega arith
length-with_all before (n ∷ nodes) =
    length-with_all (with_next before n) nodes ∙ (let e = length-append before (node_function before n ∷ []) in omega arith)

-- further nodes change nothing for what the nodes before have
pub state_named-append : (nodes more : List Node) (named : Named) (label : Label) → rank named ≤ length nodes →
    state_named (nodes ++ more) named label ≡ state_named nodes named label
unfolding state_named functions_of
state_named-append nodes more named label in_range =
    ap (λ (fs : List Function). function_named fs named label) (fold-append [] nodes more)
    ∙ function_named-with_all (fold with_next [] nodes) more named label (let e = length-with_all [] nodes in omega arith)

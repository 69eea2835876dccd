-- The functions that what is listed stands for.
use Rattle.std.proofs.Common.{◌≡◌, ℕ, suc, zero, ◌+◌, ◌<◌, ◌≤◌, Bool, true, false, List, [], ◌∷◌, ◌++◌, length, get_or, fold}
use Rattle.std.proofs.Common.{if◌then◌else◌, sym, ◌∙◌, ap, refl, arith, length-append}
use Rattle.std.proofs.Math.ListN.{get_or-append}
use Rattle.std.proofs.Math.Seq.{get_or-append_seam}
use Rattle.labels.specs.Labels.{Label, Function}
use Rattle.bdd_list.specs.declared.listing.Listed.{Listed}
use Rattle.bdd_list.specs.declared.listing.Listed.TheVariants.{Leaf, Inner}
use Rattle.bdd_list.specs.declared.listing.ListedNode.{ListedNode}
use Rattle.bdd_list.specs.Listing.{rank, node_at, function_named, node_function, with_next, function_in, IsIn, AsksNoneBelow, AreOrdered}

-- what was there before stays
get_or-with_all : (before : List Function) (nodes : List ListedNode) (i : ℕ) (f : Function) → i < length before →
    get_or (fold with_next before nodes) i f ≡ get_or before i f
get_or-with_all before [] i f in_range = refl
get_or-with_all before (n ∷ nodes) i f in_range =
    get_or-with_all (with_next before n) nodes i f (let e = length-append before (node_function before n ∷ []) in omega arith)
    ∙ get_or-append before (node_function before n ∷ []) f i in_range

-- what is named among the functions before stays
function_named-with_all : (before : List Function) (nodes : List ListedNode) (listed : Listed) (label : Label) →
    rank listed ≤ length before → function_named (fold with_next before nodes) listed label
    ≡ function_named before listed label
function_named-with_all before nodes (Leaf state) label in_range = refl
function_named-with_all before nodes (Inner index) label in_range =
    ap (λ (f : Function). f label) (get_or-with_all before nodes index (λ _. 0) in_range)

-- both sides of a choice are replaced
pub if_same : (b : Bool) (x y u v : ℕ) → x ≡ u → y ≡ v → (if b then x else y) ≡ (if b then u else v)
if_same true x y u v e f = e
if_same false x y u v e f = f

-- the function at a node's index is the node's, over all functions
function-at_index : (before : List Function) (nodes : List ListedNode) (i : ℕ) (label : Label) → i < length nodes →
    rank (node_at nodes i).low ≤ length before + i → rank (node_at nodes i).high ≤ length before + i →
    get_or (fold with_next before nodes) (length before + i) (λ _. 0) label
    ≡ node_function (fold with_next before nodes) (node_at nodes i) label
function-at_index before [] i label in_range low high = absurd (omega arith)
function-at_index before (n ∷ nodes) zero label in_range low high =
    ap (λ (f : Function). f label) (ap (λ k. get_or (fold with_next (with_next before n) nodes) k (λ _. 0)) (omega arith)
    ∙ get_or-with_all (with_next before n) nodes (length before) (λ _. 0) (let e = length-append before (node_function before n ∷ []) in omega arith)
    ∙ get_or-append_seam before (node_function before n) [] (λ _. 0))
    ∙ sym (if_same (label n.track) _ _ _ _
    (function_named-with_all before (n ∷ nodes) n.high label (omega arith))
    (function_named-with_all before (n ∷ nodes) n.low label (omega arith)))
function-at_index before (n ∷ nodes) (suc i) label in_range low high =
    let e : length (with_next before n) ≡ length before + 1 = length-append before (node_function before n ∷ []) in
    ap (λ k. get_or (fold with_next (with_next before n) nodes) k (λ _. 0) label) (omega arith)
    ∙ function-at_index (with_next before n) nodes i label (omega arith) (omega arith) (omega arith)

-- a leaf gives its state
pub function_in-leaf : (nodes : List ListedNode) (state : ℕ) (label : Label) → function_in nodes (Leaf state) label ≡ state
unfolding function_in
function_in-leaf nodes state label = refl

-- an inner node gives what the side gives that its track picks
pub function_in-inner : (nodes : List ListedNode) (i : ℕ) (label : Label) → i < length nodes →
    rank (node_at nodes i).low ≤ i → rank (node_at nodes i).high ≤ i →
    function_in nodes (Inner i) label
    ≡ (if label (node_at nodes i).track then function_in nodes (node_at nodes i).high label
    else function_in nodes (node_at nodes i).low label)
unfolding function_in
function_in-inner nodes i label in_range low high =
    ap (λ k. get_or (fold with_next [] nodes) k (λ _. 0) label) (omega arith)
    ∙ function-at_index [] nodes i label in_range (omega arith) (omega arith)

fold-append : (before : List Function) (xs ys : List ListedNode) → fold with_next before (xs ++ ys) ≡ fold with_next (fold with_next before xs) ys
fold-append before [] ys = refl
fold-append before (x ∷ xs) ys = fold-append (with_next before x) xs ys

length-with_all : (before : List Function) (nodes : List ListedNode) → length (fold with_next before nodes) ≡ length before + length nodes
length-with_all before [] = omega arith
length-with_all before (n ∷ nodes) =
    length-with_all (with_next before n) nodes ∙ (let e = length-append before (node_function before n ∷ []) in omega arith)

-- further nodes change nothing for what the nodes before have
pub function_in-append : (nodes more : List ListedNode) (listed : Listed) (label : Label) → rank listed ≤ length nodes →
    function_in (nodes ++ more) listed label ≡ function_in nodes listed label
unfolding function_in
function_in-append nodes more listed label in_range =
    ap (λ (fs : List Function). function_named fs listed label) (fold-append [] nodes more)
    ∙ function_named-with_all (fold with_next [] nodes) more listed label (let e = length-with_all [] nodes in omega arith)

-- what isn't asked doesn't matter
module _ (nodes : List ListedNode) (ordered : AreOrdered nodes) where
  unasked_within : (k : ℕ) (listed : Listed) (t : ℕ) (l m : Label) → rank listed ≤ k → IsIn nodes listed →
      AsksNoneBelow nodes t listed → ((u : ℕ) → t ≤ u → l u ≡ m u) → function_in nodes listed l ≡ function_in nodes listed m
  unasked_within k (Leaf state) t l m below inside asks agree = function_in-leaf nodes state l ∙ sym (function_in-leaf nodes state m)
  unasked_within zero (Inner i) t l m below inside asks agree = absurd (omega arith)
  unasked_within (suc k) (Inner i) t l m below inside asks agree =
      let n = node_at nodes i in
      let low = ordered.low i (omega arith) in
      let high = ordered.high i (omega arith) in
      let later : (u : ℕ) → suc n.track ≤ u → l u ≡ m u = λ u above. agree u (omega arith) in
      function_in-inner nodes i l (omega arith) low.before high.before
      ∙ ap (λ (b : Bool). if b then function_in nodes n.high l else function_in nodes n.low l) (agree n.track asks)
      ∙ if_same (m n.track) _ _ _ _
      (unasked_within k n.high (suc n.track) l m (let b = high.before in omega arith) (let b = high.before in omega arith) high.later later)
      (unasked_within k n.low (suc n.track) l m (let b = low.before in omega arith) (let b = low.before in omega arith) low.later later)
      ∙ sym (function_in-inner nodes i m (omega arith) low.before high.before)

  pub function_in-unasked : (listed : Listed) (t : ℕ) (l m : Label) → IsIn nodes listed →
      AsksNoneBelow nodes t listed → ((u : ℕ) → t ≤ u → l u ≡ m u) → function_in nodes listed l ≡ function_in nodes listed m
  function_in-unasked listed t l m inside asks agree = unasked_within (rank listed) listed t l m (omega arith) inside asks agree

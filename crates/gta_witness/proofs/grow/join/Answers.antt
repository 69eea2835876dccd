-- Two trees come under a node.
use Rattle.std.proofs.Common.{◌≡◌, ◌<◌, ℕ, List, [], ◌∷◌, ◌++◌, length, Option, Some, None, sym, ap, ◌∙◌, subst}
use Rattle.plain_data.specs.Stacks.{top, rest}
use Rattle.ws2s_core.specs.declared.label_tree.TreeNode.{TreeNode}
use Rattle.gta_witness.specs.Searching.{found_by}
use Rattle.gta_witness.specs.Growing.{Grows}
use Rattle.gta_witness.proofs.GrowLemmas.{join-grows}
use Rattle.gta_witness.proofs.grow.join.Goals as goal

pub returns : goal.returns
returns c = λ tasks out grows.
    let form = c.args.form.now in
    let weigh = c.args.weigh.now in
    let found = found_by c.args.search.now in
    let made = c.args.made.now in
    let few : length c.args.nodes.now < 4294967294 = c.requires.few in
    let is_right : c.take_or-right.result ≡ top None made = c.take_or-right.ensures.taken in
    let is_left : c.take_or-left.result ≡ top None (rest made) =
    c.take_or-left.ensures.taken ∙ ap (λ (xs : List (Option ℕ)). top None xs) c.take_or-right.ensures.left in
    let others : c.take_or-left.new.self ≡ rest (rest made) =
    c.take_or-left.ensures.left ∙ ap (λ (xs : List (Option ℕ)). rest xs) c.take_or-right.ensures.left in
    let new_nodes : c.push.new.self ≡ c.args.nodes.now ++ (record { tracks = c.args.tracks; left = top None (rest made); right = top None made }) ∷ [] =
    c.in_ok-push.ensures.ok
    ∙ ap (λ (l : Option ℕ). c.args.nodes.now ++ (record { tracks = c.args.tracks; left = l; right = c.take_or-right.result }) ∷ []) is_left
    ∙ ap (λ (r : Option ℕ). c.args.nodes.now ++ (record { tracks = c.args.tracks; left = top None (rest made); right = r }) ∷ []) is_right in
    let new_made : c.push-2.new.self ≡ Some (length c.args.nodes.now) ∷ rest (rest made) =
    c.in_ok-push-2.ensures.ok ∙ ap (λ (k : ℕ). Some k ∷ c.take_or-left.new.self) c.len-place.ensures
    ∙ ap (λ (xs : List (Option ℕ)). Some (length c.args.nodes.now) ∷ xs) others in
    subst (λ (nodes : List TreeNode). Grows form weigh found nodes tasks c.push-2.new.self out) (sym new_nodes)
    (subst (λ (ms : List (Option ℕ)). Grows form weigh found
    (c.args.nodes.now ++ (record { tracks = c.args.tracks; left = top None (rest made); right = top None made }) ∷ []) tasks ms out) (sym new_made)
    (join-grows form c.requires.readable.is_form weigh found c.args.nodes.now c.args.tracks tasks made out few grows))

use Rattle.std.proofs.Common.{◌≡◌, ℕ, suc, ◌-◌, ◌<◌, ◌≤◌, List, length, get_or, Option, Some, refl, sym, ◌∙◌, ap, subst, arith, vec_len}
use Rattle.std.specs.Prelude.{slice_get, unwrap_or}
use Rattle.std.proofs.lemmas.Option.{slice_get_read}
use Rattle.std.proofs.lemmas.List.{get_or_read}
use Rattle.gta_core.specs.Accepting.{with_space, AreSpacesFrom}
use Rattle.gta_core.proofs.AcceptingLemmas.{IfSome-less, length-with, AreSpacesFrom-start, AreSpacesFrom-put, put_both}
use Rattle.gta_pinned.proofs.spaces.spaces_of.Goals as goal

pub loop-k-init : goal.loop-k-init
loop-k-init c =
    subst (λ (xs : List ℕ). AreSpacesFrom c.args.g.now c.args.nodes.now (length c.args.nodes.now) xs)
    (sym (c.in_ok-spaces.ensures.items_if_clones_equal (λ y h. h)))
    (AreSpacesFrom-start c.args.g.now c.requires.guide c.args.nodes.now c.requires.tree)

pub put-requires : goal.put-requires
put-requires c =
    let k = c.loop-k.k - 1 in
    let nodes = c.args.nodes.now in
    let node = c.index-nodes-k.result in
    let at : slice_get nodes k ≡ Some node = slice_get_read nodes (length nodes) k node refl (omega arith) c.index-nodes-k.is in
    let fits : k ≤ vec_len c.loop-k.spaces = (let v = c.loop-k.spaces.ok.0 in let m = c.loop-k.invariant.many in omega arith) in
    IfSome-less node.left k _ fits (c.requires.tree.left_before k node at)

pub put-requires-in-loop-k : goal.put-requires-in-loop-k
put-requires-in-loop-k c =
    let k = c.loop-k.k - 1 in
    let nodes = c.args.nodes.now in
    let node = c.index-nodes-k.result in
    let at : slice_get nodes k ≡ Some node = slice_get_read nodes (length nodes) k node refl (omega arith) c.index-nodes-k.is in
    let fits : k ≤ vec_len c.put.new.spaces = (let v = c.put.new.spaces.ok.0 in let m = c.loop-k.invariant.many in
    let e = ap (λ (xs : List ℕ). length xs) c.put.ensures in
    omega (arith, length-with c.loop-k.spaces.items node.left c.unwrap_or-left.result.0)) in
    IfSome-less node.right k _ fits (c.requires.tree.right_before k node at)

pub loop-k-preserved : goal.loop-k-preserved
loop-k-preserved c =
    let g = c.args.g.now in
    let guide = c.requires.guide in
    let tree = c.requires.tree in
    let k = c.loop-k.k - 1 in
    let here : c.loop-k.k ≡ suc k = omega arith in
    let nodes = c.args.nodes.now in
    let node = c.index-nodes-k.result in
    let spaces = c.loop-k.spaces.items in
    let at : slice_get nodes k ≡ Some node = slice_get_read nodes (length nodes) k node refl (omega arith) c.index-nodes-k.is in
    let so_far : AreSpacesFrom g nodes (suc k) spaces = subst (λ (m : ℕ). AreSpacesFrom g nodes m spaces) here c.loop-k.invariant in
    let inside : k < length spaces = (let m = c.loop-k.invariant.many in omega arith) in
    let space : c.index.result.now ≡ get_or spaces k 0 = get_or_read spaces k c.index.result.now inside c.index.ensures 0 in
    let children : c.unwrap_or-left.result ≡ unwrap_or (slice_get g (get_or spaces k 0)) (0, 0) =
    c.unwrap_or-left.ensures ∙ ap (λ (o : Option (ℕ × ℕ)). unwrap_or o (0, 0)) (c.children.ensures.value ∙ ap (slice_get g) space) in
    let is : c.put-in-loop-k.new.spaces.items ≡ put_both g guide nodes tree k spaces so_far node at =
    c.put-in-loop-k.ensures
    ∙ ap (λ (xs : List ℕ). with_space xs node.right c.unwrap_or-left.result.1) c.put.ensures
    ∙ ap (λ (s : ℕ × ℕ). with_space (with_space spaces node.left s.0) node.right s.1) children in
    subst (λ (xs : List ℕ). AreSpacesFrom g nodes k xs) (sym is) (AreSpacesFrom-put g guide nodes tree k spaces so_far node at)

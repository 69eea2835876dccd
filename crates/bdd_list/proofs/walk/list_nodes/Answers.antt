-- One root after the other.
use Rattle.std.proofs.Common.{◌≡◌, List, [], ◌∷◌, ◌++◌, length, inl, inr, sym, ◌∙◌, ap, subst}
use Rattle.std.proofs.Common.{arith, length-append}
use Rattle.std.specs.Prelude.{slice_get}
use Rattle.std.proofs.lemmas.Option.{slice_get_within}
use Rattle.std.proofs.lemmas.List.Elements.{All-contains}
use Rattle.bdd_nodes.specs.Shelf.{IsValid}
use Rattle.bdd_list.specs.declared.listing.Listed.{Listed}
use Rattle.bdd_list.specs.declared.listing.ListedNode.{ListedNode}
use Rattle.bdd_list.specs.Listing.{IsListing}
use Rattle.bdd_list.specs.Waits.{Lists}
use Rattle.bdd_list.proofs.WaitsLemmas.{Lists-extends, IsListing-whole, push-cases, slice_get-total}
use Rattle.bdd_list.proofs.walk.list_nodes.Goals as goal

pub loop-index-preserved : goal.loop-index-preserved
loop-index-preserved c =
    let shelf = c.args.shelf.now in
    let roots = c.args.roots.now in
    let nodes = c.list_from.new.nodes.items in
    let listed = c.loop-index.listed in
    let index = c.loop-index.index in
    let new = c.in_ok-list_from.field-0 in
    let pushed : c.push.new.self ≡ listed ++ new ∷ [] = c.in_ok-push.ensures.ok in
    let many = c.loop-index.invariant.many in
    record {
      none = c.in_ok-list_from.ensures.none;
      list = c.in_ok-list_from.ensures.list;
      many = ap length pushed ∙ length-append listed (new ∷ []) ∙ (omega arith);
      lists = λ k r x r_there x_there. elim (push-cases listed new x k (sym (ap (λ (xs : List Listed). slice_get xs k) pushed) ∙ x_there)) [
        | inl before ↦ Lists-extends shelf c.loop-index.nodes.items nodes r x c.in_ok-list_from.ensures.extends
            (c.loop-index.invariant.lists k r x r_there before)
        | inr last ↦
            let is : k ≡ index = last.0 ∙ many in
            subst (Lists shelf nodes r) last.1
            (c.in_ok-list_from.ensures.lists r (ap (slice_get roots) (sym is) ∙ r_there))
      ];
    }

pub returns : goal.returns
returns c =
    let shelf = c.args.shelf.now in
    let roots = c.args.roots.now in
    let inv = c.loop-index.invariant in
    let nodes = c.loop-index.nodes.items in
    let many : length c.loop-index.listed ≡ length roots = (let m = inv.many in let t = c.loop-index-test.false in let e = c.loop-index.auto.index-end in
    omega arith) in
    subst (λ (ns : List ListedNode). IsListing shelf roots (record { nodes = ns; roots = c.loop-index.listed })) (sym c.from_vec.ensures)
    (IsListing-whole shelf roots nodes c.loop-index.memo c.count.ensures.shelf inv.list
    (λ r there. All-contains (IsValid shelf) roots r c.requires there) c.loop-index.listed many inv.lists
    (λ k x there. slice_get-total roots k (let b = slice_get_within c.loop-index.listed k x there in omega arith)))

use Rattle.std.proofs.Common.{◌≡◌, ◌++◌, ◌∷◌, [], ◌+◌, length, get_or, slice_get, take, Some, None, ◌≤◌, append-nil, sym, ap, ◌∙◌, arith}
use Rattle.std.specs.Option.{option_map_or}
use Rattle.std.proofs.lemmas.List.{take_all}
use Rattle.std.proofs.lemmas.Option.{slice_get-get_or}
use Rattle.store_core.specs.declared.ids.VariantId.{VariantId}
use Rattle.tree_encode.specs.Tracks.{variants_from}
use Rattle.witness_store.specs.Orders.{preorder_of}
use Rattle.witness_store.specs.Finding.{variant_in, found_among, FindsCells}
use Rattle.witness_store.proofs.FoundLemmas.{found-more, FindsCells-here, AreInside-found}
use Rattle.witness_store.proofs.ListsLemmas.{take-next}
use Rattle.witness_store.proofs.cells.cells_of.Goals as goal
use Rattle.witness_store.proofs.cells.cells_of.Goals.{in-Some+in_ok-push, in_default}

pub loop-place-preserved : goal.loop-place-preserved
loop-place-preserved c =
    let nodes = c.nodes-nodes.result.now in
    let variants = c.in_ok-variants.variants.items in
    let places = c.deref-place-items.result.now in
    let i = c.loop-place.place-index in
    let k = get_or places i 0 in
    let at : slice_get places i ≡ Some k = slice_get-get_or places i 0 c.loop-place-test.true in
    let variant = variant_in nodes variants in
    let next : found_among variant (take i places) ++ option_map_or (λ (v : VariantId). record { node = k; variant = v } ∷ []) (variant k) []
    ≡ found_among variant (take (i + 1) places) = sym (found-more variant (take i places) k) ∙ ap (found_among variant) (sym (take-next places i k at)) in
    let read : c.variant_at.result ≡ variant k = c.variant_at.ensures ∙ ap (λ vs. variant_in nodes vs k) c.as_slice.ensures.value in
    let listed = c.as_slice.ensures.value in
    elim c.match-variant_at.branch [
      | in-Some+in_ok-push w ↦
          let is : Some w.in-Some.variant ≡ variant k = w.in-Some.ensures ∙ ap (λ vs. variant_in nodes vs k) listed in
          ap (λ cells. cells.items) w.cells-is ∙ w.in_ok-push.ensures.items
          ∙ ap (λ l. l ++ record { node = k; variant = w.in-Some.variant } ∷ []) c.loop-place.invariant
          ∙ ap (λ o. found_among variant (take i places) ++ option_map_or (λ (v : VariantId). record { node = k; variant = v } ∷ []) o []) is ∙ next
      | in_default w ↦
          let is : None ≡ variant k = w.in_default.ensures ∙ ap (λ vs. variant_in nodes vs k) listed in
          ap (λ cells. cells.items) w.cells-is ∙ c.loop-place.invariant ∙ sym (append-nil (found_among variant (take i places)))
          ∙ ap (λ o. found_among variant (take i places) ++ option_map_or (λ (v : VariantId). record { node = k; variant = v } ∷ []) o []) is ∙ next
    ]

module _ (c : goal.After-drop-variants-2) where
  all : c.loop-place.cells.items ≡ found_among (variant_in c.args.tree.now (variants_from 0 c.args.l.now.types)) (preorder_of c.args.tree.now)
  all =
      let past : length c.deref-place-items.result.now ≤ c.loop-place.place-index = omega (arith, c.loop-place-test.false) in
      let places = take_all c.loop-place.place-index c.deref-place-items.result.now past ∙ c.deref-place-items.ensures.value ∙ c.in_ok-places.ensures in
      let variants = c.in_ok-variants.ensures ∙ ap (variants_from 0) c.types.ensures.value in
      let nodes = c.nodes-nodes.ensures.value in
      c.loop-place.invariant ∙ (λ i. found_among (variant_in (nodes i) (variants i)) (places i))

  finds : FindsCells c.args.l.now.types c.args.tree.now c.loop-place.cells.items
  finds = FindsCells-here c.args.l.now.types c.args.l.now.vars c.args.tree.now c.nodes-nodes.ensures.inside c.requires c.loop-place.cells.items all

pub returns-clause-found : goal.returns-clause-found
returns-clause-found c = finds c

pub returns-clause-inside : goal.returns-clause-inside
returns-clause-inside c =
    let found = finds c in
    AreInside-found c.args.l.now.types c.args.tree.now c.nodes-nodes.ensures.inside c.loop-place.cells.items found.0 found.1

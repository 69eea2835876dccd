use Rattle.std.proofs.Common.{◌≡◌, ◌<◌, ◌+◌, true, false, length, get_or, slice_get, Some, sym, ◌∙◌, subst, arith}
use Rattle.std.specs.List.{AllByRecursion}
use Rattle.std.proofs.lemmas.Option.{slice_get-get_or}
use Rattle.ws2s_core.specs.LabelTrees.{assignment_of}
use Rattle.store_core.specs.declared.ids.CellId.{CellId}
use Rattle.store_core.proofs.Growing.{AllByRecursion-weaker, AllByRecursion-push}
use Rattle.tree_store.specs.Decoded as decoded
use Rattle.tree_store.specs.Decoded.{all_where}
use Rattle.witness_store.specs.declared.cells.Found.{Found}
use Rattle.witness_store.proofs.ListedLemmas.{named-yes, named-no}
use Rattle.witness_store.proofs.ListsLemmas.{present}
use Rattle.witness_store.proofs.PlacesLemmas.{on-node}
use Rattle.witness_store.proofs.variables.cells_on.Goals as goal
use Rattle.witness_store.proofs.variables.cells_on.Goals.{then-is_on+in_ok-push, else-is_on}

pub loop-cell-preserved : goal.loop-cell-preserved
loop-cell-preserved c =
    let found = c.args.cells.now in
    let nodes = c.args.nodes.now in
    let track = c.args.track in
    let a = assignment_of nodes in
    let i = c.loop-cell.cell-index in
    let number = c.loop-cell.number in
    let old = c.loop-cell.named in
    let no_cell : Found = record { node = 0; variant = record { ty = record { 0 = 0 }; index = 0 } } in
    let f = get_or found i no_cell in
    let at : slice_get found i ≡ Some f = slice_get-get_or found i no_cell c.loop-cell-test.true in
    let weaker : AllByRecursion (λ (d : CellId). d.0 < number + 1) old =
    AllByRecursion-weaker (λ (d : CellId). d.0 < number) (λ (d : CellId). d.0 < number + 1) (λ d less. let below : d.0 < number = less in omega arith) old
    c.loop-cell.invariant.below in
    elim c.if-is_on.branch [
      | then-is_on+in_ok-push w ↦
          let added = w.named-is ∙ w.in_ok-push.ensures.ok in
          record {
            number = omega arith;
            below = subst (AllByRecursion (λ (d : CellId). d.0 < number + 1)) (sym added)
                (AllByRecursion-push (λ (d : CellId). d.0 < number + 1) old (record { 0 = number }) weaker (omega arith));
            named = λ standing tree are.
                let count = are.count in
                let within : i < length standing = omega (arith, c.loop-cell-test.true, count) in
                let (x, also) = present standing i within in
                let on : decoded.is_on a track x.at ≡ true =
                sym (on-node nodes tree x.at (Some f.node) track (are.each i f x at also).node) ∙ sym c.is_on.ensures ∙ w.if-is_on.true in
                added ∙ named-yes (decoded.is_on a track) standing i number x old also c.loop-cell.invariant.number
                (c.loop-cell.invariant.named standing tree are) on;
          }
      | else-is_on w ↦
          let kept = w.named-is in
          record {
            number = omega arith;
            below = subst (AllByRecursion (λ (d : CellId). d.0 < number + 1)) (sym kept) weaker;
            named = λ standing tree are.
                let count = are.count in
                let within : i < length standing = omega (arith, c.loop-cell-test.true, count) in
                let (x, also) = present standing i within in
                let off : decoded.is_on a track x.at ≡ false =
                sym (on-node nodes tree x.at (Some f.node) track (are.each i f x at also).node) ∙ sym c.is_on.ensures ∙ w.if-is_on.false in
                kept ∙ named-no (decoded.is_on a track) standing i number x old also c.loop-cell.invariant.number
                (c.loop-cell.invariant.named standing tree are) off;
          }
    ]

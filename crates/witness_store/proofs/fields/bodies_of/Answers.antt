use Rattle.std.proofs.Common.{◌≡◌, ◌<◌, ◌+◌, length, map, get_or, slice_get, Some, true, sym, ap, ◌∙◌, subst, arith, [], ◌∷◌}
use Rattle.std.proofs.lemmas.List.{map-append}
use Rattle.std.proofs.lemmas.Option.{slice_get-get_or}
use Rattle.ws2s_core.specs.LabelTrees.{assignment_of}
use Rattle.store_core.specs.StoreBodies.{AreLive, IsKept, cell_entry}
use Rattle.store_core.proofs.Changes.{IsKept-push}
use Rattle.store_core.proofs.Growing.{AllByRecursion-push}
use Rattle.witness_store.specs.declared.cells.Found.{Found}
use Rattle.witness_store.proofs.FoundLemmas.{cell-known}
use Rattle.witness_store.proofs.ListedLemmas.{entries-next}
use Rattle.witness_store.proofs.ListsLemmas.{present}
use Rattle.witness_store.proofs.fields.bodies_of.Goals as goal

pub loop-cell-preserved : goal.loop-cell-preserved
loop-cell-preserved c =
    let found = c.args.cells.now in
    let types = c.args.l.now.types in
    let a = assignment_of c.args.nodes.now in
    let i = c.loop-cell.cell-index in
    let number = c.loop-cell.number in
    let old = c.loop-cell.bodies.items in
    let body = c.in_ok-body_of.field-0 in
    let no_cell : Found = record { node = 0; variant = record { ty = record { 0 = 0 }; index = 0 } } in
    let f = get_or found i no_cell in
    let at : slice_get found i ≡ Some f = slice_get-get_or found i no_cell c.loop-cell-test.true in
    let added = c.in_ok-push.ensures.items in
    record {
      number = omega arith;
      kept = subst (λ bodies. IsKept bodies (number + 1)) (sym added) (IsKept-push old body number c.loop-cell.invariant.kept c.in_ok-body_of.ensures.number);
      live = subst AreLive (sym added) (AllByRecursion-push (λ b. b.is_live ≡ true) old body c.loop-cell.invariant.live c.in_ok-body_of.ensures.live);
      entries = λ standing are found_as.
          let count = found_as.count in
          let within : i < length standing = omega (arith, c.loop-cell-test.true, count) in
          let (x, also) = present standing i within in
          ap (map cell_entry) added ∙ map-append cell_entry old (body ∷ [])
          ∙ entries-next types a standing i number x (map cell_entry old) (cell_entry body) also c.loop-cell.invariant.number
          (c.loop-cell.invariant.entries standing are found_as)
          (c.in_ok-body_of.ensures.entry standing x are (found_as.each i f x at also) (cell-known types a x.variant x.at (are.cells_are.each i x also)));
    }

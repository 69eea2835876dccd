-- The numbers of a child's states.
use Rattle.std.proofs.Common.{ℕ, List, map, ◌∙◌, ap}
use Rattle.std.specs.Prelude.{slice_index}
use Rattle.gta_refine.proofs.rounds.ids_of.Goals as goal

pub returns : goal.returns
returns c =
    let kind_ids = c.in_ok-ids.ids.items in
    record {
      kind_ids = kind_ids;
      are = c.in_ok-ids.ensures;
      spread = c.in_ok-spread.ensures ∙ ap (λ (xs : List ℕ). map (slice_index xs) c.kinds_of.result.now) c.deref.ensures.value
          ∙ ap (map (slice_index kind_ids)) c.kinds_of.ensures;
    }

use Rattle.std.proofs.Common.{◌≡◌, ◌∙◌, sym, Some, true, IsTrue}
use Rattle.ws2s_core.specs.declared.track.Track.{Track}
use Rattle.store_core.specs.declared.ids.VariantId.{VariantId}
use Rattle.routing_walks.specs.Walks.{IsOfVariant}
use Rattle.tree_encode.specs.Tracks.{variant_track}
use Rattle.tree_store.proofs.AddsLemmas.{Adds-same}
use Rattle.tree_store.proofs.LabelLemmas.{variant-meant}
use Rattle.tree_store.proofs.tracks.push_variant.Goals as goal

pub returns-in_ok-push_where : goal.returns-in_ok-push_where
returns-in_ok-push_where c =
    let types = c.args.l.now.types in
    Adds-same (λ (t : Track). IsTrue true × (c.variant_track.result ≡ Some t))
    (λ (t : Track). (x : VariantId) × (variant_track types x ≡ Some t) × IsOfVariant c.args.store.now x c.args.cell) c.args.tracks.now c.push_where.new.tracks
    c.in_ok-push_where.ensures
    (λ t. variant-meant types c.args.store.now c.args.cell c.in-Some.variant c.variant_track.result t (sym c.variant_of.ensures ∙ c.in-Some.is)
    c.variant_track.ensures)

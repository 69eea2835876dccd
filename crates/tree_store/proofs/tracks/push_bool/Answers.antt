use Rattle.std.proofs.Common.{◌≡◌, Some, IsTrue}
use Rattle.ws2s_core.specs.declared.track.Track.{Track}
use Rattle.std.specs.Option.{option_copied}
use Rattle.std.proofs.Common.{ap}
use Rattle.tree_store.specs.Spots.{BoolIsOn}
use Rattle.tree_store.proofs.AddsLemmas.{Adds-same}
use Rattle.tree_store.proofs.LabelLemmas.{bool-meant}
use Rattle.tree_store.proofs.tracks.push_bool.Goals as goal

pub returns : goal.returns
returns c =
    let pair = c.in-Some.pair.now in
    Adds-same (λ (t : Track). IsTrue c.is_true.result × (Some pair.1 ≡ Some t)) (λ (t : Track). BoolIsOn c.args.store.now c.args.cell (option_copied
    c.args.field) t)
    c.args.tracks.now c.push_where.new.tracks c.in_ok-push_where.ensures
    (λ t. bool-meant c.args.store.now c.args.cell (option_copied c.args.field) pair c.is_true.result t (ap option_copied c.in-Some.is) c.is_true.ensures)

use Rattle.std.proofs.Common.{refl, ◌∙◌}
use Rattle.bdd_nodes.specs.Shelf.{state_of}
use Rattle.bdd_nodes.proofs.SplitLemmas.{is_valid-IsValid, small_state}
use Rattle.labels.specs.Labels.{with_track}
use Rattle.bdd_walk.specs.Rules.{first_state}
use Rattle.bdd_walk.proofs.AddsLemmas.{AddsParts-new, Adds-new}
use Rattle.bdd_walk.proofs.UnderLemmas.{AddsUnder-stands}
use Rattle.bdd_walk.proofs.CallLemmas.{Completes-itself}
use Rattle.bdd_walk.proofs.calls.restrict.Goals as goal

pub join_from-requires-clause-is_in : goal.join_from-requires-clause-is_in
join_from-requires-clause-is_in c = is_valid-IsValid c.args.shelf.now c.args.root c.requires.valid

pub join_from-requires-clause-may_ask : goal.join_from-requires-clause-may_ask
join_from-requires-clause-may_ask c = λ label.
    record {
      state = state_of c.args.shelf.now c.args.root (with_track label c.args.track c.args.bit);
      alone = refl;
      small = small_state c.args.shelf.now c.count.ensures.shelf (with_track label c.args.track c.args.bit) c.args.root c.requires.valid;
    }

pub returns-in_err-made-clause-limit : goal.returns-in_err-made-clause-limit
returns-in_err-made-clause-limit c = λ stopped.
    c.join_from.ensures.limit (let why = rw stopped at c.from_residual.ensures in c.in_err-made.was ∙ (let is = why.1 in cc)) first_state Completes-itself

pub returns-in_err-made-clause-parts : goal.returns-in_err-made-clause-parts
returns-in_err-made-clause-parts c = AddsParts-new _ c.join_from.new.shelf _ first_state Completes-itself c.join_from.ensures.progress.adds

pub returns-clause-nodes : goal.returns-clause-nodes
returns-clause-nodes c = AddsUnder-stands _ c.join_from.new.shelf _ c.in_ok-made.made c.join_from.ensures.progress c.in_ok-made.ensures.stands

pub returns-clause-parts : goal.returns-clause-parts
returns-clause-parts c = AddsParts-new _ c.join_from.new.shelf _ first_state Completes-itself c.join_from.ensures.progress.adds

pub returns-in_err-made-clause-adds : goal.returns-in_err-made-clause-adds
returns-in_err-made-clause-adds c = Adds-new _ c.join_from.new.shelf _ first_state Completes-itself c.join_from.ensures.progress

pub returns-clause-adds : goal.returns-clause-adds
returns-clause-adds c = Adds-new _ c.join_from.new.shelf _ first_state Completes-itself c.join_from.ensures.progress

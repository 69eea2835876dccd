use Rattle.bdd_walk.proofs.AddsLemmas.{AddsParts-new, Adds-new}
use Rattle.bdd_walk.proofs.UnderLemmas.{AddsUnder-stands}
use Rattle.std.proofs.Common.{◌∙◌}
use Rattle.bdd_walk.proofs.set_joiner.SetJoiner.join.Goals as goal

pub returns-in_err-made-clause-limit : goal.returns-in_err-made-clause-limit
returns-in_err-made-clause-limit g c = λ stopped given completes.
    c.join_set.ensures.limit (let why = rw stopped at c.from_residual.ensures in c.in_err-made.was ∙ (let is = why.1 in cc)) given completes

pub returns-in_err-made-clause-parts : goal.returns-in_err-made-clause-parts
returns-in_err-made-clause-parts g c = λ given completes.
    AddsParts-new _ c.join_set.new.shelf _ given completes c.join_set.ensures.progress.adds

pub returns-clause-nodes : goal.returns-clause-nodes
returns-clause-nodes g c = AddsUnder-stands _ c.join_set.new.shelf _ c.in_ok-made.made c.join_set.ensures.progress c.in_ok-made.ensures.stands

pub returns-clause-parts : goal.returns-clause-parts
returns-clause-parts g c = λ given completes.
    AddsParts-new _ c.join_set.new.shelf _ given completes c.join_set.ensures.progress.adds

pub returns-in_err-made-clause-adds : goal.returns-in_err-made-clause-adds
returns-in_err-made-clause-adds g c = λ given completes.
    Adds-new _ c.join_set.new.shelf _ given completes c.join_set.ensures.progress

pub returns-clause-adds : goal.returns-clause-adds
returns-clause-adds g c = λ given completes.
    Adds-new _ c.join_set.new.shelf _ given completes c.join_set.ensures.progress

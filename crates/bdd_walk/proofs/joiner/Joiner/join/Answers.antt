use Rattle.bdd_walk.proofs.AddsLemmas.{AddsParts-new, Adds-new}
use Rattle.bdd_walk.proofs.UnderLemmas.{AddsUnder-stands}
use Rattle.bdd_walk.proofs.CallLemmas.{valid-all}
use Rattle.std.proofs.Common.{◌∙◌}
use Rattle.bdd_walk.proofs.joiner.Joiner.join.Goals as goal

pub join_roots-requires-clause-valid : goal.join_roots-requires-clause-valid
join_roots-requires-clause-valid g c = valid-all c.args.shelf.now c.args.roots.now c.requires.valid

pub returns-in_err-made-clause-limit : goal.returns-in_err-made-clause-limit
returns-in_err-made-clause-limit g c = λ stopped given completes.
    c.join_roots.ensures.limit (let why = rw stopped at c.from_residual.ensures in c.in_err-made.was ∙ (let is = why.1 in cc)) given completes

pub returns-in_err-made-clause-parts : goal.returns-in_err-made-clause-parts
returns-in_err-made-clause-parts g c = λ given completes.
    AddsParts-new _ c.join_roots.new.shelf _ given completes c.join_roots.ensures.progress.adds

pub returns-clause-nodes : goal.returns-clause-nodes
returns-clause-nodes g c = AddsUnder-stands _ c.join_roots.new.shelf _ c.in_ok-made.made c.join_roots.ensures.progress c.in_ok-made.ensures.stands

pub returns-clause-parts : goal.returns-clause-parts
returns-clause-parts g c = λ given completes.
    AddsParts-new _ c.join_roots.new.shelf _ given completes c.join_roots.ensures.progress.adds

pub returns-in_err-made-clause-adds : goal.returns-in_err-made-clause-adds
returns-in_err-made-clause-adds g c = λ given completes.
    Adds-new _ c.join_roots.new.shelf _ given completes c.join_roots.ensures.progress

pub returns-clause-adds : goal.returns-clause-adds
returns-clause-adds g c = λ given completes.
    Adds-new _ c.join_roots.new.shelf _ given completes c.join_roots.ensures.progress

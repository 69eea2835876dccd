use Rattle.std.proofs.Common.{List, [], subst}
use Rattle.gta_core.specs.Auto.{AutoView}
use Rattle.ws2s_core.specs.declared.node.FormulaId.{FormulaId}
use Rattle.gta_keep.specs.Holding.{Holds, beside}
use Rattle.ws2s_decide.proofs.KeepingLemmas.{HasNoTables-held, Holds-kept}
use Rattle.ws2s_decide.proofs.decider.Decider.close.Goals as goal

pub release_all-requires : goal.release_all-requires
release_all-requires c = (c.args.self.guide, record { others = []; holds = Holds-kept c.args.shelf.now c.args.self c.requires })

pub returns-clause-tables : goal.returns-clause-tables
returns-clause-tables c =
    let passes = c.release_all.ensures.passes c.args.self.guide in
    HasNoTables-held c.args.self.guide c.release_all.new.shelf
    (subst (λ (kept : List (FormulaId × AutoView)). Holds c.args.self.guide c.release_all.new.shelf (beside [] [] kept)) c.release_all.ensures.empty
    (passes.holds [] (Holds-kept c.args.shelf.now c.args.self c.requires)))

pub returns-clause-same_limit : goal.returns-clause-same_limit
returns-clause-same_limit c = (c.release_all.ensures.passes c.args.self.guide).limit

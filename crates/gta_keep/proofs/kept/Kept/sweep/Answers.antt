use Rattle.std.proofs.Common.{List, [], sym, subst}
use Rattle.gta_core.specs.Auto.{AutoView}
use Rattle.ws2s_core.specs.declared.node.FormulaId.{FormulaId}
use Rattle.gta_keep.specs.Holding.{Passes}
use Rattle.gta_keep.proofs.PassesLemmas.{Passes-none, Passes-collected}
use Rattle.gta_keep.proofs.kept.Kept.sweep.Goals as goal

pub returns-then-count-sweeps_from : goal.returns-then-count-sweeps_from
returns-then-count-sweeps_from c = λ g. Passes-none g c.args.shelf.now [] c.args.self.now

pub returns : goal.returns
returns c = λ g.
    let kept = c.args.self.now in
    subst (λ (after : List (FormulaId × AutoView)). Passes g c.args.shelf.now c.collect.new.self [] [] kept after) (sym c.self.view_is)
    (Passes-collected g c.args.shelf.now c.collect.new.self kept c.collect.ensures.shelf c.collect.ensures.roots c.collect.ensures.limit)

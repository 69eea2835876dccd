use Rattle.std.proofs.Common.{List, [], sym, subst}
use Rattle.gta_core.specs.Auto.{AutoView}
use Rattle.ws2s_core.specs.declared.node.FormulaId.{FormulaId}
use Rattle.gta_keep.specs.Holding.{Passes}
use Rattle.gta_keep.proofs.PassesLemmas.{Passes-both, Passes-collected}
use Rattle.gta_keep.proofs.MadeLemmas.{room-left}
use Rattle.gta_keep.proofs.kept.Kept.make_room.Goals as goal

pub returns-clause-passes : goal.returns-clause-passes
returns-clause-passes c = λ g.
    subst (λ (after : List (FormulaId × AutoView)). Passes g c.args.shelf.now c.collect.new.self [] [] c.args.self.now after) (sym c.self.view_is)
    (Passes-both g c.args.shelf.now c.release_all.new.shelf c.collect.new.self [] [] [] c.args.self.now c.release_all.new.self c.release_all.new.self
    (c.release_all.ensures.passes g)
    (Passes-collected g c.release_all.new.shelf c.collect.new.self c.release_all.new.self c.collect.ensures.shelf c.collect.ensures.roots
    c.collect.ensures.limit))

pub returns-clause-room : goal.returns-clause-room
returns-clause-room c = λ g others sum holds have.
    room-left g c.args.shelf.now c.release_all.new.shelf c.args.self.now c.release_all.new.self (c.release_all.ensures.passes g)
    c.release_all.ensures.empty others sum _ holds have c.collect.ensures.count

-- One space more.
use Rattle.std.proofs.Common.{List, Bool, sym, subst}
use Rattle.gta_classes.specs.Marks.{IsClear}
use Rattle.gta_reach.specs.Exploring.{AreClear}
use Rattle.gta_classes.proofs.MarksLemmas.{IsClear-replicate}
use Rattle.gta_reach.proofs.ExploreLemmas.{AreClear-none, AreClear-push}
use Rattle.gta_reach.proofs.explore.unmarked_nodes.Goals as goal

pub loop-space-init : goal.loop-space-init
loop-space-init c = AreClear-none c.new-nodes.result.items c.new-nodes.ensures.items

pub loop-space-preserved : goal.loop-space-preserved
loop-space-preserved c =
    subst (λ (marks : List (List Bool)). AreClear marks) (sym c.in_ok-push.ensures.items)
    (AreClear-push c.loop-space.nodes.items c.in_ok-unmarked.field-0
    (subst (λ (one : List Bool). IsClear one) (sym c.in_ok-unmarked.ensures) (IsClear-replicate _)) c.loop-space.invariant)

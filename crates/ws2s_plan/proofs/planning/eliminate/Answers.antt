use Rattle.std.proofs.Common.{List, Contains, IfSome, Option, refl, sym, subst}
use Rattle.ws2s_core.specs.declared.track.Track.{Track}
use Rattle.ws2s_core.specs.declared.node.FormulaId.{FormulaId}
use Rattle.ws2s_plan.specs.Steps.{IsEliminatedBy}
use Rattle.ws2s_plan.specs.declared.eliminating.Eliminated.{Eliminated}
use Rattle.ws2s_plan.proofs.PlanLemmas.{removed, IsPlanning-extends, IsPlanning-more}
use Rattle.ws2s_plan.proofs.planning.eliminate.Goals as goal

pub returns-in_default-clause-value : goal.returns-in_default-clause-value
returns-in_default-clause-value c = λ weigh f was.
    IsPlanning-extends c.args.interner.now c.eliminate_from.new.interner weigh f c.args.planning.now _ c.eliminate_from.ensures.kept refl refl
    (removed (λ (t : Track). Contains weigh t → ⊥) c.args.planning.now.waiting.items c.remove-track.new.self.items c.args.place
    c.remove-track.ensures.by_index.2 was.unweighed) was

pub returns-clause-value : goal.returns-clause-value
returns-clause-value c = λ weigh f was.
    let P = λ (t : Track). (Contains weigh t → ⊥) in
    let track = c.remove-track.result in
    let new = c.eliminate_from.new.interner in
    let by : IsEliminatedBy new track c.as_slice.result.now c.in-Some.made =
    subst (λ (o : Option Eliminated). IfSome o (IsEliminatedBy new track c.as_slice.result.now)) c.in-Some.is c.in_ok-made.ensures.value in
    IsPlanning-more c.args.interner.now new weigh f c.args.planning.now _ track c.in-Some.made c.eliminate_from.ensures.kept
    (subst P (sym c.remove-track.ensures.value) (was.unweighed c.args.place track c.requires.place))
    (subst (λ (ids : List FormulaId). IsEliminatedBy new track ids c.in-Some.made) c.as_slice.ensures.value by) refl c.in_ok-push.ensures.ok
    (removed P c.args.planning.now.waiting.items c.remove-track.new.self.items c.args.place c.remove-track.ensures.by_index.2 was.unweighed) was

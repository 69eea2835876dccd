use Rattle.std.proofs.Common.{ℕ, List, Option, IfSome, Contains, Vec, subst, sym}
use Rattle.std.specs.declared.alloc.Global.{Global}
use Rattle.ws2s_core.specs.declared.track.Track.{Track}
use Rattle.ws2s_core.specs.declared.formula.Formula.{Formula}
use Rattle.ws2s_core.specs.Tracks.{IsFree}
use Rattle.ws2s_facts.specs.Conjuncts.{formula_of}
use Rattle.ws2s_facts.specs.Facts.{AreFacts}
use Rattle.ws2s_plan.specs.declared.network.Network.{Network}
use Rattle.ws2s_plan.specs.Plan.{AreAllTracks, IsNetworkOf}
use Rattle.ws2s_plan.specs.Steps.{IsPlanning}
use Rattle.ws2s_plan.proofs.PlanLemmas.{some-weaker}
use Rattle.ws2s_plan.proofs.planning.planned.Goals as goal

pub returns-clause-value : goal.returns-clause-value
returns-clause-value c =
    let old = c.args.interner.now in
    let new = c.finished.new.interner in
    let weigh = c.args.weigh.now in
    let f = formula_of old c.args.id in
    let found : (t : ℕ) → IsFree t f → Contains c.in-Some.free.items t =
    subst (λ (o : Option (Vec ℕ Global)). IfSome o (λ numbers. (formulas : List Formula) → AreFacts formulas c.in_ok-facts.facts.facts.items → (t : ℕ) →
    IsFree t (formula_of formulas c.args.id) → Contains numbers.items t)) c.in-Some.is c.in_ok-free.ensures old c.in_ok-facts.ensures in
    let all : AreAllTracks weigh f c.in_ok-known.known = record {
      free = λ t free. c.in_ok-known.ensures.free t (subst (λ (ks : List ℕ). Contains ks t.0) (sym c.as_slice.ensures.value) (found t.0 free));
      weighed = c.in_ok-known.ensures.weighed;
    } in
    some-weaker (λ (network : Network). (weigh : List Track) (f : Formula) → IsPlanning c.eliminate_all.new.interner weigh f c.eliminate_all.new.planning →
    AreAllTracks weigh f c.in_ok-known.known → IsNetworkOf new weigh f network) (IsNetworkOf new weigh f)
    (λ network is. is weigh f (c.in_ok-eliminate_all.ensures.value weigh f c.in_ok-planning.ensures) all) c.in_ok-made.made c.in_ok-made.ensures.value

use Rattle.std.proofs.Common.{List, All, [], ◌∷◌, ◌++◌, ◌≡◌, ◌∙◌, Some, IfSome, Option, ℕ, ap, subst, sym, length, not, filter, slice_get}
use Rattle.ws2s_core.specs.declared.track.Track.{Track}
use Rattle.ws2s_core.specs.declared.formula.Formula.{Formula}
use Rattle.ws2s_core.specs.declared.label_tree.TreeNode.{TreeNode}
use Rattle.ws2s_core.proofs.NodesLemmas.{at-formula_at}
use Rattle.ws2s_facts.specs.Conjuncts.{IsThere, formula_of}
use Rattle.ws2s_plan.specs.declared.network.Elimination.{Elimination}
use Rattle.ws2s_plan.specs.Plan.{is_gone}
use Rattle.ws2s_plan.proofs.PlanLemmas.{none-long, front, last}
use Rattle.ws2s_decide.specs.Networks.{IsValued, IsModelOfLeft}
use Rattle.ws2s_decide.proofs.BackLemmas.{IsModelOfLeft-step, IsLightestModel-back}
use Rattle.ws2s_decide.proofs.network_way.go_back.Goals as goal

pub loop-last-init : goal.loop-last-init
loop-last-init c = record {
  rests = c.requires.rests;
  there = subst (λ (es : List Elimination). All (λ (one : Elimination). IsThere c.args.interner.now one.bucket) es)
      (sym c.as_slice-rest.ensures) c.requires.there;
  value = λ f is model.
      subst (λ (es : List Elimination). IsModelOfLeft c.args.interner.now c.args.weigh.now f es c.args.tree c.args.weight) (sym c.as_slice-rest.ensures) model;
}

pub valued-requires-clause-there : goal.valued-requires-clause-there
valued-requires-clause-there c =
    let formulas = c.args.interner.now in
    let one = c.in-Some.last.now in
    let there = last (λ (e : Elimination). IsThere formulas e.bucket) c.in-Some.before.now c.loop-last.rest.now one c.in-Some.ensures.cases.0
    c.loop-last.invariant.there in
    (formula_of formulas one.bucket, at-formula_at formulas one.bucket.0 there)

pub loop-last-preserved : goal.loop-last-preserved
loop-last-preserved c =
    let formulas = c.args.interner.now in
    let weigh = c.args.weigh.now in
    let one = c.in-Some.last.now in
    let before = c.in-Some.before.now in
    let all = c.loop-last.rest.now in
    let found = c.loop-last.found in
    let next = c.in-Some-made.next in
    let P = λ (e : Elimination). IsThere formulas e.bucket in
    let there = last P before all one c.in-Some.ensures.cases.0 c.loop-last.invariant.there in
    let valued = subst (λ (o : Option (List TreeNode × ℕ)). IfSome o (λ x. (f : Formula) → slice_get formulas one.bucket.0 ≡ Some f →
    IsValued weigh c.in_ok-known.known f found.0 x.0 x.1)) c.in-Some-made.is c.in_ok-made.ensures.value (formula_of formulas one.bucket)
    (at-formula_at formulas one.bucket.0 there) in
    record {
      rests = c.valued.ensures.rests;
      there = front P before all one c.in-Some.ensures.cases.0 c.loop-last.invariant.there;
      value = λ f is model.
          IsModelOfLeft-step formulas weigh f c.args.network.now is before one all c.in_ok-known.known found.0 next.0 found.1 next.1 c.in-Some.ensures.cases.0
          (c.in_ok-known.ensures ∙ ap (λ (ts : List Track). filter (λ t. not (is_gone all t)) ts) c.as_slice.ensures)
          (c.loop-last.invariant.value f is model) valued;
    }

pub returns-clause-value : goal.returns-clause-value
returns-clause-value c = λ f is model.
    IsLightestModel-back c.args.interner.now c.args.weigh.now f c.args.network.now is c.loop-last.found.0 c.loop-last.found.1
    (subst (λ (es : List Elimination). IsModelOfLeft c.args.interner.now c.args.weigh.now f es c.loop-last.found.0 c.loop-last.found.1)
    (none-long c.loop-last.rest.now c.in_default.ensures.cases) (c.loop-last.invariant.value f is model))

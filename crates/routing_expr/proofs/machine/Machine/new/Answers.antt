use Rattle.std.proofs.Common.{rules, ◌≡◌, ◌-◌, ◌++◌, [], ◌∷◌, ◌∙◌, List, take, refl, ap}
use Rattle.std.proofs.lemmas.List.Sorted.{IsNonDecreasingBy-from_sort_by_key}
use Rattle.routing_expr.specs.declared.machine.Edge.{Edge}
use Rattle.routing_expr.proofs.MachineLemmas.{IsPlan-popped, Means-sorted}
use Rattle.routing_expr.proofs.machine.Machine.new.Goals as goal

-- a list of which nothing could be taken off
nothing_left : {X : Type 0} (xs ys : List X) → xs ≡ ys ++ [] → ys ≡ take (0 - 1) xs → xs ≡ []
nothing_left [] ys all front = refl
nothing_left (x ∷ xs) ys all front = all ∙ ap (λ l. l ++ []) front

pub loop-part-preserved : goal.loop-part-preserved
loop-part-preserved c =
    c.in_ok-take_apart.ensures.plan.still c.args.route.now
    (IsPlan-popped c.args.route.now c.loop-part.plan.edges.items c.loop-part.plan.parts.items c.pop.new.self.items c.in-Some.part
    c.loop-part.plan.places c.in-Some.ensures.items c.loop-part.invariant)

pub invariant_of-result : goal.invariant_of-result
invariant_of-result c = record {
  rising = IsNonDecreasingBy-from_sort_by_key
      (λ (e : Edge). e.from) _ c.in_ok-sort_by_key.ensures.sorted (λ a r q k. search rules);
}

pub returns : goal.returns
returns c =
    Means-sorted c.args.route.now c.loop-part.plan.edges.items c.sort_by_key.new.self.items c.loop-part.plan.parts.items c.loop-part.plan.places
    (nothing_left c.loop-part.plan.parts.items c.pop.new.self.items c.in_default.ensures.items
    (c.in_default.ensures.rest ∙ ap (λ n. take (n - 1) c.loop-part.plan.parts.items) c.in_default.ensures.cases.0))
    c.in_ok-sort_by_key.ensures.permutation c.loop-part.invariant

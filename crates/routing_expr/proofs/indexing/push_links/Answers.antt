use Rattle.std.proofs.Common.{◌≡◌, ◌∙◌, ap, sym, subst, arith, ◌++◌, ◌∷◌, []}
use Rattle.routing_walks.specs.Gathering.{Gathers}
use Rattle.routing_walks.proofs.GatheringLemmas.{Gathers-none, Gathers-start, Gathers-next, Gathers-push, Gathers-alike}
use Rattle.routing_expr.proofs.IndexLemmas.{LinkAt, LinkAt-child, LinkAt-none, LinkAt-all, link}
use Rattle.routing_expr.proofs.indexing.push_links.Goals as goal
use Rattle.routing_expr.proofs.indexing.push_links.Goals.{in-Some-child_at+in_ok-push, in_default-child_at}

pub loop-index-init : goal.loop-index-init
loop-index-init c = Gathers-start (LinkAt c.args.types.now c.args.store.now c.args.followed c.args.parent c.in-Some.ty) c.args.links.now.items

pub loop-index-preserved : goal.loop-index-preserved
loop-index-preserved c =
    let At = LinkAt c.args.types.now c.args.store.now c.args.followed c.args.parent c.in-Some.ty in
    Gathers-next At c.loop-index.index c.args.links.now.items c.loop-index.links.items c.match-child_at.links.items c.loop-index.invariant
    (elim c.match-child_at.branch [
      | in-Some-child_at+in_ok-push w ↦
          let new = link w.in-Some-child_at.child c.args.parent c.in-Some.ty c.loop-index.index in
          subst (λ l. Gathers c.loop-index.links.items l (At c.loop-index.index)) (sym (ap (λ v. v.items) w.links-is ∙ w.in_ok-push.ensures.items))
          (Gathers-alike c.loop-index.links.items (c.loop-index.links.items ++ new ∷ []) (λ x. x ≡ new) (At c.loop-index.index)
          (Gathers-push c.loop-index.links.items new)
          (LinkAt-child c.args.types.now c.args.store.now c.args.followed c.args.parent c.in-Some.ty c.loop-index.index
          w.in-Some-child_at.child w.in-Some-child_at.ensures))
      | in_default-child_at w ↦
          subst (λ l. Gathers c.loop-index.links.items l (At c.loop-index.index)) (sym (ap (λ v. v.items) w.links-is))
          (Gathers-none c.loop-index.links.items (At c.loop-index.index)
          (LinkAt-none c.args.types.now c.args.store.now c.args.followed c.args.parent c.in-Some.ty c.loop-index.index w.in_default-child_at.ensures))
    ])

pub returns : goal.returns
returns c =
    Gathers-alike c.args.links.now.items c.loop-index.links.items _ _ c.loop-index.invariant
    (LinkAt-all c.args.types.now c.args.store.now c.args.followed c.args.parent c.in-Some.ty c.loop-index.index c.in-Some.ensures
    (omega (arith, c.loop-index-test.false, c.fields-index-end.ensures)))

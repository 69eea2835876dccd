use Rattle.std.proofs.Common.{◌≡◌, ◌∙◌, ap, sym, subst, arith, ◌++◌, ◌∷◌, []}
use Rattle.routing_walks.specs.Gathering.{Gathers}
use Rattle.routing_walks.proofs.GatheringLemmas.{Gathers-none, Gathers-start, Gathers-next, Gathers-push, Gathers-alike}
use Rattle.witness_store.proofs.FindingLemmas.{PointingAt, PointingAt-some, PointingAt-none, PointingAt-all}
use Rattle.witness_store.proofs.finding.push_pointings.Goals as goal
use Rattle.witness_store.proofs.finding.push_pointings.Goals.{in-Some-2+in_ok-push, in_default-2}

pub loop-index-init : goal.loop-index-init
loop-index-init c = Gathers-start (PointingAt c.args.types.now c.args.store.now c.args.cell c.in-Some.ty) c.args.found.now.items

pub loop-index-preserved : goal.loop-index-preserved
loop-index-preserved c =
    let types = c.args.types.now in
    let s = c.args.store.now in
    let At = PointingAt types s c.args.cell c.in-Some.ty in
    let i = c.loop-index.index in
    Gathers-next At i c.args.found.now.items c.loop-index.found.items c.match-branch-2.found.items c.loop-index.invariant
    (elim c.match-branch-2.branch [
      | in-Some-2+in_ok-push w ↦
          let new = w.in-Some-2.pointing in
          subst (λ l. Gathers c.loop-index.found.items l (At i)) (sym (ap (λ v. v.items) w.found-is ∙ w.in_ok-push.ensures.items))
          (Gathers-alike c.loop-index.found.items (c.loop-index.found.items ++ new ∷ []) (λ x. x ≡ new) (At i)
          (Gathers-push c.loop-index.found.items new)
          (PointingAt-some types s c.args.cell c.in-Some.ty i c.in_ok-pointing.field-0 c.in_ok-pointing.ensures new w.in-Some-2.is))
      | in_default-2 w ↦
          subst (λ l. Gathers c.loop-index.found.items l (At i)) (sym (ap (λ v. v.items) w.found-is))
          (Gathers-none c.loop-index.found.items (At i)
          (PointingAt-none types s c.args.cell c.in-Some.ty i c.in_ok-pointing.field-0 c.in_ok-pointing.ensures w.in_default-2.is))
    ])

pub returns : goal.returns
returns c =
    Gathers-alike c.args.found.now.items c.loop-index.found.items _ _ c.loop-index.invariant
    (PointingAt-all c.args.types.now c.args.store.now c.args.cell c.in-Some.ty c.loop-index.index c.in-Some.ensures
    (omega (arith, c.loop-index-test.false, c.fields-index-end.ensures)))

use Rattle.std.proofs.Common.{[], ap, ◌∙◌, refl, get_or}
use Rattle.std.proofs.lemmas.Bool.{false≢true}
use Rattle.std.proofs.lemmas.Option.{slice_get-get_or}
use Rattle.routing_walks.specs.Gathering.{Before}
use Rattle.routing_walks.proofs.GatheringLemmas.{Gathers-next, HasAll-gathered, HasAll-alike}
use Rattle.routing_expr.specs.Searches.{fields_in}
use Rattle.routing_expr.proofs.StepLemmas.{LinkOf, parent-added, parent-left, LinkOf-parents, IsData, no_link}
use Rattle.routing_expr.proofs.search.Search.all_parents.Goals as goal
use Rattle.routing_expr.proofs.search.Search.all_parents.Goals.{then-is_data+in_ok-push, else-is_data}

pub loop-link-preserved : goal.loop-link-preserved
loop-link-preserved c =
    let links = c.to-link-items.result.now in
    let P = IsData c.args.self.now.types.now in
    let i = c.loop-link.link-index in
    let parents = c.loop-link.parents.items in
    let link = get_or links i no_link in
    let at = slice_get-get_or links i no_link c.loop-link-test.true in
    Gathers-next (LinkOf links P) i [] parents c.if-is_data.parents.items c.loop-link.invariant
    (elim c.if-is_data.branch [
      | then-is_data+in_ok-push w ↦ parent-added links P i link at parents c.if-is_data.parents.items
          (ap (λ v. v.items) w.parents-is ∙ w.in_ok-push.ensures.items) (w.if-is_data.ensures.0 refl)
      | else-is_data w ↦ parent-left links P i link at parents c.if-is_data.parents.items
          (ap (λ v. v.items) w.parents-is) (λ p. false≢true (w.if-is_data.ensures.1 p))
    ])

pub returns : goal.returns
returns c =
    let types = c.args.self.now.types.now in
    let links = c.to-link-items.result.now in
    let At = LinkOf links (IsData types) in
    HasAll-alike c.loop-link.parents.items (Before At c.loop-link.link-index) _
    (HasAll-gathered c.loop-link.parents.items (Before At c.loop-link.link-index) c.loop-link.invariant)
    (LinkOf-parents types c.args.self.now.store.now (fields_in c.args.self.now.followed) c.args.self.now.links.links.items links c.args.from
    c.requires c.to-link-items.ensures c.loop-link.link-index c.loop-link-test.false)

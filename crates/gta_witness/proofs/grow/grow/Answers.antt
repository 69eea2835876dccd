-- The tree of a state.
use Rattle.std.proofs.Common.{◌≡◌, ◌<◌, ℕ, List, [], ◌∷◌, Option, sym, ap, ◌∙◌, subst}
use Rattle.ws2s_core.specs.declared.label_tree.TreeNode.{TreeNode}
use Rattle.gta_witness.specs.declared.grow.Task.{Task}
use Rattle.gta_witness.specs.declared.grow.Task.TheVariants.{Visit, Join}
use Rattle.gta_witness.specs.Searching.{found_by}
use Rattle.gta_witness.specs.Growing.{Want, rounds, Grows, IsTreeTo}
use Rattle.gta_witness.proofs.GrowLemmas.{grown-tree, grown-to, grows-first, join-few}
use Rattle.gta_witness.proofs.grow.grow.Goals as goal

pub loop-nodes-init : goal.loop-nodes-init
loop-nodes-init c =
    let form = c.args.form.now in
    let weigh = c.args.weigh.now in
    let found = found_by c.args.search.now in
    let settled = c.requires.settled in
    let out : Want = record { space = 0; state = c.args.state; weight = settled.0 } in
    let tasks : c.push.new.self ≡ Visit 0 c.args.state ∷ [] =
    c.in_ok-push.ensures.ok ∙ ap (λ (ts : List Task). Visit 0 c.args.state ∷ ts) c.new-tasks.ensures in (
      settled.0,
      settled.1,
      settled.2,
      subst (λ (nodes : List TreeNode). Grows form weigh found nodes c.push.new.self c.new-made.result out) (sym c.new-nodes.ensures)
          (subst (λ (made : List (Option ℕ)). Grows form weigh found [] c.push.new.self made out) (sym c.new-made.ensures)
          (subst (λ (ts : List Task). Grows form weigh found [] ts [] out) (sym tasks)
          (grows-first form c.requires.readable.is_form weigh found c.args.state settled.0 settled.1 settled.2))),
    )

pub new-requires : goal.new-requires
new-requires c =
    let form = c.args.form.now in
    let weigh = c.args.weigh.now in
    let found = found_by c.args.search.now in
    let w = c.loop-nodes.invariant.0 in
    let out : Want = record { space = 0; state = c.args.state; weight = w } in
    let grows = subst (λ (ts : List Task). Grows form weigh found c.loop-nodes.nodes ts c.loop-nodes.made out) c.in-None.ensures.0 c.loop-nodes.invariant.3 in
    grown-tree form c.requires.readable.is_form weigh found c.loop-nodes.nodes c.loop-nodes.made c.args.state w grows

pub returns-in-None : goal.returns-in-None
returns-in-None c =
    let form = c.args.form.now in
    let weigh = c.args.weigh.now in
    let found = found_by c.args.search.now in
    let w = c.loop-nodes.invariant.0 in
    let out : Want = record { space = 0; state = c.args.state; weight = w } in
    let grows = subst (λ (ts : List Task). Grows form weigh found c.loop-nodes.nodes ts c.loop-nodes.made out) c.in-None.ensures.0 c.loop-nodes.invariant.3 in
    subst (IsTreeTo form weigh found c.args.state) (sym c.new.ensures)
    (grown-to form c.requires.readable.is_form weigh found c.loop-nodes.nodes c.loop-nodes.made c.args.state w grows c.loop-nodes.invariant.1)

pub loop-nodes-smaller-in-Continue-branch-2 : goal.loop-nodes-smaller-in-Continue-branch-2
loop-nodes-smaller-in-Continue-branch-2 c =
    let form = c.args.form.now in
    let weigh = c.args.weigh.now in
    let found = found_by c.args.search.now in
    let out : Want = record { space = 0; state = c.args.state; weight = c.loop-nodes.invariant.0 } in
    let tasks : c.loop-nodes.tasks ≡ Visit c.in-Some-Visit.space c.in-Some-Visit.state ∷ c.pop.new.self =
    c.in-Some-Visit.ensures ∙ ap (λ (t : Task). t ∷ c.pop.new.self) c.in-Some-Visit.field-0-is in
    let grows = subst (λ (ts : List Task). Grows form weigh found c.loop-nodes.nodes ts c.loop-nodes.made out) tasks c.loop-nodes.invariant.3 in
    let both = c.in_ok-visit-in-Some-Visit.ensures c.loop-nodes.nodes out grows in
    subst (λ (ts : List Task). rounds found c.visit.new.tasks < rounds found ts) (sym tasks) both.1

pub join-requires-clause-few : goal.join-requires-clause-few
join-requires-clause-few c =
    let form = c.args.form.now in
    let weigh = c.args.weigh.now in
    let found = found_by c.args.search.now in
    let out : Want = record { space = 0; state = c.args.state; weight = c.loop-nodes.invariant.0 } in
    let tasks : c.loop-nodes.tasks ≡ Join c.in-Some-Join.tracks ∷ c.pop.new.self =
    c.in-Some-Join.ensures ∙ ap (λ (t : Task). t ∷ c.pop.new.self) c.in-Some-Join.field-0-is in
    let grows = subst (λ (ts : List Task). Grows form weigh found c.loop-nodes.nodes ts c.loop-nodes.made out) tasks c.loop-nodes.invariant.3 in
    join-few form c.requires.readable.is_form weigh found c.loop-nodes.nodes c.in-Some-Join.tracks c.pop.new.self c.loop-nodes.made out grows
    c.loop-nodes.invariant.2

-- A state's tree is begun.
use Rattle.std.proofs.Common.{◌≡◌, ◌<◌, ℕ, List, ◌∷◌, Option, Some, None, sym, ap, ◌∙◌, subst, slice_get}
use Rattle.gta_reach.proofs.ReachLemmas.{left-at, right-at}
use Rattle.gta_witness.specs.declared.grow.Task.{Task}
use Rattle.gta_witness.specs.declared.grow.Task.TheVariants.{Visit, Join}
use Rattle.gta_witness.specs.Searching.{found_by}
use Rattle.gta_witness.specs.Reading.{HasSomeStep}
use Rattle.gta_witness.specs.Growing.{Grows, rounds}
use Rattle.gta_witness.proofs.ReadLemmas.{has-space}
use Rattle.gta_witness.proofs.GrowLemmas.{visit-none, visit-some, visit-none-fewer, visit-some-fewer}
use Rattle.gta_witness.proofs.grow.visit.Goals as goal

pub returns-in_ok-push-in-None : goal.returns-in_ok-push-in-None
returns-in_ok-push-in-None c = λ nodes out grows.
    let form = c.args.form.now in
    let weigh = c.args.weigh.now in
    let found = found_by c.args.search.now in
    let step = subst (HasSomeStep form weigh found c.args.space c.args.state) c.in-None.is c.in_ok-step_of.ensures in (
      subst (λ (made : List (Option ℕ)). Grows form weigh found nodes c.args.tasks.now made out) (sym c.in_ok-push-in-None.ensures.ok)
          (visit-none form c.requires.readable.is_form weigh found nodes c.args.space c.args.state c.args.tasks.now c.args.made.now out grows step),
      visit-none-fewer form c.requires.readable.is_form weigh found c.args.space c.args.state c.args.tasks.now,
    )

pub returns-in_ok-push-in-Some-3 : goal.returns-in_ok-push-in-Some-3
returns-in_ok-push-in-Some-3 c = λ nodes out grows.
    let form = c.args.form.now in
    let weigh = c.args.weigh.now in
    let found = found_by c.args.search.now in
    let part = c.in-Some-get.part.now in
    let at : slice_get form.spaces c.args.space ≡ Some part = sym c.in-Some-get.ensures.value in
    let step = subst (HasSomeStep form weigh found c.args.space c.args.state) c.in-Some.is c.in_ok-step_of.ensures in
    let all : c.push-in-Some-3.new.self
    ≡ Visit part.children.0 c.in-Some.step.left ∷ Visit part.children.1 c.in-Some.step.right ∷ Join c.in-Some.step.tracks ∷ c.args.tasks.now =
    c.in_ok-push-in-Some-3.ensures.ok
    ∙ ap (λ (tasks : List Task). Visit part.children.0 c.in-Some.step.left ∷ tasks) (c.in_ok-push-in-Some-2.ensures.ok
    ∙ ap (λ (tasks : List Task). Visit part.children.1 c.in-Some.step.right ∷ tasks) c.in_ok-push-in-Some.ensures.ok) in
    let at_left = sym (left-at form c.args.space part at) in
    let at_right = sym (right-at form c.args.space part at) in (
      subst (λ (tasks : List Task). Grows form weigh found nodes tasks c.args.made.now out) (sym all)
          (visit-some form c.requires.readable.is_form weigh found nodes c.args.space c.args.state part.children.0 part.children.1 c.in-Some.step
          c.args.tasks.now c.args.made.now out grows step at_left at_right),
      subst (λ (tasks : List Task). rounds found tasks < rounds found (Visit c.args.space c.args.state ∷ c.args.tasks.now)) (sym all)
          (visit-some-fewer form c.requires.readable.is_form weigh found nodes c.args.space c.args.state part.children.0 part.children.1 c.in-Some.step
          c.args.tasks.now c.args.made.now out grows step at_left at_right),
    )

pub unreachable-requires : goal.unreachable-requires
unreachable-requires c =
    let form = c.args.form.now in
    let settled = c.requires.settled in
    let space = has-space form c.args.weigh.now (found_by c.args.search.now) c.requires.readable c.args.space c.args.state settled.0 settled.1 in
    let both : Some space.0 ≡ None = sym space.1 ∙ sym c.in_default.ensures.value in
    absurd cc

-- What waits first is looked at.
use Rattle.std.proofs.Common.{ℕ, List, subst, arith}
use Rattle.std.specs.Prelude.{All, Contains}
use Rattle.std.proofs.lemmas.List.Elements.{All-head, All-tail}
use Rattle.gta_reach.specs.declared.sides.Side.TheVariants.{Left, Right}
use Rattle.gta_reach.specs.declared.explore.Waiting.{Waiting}
use Rattle.gta_classes.specs.Lists.{list_at}
use Rattle.gta_reach.specs.Exploring.{IsWaiting}
use Rattle.gta_reach.proofs.ExploreLemmas.{AreKept-none}
use Rattle.gta_reach.proofs.explore.explore.Goals as goal

pub loop-next-init : goal.loop-next-init
loop-next-init c =
    let form = c.args.form.now in
    record {
      lefts = AreKept-none form Left c.in_ok-lefts.lefts.items
          (let m = c.in_ok-lefts.ensures.many in let o = c.in_ok-lefts.lefts.ok in omega arith) c.in_ok-lefts.ensures.none;
      rights = AreKept-none form Right c.in_ok-rights.rights.items
          (let m = c.in_ok-rights.ensures.many in let o = c.in_ok-rights.rights.ok in omega arith) c.in_ok-rights.ensures.none;
      met = record { states = c.requires.states; waiting = c.in_ok-waiting.ensures };
    }

pub look-requires-clause-parents : goal.look-requires-clause-parents
look-requires-clause-parents c = λ s parent there.
    c.in_ok-parents.ensures s parent (subst (λ (lists : List (List ℕ)). Contains (list_at lists s) parent) c.deref.ensures.value there)

pub look-requires-clause-next : goal.look-requires-clause-next
look-requires-clause-next c =
    let form = c.args.form.now in
    All-head (IsWaiting form) c.in-Some.next c.pop.new.self
    (subst (λ (waiting : List Waiting). All (IsWaiting form) waiting) c.in-Some.ensures c.loop-next.invariant.met.waiting)

pub look-requires-clause-met : goal.look-requires-clause-met
look-requires-clause-met c =
    let form = c.args.form.now in
    record {
      states = c.loop-next.invariant.met.states;
      waiting = All-tail (IsWaiting form) c.in-Some.next c.pop.new.self
          (subst (λ (waiting : List Waiting). All (IsWaiting form) waiting) c.in-Some.ensures c.loop-next.invariant.met.waiting);
    }

pub returns-in_default : goal.returns-in_default
returns-in_default c = c.loop-next.invariant.met.states

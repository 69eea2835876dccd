use Rattle.std.proofs.Common.{◌≡◌, List, [], ◌∷◌, Err, sym, ◌∙◌, ap, subst}
use Rattle.bdd_walk.specs.declared.stop.Stop.{Stop}
use Rattle.bdd_nodes.specs.Shelf.{Contents, limit_of}
use Rattle.gta_core.specs.Auto.{AutoView}
use Rattle.ws2s_decide.specs.declared.task.Task.{Task}
use Rattle.gta_keep.specs.Holding.{IsMinimalFor, kept_autos}
use Rattle.ws2s_decide.specs.Going.{Rests}
use Rattle.ws2s_decide.proofs.EndsLemmas.{IsGoing-first, limit-of_first}
use Rattle.ws2s_decide.proofs.LastLemmas.{some-from, not-alone, alone-last}
use Rattle.ws2s_decide.proofs.RestsLemmas.{Rests-released}
use Rattle.ws2s_decide.proofs.machine.automaton_of.Goals as goal
use Rattle.ws2s_decide.proofs.machine.automaton_of.Goals.{in-Ok, in-Err}

pub run-ended-requires-clause-going : goal.run-ended-requires-clause-going
run-ended-requires-clause-going c = record {
  stack = [];
  out = c.requires.there.0;
  stands = IsGoing-first c.args.g.now c.args.interner.now c.args.shelf.now c.args.id c.push.new.self c.new-2.result c.args.kept.now c.requires.there.0
      (c.in_ok-push.ensures.ok ∙ ap (λ (tasks : List Task). Task.Visit c.args.id ∷ tasks) c.new.ensures) c.new-2.ensures c.requires.there.1 c.requires.rests;
}

pub unwrap-requires : goal.unwrap-requires
unwrap-requires c =
    let g = c.args.g.now in
    let formulas = c.args.interner.now in
    let f = c.requires.there.0 in
    let stands = IsGoing-first g formulas c.args.shelf.now c.args.id c.push.new.self c.new-2.result c.args.kept.now f
    (c.in_ok-push.ensures.ok ∙ ap (λ (tasks : List Task). Task.Visit c.args.id ∷ tasks) c.new.ensures) c.new-2.ensures c.requires.there.1
    c.requires.rests in
    let made = c.in-Ok.ensures.ok [] f stands in
    some-from _ _ c.pop.result c.pop.ensures (λ missing. not-alone c.run-ended.new.machine.automata made.auto made.alone missing.0)

pub returns-clause-ok : goal.returns-clause-ok
returns-clause-ok c =
    let g = c.args.g.now in
    let formulas = c.args.interner.now in
    let f = c.requires.there.0 in
    let stands = IsGoing-first g formulas c.args.shelf.now c.args.id c.push.new.self c.new-2.result c.args.kept.now f
    (c.in_ok-push.ensures.ok ∙ ap (λ (tasks : List Task). Task.Visit c.args.id ∷ tasks) c.new.ensures) c.new-2.ensures c.requires.there.1
    c.requires.rests in
    elim c.match-ended.branch [
      | in-Ok w ↦
          (let made = w.in-Ok.ensures.ok [] f stands in
          let alone = alone-last c.run-ended.new.machine.automata _ made.auto w.unwrap.result made.alone (rw w.unwrap.ensures at w.pop.ensures) in
          rw w.last-is (rw w.shelf-is
          (subst (λ (xs : List AutoView). Rests g formulas c.run-ended.new.shelf xs c.run-ended.new.kept) alone made.rests)))
      | in-Err w ↦ rw w.last-is tt
    ]

pub returns-clause-minimal : goal.returns-clause-minimal
returns-clause-minimal c =
    elim c.match-ended.branch [
      | in-Ok w ↦ rw w.last-is (λ f there.
          let g = c.args.g.now in
          let formulas = c.args.interner.now in
          let stands = IsGoing-first g formulas c.args.shelf.now c.args.id c.push.new.self c.new-2.result c.args.kept.now f
          (c.in_ok-push.ensures.ok ∙ ap (λ (tasks : List Task). Task.Visit c.args.id ∷ tasks) c.new.ensures) c.new-2.ensures there
          c.requires.rests in
          let made = w.in-Ok.ensures.ok [] f stands in
          let same : made.auto ≡ w.unwrap.result = (let first = made.alone in let last = rw w.unwrap.ensures at w.pop.ensures in cc) in
          rw w.shelf-is (subst (λ (auto : AutoView). IsMinimalFor g c.run-ended.new.shelf auto f) same made.minimal))
      | in-Err w ↦ rw w.last-is tt
    ]

pub returns-clause-err : goal.returns-clause-err
returns-clause-err c =
    elim c.match-ended.branch [
      | in-Ok w ↦ rw w.last-is tt
      | in-Err w ↦
          (let rests = w.in-Err.ensures.err in
          let releases = w.release_all.ensures.releases c.args.g.now (kept_autos c.run-ended.new.kept) rests.holds in
          rw w.last-is (rw w.shelf-is
          (Rests-released c.args.g.now c.args.interner.now c.run-ended.new.shelf w.release_all.new.shelf c.run-ended.new.machine.automata
          c.run-ended.new.kept rests releases)))
    ]

pub returns-clause-limit : goal.returns-clause-limit
returns-clause-limit c = λ stopped f p there peak.
    elim c.match-ended.branch [
      | in-Ok w ↦ absurd (let clash = sym w.last-is ∙ stopped in cc)
      | in-Err w ↦
          (let is : w.in-Err.stop ≡ Stop.Limit = (let same = sym w.last-is ∙ stopped in cc) in
          limit-of_first c.args.g.now c.args.interner.now c.spaces.ensures.guide c.args.shelf.now c.args.id c.push.new.self c.new-2.result c.args.kept.now f p
          (c.in_ok-push.ensures.ok ∙ ap (λ (tasks : List Task). Task.Visit c.args.id ∷ tasks) c.new.ensures) c.new-2.ensures there c.requires.rests peak
          (c.run-ended.ensures.limit (w.in-Err.is ∙ ap Err is)))
    ]

pub returns-clause-same_limit : goal.returns-clause-same_limit
returns-clause-same_limit c =
    elim c.match-ended.branch [
      | in-Ok w ↦ ap (λ (now : Contents). limit_of now) w.shelf-is ∙ c.run-ended.ensures.same_limit
      | in-Err w ↦
          (let rests = w.in-Err.ensures.err in
          let releases = w.release_all.ensures.releases c.args.g.now (kept_autos c.run-ended.new.kept) rests.holds in
          ap (λ (now : Contents). limit_of now) w.shelf-is ∙ releases.limit ∙ c.run-ended.ensures.same_limit)
    ]

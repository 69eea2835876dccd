use Rattle.std.proofs.Common.{List, [], ◌∷◌, ◌++◌, sym, ◌∙◌, ap, subst}
use Rattle.gta_core.specs.Auto.{AutoView}
use Rattle.ws2s_core.specs.Nodes.{formula_at}
use Rattle.ws2s_decide.specs.declared.task.Task.{Task}
use Rattle.gta_keep.specs.Holding.{kept_autos}
use Rattle.ws2s_decide.specs.Going.{moment, Rests, Stands, StandsOn, NeedsMore}
use Rattle.gta_keep.proofs.AutoSizesLemmas.{HaveSizes-shelf}
use Rattle.ws2s_decide.proofs.LastLemmas.{some-from, two-wait, minimal-conjoined, there-conjoin}
use Rattle.ws2s_decide.proofs.NeedsLemmas.{needs-conjoin}
use Rattle.ws2s_decide.proofs.RestsLemmas.{on_err, Holds-swap, Rests-gone, Rests-made}
use Rattle.ws2s_decide.proofs.StandsLemmas.{StandsOn-conjoined}
use Rattle.ws2s_decide.proofs.making.make_conjunction.Goals as goal

pub unwrap-a-requires : goal.unwrap-a-requires
unwrap-a-requires c =
    let going = c.requires.going in
    let popped = rw c.unwrap-b.ensures at c.pop.ensures in
    let stands = subst (λ (xs : List AutoView). Stands c.args.g.now c.args.interner.now
    (moment c.args.shelf.now (Task.Conjoin c.args.id ∷ c.args.machine.now.tasks) xs c.args.kept.now) going.stack going.out) popped going.stands in
    some-from _ _ c.pop-2.result c.pop-2.ensures (λ none.
    two-wait c.args.g.now c.args.interner.now c.args.shelf.now c.args.id c.args.machine.now.tasks c.unwrap-b.result c.pop.new.self going.stack going.out
    stands.minimal stands.makes none.0)

pub conjoin-requires : goal.conjoin-requires
conjoin-requires c =
    let popped = (rw c.unwrap-b.ensures at c.pop.ensures) ∙ ap (λ (xs : List AutoView). c.unwrap-b.result ∷ xs) (rw c.unwrap-a.ensures at c.pop-2.ensures) in
    let rests = subst (λ (xs : List AutoView). Rests c.args.g.now c.args.interner.now c.args.shelf.now xs c.args.kept.now) popped
    c.requires.going.stands.rests in
    record {
      others = c.pop-2.new.self;
      holds = Holds-swap c.args.g.now c.args.shelf.now c.unwrap-a.result c.unwrap-b.result (c.pop-2.new.self ++ kept_autos c.args.kept.now) rests.holds;
    }

pub returns-in_err-auto-clause-err : goal.returns-in_err-auto-clause-err
returns-in_err-auto-clause-err c =
    let popped = (rw c.unwrap-b.ensures at c.pop.ensures) ∙ ap (λ (xs : List AutoView). c.unwrap-b.result ∷ xs) (rw c.unwrap-a.ensures at c.pop-2.ensures) in
    let rests = subst (λ (xs : List AutoView). Rests c.args.g.now c.args.interner.now c.args.shelf.now xs c.args.kept.now) popped
    c.requires.going.stands.rests in
    on_err _ c.from_residual.result
    (Rests-gone c.args.g.now c.args.interner.now c.args.shelf.now c.conjoin.new.shelf (c.unwrap-a.result ∷ c.unwrap-b.result ∷ []) c.pop-2.new.self
    c.args.kept.now c.conjoin.new.kept c.in_err-auto.ensures.err
    (Holds-swap c.args.g.now c.args.shelf.now c.unwrap-a.result c.unwrap-b.result (c.pop-2.new.self ++ kept_autos c.args.kept.now) rests.holds)
    rests.kept_for)

pub returns-in_err-auto-clause-limit : goal.returns-in_err-auto-clause-limit
returns-in_err-auto-clause-limit c = λ stopped.
    let popped = (rw c.unwrap-b.ensures at c.pop.ensures) ∙ ap (λ (xs : List AutoView). c.unwrap-b.result ∷ xs) (rw c.unwrap-a.ensures at c.pop-2.ensures) in
    subst (λ (xs : List AutoView). NeedsMore c.args.g.now c.args.interner.now
    (moment c.args.shelf.now (Task.Conjoin c.args.id ∷ c.args.machine.now.tasks) xs c.args.kept.now)) (sym popped)
    (needs-conjoin c.args.g.now c.requires.guide c.args.interner.now c.args.shelf.now
    (HaveSizes-shelf c.args.g.now c.args.shelf.now c.requires.going.stands.rests.holds.is_shelf) c.args.id c.args.machine.now.tasks
    c.unwrap-a.result c.unwrap-b.result c.pop-2.new.self c.args.kept.now
    (c.conjoin.ensures.limit (let why = rw stopped at c.from_residual.ensures in c.in_err-auto.was ∙ (let is = why.1 in cc))))

pub come-requires : goal.come-requires
come-requires c =
    let popped = (rw c.unwrap-b.ensures at c.pop.ensures) ∙ ap (λ (xs : List AutoView). c.unwrap-b.result ∷ xs) (rw c.unwrap-a.ensures at c.pop-2.ensures) in
    let rests = subst (λ (xs : List AutoView). Rests c.args.g.now c.args.interner.now c.args.shelf.now xs c.args.kept.now) popped
    c.requires.going.stands.rests in (
      c.args.g.now,
      c.args.interner.now,
      Rests-made c.args.g.now c.args.interner.now c.args.shelf.now c.conjoin.new.shelf (c.unwrap-a.result ∷ c.unwrap-b.result ∷ []) c.in_ok-auto.auto
          c.pop-2.new.self c.args.kept.now c.conjoin.new.kept c.in_ok-auto.ensures.ok
          (Holds-swap c.args.g.now c.args.shelf.now c.unwrap-a.result c.unwrap-b.result (c.pop-2.new.self ++ kept_autos c.args.kept.now) rests.holds)
          rests.kept_for,
    )

pub returns-in_err-come-clause-err : goal.returns-in_err-come-clause-err
returns-in_err-come-clause-err c =
    let g = c.args.g.now in
    let formulas = c.args.interner.now in
    let going = c.requires.going in
    let popped = (rw c.unwrap-b.ensures at c.pop.ensures) ∙ ap (λ (xs : List AutoView). c.unwrap-b.result ∷ xs) (rw c.unwrap-a.ensures at c.pop-2.ensures) in
    let stands = subst (λ (xs : List AutoView). Stands g formulas
    (moment c.args.shelf.now (Task.Conjoin c.args.id ∷ c.args.machine.now.tasks) xs c.args.kept.now) going.stack going.out) popped going.stands in
    let made = Rests-made g formulas c.args.shelf.now c.conjoin.new.shelf (c.unwrap-a.result ∷ c.unwrap-b.result ∷ []) c.in_ok-auto.auto
    c.pop-2.new.self c.args.kept.now c.conjoin.new.kept c.in_ok-auto.ensures.ok
    (Holds-swap g c.args.shelf.now c.unwrap-a.result c.unwrap-b.result (c.pop-2.new.self ++ kept_autos c.args.kept.now) stands.rests.holds)
    stands.rests.kept_for in
    on_err _ c.from_residual-in_err-come.result
    (c.come.ensures.rests g formulas (formula_at formulas c.args.id.0) made
    (minimal-conjoined g formulas c.args.shelf.now c.conjoin.new.shelf c.args.id c.args.machine.now.tasks c.unwrap-a.result c.unwrap-b.result
    c.in_ok-auto.auto c.pop-2.new.self c.args.kept.now c.in_ok-auto.ensures.minimal going.stack going.out stands)
    (there-conjoin formulas c.args.id c.args.machine.now.tasks stands.named))

pub returns-clause-ok : goal.returns-clause-ok
returns-clause-ok c = λ stack out stood.
    let g = c.args.g.now in
    let formulas = c.args.interner.now in
    let tasks = c.args.machine.now.tasks in
    let popped = (rw c.unwrap-b.ensures at c.pop.ensures) ∙ ap (λ (xs : List AutoView). c.unwrap-b.result ∷ xs) (rw c.unwrap-a.ensures at c.pop-2.ensures) in
    let stands = subst (λ (xs : List AutoView). Stands g formulas
    (moment c.args.shelf.now (Task.Conjoin c.args.id ∷ tasks) xs c.args.kept.now) stack out) popped stood in
    let made = Rests-made g formulas c.args.shelf.now c.conjoin.new.shelf (c.unwrap-a.result ∷ c.unwrap-b.result ∷ []) c.in_ok-auto.auto
    c.pop-2.new.self c.args.kept.now c.conjoin.new.kept c.in_ok-auto.ensures.ok
    (Holds-swap g c.args.shelf.now c.unwrap-a.result c.unwrap-b.result (c.pop-2.new.self ++ kept_autos c.args.kept.now) stands.rests.holds)
    stands.rests.kept_for in
    let came = c.come.ensures.rests g formulas (formula_at formulas c.args.id.0) made
    (minimal-conjoined g formulas c.args.shelf.now c.conjoin.new.shelf c.args.id tasks c.unwrap-a.result c.unwrap-b.result
    c.in_ok-auto.auto c.pop-2.new.self c.args.kept.now c.in_ok-auto.ensures.minimal stack out stands)
    (there-conjoin formulas c.args.id tasks stands.named) in
    let rests = subst (λ (xs : List AutoView). Rests g formulas c.come.new.shelf xs c.come.new.kept) c.in_ok-come.ensures.ok came in
    subst (λ (xs : List AutoView). StandsOn g formulas (Task.Conjoin c.args.id ∷ tasks) stack
    (moment c.come.new.shelf c.come.new.machine.tasks xs c.come.new.kept) out) (sym c.in_ok-come.ensures.ok)
    (subst (λ (ts : List Task). StandsOn g formulas (Task.Conjoin c.args.id ∷ tasks) stack
    (moment c.come.new.shelf ts (c.in_ok-auto.auto ∷ c.pop-2.new.self) c.come.new.kept) out) (sym c.come.ensures.tasks)
    (StandsOn-conjoined g c.requires.guide formulas c.args.shelf.now c.conjoin.new.shelf c.come.new.shelf c.args.id c.in_ok-auto.auto c.pop-2.new.self
    c.args.kept.now c.conjoin.new.kept c.come.new.kept tasks rests (c.in_ok-come.ensures.tables g formulas made) c.unwrap-a.result c.unwrap-b.result
    c.in_ok-auto.ensures.ok c.in_ok-auto.ensures.minimal stack out stands))

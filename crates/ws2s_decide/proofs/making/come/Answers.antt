use Rattle.std.proofs.Common.{List, ◌∷◌, ◌++◌, sym, ◌∙◌, ap, subst}
use Rattle.bdd_nodes.specs.Shelf.{Contents, limit_of}
use Rattle.gta_theory.proofs.ListsLemmas.{Contains-first}
use Rattle.gta_core.specs.Auto.{AutoView}
use Rattle.gta_core.specs.Changes.{KeepsTable}
use Rattle.gta_keep.specs.Holding.{kept_autos}
use Rattle.ws2s_decide.specs.Going.{Rests}
use Rattle.gta_keep.proofs.HoldingLemmas.{Holds-registered}
use Rattle.ws2s_decide.proofs.RestsLemmas.{on_ok, Rests-taken, Rests-release}
use Rattle.ws2s_decide.proofs.making.come.Goals as goal

pub keep-keeping-requires : goal.keep-keeping-requires
keep-keeping-requires c = (c.requires.0, record { others = c.args.machine.now.automata; holds = c.requires.2.holds })

pub push-requires : goal.push-requires
push-requires c =
    let g = c.requires.0 in
    let autos = c.args.machine.now.automata in
    let rests = c.requires.2 in
    let auto = rests.holds.each c.args.auto (Contains-first c.args.auto (autos ++ kept_autos c.args.kept.now)) in
    let takes = c.keep-keeping.ensures g auto in
    Holds-registered g c.keep-keeping.new.shelf _ (takes.holds (c.args.auto ∷ autos) rests.holds) c.args.auto
    (Contains-first c.args.auto (autos ++ kept_autos c.keep-keeping.new.kept))

pub returns-in_err-push-clause-rests : goal.returns-in_err-push-clause-rests
returns-in_err-push-clause-rests c = λ g formulas f rests minimal there.
    let autos = c.args.machine.now.automata in
    let auto = rests.holds.each c.args.auto (Contains-first c.args.auto (autos ++ kept_autos c.args.kept.now)) in
    let takes = c.keep-keeping.ensures g auto in
    let kept = Rests-taken g formulas c.args.shelf.now c.keep-keeping.new.shelf c.args.id c.args.auto (c.args.auto ∷ autos) c.args.kept.now
    c.keep-keeping.new.kept f takes there minimal rests in
    subst (λ (xs : List AutoView). Rests g formulas c.push.new.shelf xs c.keep-keeping.new.kept) (sym c.in_err-push.ensures.err)
    (Rests-release g formulas c.keep-keeping.new.shelf c.push.new.shelf c.args.auto autos c.keep-keeping.new.kept kept
    c.in_err-push.ensures.shelf c.in_err-push.ensures.dropped)

pub returns-clause-tables : goal.returns-clause-tables
returns-clause-tables c = on_ok _ c.keep-keeping.result (λ g formulas rests a there.
    let autos = c.args.machine.now.automata in
    let auto = rests.holds.each c.args.auto (Contains-first c.args.auto (autos ++ kept_autos c.args.kept.now)) in
    let takes = c.keep-keeping.ensures g auto in
    subst (λ (now : Contents). KeepsTable c.args.shelf.now now a.table) (sym c.in_ok-push.ensures.same)
    (takes.others (c.args.auto ∷ autos) a rests.holds there))

pub returns-clause-rests : goal.returns-clause-rests
returns-clause-rests c = λ g formulas f rests minimal there.
    let autos = c.args.machine.now.automata in
    let auto = rests.holds.each c.args.auto (Contains-first c.args.auto (autos ++ kept_autos c.args.kept.now)) in
    let takes = c.keep-keeping.ensures g auto in
    let kept = Rests-taken g formulas c.args.shelf.now c.keep-keeping.new.shelf c.args.id c.args.auto (c.args.auto ∷ autos) c.args.kept.now
    c.keep-keeping.new.kept f takes there minimal rests in
    subst (λ (xs : List AutoView). Rests g formulas c.push.new.shelf xs c.keep-keeping.new.kept) (sym c.in_ok-push.ensures.ok)
    (subst (λ (now : Contents). Rests g formulas now (c.args.auto ∷ autos) c.keep-keeping.new.kept) (sym c.in_ok-push.ensures.same) kept)

pub returns-in_err-push-clause-same_limit : goal.returns-in_err-push-clause-same_limit
returns-in_err-push-clause-same_limit c =
    let rests = c.requires.2 in
    let auto = rests.holds.each c.args.auto (Contains-first c.args.auto (c.args.machine.now.automata ++ kept_autos c.args.kept.now)) in
    c.in_err-push.ensures.dropped.nodes.limit ∙ (c.keep-keeping.ensures c.requires.0 auto).limit

pub returns-clause-same_limit : goal.returns-clause-same_limit
returns-clause-same_limit c =
    let rests = c.requires.2 in
    let auto = rests.holds.each c.args.auto (Contains-first c.args.auto (c.args.machine.now.automata ++ kept_autos c.args.kept.now)) in
    ap (λ (now : Contents). limit_of now) c.in_ok-push.ensures.same ∙ (c.keep-keeping.ensures c.requires.0 auto).limit

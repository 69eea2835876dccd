-- Turn after turn the walk is at work.
use Rattle.std.proofs.Common.{◌≡◌, List, Some, refl, sym, ◌∙◌, subst}
use Rattle.std.specs.Prelude.{slice_index_or, Contains}
use Rattle.std.proofs.lemmas.List.{get_or_default}
use Rattle.std.proofs.lemmas.List.Elements.{All-contains}
use Rattle.std.proofs.lemmas.Option.{slice_get-get_or}
use Rattle.bdd_nodes.specs.declared.node_ref.NodeRef.{NodeRef}
use Rattle.bdd_nodes.specs.Shelf.{IsValid}
use Rattle.bdd_list.specs.declared.walk.Turn.{Turn}
use Rattle.bdd_list.specs.declared.walk.Turn.TheVariants.{Done}
use Rattle.bdd_list.specs.declared.walk.Frame.{Frame}
use Rattle.bdd_list.specs.Waits.{Work, Works, Lists}
use Rattle.bdd_list.proofs.WaitsLemmas.{works-start, lists-whole}
use Rattle.bdd_list.proofs.walk.list_from.Goals as goal

pub loop-turn-init : goal.loop-turn-init
loop-turn-init c =
    let roots = c.args.roots.now in
    let whole : NodeRef = slice_index_or roots c.args.index (record { word = 0 }) in
    let work : Work = record { shelf = c.args.shelf.now; roots = roots; before = c.args.nodes.now.items; whole = whole } in
    let there : Contains roots whole = (c.args.index, c.requires.inside, get_or_default roots c.args.index whole (record { word = 0 }) c.requires.inside) in
    works-start work c.args.nodes.now.items c.args.memo.now c.args.stack.now c.requires.shelf refl c.requires.none
    (All-contains (IsValid c.args.shelf.now) roots whole c.requires.valid there) there c.requires.list

pub returns-in-None-clause-lists : goal.returns-in-None-clause-lists
returns-in-None-clause-lists c = λ root there.
    let roots = c.args.roots.now in
    let whole : NodeRef = slice_index_or roots c.args.index (record { word = 0 }) in
    let work : Work = record { shelf = c.args.shelf.now; roots = roots; before = c.args.nodes.now.items; whole = whole } in
    let nodes = c.loop-turn.nodes.items in
    let works = subst (λ (turn : Turn). Works work nodes c.loop-turn.memo c.loop-turn.stack turn) c.in-Done.is c.loop-turn.invariant in
    let e : Some whole ≡ Some root = sym (slice_get-get_or roots c.args.index (record { word = 0 }) c.requires.inside) ∙ there in
    let is : whole ≡ root = cc in
    subst (λ (r : NodeRef). Lists c.args.shelf.now nodes r c.in-Done.listed) is
    (lists-whole work nodes c.loop-turn.memo c.loop-turn.stack c.in-Done.listed c.in-None.ensures.0 works)

pub loop-turn-preserved-in_ok-turn-in-Visit : goal.loop-turn-preserved-in_ok-turn-in-Visit
loop-turn-preserved-in_ok-turn-in-Visit c =
    let roots = c.args.roots.now in
    let whole : NodeRef = slice_index_or roots c.args.index (record { word = 0 }) in
    let work : Work = record { shelf = c.args.shelf.now; roots = roots; before = c.args.nodes.now.items; whole = whole } in
    let nodes = c.loop-turn.nodes.items in
    c.in_ok-turn-in-Visit.ensures.works work nodes refl
    (subst (λ (turn : Turn). Works work nodes c.loop-turn.memo c.loop-turn.stack turn) c.in-Visit.is c.loop-turn.invariant)

pub loop-turn-preserved : goal.loop-turn-preserved
loop-turn-preserved c =
    let roots = c.args.roots.now in
    let whole : NodeRef = slice_index_or roots c.args.index (record { word = 0 }) in
    let work : Work = record { shelf = c.args.shelf.now; roots = roots; before = c.args.nodes.now.items; whole = whole } in
    let nodes = c.loop-turn.nodes.items in
    c.in_ok-turn-in-Some.ensures.works work
    (subst (λ (stack : List Frame). Works work nodes c.loop-turn.memo stack (Done c.in-Done.listed)) c.in-Some.ensures
    (subst (λ (turn : Turn). Works work nodes c.loop-turn.memo c.loop-turn.stack turn) c.in-Done.is c.loop-turn.invariant))

use Rattle.std.proofs.Common.{◌≡◌, ◌∷◌, ◌+◌, ◌++◌, ◌<◌, ◌∙◌, [], map, drop, refl, sym, ap, subst, List}
use Rattle.std.specs.List.{AllByRecursion}
use Rattle.std.specs.FinMap.{keys}
use Rattle.std.proofs.lemmas.Bool.{false≢true}
use Rattle.store_core.specs.declared.ids.CellId.{CellId}
use Rattle.store_sat.specs.Tasks.{sets, joined, surround_of, spot_of}
use Rattle.store_sat.specs.Steps.{StayRising, with_frame}
use Rattle.store_sat.proofs.StepLemmas.{steps_as}
use Rattle.store_sat.proofs.NextLemmas.{drop-some, sets_skip, sets_take}
use Rattle.store_sat.proofs.judge.Judge.next_set.Goals as goal

pub push-requires : goal.push-requires
push-requires c =
    let s = c.args.self.now.store.now in
    let next : drop c.args.place (keys s.cells) ≡ c.in-Some.cell.0 ∷ drop (c.args.place + 1) (keys s.cells) =
    drop-some (keys s.cells) c.args.place c.in-Some.cell (sym c.in-Some.ensures) in
    let rising : StayRising c.args.chosen (c.in-Some.cell.0 ∷ drop (c.args.place + 1) (keys s.cells)) = subst (StayRising c.args.chosen) next c.requires.0 in
    subst (AllByRecursion (λ (d : CellId). d.0 < c.in-Some.cell.0)) (sym c.in_ok-with.ensures) rising.0

pub returns-then-not-is_of_type : goal.returns-then-not-is_of_type
returns-then-not-is_of_type c =
    let types = c.args.self.now.types.now in
    let s = c.args.self.now.store.now in
    let spot = spot_of s c.args.spine.now in
    let q = c.args.quantifier in
    let next : drop c.args.place (keys s.cells) ≡ c.in-Some.cell.0 ∷ drop (c.args.place + 1) (keys s.cells) =
    drop-some (keys s.cells) c.args.place c.in-Some.cell (sym c.in-Some.ensures) in
    steps_as types s spot spot spot _ _ _ _ (ap (sets q.some q.ty q.body.now c.args.chosen) next) refl refl
    (sets_skip types s spot c.requires.1 q.ty q.body.now c.args.chosen c.in-Some.cell.0 (drop (c.args.place + 1) (keys s.cells))
    (subst (StayRising c.args.chosen) next c.requires.0) q.some
    (λ of. false≢true (sym c.if-not-is_of_type.true ∙ c.is_of_type.ensures.1 of)))

pub returns : goal.returns
returns c =
    let types = c.args.self.now.types.now in
    let s = c.args.self.now.store.now in
    let spot = spot_of s c.args.spine.now in
    let q = c.args.quantifier in
    let left = drop (c.args.place + 1) (keys s.cells) in
    let next : drop c.args.place (keys s.cells) ≡ c.in-Some.cell.0 ∷ drop (c.args.place + 1) (keys s.cells) =
    drop-some (keys s.cells) c.args.place c.in-Some.cell (sym c.in-Some.ensures) in
    steps_as types s spot _ _ _ _ _ _ (ap (sets q.some q.ty q.body.now c.args.chosen) next)
    ((λ i. record { frames = map (surround_of s) (c.in_ok-push-2.ensures.ok i); bound = c.args.spine.now.bound })
    ∙ (λ i. with_frame (joined (c.join.ensures i) (sets q.some q.ty q.body.now
    ((c.in_ok-push.ensures.ok ∙ ap (λ (cs : List CellId). cs ++ c.in-Some.cell ∷ []) c.in_ok-with.ensures) i) left)) spot))
    refl
    (sets_take types s spot c.requires.1 q.ty q.body.now c.args.chosen c.in-Some.cell.0 left
    (subst (StayRising c.args.chosen) next c.requires.0) q.some (c.is_of_type.ensures.0 c.if-not-is_of_type.false))

use Rattle.std.proofs.Common.{◌≡◌, ◌∷◌, ◌+◌, ◌∙◌, [], Some, map, drop, refl, sym, ap, arith}
use Rattle.std.specs.FinMap.{keys}
use Rattle.std.proofs.lemmas.Bool.{false≢true}
use Rattle.store_core.specs.declared.value.Value.TheVariants as value
use Rattle.store_sat.specs.declared.task.Join.{Join}
use Rattle.store_sat.specs.Tasks.{cells, joined, cells_from, surround_of, spot_of}
use Rattle.store_sat.specs.Steps.{with_frame, inside}
use Rattle.store_sat.proofs.StepLemmas.{steps_as}
use Rattle.store_sat.proofs.NextLemmas.{drop-past, drop-some, cells_none, cells_skip, cells_take}
use Rattle.store_sat.proofs.judge.Judge.next_cell.Goals as goal

pub returns-then-place-count : goal.returns-then-place-count
returns-then-place-count c =
    let types = c.args.self.now.types.now in
    let s = c.args.self.now.store.now in
    let spot = spot_of s c.args.spine.now in
    let q = c.args.quantifier in
    let none : drop c.args.place (keys s.cells) ≡ [] = drop-past (keys s.cells) c.args.place (omega (arith, c.if-place-count.true, c.cells-count.ensures)) in
    steps_as types s spot spot spot _ _ _ _ (ap (cells q.some q.ty q.body.now) none) refl refl (cells_none types s spot c.requires.1 q.ty q.body.now q.some)

pub returns-then-not-is_of_type : goal.returns-then-not-is_of_type
returns-then-not-is_of_type c =
    let types = c.args.self.now.types.now in
    let s = c.args.self.now.store.now in
    let spot = spot_of s c.args.spine.now in
    let q = c.args.quantifier in
    let next : drop c.args.place (keys s.cells) ≡ c.in-Some.cell.0 ∷ drop (c.args.place + 1) (keys s.cells) =
    drop-some (keys s.cells) c.args.place c.in-Some.cell (sym c.in-Some.ensures) in
    steps_as types s spot spot spot _ _ _ _ (ap (cells q.some q.ty q.body.now) next) refl refl
    (cells_skip types s spot c.requires.1 q.ty q.body.now c.in-Some.cell.0 (drop (c.args.place + 1) (keys s.cells)) q.some
    (λ of. false≢true (sym c.if-not-is_of_type.true ∙ c.is_of_type.ensures.1 of)))

pub returns : goal.returns
returns c =
    let types = c.args.self.now.types.now in
    let s = c.args.self.now.store.now in
    let spot = spot_of s c.args.spine.now in
    let q = c.args.quantifier in
    let next : drop c.args.place (keys s.cells) ≡ c.in-Some.cell.0 ∷ drop (c.args.place + 1) (keys s.cells) =
    drop-some (keys s.cells) c.args.place c.in-Some.cell (sym c.in-Some.ensures) in
    let others = cells_from s q (c.args.place + 1) in
    steps_as types s spot _ _ _ _ _ _ (ap (cells q.some q.ty q.body.now) next)
    (c.in_ok-body.ensures.spot
    ∙ ap (inside (value.Cell (Some c.in-Some.cell))) ((λ i. record { frames = map (surround_of s) (c.in_ok-push.ensures.ok i); bound = c.args.spine.now.bound })
    ∙ ap (λ (j : Join). with_frame (joined j others) spot) c.join.ensures))
    c.in_ok-body.ensures.body
    (cells_take types s spot c.requires.1 q.ty q.body.now c.in-Some.cell.0 (drop (c.args.place + 1) (keys s.cells)) q.some
    (c.is_of_type.ensures.0 c.if-not-is_of_type.false))

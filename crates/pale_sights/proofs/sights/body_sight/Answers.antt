use Rattle.std.proofs.Common.{true, [], ◌++◌, refl, ap}
use Rattle.store_core.specs.Tables.{var_names}
use Rattle.pale_terms.specs.Scopes.{visible_names}
use Rattle.pale_sights.proofs.SightLemmas.{show-distinct, names-next, body-one, body-two, body-three}
use Rattle.pale_sights.proofs.sights.body_sight.Goals as goal

pub show-requires : goal.show-requires
show-requires c =
    let h = c.args.heading.now in
    show-distinct [] h.params c.as_slice.result.now c.new-scope.result (ap visible_names c.new-scope.ensures) c.as_slice.ensures
    (body-one h c.args.locals.now c.requires)

pub show-requires-2 : goal.show-requires-2
show-requires-2 c =
    let h = c.args.heading.now in
    let first = names-next true 0 [] h.params c.as_slice.result.now c.new-scope.result c.show.new.scope (ap visible_names c.new-scope.ensures)
    c.as_slice.ensures c.in_ok-show.ensures in
    show-distinct (var_names h.params) h.results c.as_slice-2.result.now c.show.new.scope first c.as_slice-2.ensures (body-two h c.args.locals.now c.requires)

pub show-requires-3 : goal.show-requires-3
show-requires-3 c =
    let h = c.args.heading.now in
    let locals = c.args.locals.now in
    let first = names-next true 0 [] h.params c.as_slice.result.now c.new-scope.result c.show.new.scope (ap visible_names c.new-scope.ensures)
    c.as_slice.ensures c.in_ok-show.ensures in
    let second = names-next true c.len-first_result.result (var_names h.params) h.results c.as_slice-2.result.now c.show.new.scope c.show-2.new.scope first
    c.as_slice-2.ensures c.in_ok-show-2.ensures in
    show-distinct (var_names h.params ++ var_names h.results) locals locals c.show-2.new.scope second refl (body-three h locals c.requires)

pub show-requires-4 : goal.show-requires-4
show-requires-4 c =
    let h = c.args.heading.now in
    let locals = c.args.locals.now in
    let first = names-next true 0 [] h.params c.as_slice.result.now c.new-scope.result c.show.new.scope (ap visible_names c.new-scope.ensures)
    c.as_slice.ensures c.in_ok-show.ensures in
    let second = names-next true c.len-first_result.result (var_names h.params) h.results c.as_slice-2.result.now c.show.new.scope c.show-2.new.scope first
    c.as_slice-2.ensures c.in_ok-show-2.ensures in
    let third = names-next true _ (var_names h.params ++ var_names h.results) locals locals c.show-2.new.scope c.show-3.new.scope second refl
    c.in_ok-show-3.ensures in
    show-distinct (var_names h.params ++ var_names h.results ++ var_names locals) h.logics c.as_slice-3.result.now c.show-3.new.scope third
    c.as_slice-3.ensures c.requires

use Rattle.std.proofs.Common.{[], ◌++◌, refl, ap}
use Rattle.store_core.specs.Tables.{var_names}
use Rattle.pale_sights.proofs.SightLemmas.{add-distinct, added-names, body-one, body-two, body-three}
use Rattle.pale_sights.proofs.sights.table_of.Goals as goal

pub add_all-requires : goal.add_all-requires
add_all-requires c =
    let h = c.args.heading.now in
    add-distinct [] h.params c.as_slice.result.now c.new-vars.result (ap var_names c.new-vars.ensures) c.as_slice.ensures
    (body-one h c.args.locals.now c.requires)

pub add_all-requires-2 : goal.add_all-requires-2
add_all-requires-2 c =
    let h = c.args.heading.now in
    let first = added-names [] h.params c.as_slice.result.now c.new-vars.result c.add_all.new.vars (ap var_names c.new-vars.ensures) c.as_slice.ensures
    c.in_ok-add_all.ensures in
    add-distinct (var_names h.params) h.results c.as_slice-2.result.now c.add_all.new.vars first c.as_slice-2.ensures (body-two h c.args.locals.now c.requires)

pub add_all-requires-3 : goal.add_all-requires-3
add_all-requires-3 c =
    let h = c.args.heading.now in
    let first = added-names [] h.params c.as_slice.result.now c.new-vars.result c.add_all.new.vars (ap var_names c.new-vars.ensures) c.as_slice.ensures
    c.in_ok-add_all.ensures in
    let second = added-names (var_names h.params) h.results c.as_slice-2.result.now c.add_all.new.vars c.add_all-2.new.vars first c.as_slice-2.ensures
    c.in_ok-add_all-2.ensures in
    add-distinct (var_names h.params ++ var_names h.results) c.args.locals.now c.args.locals.now c.add_all-2.new.vars second refl
    (body-three h c.args.locals.now c.requires)

pub add_all-requires-4 : goal.add_all-requires-4
add_all-requires-4 c =
    let h = c.args.heading.now in
    let first = added-names [] h.params c.as_slice.result.now c.new-vars.result c.add_all.new.vars (ap var_names c.new-vars.ensures) c.as_slice.ensures
    c.in_ok-add_all.ensures in
    let second = added-names (var_names h.params) h.results c.as_slice-2.result.now c.add_all.new.vars c.add_all-2.new.vars first c.as_slice-2.ensures
    c.in_ok-add_all-2.ensures in
    let third = added-names (var_names h.params ++ var_names h.results) c.args.locals.now c.args.locals.now c.add_all-2.new.vars c.add_all-3.new.vars
    second refl c.in_ok-add_all-3.ensures in
    add-distinct (var_names h.params ++ var_names h.results ++ var_names c.args.locals.now) h.logics c.as_slice-3.result.now c.add_all-3.new.vars third
    c.as_slice-3.ensures c.requires

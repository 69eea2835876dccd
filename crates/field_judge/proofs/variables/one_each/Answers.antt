use Rattle.std.proofs.Common.{◌∙◌, ap, arith}
use Rattle.std.specs.Option.{option_map}
use Rattle.std.proofs.lemmas.Option.{same_Some}
use Rattle.store_core.specs.Tables.{TypeEntry}
use Rattle.field_judge.proofs.OneEachLemmas.{type-there, name-new, has-room, type_vars-next, type_vars-all}
use Rattle.field_judge.proofs.variables.one_each.Goals as goal

pub add-requires-clause-new : goal.add-requires-clause-new
add-requires-clause-new c =
    let types = c.args.types.now in
    let i = c.loop-index.index in
    let (t, at) = type-there types i (omega (arith, c.loop-index-test.true, c.types-index-end.ensures.value)) in
    name-new types i t c.in-Some.name.now c.loop-index.vars c.types-index-end.ensures.inside at
    (same_Some c.in-Some.name.now t.name (c.in-Some.ensures ∙ ap (option_map (λ (e : TypeEntry). e.name)) at)) c.loop-index.invariant

pub add-requires-clause-room : goal.add-requires-clause-room
add-requires-clause-room c =
    let types = c.args.types.now in
    let i = c.loop-index.index in
    let (t, at) = type-there types i (omega (arith, c.loop-index-test.true, c.types-index-end.ensures.value)) in
    has-room types i t c.loop-index.vars c.types-index-end.ensures.inside at c.loop-index.invariant

pub loop-index-preserved : goal.loop-index-preserved
loop-index-preserved c =
    let types = c.args.types.now in
    let i = c.loop-index.index in
    let (t, at) = type-there types i (omega (arith, c.loop-index-test.true, c.types-index-end.ensures.value)) in
    type_vars-next types i t c.in-Some.name.now c.loop-index.vars c.add.new.self at
    (same_Some c.in-Some.name.now t.name (c.in-Some.ensures ∙ ap (option_map (λ (e : TypeEntry). e.name)) at)) c.loop-index.invariant
    c.in_ok-add.ensures.added

pub returns : goal.returns
returns c =
    type_vars-all c.args.types.now c.loop-index.index c.loop-index.vars (omega (arith, c.loop-index-test.false, c.types-index-end.ensures.value))
    c.loop-index.invariant

use Rattle.std.proofs.Common.{◌≡◌, ◌∙◌, ◌+◌, ◌<◌, ◌≤◌, ◌++◌, ◌∷◌, [], ℕ, List, length, get_or, refl, ap, subst, sym, arith}
use Rattle.std.proofs.lemmas.List.{get_or_default}
use Rattle.bdd_nodes.specs.Shelf.{limit_of}
use Rattle.store_core.specs.declared.ids.FieldId.{FieldId}
use Rattle.store_core.specs.Tables.{TypeEntry}
use Rattle.program_judge.specs.declared.ways.FieldWay.{FieldWay}
use Rattle.program_judge.specs.Reports.{ReportsField, pointer_fields}
use Rattle.pale_status.specs.Written.{Wrote, WroteAtMost}
use Rattle.pale_status.proofs.WrittenLemmas.{on_err}
use Rattle.pale_judging.proofs.CheckingLemmas.{FieldsWrote, fields_start, fields_next, fields_begin, field_begins, fields_whole}
use Rattle.pale_judging.proofs.check_parts.check_fields.Goals as goal

pub loop-f-init : goal.loop-f-init
loop-f-init g c =
    let a = g.K.Sink.written c.args.sink.now in
    let limit = limit_of c.args.shelf.now in
    let program = c.args.whole.now.typed in
    record {
      so_far = subst (λ (ways : List FieldWay). FieldsWrote limit program.types a 0 a ways) (sym c.new-ways.ensures.items)
          (fields_start limit program.types a);
      tables = c.requires;
      same_limit = refl;
      kept = omega arith;
    }

-- nothing was written yet
pub returns-in_err-fields-clause-err : goal.returns-in_err-fields-clause-err
returns-in_err-fields-clause-err g c =
    let a = g.K.Sink.written c.args.sink.now in
    let limit = limit_of c.args.shelf.now in
    let types = c.args.whole.now.typed.types in
    on_err c.from_residual.result (fields_begin limit types a 0 a [] (fields_start limit types a))

pub returns-in_err-way-clause-err : goal.returns-in_err-way-clause-err
returns-in_err-way-clause-err g c =
    let a = g.K.Sink.written c.args.sink.now in
    let b = g.K.Sink.written c.loop-f.sink in
    let limit = limit_of c.args.shelf.now in
    let program = c.args.whole.now.typed in
    let fs = pointer_fields program.types in
    let i = c.loop-f.f-index in
    let ways = c.loop-f.ways.items in
    let items = c.as_slice-f-items.result.now in
    let listed : items ≡ fs = c.as_slice-f-items.ensures.value ∙ (c.in_ok-fields.ensures ∙ ap pointer_fields c.types-types.ensures) in
    let none : FieldId = record { ty = record { 0 = 0 }; index = 0 } in
    let f = get_or items i none in
    let within : i < length items = c.loop-f-test.true in
    let inside : i < length fs = subst (λ (gs : List FieldId). i < length gs) listed within in
    let is : f ≡ get_or fs i f = subst (λ (gs : List FieldId). f ≡ get_or gs i f) listed (get_or_default items i none f within) in
    let d = g.K.Sink.written c.check_field.new.sink in
    let here = subst (λ (ts : List TypeEntry). WroteAtMost (ReportsField (limit_of c.loop-f.shelf) ts f) b d) c.types-types.ensures
    c.in_err-way.ensures.err in
    let err = subst (λ (l : ℕ). WroteAtMost (ReportsField l program.types f) b d) c.loop-f.invariant.same_limit here in
    on_err c.from_residual-in_err-way.result
    (field_begins limit program.types a i f b d ways inside is c.loop-f.invariant.so_far err)

pub returns-in_err-push_way-clause-err : goal.returns-in_err-push_way-clause-err
returns-in_err-push_way-clause-err g c =
    let a = g.K.Sink.written c.args.sink.now in
    let b = g.K.Sink.written c.loop-f.sink in
    let limit = limit_of c.args.shelf.now in
    let program = c.args.whole.now.typed in
    let fs = pointer_fields program.types in
    let i = c.loop-f.f-index in
    let ways = c.loop-f.ways.items in
    let items = c.as_slice-f-items.result.now in
    let listed : items ≡ fs = c.as_slice-f-items.ensures.value ∙ (c.in_ok-fields.ensures ∙ ap pointer_fields c.types-types.ensures) in
    let none : FieldId = record { ty = record { 0 = 0 }; index = 0 } in
    let f = get_or items i none in
    let within : i < length items = c.loop-f-test.true in
    let inside : i < length fs = subst (λ (gs : List FieldId). i < length gs) listed within in
    let is : f ≡ get_or fs i f = subst (λ (gs : List FieldId). f ≡ get_or gs i f) listed (get_or_default items i none f within) in
    let d = g.K.Sink.written c.check_field.new.sink in
    let here = subst (λ (ts : List TypeEntry). Wrote (ReportsField (limit_of c.loop-f.shelf) ts f) b d c.in_ok-way.way) c.types-types.ensures
    c.in_ok-way.ensures.ok in
    let ok = subst (λ (l : ℕ). Wrote (ReportsField l program.types f) b d c.in_ok-way.way) c.loop-f.invariant.same_limit here in
    let next = fields_next limit program.types a i f b d ways c.in_ok-way.way inside is
    c.loop-f.invariant.so_far ok in
    on_err c.from_residual-in_err-push_way.result
    (fields_begin limit program.types a (i + 1) d (ways ++ c.in_ok-way.way ∷ []) next)

pub loop-f-preserved : goal.loop-f-preserved
loop-f-preserved g c =
    let a = g.K.Sink.written c.args.sink.now in
    let b = g.K.Sink.written c.loop-f.sink in
    let limit = limit_of c.args.shelf.now in
    let program = c.args.whole.now.typed in
    let fs = pointer_fields program.types in
    let i = c.loop-f.f-index in
    let ways = c.loop-f.ways.items in
    let items = c.as_slice-f-items.result.now in
    let listed : items ≡ fs = c.as_slice-f-items.ensures.value ∙ (c.in_ok-fields.ensures ∙ ap pointer_fields c.types-types.ensures) in
    let none : FieldId = record { ty = record { 0 = 0 }; index = 0 } in
    let f = get_or items i none in
    let within : i < length items = c.loop-f-test.true in
    let inside : i < length fs = subst (λ (gs : List FieldId). i < length gs) listed within in
    let is : f ≡ get_or fs i f = subst (λ (gs : List FieldId). f ≡ get_or gs i f) listed (get_or_default items i none f within) in
    let d = g.K.Sink.written c.check_field.new.sink in
    let here = subst (λ (ts : List TypeEntry). Wrote (ReportsField (limit_of c.loop-f.shelf) ts f) b d c.in_ok-way.way) c.types-types.ensures
    c.in_ok-way.ensures.ok in
    let ok = subst (λ (l : ℕ). Wrote (ReportsField l program.types f) b d c.in_ok-way.way) c.loop-f.invariant.same_limit here in
    let next = fields_next limit program.types a i f b d ways c.in_ok-way.way inside is
    c.loop-f.invariant.so_far ok in
    record {
      so_far = subst (λ (ws : List FieldWay). FieldsWrote limit program.types a (i + 1) d ws) (sym c.in_ok-push_way.ensures) next;
      tables = c.in_ok-way.ensures.tables;
      same_limit = c.in_ok-way.ensures.same_limit ∙ c.loop-f.invariant.same_limit;
      kept = omega (arith, c.loop-f.invariant.kept, c.in_ok-way.ensures.kept);
    }

pub returns-clause-ok : goal.returns-clause-ok
returns-clause-ok g c =
    let a = g.K.Sink.written c.args.sink.now in
    let b = g.K.Sink.written c.loop-f.sink in
    let limit = limit_of c.args.shelf.now in
    let program = c.args.whole.now.typed in
    let fs = pointer_fields program.types in
    let i = c.loop-f.f-index in
    let ways = c.loop-f.ways.items in
    let items = c.as_slice-f-items.result.now in
    let listed : items ≡ fs = c.as_slice-f-items.ensures.value ∙ (c.in_ok-fields.ensures ∙ ap pointer_fields c.types-types.ensures) in
    let all : length fs ≤ i = subst (λ (gs : List FieldId). length gs ≤ i) listed (omega (arith, c.loop-f-test.false)) in
    fields_whole limit program.types a i b ways all c.loop-f.invariant.so_far

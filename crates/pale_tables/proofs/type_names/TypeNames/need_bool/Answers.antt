use Rattle.std.proofs.Common.{◌∙◌, ap}
use Rattle.pale_tables.specs.Routes.{is_field, is_among}
use Rattle.pale_tables.proofs.FaultLemmas.{stop_returned, stop_same}
use Rattle.pale_tables.proofs.NamesLemmas.{bool-first, bool-second}
use Rattle.pale_tables.proofs.type_names.TypeNames.need_bool.Goals as goal

pub returns-in_err-need-clause-stop : goal.returns-in_err-need-clause-stop
returns-in_err-need-clause-stop c =
    let e = c.in_err-need.field-0.0 in
    stop_returned _ c.from_residual.result e c.from_residual.ensures.1
    (bool-first c.args.self.now c.args.f.now _ e (c.has_field-any.ensures ∙ ap (is_field c.args.self.now) c.as_slice-name.ensures)
    c.in_err-need.ensures.stop)

pub returns-clause-stop : goal.returns-clause-stop
returns-clause-stop c =
    stop_same _ _ c.need-2.result
    (λ e is. bool-second c.args.self.now c.args.f.now _ _ e
    (c.has_field-any.ensures ∙ ap (is_field c.args.self.now) c.as_slice-name.ensures) c.in_ok-need.ensures.met
    (c.has_bool.ensures ∙ ap (is_among c.args.self.now.bool_fields) c.as_slice-name.ensures) is)
    c.need-2.ensures.stop

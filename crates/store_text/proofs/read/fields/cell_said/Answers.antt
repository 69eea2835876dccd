use Rattle.std.proofs.Common.{None, map, ap, ◌∙◌, sym}
use Rattle.store_core.specs.Tables.{type_named, fields_of}
use Rattle.store_text.specs.Saying.{say_fields, cell_said}
use Rattle.store_text.proofs.SayingLemmas.{stop_of, cell_said-stop}
use Rattle.store_text.proofs.read.fields.cell_said.Goals as goal

pub returns-in_err-values-clause-stop : goal.returns-in_err-values-clause-stop
returns-in_err-values-clause-stop c =
    let types = c.args.types.now in
    let cell = c.args.cell.now in
    let v = c.in_ok-variant.variant in
    stop_of c.from_residual-in_err-values.result c.in_err-values.field-0.0 (cell_said types c.args.line cell) c.from_residual-in_err-values.ensures.1
    (λ n. cell_said-stop types c.args.line cell c.in-Some.ty v c.in_err-values.field-0.0
    (ap (type_named types) (sym c.as_slice.ensures) ∙ sym c.in-Some.ensures) (sym c.in_ok-variant.ensures.value)
    (ap (say_fields types v (map (λ f. None) (fields_of types v.ty))) (sym c.as_slice-2.ensures) ∙ c.in_err-values.ensures.stop n))

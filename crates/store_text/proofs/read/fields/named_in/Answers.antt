use Rattle.std.proofs.Common.{◌<◌, ◌++◌, length, drop, Err, ap, ◌∙◌, sym, arith}
use Rattle.std.specs.Option.{option_map}
use Rattle.std.proofs.lemmas.List.{drop_all}
use Rattle.store_text.specs.declared.fault.StoreKind.TheVariants.{Missing}
use Rattle.store_core.specs.Tables.{fields_of}
use Rattle.store_text.specs.Saying.{or_fault, named_in}
use Rattle.store_text.proofs.SayingLemmas.{stop_of, named_in-more, named_in-none, named_in-end}
use Rattle.store_text.proofs.read.fields.named_in.Goals as goal

pub returns-in_err-note_field-clause-stop : goal.returns-in_err-note_field-clause-stop
returns-in_err-note_field-clause-stop c =
    let fields = fields_of c.args.types.now c.args.v.ty in
    let within : c.loop-index.index < length fields = omega (arith, c.loop-index-test.true, c.fields-index-end.ensures) in
    let there : c.loop-index.index < length c.args.values.now = omega (arith, within, c.requires.each) in
    stop_of c.from_residual.result c.in_err-note_field.field-0.0
    (or_fault Missing (named_in c.args.line c.args.v.index fields c.args.values.now)) c.from_residual.ensures.1
    (λ n.
    let why = c.in_err-note_field.ensures.stop n in
    ap (or_fault Missing) (sym c.loop-index.invariant ∙ ap (option_map (λ more. c.loop-index.named ++ more))
    (named_in-none c.args.line c.args.v.index fields c.args.values.now c.loop-index.index c.index-values-index.result within
    there c.index-values-index.is why.1))
    ∙ ap Err (sym why.0))

pub loop-index-preserved : goal.loop-index-preserved
loop-index-preserved c =
    let fields = fields_of c.args.types.now c.args.v.ty in
    let within : c.loop-index.index < length fields = omega (arith, c.loop-index-test.true, c.fields-index-end.ensures) in
    let there : c.loop-index.index < length c.args.values.now = omega (arith, within, c.requires.each) in
    named_in-more c.args.line c.args.v.index fields c.args.values.now c.loop-index.index c.index-values-index.result within there c.index-values-index.is
    c.loop-index.named c.note_field.new.named c.in_ok-note_field.ensures.named
    ∙ c.loop-index.invariant

pub returns-clause-named : goal.returns-clause-named
returns-clause-named c =
    let fields = fields_of c.args.types.now c.args.v.ty in
    ap (or_fault Missing)
    (sym c.loop-index.invariant
    ∙ named_in-end c.args.line c.args.v.index (drop c.loop-index.index fields) (drop c.loop-index.index c.args.values.now) c.loop-index.named
    (drop_all c.loop-index.index fields (omega (arith, c.loop-index-test.false, c.fields-index-end.ensures))))
